-- The entry is the last of the log that the pass knows, and its number the last of the pass's.
use Rattle.std.proofs.Common.{◌≡◌, List, [], ◌∷◌, ◌++◌, length, refl, ◌∙◌, ap, arith, length-append}
use Rattle.sheet_model.specs.declared.entry.Entry.{Entry}
use Rattle.mark_words.specs.Tokens.{log_of}
use Rattle.edit_log.specs.Books.{client_entry}
use Rattle.live_sheet.proofs.PassEdits.{accepted_now, list_now, learned_itself}
use Rattle.live_sheet.proofs.locked.Locked.make.Goals as goal

pub invariant_of-pass-clause-accepted : goal.invariant_of-pass-clause-accepted
invariant_of-pass-clause-accepted g c =
    let pass = c.args.pass.now in
    let book = c.args.self.now.book in
    let entry = c.args.prepared.entry in
    let new_is : log_of c.learn.new.seat ≡ book.log ++ entry ∷ [] =
    c.learn.ensures.learned.log ∙ c.enter-applied.ensures.entered.log ∙ ap (λ (l : List Entry). l ++ entry ∷ []) c.args.self.now.seat.log_is in
    accepted_now pass.client (log_of pass.seat) book.log (log_of c.learn.new.seat) pass.numbers.items
    c.push_reserved.new.self.items entry (client_entry pass.client entry.edit) c.enter-applied.result.number
    c.requires.behind pass.accepted c.requires.entry refl new_is (c.enter-applied.ensures.number ∙ c.requires.prepared.number) c.push_reserved.ensures.items

pub returns-clause-committed : goal.returns-clause-committed
returns-clause-committed g c =
    let pass = c.args.pass.now in
    let book = c.args.self.now.book in
    let entry = c.args.prepared.entry in
    let new_is : log_of c.learn.new.seat ≡ book.log ++ entry ∷ [] =
    c.learn.ensures.learned.log ∙ c.enter-applied.ensures.entered.log ∙ ap (λ (l : List Entry). l ++ entry ∷ []) c.args.self.now.seat.log_is in
    let numbers : c.push_reserved.new.self.items ≡ pass.numbers.items ++ c.args.prepared.number ∷ [] =
    c.push_reserved.ensures.items ∙ ap (λ n. pass.numbers.items ++ n ∷ []) c.enter-applied.ensures.number in
    record {
      whose = refl;
      goes_on = c.requires.behind;
      counted = c.requires.prepared.number;
      log = new_is ∙ ap (λ (e : Entry). book.log ++ e ∷ []) c.requires.entry;
      later = omega (arith, c.requires.seen, c.requires.prepared.number);
      seen = omega (arith, c.learn.ensures.learned.known_seen, ap length new_is, length-append book.log (entry ∷ []), c.requires.prepared.number);
      numbers = numbers;
      accepted = list_now pass.client (log_of pass.seat) book.log (log_of c.learn.new.seat) pass.numbers.items
          c.push_reserved.new.self.items entry (client_entry pass.client entry.edit) c.args.prepared.number
          c.requires.behind pass.accepted c.requires.entry refl new_is c.requires.prepared.number numbers;
      met = learned_itself pass.seat c.enter-applied.new.editor c.learn.new.seat c.learn.ensures.learned;
    }
