-- The pass knows the log of the book.
use Rattle.std.proofs.Common.{refl, sym, ◌∙◌, subst}
use Rattle.mark_core.specs.Marks.{IsPrefix}
use Rattle.mark_words.specs.Tokens.{log_of}
use Rattle.live_sheet.proofs.AcceptedLemmas.{accepted_still, same_accepted}
use Rattle.live_sheet.proofs.PassEdits.{learned_itself}
use Rattle.live_sheet.proofs.locked.Locked.tell.Goals as goal

pub returns-clause-told : goal.returns-clause-told
returns-clause-told g c =
    let pass = c.args.pass.now in
    let log = c.learn.ensures.learned.log ∙ c.args.self.now.seat.log_is in
    let goes_on = subst (λ l. IsPrefix (log_of pass.seat) l) (sym log) c.requires.behind in
    record {
      goes_on = goes_on;
      log_is = log;
      kept = record { client = refl; numbers = refl; hand = refl };
      accepted = same_accepted pass.client (log_of pass.seat) (log_of c.learn.new.seat) pass.numbers.items goes_on pass.accepted.each;
      met = learned_itself pass.seat c.args.self.now.editor c.learn.new.seat c.learn.ensures.learned;
    }

pub invariant_of-pass-clause-accepted : goal.invariant_of-pass-clause-accepted
invariant_of-pass-clause-accepted g c =
    let pass = c.args.pass.now in
    let log = c.learn.ensures.learned.log ∙ c.args.self.now.seat.log_is in
    accepted_still pass.client (log_of pass.seat) (log_of c.learn.new.seat) pass.numbers.items
    (subst (λ l. IsPrefix (log_of pass.seat) l) (sym log) c.requires.behind) pass.accepted
