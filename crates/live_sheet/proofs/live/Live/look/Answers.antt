-- The pass keeps what it had: its seat has read and nothing else.
use Rattle.std.proofs.Common.{Some, refl, sym, ◌∙◌, ap, subst}
use Rattle.sheet_model.specs.Sheets.{SheetValue}
use Rattle.sheet_refs.specs.declared.sizes.Sizes.{Sizes}
use Rattle.live_sheet.specs.Looks.{HasLooked}
use Rattle.live_sheet.specs.Accepted.{accepted_in, AreAccepted}
use Rattle.live_sheet.proofs.LookLemmas.{look_keeps_log, look_keeps_holds}
use Rattle.live_sheet.proofs.live.Live.look.Goals as goal

pub invariant_of-pass-clause-belongs : goal.invariant_of-pass-clause-belongs
invariant_of-pass-clause-belongs g c =
    let live = c.args.self.now in
    let same = c.look_at.ensures.same in
    record {
      belongs = record { table = same.same_table ∙ live.words; about = same.same_subject ∙ ap (λ (s : SheetValue). Some s) live.subject };
      free = look_keeps_holds _ _ c.args.pass.now.seat c.look_at.new.seat c.look_at.new.board c.look_at.ensures.looked ∙ c.args.pass.now.belongs.free;
    }

pub invariant_of-pass-clause-accepted : goal.invariant_of-pass-clause-accepted
invariant_of-pass-clause-accepted g c =
    let pass = c.args.pass.now in
    subst (λ l. AreAccepted pass.client l pass.numbers.items)
    (sym (look_keeps_log _ _ pass.seat c.look_at.new.seat c.look_at.new.board c.look_at.ensures.looked))
    pass.accepted

pub returns-clause-looked : goal.returns-clause-looked
returns-clause-looked g c =
    let looked = c.look_at.ensures.looked in
    record {
      looked =
          subst (λ (sizes : Sizes). HasLooked sizes c.args.window c.args.pass.now.seat c.look_at.new.seat
          c.look_at.new.board) c.sizes.ensures.sizes looked;
      kept = record { client = refl; numbers = refl; hand = refl };
      accepted = ap (λ l. accepted_in l c.args.pass.now.numbers.items) (look_keeps_log _ _ c.args.pass.now.seat c.look_at.new.seat c.look_at.new.board looked);
    }
