use Rattle.std.proofs.Common.{subst, sym}
use Rattle.std.specs.Prelude.{IfSome}
use Rattle.play_machine.specs.Marking.{OnlyThese}
use Rattle.play_machine.proofs.TouchedLemmas.{all_cleared}
use Rattle.play_machine.proofs.marks.clear_all.Goals as goal

pub returns : goal.returns
returns c =
    let old = c.args.marks.now.items in
    let only = subst (λ o. IfSome o (λ list. OnlyThese c.args.sizes old list.items)) c.in-Some.is c.requires.only in
    all_cleared c.args.sizes c.deref.result.now old c.unmark_all.new.marks.items c.requires.count c.unmark_all.ensures
    (subst (OnlyThese c.args.sizes old) (sym c.deref.ensures.value) only)
