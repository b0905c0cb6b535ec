use Rattle.std.proofs.Common.{sym, subst, List}
use Rattle.std.specs.Prelude.{Contains}
use Rattle.std.proofs.lemmas.List.Elements.{Contains-append_right}
use Rattle.mark_core.specs.declared.words.Known.{Known}
use Rattle.mark_words.specs.Tokens.{view_of}
use Rattle.recalc_workers.specs.Desks.{seat_of}
use Rattle.recalc_workers.proofs.sharing.gather.Goals as goal

pub returns-clause-knows : goal.returns-clause-knows
returns-clause-knows g c = λ pair has.
    subst (λ (l : List Known). Contains l pair) (sym c.meet.ensures.met.known)
    (Contains-append_right (view_of c.args.editor.now).known (view_of (seat_of c.args.desk.now)).known pair has)
