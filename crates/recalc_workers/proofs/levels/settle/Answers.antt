use Rattle.std.proofs.Common.{ap, get_or}
use Rattle.mark_words.specs.declared.tables.Doing.{Doing}
use Rattle.mark_words.specs.Tokens.{subject_of, view_of}
use Rattle.recalc_workers.specs.Settling.{IsDeskAfter}
use Rattle.recalc_workers.proofs.LevelLemmas.{covered_stays, some_changed, desk_itself}
use Rattle.recalc_workers.proofs.SettlingLemmas.{no_less}
use Rattle.recalc_workers.proofs.SeatLemmas.{prefix_of_same}
use Rattle.recalc_workers.proofs.levels.settle.Goals as goal

pub settle_at-requires-clause-covered : goal.settle_at-requires-clause-covered
settle_at-requires-clause-covered g c κs within = λ k d inside.
    covered_stays (g.S.SheetSubject.opening (subject_of c.args.marks.now)) (g.W.CellWords.sheet c.args.words.now)
    (g.W.CellWords.covers c.args.words.now) (view_of c.args.editor.now) (view_of c.see-count.new.seat)
    (get_or c.args.cells.now k d)
    (no_less (view_of c.args.editor.now) (view_of c.see-count.new.seat) (ap (λ (x : Doing _ _). x.view.log) c.see-count.ensures.doing)
    (prefix_of_same _ _ (ap (λ (x : Doing _ _). x.view.known) c.see-count.ensures.doing)))
    (c.requires.covered k d inside)

pub returns-clause-desks : goal.returns-clause-desks
returns-clause-desks g c =
    some_changed (IsDeskAfter c.args.marks.now) c.args.desks.now c.settle_at.new.desks c.busy_desks-busy.result
    c.busy_desks-busy.ensures.few c.settle_at.ensures.desks
    (λ place x inside. desk_itself c.args.marks.now (get_or c.args.desks.now place x) (c.requires.desks place x inside))
