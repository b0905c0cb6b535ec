use Rattle.std.proofs.Common.{◌∙◌, List, subst}
use Rattle.std.proofs.lemmas.Result.{IfOk-weaker}
use Rattle.sheet_refs.specs.Cells.{Corners}
use Rattle.graph_walk.specs.Starts.{HoldsReachOfAll}
use Rattle.edit_log.specs.Books.{BookValue}
use Rattle.edit_log.specs.Touches.{cell_ranges}
use Rattle.edit_log.proofs.book.Book.touched_by.Goals as goal

pub returns : goal.returns
returns g c =
    IfOk-weaker c.dependents_of_all.result _ _ (λ set holds.
    subst (λ (b : BookValue _). HoldsReachOfAll (g.G.Graph.pairs b.graph) (cell_ranges c.args.changes.now) set) c.self.view_is
    (subst (λ (rs : List Corners). HoldsReachOfAll (g.G.Graph.pairs c.self.inside.graph) rs set)
    (c.deref.ensures.value ∙ c.in_ok-ranges.ensures) holds)) c.dependents_of_all.ensures
