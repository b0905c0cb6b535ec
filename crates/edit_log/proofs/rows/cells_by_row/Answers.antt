use Rattle.std.proofs.Common.{◌<◌, All, List, ℕ, subst, sym}
use Rattle.std.proofs.lemmas.List.Sorted.{All-permutation}
use Rattle.std.proofs.lemmas.Result.{IfOk-weaker}
use Rattle.sheet_refs.specs.Sizes.{cell_count}
use Rattle.edit_log.specs.Rows.{AreCellsAt}
use Rattle.edit_log.proofs.RowLemmas.{places_within, listed_rows}
use Rattle.edit_log.proofs.rows.cells_by_row.Goals as goal

pub cells_at-requires-clause-within : goal.cells_at-requires-clause-within
cells_at-requires-clause-within c =
    let P : ℕ → Type 0 = λ place. place < cell_count c.args.sizes in
    let first : All P c.in_ok-places.places.items =
    subst (All P) (sym c.in_ok-places.ensures) (places_within c.args.sizes c.args.runs.now c.requires.runs
    c.requires.inside) in
    subst (All P) (sym c.deref.ensures.value) (All-permutation P c.in_ok-places.places.items
    c.sort_unstable.new.self.items c.sort_unstable.ensures.permutation first)

pub returns : goal.returns
returns c =
    IfOk-weaker c.cells_at.result _ _ (λ cells are.
    listed_rows c.args.sizes c.args.runs.now c.in_ok-places.places.items c.sort_unstable.new.self.items cells.items
    c.requires.runs c.requires.inside c.in_ok-places.ensures c.sort_unstable.ensures.permutation
    c.sort_unstable.ensures.sorted
    (subst (λ (places : List ℕ). AreCellsAt c.args.sizes places cells.items) c.deref.ensures.value are)) c.cells_at.ensures
