use Rattle.std.proofs.Common.{◌≡◌, ◌∙◌, ap, sym, map, [], refl}
use Rattle.sheet_refs.specs.Cells.{Corners, cells_of}
use Rattle.formula_eval.specs.declared.items.Item.TheVariants.{Cell}
use Rattle.formula_eval.specs.Inputs.{seen_values}
use Rattle.formula_eval.specs.Items.{items_of_cells}
use Rattle.formula_eval.specs.Views.{looked}
use Rattle.formula_syntax.specs.declared.functions.Function.TheVariants.{Sum as SumOf}
use Rattle.formula_eval.specs.declared.cells.View.TheVariants.{All}
use Rattle.formula_eval.specs.Sums.{tally_of}
use Rattle.formula_eval.proofs.BlockLemmas.{err_items, ok_items}
use Rattle.formula_eval.proofs.ClipLemmas.{part_shows, past_shows}
use Rattle.formula_eval.proofs.TallyLemmas.{adds_nothing, adds_same}
use Rattle.formula_eval.proofs.ViewLemmas.{looked_empty}
use Rattle.formula_eval.proofs.sums.add_range.Goals as goal

pub returns-in_default-clause-ok : goal.returns-in_default-clause-ok
returns-in_default-clause-ok g c =
    let sizes = g.I.Inputs.sizes c.args.inputs.now in
    let codes = g.I.Inputs.codes c.args.inputs.now in
    let outside = rw (c.sizes.ensures, c.in_default.is) at c.clip.ensures.nothing in
    let nothing = ap (map Cell) (past_shows sizes (looked All (seen_values sizes codes)) c.args.range
    (looked_empty sizes codes All) (outside refl)) in
    adds_same SumOf (tally_of c.args.sum) (tally_of c.args.sum) [] _ nothing (adds_nothing SumOf (tally_of c.args.sum) c.requires.bounded)

pub add_part-requires-clause-inside : goal.add_part-requires-clause-inside
add_part-requires-clause-inside g c =
    let same = rw c.sizes.ensures at c.in-Some.ensures.cells in
    λ cell in_part. ((same cell).0 in_part).1

pub add_part-requires-clause-plain : goal.add_part-requires-clause-plain
add_part-requires-clause-plain g c =
    let same = rw c.sizes.ensures at c.in-Some.ensures.cells in
    record { plain = λ cell in_part. c.requires.plain.plain cell ((same cell).0 in_part).0 }

pub returns-clause-ok : goal.returns-clause-ok
returns-clause-ok g c =
    let sizes = g.I.Inputs.sizes c.args.inputs.now in
    let codes = g.I.Inputs.codes c.args.inputs.now in
    let h = looked All (seen_values sizes codes) in
    let corners = rw c.sizes.ensures at c.in-Some.ensures.corners in
    let inside = rw c.sizes.ensures at (c.in-Some.ensures.some.0 refl) in
    let same : items_of_cells (map h (cells_of c.args.range)) ≡ items_of_cells (map h (cells_of c.in-Some.part)) =
    ap (map Cell) (part_shows sizes h c.args.range (looked_empty sizes codes All) inside)
    ∙ ap (λ (part : Corners). items_of_cells (map h (cells_of part))) (sym corners) in
    ok_items c.add_part.result c.args.sum _ _ same c.add_part.ensures.ok

pub returns-clause-err : goal.returns-clause-err
returns-clause-err g c =
    let sizes = g.I.Inputs.sizes c.args.inputs.now in
    let codes = g.I.Inputs.codes c.args.inputs.now in
    let h = looked All (seen_values sizes codes) in
    let corners = rw c.sizes.ensures at c.in-Some.ensures.corners in
    let inside = rw c.sizes.ensures at (c.in-Some.ensures.some.0 refl) in
    let same : items_of_cells (map h (cells_of c.args.range)) ≡ items_of_cells (map h (cells_of c.in-Some.part)) =
    ap (map Cell) (part_shows sizes h c.args.range (looked_empty sizes codes All) inside)
    ∙ ap (λ (part : Corners). items_of_cells (map h (cells_of part))) (sym corners) in
    err_items c.add_part.result _ _ same c.add_part.ensures.err
