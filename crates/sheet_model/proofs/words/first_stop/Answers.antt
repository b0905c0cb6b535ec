use Rattle.std.proofs.Common.{◌≡◌, ◌+◌, ◌-◌, ◌∙◌, IsTrue, ap, arith, subst, sym}
use Rattle.sheet_refs.specs.Cells.{Position, height, width}
use Rattle.sheet_refs.specs.Sizes.{is_inside, place_of}
use Rattle.sheet_model.specs.Words.{states_of}
use Rattle.sheet_model.proofs.LineLemmas.{head_inside, part_passed, part_stops, rows_within, stops_in_part}
use Rattle.sheet_model.proofs.LookLemmas.{stop_past}
use Rattle.sheet_model.proofs.words.first_stop.Goals as goal
use Rattle.sheet_model.proofs.words.first_stop.Goals.{After-place-first}

-- what was computed from the corners
high : (c : After-place-first) → c.row.result - c.row-2.result + 1 ≡ height c.args.part.range
high c =
    let top = ap (λ (p : Position). p.row) c.head-head.ensures.head in
    let bottom = ap (λ (p : Position). p.row) c.tail-tail.ensures.tail in
    omega (arith, top, bottom, c.row.ensures.row, c.row-2.ensures.row, c.head-head.ensures.ordered.rows)

wide : (c : After-place-first) → c.col.result - c.col-2.result + 1 ≡ width c.args.part.range
wide c =
    let left = ap (λ (p : Position). p.col) c.head-head.ensures.head in
    let right = ap (λ (p : Position). p.col) c.tail-tail.ensures.tail in
    omega (arith, left, right, c.col.ensures.col, c.col-2.ensures.col, c.head-head.ensures.ordered.cols)

is_first : (c : After-place-first) → c.place-first.result ≡ place_of c.args.sizes c.args.part.range.head
is_first c = c.place-first.ensures.place ∙ ap (place_of c.args.sizes) c.head-head.ensures.head

pub returns-then-place-cells-clause-stop : goal.returns-then-place-cells-clause-stop
returns-then-place-cells-clause-stop c =
    stop_past c.args.sizes (states_of c.args.words.now) c.args.part c.args.part.next (omega (arith, c.if-place-cells.true, c.cells-cells.ensures.count))

pub place-first-requires : goal.place-first-requires
place-first-requires c =
    subst (λ (p : Position). IsTrue (is_inside c.args.sizes p)) (sym c.head-head.ensures.head)
    (head_inside c.args.sizes c.args.words.now c.args.part c.head-head.ensures.ordered c.requires.count c.requires.part)

pub stop_in_block-requires-clause-within : goal.stop_in_block-requires-clause-within
stop_in_block-requires-clause-within c =
    let at = (goal.at.stop_in_block-requires-clause-within c).After-place-first in
    rows_within c.args.sizes c.args.words.now c.args.part c.head-head.ensures.ordered c.requires.count c.requires.part
    c.place-first.result _ _ (is_first at) (high at) (wide at)

pub returns-clause-part : goal.returns-clause-part
returns-clause-part c =
    let at = (goal.at.returns-clause-part c).After-place-first in
    part_passed c.args.sizes c.args.words.now c.args.part c.head-head.ensures.ordered c.requires.count c.requires.part c.stop_in_block.result
    (sym c.cells-cells.ensures.count ∙ c.cells-cells.ensures.product)
    (stops_in_part c.args.sizes c.args.words.now c.args.part c.head-head.ensures.ordered c.requires.count c.requires.part
    c.place-first.result _ _ c.stop_in_block.result (is_first at) (high at) (wide at) c.stop_in_block.ensures)

pub returns-clause-stop : goal.returns-clause-stop
returns-clause-stop c =
    let at = (goal.at.returns-clause-stop c).After-place-first in
    part_stops c.args.sizes c.args.words.now c.args.part c.head-head.ensures.ordered c.requires.count c.requires.part c.stop_in_block.result
    (sym c.cells-cells.ensures.count ∙ c.cells-cells.ensures.product)
    (stops_in_part c.args.sizes c.args.words.now c.args.part c.head-head.ensures.ordered c.requires.count c.requires.part
    c.place-first.result _ _ c.stop_in_block.result (is_first at) (high at) (wide at) c.stop_in_block.ensures)
