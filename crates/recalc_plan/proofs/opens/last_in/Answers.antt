use Rattle.std.proofs.Common.{◌≡◌, ℕ, ◌≤◌, ◌<◌, arith, ap, subst, ◌∙◌}
use Rattle.sheet_refs.specs.Cells.{Position, IsNamed}
use Rattle.recalc_plan.specs.Opens.{IsLastUpTo, NoneUpTo, place_at}
use Rattle.recalc_plan.proofs.OpenLemmas.{go_left, go_on, last_is, not_right, nowhere}
use Rattle.recalc_plan.proofs.opens.last_in.Goals as goal

-- the bottom of the range, as it was read
row_read : (tail corner : Position) (row : ℕ) → row ≡ corner.row → corner ≡ tail → row ≡ tail.row
row_read tail corner row is same = is ∙ ap (λ (p : Position). p.row) same

named : (tail corner : Position) → IsNamed corner.row corner.col → corner ≡ tail → IsNamed tail.row tail.col
named tail corner is same = subst (λ (p : Position). IsNamed p.row p.col) same is

pub returns-in_default : goal.returns-in_default
returns-in_default c =
    let bottom = named c.args.range.tail c.tail-in-loop-col.result c.row.ensures.named c.tail-in-loop-col.ensures.tail in
    let row = row_read c.args.range.tail c.tail-in-loop-col.result c.row.result c.row.ensures.row c.tail-in-loop-col.ensures.tail in
    nowhere c.args.opens.now c.requires c.args.range c.args.up_to bottom.row_from bottom.row_to c.loop-col.col
    c.loop-col.invariant.0 (subst (NoneUpTo c.args.opens.now) (c.place.ensures ∙ ap (place_at c.loop-col.col) row)
    c.in_default.ensures)

pub loop-col-preserved-then-col : goal.loop-col-preserved-then-col
loop-col-preserved-then-col c =
    let bottom = named c.args.range.tail c.tail-in-loop-col.result c.row.ensures.named c.tail-in-loop-col.ensures.tail in
    let row = row_read c.args.range.tail c.tail-in-loop-col.result c.row.result c.row.ensures.row c.tail-in-loop-col.ensures.tail in
    let last = subst (λ (p : ℕ). IsLastUpTo c.args.opens.now p c.in-Some.last) (c.place.ensures ∙ ap (place_at c.loop-col.col) row) c.in-Some.ensures in
    let left : c.in-Some.last.col < c.loop-col.col = omega (arith, c.col-in-loop-col-2.ensures.col, c.if-col.true) in (
      λ other inside within there. omega (
        arith,
        c.col-col.ensures.col,
        go_left c.args.opens.now c.requires c.args.range c.args.up_to bottom.row_from bottom.row_to c.loop-col.col
            c.in-Some.last c.loop-col.invariant.0 last left other inside within there,
      ),
      omega (arith, c.col-col.ensures.col, left, c.loop-col.invariant.1),
      omega (arith, c.col-col.ensures.col, left, c.loop-col.invariant.2),
    )

pub returns-then-row : goal.returns-then-row
returns-then-row c =
    let bottom = named c.args.range.tail c.tail-in-loop-col.result c.row.ensures.named c.tail-in-loop-col.ensures.tail in
    let row = row_read c.args.range.tail c.tail-in-loop-col.result c.row.result c.row.ensures.row c.tail-in-loop-col.ensures.tail in
    let last = subst (λ (p : ℕ). IsLastUpTo c.args.opens.now p c.in-Some.last) (c.place.ensures ∙ ap (place_at c.loop-col.col) row) c.in-Some.ensures in
    let top = ap (λ (p : Position). p.row) c.head-else-col.ensures.head in
    let left = ap (λ (p : Position). p.col) c.head.ensures.head in
    let from : c.args.range.head.col ≤ c.loop-col.col = omega (arith, left, c.col-in-loop-col.ensures.col, c.loop-col-test.true) in
    let right = not_right c.args.opens.now c.requires c.args.range c.args.up_to bottom.row_from bottom.row_to
    c.loop-col.col c.in-Some.last (omega (arith, from, c.col-in-loop-col.ensures.named.col_from, left)) last in
    last_is c.args.opens.now c.requires c.args.range c.args.up_to bottom.row_from bottom.row_to c.loop-col.col
    c.in-Some.last c.loop-col.invariant.0 last c.loop-col.invariant.1 (omega (
      arith,
      right,
      c.if-col.false,
      c.col-in-loop-col-2.ensures.col,
    )) (omega (
      arith,
      c.if-row.true,
      top,
      c.row-else-col.ensures.row,
      c.row-else-col-2.ensures.row,
    )) from c.loop-col.invariant.2

pub loop-col-preserved : goal.loop-col-preserved
loop-col-preserved c =
    let bottom = named c.args.range.tail c.tail-in-loop-col.result c.row.ensures.named c.tail-in-loop-col.ensures.tail in
    let row = row_read c.args.range.tail c.tail-in-loop-col.result c.row.result c.row.ensures.row c.tail-in-loop-col.ensures.tail in
    let last = subst (λ (p : ℕ). IsLastUpTo c.args.opens.now p c.in-Some.last) (c.place.ensures ∙ ap (place_at c.loop-col.col) row) c.in-Some.ensures in
    let top = ap (λ (p : Position). p.row) c.head-else-col.ensures.head in
    let left = ap (λ (p : Position). p.col) c.head.ensures.head in
    let from : 1 ≤ c.loop-col.col = omega (arith, left, c.col-in-loop-col.ensures.named.col_from, c.col-in-loop-col.ensures.col, c.loop-col-test.true) in
    let right = not_right c.args.opens.now c.requires c.args.range c.args.up_to bottom.row_from bottom.row_to c.loop-col.col c.in-Some.last from last in (
      go_on c.args.opens.now c.requires c.args.range c.args.up_to bottom.row_from bottom.row_to c.loop-col.col
          c.in-Some.last c.loop-col.invariant.0 last from (omega (
            arith,
            right,
            c.if-col.false,
            c.col-in-loop-col-2.ensures.col,
          )) (omega (
            arith,
            c.if-row.false,
            top,
            c.row-else-col.ensures.row,
            c.row-else-col-2.ensures.row,
          )),
      omega (arith, c.loop-col.invariant.1),
      omega (arith, c.loop-col.invariant.2),
    )
