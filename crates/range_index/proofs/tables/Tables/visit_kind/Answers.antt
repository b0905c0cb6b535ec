use Rattle.std.proofs.Common.{inl, inr, ◌≡◌, ◌<◌, ◌≤◌, ◌+◌, ◌-◌, ◌/◌, ◌∙◌, ap, arith}
use Rattle.sheet_refs.specs.Cells.{Position}
use Rattle.range_index.specs.Grids.{entry_at, count_at, stands_at, IsInRow, IsNear}
use Rattle.range_index.proofs.GridLemmas.{places_of, found_past, found_more, found_same, IsAbove, not_above, above_next}
use Rattle.range_index.proofs.tables.Tables.visit_kind.Goals as goal
use Rattle.range_index.proofs.tables.Tables.visit_kind.Goals.{then-self-height-via-then-self-height, then-self-height-via-else-self-height+then-self-width}

pub loop-row-preserved : goal.loop-row-preserved
loop-row-preserved c =
    let q = c.args.q in
    let row = c.loop-row.row in
    let tail : c.row-2.result ≡ q.tail.row = c.row-2.ensures.row ∙ ap (λ (p : Position). p.row) c.tail.ensures.tail in
    let before : row < (q.tail.row - 1) / c.args.height + 1 = rw tail at c.loop-row-test.true in
    let to_last : row ≤ (q.tail.row - 1) / c.args.height = omega (arith, before) in (
      omega (arith, c.loop-row.invariant.0),
      found_more (entry_at c.args.self.now) (IsAbove q c.args.height c.args.width row)
          (IsInRow q c.args.height c.args.width row) (IsAbove q c.args.height c.args.width (row + 1)) q
          c.args.out.now.items c.loop-row.out.items c.visit_row.new.out.items
          (places_of c.requires.grid) (not_above q c.args.height c.args.width row)
          (λ slot entry here. above_next q c.args.height c.args.width row slot c.loop-row.invariant.0 to_last)
          c.loop-row.invariant.1 c.in_ok-visit_row.ensures.found,
    )

pub returns-clause-found : goal.returns-clause-found
returns-clause-found c =
    let tail : c.row-2.result ≡ c.args.q.tail.row = c.row-2.ensures.row ∙ ap (λ (p : Position). p.row) c.tail.ensures.tail in
    let past : (c.args.q.tail.row - 1) / c.args.height + 1 ≤ c.loop-row.row = rw tail at c.loop-row-test.false in
    found_same (entry_at c.args.self.now) (IsAbove c.args.q c.args.height c.args.width c.loop-row.row)
    (IsNear c.args.q c.args.height c.args.width) c.args.q c.args.out.now.items c.loop-row.out.items
    (λ slot entry here. (λ above. above.0, λ near. (near, omega (arith, past, near.row_to)))) c.loop-row.invariant.1

pub returns-then-self-height-clause-found : goal.returns-then-self-height-clause-found
returns-then-self-height-clause-found c =
    let tables = c.args.self.now in
    found_past (entry_at tables) (count_at tables) (stands_at tables) tables.tallest tables.widest c.args.q
    c.args.height c.args.width c.args.out.now.items c.requires.grid.grid
    (elim c.then-self-height.branch [
      | then-self-height-via-then-self-height w ↦ inl w.if-self-height.true
      | then-self-height-via-else-self-height+then-self-width w ↦ inr w.if-self-width.true
    ])
