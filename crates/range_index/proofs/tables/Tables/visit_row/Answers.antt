use Rattle.std.proofs.Common.{◌≡◌, ◌<◌, ◌≤◌, ◌+◌, ◌-◌, ◌/◌, ◌∙◌, ap, arith}
use Rattle.sheet_refs.specs.Cells.{Position}
use Rattle.range_index.specs.Grids.{entry_at, IsInRow}
use Rattle.range_index.proofs.GridLemmas.{places_of, found_more, found_same, IsLeftOf, not_left, left_next, home_at}
use Rattle.range_index.proofs.tables.Tables.visit_row.Goals as goal

pub loop-col-preserved : goal.loop-col-preserved
loop-col-preserved c =
    let q = c.args.q in
    let col = c.loop-col.col in
    let tail : c.col-2.result ≡ q.tail.col = c.col-2.ensures.col ∙ ap (λ (p : Position). p.col) c.tail.ensures.tail in
    let before : col < (q.tail.col - 1) / c.args.width + 1 = rw tail at c.loop-col-test.true in
    let to_last : col ≤ (q.tail.col - 1) / c.args.width = omega (arith, before) in (
      omega (arith, c.loop-col.invariant.0),
      found_more (entry_at c.args.self.now) (IsLeftOf q c.args.height c.args.width c.args.row col)
          (λ s. s.home ≡ home_at c.args.height c.args.width c.args.row col)
          (IsLeftOf q c.args.height c.args.width c.args.row (col + 1)) q c.args.out.now.items c.loop-col.out.items
          c.visit_home.new.out.items
          (places_of c.requires.grid) (not_left q c.args.height c.args.width c.args.row col)
          (λ slot entry here. left_next q c.args.height c.args.width c.args.row col slot c.loop-col.invariant.0
          to_last) c.loop-col.invariant.1 c.in_ok-visit_home.ensures.found,
    )

pub returns-clause-found : goal.returns-clause-found
returns-clause-found c =
    let tail : c.col-2.result ≡ c.args.q.tail.col = c.col-2.ensures.col ∙ ap (λ (p : Position). p.col) c.tail.ensures.tail in
    let past : (c.args.q.tail.col - 1) / c.args.width + 1 ≤ c.loop-col.col = rw tail at c.loop-col-test.false in
    found_same (entry_at c.args.self.now) (IsLeftOf c.args.q c.args.height c.args.width c.args.row c.loop-col.col)
    (IsInRow c.args.q c.args.height c.args.width c.args.row) c.args.q c.args.out.now.items c.loop-col.out.items
    (λ slot entry here. (λ left. left.0, λ near. (near, omega (arith, past, near.col_to)))) c.loop-col.invariant.1
