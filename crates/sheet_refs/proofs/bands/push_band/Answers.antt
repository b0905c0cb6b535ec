use Rattle.std.proofs.Common.{◌≡◌, ◌+◌, ◌-◌, ◌≤◌, ◌++◌, ◌∙◌, [], ap, append-nil, sym, arith}
use Rattle.sheet_refs.specs.Bands.{rows_at}
use Rattle.sheet_refs.proofs.BandLemmas.{in_column, maximal_append, runs_before}
use Rattle.sheet_refs.proofs.BandLoops.{in_none, push_one}
use Rattle.sheet_refs.proofs.bands.push_band.Goals as goal

pub returns-in_default-clause-pushed : goal.returns-in_default-clause-pushed
returns-in_default-clause-pushed c =
    let none = in_none (rows_at c.args.bands.now) c.args.col (c.args.last + 1 - c.args.col)
    (λ k low high. c.requires.same k low (omega (arith, high, c.requires.cols)) ∙ c.in_default.ensures) in
    sym (ap (λ rs. c.args.ranges.now.items ++ rs) none ∙ append-nil c.args.ranges.now.items)

pub returns-then-is_empty-clause-pushed : goal.returns-then-is_empty-clause-pushed
returns-then-is_empty-clause-pushed c =
    let empty : rows_at c.args.bands.now c.args.col ≡ [] = sym c.in-Some.ensures ∙ c.is_empty.ensures c.if-is_empty.true in
    let none = in_none (rows_at c.args.bands.now) c.args.col (c.args.last + 1 - c.args.col)
    (λ k low high. c.requires.same k low (omega (arith, high, c.requires.cols)) ∙ empty) in
    sym (ap (λ rs. c.args.ranges.now.items ++ rs) none ∙ append-nil c.args.ranges.now.items)

pub loop-place-preserved : goal.loop-place-preserved
loop-place-preserved c =
    let known = c.loop-place.invariant in
    let pushed = c.in_ok-push_ranges.ensures.pushed in
    let there = in_column c.loop-place.place c.in-Some.column.now in
    let within : c.loop-place.place ≤ c.args.last = omega (arith, c.loop-place-test.true) in
    let here : rows_at c.args.bands.now c.loop-place.place ≡ c.in-Some.column.now =
    c.requires.same c.loop-place.place known.0 within ∙ sym c.in-Some.ensures in (
      omega (arith, known.0),
      push_one (rows_at c.args.bands.now) c.args.col c.loop-place.place c.in-Some.column.now c.args.ranges.now.items
          c.loop-place.ranges.items c.push_ranges.new.ranges.items known.0 here known.1 pushed,
      rw pushed (maximal_append c.loop-place.ranges.items _ c.loop-place.place known.2 known.3 c.in_ok-push_ranges.ensures.runs there),
      rw pushed (runs_before c.loop-place.ranges.items _ c.loop-place.place known.3 there),
    )
