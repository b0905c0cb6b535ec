use Rattle.std.proofs.Common.{◌≡◌, ◌*◌, arith, ap, refl}
use Rattle.sheet_model.proofs.LineLemmas.{from_none, from_more, row_stop, row_within, row_ends, split_place}
use Rattle.sheet_model.proofs.words.stop_in_rows.Goals as goal

pub loop-row-init : goal.loop-row-init
loop-row-init c =
    let split = split_place c.args.rows c.args.cols c.args.next c.requires.next in
    (from_none c.args.words.now c.args.first c.args.step c.args.cols c.args.next _ split.2, omega (arith, split.2), omega (arith, split.0), split.1)

pub words_to_stop-read-requires-clause-within : goal.words_to_stop-read-requires-clause-within
words_to_stop-read-requires-clause-within c =
    row_within c.args.words.now c.args.first c.args.step c.args.rows c.args.cols c.loop-row.row c.loop-row.col c.requires.within
    c.loop-row-test.true (omega (arith, c.loop-row.invariant.3))

pub returns-then-read-cols : goal.returns-then-read-cols
returns-then-read-cols c =
    let stops = c.words_to_stop-read.ensures in
    let less = c.if-read-cols.true in
    let ends = row_ends c.args.rows c.args.cols c.loop-row.row c.loop-row-test.true in
    record {
      from = omega (arith, c.loop-row.invariant.1);
      few = omega (arith, ends, less);
      plain = from_more c.args.words.now c.args.first c.args.step c.args.cols c.args.next c.loop-row.row c.loop-row.col
          c.words_to_stop-read.result _ c.loop-row.invariant.0 stops.plain (omega (arith, less)) refl;
      stops = λ _.
          row_stop c.args.words.now c.args.first c.args.step c.args.cols c.loop-row.row c.loop-row.col c.words_to_stop-read.result
          (omega (arith, less)) (stops.stop less);
    }

pub loop-row-preserved : goal.loop-row-preserved
loop-row-preserved c =
    let few = c.words_to_stop-read.ensures.few in
    let all = c.if-read-cols.false in
    let inside = c.loop-row.invariant.3 in (
      from_more c.args.words.now c.args.first c.args.step c.args.cols c.args.next c.loop-row.row c.loop-row.col
          c.words_to_stop-read.result _ c.loop-row.invariant.0 c.words_to_stop-read.ensures.plain
          (omega (arith, few, inside)) (omega (arith, few, all, inside)),
      omega (arith, c.loop-row.invariant.1, inside),
      omega (arith, c.loop-row-test.true),
      omega (arith, inside),
    )

pub returns : goal.returns
returns c =
    let same : c.loop-row.row ≡ c.args.rows = omega (arith, c.loop-row-test.false, c.loop-row.invariant.2) in
    let product : c.loop-row.row * c.args.cols ≡ c.args.rows * c.args.cols = ap (λ n. n * c.args.cols) same in
    record {
      from = omega (arith, c.requires.next);
      few = omega arith;
      plain = λ place past below. c.loop-row.invariant.0 place past (omega (arith, below, product));
      stops = λ less. absurd (omega (arith, less));
    }
