use Rattle.std.proofs.Common.{◌≡◌, ◌+◌, ◌∙◌, ap, arith, refl}
use Rattle.edit_log.specs.Runs.{Follow, down}
use Rattle.edit_log.proofs.PairLemmas.{named_down, run_first, run_on}
use Rattle.edit_log.proofs.RunLemmas.{same_end}
use Rattle.edit_log.proofs.TouchLemmas.{sizes_named}
use Rattle.edit_log.proofs.runs.run_from.Goals as goal

pub loop-run-init : goal.loop-run-init
loop-run-init c = record {
  goes = record { some = omega arith; inside = omega (arith, c.requires.rows); named = omega (arith, c.row-row.ensures.named.row_to) };
  follow = run_first c.args.sheet.now c.args.cell c.at-first.result.now c.at-first.ensures.refs c.at-first.ensures.once;
  refs = c.at-first.ensures.refs;
  once = c.at-first.ensures.once;
}

pub unwrap-below-requires : goal.unwrap-below-requires
unwrap-below-requires c =
    let rows = (sizes_named c.args.sheet.now.sizes c.rows.ensures.sheet.size).rows in
    c.new.ensures.named.1 (record {
      row_from = omega arith;
      row_to = omega (arith, rows, c.loop-run-test.true, c.rows.ensures.rows);
      col_from = omega arith;
      col_to = omega arith;
    })

pub loop-run-preserved : goal.loop-run-preserved
loop-run-preserved c =
    let at : (c.unwrap-below.result.row ≡ c.row-row.result + c.loop-run.run.count) × (c.unwrap-below.result.col ≡ c.col-col.result) =
    rw c.unwrap-below.ensures at c.new.ensures.position in
    let below : c.unwrap-below.result ≡ down c.args.cell c.loop-run.run.count =
    same_end c.unwrap-below.result (down c.args.cell c.loop-run.run.count)
    (at.0 ∙ ap (λ row. row + c.loop-run.run.count) c.row-row.ensures.row) (at.1 ∙ c.col-col.ensures.col) in
    let rows = (sizes_named c.args.sheet.now.sizes c.rows.ensures.sheet.size).rows in
    let follows : Follow c.loop-run.run.count c.loop-run.run.first.now c.loop-run.run.last.now c.at-next.result.now = c.if-not-follow.ensures refl in
    record {
      goes = record {
        some = omega arith;
        inside = omega (arith, c.loop-run-test.true, c.rows.ensures.rows, c.row-row.ensures.row);
        named = omega (arith, rows, c.loop-run-test.true, c.rows.ensures.rows, c.row-row.ensures.row);
      };
      follow = run_on c.args.sheet.now c.args.cell c.loop-run.run.count c.loop-run.run.first.now c.loop-run.run.last.now c.at-next.result.now
          c.loop-run.invariant.follow follows
          (named_down c.args.sheet.now c.args.cell c.unwrap-below.result c.loop-run.run.count c.at-next.result.now below c.at-next.ensures.once);
      refs = c.loop-run.invariant.refs;
      once = c.loop-run.invariant.once;
    }
