use Rattle.std.proofs.Common.{◌≡◌, ℕ, arith, subst}
use Rattle.std.proofs.lemmas.Result.{err_from_is_err_and}
use Rattle.formula_eval.specs.Blocks.{line_of}
use Rattle.formula_eval.specs.Sums.{AddsWords}
use Rattle.formula_eval.proofs.BlockLemmas.{adds_all, adds_joined, errs_all, errs_before, errs_later, line_both, line_cut, line_few, line_part}
use Rattle.formula_eval.proofs.lines.with_line.Goals as goal

pub with_batch-requires-clause-line : goal.with_batch-requires-clause-line
with_batch-requires-clause-line c =
    line_part c.args.words.now c.args.first c.args.step c.loop-done.done _ c.args.count c.requires.line (grind arith)

pub with_batch-requires-clause-room : goal.with_batch-requires-clause-room
with_batch-requires-clause-room c =
    let few = line_few c.args.words.now c.args.first c.args.step c.loop-done.done in
    let count = c.loop-done.invariant.0.count in
    let room = c.requires.room in
    grind arith

pub returns-in_err-more-clause-err : goal.returns-in_err-more-clause-err
returns-in_err-more-clause-err c =
    let p = err_from_is_err_and c.from_residual.result c.from_residual.ensures.1 in
    let kind = c.in_err-more.field-0.0 in
    rw (p.1, p.2)
    (errs_all _ _ kind (line_cut c.args.words.now c.args.first c.args.step c.loop-done.done _ c.args.count (grind arith))
    (errs_later c.args.sum c.loop-done.more (line_of c.args.words.now c.args.first c.args.step c.loop-done.done) _ kind c.loop-done.invariant.0
    (errs_before _ _ kind c.in_err-more.ensures.err)))

pub loop-done-preserved : goal.loop-done-preserved
loop-done-preserved c = (
  adds_all c.args.sum c.in_ok-more.more _ _ (line_both c.args.words.now c.args.first c.args.step c.loop-done.done _)
      (adds_joined c.args.sum c.loop-done.more c.in_ok-more.more (line_of c.args.words.now c.args.first c.args.step c.loop-done.done) _
      c.loop-done.invariant.0 c.in_ok-more.ensures.ok),
  grind arith,
)

pub returns-clause-ok : goal.returns-clause-ok
returns-clause-ok c =
    let all : c.loop-done.done ≡ c.args.count = omega (arith, c.loop-done.invariant.1) in
    subst (λ (n : ℕ). AddsWords c.args.sum (line_of c.args.words.now c.args.first c.args.step n) c.loop-done.more) all c.loop-done.invariant.0

pub returns-clause-few : goal.returns-clause-few
returns-clause-few c =
    omega (arith, c.loop-done.invariant.0.count, c.loop-done.invariant.1, line_few c.args.words.now c.args.first c.args.step c.loop-done.done)
