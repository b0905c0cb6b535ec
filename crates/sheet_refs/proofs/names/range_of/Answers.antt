use Rattle.std.proofs.Common.{◌+◌, sym}
use Rattle.sheet_refs.specs.Names.IsRangeName.{one, two}
use Rattle.sheet_refs.proofs.NameLemmas.{no_lone_range, no_head, no_tail, around_colon, slice_rest}
use Rattle.sheet_refs.proofs.names.range_of.Goals as goal

pub returns-in_err-cell-in-None : goal.returns-in_err-cell-in-None
returns-in_err-cell-in-None c = rw c.from_residual.ensures (no_lone_range _ (sym c.in-None.ensures) c.in_err-cell-in-None.ensures)

pub returns-in_ok-cell-in-None : goal.returns-in_ok-cell-in-None
returns-in_ok-cell-in-None c = rw c.of.ensures.corners (one _ _ c.in_ok-cell-in-None.ensures)

pub returns-in_err-head-in-Some : goal.returns-in_err-head-in-Some
returns-in_err-head-in-Some c = rw c.from_residual-in_err-head-in-Some.ensures (no_head _ c.in-Some.colon (sym c.in-Some.ensures) c.in_err-head-in-Some.ensures)

pub returns-in_err-tail-in-Some : goal.returns-in_err-tail-in-Some
returns-in_err-tail-in-Some c =
    rw c.from_residual-in_err-tail-in-Some.ensures (no_tail c.args.text.now c.in-Some.colon (sym c.in-Some.ensures)
    (λ cell. rw (slice_rest c.args.text.now (c.in-Some.colon + 1)) at (c.in_err-tail-in-Some.ensures cell)))

pub returns-in_ok-tail-in-Some : goal.returns-in_ok-tail-in-Some
returns-in_ok-tail-in-Some c =
    rw c.of-in-Some.ensures.corners
    (two _ _ _ _ _ (around_colon c.args.text.now c.in-Some.colon (sym c.in-Some.ensures)) c.in_ok-head-in-Some.ensures
    (rw (slice_rest c.args.text.now (c.in-Some.colon + 1)) at c.in_ok-tail-in-Some.ensures))
