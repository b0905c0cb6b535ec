use Rattle.std.proofs.Common.{◌+◌, sym}
use Rattle.sheet_refs.specs.Ends.IsReferenceName.{alone, joined}
use Rattle.sheet_refs.proofs.EndLemmas.{no_lone_end, no_first_end, no_second_end}
use Rattle.sheet_refs.proofs.NameLemmas.{around_colon, slice_rest}
use Rattle.sheet_refs.proofs.end_names.ref_of.Goals as goal

pub returns-in_err-end-in-None : goal.returns-in_err-end-in-None
returns-in_err-end-in-None c = rw c.from_residual.ensures (no_lone_end c.args.dotted c.args.text.now (sym c.in-None.ensures) c.in_err-end-in-None.ensures)

pub returns-in_ok-end-in-None : goal.returns-in_ok-end-in-None
returns-in_ok-end-in-None c = rw c.one.ensures (alone c.args.dotted c.args.text.now _ c.in_ok-end-in-None.ensures)

pub returns-in_err-first-in-Some : goal.returns-in_err-first-in-Some
returns-in_err-first-in-Some c =
    rw c.from_residual-in_err-first-in-Some.ensures (no_first_end c.args.dotted c.args.text.now c.in-Some.colon
    (sym c.in-Some.ensures) c.in_err-first-in-Some.ensures)

pub returns-in_err-second-in-Some : goal.returns-in_err-second-in-Some
returns-in_err-second-in-Some c =
    rw c.from_residual-in_err-second-in-Some.ensures (no_second_end c.args.dotted c.args.text.now c.in-Some.colon
    (sym c.in-Some.ensures) (λ end. rw (slice_rest c.args.text.now (c.in-Some.colon + 1)) at
    (c.in_err-second-in-Some.ensures end)))

pub returns-in_ok-second-in-Some : goal.returns-in_ok-second-in-Some
returns-in_ok-second-in-Some c =
    rw c.two.ensures (joined c.args.dotted c.args.text.now _ _ _ _ (around_colon c.args.text.now c.in-Some.colon
    (sym c.in-Some.ensures)) c.in_ok-first-in-Some.ensures (rw (slice_rest c.args.text.now (c.in-Some.colon + 1)) at
    c.in_ok-second-in-Some.ensures))
