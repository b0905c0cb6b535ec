use Rattle.std.proofs.Common.{◌≡◌, true, false, arith, rules}
use Rattle.sheet_refs.proofs.GapLemmas.{gaps_past_held, gaps_past_free, on_false, on_true}
use Rattle.sheet_refs.proofs.column.gaps.Goals as goal
use Rattle.sheet_refs.proofs.column.gaps.Goals.{then-not-held+in_ok-push, else-not-held}

pub loop-row-preserved : goal.loop-row-preserved
loop-row-preserved c =
    let known = c.loop-row.invariant in
    let within = c.stretch-held.ensures.within in (
      omega (arith, known.0, within.0),
      omega (arith, within.1),
      elim c.if-not-held.branch [
        | then-not-held+in_ok-push w ↦
            let test : c.stretch-held.result.0 ≡ false = search rules in
            rw (w.gaps-is, w.in_ok-push.ensures.items) (gaps_past_free _ _ _ _ _ known.2 known.0 within.0 (on_false _ _ test c.stretch-held.ensures.free))
        | else-not-held w ↦
            let test : c.stretch-held.result.0 ≡ true = search rules in
            rw w.gaps-is (gaps_past_held _ _ _ _ _ known.2 known.0 within.0 (on_true _ _ test c.stretch-held.ensures.held))
      ],
    )
