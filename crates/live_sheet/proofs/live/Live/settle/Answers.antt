-- The accepted edits are those of the longer log too.
use Rattle.mark_words.specs.Tokens.{log_of}
use Rattle.live_sheet.proofs.AcceptedLemmas.{accepted_still}
use Rattle.live_sheet.proofs.live.Live.settle.Goals as goal

pub invariant_of-pass-clause-accepted : goal.invariant_of-pass-clause-accepted
invariant_of-pass-clause-accepted g c =
    let pass = c.args.pass.now in
    accepted_still pass.client (log_of pass.seat) (log_of c.settle.new.seat) pass.numbers.items c.settle.ensures.keeps.log pass.accepted
