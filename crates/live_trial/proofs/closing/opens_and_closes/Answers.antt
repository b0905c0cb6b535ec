use Rattle.live_trial.proofs.closing.opens_and_closes.Goals as goal

-- new passes are in the order of their clients
pub close-requires-clause-order : goal.close-requires-clause-order
close-requires-clause-order g c κs within = λ client pass stands. (c.in_ok-opened.ensures.passes.each client pass stands).whose
