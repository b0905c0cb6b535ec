use Rattle.std.proofs.Common.{rules}
use Rattle.graph_trial.proofs.RunLemmas.{follow_two}
use Rattle.graph_trial.proofs.runs.add_two.Goals as goal

pub add_run-requires-clause-follow : goal.add_run-requires-clause-follow
add_run-requires-clause-follow g c =
    follow_two c.args.run c.args.one c.args.other (search rules) (search rules) (search rules) (search rules) (search rules)
