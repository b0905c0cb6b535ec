use Rattle.std.proofs.Common.{Contains, rules}
use Rattle.edit_log.proofs.CycleLemmas.{misses_part}
use Rattle.edit_log.proofs.cycles.misses.Goals as goal

pub returns-then-contains : goal.returns-then-contains
returns-then-contains c = λ yes.
    let there : Contains c.in_ok-left.left.items c.args.range = search rules in
    misses_part c.args.set.now c.in_ok-left.left.items c.args.range c.in_ok-left.ensures there
