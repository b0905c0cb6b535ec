use Rattle.std.proofs.Common.{◌+◌, ◌*◌, length}
use Rattle.recalc_workers.proofs.side_by_side.+threads.Given as goal

abbrev pub decreases-start_all : goal.decreases-start_all
decreases-start_all g l = 4 * length l.list.now

abbrev pub decreases-start_last : goal.decreases-start_last
decreases-start_last g l = 4 * length l.others.now + 2

abbrev pub decreases-start_last-before : goal.decreases-start_last-before
decreases-start_last-before g l = 4 * length l.others.now + 1
