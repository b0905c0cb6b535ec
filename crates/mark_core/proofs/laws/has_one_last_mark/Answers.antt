use Rattle.mark_core.proofs.Prefixes.{last_mark_unique}
use Rattle.mark_core.proofs.laws.has_one_last_mark.Goals as goal

pub returns : goal.returns
returns g c = last_mark_unique (g.S.Subject.touches c.args._subject.now)
