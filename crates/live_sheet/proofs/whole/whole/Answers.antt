use Rattle.std.proofs.lemmas.Bool.{false≢true}
use Rattle.live_sheet.proofs.RangeLemmas.{none_inside}
use Rattle.live_sheet.proofs.whole.whole.Goals as goal

pub returns-in-None : goal.returns-in-None
returns-in-None c = none_inside c.args.sizes c.requires (λ named. false≢true (c.in-None.ensures.named.1 named))
