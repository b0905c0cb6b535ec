use Rattle.sheet_model.proofs.PartLemmas.{adds_clip}
use Rattle.sheet_model.proofs.parts.add_part.Goals as goal

pub returns-in_ok-push : goal.returns-in_ok-push
returns-in_ok-push c = rw c.in_ok-push.ensures.items (adds_clip c.args.sizes c.args.range c.in-Some.range c.args.parts.now.items c.in-Some.ensures.cells)
