use Rattle.std.proofs.Common.{arith}
use Rattle.sheet_model.proofs.ReadyLemmas.{seen_there, seen_length}
use Rattle.sheet_model.proofs.walk.content_at.Goals as goal

pub bounds-contents-place : goal.bounds-contents-place
bounds-contents-place c =
    let long = seen_length c.contents.result.now c.args.sheet.now.contents c.contents.ensures.contents in
    omega (arith, long, c.contents.ensures.sheet.filled, c.requires)

pub returns : goal.returns
returns c =
    let long = seen_length c.contents.result.now c.args.sheet.now.contents c.contents.ensures.contents in
    seen_there c.contents.result.now c.args.sheet.now.contents c.args.place c.index-contents-place.result c.contents.ensures.contents
    (omega (arith, long, c.contents.ensures.sheet.filled, c.requires)) c.index-contents-place.is
