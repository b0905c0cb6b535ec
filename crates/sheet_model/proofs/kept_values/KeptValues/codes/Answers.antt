use Rattle.std.proofs.Common.{subst, sym}
use Rattle.sheet_model.specs.Values.{HasCode}
use Rattle.sheet_model.proofs.ResultLemmas.{word_held}
use Rattle.sheet_model.proofs.kept_values.KeptValues.codes.Goals as goal

pub returns : goal.returns
returns c = λ sheet cell kept inside held.
    let walk = c.args.self.now.walk in
    let known = word_held sheet walk.words.items walk.frames.items kept.walk.coded kept.walk.walk cell inside held in
    subst (λ codes. HasCode sheet codes cell) (sym c.deref.ensures.value) (record { code = known.1; value = known.0 })
