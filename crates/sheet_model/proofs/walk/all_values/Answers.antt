use Rattle.sheet_model.proofs.ResultLemmas.{words_are_values}
use Rattle.sheet_model.proofs.walk.all_values.Goals as goal

pub returns : goal.returns
returns c =
    let walk = rw c.in_ok-run.ensures.idle at c.in_ok-run.ensures.sound.walk in
    words_are_values c.args.sheet.now c.run.new.self.words.items c.in_ok-run.ensures.sound.coded walk c.in_ok-run.ensures.known
