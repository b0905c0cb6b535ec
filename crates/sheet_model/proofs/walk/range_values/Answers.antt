use Rattle.sheet_model.proofs.ResultLemmas.{words_are_codes}
use Rattle.sheet_model.proofs.walk.range_values.Goals as goal

pub returns : goal.returns
returns c =
    let walk = rw c.in_ok-run_within.ensures.idle at c.in_ok-run_within.ensures.sound.walk in
    words_are_codes c.args.sheet.now c.run_within.new.self.words.items c.in_ok-run_within.ensures.sound.coded walk c.args.range c.requires
    c.in_ok-run_within.ensures.known
