use Rattle.sheet_model.specs.Words.{states_of}
use Rattle.sheet_model.proofs.ResultLemmas.{known_there}
use Rattle.sheet_model.proofs.walk.Walk.settle_apart.Goals as goal

pub returns-clause-known : goal.returns-clause-known
returns-clause-known c = λ p v at. c.in_ok-settle.ensures.known p v (c.give_up.ensures.known p v at)

pub returns-clause-settled : goal.returns-clause-settled
returns-clause-settled c =
    let walk = rw c.in_ok-settle.ensures.idle at c.in_ok-settle.ensures.sound.walk in
    known_there c.args.sheet.now (states_of c.settle.new.self.words.items) walk c.args.place c.requires.place c.in_ok-settle.ensures.settled
