use Rattle.std.proofs.Common.{arith}
use Rattle.sheet_model.proofs.WordLemmas.{word_at}
use Rattle.sheet_model.proofs.known.KnownInputs.get.Goals as goal

pub code_of_word-requires : goal.code_of_word-requires
code_of_word-requires c =
    word_at c.args.self.now.words.now c.place.result 0 c.args.self.now.coded (omega (
      arith,
      c.place.ensures.within,
      c.args.self.now.count,
    ))
