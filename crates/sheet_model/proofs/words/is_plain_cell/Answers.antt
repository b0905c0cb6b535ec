use Rattle.std.proofs.Common.{◌∙◌, arith}
use Rattle.sheet_model.proofs.WordLemmas.{plain_at, word_at}
use Rattle.sheet_model.proofs.words.is_plain_cell.Goals as goal

pub is_plain_word-requires : goal.is_plain_word-requires
is_plain_word-requires c =
    word_at c.args.words.now c.place.result 0 c.requires.words (omega (arith, c.requires.count, c.place.ensures.within))

pub returns : goal.returns
returns c =
    c.is_plain_word.ensures
    ∙ plain_at c.args.sizes c.args.words.now c.args.cell c.place.result 0 c.place.ensures.place
    (omega (arith, c.requires.count, c.place.ensures.within))
