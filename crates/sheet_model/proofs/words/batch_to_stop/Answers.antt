use Rattle.std.proofs.Common.{refl, rules}
use Rattle.sheet_model.proofs.LineLemmas.{plain_all, numbers_plain}
use Rattle.sheet_model.proofs.words.batch_to_stop.Goals as goal

pub returns-then-are_numbers : goal.returns-then-are_numbers
returns-then-are_numbers c =
    plain_all c.args.words.now c.args.first c.args.step c.args.count c.args.count
    (numbers_plain c.args.words.now c.args.first c.args.step c.args.count c.requires.words c.requires.within
    (c.are_numbers.ensures (search rules))) refl
