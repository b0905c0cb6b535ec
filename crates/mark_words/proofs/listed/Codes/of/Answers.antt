use Rattle.std.proofs.Common.{◌∙◌, ap}
use Rattle.mark_words.specs.Words.{codes_of_words}
use Rattle.mark_words.proofs.OpeningLemmas.{codes_open}
use Rattle.mark_words.proofs.listed.Codes.of.Goals as goal

pub returns : goal.returns
returns g = ap (λ v. codes_of_words v.items) g.of.ensures ∙ ap codes_of_words g.requires ∙ codes_open g.args._codes.now
