use Rattle.formula_syntax.proofs.Printed.{spelt_plain}
use Rattle.formula_syntax.proofs.Shorter.{plain_no_longer, plain_no_deeper, plain_read}
use Rattle.formula_syntax.proofs.Spells.{spells_unique}
use Rattle.formula_syntax.proofs.Withins.{editions_grow}
use Rattle.formula_syntax.proofs.laws.formula_laws.Goals as goal

pub returns : goal.returns
returns c = record {
  spells_one_tree = spells_unique;
  plain_spells = spelt_plain;
  plain_shortest = plain_no_longer;
  plain_shallowest = plain_no_deeper;
  plain_read = plain_read;
  editions = editions_grow;
}
