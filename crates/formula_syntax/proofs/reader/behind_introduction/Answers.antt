use Rattle.std.proofs.Common.{refl, rules}
use Rattle.formula_syntax.proofs.Spells.{equals_found, prefix_found, not_introduced_by}
use Rattle.formula_syntax.proofs.reader.behind_introduction.Goals as goal

pub returns-in-Some : goal.returns-in-Some
returns-in-Some c = equals_found c.args.text.now c.in-Some.rest.now c.in-Some.ensures

pub returns-then-starts_with : goal.returns-then-starts_with
returns-then-starts_with c = prefix_found c.args.text.now _ (search rules) refl

pub returns : goal.returns
returns c = not_introduced_by c.args.text.now (search rules) (search rules)
