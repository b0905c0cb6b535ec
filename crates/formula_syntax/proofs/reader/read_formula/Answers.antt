use Rattle.formula_syntax.proofs.Spells.{exactly_deep, exactly_none, exactly_many, surely_read}
use Rattle.formula_syntax.proofs.reader.read_formula.Goals as goal

pub returns-clause-too_deep : goal.returns-clause-too_deep
returns-clause-too_deep c = λ m. exactly_deep c.args.edition c.args.text.now c.read.result m c.read.ensures

pub returns-clause-not_formula : goal.returns-clause-not_formula
returns-clause-not_formula c = λ m. exactly_none c.args.edition c.args.text.now c.read.result m c.read.ensures

pub returns-clause-too_many_refs : goal.returns-clause-too_many_refs
returns-clause-too_many_refs c = λ m. exactly_many c.args.edition c.args.text.now c.read.result m c.read.ensures

pub returns-clause-reads : goal.returns-clause-reads
returns-clause-reads c = λ t m is. surely_read c.args.edition c.args.text.now c.read.result m c.read.ensures t is
