use Rattle.std.proofs.Common.{rules, arith, ◌≤◌}
use Rattle.std.proofs.lemmas.Grind.{common_steps}
use Rattle.std.proofs.lemmas.List.Elements.{All-more}
use Rattle.sheet_refs.specs.Names.{IsDigit}
use Rattle.sheet_refs.proofs.names.decimal_of.Goals as goal

pub loop-digit-preserved : goal.loop-digit-preserved
loop-digit-preserved c = (grind (arith, common_steps), All-more IsDigit c.args.text.now c.loop-digit.digit-index 0 (search rules) (search rules) (search rules))
