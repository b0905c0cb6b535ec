use Rattle.std.proofs.Common.{◌≡◌, map, true, false, rules, ◌∙◌}
use Rattle.formula_syntax.specs.Functions.{shape_of}
use Rattle.formula_syntax.specs.Reading.{references_at}
use Rattle.formula_syntax.specs.Tree.{tree_of}
use Rattle.formula_syntax.proofs.Rebuildings.{call_kept, call_lost}
use Rattle.formula_syntax.proofs.shifting.call_or_error.Goals as goal

pub returns-in_ok-call : goal.returns-in_ok-call
returns-in_ok-call c =
    let test : references_at (shape_of c.args.function).references (map tree_of c.args.nodes.items) ≡ true = search rules in
    c.in_ok-call.ensures ∙ call_kept c.args.function (map tree_of c.args.nodes.items) test

pub returns-else-references_at : goal.returns-else-references_at
returns-else-references_at c =
    let test : references_at (shape_of c.args.function).references (map tree_of c.args.nodes.items) ≡ false = search rules in
    c.error_of.ensures ∙ call_lost c.args.function (map tree_of c.args.nodes.items) test
