use Rattle.std.proofs.Common.{◌≡◌, rules}
use Rattle.formula_syntax.specs.declared.tree.Node.TheFolds.{the_lemmas}
use Rattle.formula_syntax.proofs.parser.call_of.Goals as goal

pub returns : goal.returns
returns c =
    let kept : c.in_ok-nodes.nodes.value.items ≡ c.args.nodes.items = search rules in
    search (rules, the_lemmas, kept)
