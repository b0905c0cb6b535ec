use Rattle.std.proofs.Common.{◌≡◌, ◌<◌, length, arith}
use Rattle.std.proofs.lemmas.Grind.{common_steps}
use Rattle.std.proofs.lemmas.Result.{err_from_is_err_and}
use Rattle.formula_syntax.specs.Tree.{tree_of}
use Rattle.formula_syntax.proofs.Spells.{whole_derives, err_derives, part_derives}
use Rattle.formula_syntax.proofs.reader.read_tree.Goals as goal

pub returns-in_err-node-clause-not : goal.returns-in_err-node-clause-not
returns-in_err-node-clause-not c =
    let p = err_from_is_err_and c.from_residual.result c.from_residual.ensures.1 in
    rw (p.1, p.2) (err_derives c.args.tokens.now c.in_err-node.field-0.0 c.in_err-node.ensures.read)

pub returns-then-not-is_empty-clause-not : goal.returns-then-not-is_empty-clause-not
returns-then-not-is_empty-clause-not c = λ _ t.
    let some : 0 < length c.in_ok-node.rest.now = grind (arith, common_steps) in
    part_derives c.args.tokens.now c.in_ok-node.rest.now (tree_of c.in_ok-node.node) t some c.in_ok-node.ensures.read

pub returns-clause-read : goal.returns-clause-read
returns-clause-read c =
    let none : length c.in_ok-node.rest.now ≡ 0 = grind (arith, common_steps) in
    whole_derives c.args.tokens.now c.in_ok-node.rest.now (tree_of c.in_ok-node.node) none c.in_ok-node.ensures.read
