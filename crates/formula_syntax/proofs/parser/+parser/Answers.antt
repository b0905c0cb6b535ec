use Rattle.std.proofs.Common.{◌≡◌, suc, ◌+◌, ◌≤◌, ◌∷◌, ◌++◌, [], length, map, rules, arith, sym, ap, ◌∙◌}
use Rattle.std.proofs.lemmas.Result.{err_from_is_err_and}
use Rattle.std.proofs.lemmas.List.{map-append}
use Rattle.formula_syntax.specs.declared.tokens.Token.TheVariants as token
use Rattle.formula_syntax.specs.Grammar.{level_of}
use Rattle.formula_syntax.specs.Reading.{with_signs}
use Rattle.formula_syntax.specs.Tree.{tree_of, binary}
use Rattle.formula_syntax.proofs.Steps.{climb_starts, climb_fails, climb_ends, climb_more, climb_breaks, none_tighter}
use Rattle.formula_syntax.proofs.Steps.{signs_read, signs_fail, primary_answers, nothing_reads, all_start, all_more}
use Rattle.formula_syntax.proofs.Steps.{all_end, all_stop, all_fail}
use Rattle.formula_syntax.proofs.parser.+parser.Goals as goal

pub expression-returns-in_err-left-clause-read : goal.expression-returns-in_err-left-clause-read
expression-returns-in_err-left-clause-read t c =
    let p = err_from_is_err_and c.from_residual.result c.from_residual.ensures.1 in
    rw (p.1, p.2) (climb_fails c.args.at c.args.tokens.now _ (omega arith) c.in_err-left.ensures.read)

pub expression-loop-op-init : goal.expression-loop-op-init
expression-loop-op-init t c = record {
  small = omega arith;
  within = c.in_ok-left.ensures.shorter;
  climbs = climb_starts c.args.at c.args.tokens.now c.in_ok-left.rest.now (tree_of c.in_ok-left.left) (omega arith)
      c.in_ok-left.ensures.shorter c.in_ok-left.ensures.read;
}

pub expression-returns-in_err-right-clause-read : goal.expression-returns-in_err-right-clause-read
expression-returns-in_err-right-clause-read t c =
    let p = err_from_is_err_and c.from_residual-in_err-right.result c.from_residual-in_err-right.ensures.1 in
    let split : c.loop-op.rest.now ≡ token.Operator c.in-Some.op ∷ c.in-Some.behind.now = search rules in
    let from : c.args.at ≤ level_of c.in-Some.op = search rules in
    let next : c.level.result + 1 ≡ suc (level_of c.in-Some.op) = omega (arith, c.level.ensures.level) in
    rw (p.1, p.2) (climb_breaks c.args.at (c.level.result + 1) c.in-Some.op c.args.tokens.now c.loop-op.rest.now
    c.in-Some.behind.now (tree_of c.loop-op.left) _ next from c.loop-op.invariant.within split
    c.in_err-right.ensures.read c.loop-op.invariant.climbs)

pub expression-loop-op-preserved : goal.expression-loop-op-preserved
expression-loop-op-preserved t c =
    let split : c.loop-op.rest.now ≡ token.Operator c.in-Some.op ∷ c.in-Some.behind.now = search rules in
    let from : c.args.at ≤ level_of c.in-Some.op = search rules in
    let next : c.level.result + 1 ≡ suc (level_of c.in-Some.op) = omega (arith, c.level.ensures.level) in
    let joined : tree_of c.in_ok-left-2.left ≡ binary c.in-Some.op (tree_of c.loop-op.left) (tree_of c.in_ok-right.right) = c.in_ok-left-2.ensures in
    record {
      small = c.loop-op.invariant.small;
      within = omega (arith, c.loop-op.invariant.within, c.in_ok-right.ensures.shorter, ap length split);
      climbs = climb_more c.args.at (c.level.result + 1) c.in-Some.op c.args.tokens.now c.loop-op.rest.now
          c.in-Some.behind.now c.in_ok-right.behind.now (tree_of c.loop-op.left) (tree_of c.in_ok-right.right)
          (tree_of c.in_ok-left-2.left) next from c.loop-op.invariant.within split joined c.in_ok-right.ensures.shorter
          c.in_ok-right.ensures.read c.in_ok-right.ensures.looser c.loop-op.invariant.climbs;
    }

pub expression-returns-clause-read : goal.expression-returns-clause-read
expression-returns-clause-read t c = climb_ends c.args.at c.args.tokens.now c.loop-op.rest.now (tree_of c.loop-op.left)
    c.loop-op.invariant.within (search rules) c.loop-op.invariant.climbs

pub signed_operand-returns-clause-looser : goal.signed_operand-returns-clause-looser
signed_operand-returns-clause-looser t c = none_tighter c.in_ok-node.rest.now

pub signed_operand-returns-in_err-node-clause-read : goal.signed_operand-returns-in_err-node-clause-read
signed_operand-returns-in_err-node-clause-read t c =
    let p = err_from_is_err_and c.from_residual-in_err-node.result c.from_residual-in_err-node.ensures.1 in
    rw (p.1, p.2) (signs_fail c.args.tokens.now c.in_ok-signs.operand.now _ c.in_ok-signs.ensures.behind
    c.in_ok-signs.ensures.within c.in_err-node.ensures.read)

pub signed_operand-returns-clause-read : goal.signed_operand-returns-clause-read
signed_operand-returns-clause-read t c =
    let signed : tree_of c.in_ok-node-2.node ≡ with_signs c.args.tokens.now (tree_of c.in_ok-node.node) =
    c.in_ok-node-2.ensures ∙ sym (c.in_ok-signs.ensures.signs (tree_of c.in_ok-node.node)) in
    signs_read c.args.tokens.now c.in_ok-signs.operand.now c.in_ok-node.rest.now (tree_of c.in_ok-node.node)
    (tree_of c.in_ok-node-2.node) c.in_ok-signs.ensures.behind signed c.in_ok-signs.ensures.within
    c.in_ok-node.ensures.read

pub primary-returns-in-Some-clause-read : goal.primary-returns-in-Some-clause-read
primary-returns-in-Some-clause-read t c =
    let split : c.args.tokens.now ≡ c.in-Some.first.now ∷ c.in-Some.rest.now = c.in-Some.ensures.cases.0 in
    primary_answers c.args.tokens.now c.in-Some.rest.now c.in-Some.first.now c.primary_from.result split c.primary_from.ensures.read

pub primary-returns-in-None-clause-read : goal.primary-returns-in-None-clause-read
primary-returns-in-None-clause-read t c = nothing_reads c.args.tokens.now c.in-None.ensures.cases

pub some_parameters-loop-nodes-init : goal.some_parameters-loop-nodes-init
some_parameters-loop-nodes-init t c = record {
  within = omega arith;
  leads = all_start c.args.tokens.now (map tree_of c.new-nodes.result.items) (ap (map tree_of) c.new-nodes.ensures.items);
}

pub some_parameters-returns-in_err-node-clause-read : goal.some_parameters-returns-in_err-node-clause-read
some_parameters-returns-in_err-node-clause-read t c =
    let p = err_from_is_err_and c.from_residual.result c.from_residual.ensures.1 in
    rw (p.1, p.2) (all_fail c.args.tokens.now c.loop-nodes.left.now (map tree_of c.loop-nodes.nodes.items) _
    c.in_err-node.ensures.read c.loop-nodes.invariant.leads)

pub some_parameters-returns-in-Some-clause-read : goal.some_parameters-returns-in-Some-clause-read
some_parameters-returns-in-Some-clause-read t c =
    let items : map tree_of c.push.new.self.items ≡ map tree_of c.loop-nodes.nodes.items ++ (tree_of c.in_ok-node.node ∷ []) = search (rules, map-append) in
    all_end c.args.tokens.now c.loop-nodes.left.now c.in_ok-node.behind.now c.in-Some.rest.now
    (map tree_of c.loop-nodes.nodes.items) (map tree_of c.push.new.self.items) (tree_of c.in_ok-node.node) items
    (search rules) c.in_ok-node.ensures.read c.loop-nodes.invariant.leads

pub some_parameters-returns-in_default-behind_separator-clause-read : goal.some_parameters-returns-in_default-behind_separator-clause-read
some_parameters-returns-in_default-behind_separator-clause-read t c =
    all_stop c.args.tokens.now c.loop-nodes.left.now c.in_ok-node.behind.now (map tree_of c.loop-nodes.nodes.items)
    (tree_of c.in_ok-node.node) (search rules) (search rules) c.in_ok-node.ensures.read c.loop-nodes.invariant.leads

pub some_parameters-loop-nodes-preserved : goal.some_parameters-loop-nodes-preserved
some_parameters-loop-nodes-preserved t c =
    let items : map tree_of c.push.new.self.items ≡ map tree_of c.loop-nodes.nodes.items ++ (tree_of c.in_ok-node.node ∷ []) = search (rules, map-append) in
    let split : c.in_ok-node.behind.now ≡ token.Separator ∷ c.in-Some-behind_separator.rest.now = search rules in
    record {
      within = omega (arith, ap length split, c.in_ok-node.ensures.shorter, c.loop-nodes.invariant.within);
      leads =
          all_more c.args.tokens.now c.loop-nodes.left.now c.in_ok-node.behind.now c.in-Some-behind_separator.rest.now
          (map tree_of c.loop-nodes.nodes.items) (map tree_of c.push.new.self.items) (tree_of c.in_ok-node.node) items
          split c.in_ok-node.ensures.shorter c.in_ok-node.ensures.read c.loop-nodes.invariant.leads;
    }
