use Rattle.std.proofs.Common.{◌≡◌, ◌+◌, ℕ, suc, true, false, [], ◌∷◌, ◌++◌, ◌∙◌, ap, ap₂, refl, sym, subst, arith, rules}
use Rattle.text_pieces.specs.Pieces.{HandsOut}
use Rattle.text_pieces.proofs.PieceLemmas.{Completes, and_then, cut, ended, next, none}
use Rattle.formula_syntax.specs.declared.tree.Node as node
use Rattle.formula_syntax.specs.declared.tree.Node.TheFolds.{the_lemmas}
use Rattle.formula_syntax.specs.Grammar.{level_of}
use Rattle.formula_syntax.specs.Left.{HasLeft, leaf_text, right_text, text_behind}
use Rattle.formula_syntax.specs.Printing.{at_level, others_text, parameters_text, tree_text}
use Rattle.formula_syntax.specs.Tree.{Tree, number, truth, error, reference, prefix, binary, call, parameters_of, tree_of, trees_of}
use Rattle.formula_syntax.proofs.LeftLemmas.{at_loosest, cut_first, cut_leaf, cut_next, fewer_left, front_sent}
use Rattle.formula_syntax.proofs.LeftLemmas.{gone_first, gone_next, inner_cut, left_smaller, no_others, no_parameters, outer_sent}
use Rattle.formula_syntax.proofs.LeftLemmas.{one_further, some_more, some_parameters}
use Rattle.formula_syntax.proofs.printer.+printing.Goals as goal

pub send_back-returns-then-depth-eq0-clause-sent : goal.send_back-returns-then-depth-eq0-clause-sent
send_back-returns-then-depth-eq0-clause-sent g t c =
    let nothing = ap (λ (d : ℕ). text_behind d c.args.level (tree_of c.args.root.now)) (sym c.if-depth-eq0.true) in
    subst (λ t. HandsOut g.F.FnMut c.args.to.now t true c.args.to.now) nothing (none g.F.FnMut c.args.to.now)

pub send_back-returns-then-not-send_back-clause-sent : goal.send_back-returns-then-not-send_back-clause-sent
send_back-returns-then-not-send_back-clause-sent g t c =
    inner_cut g.F.FnMut _ _ _ c.args.depth c.args.level (tree_of c.args.root.now) _ _ (omega arith) c.below-at.ensures.tree
    c.below-at.ensures.level c.if-not-send_back.ensures.sent

pub send_back-returns-clause-sent : goal.send_back-returns-clause-sent
send_back-returns-clause-sent g t c =
    outer_sent g.F.FnMut _ _ _ _ c.args.depth c.args.level (tree_of c.args.root.now) _ _ _ (omega arith) c.below-at.ensures.tree
    c.below-at.ensures.level c.if-not-send_back.ensures.sent c.send_back-2.ensures.sent

pub send_call-returns-then-not-send-clause-sent : goal.send_call-returns-then-not-send-clause-sent
send_call-returns-then-not-send-clause-sent g n c =
    let name = c.as_bytes.ensures.value ∙ c.name.ensures in
    subst (λ n. HandsOut g.F.FnMut c.args.to.now (n ++ 40 ∷ (parameters_text (trees_of c.args.nodes.now) ++ 41 ∷ [])) false c.send.new.to) name
    (cut g.F.FnMut _ _ _ _ c.if-not-send.ensures.sent)

pub send_call-returns-then-not-send-2-clause-sent : goal.send_call-returns-then-not-send-2-clause-sent
send_call-returns-then-not-send-2-clause-sent g n c =
    let name = c.as_bytes.ensures.value ∙ c.name.ensures in
    let rest = parameters_text (trees_of c.args.nodes.now) ++ 41 ∷ [] in
    subst (λ n. HandsOut g.F.FnMut c.args.to.now (n ++ 40 ∷ rest) false c.send-2.new.to) name
    (and_then g.F.FnMut _ _ _ _ _ _ c.if-not-send.ensures.sent (cut g.F.FnMut _ _ (40 ∷ []) rest c.if-not-send-2.ensures.sent))

pub send_call-returns-then-not-send_parameters-clause-sent : goal.send_call-returns-then-not-send_parameters-clause-sent
send_call-returns-then-not-send_parameters-clause-sent g n c =
    let name = c.as_bytes.ensures.value ∙ c.name.ensures in
    let parameters = parameters_text (trees_of c.args.nodes.now) in
    subst (λ n. HandsOut g.F.FnMut c.args.to.now (n ++ 40 ∷ (parameters ++ 41 ∷ [])) false c.send_parameters.new.to) name
    (and_then g.F.FnMut _ _ _ _ _ _ c.if-not-send.ensures.sent
    (and_then g.F.FnMut _ _ _ (40 ∷ []) _ _ c.if-not-send-2.ensures.sent (cut g.F.FnMut _ _ parameters (41 ∷ []) c.if-not-send_parameters.ensures.sent)))

pub send_call-returns-clause-sent : goal.send_call-returns-clause-sent
send_call-returns-clause-sent g n c =
    let name = c.as_bytes.ensures.value ∙ c.name.ensures in
    let parameters = parameters_text (trees_of c.args.nodes.now) in
    subst (λ n. HandsOut g.F.FnMut c.args.to.now (n ++ 40 ∷ (parameters ++ 41 ∷ [])) c.send-3.result c.send-3.new.to) name
    (and_then g.F.FnMut _ _ _ _ _ _ c.if-not-send.ensures.sent
    (and_then g.F.FnMut _ _ _ (40 ∷ []) _ _ c.if-not-send-2.ensures.sent
    (and_then g.F.FnMut _ _ _ _ _ _ c.if-not-send_parameters.ensures.sent c.send-3.ensures.sent)))

pub send_closing-returns-clause-sent : goal.send_closing-returns-clause-sent
send_closing-returns-clause-sent g n c = and_then g.F.FnMut _ _ _ _ _ _ c.if-not-send_right.ensures.sent c.send_bracket.ensures.sent

pub send_front-returns-then-not-send_opening-clause-sent : goal.send_front-returns-then-not-send_opening-clause-sent
send_front-returns-then-not-send_opening-clause-sent g n c = cut_first g.F.FnMut _ _ c.args.level (tree_of c.args.root.now) c.if-not-send_opening.ensures.sent

pub send_front-loop-left-init : goal.send_front-loop-left-init
send_front-loop-left-init g n c = record {
  callable = c.if-not-send_opening.ensures.callable;
  here = refl;
  at = refl;
  few = omega arith;
  gone = gone_first g.F.FnMut _ _ c.args.level (tree_of c.args.root.now) c.if-not-send_opening.ensures.sent;
}

pub send_front-returns-then-not-send_opening-2-clause-sent : goal.send_front-returns-then-not-send_opening-2-clause-sent
send_front-returns-then-not-send_opening-2-clause-sent g n c =
    let root = tree_of c.args.root.now in
    let left = subst (λ (t : Tree). HasLeft t (tree_of c.in-Some.left.now) c.in-Some.least) c.loop-left.invariant.here c.in-Some.ensures in
    cut_next g.F.FnMut _ _ _ c.args.level root (tree_of c.in-Some.left.now) c.in-Some.least c.loop-left.depth
    c.loop-left.invariant.gone left c.if-not-send_opening-2.ensures.sent

pub send_front-loop-left-preserved : goal.send_front-loop-left-preserved
send_front-loop-left-preserved g n c =
    let root = tree_of c.args.root.now in
    let child = tree_of c.in-Some.left.now in
    let left = subst (λ (t : Tree). HasLeft t child c.in-Some.least) c.loop-left.invariant.here c.in-Some.ensures in
    let (there, at) = one_further c.loop-left.depth c.args.level root child c.in-Some.least left in
    let step : c.loop-left.depth + 1 ≡ suc c.loop-left.depth = omega arith in
    record {
      callable = c.if-not-send_opening-2.ensures.callable;
      here = sym (rw step there);
      at = sym (rw step at);
      few = omega (arith, left_smaller (tree_of c.loop-left.node.now) child c.in-Some.least c.in-Some.ensures, c.loop-left.invariant.few);
      gone = gone_next g.F.FnMut _ _ _ c.args.level root child c.in-Some.least c.loop-left.depth (c.loop-left.depth + 1)
          step c.loop-left.invariant.gone left c.if-not-send_opening-2.ensures.sent;
    }

pub send_front-returns-then-not-send_leaf-clause-sent : goal.send_front-returns-then-not-send_leaf-clause-sent
send_front-returns-then-not-send_leaf-clause-sent g n c =
    cut_leaf g.F.FnMut _ _ _ c.args.level (tree_of c.args.root.now) (tree_of c.loop-left.node.now) c.loop-left.depth
    c.loop-left.invariant.here c.loop-left.invariant.gone c.in_default.ensures c.if-not-send_leaf.ensures.sent

pub send_front-returns-clause-sent : goal.send_front-returns-clause-sent
send_front-returns-clause-sent g n c =
    front_sent g.F.FnMut _ _ _ c.args.level (tree_of c.args.root.now) (tree_of c.loop-left.node.now) c.loop-left.depth
    c.loop-left.invariant.here c.loop-left.invariant.few c.loop-left.invariant.gone c.in_default.ensures
    c.if-not-send_leaf.ensures.sent

pub send_others-returns-then-not-send-clause-sent : goal.send_others-returns-then-not-send-clause-sent
send_others-returns-then-not-send-clause-sent g n c =
    let all = others_text (trees_of c.args.nodes.now) in
    let more = some_more c.loop-first.left.now c.in-Some.first.now c.in-Some.rest.now c.in-Some.ensures.cases.0 in
    ended g.F.FnMut _ _ _ _ (59 ∷ []) _ (subst (Completes g.F.FnMut c.args.to.now all c.loop-first.to) more
    c.loop-first.invariant.completes) c.if-not-send.ensures.sent

pub send_others-returns-then-not-send_tree-clause-sent : goal.send_others-returns-then-not-send_tree-clause-sent
send_others-returns-then-not-send_tree-clause-sent g n c =
    let all = others_text (trees_of c.args.nodes.now) in
    let more = some_more c.loop-first.left.now c.in-Some.first.now c.in-Some.rest.now c.in-Some.ensures.cases.0 in
    ended g.F.FnMut _ _ _ _ _ _ (next g.F.FnMut _ _ _ _ (59
    ∷ []) _ (subst (Completes g.F.FnMut c.args.to.now all c.loop-first.to) more c.loop-first.invariant.completes)
    c.if-not-send.ensures.sent)
    (subst (λ t. HandsOut g.F.FnMut c.send.new.to t false c.send_tree.new.to) (at_loosest (tree_of c.in-Some.first.now)) c.if-not-send_tree.ensures.sent)

pub send_others-loop-first-preserved : goal.send_others-loop-first-preserved
send_others-loop-first-preserved g n c =
    let all = others_text (trees_of c.args.nodes.now) in
    let more = some_more c.loop-first.left.now c.in-Some.first.now c.in-Some.rest.now c.in-Some.ensures.cases.0 in
    let fewer = fewer_left c.loop-first.left.now c.in-Some.first.now c.in-Some.rest.now c.in-Some.ensures.cases.0 in
    record {
      callable = c.if-not-send_tree.ensures.callable;
      fewer = omega (arith, fewer, c.loop-first.invariant.fewer);
      completes =
          next g.F.FnMut _ _ _ _ _ _ (next g.F.FnMut _ _ _ _ (59
          ∷ []) _ (subst (Completes g.F.FnMut c.args.to.now all c.loop-first.to) more
          c.loop-first.invariant.completes) c.if-not-send.ensures.sent)
          (subst (λ t. HandsOut g.F.FnMut c.send.new.to t true c.send_tree.new.to) (at_loosest (tree_of c.in-Some.first.now)) c.if-not-send_tree.ensures.sent);
    }

pub send_others-returns-clause-sent : goal.send_others-returns-clause-sent
send_others-returns-clause-sent g n c =
    let all = others_text (trees_of c.args.nodes.now) in
    subst (Completes g.F.FnMut c.args.to.now all c.loop-first.to)
    (no_others c.loop-first.left.now c.in_default.ensures.cases) c.loop-first.invariant.completes _ _
    (none g.F.FnMut c.loop-first.to)

pub send_parameters-returns-in_default-clause-sent : goal.send_parameters-returns-in_default-clause-sent
send_parameters-returns-in_default-clause-sent g n c =
    subst (λ t. HandsOut g.F.FnMut c.args.to.now t true c.args.to.now)
    (sym (no_parameters c.args.nodes.now c.in_default.ensures.cases)) (none g.F.FnMut c.args.to.now)

pub send_parameters-returns-then-not-send_tree-clause-sent : goal.send_parameters-returns-then-not-send_tree-clause-sent
send_parameters-returns-then-not-send_tree-clause-sent g n c =
    let first = subst (λ t. HandsOut g.F.FnMut c.args.to.now t false c.send_tree.new.to)
    (at_loosest (tree_of c.in-Some.first.now)) c.if-not-send_tree.ensures.sent in
    subst (λ t. HandsOut g.F.FnMut c.args.to.now t false c.send_tree.new.to)
    (sym (some_parameters c.args.nodes.now c.in-Some.first.now c.in-Some.rest.now c.in-Some.ensures.cases.0))
    (cut g.F.FnMut _ _ _ _ first)

pub send_parameters-returns-clause-sent : goal.send_parameters-returns-clause-sent
send_parameters-returns-clause-sent g n c =
    let first = subst (λ t. HandsOut g.F.FnMut c.args.to.now t true c.send_tree.new.to)
    (at_loosest (tree_of c.in-Some.first.now)) c.if-not-send_tree.ensures.sent in
    subst (λ t. HandsOut g.F.FnMut c.args.to.now t c.send_others.result c.send_others.new.to)
    (sym (some_parameters c.args.nodes.now c.in-Some.first.now c.in-Some.rest.now c.in-Some.ensures.cases.0))
    (and_then g.F.FnMut _ _ _ _ _ _ first c.send_others.ensures.sent)

pub send_right-returns-then-not-send-clause-sent : goal.send_right-returns-then-not-send-clause-sent
send_right-returns-then-not-send-clause-sent g n c =
    let same : tree_of (node.Binary c.in-Binary.op c.in-Binary.field-1 c.in-Binary.right) ≡ binary c.in-Binary.op
    (tree_of c.in-Binary.field-1.value) (tree_of c.in-Binary.right.value) = search (rules, the_lemmas) in
    let is : tree_of c.args.node.now ≡ binary c.in-Binary.op (tree_of c.in-Binary.field-1.value) (tree_of c.in-Binary.right.value) = rw c.in-Binary.is same in
    let symbol = c.as_bytes.ensures.value ∙ c.symbol.ensures in
    let right = at_level (suc (level_of c.in-Binary.op)) (tree_of c.in-Binary.right.value) (tree_text (tree_of c.in-Binary.right.value)) in
    subst (λ t. HandsOut g.F.FnMut c.args.to.now t false c.send.new.to) (ap (λ s. s ++ right) symbol ∙ ap right_text (sym is))
    (cut g.F.FnMut _ _ _ right c.if-not-send.ensures.sent)

pub send_right-returns-else-not-send-clause-sent : goal.send_right-returns-else-not-send-clause-sent
send_right-returns-else-not-send-clause-sent g n c =
    let same : tree_of (node.Binary c.in-Binary.op c.in-Binary.field-1 c.in-Binary.right) ≡ binary c.in-Binary.op
    (tree_of c.in-Binary.field-1.value) (tree_of c.in-Binary.right.value) = search (rules, the_lemmas) in
    let is : tree_of c.args.node.now ≡ binary c.in-Binary.op (tree_of c.in-Binary.field-1.value) (tree_of c.in-Binary.right.value) = rw c.in-Binary.is same in
    let symbol = c.as_bytes.ensures.value ∙ c.symbol.ensures in
    let step : c.level.result + 1 ≡ suc (level_of c.in-Binary.op) = omega (arith, c.level.ensures.level) in
    let right : at_level (c.level.result + 1) (tree_of c.deref.result.now)
    (tree_text (tree_of c.deref.result.now)) ≡ at_level (suc (level_of c.in-Binary.op))
    (tree_of c.in-Binary.right.value) (tree_text (tree_of c.in-Binary.right.value)) =
    ap₂ (λ l (t : Tree). at_level l t (tree_text t)) step (ap tree_of c.deref.ensures) in
    subst (λ t. HandsOut g.F.FnMut c.args.to.now t c.send_tree.result c.send_tree.new.to) (ap₂ (λ s r. s ++ r) symbol right ∙ ap right_text (sym is))
    (and_then g.F.FnMut _ _ _ _ _ _ c.if-not-send.ensures.sent c.send_tree.ensures.sent)

pub send_tree-returns-in-Some-clause-sent : goal.send_tree-returns-in-Some-clause-sent
send_tree-returns-in-Some-clause-sent g n c =
    let front = c.in-Some.ensures.sent in
    let step : c.in-Some.depth + 1 ≡ suc c.in-Some.depth = omega arith in
    subst (λ t. HandsOut g.F.FnMut c.args.to.now t c.send_back.result c.send_back.new.to) (sym front.whole)
    (and_then g.F.FnMut _ _ _ _ _ _ front.sent
    (subst (λ (d : ℕ). HandsOut g.F.FnMut c.send_front.new.to (text_behind d c.args.level (tree_of c.args.root.now))
    c.send_back.result c.send_back.new.to) step c.send_back.ensures.sent))

pub send_leaf-returns-in-Prefix-clause-sent : goal.send_leaf-returns-in-Prefix-clause-sent
send_leaf-returns-in-Prefix-clause-sent g n c =
    let same : tree_of (node.Prefix c.in-Prefix.field-0 c.in-Prefix.field-1) ≡ prefix c.in-Prefix.field-0
    (tree_of c.in-Prefix.field-1.value) = search (rules, the_lemmas) in
    let nothing : leaf_text (tree_of c.args.node.now) ≡ [] = rw c.in-Prefix.is (ap leaf_text same) in
    subst (λ t. HandsOut g.F.FnMut c.args.to.now t true c.args.to.now) (sym nothing) (none g.F.FnMut c.args.to.now)

pub send_leaf-returns-in-Binary-clause-sent : goal.send_leaf-returns-in-Binary-clause-sent
send_leaf-returns-in-Binary-clause-sent g n c =
    let same : tree_of (node.Binary c.in-Binary.field-0 c.in-Binary.field-1 c.in-Binary.field-2) ≡ binary
    c.in-Binary.field-0 (tree_of c.in-Binary.field-1.value) (tree_of c.in-Binary.field-2.value) =
    search (rules, the_lemmas) in
    let nothing : leaf_text (tree_of c.args.node.now) ≡ [] = rw c.in-Binary.is (ap leaf_text same) in
    subst (λ t. HandsOut g.F.FnMut c.args.to.now t true c.args.to.now) (sym nothing) (none g.F.FnMut c.args.to.now)

pub send_right-returns-in-Number-clause-sent : goal.send_right-returns-in-Number-clause-sent
send_right-returns-in-Number-clause-sent g n c =
    let same : tree_of (node.Number c.in-Number.field-0) ≡ number c.in-Number.field-0 = search (rules, the_lemmas) in
    let nothing : right_text (tree_of c.args.node.now) ≡ [] = rw c.in-Number.is (ap right_text same) in
    subst (λ t. HandsOut g.F.FnMut c.args.to.now t true c.args.to.now) (sym nothing) (none g.F.FnMut c.args.to.now)

pub send_right-returns-in-Truth-clause-sent : goal.send_right-returns-in-Truth-clause-sent
send_right-returns-in-Truth-clause-sent g n c =
    let same : tree_of (node.Truth c.in-Truth.field-0) ≡ truth c.in-Truth.field-0 = search (rules, the_lemmas) in
    let nothing : right_text (tree_of c.args.node.now) ≡ [] = rw c.in-Truth.is (ap right_text same) in
    subst (λ t. HandsOut g.F.FnMut c.args.to.now t true c.args.to.now) (sym nothing) (none g.F.FnMut c.args.to.now)

pub send_right-returns-in-Error-clause-sent : goal.send_right-returns-in-Error-clause-sent
send_right-returns-in-Error-clause-sent g n c =
    let same : tree_of (node.Error c.in-Error.field-0) ≡ error c.in-Error.field-0 = search (rules, the_lemmas) in
    let nothing : right_text (tree_of c.args.node.now) ≡ [] = rw c.in-Error.is (ap right_text same) in
    subst (λ t. HandsOut g.F.FnMut c.args.to.now t true c.args.to.now) (sym nothing) (none g.F.FnMut c.args.to.now)

pub send_right-returns-in-Reference-clause-sent : goal.send_right-returns-in-Reference-clause-sent
send_right-returns-in-Reference-clause-sent g n c =
    let same : tree_of (node.Reference c.in-Reference.field-0) ≡ reference c.in-Reference.field-0 = search (rules, the_lemmas) in
    let nothing : right_text (tree_of c.args.node.now) ≡ [] = rw c.in-Reference.is (ap right_text same) in
    subst (λ t. HandsOut g.F.FnMut c.args.to.now t true c.args.to.now) (sym nothing) (none g.F.FnMut c.args.to.now)

pub send_right-returns-in-Prefix-clause-sent : goal.send_right-returns-in-Prefix-clause-sent
send_right-returns-in-Prefix-clause-sent g n c =
    let same : tree_of (node.Prefix c.in-Prefix.field-0 c.in-Prefix.field-1) ≡ prefix c.in-Prefix.field-0
    (tree_of c.in-Prefix.field-1.value) = search (rules, the_lemmas) in
    let nothing : right_text (tree_of c.args.node.now) ≡ [] = rw c.in-Prefix.is (ap right_text same) in
    subst (λ t. HandsOut g.F.FnMut c.args.to.now t true c.args.to.now) (sym nothing) (none g.F.FnMut c.args.to.now)

pub send_right-returns-in-Call-clause-sent : goal.send_right-returns-in-Call-clause-sent
send_right-returns-in-Call-clause-sent g n c =
    let same : tree_of (node.Call c.in-Call.field-0 c.in-Call.field-1) ≡ call c.in-Call.field-0
    (parameters_of c.in-Call.field-1) = search (rules, the_lemmas) in
    let nothing : right_text (tree_of c.args.node.now) ≡ [] = rw c.in-Call.is (ap right_text same) in
    subst (λ t. HandsOut g.F.FnMut c.args.to.now t true c.args.to.now) (sym nothing) (none g.F.FnMut c.args.to.now)
