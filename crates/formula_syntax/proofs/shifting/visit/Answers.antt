use Rattle.std.proofs.Common.{◌≡◌, ◌*◌, ◌∷◌, ◌++◌, [], ap, sym, ◌∙◌, arith, rules}
use Rattle.formula_syntax.specs.declared.tree.Node as node
use Rattle.formula_syntax.specs.declared.tree.Node.TheFolds.{the_lemmas}
use Rattle.formula_syntax.specs.declared.shifting.Step.TheVariants.{Shift, Join}
use Rattle.formula_syntax.specs.Rebuilding.{stacked}
use Rattle.formula_syntax.specs.Shifting.{shifted, shifted_reference, or_lost}
use Rattle.formula_syntax.specs.Tree.{number, truth, error, reference, prefix, binary, call, tree_of, parameters_of, node_count}
use Rattle.formula_syntax.proofs.Rebuildings.{leaf_leads, prefix_leads, binary_leads, call_leads}
use Rattle.formula_syntax.proofs.shifting.visit.Goals as goal

pub returns-in_ok-push-in-Number : goal.returns-in_ok-push-in-Number
returns-in_ok-push-in-Number c =
    let same : tree_of (node.Number c.in-Number.number) ≡ number c.in-Number.number = search (rules, the_lemmas) in
    let is : tree_of c.args.node.now ≡ number c.in-Number.number = rw c.in-Number.is same in
    let more : c.push.new.self.items ≡ c.args.done.now.items ++ (node.Number c.in-Number.number ∷ []) = search rules in
    leaf_leads c.args.by.now.down c.args.by.now.right c.args.left.now.items c.args.done.now.items c.push.new.self.items
    (node.Number c.in-Number.number) (tree_of c.args.node.now) (4 * node_count (tree_of c.args.node.now)) more (same
    ∙ sym (ap (shifted c.args.by.now.down c.args.by.now.right) is)) (omega (arith, ap node_count is))

pub returns-in_ok-push-in-Truth : goal.returns-in_ok-push-in-Truth
returns-in_ok-push-in-Truth c =
    let same : tree_of (node.Truth c.in-Truth.truth) ≡ truth c.in-Truth.truth = search (rules, the_lemmas) in
    let is : tree_of c.args.node.now ≡ truth c.in-Truth.truth = rw c.in-Truth.is same in
    let more : c.push-in-Truth.new.self.items ≡ c.args.done.now.items ++ (node.Truth c.in-Truth.truth ∷ []) = search rules in
    leaf_leads c.args.by.now.down c.args.by.now.right c.args.left.now.items c.args.done.now.items
    c.push-in-Truth.new.self.items (node.Truth c.in-Truth.truth) (tree_of c.args.node.now)
    (4 * node_count (tree_of c.args.node.now)) more (same
    ∙ sym (ap (shifted c.args.by.now.down c.args.by.now.right) is)) (omega (arith, ap node_count is))

pub returns-in_ok-push-in-Error : goal.returns-in_ok-push-in-Error
returns-in_ok-push-in-Error c =
    let same : tree_of (node.Error c.in-Error.kind) ≡ error c.in-Error.kind = search (rules, the_lemmas) in
    let is : tree_of c.args.node.now ≡ error c.in-Error.kind = rw c.in-Error.is same in
    let more : c.push-in-Error.new.self.items ≡ c.args.done.now.items ++ (node.Error c.in-Error.kind ∷ []) = search rules in
    leaf_leads c.args.by.now.down c.args.by.now.right c.args.left.now.items c.args.done.now.items
    c.push-in-Error.new.self.items (node.Error c.in-Error.kind) (tree_of c.args.node.now)
    (4 * node_count (tree_of c.args.node.now)) more (same
    ∙ sym (ap (shifted c.args.by.now.down c.args.by.now.right) is)) (omega (arith, ap node_count is))

pub returns-in_ok-push-in-Reference : goal.returns-in_ok-push-in-Reference
returns-in_ok-push-in-Reference c =
    let same : tree_of (node.Reference c.in-Reference.reference) ≡ reference c.in-Reference.reference = search (rules, the_lemmas) in
    let is : tree_of c.args.node.now ≡ reference c.in-Reference.reference = rw c.in-Reference.is same in
    let made : tree_of c.reference_or_lost.result ≡ or_lost (shifted_reference c.args.by.now.down c.args.by.now.right
    c.in-Reference.reference) = search rules in
    let more : c.push-in-Reference.new.self.items ≡ c.args.done.now.items ++ (c.reference_or_lost.result ∷ []) = search rules in
    leaf_leads c.args.by.now.down c.args.by.now.right c.args.left.now.items c.args.done.now.items
    c.push-in-Reference.new.self.items c.reference_or_lost.result (tree_of c.args.node.now)
    (4 * node_count (tree_of c.args.node.now)) more (made
    ∙ sym (ap (shifted c.args.by.now.down c.args.by.now.right) is)) (omega (arith, ap node_count is))

pub returns-in_ok-push-in-Prefix-2 : goal.returns-in_ok-push-in-Prefix-2
returns-in_ok-push-in-Prefix-2 c =
    let same : tree_of (node.Prefix c.in-Prefix.field-0 c.in-Prefix.operand) ≡ prefix c.in-Prefix.field-0
    (tree_of c.in-Prefix.operand.value) = search (rules, the_lemmas) in
    let first : c.push-in-Prefix.new.self.items ≡ c.args.left.now.items ++ (Join c.args.node ∷ []) = search rules in
    let second : c.push-in-Prefix-2.new.self.items ≡ c.push-in-Prefix.new.self.items ++ (Shift c.alone.result ∷ []) = search rules in
    prefix_leads c.args.by.now.down c.args.by.now.right c.args.node c.in-Prefix.field-0 c.in-Prefix.operand.value
    c.alone.result c.args.left.now.items c.push-in-Prefix.new.self.items c.push-in-Prefix-2.new.self.items
    (stacked c.args.done.now.items [])
    (rw c.in-Prefix.is same) (rw c.deref.ensures at c.alone.ensures) first second

pub returns-in_ok-push-in-Binary-3 : goal.returns-in_ok-push-in-Binary-3
returns-in_ok-push-in-Binary-3 c =
    let same : tree_of (node.Binary c.in-Binary.field-0 c.in-Binary.first c.in-Binary.second) ≡ binary
    c.in-Binary.field-0 (tree_of c.in-Binary.first.value) (tree_of c.in-Binary.second.value) =
    search (rules, the_lemmas) in
    let first : c.push-in-Binary.new.self.items ≡ c.args.left.now.items ++ (Join c.args.node ∷ []) = search rules in
    let second : c.push-in-Binary-2.new.self.items ≡ c.push-in-Binary.new.self.items ++ (Shift c.alone-in-Binary.result ∷ []) = search rules in
    let third : c.push-in-Binary-3.new.self.items ≡ c.push-in-Binary-2.new.self.items ++ (Shift c.alone-in-Binary-2.result ∷ []) = search rules in
    binary_leads c.args.by.now.down c.args.by.now.right c.args.node c.in-Binary.field-0 c.in-Binary.first.value
    c.in-Binary.second.value c.alone-in-Binary.result c.alone-in-Binary-2.result c.args.left.now.items
    c.push-in-Binary.new.self.items c.push-in-Binary-2.new.self.items c.push-in-Binary-3.new.self.items
    (stacked c.args.done.now.items [])
    (rw c.in-Binary.is same) (rw c.deref-in-Binary.ensures at c.alone-in-Binary.ensures)
    (rw c.deref-in-Binary-2.ensures at c.alone-in-Binary-2.ensures) first second third

pub returns-in_ok-push-in-Call-2 : goal.returns-in_ok-push-in-Call-2
returns-in_ok-push-in-Call-2 c =
    let same : tree_of (node.Call c.in-Call.field-0 c.in-Call.parameters) ≡ call c.in-Call.field-0
    (parameters_of c.in-Call.parameters) = search (rules, the_lemmas) in
    let first : c.push-in-Call.new.self.items ≡ c.args.left.now.items ++ (Join c.args.node ∷ []) = search rules in
    let second : c.push-in-Call-2.new.self.items ≡ c.push-in-Call.new.self.items ++ (Shift c.items.result ∷ []) = search rules in
    call_leads c.args.by.now.down c.args.by.now.right c.args.node c.in-Call.field-0 c.in-Call.parameters c.items.result
    c.args.left.now.items c.push-in-Call.new.self.items c.push-in-Call-2.new.self.items
    (stacked c.args.done.now.items []) (rw c.in-Call.is same) c.items.ensures first second
