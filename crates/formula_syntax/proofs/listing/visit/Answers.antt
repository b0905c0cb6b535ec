use Rattle.std.proofs.Common.{◌≡◌, ◌∷◌, ◌++◌, [], refl, rules}
use Rattle.formula_syntax.specs.declared.tree.Node as node
use Rattle.formula_syntax.specs.declared.tree.Node.TheFolds.{the_lemmas}
use Rattle.formula_syntax.specs.Tree.{number, truth, error, reference, prefix, binary, call, tree_of, parameters_of}
use Rattle.formula_syntax.proofs.Listings.{leaf_listed, reference_beside, prefix_before, binary_before, call_before, ok_more}
use Rattle.formula_syntax.proofs.listing.visit.Goals as goal

pub returns-in-Number : goal.returns-in-Number
returns-in-Number c =
    let same : tree_of (node.Number c.in-Number.field-0) ≡ number c.in-Number.field-0 = search (rules, the_lemmas) in
    leaf_listed (tree_of c.args.node.now) (number c.in-Number.field-0) c.args.beside c.args.left.now.items c.args.listed.now (rw c.in-Number.is same) refl

pub returns-in-Truth : goal.returns-in-Truth
returns-in-Truth c =
    let same : tree_of (node.Truth c.in-Truth.field-0) ≡ truth c.in-Truth.field-0 = search (rules, the_lemmas) in
    leaf_listed (tree_of c.args.node.now) (truth c.in-Truth.field-0) c.args.beside c.args.left.now.items c.args.listed.now (rw c.in-Truth.is same) refl

pub returns-in-Error : goal.returns-in-Error
returns-in-Error c =
    let same : tree_of (node.Error c.in-Error.field-0) ≡ error c.in-Error.field-0 = search (rules, the_lemmas) in
    leaf_listed (tree_of c.args.node.now) (error c.in-Error.field-0) c.args.beside c.args.left.now.items c.args.listed.now (rw c.in-Error.is same) refl

pub returns-in_ok-add-in-Reference : goal.returns-in_ok-add-in-Reference
returns-in_ok-add-in-Reference c =
    let same : tree_of (node.Reference c.in-Reference.reference) ≡ reference c.in-Reference.reference = search (rules, the_lemmas) in
    reference_beside (tree_of c.args.node.now) c.in-Reference.reference c.args.beside c.args.left.now.items c.args.listed.now
    c.add.new.self (rw c.in-Reference.is same) (rw c.range.ensures at c.in_ok-add-in-Reference.ensures)

pub returns-in_ok-leave-in-Prefix : goal.returns-in_ok-leave-in-Prefix
returns-in_ok-leave-in-Prefix c =
    let same : tree_of (node.Prefix c.in-Prefix.field-0 c.in-Prefix.operand) ≡ prefix c.in-Prefix.field-0
    (tree_of c.in-Prefix.operand.value) = search (rules, the_lemmas) in
    prefix_before (tree_of c.args.node.now) c.in-Prefix.field-0 c.in-Prefix.operand.value c.args.beside.now c.alone.result
    c.args.left.now.items c.leave.new.left.items c.args.listed.now (rw c.in-Prefix.is same)
    (rw c.deref.ensures at c.alone.ensures) c.in_ok-leave-in-Prefix.ensures

pub returns-in_ok-leave-in-Binary : goal.returns-in_ok-leave-in-Binary
returns-in_ok-leave-in-Binary c =
    let same : tree_of (node.Binary c.in-Binary.field-0 c.in-Binary.first c.in-Binary.second) ≡ binary
    c.in-Binary.field-0 (tree_of c.in-Binary.first.value) (tree_of c.in-Binary.second.value) =
    search (rules, the_lemmas) in
    ok_more c.visit_operands.result _ _ (λ next lists.
    binary_before (tree_of c.args.node.now) c.in-Binary.field-0 c.in-Binary.first.value c.in-Binary.second.value c.args.beside.now
    c.args.left.now.items c.leave-in-Binary.new.left.items (c.visit_operands.new.left.items ++ next ∷ []) c.args.listed.now c.visit_operands.new.listed
    (rw c.in-Binary.is same) c.in_ok-leave-in-Binary.ensures lists) (rw (c.deref-in-Binary.ensures, c.deref-in-Binary-2.ensures) at c.visit_operands.ensures)

pub returns-in_ok-leave-in-Call : goal.returns-in_ok-leave-in-Call
returns-in_ok-leave-in-Call c =
    let same : tree_of (node.Call c.in-Call.field-0 c.in-Call.parameters) ≡ call c.in-Call.field-0
    (parameters_of c.in-Call.parameters) = search (rules, the_lemmas) in
    call_before (tree_of c.args.node.now) c.in-Call.field-0 c.in-Call.parameters c.args.beside.now c.items.result
    c.args.left.now.items c.leave-in-Call.new.left.items c.args.listed.now (rw c.in-Call.is same) c.items.ensures c.in_ok-leave-in-Call.ensures
