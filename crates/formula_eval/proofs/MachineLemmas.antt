-- A tree on the way down its left operands, and the parameters of calls.
use Rattle.std.proofs.Common.{◌≡◌, ℕ, zero, suc, ◌+◌, ◌<◌, ◌≤◌, List, [], ◌∷◌, ◌++◌, length, take, drop, map, filter}
use Rattle.std.proofs.Common.{pos, get_or, Option, false, refl, sym, ◌∙◌, ap, arith, append_assoc, length-append}
use Rattle.std.proofs.Math.Seq.{take-suc, drop-cons}
use Rattle.std.proofs.lemmas.List.{append-nil, take-append-drop}
use Rattle.sheet_refs.specs.Cells.{Position, cells_of}
use Rattle.sheet_refs.specs.declared.sizes.Sizes.{Sizes}
use Rattle.sheet_refs.specs.Ends.{Reference, corners_of}
use Rattle.value_core.specs.declared.operators.BinaryOp.{BinaryOp}
use Rattle.value_core.specs.declared.operators.PrefixOp.{PrefixOp}
use Rattle.value_core.specs.declared.value.Value.{Value}
use Rattle.value_core.specs.declared.value.Value.TheVariants.{Number, Truth}
use Rattle.formula_eval.specs.declared.items.Item.{Item}
use Rattle.formula_eval.specs.Functions.{scalar_at, blank_count, empty_cells}
use Rattle.formula_eval.specs.Items.{Parameter, is_empty, items_of, items_of_parameter}
use Rattle.formula_eval.proofs.NodeLemmas.{references_split, all_left, all_right}
use Rattle.formula_syntax.specs.declared.tree.Node.{Node}
use Rattle.formula_syntax.specs.Tree.{Tree, number, truth, error, reference, prefix, binary, call, tree_of, trees_of}
use Rattle.formula_syntax.specs.Tree.{references_of, all_references, node_count, all_nodes}
use Rattle.formula_eval.specs.declared.machine.Pending.{Pending}
use Rattle.formula_eval.specs.declared.machine.Pending.TheVariants as pending
use Rattle.formula_eval.specs.Inputs.{ArePlain, IsPlainRange, seen_values}
use Rattle.formula_eval.specs.Meaning.{meaning, parameter_values, parameter_value, cells_of_tree, IsNoReference}
use Rattle.formula_eval.specs.Pending.{value_of_one, value_of_all}
use Rattle.formula_eval.proofs.PendingLemmas.{value_of_all-push}

-- what waits beside a part of a tree makes the value of the whole of the part's value
pub record HasLeft (sizes : Sizes) (codes : Position → Option ℕ) (whole part : Tree) (old now : List Pending) : Type 0 where
  pub waiting : List Pending
  pub items : now ≡ old ++ waiting
  pub means : meaning (seen_values sizes codes) whole ≡ value_of_all waiting (meaning (seen_values sizes codes) part)
  pub plain : ArePlain sizes codes (references_of part)
  pub count : length waiting + node_count part ≤ node_count whole

module _ (sizes : Sizes) (codes : Position → Option ℕ) (whole : Tree) (old now : List Pending) where
  pub left_start : ArePlain sizes codes (references_of whole) → HasLeft sizes codes whole whole old old
  left_start plain = record { waiting = []; items = sym (append-nil old); means = refl; plain = plain; count = omega arith }

  pub left_prefix : (op : PrefixOp) (operand : Tree) → HasLeft sizes codes whole (prefix op operand) old now
      → HasLeft sizes codes whole operand old (now ++ pending.Prefix op ∷ [])
  left_prefix op operand left = record {
    waiting = left.waiting ++ pending.Prefix op ∷ [];
    items = ap (λ xs. xs ++ pending.Prefix op ∷ []) left.items ∙ append_assoc old left.waiting (pending.Prefix op ∷ []);
    means = left.means ∙ sym (value_of_all-push left.waiting (pending.Prefix op) (meaning (seen_values sizes codes) operand));
    plain = left.plain;
    count = (let h = left.count in omega (arith, length-append left.waiting (pending.Prefix op ∷ [])));
  }

  pub left_binary : (op : BinaryOp) (first second : Tree) (value : Value)
      → value ≡ meaning (seen_values sizes codes) second → HasLeft sizes codes whole (binary op first second) old now
      → ArePlain sizes codes (references_of first) → HasLeft sizes codes whole first old (now ++ pending.Binary op value
      ∷ [])
  left_binary op first second value is left plain = record {
    waiting = left.waiting ++ pending.Binary op value ∷ [];
    items = ap (λ xs. xs ++ pending.Binary op value ∷ []) left.items ∙ append_assoc old left.waiting (pending.Binary op value ∷ []);
    means =
        left.means
        ∙ ap (λ v. value_of_all left.waiting
        (value_of_one (pending.Binary op v) (meaning (seen_values sizes codes) first))) (sym is)
        ∙ sym (value_of_all-push left.waiting (pending.Binary op value) (meaning (seen_values sizes codes) first));
    plain = plain;
    count = (let h = left.count in omega (arith, length-append left.waiting (pending.Binary op value ∷ [])));
  }

-- room for one more operator
pub left_room : (sizes : Sizes) (codes : Position → Option ℕ) (whole part : Tree) (old now : List Pending)
    (capacity : ℕ) → HasLeft sizes codes whole part old now → length old + node_count whole ≤ capacity
    → (length now + node_count part ≤ capacity) × (node_count part ≤ node_count whole)
left_room sizes codes whole part old now capacity left room =
    let count = ap length left.items ∙ length-append old left.waiting in
    (omega (arith, count, left.count), omega (arith, left.count))

-- parts of plain references
pub plain_left : (sizes : Sizes) (codes : Position → Option ℕ) (xs ys : List Reference) → ArePlain sizes codes (xs ++ ys) → ArePlain sizes codes xs
plain_left sizes codes xs ys plain = all_left (λ (r : Reference). IsPlainRange sizes codes (corners_of r)) xs ys plain

pub plain_right : (sizes : Sizes) (codes : Position → Option ℕ) (xs ys : List Reference) → ArePlain sizes codes (xs ++ ys) → ArePlain sizes codes ys
plain_right sizes codes xs ys plain = all_right (λ (r : Reference). IsPlainRange sizes codes (corners_of r)) xs ys plain

pub plain_one_range : (sizes : Sizes) (codes : Position → Option ℕ) (r : Reference) → ArePlain sizes codes (r ∷ []) → IsPlainRange sizes codes (corners_of r)
plain_one_range sizes codes r plain = plain 0 r (omega arith)

-- the references of one node of a list
pub plain_among : (sizes : Sizes) (codes : Position → Option ℕ) (xs : List Node) (i : ℕ) (x : Node) → i < length xs
    → x ≡ get_or xs i x → ArePlain sizes codes (all_references (trees_of xs))
    → ArePlain sizes codes (references_of (tree_of x))
plain_among sizes codes xs i x below at plain =
    let before = all_references (trees_of (take i xs)) in
    let here = references_of (tree_of x) in
    let after = all_references (trees_of (drop (i + 1) xs)) in
    plain_left sizes codes here after (plain_right sizes codes before (here ++ after) (rw (references_split xs i x below at) at plain))

-- the values of parameters, one by one
pub values_append : (h : Position → Value) (xs ys : List Node)
    → parameter_values h (trees_of (xs ++ ys)) ≡ parameter_values h (trees_of xs) ++ parameter_values h (trees_of ys)
values_append h [] ys = refl
values_append h (x ∷ xs) ys = ap (λ rest. parameter_value h (tree_of x) ∷ rest) (values_append h xs ys)

items_joined : (xs ys : List Parameter) → items_of (xs ++ ys) ≡ items_of xs ++ items_of ys
items_joined [] ys = refl
items_joined (x ∷ xs) ys = ap (λ rest. items_of_parameter x ++ rest) (items_joined xs ys)
    ∙ sym (append_assoc (items_of_parameter x) (items_of xs) (items_of ys))

abbrev items_at : (Position → Value) → List Node → List Item
items_at h nodes = items_of (parameter_values h (trees_of nodes))

items_nodes : (h : Position → Value) (xs ys : List Node) → items_at h (xs ++ ys) ≡ items_at h xs ++ items_at h ys
items_nodes h xs ys = ap items_of (values_append h xs ys) ∙ items_joined (parameter_values h (trees_of xs)) (parameter_values h (trees_of ys))

-- the items of one more parameter
pub parameters_more : (h : Position → Value) (xs : List Node) (i : ℕ) (x : Node) → i < length xs → x ≡ get_or xs i x
    → items_of (parameter_values h (trees_of (take (i + 1) xs))) ≡ items_of (parameter_values h (trees_of (take i xs)))
    ++ items_of_parameter (parameter_value h (tree_of x))
parameters_more h xs i x below at =
    let more : i + 1 ≡ suc i = omega arith in
    rw (more, take-suc xs i x below, ← at) (items_nodes h (take i xs) (x ∷ [])
    ∙ ap (λ rest. items_at h (take i xs) ++ rest) (append-nil (items_of_parameter (parameter_value h (tree_of x)))))

-- all items: those of the parameters before one, its own, and those after it
pub parameters_split : (h : Position → Value) (xs : List Node) (i : ℕ) (x : Node) → i < length xs → x ≡ get_or xs i x
    → items_of (parameter_values h (trees_of xs)) ≡ items_of (parameter_values h (trees_of (take i xs)))
    ++ (items_of_parameter (parameter_value h (tree_of x))
    ++ items_of (parameter_values h (trees_of (drop (i + 1) xs))))
parameters_split h xs i x below at =
    let more : i + 1 ≡ suc i = omega arith in
    let cut : xs ≡ take i xs ++ (x ∷ drop (suc i) xs) = sym (take-append-drop i xs) ∙ ap (λ ys. take i xs ++ ys) (rw (← at) at (drop-cons xs i x below)) in
    rw more (ap (items_at h) cut ∙ items_nodes h (take i xs) (x ∷ drop (suc i) xs))

-- the scalar value of a parameter, and FALSE past the last one
pub scalar_here : (h : Position → Value) (xs : List Node) (i : ℕ) (x : Node) → i < length xs → x ≡ get_or xs i x
    → scalar_at (parameter_values h (trees_of xs)) i ≡ meaning h (tree_of x)
scalar_here h [] i x below at = absurd (omega arith)
scalar_here h (y ∷ ys) zero x below at = ap (λ z. meaning h (tree_of z)) (sym at)
scalar_here h (y ∷ ys) (suc i) x below at = scalar_here h ys i x (omega arith) at

pub scalar_past : (h : Position → Value) (xs : List Node) (i : ℕ) → length xs ≤ i → scalar_at (parameter_values h (trees_of xs)) i ≡ Truth false
scalar_past h [] zero past = refl
scalar_past h [] (suc i) past = refl
scalar_past h (y ∷ ys) zero past = absurd (omega arith)
scalar_past h (y ∷ ys) (suc i) past = scalar_past h ys i (omega arith)

one_node : (tree : Tree) → 1 ≤ node_count tree
one_node (number n) = omega arith
one_node (truth b) = omega arith
one_node (error kind) = omega arith
one_node (reference r) = omega arith
one_node (prefix op operand) = omega arith
one_node (binary op left right) = omega arith
one_node (call f parameters) = omega arith

-- a list has no more nodes than are in its trees
pub nodes_many : (xs : List Node) → length xs ≤ all_nodes (trees_of xs)
nodes_many [] = omega arith
nodes_many (x ∷ xs) = let rest = nodes_many xs in omega (arith, one_node (tree_of x))

-- the empty cells of the first parameter
pub blank_here : (h : Position → Value) (xs : List Node) (x : Node) (r : Reference) → 0 < length xs → x ≡ get_or xs 0 x
    → tree_of x ≡ reference r
    → blank_count (parameter_values h (trees_of xs)) ≡ Number
    (pos (length (filter is_empty (map h (cells_of (corners_of r))))))
blank_here h [] x r some at is = absurd (omega arith)
blank_here h (y ∷ ys) x r some at is = ap (λ tree. empty_cells (cells_of_tree h tree)) (ap tree_of (sym at) ∙ is)

pub blank_none : (h : Position → Value) (xs : List Node) (x : Node) → 0 < length xs → x ≡ get_or xs 0 x
    → IsNoReference (tree_of x) → blank_count (parameter_values h (trees_of xs)) ≡ Number (pos 0)
blank_none h [] x some at none = refl
blank_none h (y ∷ ys) x some at none = ap empty_cells (ap (λ z. cells_of_tree h (tree_of z)) (sym at) ∙ none h)
