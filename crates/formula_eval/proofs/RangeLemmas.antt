-- Ranges among the parameters of a call, and what functions of ranges give of them.
use Rattle.std.proofs.Common.{◌≡◌, ℕ, ℤ, zero, suc, ◌<◌, ◌≤◌, ◌==◌, ◌&&◌, pos, List, [], ◌∷◌, map, length, get_or}
use Rattle.std.proofs.Common.{Option, Some, None, Bool, true, false, cond, refl, sym, ◌∙◌, ap, arith, inl, inr}
use Rattle.std.specs.Prelude.{nat_lt}
use Rattle.std.specs.Ordering.{int_eq}
use Rattle.std.proofs.lemmas.Bool.Decides.{nat_tests}
use Rattle.sheet_refs.specs.Cells.{Position, Corners, cells_of, height, width}
use Rattle.sheet_refs.specs.Ends.{Reference, corners_of}
use Rattle.value_core.specs.declared.value.ErrorKind.TheVariants as error
use Rattle.value_core.specs.declared.value.Value.{Value}
use Rattle.value_core.specs.declared.value.Value.TheVariants.{Number, Error}
use Rattle.formula_syntax.specs.declared.tree.Node.{Node}
use Rattle.formula_syntax.specs.Tree.{reference, tree_of, trees_of}
use Rattle.formula_eval.specs.Functions.{match_of, place_in, place_from, sum_of, sum_where, summed, have_same_sizes}
use Rattle.formula_eval.specs.Items.{Parameter, cells_at, rows_at, cols_at}
use Rattle.formula_eval.specs.Meaning.{parameter_values, cells_of_tree, rows_of_tree, cols_of_tree, IsNoReference}
use Rattle.formula_eval.specs.Views.{IsRangeAt, HasNoRangeAt, IsLine}
use Rattle.formula_eval.proofs.MachineLemmas.{plain_among, plain_one_range}

-- what a parameter is as a range
cells_here : (h : Position → Value) (nodes : List Node) (i : ℕ) (x : Node) → i < length nodes → x ≡ get_or nodes i x
    → cells_at (parameter_values h (trees_of nodes)) i ≡ cells_of_tree h (tree_of x)
cells_here h [] i x below at = absurd (omega arith)
cells_here h (y ∷ ys) zero x below at = ap (λ z. cells_of_tree h (tree_of z)) (sym at)
cells_here h (y ∷ ys) (suc i) x below at = cells_here h ys i x (omega arith) at

rows_here : (h : Position → Value) (nodes : List Node) (i : ℕ) (x : Node) → i < length nodes → x ≡ get_or nodes i x
    → rows_at (parameter_values h (trees_of nodes)) i ≡ rows_of_tree (tree_of x)
rows_here h [] i x below at = absurd (omega arith)
rows_here h (y ∷ ys) zero x below at = ap (λ z. rows_of_tree (tree_of z)) (sym at)
rows_here h (y ∷ ys) (suc i) x below at = rows_here h ys i x (omega arith) at

cols_here : (h : Position → Value) (nodes : List Node) (i : ℕ) (x : Node) → i < length nodes → x ≡ get_or nodes i x
    → cols_at (parameter_values h (trees_of nodes)) i ≡ cols_of_tree (tree_of x)
cols_here h [] i x below at = absurd (omega arith)
cols_here h (y ∷ ys) zero x below at = ap (λ z. cols_of_tree (tree_of z)) (sym at)
cols_here h (y ∷ ys) (suc i) x below at = cols_here h ys i x (omega arith) at

pub range_past : (nodes : List Node) (i : ℕ) → length nodes ≤ i → HasNoRangeAt nodes i
range_past [] i past h = refl
range_past (y ∷ ys) zero past h = absurd (omega (arith, past))
range_past (y ∷ ys) (suc i) past h = range_past ys i (omega (arith, past)) h

pub range_none : (nodes : List Node) (i : ℕ) (x : Node) → i < length nodes → x ≡ get_or nodes i x → IsNoReference (tree_of x) → HasNoRangeAt nodes i
range_none nodes i x below at none h = cells_here h nodes i x below at ∙ none h

pub range_here : (nodes : List Node) (i : ℕ) (x : Node) (r : Reference) → i < length nodes → x ≡ get_or nodes i x
    → tree_of x ≡ reference r → IsRangeAt nodes i (corners_of r)
range_here nodes i x r below at is = record {
  plain = λ sizes codes plain. plain_one_range sizes codes r (rw is at (plain_among sizes codes nodes i x below at plain));
  cells = λ h. cells_here h nodes i x below at ∙ ap (cells_of_tree h) is;
  rows = λ h. rows_here h nodes i x below at ∙ ap rows_of_tree is;
  cols = λ h. cols_here h nodes i x below at ∙ ap cols_of_tree is;
}

-- there are as many parameters as nodes
pub as_many : (h : Position → Value) (nodes : List Node) → length (parameter_values h (trees_of nodes)) ≡ length nodes
as_many h [] = refl
as_many h (y ∷ ys) = ap suc (as_many h ys)

-- SUMIF by its ranges
sum_none : (n : ℤ) (same : Bool) (from to : Option (List Value)) → from ≡ None → Number (pos 0) ≡ sum_of n same from to
sum_none n same None to is = refl
sum_none n same (Some from) to is = absurd (cc)

sum_alone : (n : ℤ) (same : Bool) (from to : Option (List Value)) → to ≡ None → Number (pos 0) ≡ sum_of n same from to
sum_alone n same None to is = refl
sum_alone n same (Some from) None is = refl
sum_alone n same (Some from) (Some to) is = absurd (cc)

pub summed_none : (n : ℤ) (h : Position → Value) (nodes : List Node) → HasNoRangeAt nodes 0 → Number (pos 0) ≡ sum_where (parameter_values h (trees_of nodes)) n
summed_none n h nodes none =
    let ps = parameter_values h (trees_of nodes) in
    sum_none n (have_same_sizes ps 0 (summed ps)) (cells_at ps 0) (cells_at ps (summed ps)) (none h)

pub summed_is : (h : Position → Value) (nodes : List Node) (i : ℕ) → i ≡ cond (nat_lt 2 (length nodes)) 2 0 → summed (parameter_values h (trees_of nodes)) ≡ i
summed_is h nodes i is = ap (λ (k : ℕ). cond (nat_lt 2 k) 2 0) (as_many h nodes) ∙ sym is

pub summed_alone : (n : ℤ) (h : Position → Value) (nodes : List Node) (i : ℕ) → i ≡ cond (nat_lt 2 (length nodes)) 2 0
    → HasNoRangeAt nodes i → Number (pos 0) ≡ sum_where (parameter_values h (trees_of nodes)) n
summed_alone n h nodes i is none =
    let ps = parameter_values h (trees_of nodes) in
    sum_alone n (have_same_sizes ps 0 (summed ps)) (cells_at ps 0) (cells_at ps (summed ps)) (ap (cells_at ps) (summed_is h nodes i is) ∙ none h)

-- the sizes of two ranges among the parameters
abbrev same_sizes : Corners → Corners → Bool
same_sizes from to = (height from == height to) && (width from == width to)

sizes_are : (h : Position → Value) (nodes : List Node) (i : ℕ) (from to : Corners) → IsRangeAt nodes 0 from
    → IsRangeAt nodes i to → have_same_sizes (parameter_values h (trees_of nodes)) 0 i ≡ same_sizes from to
sizes_are h nodes i from to first second = rw (first.rows h, first.cols h, second.rows h, second.cols h) refl

sum_is : (n : ℤ) (h : Position → Value) (nodes : List Node) (i : ℕ) (from to : Corners) (same : Bool)
    → i ≡ cond (nat_lt 2 (length nodes)) 2 0 → IsRangeAt nodes 0 from → IsRangeAt nodes i to → same_sizes from to ≡ same
    → sum_where (parameter_values h (trees_of nodes)) n ≡ sum_of n same (Some (map h (cells_of from)))
    (Some (map h (cells_of to)))
sum_is n h nodes i from to same is first second test =
    let ps = parameter_values h (trees_of nodes) in
    ap (λ (k : ℕ). sum_of n (have_same_sizes ps 0 k) (cells_at ps 0) (cells_at ps k)) (summed_is h nodes i is)
    ∙ (ap (λ (b : Bool). sum_of n b (cells_at ps 0) (cells_at ps i)) (sizes_are h nodes i from to first second ∙ test)
    ∙ (ap (λ (o : Option (List Value)). sum_of n same o (cells_at ps i)) (first.cells h) ∙ ap (sum_of n same (Some (map h (cells_of from)))) (second.cells h)))

pub sum_unlike : (n : ℤ) (h : Position → Value) (nodes : List Node) (i : ℕ) (from to : Corners)
    → i ≡ cond (nat_lt 2 (length nodes)) 2 0 → IsRangeAt nodes 0 from → IsRangeAt nodes i to
    → same_sizes from to ≡ false → Error error.Value ≡ sum_where (parameter_values h (trees_of nodes)) n
sum_unlike n h nodes i from to is first second test = sym (sum_is n h nodes i from to false is first second test)

pub sum_like : (n : ℤ) (h : Position → Value) (nodes : List Node) (i : ℕ) (from to : Corners)
    → i ≡ cond (nat_lt 2 (length nodes)) 2 0 → IsRangeAt nodes 0 from → IsRangeAt nodes i to → same_sizes from to ≡ true
    → sum_where (parameter_values h (trees_of nodes)) n ≡ sum_of n true (Some (map h (cells_of from)))
    (Some (map h (cells_of to)))
sum_like n h nodes i from to is first second test = sum_is n h nodes i from to true is first second test

pub sizes_equal : (from to : Corners) → same_sizes from to ≡ true → (height from ≡ height to) × (width from ≡ width to)
sizes_equal from to test = (grind (arith, nat_tests), grind (arith, nat_tests))

-- MATCH by its range
pub match_wrong : (ps : List Parameter) (n kind : ℤ) → int_eq kind (pos 0) ≡ false → Error error.Value ≡ match_of ps n kind
match_wrong ps n kind e = rw e refl

either_same : {A : Type 0} (b : Bool) (x y z : A) → z ≡ x → z ≡ y → z ≡ cond b x y
either_same true x y z e f = e
either_same false x y z e f = f

pub match_none : (n kind : ℤ) (h : Position → Value) (nodes : List Node) → int_eq kind (pos 0) ≡ true
    → HasNoRangeAt nodes 1 → Error error.Na ≡ match_of (parameter_values h (trees_of nodes)) n kind
match_none n kind h nodes e none = rw e (either_same _ (Error error.Na) _ (Error error.Na) refl (sym (ap (place_in n) (none h))))

pub match_block : (n kind : ℤ) (h : Position → Value) (nodes : List Node) (range : Corners) → int_eq kind (pos 0) ≡ true
    → IsRangeAt nodes 1 range → (nat_lt 1 (height range) && nat_lt 1 (width range)) ≡ true
    → Error error.Na ≡ match_of (parameter_values h (trees_of nodes)) n kind
match_block n kind h nodes range e is block = rw (e, is.rows h, is.cols h, block) refl

pub match_line : (n kind : ℤ) (h : Position → Value) (nodes : List Node) (range : Corners) (value : Value)
    → int_eq kind (pos 0) ≡ true → IsRangeAt nodes 1 range → (nat_lt 1 (height range) && nat_lt 1 (width range)) ≡ false
    → value ≡ place_from 1 n (map h (cells_of range)) → value ≡ match_of (parameter_values h (trees_of nodes)) n kind
match_line n kind h nodes range value e is line found = rw (e, is.rows h, is.cols h, line, is.cells h) found

pub line_of : (range : Corners) → 1 ≤ height range → 1 ≤ width range → (nat_lt 1 (height range) && nat_lt 1 (width range)) ≡ false → IsLine range
line_of range high wide none = by_tests (nat_lt 1 (height range)) refl (nat_lt 1 (width range)) refl
  where
    by_tests : (p : Bool) → nat_lt 1 (height range) ≡ p → (q : Bool) → nat_lt 1 (width range) ≡ q → IsLine range
    by_tests false e q f = inl (grind (arith, nat_tests))
    by_tests true e false f = inr (grind (arith, nat_tests))
    by_tests true e true f = absurd (clash (sym none ∙ rw (e, f) refl))
      where
        clash : false ≡ true → ⊥
        clash e = cc
