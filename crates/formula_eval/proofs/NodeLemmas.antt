-- Lists of nodes in memory as lists of trees: their references and how many nodes they have.
use Rattle.std.proofs.Common.{◌≡◌, ℕ, zero, suc, ◌+◌, ◌-◌, ◌<◌, ◌≤◌, List, [], ◌∷◌, ◌++◌, length, take, drop, get_or}
use Rattle.std.proofs.Common.{slice_get, Some, All, refl, sym, ◌∙◌, ap, arith, append_assoc, length-append}
use Rattle.std.proofs.Math.Seq.{take-suc, drop-cons}
use Rattle.std.proofs.lemmas.List.{append-nil, take-append-drop, get_or_append_left, get_or-append_right}
use Rattle.sheet_refs.specs.Cells.{Position}
use Rattle.sheet_refs.specs.Ends.{Reference}
use Rattle.formula_syntax.specs.declared.tree.Node.{Node}
use Rattle.formula_syntax.specs.Tree.{tree_of, trees_of, references_of, all_references, node_count, all_nodes}
use Rattle.formula_eval.specs.Meaning.{IsNamedBy}

pub references_append : (xs ys : List Node) → all_references (trees_of (xs ++ ys)) ≡ all_references (trees_of xs) ++ all_references (trees_of ys)
references_append [] ys = refl
references_append (x ∷ xs) ys =
    ap (λ rest. references_of (tree_of x) ++ rest) (references_append xs ys)
    ∙ sym (append_assoc (references_of (tree_of x)) (all_references (trees_of xs)) (all_references (trees_of ys)))

-- the references of one more of a list's nodes
pub references_more : (xs : List Node) (i : ℕ) (x : Node) → i < length xs → x ≡ get_or xs i x
    → all_references (trees_of (take (i + 1) xs)) ≡ all_references (trees_of (take i xs)) ++ references_of (tree_of x)
references_more xs i x below at =
    let more : i + 1 ≡ suc i = omega arith in
    rw (more, take-suc xs i x below, ← at) (references_append (take i xs) (x ∷ [])
    ∙ ap (λ rest. all_references (trees_of (take i xs)) ++ rest) (append-nil (references_of (tree_of x))))

-- a node of a list has no more nodes than the list
pub count_among : (xs : List Node) (i : ℕ) (x : Node) → i < length xs → x ≡ get_or xs i x → node_count (tree_of x) ≤ all_nodes (trees_of xs)
count_among [] i x below at = absurd (omega arith)
count_among (y ∷ ys) zero x below at = rw at (omega arith)
count_among (y ∷ ys) (suc i) x below at = let rest = count_among ys i x (omega arith) at in omega arith

-- what stands in the middle of a list
pub slice_get-middle : {A : Type 0} (before xs after : List A) (i : ℕ) (x : A) → slice_get xs i ≡ Some x
    → slice_get (before ++ (xs ++ after)) (length before + i) ≡ Some x
slice_get-middle [] [] after i x at = absurd (cc)
slice_get-middle [] (y ∷ ys) after zero x at = at
slice_get-middle [] (y ∷ ys) after (suc i) x at = let none : 0 + suc i ≡ suc (0 + i) = omega arith in rw none (slice_get-middle [] ys after i x at)
slice_get-middle (b ∷ bs) xs after i x at = let one : length (b ∷ bs) + i ≡ suc (length bs + i) = omega arith in rw one (slice_get-middle bs xs after i x at)

-- a cell that a part of some references names, they name all together
pub named_within : (all before part after : List Reference) (cell : Position) → all ≡ before ++ (part ++ after) → IsNamedBy part cell → IsNamedBy all cell
named_within all before part after cell is named = record {
  through = named.through;
  place = length before + named.place;
  listed = rw is (slice_get-middle before part after named.place named.through named.listed);
  inside = named.inside;
}

-- the references of a list's nodes: those before one, its own, and those after it
pub references_split : (xs : List Node) (i : ℕ) (x : Node) → i < length xs → x ≡ get_or xs i x
    → all_references (trees_of xs) ≡ all_references (trees_of (take i xs))
    ++ (references_of (tree_of x) ++ all_references (trees_of (drop (i + 1) xs)))
references_split xs i x below at =
    let more : i + 1 ≡ suc i = omega arith in
    let cut : xs ≡ take i xs ++ (x ∷ drop (suc i) xs) = sym (take-append-drop i xs) ∙ ap (λ ys. take i xs ++ ys) (rw (← at) at (drop-cons xs i x below)) in
    rw more (ap (λ ys. all_references (trees_of ys)) cut ∙ references_append (take i xs) (x ∷ drop (suc i) xs))

-- a list cut past its end is whole
pub take-all : {A : Type 0} (xs : List A) (i : ℕ) → length xs ≤ i → take i xs ≡ xs
take-all [] zero past = refl
take-all [] (suc i) past = refl
take-all (x ∷ xs) zero past = absurd (omega arith)
take-all (x ∷ xs) (suc i) past = ap (λ ys. x ∷ ys) (take-all xs i (omega arith))

-- what holds of each element of two lists joined holds of each one of either
pub all_left : {X : Type 0} (P : X → Type 0) (xs ys : List X) → All P (xs ++ ys) → All P xs
all_left P xs ys all k d less = rw (get_or_append_left xs ys d k less) at (all k d (omega (arith, length-append xs ys)))

pub all_right : {X : Type 0} (P : X → Type 0) (xs ys : List X) → All P (xs ++ ys) → All P ys
all_right P xs ys all k d less =
    let at = get_or-append_right xs ys (length xs) (length xs + k) d refl (omega arith) in
    let back : length xs + k - length xs ≡ k = omega arith in
    rw (at, back) at (all (length xs + k) d (omega (arith, length-append xs ys)))
