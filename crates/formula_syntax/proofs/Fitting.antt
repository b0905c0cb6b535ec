-- The test of a call's parameters against the table of functions.
use Rattle.std.proofs.Common.{◌≡◌, ℕ, ◌≤◌, ◌<◌, get_or, zero, suc, Bool, true, false, List, [], ◌∷◌, length, map, refl, sym, ap, ◌∙◌, arith}
use Rattle.std.specs.Prelude.{◌&&◌, Option, Some, None, IfSome, All, nat_le, option_map, slice_get}
use Rattle.std.proofs.lemmas.Option.{slice_get-map, slice_get_past, slice_get_read}
use Rattle.std.proofs.lemmas.Bool.{false≢true}
use Rattle.std.proofs.lemmas.Bool.Decides.{nat_tests}
use Rattle.formula_syntax.specs.declared.tree.Node.{Node}
use Rattle.formula_syntax.specs.Functions.{Shape}
use Rattle.formula_syntax.specs.Tree.{Tree, Trees, number, truth, error, reference, prefix, binary, call, no_trees}
use Rattle.formula_syntax.specs.Tree.{and_trees, tree_list, trees_from, Fits, HasReferenceAt, IsReferenceTree, tree_of}
use Rattle.formula_syntax.specs.Reading.{is_reference, is_reference_if, is_reference_at, references_at, at_most, is_fitting}

both : {p q : Bool} → p ≡ true → q ≡ true → (p && q) ≡ true
both {p} {q} e f = rw (e, f) refl

first_of : (p q : Bool) → (p && q) ≡ true → p ≡ true
first_of true q e = refl
first_of false q e = absurd (false≢true e)

second_of : (p q : Bool) → (p && q) ≡ true → q ≡ true
second_of true q e = e
second_of false q e = absurd (false≢true e)

-- the test of a place, and of all of some places
if_sound : (o : Option Tree) → is_reference_if o ≡ true → IfSome o IsReferenceTree
if_sound None e = tt
if_sound (Some (reference r)) e = (r, refl)
if_sound (Some (number n)) e = absurd (false≢true e)
if_sound (Some (truth b)) e = absurd (false≢true e)
if_sound (Some (error kind)) e = absurd (false≢true e)
if_sound (Some (prefix op t)) e = absurd (false≢true e)
if_sound (Some (binary op l r)) e = absurd (false≢true e)
if_sound (Some (call f ps)) e = absurd (false≢true e)

if_complete : (o : Option Tree) → IfSome o IsReferenceTree → is_reference_if o ≡ true
if_complete None h = refl
if_complete (Some t) (r, is) = rw is refl

at_sound : (ts : List Tree) (place : ℕ) → is_reference_at ts place ≡ true → HasReferenceAt ts place
at_sound ts place e = if_sound (slice_get ts place) e

at_complete : (ts : List Tree) (place : ℕ) → HasReferenceAt ts place → is_reference_at ts place ≡ true
at_complete ts place h = if_complete (slice_get ts place) h

-- the test of a node
pub got_some : (nodes : List Node) (place : ℕ) (node : Node) (b : Bool) → place < length nodes
    → node ≡ get_or nodes place node → b ≡ is_reference (tree_of node) → b ≡ is_reference_at (map tree_of nodes) place
got_some nodes place node b within found is =
    is
    ∙ sym (ap is_reference_if (slice_get-map tree_of nodes place
    ∙ ap (option_map tree_of) (slice_get_read nodes (length nodes) place node refl within found)))

pub got_none : (nodes : List Node) (place : ℕ) → length nodes ≤ place → true ≡ is_reference_at (map tree_of nodes) place
got_none nodes place past = sym (ap is_reference_if (slice_get-map tree_of nodes place ∙ ap (option_map tree_of) (slice_get_past nodes place past)))

pub all_sound : (places : List ℕ) (ts : List Tree) → references_at places ts ≡ true → All (HasReferenceAt ts) places
all_sound [] ts e k d h = absurd (omega (arith, h))
all_sound (place ∷ places) ts e zero d h = at_sound ts place (first_of (is_reference_at ts place) (references_at places ts) e)
all_sound (place ∷ places) ts e (suc k) d h = all_sound places ts (second_of (is_reference_at ts place) (references_at places ts) e) k d (omega (arith, h))

pub all_complete : (places : List ℕ) (ts : List Tree) → All (HasReferenceAt ts) places → references_at places ts ≡ true
all_complete [] ts all = refl
all_complete (place ∷ places) ts all =
    both (at_complete ts place (all 0 place (omega arith))) (all_complete places ts (λ k d h. all (suc k) d (omega (arith, h))))

pub fits_test : (shape : Shape) (ts : List Tree) → Fits shape ts → is_fitting shape ts ≡ true
fits_test shape ts fits =
    both (grind (arith, nat_tests, fits.least)) (both (most shape.most fits.most) (all_complete shape.references ts fits.references))
  where
    most : (m : Option ℕ) → IfSome m (λ most. length ts ≤ most) → at_most m (length ts) ≡ true
    most None h = refl
    most (Some n) h = grind (arith, nat_tests)

pub test_fits : (shape : Shape) (ts : List Tree) → is_fitting shape ts ≡ true → Fits shape ts
test_fits shape ts e =
    let rest = second_of (nat_le shape.least (length ts)) (at_most shape.most (length ts) && references_at shape.references ts) e in
    record {
      least = least (first_of (nat_le shape.least (length ts)) _ e);
      most = most shape.most (first_of (at_most shape.most (length ts)) _ rest);
      references = all_sound shape.references ts (second_of (at_most shape.most (length ts)) _ rest);
    }
  where
    least : nat_le shape.least (length ts) ≡ true → shape.least ≤ length ts
    least e = grind (arith, nat_tests)

    most : (m : Option ℕ) → at_most m (length ts) ≡ true → IfSome m (λ most. length ts ≤ most)
    most None h = tt
    most (Some n) h = grind (arith, nat_tests)

pub trees_back : (all : Trees) → trees_from (tree_list all) ≡ all
trees_back no_trees = refl
trees_back (and_trees t rest) = ap (λ r. and_trees t r) (trees_back rest)

pub trees_there : (ts : List Tree) → tree_list (trees_from ts) ≡ ts
trees_there [] = refl
trees_there (t ∷ ts) = ap (λ r. t ∷ r) (trees_there ts)
