-- What formulas become that are shifted.
use Rattle.std.proofs.Common.{◌≡◌, ◌≢◌, ◌↔◌, ℕ, ℤ, zero, suc, Bool, true, false, Option, None, Some, IsSome, List, [], ◌∷◌, ◌++◌, map}
use Rattle.std.proofs.Common.{All, Contains, arith, refl, sym, ap, ◌∙◌, subst}
use Rattle.std.specs.Prelude.{◌+ℤ◌, ◌&&◌, IfSome, option_map, slice_get}
use Rattle.std.proofs.lemmas.List.{map-append}
use Rattle.std.proofs.lemmas.List.Elements.{Contains-append_left, Contains-append_right}
use Rattle.std.proofs.lemmas.Option.{same_Some, slice_get-map}
use Rattle.sheet_refs.specs.Cells.{Corners}
use Rattle.sheet_refs.specs.Ends.{Reference, corners_of}
use Rattle.value_core.specs.declared.value.ErrorKind.TheVariants as kind
use Rattle.formula_syntax.specs.declared.functions.Function.{Function}
use Rattle.formula_syntax.specs.Functions.{shape_of}
use Rattle.formula_syntax.specs.Listing.{ranges_of}
use Rattle.formula_syntax.specs.Reading.{is_reference, is_reference_at, is_reference_if, references_at}
use Rattle.formula_syntax.specs.Shifting.{all_shifted, or_lost, shifted, shifted_reference}
use Rattle.formula_syntax.specs.Tree.{AreFitting, HasReferenceAt, IsFitting, IsReferenceTree, Tree, Trees, all_references, and_trees, binary, call}
use Rattle.formula_syntax.specs.Tree.{error, no_trees, number, prefix, reference, references_of, tree_list, trees_from, truth}
use Rattle.formula_syntax.proofs.Shifts.{shifts_add, stays_fitting}
use Rattle.sheet_model.proofs.ListMembers.{all_from, first_member, later_member, no_member}
use Rattle.sheet_fill.specs.MovedReferences.{IsMovedFormula, LosesNone, LosesPlace, all_without, without_references}

-- what holds of all, holds of each, and of both parts of a list
pub all_at : {A : Type 0} (P : A → Type 0) (xs : List A) (x : A) → All P xs → Contains xs x → P x
all_at P xs x all there = subst P there.2 (all there.0 x there.1)

all_left : {A : Type 0} (P : A → Type 0) (xs ys : List A) → All P (xs ++ ys) → All P xs
all_left P xs ys all = all_from P xs (λ x there. all_at P (xs ++ ys) x all (Contains-append_left xs ys x there))

all_right : {A : Type 0} (P : A → Type 0) (xs ys : List A) → All P (xs ++ ys) → All P ys
all_right P xs ys all = all_from P ys (λ y there. all_at P (xs ++ ys) y all (Contains-append_right xs ys y there))

-- shifted parameters as a list
trees_back : (ps : Trees) → trees_from (tree_list ps) ≡ ps
trees_back no_trees = refl
trees_back (and_trees tree rest) = ap (and_trees tree) (trees_back rest)

listed : (down right : ℤ) (ps : Trees) → tree_list (all_shifted down right ps) ≡ map (shifted down right) (tree_list ps)
listed down right no_trees = refl
listed down right (and_trees tree rest) = ap (λ ts. shifted down right tree ∷ ts) (listed down right rest)

all_listed : (down right : ℤ) (ps : Trees) → all_shifted down right ps ≡ trees_from (map (shifted down right) (tree_list ps))
all_listed down right ps = sym (trees_back (all_shifted down right ps)) ∙ ap trees_from (listed down right ps)

-- a parameter that is a reference is one of the references of the call
listed_reference : (P : Reference → Type 0) (ps : Trees) (place : ℕ) (r : Reference) → All P (all_references ps)
    → slice_get (tree_list ps) place ≡ Some (reference r) → P r
listed_reference P no_trees place r all at = absurd (cc at)
listed_reference P (and_trees tree rest) zero r all at =
    let is : tree ≡ reference r = cc at in
    let here : All P (references_of (reference r)) = subst (λ t. All P (references_of t)) is (all_left P (references_of tree) (all_references rest) all) in
    here 0 r (omega arith)
listed_reference P (and_trees tree rest) (suc place) r all at =
    listed_reference P rest place r (all_right P (references_of tree) (all_references rest) all) at

-- the places of a call in which a reference has to stand
module _ (down right : ℤ) where
  lost_tree : (r : Reference) → shifted_reference down right r ≡ None → is_reference (shifted down right (reference r)) ≡ false
  lost_tree r e = rw e refl

  kept_tree : (r : Reference) → shifted_reference down right r ≢ None → is_reference (shifted down right (reference r)) ≡ true
  kept_tree r kept = go (shifted_reference down right r) refl
    where
      go : (o : Option Reference) → shifted_reference down right r ≡ o → is_reference (or_lost o) ≡ true
      go None e = absurd (kept e)
      go (Some s) e = refl

  kept_at : (o : Option Tree) → IfSome o IsReferenceTree → ((r : Reference) → o ≡ Some (reference r) → shifted_reference down right r ≢ None)
      → is_reference_if (option_map (shifted down right) o) ≡ true
  kept_at None fits kept = refl
  kept_at (Some tree) (r, is) kept =
      subst (λ t. is_reference (shifted down right t) ≡ true) (sym is) (kept_tree r (kept r (ap Some is)))

  kept_places : (places : List ℕ) (ts : List Tree) → All (HasReferenceAt ts) places
      → ((place : ℕ) (r : Reference) → Contains places place → slice_get ts place ≡ Some (reference r) → shifted_reference down right r ≢ None)
      → references_at places (map (shifted down right) ts) ≡ true
  kept_places [] ts fits kept = refl
  kept_places (place ∷ places) ts fits kept =
      let here : is_reference_at (map (shifted down right) ts) place ≡ true =
      ap is_reference_if (slice_get-map (shifted down right) ts place)
      ∙ kept_at (slice_get ts place) (fits 0 place (omega arith)) (λ r. kept place r (first_member place places)) in
      let rest : references_at places (map (shifted down right) ts) ≡ true =
      kept_places places ts (λ k d within. fits (suc k) d (omega (arith, within)))
      (λ other r there. kept other r (later_member place other places there)) in
      rw (here, rest) refl

  lost_place : (places : List ℕ) (ts : List Tree) (place : ℕ) (r : Reference) → Contains places place → slice_get ts place ≡ Some (reference r)
      → shifted_reference down right r ≡ None → references_at places (map (shifted down right) ts) ≡ false
  lost_place [] ts place r there stands lost = absurd (no_member place there)
  lost_place (first ∷ places) ts place r (zero, within, is) stands lost =
      let at : slice_get ts first ≡ Some (reference r) = ap (slice_get ts) is ∙ stands in
      let here : is_reference_at (map (shifted down right) ts) first ≡ false =
      ap is_reference_if (slice_get-map (shifted down right) ts first ∙ ap (option_map (shifted down right)) at) ∙ lost_tree r lost in
      rw here refl
  lost_place (first ∷ places) ts place r (suc k, within, is) stands lost =
      go (is_reference_at (map (shifted down right) ts) first) (lost_place places ts place r (k, omega (arith, within), is) stands lost)
    where
      go : (b : Bool) → references_at places (map (shifted down right) ts) ≡ false → (b && references_at places (map (shifted down right) ts)) ≡ false
      go true e = e
      go false e = refl

  -- a call that keeps all of them, and one that loses one
  pub other_call : (f : Function) (ps : Trees) → IsFitting (call f ps) → (LosesPlace down right f ps → ⊥)
      → shifted down right (call f ps) ≡ call f (trees_from (map (shifted down right) (tree_list ps)))
  other_call f ps fits keeps =
      let kept : references_at (shape_of f).references (map (shifted down right) (tree_list ps)) ≡ true =
      kept_places (shape_of f).references (tree_list ps) fits.0.references
      (λ place r there at none. keeps (record { place = place; needed = there; r = r; stands = at; lost = none })) in
      let test : references_at (shape_of f).references (tree_list (all_shifted down right ps)) ≡ true =
      ap (references_at (shape_of f).references) (listed down right ps) ∙ kept in
      rw test (ap (call f) (all_listed down right ps))

  pub lost_call : (f : Function) (ps : Trees) → LosesPlace down right f ps → shifted down right (call f ps) ≡ error kind.Ref
  lost_call f ps is =
      let test : references_at (shape_of f).references (tree_list (all_shifted down right ps)) ≡ false =
      ap (references_at (shape_of f).references) (listed down right ps)
      ∙ lost_place (shape_of f).references (tree_list ps) is.place is.r is.needed is.stands is.lost in
      rw test refl

  pub lost_reference : (r : Reference) → shifted_reference down right r ≡ None → shifted down right (reference r) ≡ error kind.Ref
  lost_reference r e = rw e refl

  -- a call none of whose references is lost keeps all of them
  some_kept : (o : Option Reference) → IsSome o → o ≢ None
  some_kept None some e = absurd (cc some)
  some_kept (Some r) some e = absurd (cc e)

  call_kept : (f : Function) (ps : Trees) → IsFitting (call f ps) → All (λ r. IsSome (shifted_reference down right r)) (all_references ps)
      → shifted down right (call f ps) ≡ call f (all_shifted down right ps)
  call_kept f ps fits some =
      other_call f ps fits (λ loses. some_kept (shifted_reference down right loses.r)
      (listed_reference (λ r. IsSome (shifted_reference down right r)) ps loses.place loses.r some loses.stands) loses.lost)
      ∙ ap (call f) (sym (all_listed down right ps))

  -- the references of a formula that loses none
  abbrev Moved : List Reference → List Reference → Type 0
  Moved old new = map (shifted_reference down right) old ≡ map Some new

  moved_both : (a b c d : List Reference) → Moved a c → Moved b d → Moved (a ++ b) (c ++ d)
  moved_both a b c d one two =
      map-append (shifted_reference down right) a b ∙ ap (λ xs. xs ++ map (shifted_reference down right) b) one ∙ ap (λ xs. map Some c ++ xs) two
      ∙ sym (map-append Some c d)

  one_moved : (r : Reference) (o : Option Reference) → shifted_reference down right r ≡ o → IsSome o → Moved (r ∷ []) (references_of (or_lost o))
  one_moved r None e some = absurd (cc some)
  one_moved r (Some s) e some = ap (λ x. x ∷ []) e

  abbrev Stays : List Reference → Type 0
  Stays rs = All (λ r. IsSome (shifted_reference down right r)) rs

  mutual
    moves : (t : Tree) → IsFitting t → Stays (references_of t) → Moved (references_of t) (references_of (shifted down right t))
    moves (number n) fits some = refl
    moves (truth b) fits some = refl
    moves (error k) fits some = refl
    moves (reference r) fits some = one_moved r (shifted_reference down right r) refl (some 0 r (omega arith))
    moves (prefix op t) fits some = moves t fits some
    moves (binary op a b) fits some =
        moved_both (references_of a) (references_of b) (references_of (shifted down right a)) (references_of (shifted down right b))
        (moves a fits.0 (all_left (λ r. IsSome (shifted_reference down right r)) (references_of a) (references_of b) some))
        (moves b fits.1 (all_right (λ r. IsSome (shifted_reference down right r)) (references_of a) (references_of b) some))
    moves (call f ps) fits some =
        move ps fits.1 some ∙ ap (λ t. map Some (references_of t)) (sym (call_kept f ps fits some))

    move : (ps : Trees) → AreFitting ps → Stays (all_references ps) → Moved (all_references ps) (all_references (all_shifted down right ps))
    move no_trees fits some = refl
    move (and_trees t rest) fits some =
        moved_both (references_of t) (all_references rest) (references_of (shifted down right t)) (all_references (all_shifted down right rest))
        (moves t fits.0 (all_left (λ r. IsSome (shifted_reference down right r)) (references_of t) (all_references rest) some))
        (move rest fits.1 (all_right (λ r. IsSome (shifted_reference down right r)) (references_of t) (all_references rest) some))

  -- and all else of it
  kept_one : (o : Option Reference) (r : Reference) → IsSome o → without_references (or_lost o) ≡ without_references (reference r)
  kept_one None r some = absurd (cc some)
  kept_one (Some s) r some = refl

  mutual
    keeps : (t : Tree) → IsFitting t → Stays (references_of t) → without_references (shifted down right t) ≡ without_references t
    keeps (number n) fits some = refl
    keeps (truth b) fits some = refl
    keeps (error k) fits some = refl
    keeps (reference r) fits some = kept_one (shifted_reference down right r) r (some 0 r (omega arith))
    keeps (prefix op t) fits some = ap (prefix op) (keeps t fits some)
    keeps (binary op a b) fits some =
        let one = keeps a fits.0 (all_left (λ r. IsSome (shifted_reference down right r)) (references_of a) (references_of b) some) in
        let two = keeps b fits.1 (all_right (λ r. IsSome (shifted_reference down right r)) (references_of a) (references_of b) some) in
        λ i. binary op (one i) (two i)
    keeps (call f ps) fits some = ap without_references (call_kept f ps fits some) ∙ ap (call f) (keep ps fits.1 some)

    keep : (ps : Trees) → AreFitting ps → Stays (all_references ps) → all_without (all_shifted down right ps) ≡ all_without ps
    keep no_trees fits some = refl
    keep (and_trees t rest) fits some =
        let one = keeps t fits.0 (all_left (λ r. IsSome (shifted_reference down right r)) (references_of t) (all_references rest) some) in
        let others = keep rest fits.1 (all_right (λ r. IsSome (shifted_reference down right r)) (references_of t) (all_references rest) some) in
        λ i. and_trees (one i) (others i)

  none_lost : (old new : List Reference) → Moved old new → Stays old
  none_lost [] new moved k d within = absurd (omega (arith, within))
  none_lost (r ∷ old) [] moved k d within = absurd (cc moved)
  none_lost (r ∷ old) (s ∷ new) moved zero d within = let is : shifted_reference down right r ≡ Some s = cc moved in subst IsSome (sym is) refl
  none_lost (r ∷ old) (s ∷ new) moved (suc k) d within =
      let rest : Moved old new = cc moved in none_lost old new rest k d (omega (arith, within))

  pub formula_moves : (t : Tree) → IsFitting t → LosesNone down right t ↔ IsMovedFormula down right t (shifted down right t)
  formula_moves t fits = (
    λ some. record { references = moves t fits some; others = keeps t fits some },
    λ moved. none_lost (references_of t) (references_of (shifted down right t)) moved.references,
  )

-- two shifts of a formula are that of the sum
module _ (down right further across : ℤ) where
  abbrev once : Reference → Option Reference
  once r = shifted_reference down right r

  abbrev again : Reference → Option Reference
  again r = shifted_reference further across r

  abbrev summed : Reference → Option Reference
  summed r = shifted_reference (down +ℤ further) (right +ℤ across) r

  sum_more : (x : Reference) (xs : List Reference) (y z : Reference) → once x ≡ Some y → again y ≡ Some z → All (λ r. IsSome (summed r)) xs
      → All (λ r. IsSome (summed r)) (x ∷ xs)
  sum_more x xs y z one two rest zero d within = let sum = shifts_add down right further across x y z one two in subst IsSome (sym sum.1) refl
  sum_more x xs y z one two rest (suc k) d within = rest k d (omega (arith, within))

  sum_some : (xs ys zs : List Reference) → map once xs ≡ map Some ys → map again ys ≡ map Some zs → All (λ r. IsSome (summed r)) xs
  sum_some [] ys zs e f = λ k d within. absurd (omega (arith, within))
  sum_some (x ∷ xs) [] zs e f = absurd (cc e)
  sum_some (x ∷ xs) (y ∷ ys) [] e f = absurd (cc f)
  sum_some (x ∷ xs) (y ∷ ys) (z ∷ zs) e f =
      let one : once x ≡ Some y = cc e in
      let two : again y ≡ Some z = cc f in
      let rest_one : map once xs ≡ map Some ys = cc e in
      let rest_two : map again ys ≡ map Some zs = cc f in
      sum_more x xs y z one two (sum_some xs ys zs rest_one rest_two)

  same_head : {a b : Corners} {cs ds : List Corners} → a ≡ b → cs ≡ ds → a ∷ cs ≡ b ∷ ds
  same_head here rest = λ i. here i ∷ rest i

  same_ranges : (x y z w : Reference) → once x ≡ Some y → again y ≡ Some z → summed x ≡ Some w → corners_of z ≡ corners_of w
  same_ranges x y z w one two three =
      let sum = shifts_add down right further across x y z one two in
      let is : sum.0 ≡ w = same_Some sum.0 w (sym sum.1 ∙ three) in
      sym sum.2 ∙ ap corners_of is

  sum_same : (xs ys zs ws : List Reference) → map once xs ≡ map Some ys → map again ys ≡ map Some zs → map summed xs ≡ map Some ws
      → map corners_of zs ≡ map corners_of ws
  sum_same [] [] [] [] e f g = refl
  sum_same [] [] [] (w ∷ ws) e f g = absurd (cc g)
  sum_same [] [] (z ∷ zs) ws e f g = absurd (cc f)
  sum_same [] (y ∷ ys) zs ws e f g = absurd (cc e)
  sum_same (x ∷ xs) [] zs ws e f g = absurd (cc e)
  sum_same (x ∷ xs) (y ∷ ys) [] ws e f g = absurd (cc f)
  sum_same (x ∷ xs) (y ∷ ys) (z ∷ zs) [] e f g = absurd (cc g)
  sum_same (x ∷ xs) (y ∷ ys) (z ∷ zs) (w ∷ ws) e f g =
      let one : once x ≡ Some y = cc e in
      let two : again y ≡ Some z = cc f in
      let three : summed x ≡ Some w = cc g in
      let rest_one : map once xs ≡ map Some ys = cc e in
      let rest_two : map again ys ≡ map Some zs = cc f in
      let rest_three : map summed xs ≡ map Some ws = cc g in
      same_head (same_ranges x y z w one two three) (sum_same xs ys zs ws rest_one rest_two rest_three)

  pub formulas_add : (t : Tree) → IsFitting t → LosesNone down right t → LosesNone further across (shifted down right t)
      → ranges_of (shifted further across (shifted down right t)) ≡ ranges_of (shifted (down +ℤ further) (right +ℤ across) t)
  formulas_add t fits some more =
      let first = shifted down right t in
      let one = moves down right t fits some in
      let two = moves further across first (stays_fitting down right t fits) more in
      let all = sum_some (references_of t) (references_of first) (references_of (shifted further across first)) one two in
      let three = moves (down +ℤ further) (right +ℤ across) t fits all in
      sum_same (references_of t) (references_of first) (references_of (shifted further across first))
      (references_of (shifted (down +ℤ further) (right +ℤ across) t)) one two three
