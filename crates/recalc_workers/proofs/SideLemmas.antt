-- What is called at each place of a list, of which the last element is taken apart from the others.
use Rattle.std.proofs.Common.{◌≡◌, ◌⊎◌, inl, inr, ◌<◌, ◌≤◌, ◌+◌, ℕ, List, [], ◌∷◌, ◌++◌, length, get_or, set, refl, sym, ◌∙◌, subst, arith}
use Rattle.std.proofs.lemmas.Bool.{cases_lt}
use Rattle.std.proofs.lemmas.List.{length-append, get_or_append_left, get_or_push, get_or_default, get_or-set_same}
use Rattle.std.specs.Fork.{AcceptsAt, AcceptsEach, ChangesAt, ChangesEach}
use Rattle.recalc_workers.specs.Sides.{ChangesAll}
use denote.Ref.{MutBor}
use denote.Param.Members.{Shared}

-- what is so of the elements of a list and of one more is so of the list with it at its end
one_more : {X : Type 0} (Change : ℕ → X → X → Type 0) (xs ys : List X) (x y : X) → length ys ≡ length xs
    → ((place : ℕ) (d : X) → place < length xs → Change place (get_or xs place d) (get_or ys place d)) → Change (length xs) x y
    → (place : ℕ) (d : X) → place < length xs + 1 → Change place (get_or (xs ++ x ∷ []) place d) (get_or (ys ++ y ∷ []) place d)
one_more {X} Change xs ys x y count before last place d inside = by_place (cases_lt place (length xs))
  where
    by_place : (place < length xs) ⊎ (length xs ≤ place) → Change place (get_or (xs ++ x ∷ []) place d) (get_or (ys ++ y ∷ []) place d)
    by_place (inl below) =
        subst (λ (z : X × X). Change place z.0 z.1)
        (λ i. (
          sym (get_or_append_left xs (x ∷ []) d place below) i,
          sym (get_or_append_left ys (y ∷ []) d place (omega (arith, count, below))) i,
        )) (before place d below)
    by_place (inr from) =
        let at : length xs ≡ place = omega (arith, inside, from) in
        subst (λ (z : X × X). Change place z.0 z.1)
        (λ i. (sym (get_or_push xs x d place at) i, sym (get_or_push ys y d place (count ∙ at)) i))
        (subst (λ (n : ℕ). Change n x y) at last)

module _ {F T : Type 0} (g : Shared F (ℕ × (MutBor T × Unit {0})) ((Unit {0}) × (MutBor T × Unit {0}))) (f : F) (others : List T) (last : T) where
  longer : (i : ℕ) → i < length others + 1 → i < length (others ++ last ∷ [])
  longer i inside = omega (arith, length-append others (last ∷ []))

  pub accepts_last : AcceptsEach g f (others ++ last ∷ []) → AcceptsAt g f (length others) last
  accepts_last each p at =
      each (length others) p (longer (length others) (omega arith)) (at ∙ sym (get_or_push others last p.now (length others) refl))

  pub accepts_others : AcceptsEach g f (others ++ last ∷ []) → AcceptsEach g f others
  accepts_others each i p inside at = each i p (longer i (omega arith)) (at ∙ sym (get_or_append_left others (last ∷ []) p.now i inside))

  pub changes_all : (place : ℕ) (others₁ : List T) (last₁ : T) → place ≡ length others → ChangesAt g f place last last₁
      → ChangesAll g f others others₁ → ChangesAll g f (others ++ last ∷ []) (others₁ ++ last₁ ∷ [])
  changes_all place others₁ last₁ is at all =
      record {
        count = length-append others₁ (last₁ ∷ []) ∙ omega (arith, all.count, length-append others (last ∷ []));
        each = λ i d inside. (
          refl,
          one_more (ChangesAt g f) others others₁ last last₁ all.count (λ k e below. (all.each k e below).1)
              (subst (λ (n : ℕ). ChangesAt g f n last last₁) is at) i d (omega (arith, inside, length-append others (last ∷ []))),
        );
      }

module _ {F T : Type 0} (g : Shared F (ℕ × (MutBor T × Unit {0})) ((Unit {0}) × (MutBor T × Unit {0}))) (f : F) (list : List T) where
  pub changes_none : length list ≡ 0 → ChangesAll g f list list
  changes_none none = record { count = refl; each = λ i d inside. absurd (omega (arith, none, inside)) }

  pub changes_one : (d new : T) → length list ≡ 1 → ChangesAt g f 0 (get_or list 0 d) new → ChangesEach g f list (set list 0 new)
  changes_one d new one at i e inside =
      let first : i ≡ 0 = omega (arith, one, inside) in
      let some : 0 < length list = omega (arith, one) in (
        refl,
        subst (λ (k : ℕ). ChangesAt g f k (get_or list k e) (get_or (set list 0 new) k e)) (sym first)
            (subst (λ (z : T × T). ChangesAt g f 0 z.0 z.1)
            (λ j. (get_or_default list 0 d e some j, sym (get_or-set_same list 0 new e some) j)) at),
      )
