-- Lists whose elements are taken from the front, and made into others one after the other.
use Rattle.std.proofs.Common.{◌≡◌, ◌<◌, ◌+◌, inl, inr, ℕ, suc, List, [], ◌∷◌, ◌++◌, length, take, drop, map, get_or}
use Rattle.std.proofs.Common.{slice_get, Some, None, refl, sym, ◌∙◌, ap, subst, arith, append_assoc}
use Rattle.std.proofs.Math.Seq.{drop-cons}
use Rattle.std.proofs.lemmas.List.{append-nil}
use Rattle.std.proofs.lemmas.Option.{get_or_from_slice_get, slice_get-get_or, slice_get-map, slice_get_cases, slice_get_within}
use Rattle.std.specs.Prelude.{option_map}
use Rattle.sheet_model.proofs.ListLemmas.{slice_get-pushed}

-- each pair of elements at one place stands in a relation
abbrev pub EachAt : {A B : Type 0} → (ℕ → A → B → Type 0) → List A → List B → Type 0
EachAt {A} {B} R xs ys = (place : ℕ) (x : A) (y : B) → slice_get xs place ≡ Some x → slice_get ys place ≡ Some y → R place x y

pub each_none : {A B : Type 0} (R : ℕ → A → B → Type 0) (xs : List A) (ys : List B) → ys ≡ [] → EachAt R xs ys
each_none R xs ys none = λ place x y at there. absurd (let inside = slice_get_within ys place y there in
    let empty = ap length none in omega (arith, inside, empty))

pub each_push : {A B : Type 0} (R : ℕ → A → B → Type 0) (xs : List A) (ys more : List B) (place : ℕ) (x : A) (y : B)
    → EachAt R xs ys → length ys ≡ place → slice_get xs place ≡ Some x → R place x y → more ≡ ys ++ y ∷ [] → EachAt R xs more
each_push R xs ys more place x y each count at one pushed =
    subst (EachAt R xs) (sym pushed) (λ k a b here there. elim (slice_get-pushed ys y k b there) [
      | inl before ↦ each k a b here before
      | inr last ↦
          let same : k ≡ place = last.0 ∙ count in
          let first : a ≡ x = sym (get_or_from_slice_get xs k a x here) ∙ ap (λ n. get_or xs n x) same ∙ get_or_from_slice_get xs place x x at in
          subst (λ n. R n a b) (sym same) (subst (λ c. R place c b) (sym first) (subst (R place x) last.1 one))
    ])

-- the first one of what is left of a list
pub first_left : {A : Type 0} (xs left next : List A) (k : ℕ) (x : A) → left ≡ drop k xs → k < length xs
    → x ≡ get_or left 0 x → next ≡ take 0 left ++ drop 1 left → (slice_get xs k ≡ Some x) × (next ≡ drop (k + 1) xs)
first_left xs left next k x is within first rest =
    let cut = drop-cons xs k x within in
    let whole : left ≡ get_or xs k x ∷ drop (suc k) xs = is ∙ cut in
    let at : x ≡ get_or xs k x = first ∙ ap (λ l. get_or l 0 x) whole in
    let one : suc k ≡ k + 1 = omega arith in (
      slice_get-get_or xs k x within ∙ ap Some (sym at),
      rest ∙ ap (λ l. take 0 l ++ drop 1 l) whole ∙ ap (λ n. drop n xs) one,
    )

-- what was made of the elements so far, and what is to be made of those that are left, is what is to be made of all
pub record MadeSo {A B : Type 0} (f : A → B) (all left : List A) (made : List B) : Type 0 where
  pub whole : made ++ map f left ≡ map f all

pub made_none : {A B : Type 0} (f : A → B) (all : List A) (made : List B) → made ≡ [] → MadeSo f all all made
made_none f all made none = record { whole = ap (λ m. m ++ map f all) none }

-- the first element of a list
pub first_is : {A : Type 0} (left next : List A) (x : A) → 0 < length left → x ≡ get_or left 0 x → next ≡ take 0 left ++ drop 1 left → left ≡ x ∷ next
first_is [] next x some first rest = absurd (omega (arith, some))
first_is (y ∷ left) next x some first rest = rw (first, rest) refl

pub made_more : {A B : Type 0} (f : A → B) (all left next : List A) (made more : List B) (x : A)
    → MadeSo f all left made → left ≡ x ∷ next → more ≡ made ++ f x ∷ [] → MadeSo f all next more
made_more f all left next made more x so is pushed =
    record { whole = ap (λ m. m ++ map f next) pushed ∙ append_assoc made (f x ∷ []) (map f next) ∙ ap (λ l. made ++ map f l) (sym is) ∙ so.whole }

pub made_all : {A B : Type 0} (f : A → B) (all left : List A) (made : List B) → MadeSo f all left made → left ≡ [] → made ≡ map f all
made_all f all left made so none = sym (append-nil made) ∙ sym (ap (λ l. made ++ map f l) none) ∙ so.whole

-- what stands at a place of a list that was made element by element
pub mapped_at : {A B : Type 0} (f : A → B) (xs : List A) (place : ℕ) (y : B) → slice_get (map f xs) place ≡ Some y
    → (x : A) × (slice_get xs place ≡ Some x) × (f x ≡ y)
mapped_at f xs place y at =
    elim (slice_get_cases xs place).1 [
      | inl (x, inside, there, same) ↦
          let made : Some (f x) ≡ Some y = sym (slice_get-map f xs place ∙ ap (option_map f) there) ∙ at in
          (x, there, cc)
      | inr (past, none) ↦ absurd (let made : None ≡ Some y = sym (slice_get-map f xs place ∙ ap (option_map f) none) ∙ at in cc)
    ]
