-- Two lists whose elements stand in a relation, place by place.
use Rattle.std.proofs.Common.{◌≡◌, ℕ, zero, suc, List, [], ◌∷◌, ◌++◌, Some, map, All, slice_get, Contains, inl, inr, subst}
use Rattle.std.specs.List.{AllZip}
use Rattle.std.proofs.lemmas.List.Elements.{All-nil, All-cons}
use Rattle.std.proofs.lemmas.Option.{none-some, same_Some}
use Rattle.sheet_model.proofs.EditLemmas.{first_or_later}
use Rattle.sheet_model.proofs.ListMembers.{no_member, first_member, later_member}

-- what stands at a place is in the list
pub stands_in : {A : Type 0} (xs : List A) (place : ℕ) (x : A) → slice_get xs place ≡ Some x → Contains xs x
stands_in [] place x at = absurd (none-some x at)
stands_in {A} (a ∷ xs) zero x at = subst (λ (z : A). Contains (a ∷ xs) z) (same_Some a x at) (first_member a xs)
stands_in (a ∷ xs) (suc place) x at = later_member a x xs (stands_in xs place x at)

module _ {A B : Type 0} where
  -- what holds of the pairs whose first element is one of the list
  pub zip_map : (R S : A → B → Type 0) (xs : List A) (ys : List B) → ((x : A) (y : B) → Contains xs x → R x y → S x y) → AllZip R xs ys → AllZip S xs ys
  zip_map R S [] [] turn zip = tt
  zip_map R S [] (y ∷ ys) turn zip = absurd zip
  zip_map R S (x ∷ xs) [] turn zip = absurd zip
  zip_map R S (x ∷ xs) (y ∷ ys) turn zip = (turn x y (first_member x xs) zip.0, zip_map R S xs ys (λ a b there. turn a b (later_member x a xs there)) zip.1)

  pub zip_push : (R : A → B → Type 0) (xs : List A) (ys : List B) (x : A) (y : B) → AllZip R xs ys → R x y → AllZip R (xs ++ x ∷ []) (ys ++ y ∷ [])
  zip_push R [] [] x y zip one = (one, tt)
  zip_push R [] (b ∷ ys) x y zip one = absurd zip
  zip_push R (a ∷ xs) [] x y zip one = absurd zip
  zip_push R (a ∷ xs) (b ∷ ys) x y zip one = (zip.0, zip_push R xs ys x y zip.1 one)

  -- both lists without their last elements, and these
  pub zip_last : (R : A → B → Type 0) (xs : List A) (ys : List B) (x : A) (y : B) → AllZip R (xs ++ x ∷ []) (ys ++ y ∷ []) → AllZip R xs ys × R x y
  zip_last R [] [] x y zip = (tt, zip.0)
  zip_last R [] (b ∷ []) x y zip = absurd zip.1
  zip_last R [] (b ∷ c ∷ ys) x y zip = absurd zip.1
  zip_last R (a ∷ []) [] x y zip = absurd zip.1
  zip_last R (a ∷ c ∷ xs) [] x y zip = absurd zip.1
  zip_last R (a ∷ xs) (b ∷ ys) x y zip = let rest = zip_last R xs ys x y zip.1 in ((zip.0, rest.0), rest.1)

  pub zip_at : (R : A → B → Type 0) (xs : List A) (ys : List B) (place : ℕ) (x : A) (y : B) → AllZip R xs ys
      → slice_get xs place ≡ Some x → slice_get ys place ≡ Some y → R x y
  zip_at R [] ys place x y zip at_x at_y = absurd (none-some x at_x)
  zip_at R (a ∷ xs) [] place x y zip at_x at_y = absurd zip
  zip_at R (a ∷ xs) (b ∷ ys) zero x y zip at_x at_y = subst (λ (z : A). R z y) (same_Some a x at_x) (subst (λ (z : B). R a z) (same_Some b y at_y) zip.0)
  zip_at R (a ∷ xs) (b ∷ ys) (suc place) x y zip at_x at_y = zip_at R xs ys place x y zip.1 at_x at_y

  -- what stands beside the first element
  pub zip_first : (R : A → B → Type 0) (xs : List A) (ys : List B) (x : A) → AllZip R xs ys → slice_get xs 0 ≡ Some x → (y : B) × R x y
  zip_first R [] ys x zip at = absurd (none-some x at)
  zip_first R (a ∷ xs) [] x zip at = absurd zip
  zip_first R (a ∷ xs) (b ∷ ys) x zip at = (b, subst (λ (z : A). R z b) (same_Some a x at) zip.0)

  -- each element of the second list stands beside one
  pub zip_beside : (R : A → B → Type 0) (xs : List A) (ys : List B) (y : B) → AllZip R xs ys → Contains ys y → (x : A) × R x y
  zip_beside R [] [] y zip there = absurd (no_member y there)
  zip_beside R [] (b ∷ ys) y zip there = absurd zip
  zip_beside R (a ∷ xs) [] y zip there = absurd zip
  zip_beside R (a ∷ xs) (b ∷ ys) y zip there =
      elim (first_or_later y b ys there) [
        | inl same ↦ (a, subst (R a) same zip.0)
        | inr later ↦ zip_beside R xs ys y zip.1 later
      ]

  pub zip_right : (R : A → B → Type 0) (P : B → Type 0) (xs : List A) (ys : List B) → ((x : A) (y : B) → R x y → P y) → AllZip R xs ys → All P ys
  zip_right R P [] [] turn zip = All-nil P
  zip_right R P [] (y ∷ ys) turn zip = absurd zip
  zip_right R P (x ∷ xs) [] turn zip = absurd zip
  zip_right R P (x ∷ xs) (y ∷ ys) turn zip = All-cons P y ys (turn x y zip.0) (zip_right R P xs ys turn zip.1)

  pub zip_mapped : (R : A → B → Type 0) (f : A → B) (xs : List A) → ((x : A) → Contains xs x → R x (f x)) → AllZip R xs (map f xs)
  zip_mapped R f [] each = tt
  zip_mapped R f (x ∷ xs) each = (each x (first_member x xs), zip_mapped R f xs (λ y there. each y (later_member x y xs there)))
