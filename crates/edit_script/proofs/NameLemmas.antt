-- Names of clients, and whether one is among them.
use Rattle.std.proofs.Common.{◌≡◌, ◌≢◌, ◌∙◌, ◌+◌, ◌<◌, ◌≤◌, ℕ, Bool, true, false, List, [], ◌∷◌, ◌++◌, length, get_or}
use Rattle.std.proofs.Common.{map, Some, ◌⊎◌, refl, sym, ap, subst, arith, true≢false, ⊎_elim}
use Rattle.std.specs.Prelude.{slice_get, Contains, if◌then◌else◌, Result, Ok, Err, IfOk, OnOk}
use Rattle.std.specs.List.{list_any}
use Rattle.std.specs.Str.{bytes_eq}
use Rattle.std.proofs.lemmas.List.Folds.{list_any_at}
use Rattle.std.proofs.lemmas.Map.Views.{Contains-from_any}
use Rattle.std.proofs.lemmas.List.{get_or-map, get_or_default}
use Rattle.std.proofs.lemmas.Option.{slice_get_within, get_or_from_slice_get, slice_get-get_or, slice_get-map}
use Rattle.std.proofs.Math.Nat.{eq-or-lt_of_le}
use Rattle.std.specs.Option.{option_map}
use Rattle.std.proofs.lemmas.Slice.Eq.{bytes_eq-Decides}
use Rattle.sheet_model.proofs.ListLemmas.{slice_get-push}
use Rattle.sheet_model.proofs.LabelLemmas.{length-with_label}
use Rattle.sheet_model.specs.Labels.{with_label}
use Rattle.edit_script.specs.Progress.{client_named}

-- a name that is there adds nothing
pub name_there : (names : List (List ℕ)) (name : List ℕ) (place : ℕ) → slice_get names place ≡ Some name → with_label names name ≡ names
name_there names name place at =
    let within = slice_get_within names place name at in
    let same : get_or names place name ≡ name = get_or_from_slice_get names place name name at in
    let any = list_any_at (bytes_eq name) names place name within ((bytes_eq-Decides name (get_or names place name)).1 (sym same)) in
    ap (λ b. if b then names else names ++ name ∷ []) any

-- and one that isn't is added at the end
pub name_new : (names : List (List ℕ)) (name : List ℕ) → ¬ Contains names name → with_label names name ≡ names ++ name ∷ []
name_new names name absent = go (list_any (bytes_eq name) names) refl
  where
    go : (b : Bool) → list_any (bytes_eq name) names ≡ b → (if b then names else names ++ name ∷ []) ≡ names ++ name ∷ []
    go true e = absurd (absent (Contains-from_any (λ x y. (bytes_eq-Decides x y).0) name names e))
    go false e = refl

module _ {K : Type 0} (f : K → List ℕ) where
  -- a stored name that is the one that is looked for
  pub name_at : (ks : List K) (place : ℕ) (k : K) (name : List ℕ) → place < length ks → k ≡ get_or ks place k
      → f k ≡ name → slice_get (map f ks) place ≡ Some name
  name_at ks place k name within is same =
      slice_get-map f ks place ∙ ap (option_map f) (slice_get-get_or ks place k within ∙ ap Some (sym is)) ∙ ap Some same

  -- and one that isn't, behind others that aren't
  pub name_not : (ks : List K) (place : ℕ) (k : K) (name : List ℕ) → ((i : ℕ) → i < place → get_or (map f ks) i [] ≢ name)
      → place < length ks → k ≡ get_or ks place k → f k ≢ name → (i : ℕ) → i < place + 1 → get_or (map f ks) i [] ≢ name
  name_not ks place k name before within is other i less =
      let up_to : i ≤ place = omega (arith, less) in
      ⊎_elim
      (λ (same : i ≡ place). subst (λ j. get_or (map f ks) j [] ≢ name) (sym same) (λ e. other (ap f is ∙ sym (get_or-map f ks place k [] within) ∙ e)))
      (λ (less : i < place). before i less)
      (eq-or-lt_of_le up_to)

-- names none of which is the one that is looked for
pub no_name : (names : List (List ℕ)) (count : ℕ) (name : List ℕ) → ((i : ℕ) → i < count → get_or names i [] ≢ name)
    → length names ≤ count → ¬ Contains names name
no_name names count name none all there =
    let within : there.0 < length names = there.1 in
    none there.0 (omega (arith, within, all)) (get_or_default names there.0 [] name within ∙ there.2)

-- two names differ where they are compared and found to
pub names_differ : (a b : List ℕ) → bytes_eq a b ≡ false → a ≢ b
names_differ a b e same = true≢false (sym ((bytes_eq-Decides a b).1 same) ∙ e)

-- the client at a place
pub client_at : (names : List (List ℕ)) (place : ℕ) (name : List ℕ) → slice_get names place ≡ Some name → client_named names (Some place) ≡ name
client_at names place name at = get_or_from_slice_get names place name [] at

-- a client who is there is at its place, and adds nothing
pub client_there : (names : List (List ℕ)) (place : ℕ) → place < length names → with_label names (client_named names (Some place)) ≡ names
client_there names place within = name_there names (get_or names place []) place (slice_get-get_or names place [] within)

-- a client more is within the limit where there was room, or it was there
pub few_names : (names : List (List ℕ)) (name : List ℕ) → length names ≤ 32 → (length names < 32) ⊎ Contains names name → length (with_label names name) ≤ 32
few_names names name few room = ⊎_elim
    (λ (less : length names < 32). (let most = length-with_label names name in omega (arith, less, most.1)))
    (λ there. go there)
    room
  where
    go : Contains names name → length (with_label names name) ≤ 32
    go there =
        let at : slice_get names there.0 ≡ Some name = slice_get-get_or names there.0 name there.1 ∙ ap Some there.2 in
        subst (λ l. length l ≤ 32) (sym (name_there names name there.0 at)) few

-- a client who was added is at the end
pub added_at : {E : Type 0} (r : Result ℕ E) (old new : List (List ℕ)) (name : List ℕ) (count : ℕ) → length old ≡ count
    → IfOk r (λ place. place ≡ count) → OnOk r (new ≡ old ++ name ∷ []) → IfOk r (λ place. slice_get new place ≡ Some name)
added_at (Ok place) old new name count long at added =
    subst (λ l. slice_get l place ≡ Some name) (sym added) (subst (λ p. slice_get (old ++ name ∷ []) p ≡ Some name) (long ∙ sym at) (slice_get-push old name))
added_at (Err e) old new name count long at added = tt

pub added_names : {E : Type 0} (r : Result ℕ E) (old new : List (List ℕ)) (name : List ℕ) → ¬ Contains old name
    → OnOk r (new ≡ old ++ name ∷ []) → OnOk r (new ≡ with_label old name)
added_names (Ok place) old new name absent added = added ∙ sym (name_new old name absent)
added_names (Err e) old new name absent added = tt
