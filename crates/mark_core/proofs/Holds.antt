-- The places that a view holds, through the events that change them.
use Rattle.std.proofs.Common.{◌≡◌, ◌≢◌, ◌⊎◌, ℕ, zero, suc, List, [], ◌∷◌, ◌++◌, Some, None, Bool, true, not, ◌==◌, map}
use Rattle.std.proofs.Common.{get_or, refl, sym, ◌∙◌, ap, subst, inl, inr, arith}
use Rattle.std.specs.Prelude.{Contains, All, Any, filter}
use Rattle.std.proofs.lemmas.List.Elements.{Contains-get_or, All-nil, All-cons, All-head, All-tail}
use Rattle.std.proofs.lemmas.Bool.{cond_both, eqb-true, eqb-false, not-true, ne_eqb}
use Rattle.std.proofs.lemmas.Option.{none-some, same_Some}
use Rattle.mark_core.specs.declared.words.Clean.{Clean}
use Rattle.mark_core.specs.declared.words.Held.{Held}
use Rattle.mark_core.specs.Places.{Words}
use Rattle.mark_core.proofs.Stores.{StoresValue}
use Rattle.mark_core.specs.Marks.{IsPrefix}
use Rattle.mark_core.specs.Views.{hold_with}
use Rattle.mark_core.specs.Permissions.{IsWorthKnown}
use Rattle.mark_core.specs.Honest.{IsRightHold}
use Rattle.mark_core.proofs.Prefixes.{prefix_length, take-prefix}

-- what holds of each element, from what holds of it elsewhere and of being one of them
pub all_by : {X : Type 0} (P Q : X → Type 0) (xs : List X) → All P xs → ((x : X) → Contains xs x → P x → Q x) → All Q xs
all_by P Q xs all f = λ k d lt. f (get_or xs k d) (Contains-get_or xs k d lt) (all k d lt)

pub any_here : {X : Type 0} (P : X → Type 0) (x : X) (xs : List X) → P x → Any P (x ∷ xs)
any_here P x xs p = (0, x, omega arith, refl, p)

pub any_there : {X : Type 0} (P : X → Type 0) (x : X) (xs : List X) → Any P xs → Any P (x ∷ xs)
any_there P x xs (k, y, lt, is, p) = (suc k, y, omega arith, is, p)

pub any_cases : {X : Type 0} (P : X → Type 0) (x : X) (xs : List X) → Any P (x ∷ xs) → P x ⊎ Any P xs
any_cases P x xs (zero, y, lt, is, p) = inl (subst P (sym is) p)
any_cases P x xs (suc k, y, lt, is, p) = inr (k, y, omega arith, is, p)

pub any_none : {X : Type 0} (P : X → Type 0) → Any P [] → ⊥
any_none P (k, y, lt, is, p) = absurd (omega arith)

pub any_contained : {X : Type 0} (P : X → Type 0) (xs : List X) (x : X) → Contains xs x → P x → Any P xs
any_contained P xs x c p = (c.0, x, c.1, c.2, p)

pub any_append_left : {X : Type 0} (P : X → Type 0) (xs ys : List X) → Any P xs → Any P (xs ++ ys)
any_append_left P [] ys a = absurd (any_none P a)
any_append_left P (x ∷ xs) ys a =
    elim (any_cases P x xs a) [
      | inl p ↦ any_here P x (xs ++ ys) p
      | inr r ↦ any_there P x (xs ++ ys) (any_append_left P xs ys r)
    ]

pub any_push_cases : {X : Type 0} (P : X → Type 0) (xs : List X) (y : X) → Any P (xs ++ y ∷ []) → Any P xs ⊎ P y
any_push_cases P [] y a =
    elim (any_cases P y [] a) [ inl p ↦ inr p | inr r ↦ absurd (any_none P r) ]
any_push_cases P (x ∷ xs) y a =
    elim (any_cases P x (xs ++ y ∷ []) a) [
      | inl p ↦ inl (any_here P x xs p)
      | inr r ↦
          elim (any_push_cases P xs y r) [ inl b ↦ inl (any_there P x xs b) | inr p ↦ inr p ]
    ]

-- what an entry of a list gives through a map that keeps it
pub any_map : {X : Type 0} (P : X → Type 0) (f : X → X) → ((x : X) → P x → P (f x)) → (xs : List X) → Any P xs → Any P (map f xs)
any_map P f keeps [] a = absurd (any_none P a)
any_map P f keeps (x ∷ xs) a =
    elim (any_cases P x xs a) [
      | inl p ↦ any_here P (f x) (map f xs) (keeps x p)
      | inr r ↦ any_there P (f x) (map f xs) (any_map P f keeps xs r)
    ]

pub any_from_map : {X : Type 0} (P : X → Type 0) (f : X → X) → ((x : X) → P (f x) → P x) → (xs : List X) → Any P (map f xs) → Any P xs
any_from_map P f back [] a = absurd (any_none P a)
any_from_map P f back (x ∷ xs) a =
    elim (any_cases P (f x) (map f xs) a) [
      | inl p ↦ any_here P x xs (back x p)
      | inr r ↦ any_there P x xs (any_from_map P f back xs r)
    ]

pub any_filter : {X : Type 0} (P : X → Type 0) (test : X → Bool) → ((x : X) → P x → test x ≡ true) → (xs : List X) → Any P xs → Any P (filter test xs)
any_filter P test passes [] a = absurd (any_none P a)
any_filter P test passes (x ∷ xs) a =
    cond_both (test x) (x ∷ filter test xs) (filter test xs) (λ l. Any P l)
    (λ e.
    elim (any_cases P x xs a) [
      | inl p ↦ any_here P x (filter test xs) p
      | inr r ↦ any_there P x (filter test xs) (any_filter P test passes xs r)
    ])
    (λ e.
    elim (any_cases P x xs a) [
      | inl p ↦ absurd (let t : test x ≡ true = passes x p in cc)
      | inr r ↦ any_filter P test passes xs r
    ])

pub any_from_filter : {X : Type 0} (P : X → Type 0) (test : X → Bool) (xs : List X) → Any P (filter test xs) → Any (λ x. P x × (test x ≡ true)) xs
any_from_filter P test [] = λ a. absurd (any_none P a)
any_from_filter P test (x ∷ xs) =
    cond_both (test x) (x ∷ filter test xs) (filter test xs) (λ l. Any P l → Any (λ y. P y × (test y ≡ true)) (x ∷ xs))
    (λ e a.
    elim (any_cases P x (filter test xs) a) [
      | inl p ↦ any_here (λ y. P y × (test y ≡ true)) x xs (p, e)
      | inr r ↦ any_there (λ y. P y × (test y ≡ true)) x xs (any_from_filter P test xs r)
    ])
    (λ e a. any_there (λ y. P y × (test y ≡ true)) x xs (any_from_filter P test xs a))

-- what a filter keeps passes the test
pub all_filter : {X : Type 0} (P Q : X → Type 0) (test : X → Bool) → ((x : X) → P x → test x ≡ true → Q x) → (xs : List X)
    → All (λ x. (test x ≡ true → Q x)) xs → All Q (filter test xs)
all_filter P Q test f [] all = All-nil Q
all_filter P Q test f (x ∷ xs) all =
    cond_both (test x) (x ∷ filter test xs) (filter test xs) (λ l. All Q l)
    (λ e. All-cons Q x (filter test xs) (All-head (λ y. (test y ≡ true → Q y)) x xs all e)
    (all_filter P Q test f xs (All-tail (λ y. (test y ≡ true → Q y)) x xs all)))
    (λ e. all_filter P Q test f xs (All-tail (λ y. (test y ≡ true → Q y)) x xs all))

-- a word put to one of the held places leaves which places they are
pub hold_place : (place word : ℕ) (hold : Held) → (hold_with place word hold).place ≡ hold.place
hold_place place word hold =
    cond_both (hold.place == place) (record hold { word = Some word }) hold (λ h. h.place ≡ hold.place) (λ e. refl) (λ e. refl)

pub not_this : (place other : ℕ) → not (place == other) ≡ true → place ≢ other
not_this place other e = eqb-false place other (not-true (place == other) e)

pub is_other : (place other : ℕ) → place ≢ other → not (place == other) ≡ true
is_other place other ne = ap not (ne_eqb place other ne)

-- a worth that is known over a log is known over each longer one
pub worth_known_longer : {E : Type 0} (worth : List E → ℕ → ℕ) (log log' : List E) (place word : ℕ) → IsPrefix log log'
    → IsWorthKnown worth log place word → IsWorthKnown worth log' place word
worth_known_longer worth log log' place word p k =
    record {
      count = k.count;
      within = omega (arith, k.within, prefix_length log log' p);
      worth_is = ap (λ l. worth l place) (take-prefix log log' k.count p k.within) ∙ k.worth_is;
    }

module _ {E : Type 0} (worth : List E → ℕ → ℕ) where
  -- a held place stays right where its clean word and its value stay and the view's log only grows
  pub hold_stays : (words words' : Words) (log log' : List E) (hold : Held) → IsPrefix log log'
      → words'.clean hold.place ≡ words.clean hold.place → words'.value hold.place ≡ words.value hold.place
      → IsRightHold worth words log hold → IsRightHold worth words' log' hold
  hold_stays words words' log log' hold p clean value right =
      record {
        held = ap (λ (x : Clean). x.held) clean ∙ right.held;
        put = λ word is. value ∙ right.put word is;
        worth_known = λ word is. worth_known_longer worth log log' hold.place word p (right.worth_known word is);
      }

  -- a place that was just claimed
  pub hold_taken : (words : Words) (log : List E) (place upto : ℕ) → words.clean place ≡ record { upto = upto; held = true }
      → IsRightHold worth words log (record { place = place; word = None })
  hold_taken words log place upto e =
      record {
        held = ap (λ (x : Clean). x.held) e;
        put = λ word is. absurd (none-some word is);
        worth_known = λ word is. absurd (none-some word is);
      }

  -- a held place after a put to one of the view's places
  pub hold_put : (words words' : Words) (log : List E) (place word : ℕ) (hold : Held) → StoresValue words words' place word
      → IsWorthKnown worth log place word → IsRightHold worth words log hold → IsRightHold worth words' log (hold_with place word hold)
  hold_put words words' log place word hold stores known right =
      cond_both (hold.place == place) (record hold { word = Some word }) hold (λ h. IsRightHold worth words' log h)
      (λ e.
      let same : hold.place ≡ place = eqb-true hold.place place e in
      record {
        held = ap (λ (x : Clean). x.held) (stores.cleans hold.place) ∙ right.held;
        put = λ w is. ap words'.value same ∙ stores.stored ∙ same_Some word w is;
        worth_known = λ w is.
            subst (λ (p : ℕ). IsWorthKnown worth log p w) (sym same)
            (subst (λ (v : ℕ). IsWorthKnown worth log place v) (same_Some word w is) known);
      })
      (λ e.
      record {
        held = ap (λ (x : Clean). x.held) (stores.cleans hold.place) ∙ right.held;
        put = λ w is. stores.values hold.place (eqb-false hold.place place e) ∙ right.put w is;
        worth_known = right.worth_known;
      })
