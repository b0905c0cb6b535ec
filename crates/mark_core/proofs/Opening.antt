-- The opening state is honest.
use Rattle.std.proofs.Common.{◌≡◌, ◌<◌, ℕ, zero, suc, List, [], ◌∷◌, Option, Some, None, false, map, get_or, refl, sym, ◌∙◌, ap, subst, inr, arith}
use Rattle.std.specs.Prelude.{Any, slice_get}
use Rattle.std.proofs.lemmas.List.{length-map}
use Rattle.std.proofs.lemmas.Option.{slice_get-get_or, none-some, same_Some}
use Rattle.mark_core.specs.declared.words.Place.{Place}
use Rattle.mark_core.specs.declared.words.Held.{Held}
use Rattle.mark_core.specs.Places.{opening_place, place_at, words_of}
use Rattle.mark_core.specs.Marks.{IsLastMark}
use Rattle.mark_core.specs.States.{view_at, spent_view, opening_state}
use Rattle.mark_core.specs.Honest.{IsRightValue, IsRightView, IsHonest}
use Rattle.mark_core.specs.Runs.{IsOpening, IsCodeless}
use Rattle.mark_core.proofs.Prefixes.{last_mark_nothing}
use Rattle.mark_core.proofs.Holds.{any_none}
use Rattle.mark_core.proofs.ViewLemmas.{view_spent, view_split}

opened_mark : (opening : List (Option ℕ)) (place : ℕ) → (place_at (map opening_place opening) place).mark ≡ 0
opened_mark [] place = refl
opened_mark (None ∷ opening) zero = refl
opened_mark (Some code ∷ opening) zero = refl
opened_mark (item ∷ opening) (suc place) = opened_mark opening place

opened_free : (opening : List (Option ℕ)) (place : ℕ) → (place_at (map opening_place opening) place).clean.held ≡ false
opened_free [] place = refl
opened_free (None ∷ opening) zero = refl
opened_free (Some code ∷ opening) zero = refl
opened_free (item ∷ opening) (suc place) = opened_free opening place

opened_at : (opening : List (Option ℕ)) (place : ℕ) (item : Option ℕ) → slice_get opening place ≡ Some item
    → place_at (map opening_place opening) place ≡ opening_place item
opened_at [] place item is = absurd (none-some item is)
opened_at (first ∷ opening) zero item is = ap opening_place (same_Some first item is)
opened_at (first ∷ opening) (suc place) item is = opened_at opening place item is

opening_holds : (E : Type 0) (opening : List (Option ℕ)) (view : ℕ) → (view_at {E = E} (opening_state opening) view).holds ≡ []
opening_holds E opening zero = refl
opening_holds E opening (suc view) = refl

module _ {E : Type 0} (places : ℕ) (worth : List E → ℕ → ℕ) (touches : List E → E → ℕ → Type 0)
    (opening : List (Option ℕ)) (right : IsOpening places worth opening) where
  opening_value : (place : ℕ) (item : Option ℕ) → slice_get opening place ≡ Some item
      → IsRightValue worth (IsCodeless opening) [] place (opening_place item).mark (opening_place item).clean (opening_place item).value
  opening_value place None is =
      record {
        upto = record { upto_mark = omega arith; upto_log = omega arith; never = λ e. is };
        current = λ e. absurd (omega arith);
        held = λ e. absurd (cc);
      }
  opening_value place (Some code) is =
      record {
        upto = record { upto_mark = omega arith; upto_log = omega arith; never = λ e. absurd (omega arith) };
        current = λ e. right.codes place code is;
        held = λ e. absurd (cc);
      }

  opening_view : (view : ℕ) → IsRightView worth touches (IsCodeless opening) (opening_state {E = E} opening).edits
      (words_of (map opening_place opening)) (view_at (opening_state opening) view)
  opening_view zero =
      view_split worth touches (IsCodeless opening) (opening_state opening).edits (words_of (map opening_place opening)) spent_view
      (view_spent worth touches (IsCodeless opening) (opening_state opening).edits (words_of (map opening_place opening)))
  opening_view (suc view) = view_spent worth touches (IsCodeless opening) (opening_state opening).edits (words_of (map opening_place opening))

  pub opening_honest : IsHonest places worth touches (IsCodeless opening) (opening_state opening)
  opening_honest =
      record {
        count = length-map opening opening_place ∙ right.count;
        editor_live = refl;
        editor_log = refl;
        marks = λ place there.
            inr (record {
              unmarked = λ c. absurd (let h : c.0 < 0 = c.1 in omega arith);
              last = subst (λ (m : ℕ). IsLastMark touches [] place m) (sym (opened_mark opening place)) (last_mark_nothing touches place);
            });
        values = λ place there.
            let item : Option ℕ = get_or opening place None in
            let is : slice_get opening place ≡ Some item = slice_get-get_or opening place None (omega (arith, right.count)) in
            subst (λ (p : Place). IsRightValue worth (IsCodeless opening) [] place p.mark p.clean p.value)
            (sym (opened_at opening place item is)) (opening_value place item is);
        views = opening_view;
        holders =
            record {
              held = λ place is. absurd (let free : (place_at (map opening_place opening) place).clean.held ≡ false = opened_free opening place in cc);
              one = λ place view other a b.
                  absurd (any_none (λ (hold : Held). hold.place ≡ place)
                  (subst (λ (l : List Held). Any (λ hold. hold.place ≡ place) l) (opening_holds E opening view) a));
            };
      }
