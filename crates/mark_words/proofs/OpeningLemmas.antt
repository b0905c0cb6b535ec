-- The table opens under its rule.
use Rattle.std.proofs.Common.{◌≡◌, ◌<◌, ◌+◌, ◌*◌, ℕ, zero, suc, List, [], ◌∷◌, ◌++◌, Option, Some, None, map, length}
use Rattle.std.proofs.Common.{drop, get_or, false, refl, sym, ◌∙◌, ap, subst, arith, append_assoc}
use Rattle.std.proofs.lemmas.List.{drop_more}
use mathlib.Core.Option.{some, some-injective, some-ne-none}
use lib.ListN.{get_elem?}
use Rattle.atomic_table.specs.Table.{opening as opening_table}
use Rattle.mark_core.specs.declared.words.Place.{Place}
use Rattle.mark_core.specs.Places.{opening_place}
use Rattle.mark_core.specs.States.{view_at, opening_state}
use Rattle.mark_core.specs.Runs.{IsOpening}
use Rattle.mark_core.proofs.Prefixes.{prefix_itself}
use Rattle.mark_words.specs.declared.tables.Doing.{Doing}
use Rattle.mark_words.specs.declared.tables.History.{History}
use Rattle.mark_words.specs.declared.tables.Topic.{Topic}
use Rattle.mark_words.specs.Words.{words_of_places, opening_words, codes_of_places}
use Rattle.mark_words.specs.Doing.{first_doing, first_history}
use Rattle.mark_words.specs.Rules.{IsRightSeat, AreGathered, IsKeptTable, NameSubject}
use Rattle.mark_words.proofs.TableLemmas.{none_gathered}

words_open : (opening : List (Option ℕ)) → opening_words opening ≡ words_of_places (map opening_place opening)
words_open [] = refl
words_open (None ∷ opening) = ap (λ l. 0 ∷ 0 ∷ 0 ∷ l) (words_open opening)
words_open (Some code ∷ opening) = ap (λ l. 0 ∷ 2 ∷ code ∷ l) (words_open opening)

-- the words that a table opens with show the codes
pub codes_open : (opening : List (Option ℕ)) → codes_of_places (opening_words opening) ≡ opening
codes_open [] = refl
codes_open (None ∷ opening) = ap (λ l. None ∷ l) (codes_open opening)
codes_open (Some code ∷ opening) = ap (λ l. Some code ∷ l) (codes_open opening)

marks_open : (opening : List (Option ℕ)) → map (λ (code : Option ℕ). 0) opening ≡ map (λ (place : Place). place.mark) (map opening_place opening)
marks_open [] = refl
marks_open (None ∷ opening) = ap (λ l. 0 ∷ l) (marks_open opening)
marks_open (Some code ∷ opening) = ap (λ l. 0 ∷ l) (marks_open opening)

module _ {S E : Type 0} (places : ℕ) (worth : List E → ℕ → ℕ) (touches : List E → E → ℕ → Type 0) (topic : Topic S)
    (right : IsOpening places worth topic.opening.value) where
  first_right : IsRightSeat (opening_state topic.opening.value) 0 (first_doing {E = E} topic)
  first_right =
      record {
        first = λ zero. refl;
        editor = λ e. record { first = refl; edits = refl; marks = marks_open topic.opening.value };
        shorter = prefix_itself [];
        shorter_length = omega arith;
      }

  seats_open : (seat : ℕ) (doing : Doing S E) → get_elem? (first_doing topic ∷ []) seat ≡ some doing
      → IsRightSeat (opening_state topic.opening.value) seat doing
  seats_open zero doing e = subst (λ (d : Doing S E). IsRightSeat (opening_state topic.opening.value) 0 d)
      (some-injective (first_doing topic) doing e) first_right
  seats_open (suc seat) doing e = absurd (some-ne-none doing (sym e))

  views_open : (seat : ℕ) (doing : Doing S E) → get_elem? (first_doing topic ∷ []) seat ≡ some doing → doing.view.spent ≡ false
      → view_at (opening_state topic.opening.value) seat ≡ doing.view
  views_open zero doing e = λ live. ap (λ (d : Doing S E). d.view) (some-injective (first_doing topic) doing e)
  views_open (suc seat) doing e = λ live. absurd (some-ne-none doing (sym e))

  gathered_open : (seat : ℕ) (doing : Doing S E) → get_elem? (first_doing topic ∷ []) seat ≡ some doing
      → AreGathered (opening_state topic.opening.value) [] (first_doing {E = E} topic ∷ []) doing.gathered
  gathered_open zero doing e =
      subst (λ (d : Doing S E). AreGathered (opening_state topic.opening.value) [] (first_doing {E = E} topic
      ∷ []) d.gathered) (some-injective (first_doing topic) doing e)
      (none_gathered (opening_state topic.opening.value) [] (first_doing {E = E} topic ∷ []))
  gathered_open (suc seat) doing e = absurd (some-ne-none doing (sym e))

  subjects_open : NameSubject topic.subject.value (first_doing {E = E} topic ∷ [])
  subjects_open zero doing e live = ap (λ (d : Doing S E). d.subject) (sym (some-injective (first_doing topic) doing e))
  subjects_open (suc seat) doing e live = absurd (some-ne-none doing (sym e))

  steps_open : (seat : ℕ) (history : History S E) → get_elem? (first_history {E = E} topic ∷ []) seat ≡ some history → history.steps ≡ []
  steps_open zero history e = ap (λ (h : History S E). h.steps) (sym (some-injective (first_history topic) history e))
  steps_open (suc seat) history e = absurd (some-ne-none history (sym e))

  pub opens : (words : List ℕ) → words ≡ 0 ∷ opening_words topic.opening.value
      → IsKeptTable topic.subject.value places worth touches topic.opening.value (opening_table words [] (first_history topic))
  opens words is =
      record {
        right = right;
        core = opening_state topic.opening.value;
        events = [];
        run = refl;
        words = is ∙ ap (λ l. 0 ∷ l) (words_open topic.opening.value);
        subjects = subjects_open;
        steps = record { each = λ seat history e known. steps_open seat history e; none = λ seat past. refl };
        seats =
            record {
              count = refl;
              views = views_open;
              each = seats_open;
              gathered = gathered_open;
            };
      }

-- one more place's words
opening_words-cons : (code : Option ℕ) (opening : List (Option ℕ)) → opening_words (code ∷ opening) ≡ opening_words (code ∷ []) ++ opening_words opening
opening_words-cons None opening = refl
opening_words-cons (Some code) opening = refl

pub words_more : (opening : List (Option ℕ)) (words next : List ℕ) (i : ℕ) (code d : Option ℕ) → i < length opening
    → code ≡ get_or opening i d
    → words ++ opening_words (drop i opening) ≡ 0 ∷ opening_words opening
    → next ≡ words ++ opening_words (code ∷ [])
    → next ++ opening_words (drop (i + 1) opening) ≡ 0 ∷ opening_words opening
words_more opening words next i code d lt is before made =
    ap (λ l. l ++ opening_words (drop (i + 1) opening)) made
    ∙ append_assoc words (opening_words (code ∷ [])) (opening_words (drop (i + 1) opening))
    ∙ ap (λ l. words ++ l) (sym (opening_words-cons code (drop (i + 1) opening)))
    ∙ ap (λ x. words ++ opening_words (x ∷ drop (i + 1) opening)) is
    ∙ ap (λ l. words ++ opening_words l) (sym (drop_more opening i d lt))
    ∙ before

pub opening_words-length : (opening : List (Option ℕ)) → length (opening_words opening) ≡ 3 * length opening
opening_words-length [] = refl
opening_words-length (None ∷ opening) = let e : length (opening_words opening) ≡ 3 * length opening = opening_words-length opening in omega arith
opening_words-length (Some code ∷ opening) = let e : length (opening_words opening) ≡ 3 * length opening = opening_words-length opening in omega arith

pub sized_words : (opening : List (Option ℕ)) (words : List ℕ) → words ≡ 0 ∷ opening_words opening → length words ≡ 3 * length opening + 1
sized_words opening words is =
    let e : length (opening_words opening) ≡ 3 * length opening = opening_words-length opening in
    let all : length words ≡ suc (length (opening_words opening)) = ap length is in
    omega arith

pub opening_moves : {S E : Type 0} (places : S → ℕ) (worth : S → List E → ℕ → ℕ) (subject subject' : S) (opening opening' : List (Option ℕ))
    → subject' ≡ subject → opening' ≡ opening → IsOpening (places subject) (worth subject) opening → IsOpening (places subject') (worth subject') opening'
opening_moves {S} places worth subject subject' opening opening' same codes right =
    subst (λ (l : List (Option ℕ)). IsOpening (places subject') (worth subject') l) (sym codes)
    (subst (λ (x : S). IsOpening (places x) (worth x) opening) (sym same) right)
