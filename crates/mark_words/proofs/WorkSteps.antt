-- Claims, puts and finishes keep the rule of the table.
use Rattle.std.proofs.Common.{◌≡◌, ◌≢◌, ◌<◌, ◌+◌, ◌*◌, ◌==◌, ℕ, List, Option, [], ◌∷◌, ◌++◌, length, false, true, refl, sym, ◌∙◌, ap, subst, inl, inr, arith}
use Rattle.std.specs.Prelude.{slice_index, slice_set}
use Rattle.std.proofs.lemmas.List.{set-get_or}
use Rattle.std.proofs.lemmas.Bool.{cases_eq, eq-eqb, ne_eqb}
use mathlib.Core.Option.{some}
use lib.ListN.{get_elem?}
use prog.Atomic.{either}
use Rattle.atomic_table.specs.Table.{State as TableState, Me, Step, Allows}
use Rattle.atomic_table.specs.Table.Act.{keeps}
use Rattle.mark_core.specs.declared.words.Clean.{Clean}
use Rattle.mark_core.specs.declared.words.Place.{Place}
use Rattle.mark_core.specs.declared.actors.View.{View}
use Rattle.mark_core.specs.Places.{place_at}
use Rattle.mark_core.specs.States.{State, view_at}
use Rattle.mark_core.specs.Views.{with_hold, with_loss, with_put, without_hold}
use Rattle.mark_core.specs.Permissions.{MayStepAt, MayClaim, MayPut, MayFinish}
use Rattle.mark_core.specs.declared.events.Event.TheVariants.{Claim, Put, Finish}
use Rattle.mark_core.specs.declared.events.Outcome.TheVariants.{Done, Claimed}
use Rattle.mark_core.specs.Honest.{IsHonest}
use Rattle.mark_core.specs.Runs.{IsCodeless}
use Rattle.mark_core.specs.Steps.{after_claim, after_refusal, after_put, after_finish}
use Rattle.mark_words.specs.declared.tables.History.{History}
use Rattle.mark_words.specs.Words.{word_of_clean, clean_at, words_of_places}
use Rattle.mark_words.specs.Doing.{with_claim, with_refusal, with_word_put, with_finish}
use Rattle.mark_words.specs.Steps.{made_of, OneMore}
use Rattle.mark_words.specs.Rules.{IsKeptTable}
use Rattle.mark_words.specs.Plays.{TriedClaim, PutWord, GaveBack}
use Rattle.mark_words.proofs.TableLemmas.{clean_word, clean_set, value_set, marks_stay, clean_at-code_of}
use Rattle.mark_words.proofs.StepLemmas.{with_step, next_number, one_more}
use Rattle.mark_words.proofs.RunLemmas.{honest_state, same_view}
use Rattle.mark_words.proofs.ViewSteps.{keeps_rest, view_step}

-- a compare-exchange that finds what it expects, and one that doesn't
hit : (found old new : ℕ) → found ≡ old → either (found == old) new found ≡ new
hit found old new same = ap (λ b. either b new found) (eq-eqb found old same)

miss : (found old new : ℕ) → found ≢ old → either (found == old) new found ≡ found
miss found old new differs = ap (λ b. either b new found) (ne_eqb found old differs)

module _ {S E : Type 0} (subject : S) (places : ℕ) (worth : List E → ℕ → ℕ) (touches : List E → E → ℕ → Type 0)
    (untouched : (log : List E) (entry : E) (place : ℕ) → place < places → (touches log entry place → ⊥) → worth (log ++ entry ∷ []) place ≡ worth log place)
    (opening : List (Option ℕ)) (slots id : ℕ) (me : Me E (History S E)) (step : Step E) (place : ℕ)
    (live : me.0.doing.view.spent ≡ false) (there : place < length opening) where
  module _ (t : TableState E (History S E)) (kept : IsKeptTable subject places worth touches opening t) (at : get_elem? t.views id ≡ some me.0) where
    abbrev core : State E
    core = kept.core

    same : view_at core id ≡ me.0.doing.view
    same = same_view subject places worth touches opening t kept id me.0 at live

    honest : IsHonest places worth touches (IsCodeless opening) core
    honest = honest_state subject places worth touches opening t kept untouched

    lt : place < length core.places
    lt = omega (arith, there, honest.count, kept.right.count)

    may : MayStepAt (length core.places) (view_at core id) place
    may = record { there = lt; live = ap (λ (v : View (List E)). v.spent) same ∙ live }

    -- the words after a store of a clean word
    clean_stored : (clean : Clean) → slice_set t.words (3 * place + 2) (word_of_clean clean)
        ≡ length core.edits.log ∷ words_of_places (slice_set core.places place (record (place_at core.places place) { clean = clean }))
    clean_stored clean =
        ap (λ ws. slice_set ws (3 * place + 2) (word_of_clean clean)) kept.words ∙ clean_set (length core.edits.log) core.places place clean lt

    -- the clean word that stands there
    word_found : slice_index t.words (3 * place + 2) ≡ word_of_clean (place_at core.places place).clean
    word_found = ap (λ ws. slice_index ws (3 * place + 2)) kept.words ∙ clean_word (length core.edits.log) core.places place lt

    clean_found : clean_at (slice_index t.words (3 * place + 2)) ≡ (place_at core.places place).clean
    clean_found = ap clean_at word_found ∙ clean_at-code_of (place_at core.places place).clean

    took : (seen : Clean) (stored : ℕ) → MayClaim me.0.doing.view place seen → slice_index t.words (3 * place + 2) ≡ word_of_clean seen
        → (let held : Clean = record { upto = seen.upto; held = true } in stored ≡ word_of_clean held)
        → IsKeptTable subject places worth touches opening (record {
          words = slice_set t.words (3 * place + 2) stored;
          homes = t.homes;
          views = slice_set t.views id (with_step me.0 (with_claim me.0.doing place) (next_number kept.events)
              (made_of (Claim id place seen) (slice_index t.words (3 * place + 2))));
        })
    took seen stored ground found is =
        let held : Clean = record { upto = seen.upto; held = true } in
        view_step subject places worth touches opening t kept id me.0 at live (Claim id place seen)
        (slice_index t.words (3 * place + 2)) (Claimed true) (after_claim core id place seen)
        (with_hold me.0.doing.view place)
        (slice_set t.words (3 * place + 2) stored) refl refl
        (record {
          allowed = (may, subst (λ (v : View (List E)). MayClaim v place seen) (sym same) ground);
          gives = inl (record { found = sym clean_found ∙ ap clean_at found ∙ clean_at-code_of seen; answer = refl; effect = refl });
        })
        word_found
        (ap (λ n. slice_set t.words (3 * place + 2) n) is ∙ clean_stored held)
        refl
        (marks_stay core.places place (record (place_at core.places place) { clean = held }) refl)
        (ap (λ (v : View (List E)). slice_set core.views id (with_hold v place)) same)
        refl

    lost : (seen : Clean) (stored : ℕ) → MayClaim me.0.doing.view place seen → slice_index t.words (3 * place + 2) ≢ word_of_clean seen
        → stored ≡ slice_index t.words (3 * place + 2)
        → (let found : Clean = clean_at (slice_index t.words (3 * place + 2)) in
        IsKeptTable subject places worth touches opening (record {
          words = slice_set t.words (3 * place + 2) stored;
          homes = t.homes;
          views = slice_set t.views id (with_step me.0 (with_refusal me.0.doing place found) (next_number kept.events)
              (made_of (Claim id place seen) (slice_index t.words (3 * place + 2))));
        }))
    lost seen stored ground differs is =
        let found : Clean = clean_at (slice_index t.words (3 * place + 2)) in
        view_step subject places worth touches opening t kept id me.0 at live (Claim id place seen)
        (slice_index t.words (3 * place + 2)) (Claimed false) (after_refusal core id place)
        (with_loss me.0.doing.view place found)
        (slice_set t.words (3 * place + 2) stored) refl refl
        (record {
          allowed = (may, subst (λ (v : View (List E)). MayClaim v place seen) (sym same) ground);
          gives = inr (record { found = λ e. differs (word_found ∙ ap word_of_clean e); answer = refl; effect = refl });
        })
        word_found
        (ap (λ n. slice_set t.words (3 * place + 2) n) is ∙ set-get_or t.words (3 * place + 2) 0 ∙ kept.words)
        refl refl
        (ap (λ (v : View (List E)). slice_set core.views id (with_loss v place (place_at core.places place).clean)) same
        ∙ ap (λ c. slice_set core.views id (with_loss me.0.doing.view place c)) (sym clean_found))
        refl

  pub claims : (seen : Clean) (old new : ℕ) → MayClaim me.0.doing.view place seen → old ≡ word_of_clean seen
      → (let held : Clean = record { upto = seen.upto; held = true } in new ≡ word_of_clean held)
      → step.word ≡ 3 * place + 2 → step.first ≡ old
      → Allows (IsKeptTable subject places worth touches opening) slots id me (3 * place + 2)
      (λ n. either (n == old) new n) (λ n after. TriedClaim step me n after)
  claims seen old new ground is next word first t kept deep at fits =
      let found : ℕ = slice_index t.words (3 * place + 2) in
      let here : (place' : ℕ) → step.word ≡ 3 * place' + 2 → place ≡ place' = λ place' word'. omega (arith, word, word') in
      let one : (place' : ℕ) (seen' : Clean) → step.word ≡ 3 * place' + 2 → step.first ≡ word_of_clean seen'
      → OneMore me.0.steps (me.0.steps ++ record {
        number = next_number kept.events;
        made = made_of (Claim id place seen) found;
      } ∷ []) (λ v. Claim v place' seen') found =
      λ place' seen' word' first'.
      let same_clean : seen ≡ seen' =
      sym (clean_at-code_of seen) ∙ ap clean_at (sym is ∙ sym first ∙ first') ∙ clean_at-code_of seen' in
      one_more me.0.steps id (next_number kept.events) (λ v. Claim v place' seen') found (Claim id place seen) found
      (ap (λ p. Claim id p seen) (here place' word') ∙ ap (λ c. Claim id place' c) same_clean) refl in
      elim (cases_eq found old) [
        | inl same ↦ (
          with_step me.0 (with_claim me.0.doing place) (next_number kept.events) (made_of (Claim id place seen) found),
          keeps,
          tt,
          took t kept at seen (either (found == old) new found) ground (same ∙ is) (hit found old new same ∙ next),
          record {
            slots = refl;
            rest = keeps_rest me.0.doing _ refl refl refl;
            reads = record { half = refl; reads = refl };
            one = one;
            taken = λ place' word' was. ap (λ p. with_claim me.0.doing p) (here place' word');
            refused = λ place' word' differs. absurd (differs (same ∙ sym first));
          },
        )
        | inr differs ↦ (
          with_step me.0 (with_refusal me.0.doing place (clean_at found)) (next_number kept.events) (made_of (Claim id place seen) found),
          keeps,
          tt,
          lost t kept at seen (either (found == old) new found) ground (λ e. differs (e ∙ sym is)) (miss found old new differs),
          record {
            slots = refl;
            rest = keeps_rest me.0.doing _ refl refl refl;
            reads = record { half = refl; reads = refl };
            one = one;
            taken = λ place' word' was. absurd (differs (was ∙ first));
            refused = λ place' word' no. ap (λ p. with_refusal me.0.doing p (clean_at found)) (here place' word');
          },
        )
      ]

  pub puts : (word : ℕ) → MayPut worth me.0.doing.view place word → step.word ≡ 3 * place + 3 → step.first ≡ word
      → Allows (IsKeptTable subject places worth touches opening) slots id me (3 * place + 3) (λ n. word) (λ n after. PutWord step me word after)
  puts word ground index first t kept deep at fits =
      let core : State E = kept.core in
      let changed : Place = record (place_at core.places place) { value = word } in (
        with_step me.0 (with_word_put me.0.doing place word) (next_number kept.events) (made_of (Put id place word) word),
        keeps,
        tt,
        view_step subject places worth touches opening t kept id me.0 at live (Put id place word) word Done
            (after_put core id place word) (with_put me.0.doing.view place word)
            (slice_set t.words (3 * place + 3) word) refl refl
            (record { allowed = (may t kept at, subst (λ (v : View (List E)). MayPut worth v place word) (sym (same t kept at)) ground); gives = (refl, refl) })
            refl
            (ap (λ ws. slice_set ws (3 * place + 3) word) kept.words ∙ value_set (length core.edits.log) core.places place word (lt t kept at))
            refl
            (marks_stay core.places place changed refl)
            (ap (λ (v : View (List E)). slice_set core.views id (with_put v place word)) (same t kept at))
            refl,
        record {
          slots = refl;
          rest = keeps_rest me.0.doing _ refl refl refl;
          reads = record { half = refl; reads = refl };
          doing = λ place' index'.
              let here : place ≡ place' = omega (arith, index, index') in
              ap (λ p. with_word_put me.0.doing p word) here ∙ ap (λ w. with_word_put me.0.doing place' w) (sym first);
          one = λ place' index'.
              let here : place ≡ place' = omega (arith, index, index') in
              one_more me.0.steps id (next_number kept.events) (λ v. Put v place' step.first) step.first (Put id place word) word
              (ap (λ p. Put id p word) here ∙ ap (λ w. Put id place' w) (sym first)) (sym first);
        },
      )

  pub finishes : (mark stored : ℕ) → MayFinish worth touches me.0.doing.view place mark
      → (let free : Clean = record { upto = mark + 1; held = false } in stored ≡ word_of_clean free)
      → step.word ≡ 3 * place + 2 → step.first ≡ stored
      → Allows (IsKeptTable subject places worth touches opening) slots id me (3 * place + 2) (λ n. stored) (λ n after. GaveBack step me stored after)
  finishes mark stored ground is index first t kept deep at fits =
      let free : Clean = record { upto = mark + 1; held = false } in
      let core : State E = kept.core in
      let changed : Place = record (place_at core.places place) { clean = free } in (
        with_step me.0 (with_finish me.0.doing place mark) (next_number kept.events) (made_of (Finish id place mark) stored),
        keeps,
        tt,
        view_step subject places worth touches opening t kept id me.0 at live (Finish id place mark) stored Done
            (after_finish core id place mark) (without_hold me.0.doing.view place mark)
            (slice_set t.words (3 * place + 2) stored) refl refl
            (record {
              allowed = (
                may t kept at,
                subst (λ (v : View (List E)). MayFinish worth touches v place mark)
                    (sym (same t kept at)) ground,
              );
              gives = (refl, refl);
            })
            is
            (ap (λ n. slice_set t.words (3 * place + 2) n) is ∙ clean_stored t kept at free)
            refl
            (marks_stay core.places place changed refl)
            (ap (λ (v : View (List E)). slice_set core.views id (without_hold v place mark)) (same t kept at))
            refl,
        record {
          slots = refl;
          rest = keeps_rest me.0.doing _ refl refl refl;
          reads = record { half = refl; reads = refl };
          doing = λ place' mark' index' stored'.
              let here : place ≡ place' = omega (arith, index, index') in
              let of_mark : mark ≡ mark' = omega (arith, is, first, stored') in
              ap (λ p. with_finish me.0.doing p mark) here ∙ ap (λ m. with_finish me.0.doing place' m) of_mark;
          one = λ place' mark' index' stored'.
              let here : place ≡ place' = omega (arith, index, index') in
              let of_mark : mark ≡ mark' = omega (arith, is, first, stored') in
              one_more me.0.steps id (next_number kept.events) (λ v. Finish v place' mark') step.first (Finish id place mark) stored
              (ap (λ p. Finish id p mark) here ∙ ap (λ m. Finish id place' m) of_mark) (sym first);
        },
      )
