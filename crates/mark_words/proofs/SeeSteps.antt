-- A see keeps the rule of the table.
use Rattle.std.proofs.Common.{◌≡◌, ◌<◌, ◌≤◌, ℕ, List, Option, [], ◌∷◌, ◌++◌, length, false, refl, sym, ◌∙◌, ap, subst, arith}
use Rattle.std.specs.Prelude.{slice_index, slice_set}
use Rattle.atomic_table.specs.Table.{Me, Step, Allows}
use Rattle.atomic_table.specs.Table.Act.{keeps}
use Rattle.mark_core.specs.declared.actors.Edits.{Edits}
use Rattle.mark_core.specs.declared.actors.View.{View}
use Rattle.mark_core.specs.States.{State, view_at}
use Rattle.mark_core.specs.Marks.{IsPrefix}
use Rattle.mark_core.specs.Views.{with_count}
use Rattle.mark_core.specs.Steps.{after_see}
use Rattle.mark_core.proofs.Prefixes.{prefix_length}
use Rattle.mark_core.proofs.ViewLemmas.{shorter_prefix}
use Rattle.mark_core.specs.declared.events.Event.TheVariants.{See}
use Rattle.mark_core.specs.declared.events.Outcome.TheVariants.{Count}
use Rattle.mark_words.specs.declared.tables.Doing.{Doing}
use Rattle.mark_words.specs.declared.tables.History.{History}
use Rattle.mark_words.specs.Doing.{with_see}
use Rattle.mark_words.specs.Words.{words_of_places}
use Rattle.mark_words.specs.Steps.{made_of}
use Rattle.mark_words.specs.Rules.{IsRightSeat, AreSeats, NameSubject, IsKeptTable, doings_of}
use Rattle.mark_words.specs.Plays.{Saw}
use Rattle.mark_words.proofs.TableLemmas.{first_again, seat_stays, seat_changes, subject_set}
use Rattle.mark_words.proofs.StepLemmas.{doing_at, doings_set, next_number, with_step, one_more}
use Rattle.mark_words.proofs.RunLemmas.{next_run, honest_state, next_steps, others_stay, same_view, same_subject, seat_right}

module _ {S E : Type 0} (subject : S) (places : ℕ) (worth : List E → ℕ → ℕ) (touches : List E → E → ℕ → Type 0)
    (untouched : (log : List E) (entry : E) (place : ℕ) → place < places → (touches log entry place → ⊥) → worth (log ++ entry ∷ []) place ≡ worth log place)
    (opening : List (Option ℕ)) where
  pub sees : (slots id : ℕ) (me : Me E (History S E)) (step : Step E) → me.0.doing.view.spent ≡ false
      → Allows (IsKeptTable subject places worth touches opening) slots id me 0 (λ n. n) (λ n after. Saw step me n after)
  sees slots id me step live t kept deep at fits =
      let core : State E = kept.core in
      let count : ℕ = slice_index t.words 0 in
      let is : count ≡ length core.edits.log = ap (λ ws. slice_index ws 0) kept.words in
      let same : view_at core id ≡ me.0.doing.view = same_view subject places worth touches opening t kept id me.0 at live in
      let live' : (view_at core id).spent ≡ false = ap (λ (v : View (List E)). v.spent) same ∙ live in
      let seat : IsRightSeat core id me.0.doing = seat_right subject places worth touches opening t kept id me.0 at in
      let honest = honest_state subject places worth touches opening t kept untouched in
      let log = (honest.views id).log in
      let known : IsPrefix me.0.doing.view.log core.edits.log = subst (λ (v : View (List E)). IsPrefix v.log core.edits.log) same log.known_prefix in
      let doing : Doing S E = with_see me.0.doing count in
      let new : History S E = with_step me.0 doing (next_number kept.events) (made_of (See id) count) in (
        new,
        keeps,
        tt,
        record {
          right = kept.right;
          core = after_see core id;
          events = kept.events ++ made_of (See id) count ∷ [];
          run = next_run subject places worth touches opening t kept (See id) count (Count (length core.edits.log))
              (after_see core id) (record { allowed = live'; gives = (refl, refl) }) is;
          words = first_again t.words (length core.edits.log) (words_of_places core.places) kept.words ∙ kept.words;
          subjects =
              doings_set (NameSubject subject) t.views id new
              (subject_set subject (doings_of t.views) id doing kept.subjects
              (λ still. same_subject subject places worth touches opening t kept id me.0 at live));
          steps = next_steps subject places worth touches opening t kept id me.0 at live (See id) count doing refl refl refl;
          seats =
              doings_set (AreSeats (after_see core id) (kept.events ++ made_of (See id) count ∷ [])) t.views id new
              (seat_changes core (after_see core id) kept.events (kept.events ++ made_of (See id) count
              ∷ []) (doings_of t.views) kept.seats id me.0.doing doing (doing_at t.views id me.0 at) live
              (ap (λ (v : View (List E)). slice_set core.views id (with_count v (length core.edits.log))) same
              ∙ ap (λ n. slice_set core.views id (with_count me.0.doing.view n)) (sym is))
              (others_stay subject places worth touches opening t kept id me.0 at live (See id) count refl refl)
              refl
              (λ j u apart right. seat_stays core (after_see core id) j u refl refl right)
              (record {
                first = seat.first;
                editor = λ e. let ed = seat.editor e in record { first = ed.first; edits = ed.edits; marks = ed.marks };
                shorter = seat.shorter;
                shorter_length = seat.shorter_length;
              }));
        },
        record {
          slots = refl;
          doing = refl;
          one = one_more me.0.steps id (next_number kept.events) See count (See id) count refl refl;
          seen = let le : (view_at core id).seen ≤ length core.edits.log = log.seen_below in
              subst (λ (n : ℕ). me.0.doing.view.seen ≤ n) (sym is) (subst (λ (v : View (List E)). v.seen ≤ length core.edits.log) same le);
          within = omega (arith, prefix_length me.0.doing.view.log core.edits.log known);
          editor = λ e.
              let whole : me.0.doing.view.log ≡ core.edits.log =
              ap (λ (v : View (List E)). v.log) (sym same) ∙ ap (λ i. (view_at core i).log) (seat.editor e).first ∙ honest.editor_log in
              (is ∙ ap length (sym whole), whole ∙ ap (λ (x : Edits E). x.log) (sym (seat.editor e).edits));
          shorter = shorter_prefix me.0.doing.shorter me.0.doing.view.log core.edits.log seat.shorter known seat.shorter_length;
        },
      )
