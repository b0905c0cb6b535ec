-- A step that changes the view of one seat and at most the clean word or the value of one place keeps the rule of the
-- table where it is an event of the core.
use Rattle.std.proofs.Common.{◌≡◌, ℕ, List, [], ◌∷◌, ◌++◌, Option, map, length, true, false, refl, ap, arith}
use Rattle.std.specs.Prelude.{slice_set}
use mathlib.Core.Option.{some}
use lib.ListN.{get_elem?}
use Rattle.atomic_table.specs.Table.{State as TableState}
use Rattle.mark_core.specs.declared.actors.View.{View}
use Rattle.mark_core.specs.declared.words.Place.{Place}
use Rattle.mark_core.specs.States.{State}
use Rattle.mark_core.specs.declared.events.Event.{Event}
use Rattle.mark_core.specs.declared.events.Outcome.{Outcome}
use Rattle.mark_core.specs.Steps.{Happens}
use Rattle.mark_words.specs.declared.tables.Doing.{Doing}
use Rattle.mark_words.specs.declared.tables.History.{History}
use Rattle.mark_words.specs.Words.{words_of_state}
use Rattle.mark_words.specs.Runs.{word_in}
use Rattle.mark_words.specs.Steps.{actor_of, is_single, made_of}
use Rattle.mark_words.specs.Rules.{IsRightSeat, AreSeats, NameSubject, IsKeptTable, doings_of}
use Rattle.mark_words.specs.Plays.{KeepsRest}
use Rattle.mark_words.proofs.TableLemmas.{seat_stays, seat_changes, subject_set}
use Rattle.mark_words.proofs.StepLemmas.{doing_at, doings_set, next_number, with_step}
use Rattle.mark_words.proofs.RunLemmas.{next_run, next_steps, others_stay, same_subject, seat_right}

-- a change of the view that leaves its log and its count
pub keeps_rest : {S E : Type 0} (before : Doing S E) (view : View (List E)) → view.spent ≡ before.view.spent → view.log ≡ before.view.log
    → view.seen ≡ before.view.seen → KeepsRest before (record before { view = view })
keeps_rest before view spent log seen = record { subject = refl; editor = refl; edits = refl; marks = refl; spent = spent; log = log; seen = seen }

module _ {S E : Type 0} (subject : S) (places : ℕ) (worth : List E → ℕ → ℕ) (touches : List E → E → ℕ → Type 0) (opening : List (Option ℕ))
    (t : TableState E (History S E)) (kept : IsKeptTable subject places worth touches opening t)
    (id : ℕ) (history : History S E) (at : get_elem? t.views id ≡ some history) (live : history.doing.view.spent ≡ false) where
  pub view_step : (event : Event E) (word : ℕ) (outcome : Outcome) (core' : State E) (view : View (List E)) (words' : List ℕ)
      → is_single event ≡ true → actor_of event ≡ id
      → Happens worth touches kept.core event outcome core'
      → word ≡ word_in kept.core event
      → words' ≡ words_of_state core'
      → core'.edits ≡ kept.core.edits
      → map (λ (p : Place). p.mark) core'.places ≡ map (λ (p : Place). p.mark) kept.core.places
      → core'.views ≡ slice_set kept.core.views id view
      → view.log ≡ history.doing.view.log
      → IsKeptTable subject places worth touches opening
      (record {
        words = words';
        homes = t.homes;
        views = slice_set t.views id (with_step history (record history.doing { view = view }) (next_number kept.events) (made_of event word));
      })
  view_step event word outcome core' view words' single own happens is words edits marks views log =
      let doing : Doing S E = record history.doing { view = view } in
      let after : History S E = with_step history doing (next_number kept.events) (made_of event word) in
      let right : IsRightSeat core' id history.doing =
      seat_stays kept.core core' id history.doing edits marks (seat_right subject places worth touches opening t kept id history at) in
      record {
        right = kept.right;
        core = core';
        events = kept.events ++ made_of event word ∷ [];
        run = next_run subject places worth touches opening t kept event word outcome core' happens is;
        words = words;
        subjects =
            doings_set (NameSubject subject) t.views id after
            (subject_set subject (doings_of t.views) id doing kept.subjects (λ still. same_subject subject places worth
            touches opening t kept id history at live));
        steps = next_steps subject places worth touches opening t kept id history at live event word doing single own refl;
        seats =
            doings_set (AreSeats core' (kept.events ++ made_of event word ∷ [])) t.views id after
            (seat_changes kept.core core' kept.events (kept.events ++ made_of event word ∷ []) (doings_of t.views)
            kept.seats id history.doing doing (doing_at t.views id history at) live
            views (others_stay subject places worth touches opening t kept id history at live event word single own) refl
            (λ j u apart stays. seat_stays kept.core core' j u edits marks stays)
            (record {
              first = right.first;
              editor = λ on. let ed = right.editor on in record { first = ed.first; edits = ed.edits; marks = ed.marks };
              shorter = right.shorter;
              shorter_length = omega (arith, right.shorter_length, ap length log);
            }));
      }
