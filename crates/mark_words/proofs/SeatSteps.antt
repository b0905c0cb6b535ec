-- Splits and joins of seats keep the rule of the table.
use Rattle.std.proofs.Common.{◌≡◌, ◌≢◌, ◌<◌, ◌≤◌, ℕ, List, Option, [], ◌∷◌, ◌++◌, length, false, true, refl, sym, ◌∙◌, ap, subst, arith}
use Rattle.std.specs.Prelude.{slice_set, nat_lt}
use Rattle.std.proofs.lemmas.Bool.{cond_both, ltb-true, ltb-false}
use mathlib.Core.Option.{some}
use lib.ListN.{get_elem?}
use Rattle.atomic_table.specs.Table.{Splits, Joins}
use Rattle.atomic_table.proofs.Lists.{set_again, set_else}
use Rattle.mark_core.specs.declared.actors.View.{View}
use Rattle.mark_core.specs.States.{State, view_at, with_view}
use Rattle.mark_core.specs.Marks.{IsPrefix}
use Rattle.mark_core.specs.Views.{split_off, longer, union_of}
use Rattle.mark_core.specs.Permissions.{MayJoin}
use Rattle.mark_core.specs.Steps.{after_split, after_join}
use Rattle.mark_core.proofs.Prefixes.{prefix_of_nothing}
use Rattle.mark_core.specs.declared.events.Event.TheVariants.{Split, Join}
use Rattle.mark_core.specs.declared.events.Outcome.TheVariants.{Done, Seat}
use Rattle.mark_words.specs.declared.tables.Doing.{Doing}
use Rattle.mark_words.specs.declared.tables.History.{History}
use Rattle.mark_words.specs.declared.tables.Made.{Made}
use Rattle.mark_words.specs.Doing.{copy_of, shorter_of, spent_doing, copy_history, union_history, gather_history, spent_history}
use Rattle.mark_words.specs.Rules.{IsRightSeat, AreSeats, NameSubject, IsKeptTable, doings_of}
use Rattle.mark_words.specs.Steps.{steps_of, made_of, AreStepsOf}
use Rattle.mark_words.proofs.TableLemmas.{some_within, seat_stays, seat_changes, seat_added, seat_gathers, subject_set, subject_added}
use Rattle.mark_words.proofs.StepLemmas.{doing_at, doings_push, doings_set_both, seats_same, steps_set, steps_added, steps_gathered}
use Rattle.mark_words.proofs.RunLemmas.{next_run, honest_state, same_view, same_subject, same_steps, seat_right}

-- the shorter of two prefixes of a list is one, and is no longer than the longer one
shorter_prefix_of : {X : Type 0} (xs ys zs : List X) → IsPrefix xs zs → IsPrefix ys zs → IsPrefix (shorter_of xs ys) zs
shorter_prefix_of xs ys zs p q =
    cond_both (nat_lt (length xs) (length ys)) xs ys (λ l. IsPrefix l zs) (λ e. p) (λ e. q)

shorter_below : {X : Type 0} (xs ys : List X) → length (shorter_of xs ys) ≤ length (longer xs ys)
shorter_below xs ys =
    cond_both (nat_lt (length xs) (length ys)) xs ys (λ l. length l ≤ length (longer xs ys))
    (λ e. cond_both (nat_lt (length xs) (length ys)) ys xs (λ l. length xs ≤ length l)
    (λ f. let lt : length xs < length ys = ltb-true (length xs) (length ys) e in omega arith) (λ f. omega arith))
    (λ e. cond_both (nat_lt (length xs) (length ys)) ys xs (λ l. length ys ≤ length l) (λ f. omega arith)
    (λ f. let le : length ys ≤ length xs = ltb-false (length xs) (length ys) e in le))

module _ {S E : Type 0} (subject : S) (places : ℕ) (worth : List E → ℕ → ℕ) (touches : List E → E → ℕ → Type 0)
    (untouched : (log : List E) (entry : E) (place : ℕ) → place < places → (touches log entry place → ⊥) → worth (log ++ entry ∷ []) place ≡ worth log place)
    (opening : List (Option ℕ)) where
  pub splits : (id : ℕ) (history : History S E) → history.doing.view.spent ≡ false
      → Splits (IsKeptTable subject places worth touches opening) id history history (copy_history history)
  splits id history live t kept at =
      let core : State E = kept.core in
      let doing : Doing S E = history.doing in
      let events' : List (Made E) = kept.events ++ made_of (Split id) 0 ∷ [] in
      let new : History S E = copy_history history in
      let same : view_at core id ≡ doing.view = same_view subject places worth touches opening t kept id history at live in
      let live' : (view_at core id).spent ≡ false = ap (λ (v : View (List E)). v.spent) same ∙ live in
      let again : slice_set t.views id history ≡ t.views = set_again t.views id history at in
      let within : id < length (doings_of t.views) = some_within (doings_of t.views) id doing (doing_at t.views id history at) in
      record {
        right = kept.right;
        core = after_split core id;
        events = events';
        run =
            next_run subject places worth touches opening t kept (Split id) 0 (Seat (length core.views)) (after_split core id)
            (record { allowed = live'; gives = (refl, refl) }) refl;
        words = kept.words;
        subjects =
            subst (λ l. NameSubject subject (doings_of (l ++ new ∷ []))) (sym again)
            (doings_push (NameSubject subject) t.views new
            (subject_added subject (doings_of t.views) (copy_of doing) kept.subjects
            (same_subject subject places worth touches opening t kept id history at live)));
        steps =
            subst (λ l. AreStepsOf events' (l ++ new ∷ [])) (sym again)
            (steps_added kept.events events' t.views kept.steps new (seats_same kept.events (made_of (Split id) 0) refl) refl);
        seats =
            subst (λ l. AreSeats (after_split core id) events' (doings_of (l ++ new ∷ []))) (sym again)
            (doings_push (AreSeats (after_split core id) events') t.views new
            (seat_added core (after_split core id) kept.events events' (doings_of t.views) (copy_of doing) kept.seats
            (ap (λ v. core.views ++ split_off v ∷ []) same) (seats_same kept.events (made_of (Split id) 0) refl) refl
            (λ j u right. seat_stays core (after_split core id) j u refl refl right)
            (record {
              first = λ zero. absurd (omega (arith, zero));
              editor = λ off. absurd (cc);
              shorter = prefix_of_nothing core.edits.log;
              shorter_length = omega arith;
            })));
      }

  pub joins : (id : ℕ) (history : History S E) (other : ℕ) (note : History S E) → history.doing.view.spent ≡ false → note.doing.view.spent ≡ false
      → note.doing.view.holds ≡ [] → note.doing.editor ≡ false → [] ≡ note.doing.gathered → [] ≡ note.steps
      → Joins (IsKeptTable subject places worth touches opening) id history other note (union_history history note) spent_history
  joins id history other note live note_live empty_handed reader none_gathered no_steps t kept at apart there =
      let core : State E = kept.core in
      let both : History S E = union_history history note in
      let events' : List (Made E) = kept.events ++ made_of (Join id other) 0 ∷ [] in
      let stay : (j : ℕ) → steps_of events' j ≡ steps_of kept.events j = seats_same kept.events (made_of (Join id other) 0) refl in
      let at' : get_elem? t.views other ≡ some note = sym (set_else t.views id other both apart) ∙ there in
      let same : view_at core id ≡ history.doing.view = same_view subject places worth touches opening t kept id history at live in
      let same' : view_at core other ≡ note.doing.view = same_view subject places worth touches opening t kept other note at' note_live in
      let after : State E = after_join core id other in
      let middle : State E = with_view core id (union_of (view_at core id) (view_at core other)) in
      let honest = honest_state subject places worth touches opening t kept untouched in
      let may : MayJoin (view_at core id) (view_at core other) =
      record {
        live = ap (λ (v : View (List E)). v.spent) same ∙ live;
        other_live = ap (λ (v : View (List E)). v.spent) same' ∙ note_live;
        empty_handed = ap (λ (v : View (List E)). v.holds) same' ∙ empty_handed;
      } in
      let seat : IsRightSeat core id history.doing = seat_right subject places worth touches opening t kept id history at in
      let not_first : other ≢ 0 =
      λ zero. absurd (let on : note.doing.editor ≡ true = (seat_right subject places worth touches opening t kept other note at').first zero in cc) in
      let own : IsPrefix history.doing.view.log core.edits.log =
      subst (λ (v : View (List E)). IsPrefix v.log core.edits.log) same (honest.views id).log.known_prefix in
      let others : IsPrefix note.doing.view.log core.edits.log =
      subst (λ (v : View (List E)). IsPrefix v.log core.edits.log) same' (honest.views other).log.known_prefix in
      record {
        right = kept.right;
        core = after;
        events = events';
        run = next_run subject places worth touches opening t kept (Join id other) 0 Done after
            (record { allowed = ((λ e. apart (sym e)), not_first, may); gives = (refl, refl) }) refl;
        words = kept.words;
        subjects =
            doings_set_both (NameSubject subject) t.views id other both spent_history
            (subject_set subject (slice_set (doings_of t.views) id both.doing) other spent_doing
            (subject_set subject (doings_of t.views) id both.doing kept.subjects
            (λ still. same_subject subject places worth touches opening t kept id history at live))
            (λ off. absurd (cc)));
        steps =
            steps_set events' events' (slice_set t.views id both)
            (steps_set kept.events events' t.views kept.steps id history both at (λ j differs. stay j) refl
            (same_steps subject places worth touches opening t kept id history at live ∙ sym (stay id)))
            other note spent_history there (λ j differs. refl) none_gathered
            (no_steps ∙ same_steps subject places worth touches opening t kept other note at' note_live ∙ sym (stay other));
        seats =
            doings_set_both (AreSeats after events') t.views id other both spent_history
            (seat_changes middle after events' events' (slice_set (doings_of t.views) id both.doing)
            (seat_changes core middle kept.events events' (doings_of t.views) kept.seats id history.doing both.doing (doing_at t.views id history at) live
            (ap (λ v. slice_set core.views id (union_of v (view_at core other))) same
            ∙ ap (λ v. slice_set core.views id (union_of history.doing.view v)) same')
            (λ j differs. stay j) refl
            (λ j u differs right. seat_stays core middle j u refl refl right)
            (record {
              first = seat.first;
              editor = λ on. let ed = seat.editor on in record { first = ed.first; edits = ed.edits; marks = ed.marks };
              shorter = shorter_prefix_of history.doing.view.log note.doing.view.log core.edits.log own others;
              shorter_length = shorter_below history.doing.view.log note.doing.view.log;
            }))
            other note.doing spent_doing (set_else (doings_of t.views) id other both.doing apart ∙ doing_at t.views other note at') note_live refl
            (λ j differs. refl) none_gathered
            (λ j u differs right. seat_stays middle after j u refl refl right)
            (record {
              first = λ zero. absurd (not_first zero);
              editor = λ off. absurd (cc);
              shorter = prefix_of_nothing core.edits.log;
              shorter_length = omega arith;
            }));
      }

  -- a seat handed in to the editor's: no event of the core, whose view of it stays
  pub gathers : (id : ℕ) (history : History S E) (other : ℕ) (note : History S E) → history.doing.view.spent ≡ false → history.doing.editor ≡ true
      → note.doing.view.spent ≡ false
      → Joins (IsKeptTable subject places worth touches opening) id history other note (gather_history history note) spent_history
  gathers id history other note live on note_live t kept at apart there =
      let core : State E = kept.core in
      let both : History S E = gather_history history note in
      let at' : get_elem? t.views other ≡ some note = sym (set_else t.views id other both apart) ∙ there in
      let first : id ≡ 0 = ((seat_right subject places worth touches opening t kept id history at).editor on).first in
      let not_first : other ≢ 0 = λ zero. absurd (apart (zero ∙ sym first)) in
      record {
        right = kept.right;
        core = core;
        events = kept.events;
        run = kept.run;
        words = kept.words;
        subjects =
            doings_set_both (NameSubject subject) t.views id other both spent_history
            (subject_set subject (slice_set (doings_of t.views) id both.doing) other spent_doing
            (subject_set subject (doings_of t.views) id both.doing kept.subjects
            (λ still. same_subject subject places worth touches opening t kept id history at live))
            (λ off. absurd (cc)));
        steps = steps_gathered kept.events t.views kept.steps id other history both spent_history at live apart refl (λ none. absurd (cc)) refl;
        seats =
            doings_set_both (AreSeats core kept.events) t.views id other both spent_history
            (seat_gathers core kept.events (doings_of t.views) kept.seats id other history.doing note.doing spent_doing note.steps
            (same_steps subject places worth touches opening t kept other note at' note_live)
            (doing_at t.views id history at) live (doing_at t.views other note at') note_live apart refl refl
            (record {
              first = λ zero. absurd (not_first zero);
              editor = λ off. absurd (cc);
              shorter = prefix_of_nothing core.edits.log;
              shorter_length = omega arith;
            }));
      }
