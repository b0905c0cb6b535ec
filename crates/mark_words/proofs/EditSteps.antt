-- Marks and commits of the editor's seat keep the rule of the table.
use Rattle.std.proofs.Common.{◌≡◌, ◌<◌, ◌+◌, ◌*◌, ◌==◌, ◌⊎◌, ℕ, zero, suc, List, [], ◌∷◌, ◌++◌, Option, Some, None, map}
use Rattle.std.proofs.Common.{length, get_or, false, true, refl, sym, ◌∙◌, ap, subst, arith, length-append}
use Rattle.std.specs.Prelude.{is_some, Contains, slice_index, slice_set}
use Rattle.std.proofs.lemmas.List.{map-set, set-get_or}
use Rattle.std.proofs.lemmas.Bool.{eq-eqb}
use mathlib.Core.Option.{some, some-injective}
use prog.Atomic.{either}
use Rattle.atomic_table.specs.Table.{Me, Step, Allows}
use Rattle.atomic_table.specs.Table.Act.{keeps}
use Rattle.mark_core.specs.declared.actors.Edits.{Edits}
use Rattle.mark_core.specs.declared.actors.View.{View}
use Rattle.mark_core.specs.declared.words.Place.{Place}
use Rattle.mark_core.specs.Places.{place_at}
use Rattle.mark_core.specs.States.{State, view_at, spent_view}
use Rattle.mark_core.specs.Views.{with_entry}
use Rattle.mark_core.specs.Permissions.{MayMark, MayCommit}
use Rattle.mark_core.specs.Steps.{marks_for, commits, after_mark, after_commit}
use Rattle.mark_core.proofs.Prefixes.{prefix_more}
use Rattle.mark_core.specs.declared.events.Event.TheVariants.{Mark, Commit}
use Rattle.mark_core.specs.declared.events.Outcome.TheVariants.{Done, Count}
use Rattle.mark_words.specs.declared.tables.Doing.{Doing}
use Rattle.mark_words.specs.declared.tables.History.{History}
use Rattle.mark_words.specs.Doing.{with_mark, with_commit}
use Rattle.mark_words.specs.Words.{words_of_places}
use Rattle.mark_words.specs.Steps.{made_of}
use Rattle.mark_words.specs.Rules.{IsRightSeat, IsEditor, AreSeats, NameSubject, IsKeptTable, doings_of}
use Rattle.mark_words.specs.Plays.{Marked, Committed}
use Rattle.mark_words.proofs.TableLemmas.{first_set, mark_word, mark_set, seat_changes, subject_set}
use Rattle.mark_words.proofs.StepLemmas.{doing_at, doings_set, next_number, with_step, one_more}
use Rattle.mark_words.proofs.RunLemmas.{next_run, honest_state, next_steps, others_stay, same_view, same_subject, seat_right}

-- a compare-exchange that finds what it expects
hit : (found old new : ℕ) → found ≡ old → either (found == old) new found ≡ new
hit found old new same = ap (λ b. either b new found) (eq-eqb found old same)

some_entry : {X : Type 0} (o : Option X) → is_some o ≡ true → (x : X) × (o ≡ Some x)
some_entry None there = absurd (cc)
some_entry (Some x) there = (x, refl)

old_mark : (places : List Place) (place d : ℕ) → place < length places → get_or (map (λ (p : Place). p.mark) places) place d ≡ (place_at places place).mark
old_mark [] place d lt = absurd (omega arith)
old_mark (p ∷ places) zero d lt = refl
old_mark (p ∷ places) (suc place) d lt = old_mark places place d (omega arith)

module _ {S E : Type 0} (subject : S) (places : ℕ) (worth : List E → ℕ → ℕ) (touches : List E → E → ℕ → Type 0)
    (untouched : (log : List E) (entry : E) (place : ℕ) → place < places → (touches log entry place → ⊥) → worth (log ++ entry ∷ []) place ≡ worth log place)
    (opening : List (Option ℕ)) where
  pub commits_entry : (slots id : ℕ) (me : Me E (History S E)) (step : Step E) (entry : E) (new : ℕ)
      → me.0.doing.view.spent ≡ false → me.0.doing.editor ≡ true → me.0.doing.edits.pending ≡ Some entry
      → ((place : ℕ) → place < length opening → touches me.0.doing.view.log entry place → Contains me.0.doing.edits.marked place)
      → new ≡ length me.0.doing.view.log + 1
      → Allows (IsKeptTable subject places worth touches opening) slots id me 0 (λ n. new) (λ n after. Committed step me new after)
  commits_entry slots id me step entry new live on pending all is t kept deep at fits =
      let core : State E = kept.core in
      let honest = honest_state subject places worth touches opening t kept untouched in
      let same : view_at core id ≡ me.0.doing.view = same_view subject places worth touches opening t kept id me.0 at live in
      let seat : IsRightSeat core id me.0.doing = seat_right subject places worth touches opening t kept id me.0 at in
      let ed : IsEditor core id me.0.doing = seat.editor on in
      let here : view_at core 0 ≡ me.0.doing.view = ap (λ i. view_at core i) (sym ed.first) ∙ same in
      let whole : me.0.doing.view.log ≡ core.edits.log = ap (λ (v : View (List E)). v.log) (sym here) ∙ honest.editor_log in
      let may : MayCommit touches (length core.places) core.edits (view_at core 0) entry =
      record {
        pending = ap (λ (x : Edits E). x.pending) (sym ed.edits) ∙ pending;
        marked = λ place lt touched.
            subst (λ (x : Edits E). Contains x.marked place) ed.edits
            (all place (omega (arith, honest.count, kept.right.count)) (subst (λ (v : View (List E)). touches v.log entry place) here touched));
      } in
      let after : State E = after_commit core 0 entry in
      let doing : Doing S E = with_commit me.0.doing entry in
      let count : new ≡ length (core.edits.log ++ entry ∷ []) =
      is ∙ ap (λ l. length l + 1) whole ∙ sym (length-append core.edits.log (entry ∷ [])) in
      let made : History S E = with_step me.0 doing (next_number kept.events) (made_of (Commit 0 entry) new) in (
        made,
        keeps,
        tt,
        record {
          right = kept.right;
          core = after;
          events = kept.events ++ made_of (Commit 0 entry) new ∷ [];
          run =
              next_run subject places worth touches opening t kept (Commit 0 entry) new (Count (length core.edits.log + 1)) after
              (record { allowed = (refl, honest.editor_live, may); gives = (refl, refl) }) (is ∙ ap (λ l. length l + 1) whole);
          words =
              first_set t.words (length core.edits.log) new (words_of_places core.places) kept.words
              ∙ ap (λ n. n ∷ words_of_places core.places) count;
          subjects =
              doings_set (NameSubject subject) t.views id made
              (subject_set subject (doings_of t.views) id doing kept.subjects
              (λ still. same_subject subject places worth touches opening t kept id me.0 at live));
          steps = next_steps subject places worth touches opening t kept id me.0 at live (Commit 0 entry) new doing refl (sym ed.first) refl;
          seats =
              doings_set (AreSeats after (kept.events ++ made_of (Commit 0 entry) new ∷ [])) t.views id made
              (seat_changes core after kept.events (kept.events ++ made_of (Commit 0 entry) new
              ∷ []) (doings_of t.views) kept.seats id me.0.doing doing (doing_at t.views id me.0 at) live
              (ap (λ i. slice_set core.views i (with_entry (view_at core 0) entry)) (sym ed.first)
              ∙ ap (λ v. slice_set core.views id (with_entry v entry)) here)
              (others_stay subject places worth touches opening t kept id me.0 at live (Commit 0 entry) new refl (sym ed.first))
              refl
              (λ j u apart right.
              record {
                first = right.first;
                editor = λ e. absurd (apart ((right.editor e).first ∙ sym ed.first));
                shorter = prefix_more u.shorter core.edits.log (entry ∷ []) right.shorter;
                shorter_length = right.shorter_length;
              })
              (record {
                first = seat.first;
                editor = λ e. record { first = ed.first; edits = ap (λ x. commits x entry) ed.edits; marks = ed.marks };
                shorter = prefix_more me.0.doing.shorter core.edits.log (entry ∷ []) seat.shorter;
                shorter_length = omega (arith, seat.shorter_length, length-append me.0.doing.view.log (entry ∷ []));
              }));
        },
        record {
          slots = refl;
          entry = entry;
          pending = pending;
          doing = refl;
          one = one_more me.0.steps 0 (next_number kept.events) (λ v. Commit v entry) new (Commit 0 entry) new refl
              refl;
        },
      )

  -- the same, of whatever entry is pending
  pub commits_some : (slots id : ℕ) (me : Me E (History S E)) (step : Step E) (new : ℕ) → me.0.doing.view.spent ≡ false
      → me.0.doing.editor ≡ true → is_some me.0.doing.edits.pending ≡ true
      → ((entry : E) → me.0.doing.edits.pending ≡ Some entry → (place : ℕ) → place < length opening
      → touches me.0.doing.view.log entry place → Contains me.0.doing.edits.marked place)
      → new ≡ length me.0.doing.view.log + 1
      → Allows (IsKeptTable subject places worth touches opening) slots id me 0 (λ n. new) (λ n after. Committed step me new after)
  commits_some slots id me step new live on there all is =
      let entry = some_entry me.0.doing.edits.pending there in
      commits_entry slots id me step entry.0 new live on entry.1 (all entry.0 entry.1) is

  pub marks_place : (slots id : ℕ) (me : Me E (History S E)) (step : Step E) (entry : E) (place old new : ℕ)
      → me.0.doing.view.spent ≡ false → me.0.doing.editor ≡ true → place < length opening
      → (me.0.doing.edits.pending ≡ None) ⊎ (me.0.doing.edits.pending ≡ Some entry) → touches me.0.doing.view.log entry place
      → new ≡ length me.0.doing.view.log + 1 → (d : ℕ) → old ≡ get_or me.0.doing.marks place d
      → step.word ≡ 3 * place + 1 → step.second ≡ new → step.said ≡ some entry
      → Allows (IsKeptTable subject places worth touches opening) slots id me (3 * place + 1) (λ n. either (n == old) new n) (λ n after. Marked step me n after)
  marks_place slots id me step entry place old new live on there idle touched is d known word second said t kept deep at fits =
      let core : State E = kept.core in
      let honest = honest_state subject places worth touches opening t kept untouched in
      let same : view_at core id ≡ me.0.doing.view = same_view subject places worth touches opening t kept id me.0 at live in
      let seat : IsRightSeat core id me.0.doing = seat_right subject places worth touches opening t kept id me.0 at in
      let ed : IsEditor core id me.0.doing = seat.editor on in
      let here : view_at core 0 ≡ me.0.doing.view = ap (λ i. view_at core i) (sym ed.first) ∙ same in
      let whole : me.0.doing.view.log ≡ core.edits.log = ap (λ (v : View (List E)). v.log) (sym here) ∙ honest.editor_log in
      let lt : place < length core.places = omega (arith, honest.count, kept.right.count) in
      let may : MayMark touches core.edits (view_at core 0) entry place =
      record {
        idle = subst (λ (x : Edits E). (x.pending ≡ None) ⊎ (x.pending ≡ Some entry)) ed.edits idle;
        touched = subst (λ (v : View (List E)). touches v.log entry place) (sym here) touched;
      } in
      let after : State E = after_mark core entry place in
      let count : new ≡ length core.edits.log + 1 = is ∙ ap (λ l. length l + 1) whole in
      let found : ℕ = slice_index t.words (3 * place + 1) in
      let mark : found ≡ (place_at core.places place).mark =
      ap (λ ws. slice_index ws (3 * place + 1)) kept.words ∙ mark_word (length core.edits.log) core.places place lt in
      let own : old ≡ (place_at core.places place).mark =
      known ∙ ap (λ l. get_or l place d) ed.marks ∙ old_mark core.places place d lt in
      let hits : either (found == old) new found ≡ new = hit found old new (mark ∙ sym own) in
      let doing : Doing S E = with_mark me.0.doing entry place new in
      let changed : Place = record (place_at core.places place) { mark = new } in
      let made : History S E = with_step me.0 doing (next_number kept.events) (made_of (Mark 0 entry place) new) in (
        made,
        keeps,
        tt,
        record {
          right = kept.right;
          core = after;
          events = kept.events ++ made_of (Mark 0 entry place) new ∷ [];
          run =
              next_run subject places worth touches opening t kept (Mark 0 entry place) new Done after
              (record { allowed = (refl, record { there = lt; live = honest.editor_live }, may); gives = (refl, refl) }) count;
          words =
              ap (λ n. slice_set t.words (3 * place + 1) n) hits
              ∙ ap (λ ws. slice_set ws (3 * place + 1) new) kept.words
              ∙ mark_set (length core.edits.log) core.places place new lt
              ∙ ap (λ n. length core.edits.log ∷ words_of_places (slice_set core.places place (record (place_at core.places place) { mark = n }))) count;
          subjects =
              doings_set (NameSubject subject) t.views id made
              (subject_set subject (doings_of t.views) id doing kept.subjects
              (λ still. same_subject subject places worth touches opening t kept id me.0 at live));
          steps = next_steps subject places worth touches opening t kept id me.0 at live (Mark 0 entry place) new doing refl (sym ed.first) refl;
          seats =
              doings_set (AreSeats after (kept.events ++ made_of (Mark 0 entry place) new ∷ [])) t.views id made
              (seat_changes core after kept.events (kept.events ++ made_of (Mark 0 entry place) new
              ∷ []) (doings_of t.views) kept.seats id me.0.doing doing (doing_at t.views id me.0 at) live
              (sym (set-get_or core.views id spent_view) ∙ ap (λ v. slice_set core.views id v) same)
              (others_stay subject places worth touches opening t kept id me.0 at live (Mark 0 entry place) new refl (sym ed.first))
              refl
              (λ j u apart right.
              record {
                first = right.first;
                editor = λ e'. absurd (apart ((right.editor e').first ∙ sym ed.first));
                shorter = right.shorter;
                shorter_length = right.shorter_length;
              })
              (record {
                first = seat.first;
                editor = λ e. record {
                  first = ed.first;
                  edits = ap (λ x. marks_for x entry place) ed.edits;
                  marks =
                      ap (λ l. slice_set l place new) ed.marks
                      ∙ sym (map-set (λ (p : Place). p.mark) core.places place changed)
                      ∙ ap (λ n. map (λ (p : Place). p.mark) (slice_set core.places place (record (place_at core.places place) { mark = n }))) count;
                };
                shorter = seat.shorter;
                shorter_length = seat.shorter_length;
              }));
        },
        record {
          slots = refl;
          doing = λ place' entry' word' said'.
              let same_place : place ≡ place' = omega (arith, word, word') in
              let same_entry : entry ≡ entry' = some-injective entry entry' (sym said ∙ said') in
              ap (λ p. with_mark me.0.doing entry p new) same_place
              ∙ ap (λ y. with_mark me.0.doing y place' new) same_entry
              ∙ ap (λ n. with_mark me.0.doing entry' place' n) (sym second);
          one = λ place' entry' word' said'.
              let same_place : place ≡ place' = omega (arith, word, word') in
              let same_entry : entry ≡ entry' = some-injective entry entry' (sym said ∙ said') in
              one_more me.0.steps 0 (next_number kept.events) (λ v. Mark v entry' place') step.second (Mark 0 entry place) new
              (ap (λ p. Mark 0 entry p) same_place ∙ ap (λ y. Mark 0 y place') same_entry) (sym second);
        },
      )
