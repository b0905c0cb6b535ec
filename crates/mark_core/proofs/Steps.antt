-- The events of the editor and of readers, splits and joins keep the state honest.
use Rattle.std.proofs.Common.{◌≡◌, ◌≢◌, ◌<◌, ◌≤◌, ◌+◌, ℕ, List, [], ◌∷◌, ◌++◌, Option, Some, None, ◌==◌, length, get_or}
use Rattle.std.proofs.Common.{set, refl, sym, ◌∙◌, ap, subst, inl, inr, arith}
use Rattle.std.specs.Prelude.{Contains, Any, nat_lt}
use Rattle.std.proofs.Math.ListN.{length-set}
use Rattle.std.proofs.lemmas.List.{get_or_past}
use Rattle.std.proofs.lemmas.Bool.{cond_both, ltb-true}
use Rattle.mark_core.specs.declared.words.Clean.{Clean}
use Rattle.mark_core.specs.declared.words.Place.{Place}
use Rattle.mark_core.specs.declared.words.Half.{Half}
use Rattle.mark_core.specs.declared.words.Held.{Held}
use Rattle.mark_core.specs.Places.{place_at, words_of}
use Rattle.mark_core.proofs.Stores.{StoresMark}
use Rattle.mark_core.specs.declared.actors.View.{View}
use Rattle.mark_core.specs.States.{State, view_at, with_view, spent_view}
use Rattle.mark_core.specs.Views.{with_count, with_entry, split_off, longer, union_of, with_half, with_value, with_read_end, with_read, with_read_at, with_loss}
use Rattle.mark_core.specs.Permissions.{IsLive, MayMark, MayCommit, MayJoin, MayStepAt}
use Rattle.mark_core.specs.Steps.{marks_for, commits, after_see, after_mark, after_commit, after_split, after_join}
use Rattle.mark_core.specs.Steps.{after_read_clean, after_read_value, after_read_mark, after_refusal}
use Rattle.mark_core.specs.Honest.{IsRightView, HasOneHolder, IsHonest}
use Rattle.mark_core.proofs.Prefixes.{prefix_length}
use Rattle.mark_core.proofs.Frames.{Advances}
use Rattle.mark_core.proofs.Places.{mark_bound, marks_after_mark, values_after_mark, mark_advances, marks_after_commit, values_after_commit, commit_advances}
use Rattle.mark_core.proofs.ViewLemmas.{view_spent, view_stays, view_saw, view_split, view_joined, view_missed}
use Rattle.mark_core.proofs.ViewLemmas.{view_began, view_valued, view_finished, view_committed}
use Rattle.mark_core.proofs.Lists.{set_cases, push_cases, set_keeps, stores_mark, live_within}

-- the holders stay where the held places and what each view holds stay
holders_stay : {E : Type 0} (s s' : State E)
    → ((place : ℕ) → ((words_of s'.places).clean place).held ≡ ((words_of s.places).clean place).held)
    → ((view : ℕ) → (view_at s' view).holds ≡ (view_at s view).holds)
    → HasOneHolder s → HasOneHolder s'
holders_stay s s' held holds one =
    record {
      held = λ place is.
          let h = one.held place (sym (held place) ∙ is) in
          (h.0, subst (λ (l : List Held). Any (λ hold. hold.place ≡ place) l) (sym (holds h.0)) h.1);
      one = λ place view other a b.
          one.one place view other
          (subst (λ (l : List Held). Any (λ hold. hold.place ≡ place) l) (holds view) a)
          (subst (λ (l : List Held). Any (λ hold. hold.place ≡ place) l) (holds other) b);
    }

-- what is right at each view after one was exchanged
pub each_after_set : {E : Type 0} (P : View (List E) → Type 0) (views : List (View (List E))) (view : ℕ) (changed : View (List E)) → view < length views
    → P changed → ((other : ℕ) → other ≢ view → P (get_or views other spent_view))
    → (other : ℕ) → P (get_or (set views view changed) other spent_view)
each_after_set P views view changed lt here there other =
    elim (set_cases views view changed spent_view other lt) [
      | inl s ↦ subst P (sym s.1) here
      | inr s ↦ subst P (sym s.1) (there other s.0)
    ]

ended_spent : {E : Type 0} (view : View (List E)) (half : Option Half) (place mark : ℕ) → (with_read_at view half place mark).spent ≡ view.spent
ended_spent view None place mark = refl
ended_spent view (Some half) place mark =
    cond_both (half.place == place) (with_read view half mark) view (λ v. v.spent ≡ view.spent) (λ e. refl) (λ e. refl)

ended_log : {E : Type 0} (view : View (List E)) (half : Option Half) (place mark : ℕ) → (with_read_at view half place mark).log ≡ view.log
ended_log view None place mark = refl
ended_log view (Some half) place mark =
    cond_both (half.place == place) (with_read view half mark) view (λ v. v.log ≡ view.log) (λ e. refl) (λ e. refl)

ended_holds : {E : Type 0} (view : View (List E)) (half : Option Half) (place mark : ℕ) → (with_read_at view half place mark).holds ≡ view.holds
ended_holds view None place mark = refl
ended_holds view (Some half) place mark =
    cond_both (half.place == place) (with_read view half mark) view (λ v. v.holds ≡ view.holds) (λ e. refl) (λ e. refl)

module _ {E : Type 0} (places : ℕ) (worth : List E → ℕ → ℕ) (touches : List E → E → ℕ → Type 0) (codeless : ℕ → Type 0)
    (untouched : (log : List E) (entry : E) (place : ℕ) → place < places → (touches log entry place → ⊥) → worth (log ++ entry ∷ []) place ≡ worth log place)
    (s : State E) (honest : IsHonest places worth touches codeless s) where
  within : (place : ℕ) → place < length s.places → place < places
  within place lt = omega (arith, honest.count)

  law : (place : ℕ) → place < length s.places → (log : List E) (entry : E) → (touches log entry place → ⊥) → worth (log ++ entry ∷ []) place ≡ worth log place
  law place lt log entry ne = untouched log entry place (within place lt) ne

  -- a change of one view that leaves its log and what it holds
  quiet : (view : ℕ) (changed : View (List E)) → view < length s.views
      → changed.spent ≡ (view_at s view).spent → changed.log ≡ (view_at s view).log → changed.holds ≡ (view_at s view).holds
      → IsRightView worth touches codeless s.edits (words_of s.places) changed
      → IsHonest places worth touches codeless (with_view s view changed)
  quiet view changed lt spent log holds right =
      record {
        count = honest.count;
        editor_live = set_keeps (λ (v : View (List E)). v.spent) s.views view changed spent_view lt spent 0 ∙ honest.editor_live;
        editor_log = set_keeps (λ (v : View (List E)). v.log) s.views view changed spent_view lt log 0 ∙ honest.editor_log;
        marks = honest.marks;
        values = honest.values;
        views =
            each_after_set (IsRightView worth touches codeless s.edits (words_of s.places)) s.views view changed lt right
            (λ other differs. honest.views other);
        holders =
            holders_stay s (with_view s view changed) (λ place. refl)
            (set_keeps (λ (v : View (List E)). v.holds) s.views view changed spent_view lt holds) honest.holders;
      }

  pub see_keeps : (view : ℕ) → IsLive (view_at s view) → IsHonest places worth touches codeless (after_see s view)
  see_keeps view live =
      quiet view (with_count (view_at s view) (length s.edits.log)) (live_within s.views view live) refl refl refl
      (view_saw worth touches codeless s.edits (words_of s.places) (view_at s view) (honest.views view))

  pub read_clean_keeps : (view place : ℕ) → MayStepAt (length s.places) (view_at s view) place
      → IsHonest places worth touches codeless (after_read_clean s view place)
  read_clean_keeps view place may =
      quiet view (with_half (view_at s view) place (place_at s.places place).clean) (live_within s.views view may.live) refl refl refl
      (view_began worth touches codeless s.edits (words_of s.places) (view_at s view) (honest.views view) place (honest.values place (within place may.there)))

  pub read_value_keeps : (view place : ℕ) → MayStepAt (length s.places) (view_at s view) place
      → IsHonest places worth touches codeless (after_read_value s view place)
  read_value_keeps view place may =
      quiet view (with_value (view_at s view) place (place_at s.places place).value) (live_within s.views view may.live) refl refl refl
      (view_valued worth touches codeless s.edits (words_of s.places) (view_at s view) (honest.views view) place)

  pub read_mark_keeps : (view place : ℕ) → MayStepAt (length s.places) (view_at s view) place
      → IsHonest places worth touches codeless (after_read_mark s view place)
  read_mark_keeps view place may =
      let mark : ℕ = (place_at s.places place).mark in
      quiet view (with_read_end (view_at s view) place mark) (live_within s.views view may.live)
      (ended_spent (view_at s view) (view_at s view).half place mark)
      (ended_log (view_at s view) (view_at s view).half place mark)
      (ended_holds (view_at s view) (view_at s view).half place mark)
      (view_finished worth touches codeless s.edits (words_of s.places) (view_at s view) (honest.views view) place
      (honest.marks place (within place may.there)) (honest.values place (within place may.there)) (law place may.there))

  pub refusal_keeps : (view place : ℕ) → IsLive (view_at s view) → IsHonest places worth touches codeless (after_refusal s view place)
  refusal_keeps view place live =
      quiet view (with_loss (view_at s view) place (place_at s.places place).clean) (live_within s.views view live) refl refl refl
      (view_missed worth touches codeless s.edits (words_of s.places) (view_at s view) (honest.views view) place (place_at s.places place).clean)

  pub split_keeps : (view : ℕ) → IsLive (view_at s view) → IsHonest places worth touches codeless (after_split s view)
  split_keeps view live =
      let new : View (List E) = split_off (view_at s view) in
      let first : 0 < length s.views = live_within s.views 0 honest.editor_live in
      let editor : get_or (s.views ++ new ∷ []) 0 spent_view ≡ view_at s 0 =
      elim (push_cases s.views new spent_view 0) [ inl p ↦ absurd (omega (arith, p.0)) | inr p ↦ p.1 ] in
      record {
        count = honest.count;
        editor_live = ap (λ (v : View (List E)). v.spent) editor ∙ honest.editor_live;
        editor_log = ap (λ (v : View (List E)). v.log) editor ∙ honest.editor_log;
        marks = honest.marks;
        values = honest.values;
        views = λ other.
            elim (push_cases s.views new spent_view other) [
              | inl p ↦
                  subst (λ (v : View (List E)). IsRightView worth touches codeless s.edits (words_of s.places) v) (sym p.1)
                  (view_split worth touches codeless s.edits (words_of s.places) (view_at s view) (honest.views view))
              | inr p ↦ subst (λ (v : View (List E)). IsRightView worth touches codeless s.edits (words_of s.places) v) (sym p.1) (honest.views other)
            ];
        holders =
            holders_stay s (after_split s view) (λ place. refl)
            (λ other.
            elim (push_cases s.views new spent_view other) [
              | inl p ↦
                  ap (λ (v : View (List E)). v.holds) p.1
                  ∙ sym (ap (λ (v : View (List E)). v.holds) (get_or_past s.views other spent_view (omega (arith, p.0))))
              | inr p ↦ ap (λ (v : View (List E)). v.holds) p.1
            ])
            honest.holders;
      }

  -- the longer of the editor's log and another view's is the editor's
  editor_longer : (other : ℕ) → longer (view_at s 0).log (view_at s other).log ≡ (view_at s 0).log
  editor_longer other =
      let le : length (view_at s other).log ≤ length s.edits.log =
      prefix_length (view_at s other).log s.edits.log (honest.views other).log.known_prefix in
      let same : length (view_at s 0).log ≡ length s.edits.log = ap length honest.editor_log in
      cond_both (nat_lt (length (view_at s 0).log) (length (view_at s other).log)) (view_at s other).log (view_at s 0).log
      (λ l. l ≡ (view_at s 0).log)
      (λ e. absurd (omega (arith, ltb-true (length (view_at s 0).log) (length (view_at s other).log) e)))
      (λ e. refl)

  pub join_keeps : (view other : ℕ) → view ≢ other → other ≢ 0 → MayJoin (view_at s view) (view_at s other)
      → IsHonest places worth touches codeless (after_join s view other)
  join_keeps view other apart not_editor may =
      let both : View (List E) = union_of (view_at s view) (view_at s other) in
      let lt : view < length s.views = live_within s.views view may.live in
      let lt_other : other < length s.views = live_within s.views other may.other_live in
      let length_same : length (set s.views view both) ≡ length s.views = length-set s.views view both in
      let lt' : other < length (set s.views view both) = omega arith in
      let first : get_or (set (set s.views view both) other spent_view) 0 spent_view ≡ get_or (set s.views view both) 0 spent_view =
      elim (set_cases (set s.views view both) other spent_view spent_view 0 lt') [ inl p ↦ absurd (not_editor (sym p.0)) | inr p ↦ p.1 ] in
      record {
        count = honest.count;
        editor_live =
            ap (λ (v : View (List E)). v.spent) first
            ∙ set_keeps (λ (v : View (List E)). v.spent) s.views view both spent_view lt refl 0
            ∙ honest.editor_live;
        editor_log =
            ap (λ (v : View (List E)). v.log) first
            ∙ elim (set_cases s.views view both spent_view 0 lt) [
              | inl p ↦
                  ap (λ (v : View (List E)). v.log) p.1
                  ∙ ap (λ i. longer (view_at s i).log (view_at s other).log) (sym p.0)
                  ∙ editor_longer other
              | inr p ↦ ap (λ (v : View (List E)). v.log) p.1
            ]
            ∙ honest.editor_log;
        marks = honest.marks;
        values = honest.values;
        views =
            each_after_set (IsRightView worth touches codeless s.edits (words_of s.places)) (set s.views view both) other spent_view lt'
            (view_spent worth touches codeless s.edits (words_of s.places))
            (λ third differs.
            each_after_set (IsRightView worth touches codeless s.edits (words_of s.places)) s.views view both lt
            (view_joined worth touches codeless s.edits (words_of s.places) (view_at s view) (honest.views view) (view_at s other) (honest.views other))
            (λ fourth differs'. honest.views fourth) third);
        holders =
            holders_stay s (after_join s view other) (λ place. refl)
            (λ third.
            elim (set_cases (set s.views view both) other spent_view spent_view third lt') [
              | inl p ↦
                  ap (λ (v : View (List E)). v.holds) p.1
                  ∙ sym may.empty_handed
                  ∙ ap (λ i. (view_at s i).holds) (sym p.0)
              | inr p ↦
                  ap (λ (v : View (List E)). v.holds) p.1
                  ∙ set_keeps (λ (v : View (List E)). v.holds) s.views view both spent_view lt refl third
            ])
            honest.holders;
      }

  pub mark_keeps : (entry : E) (place : ℕ) → place < length s.places → MayMark touches s.edits (view_at s 0) entry place
      → IsHonest places worth touches codeless (after_mark s entry place)
  mark_keeps entry place there may =
      let after : List Place = set s.places place (record (place_at s.places place) { mark = length s.edits.log + 1 }) in
      let stores : StoresMark (words_of s.places) (words_of after) place (length s.edits.log + 1) = stores_mark s.places place there (length s.edits.log + 1) in
      let touched : touches s.edits.log entry place = subst (λ (l : List E). touches l entry place) honest.editor_log may.touched in
      let advances : Advances s.edits (marks_for s.edits entry place) (words_of s.places) (words_of after) =
      mark_advances worth touches codeless s.edits (words_of s.places) (words_of after) entry place stores may.idle
      (mark_bound touches s.edits place (place_at s.places place).mark (honest.marks place (within place there))) in
      record {
        count = length-set s.places place (record (place_at s.places place) { mark = length s.edits.log + 1 }) ∙ honest.count;
        editor_live = honest.editor_live;
        editor_log = honest.editor_log;
        marks = λ other lt.
            marks_after_mark worth touches codeless s.edits (words_of s.places) (words_of after) entry place stores
            may.idle touched other (honest.marks other lt);
        values = λ other lt.
            values_after_mark worth touches codeless s.edits (words_of s.places) (words_of after) entry place stores other (honest.values other lt);
        views = λ view.
            view_stays worth touches codeless s.edits (marks_for s.edits entry place) (words_of s.places) (words_of after) (view_at s view) advances
            (λ hold among h. (stores.cleans hold.place, stores.values hold.place)) (honest.views view);
        holders =
            holders_stay s (after_mark s entry place) (λ p. ap (λ (x : Clean). x.held) (stores.cleans p)) (λ view. refl) honest.holders;
      }

  pub commit_keeps : (entry : E) → MayCommit touches (length s.places) s.edits (view_at s 0) entry
      → IsHonest places worth touches codeless (after_commit s 0 entry)
  commit_keeps entry may =
      let lt : 0 < length s.views = live_within s.views 0 honest.editor_live in
      let new : View (List E) = with_entry (view_at s 0) entry in
      let all : (place : ℕ) → place < places → touches s.edits.log entry place → Contains s.edits.marked place =
      λ place there t. may.marked place (omega (arith, honest.count)) (subst (λ (l : List E). touches l entry place) (sym honest.editor_log) t) in
      record {
        count = honest.count;
        editor_live = set_keeps (λ (v : View (List E)). v.spent) s.views 0 new spent_view lt refl 0 ∙ honest.editor_live;
        editor_log =
            elim (set_cases s.views 0 new spent_view 0 lt) [
              | inl p ↦ ap (λ (v : View (List E)). v.log) p.1 ∙ ap (λ l. l ++ entry ∷ []) honest.editor_log
              | inr p ↦ absurd (p.0 refl)
            ];
        marks = λ place there.
            marks_after_commit worth touches codeless s.edits entry may.pending place (place_at s.places place).mark
            (all place there) (honest.marks place there);
        values = λ place there.
            values_after_commit worth touches codeless s.edits entry may.pending place (place_at s.places place).mark
            (place_at s.places place).clean (place_at s.places place).value
            (all place there) (untouched s.edits.log entry place there) (honest.marks place there) (honest.values place there);
        views =
            each_after_set (IsRightView worth touches codeless (commits s.edits entry) (words_of s.places)) s.views 0 new lt
            (view_committed worth touches codeless s.edits (words_of s.places) (view_at s 0) (honest.views 0) entry may.pending honest.editor_log)
            (λ other differs.
            view_stays worth touches codeless s.edits (commits s.edits entry) (words_of s.places) (words_of s.places) (view_at s other)
            (commit_advances worth touches codeless s.edits entry may.pending (words_of s.places)) (λ hold among h. (refl, refl)) (honest.views other));
        holders =
            holders_stay s (after_commit s 0 entry) (λ place. refl)
            (set_keeps (λ (v : View (List E)). v.holds) s.views 0 new spent_view lt refl) honest.holders;
      }
