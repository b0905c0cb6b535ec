-- Claims, puts and finishes keep the state honest.
use Rattle.std.proofs.Common.{◌≡◌, ◌≢◌, ◌<◌, ◌≤◌, ◌+◌, ℕ, List, [], ◌∷◌, ◌++◌, None, true, false, not, ◌==◌, length}
use Rattle.std.proofs.Common.{get_or, set, refl, sym, ◌∙◌, ap, subst, inl, inr, arith}
use Rattle.std.specs.Prelude.{Contains, Any}
use Rattle.std.proofs.Math.ListN.{length-set}
use Rattle.std.proofs.lemmas.List.Elements.{All-contains, Contains-push}
use Rattle.std.proofs.lemmas.Bool.{cases_eq}
use Rattle.mark_core.specs.declared.words.Clean.{Clean}
use Rattle.mark_core.specs.declared.words.Place.{Place}
use Rattle.mark_core.specs.declared.words.Held.{Held}
use Rattle.mark_core.specs.Places.{place_at, words_of}
use Rattle.mark_core.proofs.Stores.{StoresClean, StoresValue}
use Rattle.mark_core.specs.Marks.{IsPrefix}
use Rattle.mark_core.specs.declared.actors.View.{View}
use Rattle.mark_core.specs.States.{State, view_at, spent_view}
use Rattle.mark_core.specs.Views.{with_hold, hold_with, with_put, without_hold}
use Rattle.mark_core.specs.Permissions.{MayStepAt, MayClaim, MayPut, MayFinish}
use Rattle.mark_core.specs.Steps.{after_claim, after_put, after_finish}
use Rattle.mark_core.specs.Honest.{IsRightMark, IsRightHold, IsRightRead, IsRightView, HoldsPlace, IsHonest}
use Rattle.mark_core.proofs.Places.{values_after_claim, claim_advances, values_after_put, put_advances, values_after_finish, finish_advances}
use Rattle.mark_core.proofs.Holds.{any_contained, any_append_left, any_push_cases, any_map, any_from_map, any_filter, any_from_filter, hold_place, is_other}
use Rattle.mark_core.proofs.ViewLemmas.{view_stays, claim_leaves, view_took, view_wrote, view_gave_back}
use Rattle.mark_core.proofs.Lists.{set_cases, set_keeps, stores_clean, stores_value, live_within}
use Rattle.mark_core.proofs.Steps.{each_after_set}

module _ {E : Type 0} (places : ℕ) (worth : List E → ℕ → ℕ) (touches : List E → E → ℕ → Type 0) (codeless : ℕ → Type 0)
    (untouched : (log : List E) (entry : E) (place : ℕ) → place < places → (touches log entry place → ⊥) → worth (log ++ entry ∷ []) place ≡ worth log place)
    (s : State E) (honest : IsHonest places worth touches codeless s) where
  within : (place : ℕ) → place < length s.places → place < places
  within place lt = omega (arith, honest.count)

  law : (place : ℕ) → place < length s.places → (log : List E) (entry : E) → (touches log entry place → ⊥) → worth (log ++ entry ∷ []) place ≡ worth log place
  law place lt log entry ne = untouched log entry place (within place lt) ne

  -- no view holds a place whose clean word is free
  none_holds : (view place : ℕ) → (place_at s.places place).clean.held ≡ false → HoldsPlace (view_at s view) place → ⊥
  none_holds view place free (k, hold, lt, is, same) =
      let right : IsRightHold worth (words_of s.places) (view_at s view).log hold =
      All-contains (IsRightHold worth (words_of s.places) (view_at s view).log) (view_at s view).holds hold (honest.views view).holds (k, lt, is) in
      let held : (place_at s.places place).clean.held ≡ true = ap (λ p. (place_at s.places p).clean.held) (sym same) ∙ right.held in
      absurd (cc)

  -- which places the views hold after a claim of this one
  holds_more : (view place first other : ℕ) → view < length s.views → HoldsPlace (view_at s first) other
      → HoldsPlace (get_or (set s.views view (with_hold (view_at s view) place)) first spent_view) other
  holds_more view place first other lt h =
      elim (set_cases s.views view (with_hold (view_at s view) place) spent_view first lt) [
        | inl p ↦
            subst (λ (v : View (List E)). HoldsPlace v other) (sym p.1)
            (any_append_left (λ (hold : Held). hold.place ≡ other) (view_at s view).holds (record { place = place; word = None } ∷ [])
            (subst (λ (i : ℕ). HoldsPlace (view_at s i) other) p.0 h))
        | inr p ↦ subst (λ (v : View (List E)). HoldsPlace v other) (sym p.1) h
      ]

  held_before : (view place first other : ℕ) → view < length s.views → other ≢ place
      → HoldsPlace (get_or (set s.views view (with_hold (view_at s view) place)) first spent_view) other → HoldsPlace (view_at s first) other
  held_before view place first other lt differs h =
      elim (set_cases s.views view (with_hold (view_at s view) place) spent_view first lt) [
        | inl p ↦
            elim (any_push_cases (λ (hold : Held). hold.place ≡ other) (view_at s view).holds (record { place = place; word = None })
            (subst (λ (v : View (List E)). HoldsPlace v other) p.1 h)) [
              | inl old ↦ subst (λ (i : ℕ). HoldsPlace (view_at s i) other) (sym p.0) old
              | inr same ↦ absurd (differs (sym same))
            ]
        | inr p ↦ subst (λ (v : View (List E)). HoldsPlace v other) p.1 h
      ]

  claimer : (view place first : ℕ) → view < length s.views → (place_at s.places place).clean.held ≡ false
      → HoldsPlace (get_or (set s.views view (with_hold (view_at s view) place)) first spent_view) place → first ≡ view
  claimer view place first lt free h =
      elim (set_cases s.views view (with_hold (view_at s view) place) spent_view first lt) [
        | inl p ↦ p.0
        | inr p ↦ absurd (none_holds first place free (subst (λ (v : View (List E)). HoldsPlace v place) p.1 h))
      ]

  pub claim_keeps : (view place : ℕ) (seen : Clean) → MayStepAt (length s.places) (view_at s view) place → MayClaim (view_at s view) place seen
      → (place_at s.places place).clean ≡ seen → IsHonest places worth touches codeless (after_claim s view place seen)
  claim_keeps view place seen may claim found =
      let held : Clean = record { upto = seen.upto; held = true } in
      let after : List Place = set s.places place (record (place_at s.places place) { clean = held }) in
      let lt : view < length s.views = live_within s.views view may.live in
      let stores : StoresClean (words_of s.places) (words_of after) place held = stores_clean s.places place may.there held in
      let read : IsRightRead worth touches codeless s.edits (words_of s.places) claim.read =
      All-contains (IsRightRead worth touches codeless s.edits (words_of s.places)) (view_at s view).reads claim.read (honest.views view).reads claim.among in
      let read_mark : (place_at s.places claim.read.place).mark ≡ (place_at s.places place).mark =
      ap (λ p. (place_at s.places p).mark) claim.ground.same_place in
      let stale : seen.upto ≤ (place_at s.places place).mark = omega (arith, claim.ground.stale, read.mark_below) in
      let free : (place_at s.places place).clean.held ≡ false = ap (λ (x : Clean). x.held) found ∙ claim.free in
      let new : View (List E) = with_hold (view_at s view) place in
      record {
        count = length-set s.places place (record (place_at s.places place) { clean = held }) ∙ honest.count;
        editor_live = set_keeps (λ (v : View (List E)). v.spent) s.views view new spent_view lt refl 0 ∙ honest.editor_live;
        editor_log = set_keeps (λ (v : View (List E)). v.log) s.views view new spent_view lt refl 0 ∙ honest.editor_log;
        marks = λ other there. subst (λ (m : ℕ). IsRightMark touches s.edits other m) (sym (stores.marks other)) (honest.marks other there);
        values = λ other there.
            values_after_claim worth codeless s.edits (words_of s.places) (words_of after) place seen found stale stores other (honest.values other there);
        views =
            each_after_set (IsRightView worth touches codeless s.edits (words_of after)) s.views view new lt
            (view_took worth touches codeless s.edits (words_of s.places) (words_of after) (view_at s view) place seen
            found claim.free stale stores (honest.views view))
            (λ other differs.
            view_stays worth touches codeless s.edits s.edits (words_of s.places) (words_of after) (view_at s other)
            (claim_advances worth codeless s.edits (words_of s.places) (words_of after) place seen found stale stores)
            (λ hold among h. claim_leaves worth touches codeless (words_of s.places) (words_of after) place seen held
            (view_at s other).log hold found claim.free stores h)
            (honest.views other));
        holders =
            record {
              held = λ other is.
                  elim (cases_eq other place) [
                    | inl same ↦ (
                      view,
                      elim (set_cases s.views view new spent_view view lt) [
                        | inl p ↦
                            subst (λ (v : View (List E)). HoldsPlace v other) (sym p.1)
                            (any_contained (λ (h : Held). h.place ≡ other) ((view_at s view).holds
                            ++ record { place = place; word = None } ∷ []) (record { place = place; word = None })
                            (Contains-push (view_at s view).holds (record { place = place; word = None })) (sym same))
                        | inr p ↦ absurd (p.0 refl)
                      ],
                    )
                    | inr differs ↦
                        let h = honest.holders.held other (sym (ap (λ (x : Clean). x.held) (stores.cleans other differs)) ∙ is) in
                        (h.0, holds_more view place h.0 other lt h.1)
                  ];
              one = λ other first second a b.
                  elim (cases_eq other place) [
                    | inl same ↦
                        claimer view place first lt free (subst (λ (p : ℕ). HoldsPlace (get_or (set s.views view new) first spent_view) p) same a)
                        ∙ sym (claimer view place second lt free (subst (λ (p : ℕ). HoldsPlace (get_or (set s.views view new) second spent_view) p) same b))
                    | inr differs ↦
                        honest.holders.one other first second (held_before view place first other lt differs a)
                        (held_before view place second other lt differs b)
                  ];
            };
      }

  -- a place that the view holds is stale, and no other view holds it
  held_stale : (view place : ℕ) (hold : Held) → place < length s.places → Contains (view_at s view).holds hold → hold.place ≡ place
      → (place_at s.places place).clean.upto ≤ (place_at s.places place).mark
  held_stale view place hold there among same =
      let right : IsRightHold worth (words_of s.places) (view_at s view).log hold =
      All-contains (IsRightHold worth (words_of s.places) (view_at s view).log) (view_at s view).holds hold (honest.views view).holds among in
      (honest.values place (within place there)).held (ap (λ p. (place_at s.places p).clean.held) (sym same) ∙ right.held)

  held_apart : (view other place : ℕ) (hold mine : Held) → other ≢ view → Contains (view_at s view).holds mine → mine.place ≡ place
      → Contains (view_at s other).holds hold → hold.place ≢ place
  held_apart view other place hold mine differs among same among' same' =
      differs (honest.holders.one place other view
      (any_contained (λ (h : Held). h.place ≡ place) (view_at s other).holds hold among' same')
      (any_contained (λ (h : Held). h.place ≡ place) (view_at s view).holds mine among same))

  -- which places the views hold after a put of this one
  wrote_holds : (view place word first other : ℕ) → view < length s.views → HoldsPlace (view_at s first) other
      → HoldsPlace (get_or (set s.views view (with_put (view_at s view) place word)) first spent_view) other
  wrote_holds view place word first other lt h =
      elim (set_cases s.views view (with_put (view_at s view) place word) spent_view first lt) [
        | inl p ↦
            subst (λ (v : View (List E)). HoldsPlace v other) (sym p.1)
            (any_map (λ (hold : Held). hold.place ≡ other) (hold_with place word) (λ hold e. hold_place place word hold ∙ e) (view_at s view).holds
            (subst (λ (i : ℕ). HoldsPlace (view_at s i) other) p.0 h))
        | inr p ↦ subst (λ (v : View (List E)). HoldsPlace v other) (sym p.1) h
      ]

  wrote_held : (view place word first other : ℕ) → view < length s.views
      → HoldsPlace (get_or (set s.views view (with_put (view_at s view) place word)) first spent_view) other → HoldsPlace (view_at s first) other
  wrote_held view place word first other lt h =
      elim (set_cases s.views view (with_put (view_at s view) place word) spent_view first lt) [
        | inl p ↦
            subst (λ (i : ℕ). HoldsPlace (view_at s i) other) (sym p.0)
            (any_from_map (λ (hold : Held). hold.place ≡ other) (hold_with place word) (λ hold e. sym (hold_place place word hold) ∙ e) (view_at s view).holds
            (subst (λ (v : View (List E)). HoldsPlace v other) p.1 h))
        | inr p ↦ subst (λ (v : View (List E)). HoldsPlace v other) p.1 h
      ]

  pub put_keeps : (view place word : ℕ) → MayStepAt (length s.places) (view_at s view) place → MayPut worth (view_at s view) place word
      → IsHonest places worth touches codeless (after_put s view place word)
  put_keeps view place word may put =
      let after : List Place = set s.places place (record (place_at s.places place) { value = word }) in
      let lt : view < length s.views = live_within s.views view may.live in
      let stores : StoresValue (words_of s.places) (words_of after) place word = stores_value s.places place may.there word in
      let stale : (place_at s.places place).clean.upto ≤ (place_at s.places place).mark = held_stale view place put.hold may.there put.among put.same_place in
      let new : View (List E) = with_put (view_at s view) place word in
      record {
        count = length-set s.places place (record (place_at s.places place) { value = word }) ∙ honest.count;
        editor_live = set_keeps (λ (v : View (List E)). v.spent) s.views view new spent_view lt refl 0 ∙ honest.editor_live;
        editor_log = set_keeps (λ (v : View (List E)). v.log) s.views view new spent_view lt refl 0 ∙ honest.editor_log;
        marks = λ other there. subst (λ (m : ℕ). IsRightMark touches s.edits other m) (sym (stores.marks other)) (honest.marks other there);
        values = λ other there.
            values_after_put worth codeless s.edits (words_of s.places) (words_of after) place word stale stores other (honest.values other there);
        views =
            each_after_set (IsRightView worth touches codeless s.edits (words_of after)) s.views view new lt
            (view_wrote worth touches codeless s.edits (words_of s.places) (words_of after) (view_at s view) place word
            stale stores put.known (honest.views view))
            (λ other differs.
            view_stays worth touches codeless s.edits s.edits (words_of s.places) (words_of after) (view_at s other)
            (put_advances worth codeless s.edits (words_of s.places) (words_of after) place word stale stores)
            (λ hold among h. (
              stores.cleans hold.place,
              stores.values hold.place (held_apart view other place hold put.hold differs put.among put.same_place among),
            ))
            (honest.views other));
        holders =
            record {
              held = λ other is.
                  let h = honest.holders.held other (sym (ap (λ (x : Clean). x.held) (stores.cleans other)) ∙ is) in
                  (h.0, wrote_holds view place word h.0 other lt h.1);
              one = λ other first second a b.
                  honest.holders.one other first second (wrote_held view place word first other lt a) (wrote_held view place word second other lt b);
            };
      }

  -- which places the views hold after a finish of this one
  gave_holds : (view place mark first other : ℕ) → view < length s.views → other ≢ place → HoldsPlace (view_at s first) other
      → HoldsPlace (get_or (set s.views view (without_hold (view_at s view) place mark)) first spent_view) other
  gave_holds view place mark first other lt differs h =
      elim (set_cases s.views view (without_hold (view_at s view) place mark) spent_view first lt) [
        | inl p ↦
            subst (λ (v : View (List E)). HoldsPlace v other) (sym p.1)
            (any_filter (λ (hold : Held). hold.place ≡ other) (λ hold. not (hold.place == place))
            (λ hold e. is_other hold.place place (λ e'. differs (sym e ∙ e'))) (view_at s view).holds
            (subst (λ (i : ℕ). HoldsPlace (view_at s i) other) p.0 h))
        | inr p ↦ subst (λ (v : View (List E)). HoldsPlace v other) (sym p.1) h
      ]

  gave_held : (view place mark first other : ℕ) → view < length s.views
      → HoldsPlace (get_or (set s.views view (without_hold (view_at s view) place mark)) first spent_view) other → HoldsPlace (view_at s first) other
  gave_held view place mark first other lt h =
      elim (set_cases s.views view (without_hold (view_at s view) place mark) spent_view first lt) [
        | inl p ↦
            let kept : Any (λ (hold : Held). (hold.place ≡ other) × (not (hold.place == place) ≡ true)) (view_at s view).holds =
            any_from_filter (λ (hold : Held). hold.place ≡ other) (λ hold. not (hold.place == place)) (view_at s view).holds
            (subst (λ (v : View (List E)). HoldsPlace v other) p.1 h) in
            subst (λ (i : ℕ). HoldsPlace (view_at s i) other) (sym p.0) (kept.0, kept.1, kept.2, kept.3, kept.4.0)
        | inr p ↦ subst (λ (v : View (List E)). HoldsPlace v other) p.1 h
      ]

  pub finish_keeps : (view place mark : ℕ) → MayStepAt (length s.places) (view_at s view) place → MayFinish worth touches (view_at s view) place mark
      → IsHonest places worth touches codeless (after_finish s view place mark)
  finish_keeps view place mark may finish =
      let free : Clean = record { upto = mark + 1; held = false } in
      let after : List Place = set s.places place (record (place_at s.places place) { clean = free }) in
      let hold : Held = finish.hold in
      let same : hold.place ≡ place = finish.marked.same_place in
      let lt : view < length s.views = live_within s.views view may.live in
      let stores : StoresClean (words_of s.places) (words_of after) place free = stores_clean s.places place may.there free in
      let stale : (place_at s.places place).clean.upto ≤ (place_at s.places place).mark = held_stale view place hold may.there finish.among same in
      let below : IsPrefix (view_at s view).log s.edits.log = (honest.views view).log.known_prefix in
      let right : IsRightHold worth (words_of s.places) (view_at s view).log hold =
      All-contains (IsRightHold worth (words_of s.places) (view_at s view).log) (view_at s view).holds hold (honest.views view).holds finish.among in
      let new : View (List E) = without_hold (view_at s view) place mark in
      record {
        count = length-set s.places place (record (place_at s.places place) { clean = free }) ∙ honest.count;
        editor_live = set_keeps (λ (v : View (List E)). v.spent) s.views view new spent_view lt refl 0 ∙ honest.editor_live;
        editor_log = set_keeps (λ (v : View (List E)). v.log) s.views view new spent_view lt refl 0 ∙ honest.editor_log;
        marks = λ other there. subst (λ (m : ℕ). IsRightMark touches s.edits other m) (sym (stores.marks other)) (honest.marks other there);
        values = λ other there.
            values_after_finish worth touches codeless s.edits (words_of s.places) (words_of after) (view_at s view).log place finish.marked.word mark below
            finish.marked.computed (law place may.there) stores (ap (λ p. (place_at s.places p).value) (sym same)
            ∙ right.put finish.marked.word finish.marked.put) other (honest.marks other there)
            (honest.values other there);
        views =
            each_after_set (IsRightView worth touches codeless s.edits (words_of after)) s.views view new lt
            (view_gave_back worth touches codeless s.edits (words_of s.places) (words_of after) (view_at s view) place finish.marked.word mark
            finish.marked.computed (law place may.there) stale stores (honest.marks place (within place may.there)) (honest.views view))
            (λ other differs.
            view_stays worth touches codeless s.edits s.edits (words_of s.places) (words_of after) (view_at s other)
            (finish_advances worth touches codeless s.edits (words_of s.places) (words_of after) (view_at s view).log place finish.marked.word mark below
            finish.marked.computed (law place may.there) stores stale)
            (λ hold' among h. (
              stores.cleans hold'.place (held_apart view other place hold' hold differs finish.among same among),
              stores.values hold'.place,
            ))
            (honest.views other));
        holders =
            record {
              held = λ other is.
                  elim (cases_eq other place) [
                    | inl same ↦
                        absurd (let freed : ((words_of after).clean other).held ≡ false =
                        ap (λ p. ((words_of after).clean p).held) same ∙ ap (λ (x : Clean). x.held) stores.stored in cc)
                    | inr differs ↦
                        let h = honest.holders.held other (sym (ap (λ (x : Clean). x.held) (stores.cleans other differs)) ∙ is) in
                        (h.0, gave_holds view place mark h.0 other lt differs h.1)
                  ];
              one = λ other first second a b.
                  honest.holders.one other first second (gave_held view place mark first other lt a) (gave_held view place mark second other lt b);
            };
      }
