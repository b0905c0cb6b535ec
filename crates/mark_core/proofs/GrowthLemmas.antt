-- What each event adds to the lists of each view, and what splits and joins hand on.
use Rattle.std.proofs.Common.{◌≡◌, ◌≢◌, ◌<◌, ◌≤◌, ◌==◌, ◌⊎◌, ℕ, List, [], ◌∷◌, ◌++◌, Option, Some, None, true, false}
use Rattle.std.proofs.Common.{length, get_or, set, refl, sym, ◌∙◌, ap, subst, inl, inr, arith}
use Rattle.std.specs.Prelude.{if◌then◌else◌, nat_lt}
use Rattle.std.proofs.Math.ListN.{length-set}
use Rattle.std.proofs.lemmas.List.{append-nil, get_or_past}
use Rattle.std.proofs.lemmas.Bool.{cases_lt, cond_both, eq-eqb, eqb-true, ltb-false}
use Rattle.mark_core.specs.declared.actors.View.{View}
use Rattle.mark_core.specs.declared.words.Clean.{Clean}
use Rattle.mark_core.specs.declared.words.Known.{Known}
use Rattle.mark_core.specs.declared.words.Half.{Half}
use Rattle.mark_core.specs.declared.words.Lost.{Lost}
use Rattle.mark_core.specs.declared.events.Event.{Event}
use Rattle.mark_core.specs.declared.events.Event.TheVariants.{See, Mark, Commit, Split, Join, ReadClean, ReadValue, ReadMark, Claim, Put, Finish}
use Rattle.mark_core.specs.declared.events.Outcome.{Outcome}
use Rattle.mark_core.specs.Places.{place_at}
use Rattle.mark_core.specs.Marks.{IsPrefix}
use Rattle.mark_core.specs.States.{State, view_at, spent_view}
use Rattle.mark_core.specs.Views.{with_count, with_entry, split_off, union_of, with_half, with_value, known_from}
use Rattle.mark_core.specs.Views.{read_of, with_read, with_read_at, with_read_end, with_hold, with_loss, with_put}
use Rattle.mark_core.specs.Views.{without_hold}
use Rattle.mark_core.specs.Permissions.{IsLive}
use Rattle.mark_core.specs.Steps.{Happens}
use Rattle.mark_core.specs.Honest.{IsHonest}
use Rattle.mark_core.specs.Growth.{counts_of, finishes_of, losses_of, Grows, IsCopy, IsUnion}
use Rattle.mark_core.proofs.Prefixes.{prefix_itself, prefix_of_nothing}
use Rattle.mark_core.proofs.ViewLemmas.{prefix_of_longer, shorter_prefix}
use Rattle.mark_core.proofs.Lists.{set_cases, push_cases, live_within}

-- a choice by a view's number
chosen : {X : Type 0} (view actor : ℕ) (x y : X) → view ≡ actor → (if view == actor then x else y) ≡ x
chosen view actor x y same =
    cond_both (view == actor) x y (λ z. z ≡ x) (λ e. refl)
    (λ e. absurd (let t : (view == actor) ≡ true = eq-eqb view actor same in cc))

spared : {X : Type 0} (view actor : ℕ) (x y : X) → view ≢ actor → (if view == actor then x else y) ≡ y
spared view actor x y differs =
    cond_both (view == actor) x y (λ z. z ≡ y) (λ e. absurd (differs (eqb-true view actor e))) (λ e. refl)

-- a list that isn't longer
not_longer : {X : Type 0} (xs ys : List X) → nat_lt (length xs) (length ys) ≡ false → length ys ≤ length xs
not_longer xs ys e = ltb-false (length xs) (length ys) e

module _ {E : Type 0} where
  -- a view that stays has grown by nothing
  grows_not : (counts : List ℕ) (finishes : List Known) (losses : List Lost) (view : View (List E))
      → counts ≡ [] → finishes ≡ [] → losses ≡ [] → Grows counts finishes losses view view
  grows_not counts finishes losses view c f l =
      record {
        sees = sym (append-nil view.sees) ∙ ap (λ xs. view.sees ++ xs) (sym c);
        done = sym (append-nil view.done) ∙ ap (λ xs. view.done ++ xs) (sym f);
        lost = sym (append-nil view.lost) ∙ ap (λ xs. view.lost ++ xs) (sym l);
        seen = omega arith;
        log = prefix_itself view.log;
        known = prefix_itself view.known;
        reads = prefix_itself view.reads;
      }

  -- a view that an event changes without adding to these three lists
  grows_else : (view changed : View (List E)) → changed.sees ≡ view.sees → changed.done ≡ view.done → changed.lost ≡ view.lost
      → view.seen ≤ changed.seen → IsPrefix view.log changed.log → IsPrefix view.known changed.known → IsPrefix view.reads changed.reads
      → Grows [] [] [] view changed
  grows_else view changed c f l seen log known reads =
      record {
        sees = c ∙ sym (append-nil view.sees);
        done = f ∙ sym (append-nil view.done);
        lost = l ∙ sym (append-nil view.lost);
        seen = seen;
        log = log;
        known = known;
        reads = reads;
      }

  -- a change of one view makes each view grow by what is said of its number
  grows_at : (views : List (View (List E))) (actor : ℕ) (changed : View (List E)) → actor < length views
      → (counts : ℕ → List ℕ) (finishes : ℕ → List Known) (losses : ℕ → List Lost)
      → Grows (counts actor) (finishes actor) (losses actor) (get_or views actor spent_view) changed
      → ((view : ℕ) → view ≢ actor → (counts view ≡ []) × (finishes view ≡ []) × (losses view ≡ []))
      → (view : ℕ) → Grows (counts view) (finishes view) (losses view) (get_or views view spent_view) (get_or (set views actor changed) view spent_view)
  grows_at views actor changed lt counts finishes losses here none view =
      elim (set_cases views actor changed spent_view view lt) [
        | inl p ↦
            subst (λ (w : View (List E)). Grows (counts view) (finishes view) (losses view) (get_or views view spent_view) w) (sym p.1)
            (subst (λ (i : ℕ). Grows (counts i) (finishes i) (losses i) (get_or views i spent_view) changed) (sym p.0) here)
        | inr p ↦
            subst (λ (w : View (List E)). Grows (counts view) (finishes view) (losses view) (get_or views view spent_view) w) (sym p.1)
            (grows_not (counts view) (finishes view) (losses view) (get_or views view spent_view) (none view p.0).0 (none view p.0).1 (none view p.0).2)
      ]

  -- the same where nothing is added to the three lists
  grows_quietly : (views : List (View (List E))) (actor : ℕ) (changed : View (List E)) → actor < length views
      → Grows [] [] [] (get_or views actor spent_view) changed
      → (view : ℕ) → Grows [] [] [] (get_or views view spent_view) (get_or (set views actor changed) view spent_view)
  grows_quietly views actor changed lt here =
      grows_at views actor changed lt (λ view. []) (λ view. []) (λ view. []) here (λ view differs. (refl, refl, refl))

  grows_by_read : (view : View (List E)) (half : Option Half) (place mark : ℕ) → Grows [] [] [] view (with_read_at view half place mark)
  grows_by_read view None place mark = grows_not [] [] [] view refl refl refl
  grows_by_read view (Some half) place mark =
      cond_both (half.place == place) (with_read view half mark) view (λ w. Grows [] [] [] view w)
      (λ e. grows_else view (with_read view half mark) refl refl refl (omega arith) (prefix_itself view.log)
      (record { rest = known_from half mark; whole = refl }) (record { rest = read_of view.seen half mark ∷ []; whole = refl }))
      (λ e. grows_not [] [] [] view refl refl refl)

module _ {E : Type 0} (places : ℕ) (worth : List E → ℕ → ℕ) (touches : List E → E → ℕ → Type 0) (codeless : ℕ → Type 0)
    (s : State E) (honest : IsHonest places worth touches codeless s) where
  -- the views of a state after an event
  GrowsAfter : Event E → Outcome → State E → ℕ → Type 0
  GrowsAfter event outcome after view =
      Grows (counts_of s event view) (finishes_of s event view) (losses_of s event outcome view) (view_at s view) (view_at after view)

  quiet : (actor : ℕ) (changed : View (List E)) → (view_at s actor).spent ≡ false
      → changed.sees ≡ (view_at s actor).sees → changed.done ≡ (view_at s actor).done → changed.lost ≡ (view_at s actor).lost
      → (view_at s actor).seen ≤ changed.seen → IsPrefix (view_at s actor).log changed.log
      → IsPrefix (view_at s actor).known changed.known → IsPrefix (view_at s actor).reads changed.reads
      → (view : ℕ) → Grows [] [] [] (view_at s view) (get_or (set s.views actor changed) view spent_view)
  quiet actor changed live c f l seen log known reads =
      grows_quietly s.views actor changed (live_within s.views actor live) (grows_else (view_at s actor) changed c f l seen log known reads)

  see_grows : (actor : ℕ) → (view_at s actor).spent ≡ false → (view : ℕ)
      → Grows (counts_of s (See actor) view) [] [] (view_at s view)
      (get_or (set s.views actor (with_count (view_at s actor) (length s.edits.log))) view spent_view)
  see_grows actor live =
      let v : View (List E) = view_at s actor in
      let count : ℕ = length s.edits.log in
      grows_at s.views actor (with_count v count) (live_within s.views actor live) (counts_of s (See actor)) (λ view. []) (λ view. [])
      (record {
        sees = ap (λ l. v.sees ++ l) (sym (chosen actor actor (count ∷ []) [] refl));
        done = sym (append-nil v.done);
        lost = sym (append-nil v.lost);
        seen = (honest.views actor).log.seen_below;
        log = prefix_itself v.log;
        known = prefix_itself v.known;
        reads = prefix_itself v.reads;
      })
      (λ view differs. (spared view actor (count ∷ []) [] differs, refl, refl))

  finish_grows : (actor place mark : ℕ) → (view_at s actor).spent ≡ false → (view : ℕ)
      → Grows [] (finishes_of s (Finish actor place mark) view) [] (view_at s view)
      (get_or (set s.views actor (without_hold (view_at s actor) place mark)) view spent_view)
  finish_grows actor place mark live =
      let v : View (List E) = view_at s actor in
      let pair : Known = record { place = place; mark = mark } in
      grows_at s.views actor (without_hold v place mark) (live_within s.views actor live) (λ view. []) (finishes_of s (Finish actor place mark)) (λ view. [])
      (record {
        sees = sym (append-nil v.sees);
        done = ap (λ l. v.done ++ l) (sym (chosen actor actor (pair ∷ []) [] refl));
        lost = sym (append-nil v.lost);
        seen = omega arith;
        log = prefix_itself v.log;
        known = record { rest = pair ∷ []; whole = refl };
        reads = prefix_itself v.reads;
      })
      (λ view differs. (refl, spared view actor (pair ∷ []) [] differs, refl))

  loss_grows : (actor place : ℕ) → (view_at s actor).spent ≡ false → (view : ℕ)
      → Grows [] [] (let l : Lost = record { place = place; found = (place_at s.places place).clean } in if view == actor then l ∷ [] else [])
      (view_at s view) (get_or (set s.views actor (with_loss (view_at s actor) place (place_at s.places place).clean)) view spent_view)
  loss_grows actor place live =
      let v : View (List E) = view_at s actor in
      let clean : Clean = (place_at s.places place).clean in
      let loss : Lost = record { place = place; found = clean } in
      grows_at s.views actor (with_loss v place clean) (live_within s.views actor live) (λ view. []) (λ view. [])
      (λ view. if view == actor then loss ∷ [] else [])
      (record {
        sees = sym (append-nil v.sees);
        done = sym (append-nil v.done);
        lost = ap (λ l. v.lost ++ l) (sym (chosen actor actor (loss ∷ []) [] refl));
        seen = omega arith;
        log = prefix_itself v.log;
        known = prefix_itself v.known;
        reads = prefix_itself v.reads;
      })
      (λ view differs. (refl, refl, spared view actor (loss ∷ []) [] differs))

  join_grows : (actor other : ℕ) → (view_at s actor).spent ≡ false → (view : ℕ)
      → Grows (counts_of s (Join actor other) view) (finishes_of s (Join actor other) view)
      (let l : List Lost = (view_at s other).lost in if view == actor then l else [])
      (view_at s view) (get_or (set s.views actor (union_of (view_at s actor) (view_at s other))) view spent_view)
  join_grows actor other live =
      let v : View (List E) = view_at s actor in
      let u : View (List E) = view_at s other in
      grows_at s.views actor (union_of v u) (live_within s.views actor live) (counts_of s (Join actor other)) (finishes_of s (Join actor other))
      (λ view. if view == actor then u.lost else [])
      (record {
        sees = ap (λ l. v.sees ++ l) (sym (chosen actor actor u.sees [] refl));
        done = ap (λ l. v.done ++ l) (sym (chosen actor actor u.done [] refl));
        lost = ap (λ l. v.lost ++ l) (sym (chosen actor actor u.lost [] refl));
        seen = omega arith;
        log = prefix_of_longer v.log u.log s.edits.log (honest.views actor).log.known_prefix (honest.views other).log.known_prefix;
        known = record { rest = u.known; whole = refl };
        reads = record { rest = u.reads; whole = refl };
      })
      (λ view differs. (spared view actor u.sees [] differs, spared view actor u.done [] differs, spared view actor u.lost [] differs))

  -- a view that isn't spent by a join is as it was before the other one was spent
  not_spent : (views : List (View (List E))) (other view : ℕ) → other < length views
      → (get_or (set views other spent_view) view spent_view).spent ≡ false → get_or (set views other spent_view) view spent_view ≡ get_or views view spent_view
  not_spent views other view lt live =
      elim (set_cases views other spent_view spent_view view lt) [
        | inl p ↦ absurd (let spent : (get_or (set views other spent_view) view spent_view).spent ≡ true = ap (λ (v : View (List E)). v.spent) p.1 in cc)
        | inr p ↦ p.1
      ]

  grows : (event : Event E) (outcome : Outcome) (after : State E) (view : ℕ) → Happens worth touches s event outcome after
      → IsLive (view_at after view) → GrowsAfter event outcome after view
  unfolding GrowsAfter
  grows (See actor) outcome after view h live =
      subst (λ (t : State E). GrowsAfter (See actor) outcome t view) (sym h.gives.1) (see_grows actor h.allowed view)
  grows (Mark actor entry place) outcome after view h live =
      subst (λ (t : State E). GrowsAfter (Mark actor entry place) outcome t view) (sym h.gives.1) (grows_not [] [] [] (view_at s view) refl refl refl)
  grows (Commit actor entry) outcome after view h live =
      let v : View (List E) = view_at s actor in
      let same : length v.log ≡ length s.edits.log = ap (λ i. length (view_at s i).log) h.allowed.0 ∙ ap length honest.editor_log in
      subst (λ (t : State E). GrowsAfter (Commit actor entry) outcome t view) (sym h.gives.1)
      (quiet actor (with_entry v entry) h.allowed.1 refl refl refl (omega (arith, (honest.views actor).log.seen_below))
      (record { rest = entry ∷ []; whole = refl }) (prefix_itself v.known) (prefix_itself v.reads) view)
  grows (Split actor) outcome after view h live =
      let new : View (List E) = split_off (view_at s actor) in
      subst (λ (t : State E). GrowsAfter (Split actor) outcome t view) (sym h.gives.1)
      (elim (push_cases s.views new spent_view view) [
        | inl p ↦
            let none : view_at s view ≡ spent_view = get_or_past s.views view spent_view (omega (arith, p.0)) in
            subst (λ (w : View (List E)). Grows [] [] [] (view_at s view) w) (sym p.1)
            (subst (λ (w : View (List E)). Grows [] [] [] w new) (sym none)
            (grows_else spent_view new refl refl refl (omega arith) (prefix_of_nothing new.log) (prefix_of_nothing new.known) (prefix_of_nothing new.reads)))
        | inr p ↦
            subst (λ (w : View (List E)). Grows [] [] [] (view_at s view) w) (sym p.1) (grows_not [] [] [] (view_at s view) refl refl refl)
      ])
  grows (Join actor other) outcome after view h live =
      let both : View (List E) = union_of (view_at s actor) (view_at s other) in
      let lt : other < length (set s.views actor both) =
      omega (arith, live_within s.views other h.allowed.2.other_live, length-set s.views actor both) in
      let live' : (get_or (set (set s.views actor both) other spent_view) view spent_view).spent ≡ false =
      ap (λ (t : State E). (view_at t view).spent) (sym h.gives.1) ∙ live in
      subst (λ (t : State E). GrowsAfter (Join actor other) outcome t view) (sym h.gives.1)
      (subst (λ (w : View (List E)). Grows (counts_of s (Join actor other) view) (finishes_of s (Join actor other) view)
      (losses_of s (Join actor other) outcome view) (view_at s view) w)
      (sym (not_spent (set s.views actor both) other view lt live'))
      (join_grows actor other h.allowed.2.live view))
  grows (ReadClean actor place) outcome after view h live =
      let v : View (List E) = view_at s actor in
      subst (λ (t : State E). GrowsAfter (ReadClean actor place) outcome t view) (sym h.gives.1)
      (quiet actor (with_half v place (place_at s.places place).clean) h.allowed.live refl refl refl (omega arith)
      (prefix_itself v.log) (prefix_itself v.known) (prefix_itself v.reads) view)
  grows (ReadValue actor place) outcome after view h live =
      let v : View (List E) = view_at s actor in
      subst (λ (t : State E). GrowsAfter (ReadValue actor place) outcome t view) (sym h.gives.1)
      (quiet actor (with_value v place (place_at s.places place).value) h.allowed.live refl refl refl (omega arith)
      (prefix_itself v.log) (prefix_itself v.known) (prefix_itself v.reads) view)
  grows (ReadMark actor place) outcome after view h live =
      let v : View (List E) = view_at s actor in
      subst (λ (t : State E). GrowsAfter (ReadMark actor place) outcome t view) (sym h.gives.1)
      (grows_quietly s.views actor (with_read_end v place (place_at s.places place).mark) (live_within s.views actor h.allowed.live)
      (grows_by_read v v.half place (place_at s.places place).mark) view)
  grows (Claim actor place seen) outcome after view h live =
      let v : View (List E) = view_at s actor in
      elim h.gives [
        | inl takes ↦
            subst (λ (o : Outcome). GrowsAfter (Claim actor place seen) o after view) (sym takes.answer)
            (subst (λ (t : State E). Grows [] [] [] (view_at s view) (view_at t view)) (sym takes.effect)
            (quiet actor (with_hold v place) h.allowed.0.live refl refl refl (omega arith)
            (prefix_itself v.log) (prefix_itself v.known) (prefix_itself v.reads) view))
        | inr misses ↦
            subst (λ (o : Outcome). GrowsAfter (Claim actor place seen) o after view) (sym misses.answer)
            (subst (λ (t : State E). Grows [] [] (if view == actor then record {
              place = place;
              found = (place_at s.places place).clean;
            } ∷ [] else []) (view_at s view) (view_at t view))
            (sym misses.effect) (loss_grows actor place h.allowed.0.live view))
      ]
  grows (Put actor place word) outcome after view h live =
      let v : View (List E) = view_at s actor in
      subst (λ (t : State E). GrowsAfter (Put actor place word) outcome t view) (sym h.gives.1)
      (quiet actor (with_put v place word) h.allowed.0.live refl refl refl (omega arith)
      (prefix_itself v.log) (prefix_itself v.known) (prefix_itself v.reads) view)
  grows (Finish actor place mark) outcome after view h live =
      subst (λ (t : State E). GrowsAfter (Finish actor place mark) outcome t view) (sym h.gives.1)
      (finish_grows actor place mark h.allowed.0.live view)

  pub views_grow : (event : Event E) (outcome : Outcome) (after : State E) (view : ℕ) → Happens worth touches s event outcome after
      → IsLive (view_at after view)
      → Grows (counts_of s event view) (finishes_of s event view) (losses_of s event outcome view) (view_at s view) (view_at after view)
  unfolding GrowsAfter
  views_grow event outcome after view h live = grows event outcome after view h live

  -- the view that stays after a join
  pub join_unites : (view other : ℕ) (outcome : Outcome) (after : State E) → Happens worth touches s (Join view other) outcome after
      → IsUnion (view_at s view) (view_at s other) (view_at after view)
      × ((view_at after other).spent ≡ true)
      × ((third : ℕ) → third ≢ view → third ≢ other → view_at after third ≡ view_at s third)
  join_unites view other outcome after h =
      let v : View (List E) = view_at s view in
      let u : View (List E) = view_at s other in
      let both : View (List E) = union_of v u in
      let lt : view < length s.views = live_within s.views view h.allowed.2.live in
      let lt' : other < length (set s.views view both) =
      omega (arith, live_within s.views other h.allowed.2.other_live, length-set s.views view both) in
      let own : IsPrefix v.log s.edits.log = (honest.views view).log.known_prefix in
      let others : IsPrefix u.log s.edits.log = (honest.views other).log.known_prefix in
      let here : view_at after view ≡ both =
      ap (λ (t : State E). view_at t view) h.gives.1
      ∙ elim (set_cases (set s.views view both) other spent_view spent_view view lt') [
        | inl p ↦ absurd (h.allowed.0 p.0)
        | inr p ↦
            p.1 ∙ elim (set_cases s.views view both spent_view view lt) [ inl q ↦ q.1 | inr q ↦ absurd (q.0 refl) ]
      ] in (
        subst (λ (w : View (List E)). IsUnion v u w) (sym here)
            (record {
              own_log = prefix_of_longer v.log u.log s.edits.log own others;
              other_log =
                  cond_both (nat_lt (length v.log) (length u.log)) u.log v.log (λ l. IsPrefix u.log l)
                  (λ e. prefix_itself u.log)
                  (λ e. shorter_prefix u.log v.log s.edits.log others own (not_longer v.log u.log e));
              one_log =
                  cond_both (nat_lt (length v.log) (length u.log)) u.log v.log (λ l. (l ≡ v.log) ⊎ (l ≡ u.log)) (λ e. inr refl) (λ e. inl refl);
              own_seen = omega arith;
              other_seen = omega arith;
              one_seen =
                  elim (cases_lt v.seen u.seen) [ inl less ↦ inr (omega arith) | inr le ↦ inl (omega arith) ];
              known = refl;
              reads = refl;
              half = refl;
              holds = refl;
            }),
        ap (λ (t : State E). (view_at t other).spent) h.gives.1
            ∙ elim (set_cases (set s.views view both) other spent_view spent_view other lt') [
              | inl p ↦ ap (λ (w : View (List E)). w.spent) p.1
              | inr p ↦ absurd (p.0 refl)
            ],
        λ third differs differs'.
            ap (λ (t : State E). view_at t third) h.gives.1
            ∙ elim (set_cases (set s.views view both) other spent_view spent_view third lt') [
              | inl p ↦ absurd (differs' p.0)
              | inr p ↦
                  p.1 ∙ elim (set_cases s.views view both spent_view third lt) [ inl q ↦ absurd (differs q.0) | inr q ↦ q.1 ]
            ],
      )

module _ {E : Type 0} (worth : List E → ℕ → ℕ) (touches : List E → E → ℕ → Type 0) (s : State E) (view : ℕ) (outcome : Outcome) (after : State E)
    (h : Happens worth touches s (Split view) outcome after) where
  pub split_copies : IsCopy (view_at s view) (view_at after (length s.views))
  split_copies =
      let new : View (List E) = split_off (view_at s view) in
      let here : view_at after (length s.views) ≡ new =
      ap (λ (t : State E). view_at t (length s.views)) h.gives.1
      ∙ elim (push_cases s.views new spent_view (length s.views)) [ inl p ↦ p.1 | inr p ↦ absurd (p.0 refl) ] in
      subst (λ (w : View (List E)). IsCopy (view_at s view) w) (sym here)
      (record {
        live = refl;
        log = refl;
        seen = refl;
        known = refl;
        sees = refl;
        half = refl;
        reads = refl;
        holds = refl;
        done = refl;
        lost = refl;
      })

  pub split_leaves : (other : ℕ) → other ≢ length s.views → view_at after other ≡ view_at s other
  split_leaves other differs =
      ap (λ (t : State E). view_at t other) h.gives.1
      ∙ elim (push_cases s.views (split_off (view_at s view)) spent_view other) [ inl p ↦ absurd (differs p.0) | inr p ↦ p.1 ]
