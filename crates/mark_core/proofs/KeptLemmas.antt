-- The state that the machine keeps, through each event.
use Rattle.std.proofs.Common.{◌≡◌, ◌≢◌, ◌<◌, ◌≤◌, ◌+◌, ◌==◌, ℕ, List, [], ◌∷◌, ◌++◌, Option, Some, None, true, false}
use Rattle.std.proofs.Common.{inl, inr, max, min, length, map, take, get_or, set, refl, sym, ◌∙◌, ap, subst, arith}
use Rattle.std.specs.Prelude.{All, nat_lt}
use Rattle.std.proofs.lemmas.List.{get_or-map, map-set, length-map, length-set, length_push, set-set, set-get_or}
use Rattle.std.proofs.lemmas.List.{set_comm, get_or-set_other, get_or_default, get_or_append_left, take_all}
use Rattle.std.proofs.lemmas.List.{take-append-le, length-take}
use Rattle.std.proofs.lemmas.List.Elements.{All-push, All-set, All-head, All-tail}
use Rattle.std.proofs.lemmas.Bool.{cond_both, ltb-true, ltb-false}
use Rattle.mark_core.specs.declared.words.Clean.{Clean}
use Rattle.mark_core.specs.declared.words.Place.{Place}
use Rattle.mark_core.specs.declared.words.Half.{Half}
use Rattle.mark_core.specs.Places.{place_at, blank_place, opening_place}
use Rattle.mark_core.specs.declared.actors.View.{View}
use Rattle.mark_core.specs.States.{State, view_at, with_view, spent_view, spent_with, new_view, opening_state}
use Rattle.mark_core.specs.Views.{with_count, with_entry, split_off, longer, union_with, union_of, with_half, with_value}
use Rattle.mark_core.specs.Views.{with_read, with_read_at, with_read_end, with_hold, with_loss, with_put, without_hold}
use Rattle.mark_core.specs.Steps.{with_place, after_see, after_commit, after_join, after_read_clean, after_read_value}
use Rattle.mark_core.specs.Steps.{after_read_mark, after_claim, after_refusal, after_put, after_finish}
use Rattle.mark_core.specs.Kept.{known_view, kept_state, IsKept}
use Rattle.mark_core.proofs.Lists.{set_cases}

-- the end of a read is the same whether the log is a list or a count
ended_known : {E : Type 0} (log : List E) (view : View ℕ) (half : Option Half) (place mark : ℕ)
    → known_view log (with_read_at view half place mark) ≡ with_read_at (known_view log view) half place mark
ended_known log view None place mark = refl
ended_known log view (Some half) place mark =
    cond_both (half.place == place) (with_read view half mark) view
    (λ v. known_view log v ≡ with_read_at (known_view log view) (Some half) place mark)
    (λ e. rw e refl) (λ e. rw e refl)

-- the longer of two fronts of the log
longer_front : {E : Type 0} (log : List E) (m n : ℕ) → m ≤ length log → n ≤ length log → take (max m n) log ≡ longer (take m log) (take n log)
longer_front log m n h k =
    let lm : length (take m log) ≡ min m (length log) = length-take m log in
    let ln : length (take n log) ≡ min n (length log) = length-take n log in
    cond_both (nat_lt (length (take m log)) (length (take n log))) (take n log) (take m log) (λ l. take (max m n) log ≡ l)
    (λ e. ap (λ i. take i log) (let lt : length (take m log) < length (take n log) = ltb-true (length (take m log)) (length (take n log)) e in omega arith))
    (λ e. ap (λ i. take i log) (let ge : length (take n log) ≤ length (take m log) = ltb-false (length (take m log)) (length (take n log)) e in omega arith))

-- a longer log leaves the views that count no more than the entries before
known_same : {E : Type 0} (log : List E) (entry : E) (views : List (View ℕ)) → All (λ view. view.log ≤ length log) views
    → map (known_view (log ++ entry ∷ [])) views ≡ map (known_view log) views
known_same log entry [] all = refl
known_same log entry (view ∷ views) all =
    let here : view.log ≤ length log = All-head (λ (v : View ℕ). v.log ≤ length log) view views all in
    let front : take view.log (log ++ entry ∷ []) ≡ take view.log log = take-append-le view.log log (entry ∷ []) here in
    ap (λ l. (let v : View (List _) = record {
      spent = view.spent;
      log = l;
      seen = view.seen;
      sees = view.sees;
      known = view.known;
      half = view.half;
      reads = view.reads;
      holds = view.holds;
      done = view.done;
      lost = view.lost;
    } in v) ∷ map (known_view (log ++ entry ∷ [])) views) front
    ∙ ap (λ vs. known_view log view ∷ vs) (known_same log entry views (All-tail (λ (v : View ℕ). v.log ≤ length log) view views all))

committed_known : {E : Type 0} (log : List E) (entry : E) (view : View ℕ) → view.log ≡ length log
    → known_view (log ++ entry ∷ []) (record view { log = length log + 1; seen = length log + 1 }) ≡ with_entry (known_view log view) entry
committed_known log entry view is =
    let all : take (length log + 1) (log ++ entry ∷ []) ≡ log ++ entry ∷ [] =
    take_all (length log + 1) (log ++ entry ∷ []) (let e : length (log ++ entry ∷ []) ≡ length log + 1 = length_push log entry in omega arith) in
    let whole : take view.log log ≡ log = take_all view.log log (omega arith) in
    ap (λ l. (let v : View (List _) = record {
      spent = view.spent;
      log = l;
      seen = length log + 1;
      sees = view.sees;
      known = view.known;
      half = view.half;
      reads = view.reads;
      holds = view.holds;
      done = view.done;
      lost = view.lost;
    } in v)) all
    ∙ ap (λ l. (let v : View (List _) = record {
      spent = view.spent;
      log = l ++ entry ∷ [];
      seen = length l + 1;
      sees = view.sees;
      known = view.known;
      half = view.half;
      reads = view.reads;
      holds = view.holds;
      done = view.done;
      lost = view.lost;
    } in v)) (sym whole)

module _ {E : Type 0} (log : List E) (pending : Option E) (marked : List ℕ) (places : List Place) (views : List (View ℕ)) where
  -- the view that stands at a number
  view_kept : (view : ℕ) (x : View ℕ) → view < length views → x ≡ get_or views view x
      → view_at (kept_state log pending marked places views) view ≡ known_view log x
  view_kept view x lt is = get_or-map (known_view log) views view x spent_view lt ∙ ap (known_view log) (sym is)

  -- a view that was exchanged for what an event makes of it
  kept_changes : (view : ℕ) (x x' : View ℕ) (F : View (List E) → View (List E)) → view < length views → x ≡ get_or views view x
      → known_view log x' ≡ F (known_view log x)
      → kept_state log pending marked places (set views view x')
      ≡ with_view (kept_state log pending marked places views) view (F (view_at (kept_state log pending marked places views) view))
  kept_changes view x x' F lt is makes =
      ap (λ vs. (let s : State E = record { edits = record { log = log; pending = pending; marked = marked }; places = places; views = vs } in s))
      (map-set (known_view log) views view x'
      ∙ ap (λ v. set (map (known_view log) views) view v) (makes ∙ ap F (sym (view_kept view x lt is))))

  module _ (s : State E) (kept : kept_state log pending marked places views ≡ s) where
    pub views_within : (view : ℕ) → view < length s.views → view < length views
    views_within view lt =
        let e : length s.views ≡ length views = ap (λ (t : State E). length t.views) (sym kept) ∙ length-map views (known_view log) in
        omega arith

    pub place_kept : (place : ℕ) (p : Place) → place < length s.places → p ≡ get_or places place p → place_at s.places place ≡ p
    place_kept place p lt is =
        let e : length s.places ≡ length places = ap (λ (t : State E). length t.places) (sym kept) in
        ap (λ (t : State E). place_at t.places place) (sym kept) ∙ get_or_default places place blank_place p (omega arith) ∙ sym is

    -- one view is exchanged for what an event makes of it
    changes : (view : ℕ) (x x' : View ℕ) (F : View (List E) → View (List E)) → view < length s.views → x ≡ get_or views view x
        → known_view log x' ≡ F (known_view log x)
        → kept_state log pending marked places (set views view x') ≡ with_view s view (F (view_at s view))
    changes view x x' F lt is makes =
        kept_changes view x x' F (views_within view lt) is makes ∙ ap (λ t. with_view t view (F (view_at t view))) kept

    pub kept_see : (view count : ℕ) (x x' : View ℕ) → view < length s.views → x ≡ get_or views view x → count ≡ length log → x' ≡ with_count x count
        → kept_state log pending marked places (set views view x') ≡ after_see s view
    kept_see view count x x' lt is e made =
        changes view x x' (λ v. with_count v count) lt is (ap (known_view log) made)
        ∙ ap (λ n. with_view s view (with_count (view_at s view) n)) (e ∙ ap (λ (t : State E). length t.edits.log) kept)

    pub kept_read_clean : (view place : ℕ) (x x' : View ℕ) (p : Place) → view < length s.views → x ≡ get_or views view x
        → place < length s.places → p ≡ get_or places place p → x' ≡ with_half x place p.clean
        → kept_state log pending marked places (set views view x') ≡ after_read_clean s view place
    kept_read_clean view place x x' p lt is there at made =
        changes view x x' (λ v. with_half v place p.clean) lt is (ap (known_view log) made)
        ∙ ap (λ (q : Place). with_view s view (with_half (view_at s view) place q.clean)) (sym (place_kept place p there at))

    pub kept_read_value : (view place : ℕ) (x x' : View ℕ) (p : Place) → view < length s.views → x ≡ get_or views view x
        → place < length s.places → p ≡ get_or places place p → x' ≡ with_value x place p.value
        → kept_state log pending marked places (set views view x') ≡ after_read_value s view place
    kept_read_value view place x x' p lt is there at made =
        changes view x x' (λ v. with_value v place p.value) lt is (ap (known_view log) made)
        ∙ ap (λ (q : Place). with_view s view (with_value (view_at s view) place q.value)) (sym (place_kept place p there at))

    pub kept_read_mark : (view place : ℕ) (x x' : View ℕ) (p : Place) → view < length s.views → x ≡ get_or views view x
        → place < length s.places → p ≡ get_or places place p → x' ≡ with_read_end x place p.mark
        → kept_state log pending marked places (set views view x') ≡ after_read_mark s view place
    kept_read_mark view place x x' p lt is there at made =
        changes view x x' (λ v. with_read_end v place p.mark) lt is (ap (known_view log) made ∙ ended_known log x x.half place p.mark)
        ∙ ap (λ (q : Place). with_view s view (with_read_end (view_at s view) place q.mark)) (sym (place_kept place p there at))

    pub kept_refusal : (view place : ℕ) (x x' : View ℕ) (p : Place) → view < length s.views → x ≡ get_or views view x
        → place < length s.places → p ≡ get_or places place p → x' ≡ with_loss x place p.clean
        → kept_state log pending marked places (set views view x') ≡ after_refusal s view place
    kept_refusal view place x x' p lt is there at made =
        changes view x x' (λ v. with_loss v place p.clean) lt is (ap (known_view log) made)
        ∙ ap (λ (q : Place). with_view s view (with_loss (view_at s view) place q.clean)) (sym (place_kept place p there at))

    pub kept_claim : (view place : ℕ) (seen : Clean) (x x' : View ℕ) (p : Place) → view < length s.views → x ≡ get_or views view x
        → place < length s.places → p ≡ get_or places place p → x' ≡ with_hold x place
        → kept_state log pending marked (set places place (record p { clean = record { upto = seen.upto; held = true } })) (set views view x')
        ≡ after_claim s view place seen
    kept_claim view place seen x x' p lt is there at made =
        ap (λ t. with_place t place (record p { clean = record { upto = seen.upto; held = true } }))
        (changes view x x' (λ v. with_hold v place) lt is (ap (known_view log) made))
        ∙ ap (λ (q : Place). with_place (with_view s view (with_hold (view_at s view) place)) place
        (record q { clean = record { upto = seen.upto; held = true } }))
        (sym (place_kept place p there at))

    pub kept_put : (view place word : ℕ) (x x' : View ℕ) (p : Place) → view < length s.views → x ≡ get_or views view x
        → place < length s.places → p ≡ get_or places place p → x' ≡ with_put x place word
        → kept_state log pending marked (set places place (record p { value = word })) (set views view x') ≡ after_put s view place word
    kept_put view place word x x' p lt is there at made =
        ap (λ t. with_place t place (record p { value = word })) (changes view x x' (λ v. with_put v place word) lt is (ap (known_view log) made))
        ∙ ap (λ (q : Place). with_place (with_view s view (with_put (view_at s view) place word)) place (record q { value = word }))
        (sym (place_kept place p there at))

    pub kept_finish : (view place mark : ℕ) (x x' : View ℕ) (p : Place) → view < length s.views → x ≡ get_or views view x
        → place < length s.places → p ≡ get_or places place p → x' ≡ without_hold x place mark
        → kept_state log pending marked (set places place (record p { clean = record { upto = mark + 1; held = false } })) (set views view x')
        ≡ after_finish s view place mark
    kept_finish view place mark x x' p lt is there at made =
        ap (λ t. with_place t place (record p { clean = record { upto = mark + 1; held = false } }))
        (changes view x x' (λ v. without_hold v place mark) lt is (ap (known_view log) made))
        ∙ ap (λ (q : Place). with_place (with_view s view (without_hold (view_at s view) place mark)) place
        (record q { clean = record { upto = mark + 1; held = false } }))
        (sym (place_kept place p there at))

    pub kept_commit : (entry : E) (log' : List E) (marked' : List ℕ) (count : ℕ) (x x' : View ℕ) → marked' ≡ []
        → 0 < length s.views → IsKept log places views → x ≡ get_or views 0 x
        → log' ≡ log ++ entry ∷ [] → count ≡ length log + 1 → x' ≡ record x { log = count; seen = count }
        → kept_state log' None marked' places (set views 0 x') ≡ after_commit s 0 entry
    kept_commit entry log' marked' count x x' cleared there right is grows counted made =
        let lt : 0 < length views = views_within 0 there in
        let whole : x.log ≡ length log =
        ap (λ (v : View ℕ). v.log) (is ∙ get_or_default views 0 x (spent_with 0) lt) ∙ right.editor in
        let new : known_view (log ++ entry ∷ []) x' ≡ with_entry (known_view log x) entry =
        ap (known_view (log ++ entry ∷ [])) (made ∙ ap (λ n. (let v : View ℕ = record x { log = n; seen = n } in v)) counted)
        ∙ committed_known log entry x whole in
        ap (λ m. kept_state log' None m places (set views 0 x')) cleared
        ∙ ap (λ l. kept_state l None [] places (set views 0 x')) grows
        ∙ ap (λ vs. (let t : State E = record { edits = record { log = log ++ entry ∷ []; pending = None; marked = [] }; places = places; views = vs } in t))
        (map-set (known_view (log ++ entry ∷ [])) views 0 x'
        ∙ ap (λ vs. set vs 0 (known_view (log ++ entry ∷ []) x')) (known_same log entry views right.counted)
        ∙ ap (λ v. set (map (known_view log) views) 0 v) (new ∙ ap (λ v. with_entry v entry) (sym (view_kept 0 x lt is))))
        ∙ ap (λ t. after_commit t 0 entry) kept

    pub kept_join : (view other : ℕ) (x x' t gone : View ℕ) → view < length s.views → other < length s.views → view ≢ other → IsKept log places views
        → x ≡ get_or (set views other gone) view x → t ≡ get_or views other t → gone ≡ spent_with 0 → x' ≡ union_with (max x.log t.log) x t
        → kept_state log pending marked places (set (set views other gone) view x') ≡ after_join s view other
    kept_join view other x x' t gone lt lt' apart right is at spends made =
        let there : view < length views = views_within view lt in
        let there' : other < length views = views_within other lt' in
        let is' : x ≡ get_or views view x = is ∙ get_or-set_other views other view gone x apart in
        let below : x.log ≤ length log = subst (λ (v : View ℕ). v.log ≤ length log) (sym is') (right.counted view x there) in
        let below' : t.log ≤ length log = subst (λ (v : View ℕ). v.log ≤ length log) (sym at) (right.counted other t there') in
        let both : known_view log (union_with (max x.log t.log) x t) ≡ union_of (known_view log x) (known_view log t) =
        ap (λ l. union_with l (known_view log x) (known_view log t)) (longer_front log x.log t.log below below') in
        ap (λ vs. (let u : State E = record { edits = record { log = log; pending = pending; marked = marked }; places = places; views = vs } in u))
        (ap (map (known_view log)) (set_comm views other view gone x' (λ e. apart (sym e)))
        ∙ map-set (known_view log) (set views view x') other gone
        ∙ ap (λ v. set (map (known_view log) (set views view x')) other (known_view log v)) spends
        ∙ ap (λ vs. set vs other spent_view)
        (map-set (known_view log) views view x'
        ∙ ap (λ v. set (map (known_view log) views) view v)
        (ap (known_view log) made ∙ both
        ∙ ap (λ v. union_of v (known_view log t)) (sym (view_kept view x there is'))
        ∙ ap (λ v. union_of (view_at (kept_state log pending marked places views) view) v) (sym (view_kept other t there' at)))))
        ∙ ap (λ u. after_join u view other) kept

-- a view that was taken out and put back
pub put_back : (views : List (View ℕ)) (view other : ℕ) (x x' t gone : View ℕ) → view ≢ other → other < length views
    → x ≡ get_or (set views other gone) view x → t ≡ get_or views other t → x' ≡ x
    → set (set (set views other gone) view x') other t ≡ views
put_back views view other x x' t gone apart lt is at same =
    ap (λ v. set (set (set views other gone) view v) other t) (same ∙ is)
    ∙ ap (λ vs. set vs other t) (set-get_or (set views other gone) view x)
    ∙ set-set views other gone t
    ∙ ap (λ v. set views other v) at
    ∙ set-get_or views other t

module _ {E : Type 0} (log : List E) (places : List Place) (views : List (View ℕ)) (right : IsKept log places views) where
  -- one more view
  pub kept_push : (view : ℕ) (x new : View ℕ) → view < length views → x ≡ get_or views view x → new ≡ split_off x → IsKept log places (views ++ new ∷ [])
  kept_push view x new lt is made =
      record {
        editor = ap (λ (v : View ℕ). v.log) (get_or_append_left views (new ∷ []) (spent_with 0) 0 (omega arith)) ∙ right.editor;
        counted =
            All-push (λ (v : View ℕ). v.log ≤ length log) views new right.counted
            (subst (λ (v : View ℕ). v.log ≤ length log) (sym made) (subst (λ (v : View ℕ). v.log ≤ length log) (sym is) (right.counted view x lt)));
        fits = right.fits;
        few = right.few;
      }

  -- one view spent, and another that took over what it knew
  pub kept_joined : (view other : ℕ) (x x' t gone : View ℕ) → view < length views → other < length views → view ≢ other → other ≢ 0
      → x ≡ get_or (set views other gone) view x → t ≡ get_or views other t → gone ≡ spent_with 0 → x' ≡ union_with (max x.log t.log) x t
      → IsKept log places (set (set views other gone) view x')
  kept_joined view other x x' t gone lt lt' apart not_editor is at spends made =
      let is' : x ≡ get_or views view x = is ∙ get_or-set_other views other view gone x apart in
      let below : x.log ≤ length log = subst (λ (v : View ℕ). v.log ≤ length log) (sym is') (right.counted view x lt) in
      let below' : t.log ≤ length log = subst (λ (v : View ℕ). v.log ≤ length log) (sym at) (right.counted other t lt') in
      let none : gone.log ≡ 0 = ap (λ (v : View ℕ). v.log) spends in
      let both : x'.log ≡ max x.log t.log = ap (λ (v : View ℕ). v.log) made in
      let still : length (set views other gone) ≡ length views = length-set views other gone in
      let first : get_or (set views other gone) 0 (spent_with 0) ≡ get_or views 0 (spent_with 0) =
      get_or-set_other views other 0 gone (spent_with 0) (λ e. not_editor (sym e)) in
      record {
        editor =
            elim (set_cases (set views other gone) view x' (spent_with 0) 0 (omega arith)) [
              | inl p ↦
                  let editor : x.log ≡ length log =
                  ap (λ (v : View ℕ). v.log) (is' ∙ get_or_default views view x (spent_with 0) lt
                  ∙ ap (λ i. get_or views i (spent_with 0)) (sym p.0)) ∙ right.editor in
                  ap (λ (v : View ℕ). v.log) p.1 ∙ omega arith
              | inr p ↦ ap (λ (v : View ℕ). v.log) (p.1 ∙ first) ∙ right.editor
            ];
        counted =
            All-set (λ (v : View ℕ). v.log ≤ length log) (set views other gone) view x' (omega arith)
            (All-set (λ (v : View ℕ). v.log ≤ length log) views other gone (omega arith) right.counted);
        fits = right.fits;
        few = right.few;
      }

-- the parts of a machine that has just opened
pub kept_opening : {E : Type 0} (log : List E) (marked : List ℕ) (places : List Place) (views : List (View ℕ)) (opening : List (Option ℕ))
    → log ≡ [] → marked ≡ [] → places ≡ map opening_place opening → views ≡ new_view 0 0 [] ∷ []
    → kept_state log None marked places views ≡ opening_state opening
kept_opening log marked places views opening l m p v =
    ap (λ xs. kept_state xs None marked places views) l
    ∙ ap (λ xs. kept_state [] None xs places views) m
    ∙ ap (λ xs. kept_state [] None [] xs views) p
    ∙ ap (λ xs. kept_state [] None [] (map opening_place opening) xs) v
