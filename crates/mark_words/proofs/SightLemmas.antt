-- What the seat of a see has seen is the count that stood.
use Rattle.std.proofs.Common.{◌≡◌, ◌≢◌, ◌<◌, ◌≤◌, ◌+◌, ℕ, List, Option, [], ◌∷◌, ◌++◌, max, length, get_or-set_same}
use Rattle.std.proofs.Common.{get_or-set_other, length-append, true, false, refl, sym, ◌∙◌, ap, subst, inl, inr, arith}
use Rattle.std.specs.Prelude.{slice_index, slice_set}
use Rattle.std.proofs.Math.ListN.{length-set}
use Rattle.std.proofs.lemmas.List.{get_or_append_left, get_or_past}
use Rattle.std.proofs.lemmas.Bool.{cases_eq, cases_lt}
use mathlib.Core.Option.{some}
use lib.ListN.{get_elem?}
use Rattle.atomic_table.specs.Table.{State as TableState}
use Rattle.atomic_table.proofs.Lists.{set_here}
use Rattle.mark_core.specs.declared.actors.Edits.{Edits}
use Rattle.mark_core.specs.declared.actors.View.{View}
use Rattle.mark_core.specs.declared.events.Event.{Event}
use Rattle.mark_core.specs.declared.events.Outcome.{Outcome}
use Rattle.mark_core.specs.declared.events.Event.TheVariants.{See, Mark, Commit, Split, Join, ReadClean, ReadValue, ReadMark, Claim, Put, Finish}
use Rattle.mark_core.specs.Views.{with_count, split_off, union_of}
use Rattle.mark_core.specs.States.{State, view_at, with_view, spent_view, opening_state}
use Rattle.mark_core.specs.Steps.{Happens}
use Rattle.mark_words.specs.declared.tables.History.{History}
use Rattle.mark_words.specs.Rules.{IsKeptTable}
use Rattle.mark_words.specs.declared.tables.Made.{Made}
use Rattle.mark_words.specs.declared.tables.OwnStep.{OwnStep}
use Rattle.mark_words.specs.Runs.{RunsWith}
use Rattle.mark_words.specs.Steps.{is_single, single_steps, steps_from, steps_of, made_of, OneMore, NoneHandedIn}
use Rattle.mark_words.proofs.TableLemmas.{some_within}
use Rattle.mark_words.proofs.OrderLemmas.{not_empty}
use Rattle.mark_words.proofs.StepLemmas.{from_other}
use Rattle.mark_words.proofs.RunLemmas.{honest_state, same_view}
use Rattle.mark_words.proofs.WordLemmas.{IsLast, last_single, truth, singles_hit, singles_skip}

-- a view that isn't spent is there
there_live : {E : Type 0} (s : State E) (n : ℕ) → (view_at s n).spent ≡ false → n < length s.views
there_live {E} s n live =
    elim (cases_lt n (length s.views)) [
      | inl lt ↦ lt
      | inr past ↦
          let none : (view_at s n).spent ≡ true = ap (λ (v : View (List E)). v.spent) (get_or_past s.views n spent_view past) in
          absurd (cc)
    ]

-- what a join makes of the views
module _ {E : Type 0} (s : State E) (view other : ℕ) (apart : view ≢ other) (live : (view_at s view).spent ≡ false) where
  abbrev joined : State E
  joined = with_view (with_view s view (union_of (view_at s view) (view_at s other))) other spent_view

  join_length : length joined.views ≡ length s.views
  join_length =
      length-set (slice_set s.views view (union_of (view_at s view) (view_at s other))) other spent_view
      ∙ length-set s.views view (union_of (view_at s view) (view_at s other))

  join_other : other < length s.views → view_at joined other ≡ spent_view
  join_other lt =
      get_or-set_same (slice_set s.views view (union_of (view_at s view) (view_at s other))) other spent_view spent_view
      (omega (arith, lt, length-set s.views view (union_of (view_at s view) (view_at s other))))

  join_own : view_at joined view ≡ union_of (view_at s view) (view_at s other)
  join_own =
      get_or-set_other (slice_set s.views view (union_of (view_at s view) (view_at s other))) other view spent_view spent_view apart
      ∙ get_or-set_same s.views view (union_of (view_at s view) (view_at s other)) spent_view (there_live s view live)

  join_rest : (n : ℕ) → n ≢ view → n ≢ other → view_at joined n ≡ view_at s n
  join_rest n not_view not_other =
      get_or-set_other (slice_set s.views view (union_of (view_at s view) (view_at s other))) other n spent_view spent_view not_other
      ∙ get_or-set_other s.views view n (union_of (view_at s view) (view_at s other)) spent_view not_view

module _ {E : Type 0} (worth : List E → ℕ → ℕ) (touches : List E → E → ℕ → Type 0) where
  -- through an event that is no single step a view stays there, and where it isn't spent then it wasn't before, and had
  -- seen no more
  through : (s : State E) (event : Event E) (outcome : Outcome) (next : State E) (n : ℕ) → is_single event ≡ false
      → Happens worth touches s event outcome next → n < length s.views
      → (n < length next.views) × ((view_at next n).spent ≡ false → ((view_at s n).spent ≡ false) × ((view_at s n).seen ≤ (view_at next n).seen))
  through s (Split view) outcome next n quiet happens lt =
      let same : view_at next n ≡ view_at s n =
      ap (λ (x : State E). view_at x n) happens.gives.1 ∙ get_or_append_left s.views (split_off (view_at s view) ∷ []) spent_view n lt in
      let long : length next.views ≡ length s.views + 1 =
      ap (λ (x : State E). length x.views) happens.gives.1 ∙ length-append s.views (split_off (view_at s view) ∷ []) in
      let seen : (view_at next n).seen ≡ (view_at s n).seen = ap (λ (v : View (List E)). v.seen) same in
      (omega (arith, lt, long), λ live. (ap (λ (v : View (List E)). v.spent) (sym same) ∙ live, omega (arith, seen)))
  through s (Join view other) outcome next n quiet happens lt =
      let apart : view ≢ other = happens.allowed.0 in
      let alive : (view_at s view).spent ≡ false = happens.allowed.2.live in
      let long : length next.views ≡ length s.views =
      ap (λ (x : State E). length x.views) happens.gives.1 ∙ join_length s view other apart alive in (
        omega (arith, lt, long),
        λ live.
            elim (cases_eq n other) [
              | inl is ↦
                  let gone : view_at next n ≡ spent_view =
                  ap (λ i. view_at next i) is ∙ ap (λ (x : State E). view_at x other) happens.gives.1
                  ∙ join_other s view other apart alive (subst (λ (i : ℕ). i < length s.views) is lt) in
                  let spent : (view_at next n).spent ≡ true = ap (λ (v : View (List E)). v.spent) gone in
                  absurd (cc)
              | inr not_other ↦
                  elim (cases_eq n view) [
                    | inl is ↦
                        let own : view_at next n ≡ union_of (view_at s view) (view_at s other) =
                        ap (λ i. view_at next i) is ∙ ap (λ (x : State E). view_at x view) happens.gives.1 ∙ join_own s view other apart alive in
                        let seen : (view_at next n).seen ≡ max (view_at s view).seen (view_at s other).seen = ap (λ (v : View (List E)). v.seen) own in
                        let here : (view_at s n).seen ≡ (view_at s view).seen = ap (λ i. (view_at s i).seen) is in
                        (ap (λ i. (view_at s i).spent) is ∙ alive, omega (arith, seen, here))
                    | inr not_view ↦
                        let same : view_at next n ≡ view_at s n =
                        ap (λ (x : State E). view_at x n) happens.gives.1 ∙ join_rest s view other apart alive n not_view not_other in
                        let seen : (view_at next n).seen ≡ (view_at s n).seen = ap (λ (v : View (List E)). v.seen) same in
                        (ap (λ (v : View (List E)). v.spent) (sym same) ∙ live, omega (arith, seen))
                  ]
            ],
      )
  through s (See view) outcome next n quiet happens lt = absurd (cc)
  through s (Mark view entry place) outcome next n quiet happens lt = absurd (cc)
  through s (Commit view entry) outcome next n quiet happens lt = absurd (cc)
  through s (ReadClean view place) outcome next n quiet happens lt = absurd (cc)
  through s (ReadValue view place) outcome next n quiet happens lt = absurd (cc)
  through s (ReadMark view place) outcome next n quiet happens lt = absurd (cc)
  through s (Claim view place seen) outcome next n quiet happens lt = absurd (cc)
  through s (Put view place word) outcome next n quiet happens lt = absurd (cc)
  through s (Finish view place mark) outcome next n quiet happens lt = absurd (cc)

  -- the same through a run without single steps
  later : (events : List (Made E)) (s after : State E) (n : ℕ) → RunsWith worth touches s events after → single_steps events ≡ [] → n < length s.views
      → (view_at after n).spent ≡ false → ((view_at s n).spent ≡ false) × ((view_at s n).seen ≤ (view_at after n).seen)
  later [] s after n run none lt live =
      let same : view_at after n ≡ view_at s n = ap (λ (x : State E). view_at x n) run in
      let seen : (view_at after n).seen ≡ (view_at s n).seen = ap (λ (v : View (List E)). v.seen) same in
      (ap (λ (v : View (List E)). v.spent) (sym same) ∙ live, omega (arith, seen))
  later (made ∷ events) s after n (next, outcome, happens, word, run) none lt live =
      elim (truth (is_single made.event)) [
        | inl counts ↦ absurd (not_empty made (single_steps events) (sym (singles_hit made events counts) ∙ none))
        | inr quiet ↦
            let here = through s made.event outcome next n quiet happens lt in
            let rest = later events next after n run (sym (singles_skip made events quiet) ∙ none) here.0 live in
            let first = here.1 rest.0 in
            (first.0, omega (arith, first.1, rest.1))
      ]

module _ {S E : Type 0} (subject : S) (places : ℕ) (worth : List E → ℕ → ℕ) (touches : List E → E → ℕ → Type 0)
    (untouched : (log : List E) (entry : E) (place : ℕ) → place < places → (touches log entry place → ⊥) → worth (log ++ entry ∷ []) place ≡ worth log place)
    (opening : List (Option ℕ)) (t t' : TableState E (History S E))
    (kept : IsKeptTable subject places worth touches opening t) (kept' : IsKeptTable subject places worth touches opening t')
    (seat : ℕ) (before after : History S E) (event : ℕ → Event E) (word : ℕ) (one : OneMore before.steps after.steps event word)
    (view : ℕ) (sees : event one.view ≡ See view)
    (there : get_elem? t.views seat ≡ some before) (others : t'.views ≡ slice_set t.views seat after)
    (none : NoneHandedIn t.views) (none_after : NoneHandedIn t'.views)
    (steps : single_steps kept'.events ≡ single_steps kept.events ++ made_of (event one.view) word ∷ []) where
  seen_steps : single_steps kept'.events ≡ single_steps kept.events ++ made_of (See view) word ∷ []
  seen_steps = steps ∙ ap (λ (e : Event E). single_steps kept.events ++ made_of e word ∷ []) sees

  at_after : get_elem? t'.views seat ≡ some after
  at_after = ap (λ l. get_elem? l seat) others ∙ set_here t.views seat after (some_within t.views seat before there)

  -- the view that the step names is the seat's
  own_view : view ≡ seat
  own_view =
      elim (cases_eq view seat) [
        | inl same ↦ same
        | inr apart ↦
            let same : steps_of kept'.events seat ≡ steps_of kept.events seat =
            ap (steps_from seat 0) seen_steps ∙ from_other seat 0 (single_steps kept.events) (made_of (See view) word) apart in
            let last : OwnStep E = record { number = one.number; made = made_of (event one.view) word } in
            let whole = ap length one.is ∙ length-append before.steps (last ∷ []) in
            let long : length after.steps ≡ length before.steps =
            ap length (kept'.steps.each seat after at_after (λ gone. none_after) ∙ same ∙ sym (kept.steps.each seat before there (λ gone. none))) in
            absurd (omega (arith, whole, long))
      ]

  pub sees_the_count : after.doing.view.spent ≡ false → after.doing.view.seen ≡ slice_index t.words 0
  sees_the_count live =
      let last : IsLast worth touches kept.core kept'.core (made_of (See view) word) =
      last_single worth touches kept.events kept'.events (opening_state opening) (opening_state opening) kept.core
      kept'.core (made_of (See view) word) kept.run kept'.run
      (record { edits = refl; places = refl }) seen_steps in
      let before : State E = last.before in
      let lt : view < length before.views = there_live before view last.happens.allowed in
      let count : ℕ = length before.edits.log in
      let counted : view_at last.next view ≡ with_count (view_at before view) count =
      ap (λ (x : State E). view_at x view) last.happens.gives.1 ∙ get_or-set_same before.views view (with_count (view_at before view) count) spent_view lt in
      let long : length last.next.views ≡ length before.views =
      ap (λ (x : State E). length x.views) last.happens.gives.1 ∙ length-set before.views view (with_count (view_at before view) count) in
      let own : view_at kept'.core view ≡ after.doing.view =
      ap (λ i. view_at kept'.core i) own_view ∙ same_view subject places worth touches opening t' kept' seat after at_after live in
      let rest = later worth touches last.events last.next kept'.core view last.run last.none (omega (arith, lt, long))
      (ap (λ (w : View (List E)). w.spent) own ∙ live) in
      let seen : (view_at kept'.core view).seen ≡ after.doing.view.seen = ap (λ (w : View (List E)). w.seen) own in
      let least : (view_at last.next view).seen ≡ count = ap (λ (w : View (List E)). w.seen) counted in
      let most : (view_at kept'.core view).seen ≤ length kept'.core.edits.log =
      ((honest_state subject places worth touches opening t' kept' untouched).views view).log.seen_below in
      let same_log : length kept'.core.edits.log ≡ count =
      ap (λ (e : Edits E). length e.log) (sym last.stays.edits) ∙ ap (λ (x : State E). length x.edits.log) last.happens.gives.1 in
      let first : slice_index t.words 0 ≡ length kept.core.edits.log = ap (λ ws. slice_index ws 0) kept.words in
      let same : length kept.core.edits.log ≡ count = ap (λ (e : Edits E). length e.log) last.alike.edits in
      omega (arith, rest.1, seen, least, most, same_log, first, same)
