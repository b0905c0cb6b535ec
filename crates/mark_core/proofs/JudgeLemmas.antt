-- What the judgements of single entries say of last marks and of allowed events.
use Rattle.std.proofs.Common.{◌≡◌, ◌<◌, ◌≤◌, ◌+◌, ◌-◌, ◌↔◌, ℕ, List, Bool, true, length, take, refl, sym, subst, inl, inr, arith}
use Rattle.std.specs.Prelude.{IsTrue}
use Rattle.std.proofs.lemmas.List.{take_all}
use Rattle.std.proofs.lemmas.Bool.{cases_lt}
use Rattle.mark_core.specs.declared.events.Event.{Event}
use Rattle.mark_core.specs.Marks.{IsTouched, IsLastMark}
use Rattle.mark_core.specs.States.{State}
use Rattle.mark_core.specs.Permissions.{IsWorthMarked, Allowed}

module _ {E : Type 0} (touches : List E → E → ℕ → Type 0) (log : List E) (place mark : ℕ) (b : Bool) where
  -- a mark is the last one where it is one and no entry after it touches the place
  pub last_mark_iff : mark ≤ length log → (0 < mark → IsTouched touches log place mark)
      → (IsTrue b ↔ ((index : ℕ) → mark ≤ index → index < length log → IsTouched touches log place (index + 1) → ⊥))
      → IsTrue b ↔ IsLastMark touches log place mark
  last_mark_iff within touched none = (
    λ t. record {
      within = within;
      touched = touched;
      none_later = λ number later le u.
          let e : number ≡ number - 1 + 1 = omega arith in
          none.0 t (number - 1) (omega arith) (omega arith) (subst (λ (n : ℕ). IsTouched touches log place n) e u);
    },
    λ last. none.1 (λ index le lt u. last.none_later (index + 1) (omega arith) (omega arith) u),
  )

  -- the entry before a number above 0
  pub mark_iff : (0 < mark) → (IsTrue b ↔ IsTouched touches log place (mark - 1 + 1)) → IsTrue b ↔ (0 < mark → IsTouched touches log place mark)
  mark_iff some touched =
      let e : mark - 1 + 1 ≡ mark = omega arith in (
        λ t positive. subst (λ (n : ℕ). IsTouched touches log place n) e (touched.0 t),
        λ f. touched.1 (subst (λ (n : ℕ). IsTouched touches log place n) (sym e) (f some)),
      )

module _ {E : Type 0} (worth : List E → ℕ → ℕ) (touches : List E → E → ℕ → Type 0) (log : List E) (place word mark : ℕ) where
  -- word and mark belong to these entries
  Belongs : List E → Type 0
  Belongs entries = (worth entries place ≡ word) × IsLastMark touches entries place mark

  belong_marked : (count : ℕ) → count ≤ length log → Belongs (take count log) → IsWorthMarked worth touches log place word mark
  unfolding Belongs
  belong_marked count within both = record { known = record { count = count; within = within; worth_is = both.0 }; last = both.1 }

  -- word and mark belong to some of the first entries, where they do to these
  pub marked_found : (b : Bool) (count : ℕ) → b ≡ true → count ≤ length log
      → (IsTrue b ↔ ((worth (take count log) place ≡ word) × IsLastMark touches (take count log) place mark))
      → (IsTrue true ↔ IsWorthMarked worth touches log place word mark)
  unfolding Belongs
  marked_found b count e within iff = (λ t. belong_marked count within (iff.0 e), λ marked. refl)

  -- and exactly where they do to all, if they don't to fewer
  pub marked_of_all : (b : Bool)
      → (IsTrue b ↔ ((worth log place ≡ word) × IsLastMark touches log place mark))
      → ((count : ℕ) → count < length log → (worth (take count log) place ≡ word) × IsLastMark touches (take count log) place mark → ⊥)
      → (IsTrue b ↔ IsWorthMarked worth touches log place word mark)
  unfolding Belongs
  marked_of_all b iff none =
      let all : take (length log) log ≡ log = take_all (length log) log (omega arith) in (
        λ t. belong_marked (length log) (omega arith) (subst Belongs (sym all) (iff.0 t)),
        λ marked.
            elim (cases_lt marked.known.count (length log)) [
              | inl lt ↦ absurd (none marked.known.count lt (marked.known.worth_is, marked.last))
              | inr le ↦
                  let whole : take marked.known.count log ≡ log = take_all marked.known.count log le in
                  let both : Belongs (take marked.known.count log) = (marked.known.worth_is, marked.last) in
                  iff.1 (subst Belongs whole both)
            ],
      )

-- what is allowed of one event is allowed of an equal one
pub allowed_same : {E : Type 0} (worth : List E → ℕ → ℕ) (touches : List E → E → ℕ → Type 0) (s : State E) (event other : Event E) (b : Bool)
    → event ≡ other → (IsTrue b ↔ Allowed worth touches s other) → IsTrue b ↔ Allowed worth touches s event
allowed_same worth touches s event other b e iff = subst (λ (x : Event _). IsTrue b ↔ Allowed worth touches s x) (sym e) iff
