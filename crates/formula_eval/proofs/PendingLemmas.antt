-- Taking what waits from the end.
use Rattle.std.proofs.Common.{◌≡◌, ℕ, ◌+◌, ◌<◌, ◌≤◌, List, [], ◌∷◌, ◌++◌, length, refl, sym, ◌∙◌, ap, arith, length-append}
use Rattle.std.proofs.lemmas.List.{append-nil}
use Rattle.value_core.specs.declared.value.Value.{Value}
use Rattle.formula_eval.specs.declared.machine.Pending.{Pending}
use Rattle.formula_eval.specs.Pending.{value_of_one, value_of_all}

-- what is left of a list behind so many first ones, and what it makes of a value
pub record Unwinds (old now : List Pending) (first : ℕ) (start value : Value) : Type 0 where
  pub left : (front rest : List Pending) → old ≡ front ++ rest → length front ≡ first → (ps : List Pending)
      × (now ≡ front ++ ps) × (value_of_all ps value ≡ value_of_all rest start)

pub unwinds_start : (old : List Pending) (first : ℕ) (value : Value) → Unwinds old old first value value
unwinds_start old first value = record { left = λ front rest is long. (rest, is, refl) }

split_last : (front ps xs : List Pending) (last : Pending) → xs ++ last ∷ [] ≡ front ++ ps → length front ≤ length xs
    → (qs : List Pending) × (ps ≡ qs ++ last ∷ []) × (xs ≡ front ++ qs)
split_last [] ps xs last is long = (xs, sym is, refl)
split_last (f ∷ fs) ps [] last is long = absurd (omega arith)
split_last (f ∷ fs) ps (x ∷ xs) last is long =
    let head : x ≡ f = cc in
    let tail : xs ++ last ∷ [] ≡ fs ++ ps = cc in
    let rest = split_last fs ps xs last tail (omega arith) in
    (rest.0, rest.1, rw head (ap (λ ys. f ∷ ys) rest.2))

pub value_of_all-push : (ps : List Pending) (last : Pending) (v : Value) → value_of_all (ps ++ last ∷ []) v ≡ value_of_all ps (value_of_one last v)
value_of_all-push [] last v = refl
value_of_all-push (p ∷ ps) last v = ap (value_of_one p) (value_of_all-push ps last v)

pub unwinds_step : (old now new : List Pending) (last : Pending) (first : ℕ) (start value next : Value)
    → Unwinds old now first start value → now ≡ new ++ last ∷ [] → first < length now → next ≡ value_of_one last value
    → Unwinds old new first start next
unwinds_step old now new last first start value next unwinds is long applies = record {
  left = λ front rest old_is front_long.
      let at = unwinds.left front rest old_is front_long in
      let count : length now ≡ length new + 1 = ap length is ∙ (let e = length-append new (last ∷ []) in omega arith) in
      let cut = split_last front at.0 new last (sym is ∙ at.1) (omega arith) in
      (cut.0, cut.2, ap (value_of_all cut.0) applies ∙ sym (value_of_all-push cut.0 last value) ∙ ap (λ ps. value_of_all ps value) (sym cut.1) ∙ at.2);
}

none_left : (front ps now : List Pending) (first : ℕ) → now ≡ front ++ ps → length front ≡ first → length now ≤ first → ps ≡ []
none_left front [] now first is long short = refl
none_left front (p ∷ ps) now first is long short =
    let count = ap length is ∙ length-append front (p ∷ ps) in
    absurd (omega arith)

pub unwinds_end : (old now : List Pending) (first : ℕ) (start value : Value) → Unwinds old now first start value
    → length now ≤ first → (front rest : List Pending) → old ≡ front ++ rest → length front ≡ first
    → (value ≡ value_of_all rest start) × (now ≡ front)
unwinds_end old now first start value unwinds short front rest old_is long =
    let at = unwinds.left front rest old_is long in
    let none = none_left front at.0 now first at.1 long short in
    (ap (λ ps. value_of_all ps value) (sym none) ∙ at.2, at.1 ∙ ap (λ ps. front ++ ps) none ∙ append-nil front)
