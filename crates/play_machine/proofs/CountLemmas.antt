-- How many cells are marked, before and after marks are set and turns are made.
use Rattle.std.proofs.Common.{◌≡◌, ℕ, zero, suc, ◌+◌, ◌<◌, ◌≤◌, Bool, cond, List, [], ◌∷◌, length, get_or, set, replicate, Some, arith, refl, sym, ap, ◌∙◌}
use Rattle.std.specs.Prelude.{nat_lt}
use Rattle.std.proofs.lemmas.List.Sums.{sum_by-cons}
use Rattle.std.proofs.lemmas.Option.{slice_get-get_or}
use Rattle.sheet_refs.specs.Sizes.{cell_count}
use Rattle.sheet_model.specs.Sheets.{SheetValue}
use Rattle.sheet_model.proofs.ListLemmas.{count_by-set}
use Rattle.play_machine.specs.Machine.{AreTurns, IsTurn}
use Rattle.play_machine.specs.Machine.AreTurns.{none as no_turns, more as more_turns}
use Rattle.play_machine.specs.Machine.IsTurn.{clears_ready, clears_marked, clears_nothing}
use Rattle.play_machine.specs.Marking.{marked_count}
use Rattle.play_machine.proofs.MarkLemmas.{marked_from}
use Rattle.play_machine.proofs.TurnLemmas.{cleared_count, turns_length, zero_marks}

abbrev one_of : Bool → ℕ
one_of b = cond b 1 0

counted_cons : (x : ℕ) (xs : List ℕ) → marked_count (x ∷ xs) ≡ one_of (nat_lt 0 x) + marked_count xs
counted_cons x xs = sum_by-cons (λ y. one_of (nat_lt 0 y)) x xs

-- a mark that is set adds one where none stood, and none where one did
module _ (marks : List ℕ) (place old number : ℕ) (below : place < length marks) (at : old ≡ get_or marks place old) (some : 1 ≤ number) where
  counted : marked_count (set marks place number) + one_of (nat_lt 0 old) ≡ marked_count marks + one_of (nat_lt 0 number)
  counted = count_by-set (nat_lt 0) marks place old number (slice_get-get_or marks place old below ∙ ap Some (sym at))

  one : one_of (nat_lt 0 number) ≡ 1
  one = ap one_of (marked_from number (λ none. absurd (omega (arith, none, some))))

  pub set_first : old ≡ 0 → marked_count (set marks place number) ≡ marked_count marks + 1
  set_first none = (let had : one_of (nat_lt 0 old) ≡ 0 = ap (λ n. one_of (nat_lt 0 n)) none in omega (arith, counted, one, had))

  pub set_again : (old ≡ 0 → ⊥) → marked_count (set marks place number) ≡ marked_count marks + 0
  set_again had_one = (let had : one_of (nat_lt 0 old) ≡ 1 = ap one_of (marked_from old had_one) in omega (arith, counted, one, had))

-- of marks that are all 0 none counts, and none but these
pub zeros_counted : (n : ℕ) → marked_count (replicate n 0) ≡ 0
zeros_counted zero = refl
zeros_counted (suc n) = (let whole = counted_cons 0 (replicate n 0) in let rest = zeros_counted n in omega (arith, whole, rest))

pub none_counted : (marks : List ℕ) → marked_count marks ≡ 0 → marks ≡ replicate (length marks) 0
none_counted [] none = refl
none_counted (zero ∷ marks) none = ap (λ ms. zero ∷ ms) (none_counted marks (let whole = counted_cons zero marks in omega (arith, whole, none)))
none_counted (suc n ∷ marks) none =
    let one : one_of (nat_lt 0 (suc n)) ≡ 1 = ap one_of (marked_from (suc n) (λ is. absurd (omega (arith, is)))) in
    let whole = counted_cons (suc n) marks in
    absurd (omega (arith, whole, one, none))

-- a turn clears one mark, where there is one
turn_counted : (sheet : SheetValue) (old new : List ℕ) → length old ≡ cell_count sheet.sizes → 1 ≤ marked_count old
    → IsTurn sheet old new → marked_count new + 1 ≡ marked_count old
turn_counted sheet old new count some (clears_ready cell first is) = ap (λ ms. marked_count ms + 1) is
    ∙ cleared_count sheet.sizes old cell count first.inside first.such.marked
turn_counted sheet old new count some (clears_marked cell none first is) = ap (λ ms. marked_count ms + 1) is
    ∙ cleared_count sheet.sizes old cell count first.inside first.such
turn_counted sheet old new count some (clears_nothing nowhere is) =
    let none : marked_count old ≡ 0 = ap marked_count (zero_marks sheet.sizes old count nowhere) ∙ zeros_counted (length old) in
    absurd (omega (arith, none, some))

pub turns_counted : (sheet : SheetValue) (turns : ℕ) (old new : List ℕ) → length old ≡ cell_count sheet.sizes
    → turns ≤ marked_count old → AreTurns sheet turns old new → marked_count new + turns ≡ marked_count old
turns_counted sheet _ old _ count few (no_turns marks) = omega arith
turns_counted sheet _ old _ count few (more_turns turns next start mid new before turn is) =
    let rest = turns_counted sheet turns start mid count (omega (arith, few, is)) before in
    let one = turn_counted sheet mid new (turns_length sheet turns start mid before ∙ count) (omega (arith, rest, few, is)) turn in
    omega (arith, rest, one, is)
