-- Turns can be made from any marks, and as many turns as there are cells leave no cell marked.
use Rattle.std.proofs.Common.{◌≡◌, ◌⊎◌, inl, inr, ℕ, zero, suc, ◌+◌, ◌-◌, ◌*◌, ◌/◌, ◌%◌, ◌<◌, ◌≤◌, Bool, true, false}
use Rattle.std.proofs.Common.{cond, List, [], ◌∷◌, length, get_or, replicate, IsTrue, IsFalse, Contains, arith, refl}
use Rattle.std.proofs.Common.{sym, ap, subst, ◌∙◌}
use Rattle.std.specs.Prelude.{nat_lt}
use Rattle.std.proofs.lemmas.Bool.{cases_lt, cases_eq}
use Rattle.std.proofs.lemmas.Grind.{same_number_lists}
use Rattle.std.proofs.lemmas.List.{get_or-replicate, length-replicate, length-set}
use Rattle.std.proofs.lemmas.Option.{slice_get-get_or}
use Rattle.sheet_refs.specs.Cells.{Position, Corners, IsIn}
use Rattle.sheet_refs.specs.Sizes.{is_inside, cell_count, place_of}
use Rattle.sheet_refs.specs.declared.sizes.Sizes.{Sizes}
use Rattle.sheet_refs.proofs.Places.{inside_from, place-lt}
use Rattle.sheet_model.specs.Sheets.{SheetValue, content_of}
use Rattle.sheet_model.proofs.ListLemmas.{count_by-set}
use Rattle.edit_log.specs.Kept.{cell_at-place}
use Rattle.sheet_model.specs.Ranges.{ranges_in}
use Rattle.edit_log.specs.Touches.{cell_at}
use Rattle.play_machine.specs.Machine.{AreTurns, IsFirstCell, IsMarked, IsNowhere, IsReady, IsTurn, is_marked, mark_of, without_mark}
use Rattle.play_machine.specs.Machine.AreTurns.{none as no_turns, more as more_turns}
use Rattle.play_machine.specs.Machine.IsTurn.{clears_ready, clears_marked, clears_nothing}
use Rattle.play_machine.specs.Marking.{HasNoMark, NoneHasMark, marked_count}
use Rattle.play_machine.proofs.MarkLemmas.{mark_inside, marked_from, not_both, unmarked_from}
use Rattle.play_machine.proofs.ReadyLemmas.{outside_unmarked}

-- the cell at a place is one of the rectangle, and stands there
split_place : (cols count place : ℕ) → place < count * cols → (place / cols < count) × (place % cols < cols) × (place / cols * cols + place % cols ≡ place)
split_place cols count place below = grind arith

pub there : (sizes : Sizes) (place : ℕ) → place < cell_count sizes → IsTrue (is_inside sizes (cell_at sizes place))
    × (place_of sizes (cell_at sizes place) ≡ place)
there sizes place below =
    let parts = split_place sizes.cols sizes.rows place below in
    let row = parts.0 in
    let col = parts.1 in
    let row_at : place / sizes.cols + 1 - 1 ≡ place / sizes.cols = omega arith in
    let col_at : place % sizes.cols + 1 - 1 ≡ place % sizes.cols = omega arith in (
      inside_from sizes (cell_at sizes place) (record {
        row_from = omega arith;
        row_to = omega (arith, row);
        col_from = omega arith;
        col_to = omega (arith, col);
      }),
      rw (row_at, col_at) parts.2,
    )

-- of the cells of the rectangle there is a first one that is such as can be decided, or none is
module _ (sizes : Sizes) (Such : Position → Type 0) (decide : (cell : Position) → Such cell ⊎ (¬ Such cell)) where
  below_or_none : (n : ℕ) → ((k : ℕ) × (k < n) × Such (cell_at sizes k) × ((j : ℕ) → j < k → ¬ Such (cell_at sizes j)))
      ⊎ ((k : ℕ) → k < n → ¬ Such (cell_at sizes k))
  below_or_none zero = inr (λ k below. absurd (omega (arith, below)))
  below_or_none (suc n) = more (below_or_none n) (decide (cell_at sizes n))
    where
      more : ((k : ℕ) × (k < n) × Such (cell_at sizes k) × ((j : ℕ) → j < k → ¬ Such (cell_at sizes j)))
          ⊎ ((k : ℕ) → k < n → ¬ Such (cell_at sizes k)) → Such (cell_at sizes n) ⊎ (¬ Such (cell_at sizes n))
          → ((k : ℕ) × (k < suc n) × Such (cell_at sizes k) × ((j : ℕ) → j < k → ¬ Such (cell_at sizes j)))
          ⊎ ((k : ℕ) → k < suc n → ¬ Such (cell_at sizes k))
      more (inl (k, below, such, none)) here = inl (k, (omega (arith, below)), such, none)
      more (inr none) (inl such) = inl (n, (omega arith), such, none)
      more (inr none) (inr not) = inr (λ k below. at k below (cases_eq k n))
        where
          at : (k : ℕ) → k < suc n → (k ≡ n) ⊎ (k ≡ n → ⊥) → ¬ Such (cell_at sizes k)
          at k below (inl same) = subst (λ m. ¬ Such (cell_at sizes m)) (sym same) not
          at k below (inr differs) = none k (at_most k below differs)
            where
              at_most : (k : ℕ) → k < suc n → (k ≡ n → ⊥) → k < n
              at_most k below differs = omega (arith, below, differs)

  pub first_or_none : ((cell : Position) × IsFirstCell sizes Such cell) ⊎ IsNowhere sizes Such
  first_or_none = go (below_or_none (cell_count sizes))
    where
      go : ((k : ℕ) × (k < cell_count sizes) × Such (cell_at sizes k) × ((j : ℕ) → j < k → ¬ Such (cell_at sizes j)))
          ⊎ ((k : ℕ) → k < cell_count sizes → ¬ Such (cell_at sizes k))
          → ((cell : Position) × IsFirstCell sizes Such cell) ⊎ IsNowhere sizes Such
      go (inl (k, below, such, none)) = inl (
        cell_at sizes k,
        record {
          inside = (there sizes k below).0;
          such = such;
          first = λ other in_it before is.
              let place : place_of sizes (cell_at sizes k) ≡ k = (there sizes k below).1 in
              none (place_of sizes other) (omega (arith, before, place)) (subst Such (sym (cell_at-place sizes other in_it)) is);
        },
      )
      go (inr none) = inr (λ cell in_it is. none (place_of sizes cell) (place-lt sizes cell in_it) (subst Such (sym (cell_at-place sizes cell in_it)) is))

-- a test has an answer
pub true_or_false : (b : Bool) → IsTrue b ⊎ IsFalse b
true_or_false true = inl refl
true_or_false false = inr refl

true_or_not : (b : Bool) → IsTrue b ⊎ (¬ IsTrue b)
true_or_not b = go (true_or_false b)
  where
    go : IsTrue b ⊎ IsFalse b → IsTrue b ⊎ (¬ IsTrue b)
    go (inl is) = inl is
    go (inr other) = inr (λ is. not_both b is other)

in_or_out : (cell : Position) (range : Corners) → IsIn cell range ⊎ (¬ IsIn cell range)
in_or_out cell range =
    go (cases_lt cell.row range.head.row) (cases_lt range.tail.row cell.row) (cases_lt cell.col range.head.col)
    (cases_lt range.tail.col cell.col)
  where
    go : (cell.row < range.head.row) ⊎ (range.head.row ≤ cell.row) → (range.tail.row < cell.row)
        ⊎ (cell.row ≤ range.tail.row) → (cell.col < range.head.col) ⊎ (range.head.col ≤ cell.col)
        → (range.tail.col < cell.col) ⊎ (cell.col ≤ range.tail.col) → IsIn cell range ⊎ (¬ IsIn cell range)
    go (inl a) b c d = inr (λ is. let h = is.row_from in absurd (omega (arith, a, h)))
    go (inr a) (inl b) c d = inr (λ is. let h = is.row_to in absurd (omega (arith, b, h)))
    go (inr a) (inr b) (inl c) d = inr (λ is. let h = is.col_from in absurd (omega (arith, c, h)))
    go (inr a) (inr b) (inr c) (inl d) = inr (λ is. let h = is.col_to in absurd (omega (arith, d, h)))
    go (inr a) (inr b) (inr c) (inr d) = inl (record { row_from = a; row_to = b; col_from = c; col_to = d })

-- some cell of a range is marked, or none is
-- some cell of a range is marked, or of one of some ranges
abbrev HasMark : Sizes → List ℕ → Corners → Type 0
HasMark sizes marks range = (cell : Position) × IsIn cell range × IsTrue (is_marked sizes marks cell)

abbrev SomeHasMark : Sizes → List ℕ → List Corners → Type 0
SomeHasMark sizes marks ranges = (range : Corners) × Contains ranges range × HasMark sizes marks range

module _ (sizes : Sizes) (marks : List ℕ) where
  abbrev MarkedIn : Corners → Position → Type 0
  MarkedIn range cell = IsIn cell range × IsTrue (is_marked sizes marks cell)

  marked_in : (range : Corners) (cell : Position) → MarkedIn range cell ⊎ (¬ MarkedIn range cell)
  marked_in range cell = go (in_or_out cell range) (true_or_not (is_marked sizes marks cell))
    where
      go : IsIn cell range ⊎ (¬ IsIn cell range) → IsTrue (is_marked sizes marks cell)
          ⊎ (¬ IsTrue (is_marked sizes marks cell)) → MarkedIn range cell ⊎ (¬ MarkedIn range cell)
      go (inl is) (inl marked) = inl (is, marked)
      go (inl is) (inr not) = inr (λ both. not both.1)
      go (inr out) m = inr (λ both. out both.0)

  has_or_none : (range : Corners) → HasMark sizes marks range ⊎ HasNoMark sizes marks range
  has_or_none range = go (first_or_none sizes (MarkedIn range) (marked_in range))
    where
      go : ((cell : Position) × IsFirstCell sizes (MarkedIn range) cell) ⊎ IsNowhere sizes (MarkedIn range)
          → HasMark sizes marks range ⊎ HasNoMark sizes marks range
      go (inl (cell, first)) = inl (cell, first.such.0, first.such.1)
      go (inr nowhere) = inr (λ cell is. at cell is (true_or_false (is_inside sizes cell)) (true_or_false (is_marked sizes marks cell)))
        where
          at : (cell : Position) → IsIn cell range → IsTrue (is_inside sizes cell) ⊎ IsFalse (is_inside sizes cell)
              → IsTrue (is_marked sizes marks cell) ⊎ IsFalse (is_marked sizes marks cell)
              → IsFalse (is_marked sizes marks cell)
          at cell is (inl inside) (inl marked) = absurd (nowhere cell inside (is, marked))
          at cell is (inl inside) (inr unmarked) = unmarked
          at cell is (inr outside) m = outside_unmarked sizes marks cell outside

  some_or_none : (ranges : List Corners) → SomeHasMark sizes marks ranges ⊎ NoneHasMark sizes marks ranges
  some_or_none [] = inr (λ range listed. absurd (omega (arith, listed)))
  some_or_none (first ∷ ranges) = go (has_or_none first) (some_or_none ranges)
    where
      go : HasMark sizes marks first ⊎ HasNoMark sizes marks first → SomeHasMark sizes marks ranges
          ⊎ NoneHasMark sizes marks ranges → SomeHasMark sizes marks (first ∷ ranges)
          ⊎ NoneHasMark sizes marks (first ∷ ranges)
      go (inl has) rest = inl (first, (0, omega arith, refl), has)
      go (inr none) (inl (range, (k, below, at), has)) = inl (range, (suc k, omega (arith, below), at), has)
      go (inr none) (inr others) = inr each
        where
          each : NoneHasMark sizes marks (first ∷ ranges)
          each range (zero, below, at) = subst (HasNoMark sizes marks) at none
          each range (suc k, below, at) = others range (k, omega (arith, below), at)

-- a cell is ready, or isn't
ready_or_not : (sheet : SheetValue) (marks : List ℕ) (cell : Position) → IsReady sheet marks cell ⊎ (¬ IsReady sheet marks cell)
ready_or_not sheet marks cell = go (true_or_not (is_marked sheet.sizes marks cell)) (some_or_none sheet.sizes marks (ranges_in (content_of sheet cell)))
  where
    go : IsTrue (is_marked sheet.sizes marks cell) ⊎ (¬ IsTrue (is_marked sheet.sizes marks cell))
        → SomeHasMark sheet.sizes marks (ranges_in (content_of sheet cell))
        ⊎ NoneHasMark sheet.sizes marks (ranges_in (content_of sheet cell)) → IsReady sheet marks cell
        ⊎ (¬ IsReady sheet marks cell)
    go (inr not) some = inr (λ ready. not ready.marked)
    go (inl marked) (inl (range, listed, has)) =
        inr (λ ready. not_both (is_marked sheet.sizes marks has.0) has.2
        (ready.inputs has.0 (record {
          pair = record { range = range; cell = cell };
          of_sheet = listed;
          inside = has.1;
          cell_is = refl;
        })))
    go (inl marked) (inr none) = inl (record {
      marked = marked;
      inputs =
          λ input step. none step.pair.range
          (subst (λ (c : Position). Contains (ranges_in (content_of sheet c)) step.pair.range) step.cell_is
          step.of_sheet) input step.inside;
    })

abbrev one_of : Bool → ℕ
one_of b = cond b 1 0

-- it falls by one where a marked cell is cleared
pub cleared_count : (sizes : Sizes) (marks : List ℕ) (cell : Position) → length marks ≡ cell_count sizes
    → IsTrue (is_inside sizes cell) → IsTrue (is_marked sizes marks cell)
    → marked_count (without_mark sizes marks cell) + 1 ≡ marked_count marks
cleared_count sizes marks cell count inside marked =
    let place = place_of sizes cell in
    let below : place < length marks = (let h = place-lt sizes cell inside in omega (arith, h, count)) in
    let at = slice_get-get_or marks place 0 below in
    let yes : nat_lt 0 (get_or marks place 0) ≡ true = ap (nat_lt 0) (sym (mark_inside sizes marks cell inside)) ∙ marked in
    let counted = count_by-set (nat_lt 0) marks place (get_or marks place 0) 0 at in
    let one : one_of (nat_lt 0 (get_or marks place 0)) ≡ 1 = ap one_of yes in
    omega (arith, counted, one)

-- a turn can be made: it clears a marked cell, or none is marked
record Turned (sheet : SheetValue) (old : List ℕ) : Type 0 where
  new : List ℕ
  turn : IsTurn sheet old new
  count : length new ≡ length old
  falls : ((cell : Position) × IsTrue (is_inside sheet.sizes cell) × IsMarked sheet.sizes old cell
      × (marked_count new + 1 ≡ marked_count old)) ⊎ (IsNowhere sheet.sizes (IsMarked sheet.sizes old) × (new ≡ old))

turn_exists : (sheet : SheetValue) (old : List ℕ) → length old ≡ cell_count sheet.sizes → Turned sheet old
turn_exists sheet old count =
    go (first_or_none sheet.sizes (IsMarked sheet.sizes old) (λ cell. true_or_not (is_marked sheet.sizes old cell)))
    (first_or_none sheet.sizes (IsReady sheet old) (ready_or_not sheet old))
  where
    clear : (cell : Position) → IsTrue (is_inside sheet.sizes cell) → IsMarked sheet.sizes old cell
        → IsTurn sheet old (without_mark sheet.sizes old cell) → Turned sheet old
    clear cell inside marked turn = record {
      new = without_mark sheet.sizes old cell;
      turn = turn;
      count = length-set old (place_of sheet.sizes cell) 0;
      falls = inl (cell, inside, marked, cleared_count sheet.sizes old cell count inside marked);
    }

    go : ((cell : Position) × IsFirstCell sheet.sizes (IsMarked sheet.sizes old) cell)
        ⊎ IsNowhere sheet.sizes (IsMarked sheet.sizes old)
        → ((cell : Position) × IsFirstCell sheet.sizes (IsReady sheet old) cell)
        ⊎ IsNowhere sheet.sizes (IsReady sheet old) → Turned sheet old
    go (inr nowhere) ready = record { new = old; turn = clears_nothing nowhere refl; count = refl; falls = inr (nowhere, refl) }
    go (inl (cell, first)) (inl (chosen, is)) = clear chosen is.inside is.such.marked (clears_ready chosen is refl)
    go (inl (cell, first)) (inr none) = clear cell first.inside first.such (clears_marked cell none first refl)

-- so many turns can be made: each clears a marked cell, or none is marked in the end
record HasTurned (sheet : SheetValue) (count : ℕ) (old : List ℕ) : Type 0 where
  new : List ℕ
  turns : AreTurns sheet count old new
  length_is : length new ≡ length old
  falls : (marked_count new + count ≤ marked_count old) ⊎ IsNowhere sheet.sizes (IsMarked sheet.sizes new)

turns_exist : (sheet : SheetValue) (count : ℕ) (old : List ℕ) → length old ≡ cell_count sheet.sizes → HasTurned sheet count old
turns_exist sheet zero old filled = record { new = old; turns = no_turns old; length_is = refl; falls = inl (omega arith) }
turns_exist sheet (suc count) old filled = more (turns_exist sheet count old filled)
  where
    more : HasTurned sheet count old → HasTurned sheet (suc count) old
    more before = on (turn_exists sheet before.new (before.length_is ∙ filled))
      where
        on : Turned sheet before.new → HasTurned sheet (suc count) old
        on next = record {
          new = next.new;
          turns = more_turns count (suc count) old before.new next.new before.turns next.turn refl;
          length_is = next.count ∙ before.length_is;
          falls = fall before.falls next.falls;
        }
          where
            fall : (marked_count before.new + count ≤ marked_count old)
                ⊎ IsNowhere sheet.sizes (IsMarked sheet.sizes before.new)
                → ((cell : Position) × IsTrue (is_inside sheet.sizes cell) × IsMarked sheet.sizes before.new cell
                × (marked_count next.new + 1 ≡ marked_count before.new))
                ⊎ (IsNowhere sheet.sizes (IsMarked sheet.sizes before.new) × (next.new ≡ before.new))
                → (marked_count next.new + suc count ≤ marked_count old)
                ⊎ IsNowhere sheet.sizes (IsMarked sheet.sizes next.new)
            fall (inl less) (inl (cell, inside, marked, one)) = inl (omega (arith, less, one))
            fall (inr nowhere) (inl (cell, inside, marked, one)) = absurd (nowhere cell inside marked)
            fall from (inr (nowhere, same)) = inr (subst (λ ms. IsNowhere sheet.sizes (IsMarked sheet.sizes ms)) (sym same) nowhere)

-- marks none of which is one
pub zero_marks : (sizes : Sizes) (marks : List ℕ) → length marks ≡ cell_count sizes
    → IsNowhere sizes (IsMarked sizes marks) → marks ≡ replicate (length marks) 0
zero_marks sizes marks filled nowhere = same_number_lists marks (replicate (length marks) 0) (sym (length-replicate (length marks) 0)) at
  where
    at : (k : ℕ) → k < length marks → get_or marks k 0 ≡ get_or (replicate (length marks) 0) k 0
    at k below =
        let place = there sizes k (omega (arith, below, filled)) in
        let none : mark_of sizes marks (cell_at sizes k) ≡ 0 = unmarked (mark_of sizes marks (cell_at sizes k)) (nowhere (cell_at sizes k) place.0) in
        ap (λ n. get_or marks n 0) (sym place.1) ∙ sym (mark_inside sizes marks (cell_at sizes k) place.0) ∙ none
        ∙ sym (get_or-replicate (length marks) k 0 0 below)
      where
        unmarked : (mark : ℕ) → ¬ IsTrue (nat_lt 0 mark) → mark ≡ 0
        unmarked zero not = refl
        unmarked (suc n) not = absurd (not (marked_from (suc n) (λ none. absurd (omega (arith, none)))))

abbrev zeros : ℕ → List ℕ
zeros n = replicate n 0

pub none_marked : (sizes : Sizes) (count : ℕ) → IsNowhere sizes (IsMarked sizes (replicate count 0))
none_marked sizes count cell inside =
    not_marked (mark_of sizes (replicate count 0) cell) (mark_inside sizes (replicate count 0) cell inside
    ∙ nothing (place_of sizes cell) count)
  where
    nothing : (k n : ℕ) → get_or (zeros n) k 0 ≡ 0
    nothing k n = go (cases_lt k n)
      where
        go : (k < n) ⊎ (n ≤ k) → get_or (zeros n) k 0 ≡ 0
        go (inl below) = get_or-replicate n k 0 0 below
        go (inr past) = get_or-past k n past
          where
            get_or-past : (k n : ℕ) → n ≤ k → get_or (zeros n) k 0 ≡ 0
            get_or-past k zero past = refl
            get_or-past zero (suc n) past = refl
            get_or-past (suc k) (suc n) past = get_or-past k n (omega (arith, past))

    not_marked : (mark : ℕ) → mark ≡ 0 → ¬ IsTrue (nat_lt 0 mark)
    not_marked mark none is = not_both (nat_lt 0 mark) is (unmarked_from mark none)

-- as many turns as there are marks clear all of them
pub turns_clear : (sheet : SheetValue) (turns : ℕ) (marks : List ℕ) → length marks ≡ cell_count sheet.sizes
    → marked_count marks ≤ turns → AreTurns sheet turns marks (replicate (length marks) 0)
turns_clear sheet turns marks filled enough =
    let made = turns_exist sheet turns marks filled in
    subst (AreTurns sheet turns marks) (zero_marks sheet.sizes made.new (made.length_is
    ∙ filled) (nowhere made made.falls) ∙ ap (λ n. replicate n 0) made.length_is) made.turns
  where
    nowhere : (made : HasTurned sheet turns marks) → (marked_count made.new + turns ≤ marked_count marks)
        ⊎ IsNowhere sheet.sizes (IsMarked sheet.sizes made.new) → IsNowhere sheet.sizes (IsMarked sheet.sizes made.new)
    nowhere made (inr none) = none
    nowhere made (inl less) = λ cell inside marked.
        let one = cleared_count sheet.sizes made.new cell (made.length_is ∙ filled) inside marked in
        absurd (omega (arith, less, one, enough))

-- there are as many marks after a turn as before it
pub turn_length : (sheet : SheetValue) (old new : List ℕ) → IsTurn sheet old new → length new ≡ length old
turn_length sheet old new (clears_ready cell first is) = ap length is ∙ length-set old (place_of sheet.sizes cell) 0
turn_length sheet old new (clears_marked cell none first is) = ap length is ∙ length-set old (place_of sheet.sizes cell) 0
turn_length sheet old new (clears_nothing none is) = ap length is

pub turns_length : (sheet : SheetValue) (count : ℕ) (old new : List ℕ) → AreTurns sheet count old new → length new ≡ length old
turns_length sheet _ old _ (no_turns marks) = refl
turns_length sheet _ old _ (more_turns count next start mid new before turn is) = turn_length sheet mid new turn ∙ turns_length sheet count start mid before
