-- The cells of a range other than one: how many they are, and that none of them stands twice.
use Rattle.std.proofs.Common.{◌≡◌, ◌≢◌, inl, inr, ℕ, suc, ◌+◌, ◌-◌, ◌*◌, ◌/◌, ◌%◌, ◌<◌, Bool, true, false, List, [], ◌∷◌, length, get_or}
use Rattle.std.proofs.Common.{slice_get, Some, Contains, arith, refl, sym, ap, ◌∙◌, subst}
use Rattle.std.specs.Prelude.{not, filter, AllPairs}
use Rattle.std.proofs.lemmas.Bool.Decides.{nat_tests}
use Rattle.std.proofs.lemmas.List.Kept.{AllPairs-filter}
use Rattle.std.proofs.lemmas.Option.{same_Some, slice_get-get_or, slice_get_within}
use Rattle.sheet_refs.specs.Cells.{Position, Corners, IsIn, IsOrdered, cells_of, height, width}
use Rattle.sheet_refs.specs.Sizes.{cell_of_place}
use Rattle.sheet_refs.proofs.Grid.{cells_listed, rows_length}
use Rattle.sheet_refs.proofs.Places.{range_place}
use Rattle.sheet_model.proofs.EditLemmas.{first_or_later}
use Rattle.sheet_model.proofs.ListMembers.{no_member, first_member, later_member}
use Rattle.sheet_fill.specs.Filling.{is_cell, others_of}

-- the test tells whether two cells are one
pub told_same : (a b : Position) → is_cell a b ≡ true → a ≡ b
told_same a b same =
    let rows : a.row ≡ b.row = grind (arith, nat_tests, same) in
    let cols : a.col ≡ b.col = grind (arith, nat_tests, same) in
    λ i. record { row = rows i; col = cols i }

pub same_told : (a : Position) → is_cell a a ≡ true
same_told a = grind (arith, nat_tests)

pub differ_told : (a b : Position) → b ≢ a → is_cell a b ≡ false
differ_told a b differs = go (is_cell a b) refl
  where
    go : (t : Bool) → is_cell a b ≡ t → t ≡ false
    go true same = absurd (differs (sym (told_same a b same)))
    go false same = refl

pub told_apart : (a b : Position) → is_cell a b ≡ false → b ≢ a
told_apart a b apart same = absurd (let here : is_cell a a ≡ true = same_told a in let there : is_cell a a ≡ false =
    subst (λ (p : Position). is_cell a p ≡ false) same apart in cc)

-- a number by its quotient and its rest
again : (w count k : ℕ) → k < count * w → k / w * w + k % w ≡ k
again w count k below = grind arith

-- a cell stands at one place of a range
pub one_place : (range : Corners) (i j : ℕ) (cell : Position) → slice_get (cells_of range) i ≡ Some cell → slice_get (cells_of range) j ≡ Some cell → i ≡ j
one_place range i j cell first second =
    let long : length (cells_of range) ≡ height range * width range = rows_length range range.head.row (height range) in
    let i_within = slice_get_within (cells_of range) i cell first in
    let j_within = slice_get_within (cells_of range) j cell second in
    let i_is : cell_of_place range i ≡ cell = same_Some (cell_of_place range i) cell (sym (range_place range i i_within).cell ∙ first) in
    let j_is : cell_of_place range j ≡ cell = same_Some (cell_of_place range j) cell (sym (range_place range j j_within).cell ∙ second) in
    let same : cell_of_place range i ≡ cell_of_place range j = i_is ∙ sym j_is in
    let rows : range.head.row + i / width range ≡ range.head.row + j / width range = ap (λ (p : Position). p.row) same in
    let cols : range.head.col + i % width range ≡ range.head.col + j % width range = ap (λ (p : Position). p.col) same in
    let quotients : i / width range ≡ j / width range = omega (arith, rows) in
    let rests : i % width range ≡ j % width range = omega (arith, cols) in
    let i_again = again (width range) (height range) i (omega (arith, i_within, long)) in
    let j_again = again (width range) (height range) j (omega (arith, j_within, long)) in
    let products : i / width range * width range ≡ j / width range * width range = ap (λ n. n * width range) quotients in
    omega (arith, i_again, j_again, products, rests)

pub cells_differ : (range : Corners) → AllPairs (λ a b. a ≢ b) (cells_of range)
cells_differ range i j d before within same =
    let first = slice_get-get_or (cells_of range) i d (omega (arith, before, within)) in
    let second = slice_get-get_or (cells_of range) j d within in
    let places = one_place range i j (get_or (cells_of range) j d) (first ∙ ap Some same) second in
    omega (arith, places, before)

pub others_differ : (from : Position) (range : Corners) → AllPairs (λ a b. a ≢ b) (others_of from range)
others_differ from range = AllPairs-filter (λ a b. a ≢ b) (λ cell. not (is_cell from cell)) (cells_of range) (cells_differ range)

-- what is left of a list without one of its elements
abbrev without : Position → List Position → List Position
without from cells = filter (λ cell. not (is_cell from cell)) cells

pub left_all : (from : Position) (cells : List Position) → ¬ Contains cells from → without from cells ≡ cells
left_all from [] absent = refl
left_all from (cell ∷ cells) absent =
    let apart : is_cell from cell ≡ false = differ_told from cell (λ same. absent (subst (Contains (cell ∷ cells)) same (first_member cell cells))) in
    rw apart (ap (λ cs. cell ∷ cs) (left_all from cells (λ there. absent (later_member cell from cells there))))

pub left_but_one : (from : Position) (cells : List Position) → AllPairs (λ a b. a ≢ b) cells → Contains cells from
    → length (without from cells) + 1 ≡ length cells
left_but_one from [] distinct there = absurd (no_member from there)
left_but_one from (cell ∷ cells) distinct there =
    go (is_cell from cell) refl (left_but_one from cells
    (λ i j d before within. distinct (suc i) (suc j) d (omega (arith, before)) (omega (arith, within))))
  where
    go : (t : Bool) → is_cell from cell ≡ t → (Contains cells from → length (without from cells) + 1 ≡ length cells)
        → length (without from (cell ∷ cells)) + 1 ≡ length (cell ∷ cells)
    go true same fewer =
        let is : from ≡ cell = told_same from cell same in
        let absent : ¬ Contains cells from = λ (k, within, at). distinct 0 (suc k) from (omega arith) (omega (arith, within)) (sym is ∙ sym at) in
        let left : length (without from cells) ≡ length cells = ap length (left_all from cells absent) in
        rw same (omega (arith, left))
    go false apart fewer =
        let later : Contains cells from = elim (first_or_later from cell cells there) [
          | inl is ↦ absurd (told_apart from cell apart is)
          | inr later ↦ later
        ] in
        let count = fewer later in
        rw apart (omega (arith, count))

-- which cells are left
pub left_from : (from cell : Position) (cells : List Position) → Contains (without from cells) cell → Contains cells cell × (cell ≢ from)
left_from from cell [] there = absurd (no_member cell there)
left_from from cell (first ∷ cells) there = go (is_cell from first) refl (left_from from cell cells)
  where
    go : (t : Bool) → is_cell from first ≡ t → (Contains (without from cells) cell → Contains cells cell × (cell ≢ from)) → Contains (first ∷ cells) cell
        × (cell ≢ from)
    go true same rest_from =
        let rest = rest_from (rw same at there) in
        (later_member first cell cells rest.0, rest.1)
    go false apart rest_from = elim (first_or_later cell first (without from cells) (rw apart at there)) [
      | inl is ↦ (subst (Contains (first ∷ cells)) is (first_member first cells), subst (λ (c : Position). c ≢ from) is (told_apart from first apart))
      | inr later ↦ (let rest = rest_from later in (later_member first cell cells rest.0, rest.1))
    ]

pub left_to : (from cell : Position) (cells : List Position) → Contains cells cell → cell ≢ from → Contains (without from cells) cell
left_to from cell [] there differs = absurd (no_member cell there)
left_to from cell (first ∷ cells) there differs = go (is_cell from first) refl (λ later. left_to from cell cells later differs)
  where
    go : (t : Bool) → is_cell from first ≡ t → (Contains cells cell → Contains (without from cells) cell) → Contains (without from (first ∷ cells)) cell
    go true same rest_to = elim (first_or_later cell first cells there) [
      | inl is ↦ absurd (differs (sym is ∙ sym (told_same from first same)))
      | inr later ↦ rw same (rest_to later)
    ]
    go false apart rest_to = elim (first_or_later cell first cells there) [
      | inl is ↦ rw apart (subst (Contains (first ∷ without from cells)) is (first_member first (without from cells)))
      | inr later ↦ rw apart (later_member first cell (without from cells) (rest_to later))
    ]

-- how many there are
pub count_inside : (from : Position) (range : Corners) (count : ℕ) → Contains (cells_of range) from → count ≡ length (cells_of range)
    → count - 1 ≡ length (others_of from range)
count_inside from range count there is = let left = left_but_one from (cells_of range) (cells_differ range) there in omega (arith, left, is)

pub count_outside : (from : Position) (range : Corners) (count : ℕ) → ¬ Contains (cells_of range) from → count ≡ length (cells_of range)
    → count ≡ length (others_of from range)
count_outside from range count absent is = is ∙ sym (ap length (left_all from (cells_of range) absent))

-- where there are none, the range is that cell
pub none_is_one : (from : Position) (range : Corners) → IsOrdered range.head range.tail → length (others_of from range) ≡ 0 → (range.head ≡ from)
    × (range.tail ≡ from)
none_is_one from range is none = (
  all range.head (record { row_from = omega arith; row_to = is.rows; col_from = omega arith; col_to = is.cols }),
  all range.tail (record { row_from = is.rows; row_to = omega arith; col_from = is.cols; col_to = omega arith }),
)
  where
    all : (cell : Position) → IsIn cell range → cell ≡ from
    all cell inside = go (is_cell from cell) refl
      where
        go : (t : Bool) → is_cell from cell ≡ t → cell ≡ from
        go true same = sym (told_same from cell same)
        go false apart =
            let there = left_to from cell (cells_of range) ((cells_listed range is cell).1 inside) (told_apart from cell apart) in
            absurd (let within = there.1 in omega (arith, within, none))
