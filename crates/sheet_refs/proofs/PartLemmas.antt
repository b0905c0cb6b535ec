-- What a range adds to a set, column after column: strips of rows that neighbouring columns lack.
use Rattle.std.proofs.Common.{◌≡◌, ℕ, ◌+◌, ◌<◌, ◌≤◌, ◌↔◌, ◌⊎◌, inl, inr, List, [], ◌∷◌, ◌++◌, length, get_or, map, subst, arith}
use Rattle.std.proofs.lemmas.Bool.{cases_lt}
use Rattle.std.proofs.lemmas.List.{get_or-map, length-map}
use Rattle.std.specs.List.{AllPairs}
use Rattle.sheet_refs.specs.Cells.{Position, Corners, IsIn}
use Rattle.sheet_refs.specs.Bands.{LackRows, all_ranges}
use Rattle.sheet_refs.specs.Rectangles.{IsAmong, IsNew, AreDisjoint, Tile}
use Rattle.sheet_refs.specs.Runs.{HasRow, AreGaps, strip}
use Rattle.sheet_refs.proofs.ColumnLemmas.{among_cons, none_among}
use Rattle.sheet_refs.proofs.BandLemmas.{among_all}
use Rattle.sheet_refs.proofs.Tiles.{tile_append, tile_same}

-- the new cells of a range that stand to the left of a column
pub record IsNewBefore (set : List Corners) (range : Corners) (col : ℕ) (cell : Position) : Type 0 where
  pub new : IsNew set range cell
  pub before : cell.col < col

-- the cells of runs of rows, from a left to a right column
pub record IsInStrips (left right : ℕ) (gaps : List (ℕ × ℕ)) (cell : Position) : Type 0 where
  pub from : left ≤ cell.col
  pub to : cell.col ≤ right
  pub row : HasRow gaps cell.row

among_strips : (left right : ℕ) (gaps : List (ℕ × ℕ)) (cell : Position) → IsAmong (map (strip left right) gaps) cell ↔ IsInStrips left right gaps cell
among_strips left right [] cell = (λ among. absurd (none_among cell among), λ inside. absurd inside.row)
among_strips left right (g ∷ gaps) cell =
    let both = among_cons (strip left right g) (map (strip left right) gaps) cell in
    let rest = among_strips left right gaps cell in (
      λ among. elim (both.0 among) [
        | inl here ↦ record { from = here.col_from; to = here.col_to; row = inl (here.row_from, here.row_to) }
        | inr later ↦ let inside = rest.0 later in record { from = inside.from; to = inside.to; row = inr inside.row }
      ],
      λ inside. elim inside.row [
        | inl here ↦ both.1 (inl (record { row_from = here.0; row_to = here.1; col_from = inside.from; col_to = inside.to }))
        | inr later ↦ both.1 (inr (rest.1 (record { from = inside.from; to = inside.to; row = later })))
      ],
    )

strips_disjoint : (left right : ℕ) (gaps : List (ℕ × ℕ)) → AllPairs (λ a b. a.1 < b.0) gaps → AreDisjoint (map (strip left right) gaps)
strips_disjoint left right gaps in_order i j d before within (cell, shared) =
    let pair : ℕ × ℕ = (0, 0) in
    let inside : j < length gaps = omega (arith, within, length-map gaps (strip left right)) in
    let first : IsIn cell (strip left right (get_or gaps i pair)) = rw (get_or-map (strip left right) gaps i pair d (omega arith)) at shared.first in
    let second : IsIn cell (strip left right (get_or gaps j pair)) = rw (get_or-map (strip left right) gaps j pair d inside) at shared.second in
    let apart : (get_or gaps i pair).1 < (get_or gaps j pair).0 = in_order i j pair before inside in
    omega (arith, apart, first.row_to, second.row_from)

strips_tiled : (held : ℕ → Type 0) (left right first end : ℕ) (gaps : List (ℕ × ℕ)) → AreGaps held first end gaps
    → Tile (map (strip left right) gaps) (IsInStrips left right gaps)
strips_tiled held left right first end gaps known = record { disjoint = strips_disjoint left right gaps known.in_order; exact = among_strips left right gaps }

-- one more group of columns
pub parts_more : (rows : ℕ → List (ℕ × ℕ)) (set : List Corners) (range : Corners) (left right : ℕ)
    (parts : List Corners) (gaps : List (ℕ × ℕ)) → all_ranges rows ≡ set → 1 ≤ range.head.col → range.tail.col ≤ 16384
    → range.head.col ≤ left → left ≤ right → right ≤ range.tail.col → LackRows rows left (right + 1) range.head.row (range.tail.row + 1) gaps
    → Tile parts (IsNewBefore set range left) → Tile (parts ++ map (strip left right) gaps) (IsNewBefore set range (right + 1))
parts_more rows set range left right parts gaps same named below from forward to lack tiled =
    tile_append parts (map (strip left right) gaps) (IsNewBefore set range left) (IsInStrips left right gaps) (IsNewBefore set range (right + 1)) tiled
    (strips_tiled (HasRow (rows left)) left right range.head.row (range.tail.row + 1) gaps (lack left (omega arith) (omega arith)))
    (λ cell old new. omega (arith, old.before, new.from))
    (λ cell. (split cell, join cell))
  where
    among : (cell : Position) → 1 ≤ cell.col → cell.col ≤ 16384 → IsAmong set cell ↔ HasRow (rows cell.col) cell.row
    among cell cell_from cell_to =
        subst (λ (s : List Corners). IsAmong s cell ↔ HasRow (rows cell.col) cell.row) same (among_all rows cell cell_from cell_to)

    split : (cell : Position) → IsNewBefore set range (right + 1) cell → IsNewBefore set range left cell ⊎ IsInStrips left right gaps cell
    split cell new = elim (cases_lt cell.col left) [
      | inl before ↦ inl (record { new = new.new; before = before })
      | inr past ↦
          let inside : IsIn cell range = new.new.inside in
          let under : cell.col < right + 1 = new.before in
          inr (record {
            from = past;
            to = omega arith;
            row =
                ((lack cell.col past under).exact cell.row).1
                (inside.row_from, omega arith, λ has. new.new.absent ((among cell (omega arith) (omega arith)).1 has));
          })
    ]

    join : (cell : Position) → IsNewBefore set range left cell ⊎ IsInStrips left right gaps cell → IsNewBefore set range (right + 1) cell
    join cell (inl old) = let before = old.before in record { new = old.new; before = omega arith }
    join cell (inr strips) =
        let col_from : left ≤ cell.col = strips.from in
        let col_to : cell.col ≤ right = strips.to in
        let known = ((lack cell.col col_from (omega arith)).exact cell.row).0 strips.row in
        record {
          new = record {
            inside = record { row_from = known.0; row_to = omega (arith, known.1); col_from = omega arith; col_to = omega arith };
            absent = λ is. known.2 ((among cell (omega arith) (omega arith)).0 is);
          };
          before = omega arith;
        }

-- no cell of a range stands to the left of its first column
pub parts_none : (set : List Corners) (range : Corners) → Tile [] (IsNewBefore set range range.head.col)
parts_none set range = record {
  disjoint = λ i j d before within. absurd (omega arith);
  exact = λ cell. (λ among. absurd (none_among cell among), λ new. absurd (omega (arith, new.before, new.new.inside.col_from)));
}

-- every cell of a range stands to the left of the column after its last
pub parts_all : (set : List Corners) (range : Corners) (parts : List Corners) (left : ℕ) → range.tail.col < left
    → Tile parts (IsNewBefore set range left) → Tile parts (IsNew set range)
parts_all set range parts left past tiled =
    tile_same parts (IsNewBefore set range left) (IsNew set range) (λ cell. (
      λ new. new.new,
      λ new. record { new = new; before = omega (arith, new.inside.col_to) },
    )) tiled
