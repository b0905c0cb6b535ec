-- The rows of a window, cell by cell.
use Rattle.std.proofs.Common.{◌≡◌, ℕ, List, [], ◌∷◌, ◌++◌, map, refl, sym, ap, ◌∙◌, append_assoc}
use Rattle.std.specs.Prelude.{flat_map}
use Rattle.std.specs.List.{join_with_byte}
use Rattle.sheet_refs.specs.Cells.{Position, Corners, row_cells}
use Rattle.window_text.specs.Told.{ToldCell}
use Rattle.window_text.proofs.ToldSplit.{same_others}
use Rattle.window_text.proofs.ToldCells.{IsTellable, told_text, cell_told, at_comma, at_line}

-- the texts of cells, with commas between them
abbrev pub joined : (Position → ToldCell) → List Position → List ℕ
joined f cells = join_with_byte 44 (map (λ cell. told_text (f cell)) cells)

-- a row and its end
abbrev pub line_of : (Position → ToldCell) → Corners → ℕ → List ℕ
line_of h window row = joined h (row_cells window row) ++ 10 ∷ []

map_joins : {X Y : Type 0} (f : X → Y) (xs ys : List X) → map f (xs ++ ys) ≡ map f xs ++ map f ys
map_joins f [] ys = refl
map_joins f (x ∷ xs) ys = ap (λ zs. f x ∷ zs) (map_joins f xs ys)

both_lists : {X : Type 0} (xs ys us vs : List X) → xs ≡ us → ys ≡ vs → xs ++ ys ≡ us ++ vs
both_lists xs ys us vs one two = λ i. one i ++ two i

-- two windows of the same cells
module _ (f g : Position → ToldCell) (f_fits : (cell : Position) → IsTellable (f cell)) (g_fits : (cell : Position) → IsTellable (g cell)) where
  row_told : (cells : List Position) (r s : List ℕ) → joined f cells ++ 10 ∷ r ≡ joined g cells ++ 10 ∷ s → (map f cells ≡ map g cells) × (r ≡ s)
  row_told [] r s same = (refl, same_others 10 10 r s same)
  row_told (c ∷ []) r s same =
      let first = cell_told (f c) (g c) 10 10 r s (f_fits c) (g_fits c) (at_line refl) (at_line refl) same in
      (ap (λ x. x ∷ []) first.0, same_others 10 10 r s first.1)
  row_told (c ∷ d ∷ cells) r s same =
      let mine = joined f (d ∷ cells) ++ 10 ∷ r in
      let yours = joined g (d ∷ cells) ++ 10 ∷ s in
      let all : told_text (f c) ++ 44 ∷ mine ≡ told_text (g c) ++ 44 ∷ yours =
      sym (append_assoc (told_text (f c)) (44 ∷ joined f (d ∷ cells)) (10 ∷ r)) ∙ same ∙ append_assoc (told_text (g c)) (44 ∷ joined g (d ∷ cells)) (10 ∷ s) in
      let first = cell_told (f c) (g c) 44 44 mine yours (f_fits c) (g_fits c) (at_comma refl) (at_comma refl) all in
      let rest = row_told (d ∷ cells) r s (same_others 44 44 mine yours first.1) in
      (λ i. first.0 i ∷ rest.0 i, rest.1)

  pub lines_told : (window : Corners) (rows : List ℕ) (r s : List ℕ) → flat_map (line_of f window) rows ++ r ≡ flat_map (line_of g window) rows ++ s
      → (map f (flat_map (row_cells window) rows) ≡ map g (flat_map (row_cells window) rows)) × (r ≡ s)
  lines_told window [] r s same = (refl, same)
  lines_told window (row ∷ rows) r s same =
      let mine = flat_map (line_of f window) rows ++ r in
      let yours = flat_map (line_of g window) rows ++ s in
      let opened : (h : Position → ToldCell) (t : List ℕ) → (line_of h window row ++ flat_map (line_of h window) rows)
      ++ t ≡ joined h (row_cells window row) ++ 10 ∷ (flat_map (line_of h window) rows ++ t) =
      λ h t. append_assoc (line_of h window row) (flat_map (line_of h window) rows) t
      ∙ append_assoc (joined h (row_cells window row)) (10 ∷ []) (flat_map (line_of h window) rows ++ t) in
      let first = row_told (row_cells window row) mine yours (sym (opened f r) ∙ same ∙ opened g s) in
      let rest = lines_told window rows r s first.1 in
      let here = row_cells window row in
      let there = flat_map (row_cells window) rows in
      (map_joins f here there ∙ both_lists (map f here) (map f there) (map g here) (map g there) first.0 rest.0 ∙ sym (map_joins g here there), rest.1)
