-- The text of a row, cell by cell, and of a window, row by row.
use Rattle.std.proofs.Common.{◌≡◌, ℕ, suc, ◌+◌, ◌-◌, ◌<◌, ◌≤◌, List, [], ◌∷◌, ◌++◌, map, refl, sym, ◌∙◌, ap, arith, append_assoc}
use Rattle.std.specs.List.{join_with_byte, range_with_len, flat_map}
use Rattle.std.specs.Prelude.{Option, Some, IfSome}
use Rattle.std.proofs.lemmas.Option.{MatchOption-at_some}
use Rattle.std.proofs.lemmas.List.{append-nil}
use Rattle.sheet_refs.specs.Cells.{Position, Corners, width}
use Rattle.window_text.specs.Texts.{row_text}

-- the texts of the cells of a row from a column on, each with a comma before it, and the line's end
abbrev pub row_rest : (Position → List ℕ) → Corners → ℕ → ℕ → List ℕ
row_rest shown window row col =
    flat_map (λ c. 44 ∷ shown (record { row = row; col = c })) (range_with_len col (window.tail.col + 1 - col)) ++ 10 ∷ []

join_flat : (first : List ℕ) (others : List (List ℕ)) → join_with_byte 44 (first ∷ others) ≡ first ++ flat_map (λ t. 44 ∷ t) others
join_flat first [] = sym (append-nil first)
join_flat first (x ∷ xs) = ap (λ t. first ++ (44 ∷ t)) (join_flat x xs)

flat_twice : {A B : Type 0} (f : A → B) (g : B → List ℕ) (xs : List A) → flat_map g (map f xs) ≡ flat_map (λ x. g (f x)) xs
flat_twice f g [] = refl
flat_twice f g (x ∷ xs) = ap (λ t. g (f x) ++ t) (flat_twice f g xs)

map_twice : {A B C : Type 0} (f : A → B) (g : B → C) (xs : List A) → map g (map f xs) ≡ map (λ x. g (f x)) xs
map_twice f g [] = refl
map_twice f g (x ∷ xs) = ap (λ ys. g (f x) ∷ ys) (map_twice f g xs)

-- a row begins with the text of its first cell
pub row_begins : (shown : Position → List ℕ) (window : Corners) (row : ℕ) → window.head.col ≤ window.tail.col
    → row_text shown window row ≡ shown (record { row = row; col = window.head.col })
    ++ row_rest shown window row (window.head.col + 1)
row_begins shown window row ordered =
    let count : width window ≡ suc (window.tail.col + 1 - (window.head.col + 1)) = omega (arith, ordered) in
    let at = λ (c : ℕ). shown (record { row = row; col = c }) in
    let others = range_with_len (window.head.col + 1) (window.tail.col + 1 - (window.head.col + 1)) in
    ap (λ ts. join_with_byte 44 ts ++ 10 ∷ []) (map_twice (λ c. record { row = row; col = c }) shown (range_with_len window.head.col (width window))
    ∙ ap (λ n. map at (range_with_len window.head.col n)) count)
    ∙ (ap (λ t. t ++ 10 ∷ []) (join_flat (at window.head.col) (map at others) ∙ ap (λ t. at window.head.col ++ t) (flat_twice at (λ t. 44 ∷ t) others))
    ∙ append_assoc (at window.head.col) (flat_map (λ c. 44 ∷ at c) others) (10 ∷ []))

-- and goes on with a comma and the text of the next one
pub row_goes_on : (shown : Position → List ℕ) (window : Corners) (row col : ℕ) → col ≤ window.tail.col
    → row_rest shown window row col ≡ (44 ∷ []) ++ (shown (record { row = row; col = col })
    ++ row_rest shown window row (col + 1))
row_goes_on shown window row col within =
    let count : window.tail.col + 1 - col ≡ suc (window.tail.col + 1 - (col + 1)) = omega (arith, within) in
    let at = λ (c : ℕ). 44 ∷ shown (record { row = row; col = c }) in
    ap (λ n. flat_map at (range_with_len col n) ++ 10 ∷ []) count
    ∙ append_assoc (at col) (flat_map at (range_with_len (col + 1) (window.tail.col + 1 - (col + 1)))) (10 ∷ [])

-- until no cell is left
pub row_ends : (shown : Position → List ℕ) (window : Corners) (row col : ℕ) → window.tail.col < col → row_rest shown window row col ≡ 10 ∷ []
row_ends shown window row col past =
    let count : window.tail.col + 1 - col ≡ 0 = omega (arith, past) in
    ap (λ n. flat_map (λ c. 44 ∷ shown (record { row = row; col = c })) (range_with_len col n) ++ 10 ∷ []) count

-- the rows of a window from a row on
abbrev pub rows_rest : (Position → List ℕ) → Corners → ℕ → List ℕ
rows_rest shown window row = flat_map (row_text shown window) (range_with_len row (window.tail.row + 1 - row))

pub rows_go_on : (shown : Position → List ℕ) (window : Corners) (row : ℕ) → row ≤ window.tail.row
    → rows_rest shown window row ≡ row_text shown window row ++ rows_rest shown window (row + 1)
rows_go_on shown window row within =
    let count : window.tail.row + 1 - row ≡ suc (window.tail.row + 1 - (row + 1)) = omega (arith, within) in
    ap (λ n. flat_map (row_text shown window) (range_with_len row n)) count

pub rows_end : (shown : Position → List ℕ) (window : Corners) (row : ℕ) → window.tail.row < row → rows_rest shown window row ≡ []
rows_end shown window row past =
    let count : window.tail.row + 1 - row ≡ 0 = omega (arith, past) in
    ap (λ n. flat_map (row_text shown window) (range_with_len row n)) count

-- a cell that was made of a row and a column
pub cell_made : (made : Option Position) (cell : Position) (row col : ℕ)
    → IfSome made (λ c. (c.row ≡ row) × (c.col ≡ col)) → made ≡ Some cell → cell ≡ record { row = row; col = col }
cell_made made cell row col position is =
    let parts = MatchOption-at_some _ _ cell is position in
    λ i. record { row = parts.0 i; col = parts.1 i }
