-- The fields of records to which a field or an empty record is added.
use Rattle.std.proofs.Common.{◌≡◌, ◌≢◌, ℕ, zero, suc, ◌+◌, ◌*◌, ◌<◌, ◌≤◌, List, [], ◌∷◌, ◌++◌, length, get_or, inl, inr}
use Rattle.std.proofs.Common.{sym, ◌∙◌, ap, arith, length-append, append_assoc}
use Rattle.std.specs.Prelude.{max, fold}
use Rattle.std.proofs.lemmas.List.Sums.{fold-append}
use Rattle.std.proofs.Math.ListN.{get_or-append}
use Rattle.std.proofs.Math.Seq.{get_or-append_seam}
use Rattle.std.proofs.lemmas.Bool.{cases_order}
use Rattle.std.proofs.lemmas.Grind.{flat_map-append}
use Rattle.std.proofs.lemmas.List.{get_or_past, append-nil}
use Rattle.std.proofs.lemmas.Nat.{rows as row_places}
use Rattle.csv_sheet.specs.Records.{Rows, fields_at, field_at, all_fields, longest}
use Rattle.csv_sheet.proofs.RowLemmas.{old_fields, new_fields, no_fields, longest-more}

pub all_more : (rows : Rows) (more : List (List ℕ)) → all_fields (rows ++ more ∷ []) ≡ all_fields rows ++ more
all_more rows more = flat_map-append (λ (fields : List (List ℕ)). fields) rows (more ∷ []) ∙ ap (λ t. all_fields rows ++ t) (append-nil more)

pub all_longer : (rows : Rows) (fields : List (List ℕ)) (field : List ℕ) → all_fields (rows ++ (fields ++ field ∷ [])
    ∷ []) ≡ all_fields (rows ++ fields ∷ []) ++ field ∷ []
all_longer rows fields field =
    all_more rows (fields ++ field ∷ []) ∙ sym (append_assoc (all_fields rows) fields (field ∷ [])) ∙ ap (λ t. t ++ field ∷ []) (sym (all_more rows fields))

-- the field that was added
pub field_new : (rows : Rows) (fields : List (List ℕ)) (field : List ℕ) → field_at (rows ++ (fields ++ field ∷ []) ∷ []) (length rows) (length fields) ≡ field
field_new rows fields field = ap (λ fs. get_or fs (length fields) []) (new_fields rows (fields ++ field ∷ [])) ∙ get_or-append_seam fields field [] []

same_in_row : (fields : List (List ℕ)) (field : List ℕ) (col : ℕ) → col ≢ length fields → get_or (fields ++ field ∷ []) col [] ≡ get_or fields col []
same_in_row fields field col apart = elim (cases_order col (length fields)) [
  | inl at ↦ absurd (apart at)
  | inr other ↦ elim other [
    | inl before ↦ get_or-append fields (field ∷ []) [] col before
    | inr past ↦ get_or_past (fields ++ field ∷ []) col [] (let e = length-append fields (field ∷ []) in
        omega (arith, e, past)) ∙ sym (get_or_past fields col [] (omega (arith, past)))
  ]
]

-- and every other one
pub field_same : (rows : Rows) (fields : List (List ℕ)) (field : List ℕ) (row col : ℕ) → (row ≡ length rows → col ≢ length fields)
    → field_at (rows ++ (fields ++ field ∷ []) ∷ []) row col ≡ field_at (rows ++ fields ∷ []) row col
field_same rows fields field row col apart = elim (cases_order row (length rows)) [
  | inl at ↦
      ap (λ r. field_at (rows ++ (fields ++ field ∷ []) ∷ []) r col) at ∙ ap (λ fs. get_or fs col []) (new_fields rows (fields ++ field ∷ []))
      ∙ same_in_row fields field col (apart at)
      ∙ sym (ap (λ r. field_at (rows ++ fields ∷ []) r col) at ∙ ap (λ fs. get_or fs col []) (new_fields rows fields))
  | inr other ↦ elim other [
    | inl before ↦ ap (λ fs. get_or fs col []) (old_fields rows (fields ++ field ∷ []) row before ∙ sym (old_fields rows fields row before))
    | inr past ↦ ap (λ fs. get_or fs col []) (no_fields rows (fields ++ field ∷ []) row past ∙ sym (no_fields rows fields row past))
  ]
]

-- an empty record adds no field
pub field_nothing : (rows : Rows) (row col : ℕ) → field_at (rows ++ [] ∷ []) row col ≡ field_at rows row col
field_nothing rows row col = elim (cases_order row (length rows)) [
  | inl at ↦
      ap (λ r. field_at (rows ++ [] ∷ []) r col) at ∙ ap (λ fs. get_or fs col []) (new_fields rows [])
      ∙ sym (ap (λ fs. get_or fs col []) (get_or_past rows row [] (omega (arith, at))))
  | inr other ↦ elim other [
    | inl before ↦ ap (λ fs. get_or fs col []) (old_fields rows [] row before)
    | inr past ↦ ap (λ fs. get_or fs col []) (no_fields rows [] row past ∙ sym (get_or_past rows row [] (omega (arith, past))))
  ]
]

longest_from : (most : ℕ) (rest : Rows) → most ≤ fold (λ m fs. max m (length fs)) most rest
longest_from most [] = omega arith
longest_from most (fields ∷ rest) = let more = longest_from (max most (length fields)) rest in omega (arith, more)

-- no record is longer than the longest
pub longest_at : (rows rest : Rows) (fields : List (List ℕ)) → length fields ≤ longest ((rows ++ fields ∷ []) ++ rest)
longest_at rows rest fields =
    let whole : longest ((rows ++ fields ∷ []) ++ rest) ≡ fold (λ most fs. max most (length fs))
    (longest (rows ++ fields ∷ [])) rest = fold-append (λ most fs. max most (length fs)) 0 (rows ++ fields
    ∷ []) rest in
    let here : longest (rows ++ fields ∷ []) ≡ max (longest rows) (length fields) = longest-more rows fields in
    let grown = longest_from (longest (rows ++ fields ∷ [])) rest in
    omega (arith, whole, here, grown)

-- a place in a row is one among all
pub place_below : (row col rows cols : ℕ) → row < rows → col < cols → row * cols + col < rows * cols
place_below row col rows cols within inside = grind (arith, row_places)

-- a sheet with columns has few rows
pub few_rows : (rows cols most : ℕ) → rows * cols ≤ most → 0 < cols → rows ≤ most
few_rows rows cols most all some = grind (arith, row_places)

longest_reached : (most : ℕ) (rows : Rows) (row col : ℕ) → row < length rows → col < length (fields_at rows row)
    → col < fold (λ m fs. max m (length fs)) most rows
longest_reached most [] row col within inside = absurd (omega (arith, within))
longest_reached most (fields ∷ rest) zero col within inside = let more = longest_from (max most (length fields)) rest in omega (arith, more, inside)
longest_reached most (fields ∷ rest) (suc row) col within inside = longest_reached (max most (length fields)) rest row col (omega (arith, within)) inside

-- a field of a record is left of the length of the longest
pub longest_of : (rows : Rows) (row col : ℕ) → row < length rows → col < length (fields_at rows row) → col < longest rows
longest_of rows row col within inside = longest_reached 0 rows row col within inside
