-- What a cell is to hold, changes, edits and entries, each before what follows it.
use Rattle.std.proofs.Common.{◌≡◌, ◌<◌, ◌^◌, ℕ, ℤ, pos, negsuc, suc, true, false, List, [], ◌∷◌, ◌++◌, length, refl}
use Rattle.std.proofs.Common.{sym, ap, ◌∙◌, arith, All, codes, decimal, append_assoc, inl, inr, ◌⊎◌}
use Rattle.std.specs.Int.Signed.{mag}
use Rattle.std.proofs.lemmas.List.{append_cancel_left}
use Rattle.sheet_refs.specs.Cells.{Position, IsNamed}
use Rattle.sheet_refs.specs.Names.{IsDigit, cell_text}
use Rattle.sheet_refs.proofs.PrintLemmas.{decimal_printed}
use Rattle.value_core.specs.Values.{IsValue, error_text, value_text}
use Rattle.value_core.specs.declared.value.ErrorKind.{ErrorKind}
use Rattle.value_core.specs.declared.value.ErrorKind.TheVariants as error
use Rattle.value_core.specs.Wholes.{IsWhole}
use Rattle.value_core.specs.declared.value.Value.{Value}
use Rattle.value_core.specs.declared.value.Value.TheVariants as value
use Rattle.value_core.proofs.ArithmeticLemmas.{size_of_whole}
use Rattle.formula_syntax.specs.Printing.{plain, tree_text}
use Rattle.formula_syntax.specs.Tree.{IsFitting}
use Rattle.sheet_model.specs.Changes.{ChangeValue}
use Rattle.sheet_model.specs.Labels.{label_text}
use Rattle.sheet_model.specs.Sheets.{ContentValue, Constant, Computed, IsWritten}
use Rattle.window_text.specs.Changes.{clear_line, set_line, change_line, content_text}
use Rattle.window_text.specs.Told.{ToldValue, Nothing, ToldCell, Shows, Waits, Passed, Holds, Computes, told_value, told_content, told_change}
use Rattle.window_text.proofs.ToldSplit.{split_at_stop, same_first, same_others, first_is}
use Rattle.window_text.proofs.ToldNamed.{line, space, cell_ends}
use Rattle.window_text.proofs.ToldCells.{IsTellable, IsMark, line as mark_line, at_line, told_text, cell_told, quotes_open, doubled}
use Rattle.window_text.proofs.ToldFormulas.{plain_is_clear, plain_of_one}

-- the same value is shown
shown_inside : (x y : ToldValue) → Shows x ≡ Shows y → x ≡ y
shown_inside x y same = ap inside same
  where
    inside : ToldCell → ToldValue
    inside (Shows v) = v
    inside (Waits n) = Nothing
    inside (Passed n) = Nothing

-- the text of a value is that of what is told of it
pub value_told_text : (labels : List (List ℕ)) (v : Value) → value_text (label_text labels) v ≡ told_text (Shows (told_value labels v))
value_told_text labels value.Empty = refl
value_told_text labels (value.Number n) = refl
value_told_text labels (value.Truth b) = refl
value_told_text labels (value.Error k) = refl
value_told_text labels (value.Label place) = refl

small_mag : (z : ℤ) → IsWhole z → mag z < 2 ^ 63
small_mag (pos n) whole = let size = size_of_whole (pos n) whole in omega (arith, size)
small_mag (negsuc n) whole = let size = size_of_whole (negsuc n) whole in omega (arith, size)

pub value_tellable : (labels : List (List ℕ)) (v : Value) → IsValue v → IsTellable (Shows (told_value labels v))
value_tellable labels value.Empty is = tt
value_tellable labels (value.Number n) is = small_mag n is
value_tellable labels (value.Truth b) is = tt
value_tellable labels (value.Error k) is = tt
value_tellable labels (value.Label place) is = tt

-- a text of digits doesn't begin with this byte, nor does the name of an error
digits_begin_else : (text r s : List ℕ) → 0 < length text → All IsDigit text → text ++ 10 ∷ r ≡ 61 ∷ s → ⊥
digits_begin_else [] r s some digits same = absurd (omega (arith, some))
digits_begin_else (byte ∷ rest) r s some digits same =
    let digit = first_is IsDigit byte rest digits in
    absurd (omega (arith, digit.1, same_first byte 61 (rest ++ 10 ∷ r) s same))

sharp_first : (k : ErrorKind) → (rest : List ℕ) × (error_text k ≡ 35 ∷ rest)
sharp_first error.Null = (codes "NULL!", refl)
sharp_first error.Div0 = (codes "DIV/0!", refl)
sharp_first error.Value = (codes "VALUE!", refl)
sharp_first error.Ref = (codes "REF!", refl)
sharp_first error.Name = (codes "NAME?", refl)
sharp_first error.Num = (codes "NUM!", refl)
sharp_first error.Na = (codes "N/A", refl)
sharp_first error.Circ = (codes "CIRC!", refl)

-- a value doesn't begin as a formula does
begins_else : (labels : List (List ℕ)) (v : Value) (s r : List ℕ) → IsValue v → value_text (label_text labels) v ++ 10 ∷ r ≡ 61 ∷ s → ⊥
begins_else labels value.Empty s r is same = absurd (omega (arith, same_first 10 61 r s same))
begins_else labels (value.Number (pos n)) s r is same =
    let size = size_of_whole (pos n) is in
    let printed = decimal_printed n n (omega arith) (omega (arith, size)) in
    digits_begin_else (decimal n) r s printed.some printed.digits same
begins_else labels (value.Number (negsuc n)) s r is same = absurd (omega (arith, same_first 45 61 (decimal (suc n) ++ 10 ∷ r) s same))
begins_else labels (value.Truth true) s r is same = absurd (omega (arith, same_first 84 61 (codes "RUE" ++ 10 ∷ r) s same))
begins_else labels (value.Truth false) s r is same = absurd (omega (arith, same_first 70 61 (codes "ALSE" ++ 10 ∷ r) s same))
begins_else labels (value.Error k) s r is same =
    let sharp = sharp_first k in
    let all : 35 ∷ (sharp.0 ++ 10 ∷ r) ≡ 61 ∷ s = sym (ap (λ t. t ++ 10 ∷ r) sharp.1) ∙ same in
    absurd (omega (arith, same_first 35 61 (sharp.0 ++ 10 ∷ r) s all))
begins_else labels (value.Label place) s r is same =
    let all = sym (quotes_open (label_text labels place) 10 r) ∙ same in
    absurd (omega (arith, same_first 34 61 (doubled (label_text labels place) ++ 34 ∷ 10 ∷ r) s all))

-- what a content keeps
abbrev pub IsFine : ContentValue → Type 0
IsFine (Constant v) = IsValue v
IsFine (Computed t) = IsFitting t

pub fine_of : (c : ContentValue) → IsWritten c → IsFine c
fine_of (Constant v) written = written.in_range
fine_of (Computed t) written = written.fitting

-- what a cell is to hold, at the end of a line
content_ends : (labels others : List (List ℕ)) (x y : ContentValue) (r s : List ℕ) → IsFine x → IsFine y
    → content_text labels x ++ 10 ∷ r ≡ content_text others y ++ 10 ∷ s → (told_content labels x ≡ told_content others y) × (r ≡ s)
content_ends labels others (Constant v) (Constant w) r s one two same =
    let all = sym (ap (λ t. t ++ 10 ∷ r) (value_told_text labels v)) ∙ same ∙ ap (λ t. t ++ 10 ∷ s) (value_told_text others w) in
    let parts = cell_told (Shows (told_value labels v)) (Shows (told_value others w)) 10 10 r s
    (value_tellable labels v one) (value_tellable others w two) (at_line refl) (at_line refl) all in
    (ap Holds (shown_inside (told_value labels v) (told_value others w) parts.0), same_others 10 10 r s parts.1)
content_ends labels others (Constant v) (Computed u) r s one two same = absurd (begins_else labels v (tree_text u ++ 10 ∷ s) r one same)
content_ends labels others (Computed t) (Constant w) r s one two same = absurd (begins_else others w (tree_text t ++ 10 ∷ r) s two (sym same))
content_ends labels others (Computed t) (Computed u) r s one two same =
    let parts = split_at_stop IsMark (plain t) (plain u) 10 10 r s (plain_is_clear t one) (plain_is_clear u two) (mark_line refl) (mark_line refl) same in
    (ap Computes (plain_of_one t u one two parts.0), same_others 10 10 r s parts.1)

-- the line of a change: of one that empties a cell, or of one that fills it
data IsLineOf (labels : List (List ℕ)) (change : ChangeValue) : Type 0 where
  clears : change_line labels change ≡ clear_line change.cell → told_content labels change.content ≡ Holds Nothing → IsLineOf labels change
  sets : change_line labels change ≡ set_line labels change.cell change.content → IsLineOf labels change

line_of_change : (labels : List (List ℕ)) (change : ChangeValue) → IsLineOf labels change
line_of_change labels change = formed change.cell change.content
  where
    formed : (cell : Position) (content : ContentValue) → IsLineOf labels (record { cell = cell; content = content })
    formed cell (Constant value.Empty) = clears refl refl
    formed cell (Constant (value.Number n)) = sets refl
    formed cell (Constant (value.Truth b)) = sets refl
    formed cell (Constant (value.Error k)) = sets refl
    formed cell (Constant (value.Label place)) = sets refl
    formed cell (Computed t) = sets refl

-- a change that may be told
pub record IsFineChange (change : ChangeValue) : Type 0 where
  pub named : IsNamed change.cell.row change.cell.col
  pub content : IsFine change.content

-- a line that empties a cell, and what stands behind it
clear_open : (cell : Position) (r : List ℕ) → clear_line cell ++ r ≡ codes "clear " ++ (cell_text cell ++ 10 ∷ r)
clear_open cell r = ap (λ t. codes "clear " ++ t) (append_assoc (cell_text cell) (10 ∷ []) r)

set_open : (labels : List (List ℕ)) (cell : Position) (content : ContentValue) (r : List ℕ)
    → set_line labels cell content ++ r ≡ codes "set " ++ (cell_text cell ++ 32 ∷ (content_text labels content ++ 10 ∷ r))
set_open labels cell content r =
    ap (λ t. codes "set " ++ t) (append_assoc (cell_text cell) (32 ∷ (content_text labels content ++ 10 ∷ [])) r
    ∙ ap (λ t. cell_text cell ++ 32 ∷ t) (append_assoc (content_text labels content) (10 ∷ []) r))

-- the first byte of the line of a change
pub line_begins : (labels : List (List ℕ)) (change : ChangeValue) → (byte : ℕ) × (rest : List ℕ)
    × ((byte ≡ 99) ⊎ (byte ≡ 115)) × (change_line labels change ≡ byte ∷ rest)
line_begins labels change = begun (line_of_change labels change)
  where
    begun : IsLineOf labels change → (byte : ℕ) × (rest : List ℕ) × ((byte ≡ 99) ⊎ (byte ≡ 115)) × (change_line labels change ≡ byte ∷ rest)
    begun (clears is told) = (99, codes "lear " ++ (cell_text change.cell ++ 10 ∷ []), inl refl, is)
    begun (sets is) = (115, codes "et " ++ (cell_text change.cell ++ 32 ∷ (content_text labels change.content ++ 10 ∷ [])), inr refl, is)

-- a line that empties is none that fills
apart : (labels others : List (List ℕ)) (cell other : Position) (content : ContentValue) (r s : List ℕ)
    → clear_line cell ++ r ≡ set_line others other content ++ s → ⊥
apart labels others cell other content r s same =
    absurd (omega (
      arith,
      same_first 99 115 (codes "lear " ++ (cell_text cell ++ 10 ∷ []) ++ r) (codes "et "
          ++ (cell_text other ++ 32 ∷ (content_text others content ++ 10 ∷ [])) ++ s) same,
    ))

-- a change in its line
pub change_ends : (labels others : List (List ℕ)) (c d : ChangeValue) (r s : List ℕ) → IsFineChange c → IsFineChange d
    → change_line labels c ++ r ≡ change_line others d ++ s → (told_change labels c ≡ told_change others d) × (r ≡ s)
change_ends labels others c d r s one two same = ended (line_of_change labels c) (line_of_change others d)
  where
    ended : IsLineOf labels c → IsLineOf others d → (told_change labels c ≡ told_change others d) × (r ≡ s)
    ended (clears is told) (clears is_too told_too) =
        let all = sym (ap (λ t. t ++ r) is ∙ clear_open c.cell r) ∙ same ∙ (ap (λ t. t ++ s) is_too ∙ clear_open d.cell s) in
        let parts = cell_ends c.cell d.cell 10 10 r s one.named two.named (line refl) (line refl)
        (append_cancel_left (codes "clear ") (cell_text c.cell ++ 10 ∷ r) (cell_text d.cell ++ 10 ∷ s) all) in
        let contents = told ∙ sym told_too in
        (λ i. record { cell = parts.0 i; content = contents i }, same_others 10 10 r s parts.1)
    ended (clears is told) (sets is_too) = absurd (apart labels others c.cell d.cell d.content r s (sym (ap (λ t. t ++ r) is) ∙ same ∙ ap (λ t. t ++ s) is_too))
    ended (sets is) (clears is_too told) =
        absurd (apart others labels d.cell c.cell c.content s r (sym (sym (ap (λ t. t ++ r) is) ∙ same
        ∙ ap (λ t. t ++ s) is_too)))
    ended (sets is) (sets is_too) =
        let all = sym (ap (λ t. t ++ r) is ∙ set_open labels c.cell c.content r) ∙ same ∙ (ap (λ t. t ++ s) is_too ∙ set_open others d.cell d.content s) in
        let cells = cell_ends c.cell d.cell 32 32 (content_text labels c.content ++ 10
        ∷ r) (content_text others d.content ++ 10 ∷ s) one.named two.named (space refl) (space refl)
        (append_cancel_left (codes "set ") (cell_text c.cell ++ 32 ∷ (content_text labels c.content ++ 10 ∷ r))
        (cell_text d.cell ++ 32 ∷ (content_text others d.content ++ 10 ∷ s)) all) in
        let contents = content_ends labels others c.content d.content r s one.content two.content
        (same_others 32 32 (content_text labels c.content ++ 10 ∷ r) (content_text others d.content ++ 10
        ∷ s) cells.1) in
        (λ i. record { cell = cells.0 i; content = contents.0 i }, contents.1)
