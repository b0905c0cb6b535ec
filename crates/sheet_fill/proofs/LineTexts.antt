-- The lines of an edit's text.
use Rattle.std.proofs.Common.{◌≡◌, ◌≢◌, inr, ℕ, zero, suc, ◌+◌, ◌-◌, ◌<◌, true, List, [], ◌∷◌, ◌++◌, length, map, take, get_or, slice_index, All}
use Rattle.std.proofs.Common.{append_assoc, arith, refl, sym, ap, ◌∙◌, subst}
use Rattle.std.specs.Prelude.{codes, nat_lt, ◌==◌, nat_le}
use Rattle.std.specs.List.{list_all}
use Rattle.std.proofs.Math.Seq.{get_or-append_seam}
use Rattle.std.proofs.lemmas.Bool.{leb-true, lt-ltb, ne_eqb}
use Rattle.std.proofs.lemmas.List.{get_or_append_left, length-append, take-append-le, take_all}
use Rattle.std.proofs.lemmas.List.Elements.{All-append, All-weaker}
use Rattle.std.proofs.lemmas.List.Sums.{AllPass-from_list_all}
use Rattle.bstr.specs.Text.{lines_of, no_cr, without_terminator}
use Rattle.bstr.proofs.lemmas.LineLemmas.{lines-append, lines-one, lines-nil}
use Rattle.sheet_refs.specs.Cells.{Position, IsNamed}
use Rattle.sheet_refs.specs.Names.{cell_text}
use Rattle.value_core.specs.declared.value.Value.TheVariants as value
use Rattle.formula_syntax.specs.declared.edition.Edition.{Edition}
use Rattle.sheet_model.specs.Changes.{ChangeValue}
use Rattle.sheet_model.specs.Edits.{EditValue}
use Rattle.sheet_model.specs.Sheets.{Computed, Constant, ContentValue, IsWritten}
use Rattle.edit_script.specs.Lines.{LineValue, Clear, Set, script_lines}
use Rattle.window_text.specs.Changes.{batch_text, change_line, changes_text, content_text}
use Rattle.window_text.specs.Told.{Shows, told_value}
use Rattle.window_text.proofs.ToldCells.{IsMark, line as mark_line, plain_is_clear as value_is_clear}
use Rattle.window_text.proofs.ToldChanges.{value_tellable}
use Rattle.window_text.proofs.ToldFormulas.{plain_is_clear}
use Rattle.window_text.proofs.ToldNamed.{IsStop, line as stop_line, no_stop_in_cell}
use Rattle.sheet_fill.specs.FilledTexts.{IsWritable, WritesItself}
use Rattle.sheet_fill.proofs.EndLemmas.{EndsPlainly, behind, cell_ends, error_ends, plain_ends, truth_ends, whole_ends}

-- what the line of a change says
abbrev pub filling_said : List (List ℕ) → Position → ContentValue → LineValue
filling_said labels cell (Constant value.Empty) = Clear cell
filling_said labels cell (Constant (value.Number number)) = Set cell (content_text labels (Constant (value.Number number)))
filling_said labels cell (Constant (value.Truth truth)) = Set cell (content_text labels (Constant (value.Truth truth)))
filling_said labels cell (Constant (value.Error kind)) = Set cell (content_text labels (Constant (value.Error kind)))
filling_said labels cell (Constant (value.Label place)) = Set cell (content_text labels (Constant (value.Label place)))
filling_said labels cell (Computed formula) = Set cell (content_text labels (Computed formula))

abbrev pub said : List (List ℕ) → ChangeValue → LineValue
said labels change = filling_said labels change.cell change.content

-- and the line without its end
abbrev pub text_said : LineValue → List ℕ
text_said (Set cell content) = codes "set " ++ (cell_text cell ++ 32 ∷ content)
text_said (Clear cell) = codes "clear " ++ cell_text cell
text_said _ = []

abbrev pub line_text : List (List ℕ) → ChangeValue → List ℕ
line_text labels change = text_said (said labels change)

set_is : (cell : Position) (content : List ℕ)
    → codes "set " ++ (cell_text cell ++ 32 ∷ (content ++ 10 ∷ [])) ≡ (codes "set " ++ (cell_text cell ++ 32 ∷ content)) ++ 10 ∷ []
set_is cell content = ap (λ t. codes "set " ++ t) (sym (append_assoc (cell_text cell) (32 ∷ content) (10 ∷ [])))

line_is : (labels : List (List ℕ)) (cell : Position) (content : ContentValue)
    → change_line labels (record { cell = cell; content = content }) ≡ text_said (filling_said labels cell content) ++ 10 ∷ []
line_is labels cell (Constant value.Empty) = refl
line_is labels cell (Constant (value.Number number)) = set_is cell (content_text labels (Constant (value.Number number)))
line_is labels cell (Constant (value.Truth truth)) = set_is cell (content_text labels (Constant (value.Truth truth)))
line_is labels cell (Constant (value.Error kind)) = set_is cell (content_text labels (Constant (value.Error kind)))
line_is labels cell (Constant (value.Label place)) = set_is cell (content_text labels (Constant (value.Label place)))
line_is labels cell (Computed formula) = set_is cell (content_text labels (Computed formula))

-- no byte ends a line
abbrev pub HasNoFeed : List ℕ → Type 0
HasNoFeed text = All (λ byte. byte ≢ 10) text

none_feed : HasNoFeed []
none_feed = λ k d within. absurd (omega (arith, within))

byte_feed : (byte : ℕ) (rest : List ℕ) → byte ≢ 10 → HasNoFeed rest → HasNoFeed (byte ∷ rest)
byte_feed byte rest first others zero d within = first
byte_feed byte rest first others (suc k) d within = others k d (omega (arith, within))

joins_feed : (one other : List ℕ) → HasNoFeed one → HasNoFeed other → HasNoFeed (one ++ other)
joins_feed one other a b = All-append (λ byte. byte ≢ 10) one other a b

visible_feed : (text : List ℕ) → list_all (nat_le 32) text ≡ true → HasNoFeed text
visible_feed text visible k d within =
    let least = leb-true 32 (get_or text k d) (AllPass-from_list_all (nat_le 32) text visible k d within) in λ same. omega (arith, least, same)

clear_feed : (text : List ℕ) → All (λ byte. ¬ IsMark byte) text → HasNoFeed text
clear_feed text is = All-weaker (λ byte. ¬ IsMark byte) (λ byte. byte ≢ 10) (λ byte no_mark same. no_mark (mark_line same)) text is

cell_feed : (cell : Position) → IsNamed cell.row cell.col → HasNoFeed (cell_text cell)
cell_feed cell named =
    All-weaker (λ byte. ¬ IsStop byte) (λ byte. byte ≢ 10) (λ byte no_stop same. no_stop (stop_line same)) (cell_text cell) (no_stop_in_cell cell named)

-- a line: no byte in it ends a line, and it doesn't end with a carriage return
pub record IsLineText (text : List ℕ) : Type 0 where
  pub feed : HasNoFeed text
  pub ends : EndsPlainly text

-- of the words that stand alone, of a line that empties a cell, and of one that fills it
pub batch_is_line : IsLineText (codes "batch")
batch_is_line = record {
  feed = visible_feed (codes "batch") refl;
  ends = record { front = codes "batc"; last = 104; text_is = refl; plainly = λ same. omega (arith, same) };
}

pub end_is_line : IsLineText (codes "end")
end_is_line = record {
  feed = visible_feed (codes "end") refl;
  ends = record { front = codes "en"; last = 100; text_is = refl; plainly = λ same. omega (arith, same) };
}

clear_is_line : (cell : Position) → IsNamed cell.row cell.col → IsLineText (codes "clear " ++ cell_text cell)
clear_is_line cell named = record {
  feed = joins_feed (codes "clear ") (cell_text cell) (visible_feed (codes "clear ") refl) (cell_feed cell named);
  ends = behind (codes "clear ") (cell_text cell) (cell_ends cell named);
}

set_is_line : (cell : Position) (content : List ℕ) → IsNamed cell.row cell.col → IsLineText content
    → IsLineText (codes "set " ++ (cell_text cell ++ 32 ∷ content))
set_is_line cell content named is = record {
  feed = joins_feed (codes "set ") (cell_text cell ++ 32 ∷ content) (visible_feed (codes "set ") refl)
      (joins_feed (cell_text cell) (32 ∷ content) (cell_feed cell named) (byte_feed 32 content (λ same. omega (arith, same)) is.feed));
  ends = behind (codes "set ") (cell_text cell ++ 32 ∷ content)
      (behind (cell_text cell) (32 ∷ content) (behind (32 ∷ []) content is.ends));
}

filling_is_line : (edition : Edition) (labels : List (List ℕ)) (cell : Position) (content : ContentValue) → IsNamed cell.row cell.col → IsWritten content
    → WritesItself edition content → IsLineText (text_said (filling_said labels cell content))
filling_is_line edition labels cell (Constant value.Empty) named written itself = clear_is_line cell named
filling_is_line edition labels cell (Constant (value.Number number)) named written itself =
    set_is_line cell (content_text labels (Constant (value.Number number))) named (record {
      feed = clear_feed (content_text labels (Constant (value.Number number)))
          (value_is_clear (Shows (told_value labels (value.Number number))) (value_tellable labels (value.Number number) written.in_range));
      ends = whole_ends number written.in_range;
    })
filling_is_line edition labels cell (Constant (value.Truth truth)) named written itself =
    set_is_line cell (content_text labels (Constant (value.Truth truth))) named (record {
      feed = clear_feed (content_text labels (Constant (value.Truth truth)))
          (value_is_clear (Shows (told_value labels (value.Truth truth))) (value_tellable labels (value.Truth truth) written.in_range));
      ends = truth_ends truth;
    })
filling_is_line edition labels cell (Constant (value.Error kind)) named written itself =
    set_is_line cell (content_text labels (Constant (value.Error kind))) named (record {
      feed = clear_feed (content_text labels (Constant (value.Error kind)))
          (value_is_clear (Shows (told_value labels (value.Error kind))) (value_tellable labels (value.Error kind) written.in_range));
      ends = error_ends kind;
    })
filling_is_line edition labels cell (Constant (value.Label place)) named written itself = absurd itself
filling_is_line edition labels cell (Computed formula) named written itself =
    set_is_line cell (content_text labels (Computed formula)) named (record {
      feed = clear_feed (content_text labels (Computed formula)) (plain_is_clear formula written.fitting);
      ends = plain_ends formula written.fitting;
    })

pub change_is_line : (edition : Edition) (labels : List (List ℕ)) (change : ChangeValue) → IsWritable edition change → IsLineText (line_text labels change)
change_is_line edition labels change is = filling_is_line edition labels change.cell change.content is.named is.written is.itself

-- a line and its end, taken for lines
last_byte : (text : List ℕ) (last : ℕ) → slice_index (text ++ last ∷ []) (length (text ++ last ∷ []) - 1) ≡ last
last_byte text last =
    let long = length-append text (last ∷ []) in
    let place : length (text ++ last ∷ []) - 1 ≡ length text = omega (arith, long) in
    ap (slice_index (text ++ last ∷ [])) place ∙ get_or-append_seam text last [] 0

all_but_last : (text : List ℕ) (last : ℕ) → take (length (text ++ last ∷ []) - 1) (text ++ last ∷ []) ≡ text
all_but_last text last =
    let long = length-append text (last ∷ []) in
    let place : length (text ++ last ∷ []) - 1 ≡ length text = omega (arith, long) in
    ap (λ n. take n (text ++ last ∷ [])) place ∙ take-append-le (length text) text (last ∷ []) (omega arith) ∙ take_all (length text) text (omega arith)

some_bytes : (text : List ℕ) (last : ℕ) → nat_lt 0 (length (text ++ last ∷ [])) ≡ true
some_bytes text last = let long = length-append text (last ∷ []) in lt-ltb 0 (length (text ++ last ∷ [])) (omega (arith, long))

kept_return : (text : List ℕ) → EndsPlainly text → no_cr text ≡ text
kept_return text is =
    subst (λ t. no_cr t ≡ t) (sym is.text_is)
    (rw (some_bytes is.front is.last, ap (λ b. b == 13) (last_byte is.front is.last) ∙ ne_eqb is.last 13 is.plainly) refl)

without_end : (text : List ℕ) → EndsPlainly text → without_terminator (text ++ 10 ∷ []) ≡ text
without_end text is =
    rw (some_bytes text 10, ap (λ b. b == 10) (last_byte text 10), all_but_last text 10) (kept_return text is)

pub first_line : (text rest : List ℕ) → IsLineText text → script_lines (text ++ 10 ∷ rest) ≡ text ∷ script_lines rest
first_line text rest is =
    let long = length-append text (10 ∷ []) in
    let ended : text ++ 10 ∷ rest ≡ (text ++ 10 ∷ []) ++ rest = sym (append_assoc text (10 ∷ []) rest) in
    let apart : lines_of ((text ++ 10 ∷ []) ++ rest) ≡ lines_of (text ++ 10 ∷ []) ++ lines_of rest =
    lines-append (length (text ++ 10 ∷ [])) (text ++ 10 ∷ []) rest (omega arith) (inr (last_byte text 10)) in
    let one : lines_of (text ++ 10 ∷ []) ≡ (text ++ 10 ∷ []) ∷ [] = lines-one (text ++ 10 ∷ []) (omega (arith, long)) no_feed in
    ap script_lines ended ∙ ap (map without_terminator) (apart ∙ ap (λ l. l ++ lines_of rest) one)
    ∙ ap (λ t. t ∷ script_lines rest) (without_end text is.ends)
  where
    no_feed : (k : ℕ) → k + 1 < length (text ++ 10 ∷ []) → slice_index (text ++ 10 ∷ []) k ≢ 10
    no_feed k within =
        let long = length-append text (10 ∷ []) in
        let below : k < length text = omega (arith, long, within) in
        subst (λ b. b ≢ 10) (sym (get_or_append_left text (10 ∷ []) 0 k below)) (is.feed k 0 below)

-- the lines of changes, and of the whole text
changes_lines : (edition : Edition) (labels : List (List ℕ)) (edit : EditValue) (rest : List ℕ) → All (IsWritable edition) edit
    → script_lines (changes_text labels edit ++ rest) ≡ map (line_text labels) edit ++ script_lines rest
changes_lines edition labels [] rest all = refl
changes_lines edition labels (change ∷ edit) rest all =
    let here : IsLineText (line_text labels change) = change_is_line edition labels change (all 0 change (omega arith)) in
    let others : All (IsWritable edition) edit = λ k d within. all (suc k) d (omega (arith, within)) in
    ap script_lines (append_assoc (change_line labels change) (changes_text labels edit) rest
    ∙ ap (λ t. t ++ (changes_text labels edit ++ rest)) (line_is labels change.cell change.content)
    ∙ append_assoc (line_text labels change) (10 ∷ []) (changes_text labels edit ++ rest))
    ∙ first_line (line_text labels change) (changes_text labels edit ++ rest) here
    ∙ ap (λ l. line_text labels change ∷ l) (changes_lines edition labels edit rest others)

pub batch_lines : (edition : Edition) (labels : List (List ℕ)) (edit : EditValue) → All (IsWritable edition) edit
    → script_lines (batch_text labels edit) ≡ codes "batch" ∷ (map (line_text labels) edit ++ codes "end" ∷ [])
batch_lines edition labels edit all =
    first_line (codes "batch") (changes_text labels edit ++ (codes "end" ++ 10 ∷ [])) batch_is_line
    ∙ ap (λ l. codes "batch" ∷ l) (changes_lines edition labels edit (codes "end" ++ 10 ∷ []) all
    ∙ ap (λ l. map (line_text labels) edit ++ l) (first_line (codes "end") [] end_is_line ∙ ap (λ l. codes "end" ∷ map without_terminator l) lines-nil))
