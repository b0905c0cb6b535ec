-- What a sheet keeps, and what a change does to it.
use Rattle.std.proofs.Common.{◌≡◌, ◌≢◌, ℕ, zero, suc, ◌-◌, ◌^◌, ◌<◌, ◌≤◌, List, ◌∷◌, map, replicate, Bool, cond, length}
use Rattle.std.proofs.Common.{get_or, IsTrue, true, false, refl, sym, ◌∙◌, ap, subst, arith, length-set}
use Rattle.std.proofs.Common.{get_or-set_same, get_or-set_other, inl, inr, Result, Ok, Err}
use Rattle.std.specs.Prelude.{All, OnOk, OnErr}
use Rattle.std.proofs.Math.ListN.{get_or-map}
use Rattle.std.proofs.lemmas.List.{length-replicate}
use Rattle.std.proofs.lemmas.List.Elements.{All-set, All-replicate}
use Rattle.std.proofs.lemmas.Option.{slice_get_within}
use Rattle.sheet_refs.specs.Cells.{Position}
use Rattle.sheet_refs.specs.declared.sizes.Sizes.{Sizes}
use Rattle.sheet_refs.specs.Sizes.{is_inside, cell_count, place_of}
use Rattle.sheet_refs.proofs.Places.{place-lt, place_same}
use Rattle.value_core.specs.declared.value.ErrorKind.TheVariants.{Circ}
use Rattle.value_core.specs.declared.value.Value.{Value}
use Rattle.value_core.specs.declared.value.Value.TheVariants as value
use Rattle.value_core.specs.Values.{IsValue}
use Rattle.formula_syntax.specs.declared.edition.Edition.{Edition}
use Rattle.formula_syntax.specs.Formula.{IsFormula}
use Rattle.formula_syntax.specs.Tree.{Tree}
use Rattle.sheet_model.specs.Fields.{IsContent, IsTableAfter}
use Rattle.sheet_model.specs.Fields.IsTableAfter.{label, other}
use Rattle.sheet_model.specs.declared.content.Content.{Content}
use Rattle.sheet_model.specs.Labels.{IsTable, with_label}
use Rattle.sheet_model.specs.Sheets.{SheetValue, ContentValue, Constant, Computed, HasLabel, IsConstant, IsWritten}
use Rattle.sheet_model.specs.Sheets.{IsHeld, IsSheet, IsSheetSize, content_of, content_value, blank_sheet, with_content}
use Rattle.sheet_model.specs.Sheets.{with_labels}
use Rattle.sheet_model.proofs.WrittenLemmas.{whole_field, read_is_formula}
use Rattle.sheet_model.proofs.LabelLemmas.{length-with_label, distinct-with_label, get-with_label}

-- a function of each of many copies
pub map-replicate : {A B : Type 0} (f : A → B) (n : ℕ) (x : A) → map f (replicate n x) ≡ replicate n (f x)
map-replicate f zero x = refl
map-replicate f (suc n) x = ap (λ xs. f x ∷ xs) (map-replicate f n x)

-- a copy, or the same by default past the last one
pub get_or-replicate_default : {A : Type 0} (n i : ℕ) (x : A) → get_or (replicate n x) i x ≡ x
get_or-replicate_default zero i x = refl
get_or-replicate_default (suc n) zero x = refl
get_or-replicate_default (suc n) (suc i) x = get_or-replicate_default n i x

-- an empty cell may stand beside any table
pub held_empty : (labels : ℕ) → IsHeld labels (Constant value.Empty)
held_empty labels = record { label = tt; written = record { in_range = tt; not_circular = λ e. cc } }

-- what may stand beside a table may stand beside a longer one
pub HasLabel-more : (fewer more : ℕ) (content : ContentValue) → fewer ≤ more → HasLabel fewer content → HasLabel more content
HasLabel-more fewer more (Constant value.Empty) grown has = tt
HasLabel-more fewer more (Constant (value.Number n)) grown has = tt
HasLabel-more fewer more (Constant (value.Truth b)) grown has = tt
HasLabel-more fewer more (Constant (value.Error kind)) grown has = tt
HasLabel-more fewer more (Constant (value.Label place)) grown has = omega (arith, grown, has)
HasLabel-more fewer more (Computed tree) grown has = tt

pub IsHeld-more : (fewer more : ℕ) (content : ContentValue) → fewer ≤ more → IsHeld fewer content → IsHeld more content
IsHeld-more fewer more content grown held = record { label = HasLabel-more fewer more content grown held.label; written = held.written }

-- what a text writes may be written, and its label is in the table
pub label_content : (edition : Edition) (labels : List (List ℕ)) (text : List ℕ) (content : ContentValue)
    → IsContent edition labels text content → HasLabel (length labels) content
label_content edition labels text (Constant value.Empty) is = tt
label_content edition labels text (Constant (value.Number n)) is = tt
label_content edition labels text (Constant (value.Truth b)) is = tt
label_content edition labels text (Constant (value.Error kind)) is = tt
label_content edition labels text (Constant (value.Label place)) is = slice_get_within labels place text is.1
label_content edition labels text (Computed tree) is = tt

written_content : (edition : Edition) (labels : List (List ℕ)) (text : List ℕ) (content : ContentValue)
    → length labels < 2 ^ 32 → length text ≤ 8192 → IsContent edition labels text content → IsWritten content
written_content edition labels text (Constant value.Empty) few short is = record { in_range = tt; not_circular = λ e. cc }
written_content edition labels text (Constant (value.Number n)) few short is = record { in_range = whole_field text n is; not_circular = λ e. cc }
written_content edition labels text (Constant (value.Truth b)) few short is = record { in_range = tt; not_circular = λ e. cc }
written_content edition labels text (Constant (value.Error kind)) few short is =
    record { in_range = tt; not_circular = λ e. elim is [ inl named ↦ named.written cc | inr faulty ↦ let k = faulty.0 in cc ] }
written_content edition labels text (Constant (value.Label place)) few short is =
    record { in_range = (let within = slice_get_within labels place text is.1 in omega (arith, within, few)); not_circular = λ e. cc }
written_content edition labels text (Computed tree) few short is = read_is_formula edition text tree short is

pub held_content : (edition : Edition) (labels : List (List ℕ)) (text : List ℕ) (content : ContentValue)
    → IsTable labels → length text ≤ 8192 → IsContent edition labels text content → IsHeld (length labels) content
held_content edition labels text content table short is = record {
  label = label_content edition labels text content is;
  written = written_content edition labels text content table.few short is;
}

-- a table after a field has been read
pub grown_table : (text : List ℕ) (old new : List (List ℕ)) → IsTableAfter text old new → length old ≤ length new
grown_table text _ _ (label _ old new is e) = let g = length-with_label old text in let l = g.0 in rw e l
grown_table text _ _ (other _ old new is e) = rw e (omega arith)

pub table_after : (text : List ℕ) (old new : List (List ℕ)) → length old < 2 ^ 32 - 1 → IsTable old → IsTableAfter text old new → IsTable new
table_after text _ _ room table (label _ old new is e) =
    let g = length-with_label old text in
    let most = g.1 in
    rw e (record { distinct = distinct-with_label old text table.distinct; few = omega (arith, most, room) })
table_after text _ _ room table (other _ old new is e) = rw e table

-- a sheet with a longer table
pub sheet_with_labels : (sheet : SheetValue) (labels : List (List ℕ)) → IsSheet sheet → IsTable labels
    → length sheet.labels ≤ length labels → IsSheet (with_labels sheet labels)
sheet_with_labels sheet labels is table grown = record {
  size = is.size;
  filled = is.filled;
  table = table;
  held = λ k d within. IsHeld-more (length sheet.labels) (length labels) (get_or sheet.contents k d) grown (is.held k d within);
}

-- a sheet with another content in a cell
pub sheet_with_content : (sheet : SheetValue) (cell : Position) (content : ContentValue) → IsSheet sheet
    → IsHeld (length sheet.labels) content → IsSheet (with_content sheet cell content)
sheet_with_content sheet cell content is held = record {
  size = is.size;
  filled = length-set sheet.contents (place_of sheet.sizes cell) content ∙ is.filled;
  table = is.table;
  held = All-set (IsHeld (length sheet.labels)) sheet.contents (place_of sheet.sizes cell) content held is.held;
}

-- a blank sheet
pub sheet_blank : (edition : Edition) (sizes : Sizes) → IsSheetSize sizes → IsSheet (blank_sheet edition sizes)
sheet_blank edition sizes size = record {
  size = size;
  filled = length-replicate (cell_count sizes) (Constant value.Empty);
  table = record { distinct = λ i j d before within. absurd (omega (arith, within)); few = omega arith };
  held = All-replicate (IsHeld 0) (cell_count sizes) (Constant value.Empty) (held_empty 0);
}

-- each content of a sheet may stand beside its table
pub held_at : (labels : ℕ) (contents : List Content) (place : ℕ) (found : Content)
    → All (IsHeld labels) (map content_value contents) → place < length (map content_value contents)
    → found ≡ get_or contents place found → IsHeld labels (content_value found)
held_at labels contents place found held within at =
    subst (IsHeld labels) (get_or-map content_value contents place found ∙ ap content_value (sym at)) (held place (content_value found) within)

-- what reading a field leaves, whatever it answers
pub table_read : {A E : Type 0} (result : Result A E) (text : List ℕ) (old new : List (List ℕ)) → length old < 2 ^ 32 - 1 → IsTable old
    → OnOk result (IsTableAfter text old new) → OnErr result (new ≡ old) → IsTable new × (length old ≤ length new)
table_read (Ok x) text old new room table after refused = (table_after text old new room table after, grown_table text old new after)
table_read (Err e) text old new room table after refused = rw refused (table, omega arith)

-- what stands in a cell of a sheet may stand beside its table, also past the rectangle
pub held_of : (sheet : SheetValue) → IsSheet sheet → (cell : Position) → IsHeld (length sheet.labels) (content_of sheet cell)
held_of sheet is cell = go (is_inside sheet.sizes cell) refl
  where
    go : (b : Bool) → is_inside sheet.sizes cell ≡ b → IsHeld (length sheet.labels) (content_of sheet cell)
    go true inside =
        let lt = place-lt sheet.sizes cell inside in
        let within : place_of sheet.sizes cell < length sheet.contents = (let e = is.filled in omega arith) in
        let held = is.held (place_of sheet.sizes cell) (Constant value.Empty) within in
        rw inside held
    go false outside = rw outside (held_empty (length sheet.labels))

pub written_at : (sheet : SheetValue) → IsSheet sheet → (cell : Position) → IsWritten (content_of sheet cell)
written_at sheet is cell = (held_of sheet is cell).written

pub constant_at : (sheet : SheetValue) (cell : Position) (constant : Value) → IsSheet sheet
    → content_of sheet cell ≡ Constant constant → IsValue constant × (constant ≢ value.Error Circ)
constant_at sheet cell constant is stands =
    let written : IsConstant constant = subst IsWritten stands (written_at sheet is cell) in
    (written.in_range, written.not_circular)

pub formula_at : (sheet : SheetValue) (cell : Position) (formula : Tree) → IsSheet sheet → content_of sheet cell ≡ Computed formula → IsFormula formula
formula_at sheet cell formula is stands = subst IsWritten stands (written_at sheet is cell)

pub label_at : (sheet : SheetValue) (cell : Position) (place : ℕ) → IsSheet sheet
    → content_of sheet cell ≡ Constant (value.Label place) → place < length sheet.labels
label_at sheet cell place is stands = subst (HasLabel (length sheet.labels)) stands (held_of sheet is cell).label

pub on_ok : {A E : Type 0} (result : Result A E) (P : Type 0) → P → OnOk result P
on_ok (Ok x) P holds = holds
on_ok (Err e) P holds = tt

module _ (sheet : SheetValue) (cell : Position) (content : ContentValue) (inside : IsTrue (is_inside sheet.sizes cell)) where
  -- after a write a cell has what was written to it, and every other cell what it had
  pub content_of-filled : length sheet.contents ≡ cell_count sheet.sizes → content_of (with_content sheet cell content) cell ≡ content
  content_of-filled filled =
      let lt = place-lt sheet.sizes cell inside in
      let within : place_of sheet.sizes cell < length sheet.contents = omega (arith, lt, filled) in
      rw (inside, get_or-set_same sheet.contents (place_of sheet.sizes cell) content (Constant value.Empty) within) refl

  pub content_of-other : (another : Position) → another ≢ cell → content_of (with_content sheet cell content) another ≡ content_of sheet another
  content_of-other another differs = go (is_inside sheet.sizes another) refl
    where
      go : (b : Bool) → is_inside sheet.sizes another ≡ b → content_of (with_content sheet cell content) another ≡ content_of sheet another
      go true is =
          let apart : place_of sheet.sizes another ≢ place_of sheet.sizes cell =
          λ same. differs (place_same sheet.sizes another cell is inside same) in
          rw (is, get_or-set_other sheet.contents (place_of sheet.sizes cell) (place_of sheet.sizes another) content (Constant value.Empty) apart) refl
      go false is = rw is refl

pub content_of-blank : (edition : Edition) (sizes : Sizes) (cell : Position) → content_of (blank_sheet edition sizes) cell ≡ Constant value.Empty
content_of-blank edition sizes cell = go (is_inside sizes cell)
  where
    go : (b : Bool)
        → cond b (get_or (replicate (cell_count sizes) (Constant value.Empty)) (place_of sizes cell)
        (Constant value.Empty)) (Constant value.Empty) ≡ Constant value.Empty
    go true = get_or-replicate_default (cell_count sizes) (place_of sizes cell) (Constant value.Empty)
    go false = refl

-- what a text writes over a table, it writes over the table with a text more
pub IsContent-with_label : (edition : Edition) (labels : List (List ℕ)) (more text : List ℕ) (content : ContentValue)
    → IsContent edition labels text content → IsContent edition (with_label labels more) text content
IsContent-with_label edition labels more text (Constant value.Empty) is = is
IsContent-with_label edition labels more text (Constant (value.Number n)) is = is
IsContent-with_label edition labels more text (Constant (value.Truth b)) is = is
IsContent-with_label edition labels more text (Constant (value.Error kind)) is = is
IsContent-with_label edition labels more text (Constant (value.Label place)) is = (is.0, get-with_label labels more place text is.1)
IsContent-with_label edition labels more text (Computed tree) is = is

pub IsContent-after : (edition : Edition) (read : List ℕ) (old new : List (List ℕ)) (text : List ℕ)
    (content : ContentValue) → IsTableAfter read old new → IsContent edition old text content
    → IsContent edition new text content
IsContent-after edition read _ _ text content (label _ old new field e) is = rw e (IsContent-with_label edition old read text content is)
IsContent-after edition read _ _ text content (other _ old new field e) is = rw e is
