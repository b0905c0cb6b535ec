-- What the fields of a text of lines write, read ahead of filling a sheet.
use Rattle.std.specs.Prelude.{◌≡◌, ℕ, Bool, true, false, List, [], ◌∷◌, ◌++◌, length, Option, None, Some, flat_map}
use Rattle.std.specs.Vec.Iter.{into_iter_items, into_iter_len}
use Rattle.std.specs.Global.{Vec}
use Rattle.value_core.specs.declared.value.Value.TheVariants.{Empty, Number, Truth, Error, Label}
use Rattle.formula_syntax.specs.declared.edition.Edition.{Edition}
use Rattle.sheet_model.specs.Fields.{IsContent, IsLabelField}
use Rattle.sheet_model.specs.Sheets.{ContentValue, Constant, Computed, content_value}
use Rattle.sheet_model.specs.declared.content.Content.{Content}
use Rattle.csv_sheet.specs.declared.known.Known.{Known}
use Rattle.csv_sheet.specs.Lines.{text_rows}
use Rattle.csv_sheet.specs.Records.{all_fields}

-- the fields of all lines of a text
abbrev pub text_fields : List ℕ → List (List ℕ)
text_fields text = all_fields (text_rows text)

-- whether a content is a label
abbrev pub is_label : ContentValue → Bool
is_label (Constant Empty) = false
is_label (Constant (Number number)) = false
is_label (Constant (Truth truth)) = false
is_label (Constant (Error kind)) = false
is_label (Constant (Label place)) = true
is_label (Computed tree) = false

-- a field is no label, and writes a content over whatever table
pub record WritesAnywhere (edition : Edition) (field : List ℕ) (content : ContentValue) : Type 0 where
  pub other : ¬ IsLabelField field
  pub writes : (labels : List (List ℕ)) → IsContent edition labels field content

-- what is known of a field, if anything, is so
abbrev pub IsAhead : Edition → List ℕ → Option Content → Type 0
IsAhead edition field None = Unit {0}
IsAhead edition field (Some content) = WritesAnywhere edition field (content_value content)

-- something is said of each field, in their order
abbrev pub AreAhead : Edition → List (List ℕ) → List (Option Content) → Type 0
AreAhead edition [] [] = Unit {0}
AreAhead edition [] (known ∷ more) = ⊥
AreAhead edition (field ∷ fields) [] = ⊥
AreAhead edition (field ∷ fields) (known ∷ more) = IsAhead edition field known × AreAhead edition fields more

-- something is said of the first of the fields
abbrev pub Begin : Edition → List (Option Content) → List (List ℕ) → Type 0
Begin edition [] fields = Unit {0}
Begin edition (known ∷ more) [] = ⊥
Begin edition (known ∷ more) (field ∷ fields) = IsAhead edition field known × Begin edition more fields

-- what is said in lists, one behind the other
abbrev pub in_lists : List (Vec (Option Content)) → List (Option Content)
in_lists lists = flat_map (λ list. list.items) lists

-- what is still to be told
abbrev pub told_next : Known → List (Option Content)
told_next known = into_iter_items known.list ++ in_lists (into_iter_items known.others)

-- it is of the first of these fields
pub record AreNext (edition : Edition) (known : Known) (fields : List (List ℕ)) : Type 0 where
  pub begin : Begin edition (told_next known) fields
  pub list : into_iter_len known.list ≡ length (into_iter_items known.list)
  pub others : into_iter_len known.others ≡ length (into_iter_items known.others)

-- fields of a text were read up to what is left of it
pub record HasReadAhead (edition : Edition) (text left : List ℕ) (ahead : List (Option Content)) : Type 0 where
  pub fields : List (List ℕ)
  pub split : text_fields text ≡ fields ++ text_fields left
  pub known : AreAhead edition fields ahead
