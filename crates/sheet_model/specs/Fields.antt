-- What a field of a sheet holds: for each content, the texts that write it.
use Rattle.std.specs.Prelude.{◌≡◌, ◌≢◌, ◌⊎◌, ℕ, ℤ, pos, neg_ℤ, Bool, List, [], ◌∷◌, slice_get, Option, Some, MatchOption}
use Rattle.sheet_refs.specs.Names.{IsDecimal}
use Rattle.value_core.specs.declared.value.ErrorKind.{ErrorKind}
use Rattle.value_core.specs.declared.value.ErrorKind.TheVariants.{Name, Circ}
use Rattle.value_core.specs.declared.value.Value.TheVariants.{Empty, Number, Truth, Error, Label}
use Rattle.value_core.specs.Values.{truth_text, error_text}
use Rattle.formula_syntax.specs.declared.edition.Edition.{Edition}
use Rattle.formula_syntax.specs.Lexing.{IsSpelt}
use Rattle.formula_syntax.specs.Spelling.{IsIntroduced, IsTooDeep, IsNoFormula, HasTooManyRefs, IsRead}
use Rattle.sheet_model.specs.Labels.{IsTable, with_label}
use Rattle.sheet_model.specs.Sheets.{ContentValue, Constant, Computed}

-- digits, with or without a sign before them, that write a number of at most 2^53 - 1 in size
pub data IsNumberField : List ℕ → ℤ → Type 0 where
  unsigned : (text : List ℕ) (n : ℕ) → IsDecimal text 9007199254740991 n → IsNumberField text (pos n)
  plus : (text digits : List ℕ) (n : ℕ) → text ≡ 43 ∷ digits → IsDecimal digits 9007199254740991 n → IsNumberField text (pos n)
  minus : (text digits : List ℕ) (n : ℕ) → text ≡ 45 ∷ digits → IsDecimal digits 9007199254740991 n → IsNumberField text (neg_ℤ (pos n))

-- the name of an error, exactly; that of a circular reference is none
pub record IsErrorField (text : List ℕ) (kind : ErrorKind) : Type 0 where
  pub written : kind ≢ Circ
  pub name : text ≡ error_text kind

-- the number, the truth and the error that a field writes; None exactly where it writes none
abbrev pub IsNumberOf : List ℕ → Option ℤ → Type 0
IsNumberOf text result = MatchOption result ((number : ℤ) → ¬ IsNumberField text number) (IsNumberField text)

abbrev pub IsTruthOf : List ℕ → Option Bool → Type 0
IsTruthOf text result =
    MatchOption result ((truth : Bool) → ¬ IsSpelt text (truth_text truth)) (λ truth. IsSpelt text (truth_text truth))

abbrev pub IsErrorOf : List ℕ → Option ErrorKind → Type 0
IsErrorOf text result = MatchOption result ((kind : ErrorKind) → ¬ IsErrorField text kind) (IsErrorField text)

-- a text that begins as a formula does
abbrev pub BeginsFormula : List ℕ → Type 0
BeginsFormula text = (rest : List ℕ) × IsIntroduced text rest

-- a text that begins as a formula and is outside the grammar, or names a function that the edition lacks
pub record IsFaultyFormula (edition : Edition) (text : List ℕ) : Type 0 where
  pub begins : BeginsFormula text
  pub none : IsNoFormula edition text

-- any other text
pub record IsLabelField (text : List ℕ) : Type 0 where
  pub some : text ≢ []
  pub no_number : (number : ℤ) → ¬ IsNumberField text number
  pub no_truth : (truth : Bool) → ¬ IsSpelt text (truth_text truth)
  pub no_error : (kind : ErrorKind) → ¬ IsErrorField text kind
  pub no_formula : ¬ BeginsFormula text

-- the text writes the content in an edition, where labels stand in this table
abbrev pub IsContent : Edition → List (List ℕ) → List ℕ → ContentValue → Type 0
IsContent edition labels text (Constant Empty) = text ≡ []
IsContent edition labels text (Constant (Number number)) = IsNumberField text number
IsContent edition labels text (Constant (Truth truth)) = IsSpelt text (truth_text truth)
IsContent edition labels text (Constant (Error kind)) = IsErrorField text kind ⊎ ((kind ≡ Name) × IsFaultyFormula edition text)
IsContent edition labels text (Constant (Label place)) = IsLabelField text × (slice_get labels place ≡ Some text)
IsContent edition labels text (Computed tree) = IsRead edition text tree

-- a formula that opens too many parentheses at some place
pub record IsDeepFormula (text : List ℕ) : Type 0 where
  pub begins : BeginsFormula text
  pub deep : IsTooDeep text

-- what reading a text does to the table: a label's text is there afterwards, and another one's changes nothing
pub data IsTableAfter : List ℕ → List (List ℕ) → List (List ℕ) → Type 0 where
  label : (text : List ℕ) (old new : List (List ℕ)) → IsLabelField text → new ≡ with_label old text → IsTableAfter text old new
  other : (text : List ℕ) (old new : List (List ℕ)) → ¬ IsLabelField text → new ≡ old → IsTableAfter text old new

-- over a table a text writes at most one content
abbrev pub WritesOneContent : Type 0
WritesOneContent =
    (edition : Edition) (labels : List (List ℕ)) (text : List ℕ) (a b : ContentValue) → IsTable labels
    → IsContent edition labels text a → IsContent edition labels text b → a ≡ b

-- a text that is refused writes none
abbrev pub RefusedWritesNone : Type 0
RefusedWritesNone =
    (edition : Edition) (labels : List (List ℕ)) (text : List ℕ) (content : ContentValue)
    → IsDeepFormula text ⊎ HasTooManyRefs edition text → ¬ IsContent edition labels text content
