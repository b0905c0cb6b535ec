-- The worked sheet: what its text's fields write, and that they make a sheet.
use Rattle.std.proofs.Common.{◌≡◌, ℕ, zero, suc, ◌-◌, ◌<◌, ◌≤◌, pos, false, true, inl, inr, All, List, [], ◌∷◌, ◌++◌}
use Rattle.std.proofs.Common.{length, take, codes, refl, sym, ◌∙◌, subst, arith, ◌≢◌, ℤ}
use Rattle.std.specs.Prelude.{◌==◌, Option, IfSome, Ok}
use Rattle.std.proofs.lemmas.Int.{ints}
use Rattle.std.proofs.lemmas.List.{append-nil, length-take}
use Rattle.std.proofs.lemmas.List.Sums.{count_by-le-length}
use Rattle.csv.specs.Machine.{next_record}
use Rattle.csv.specs.Reading.{AreRecords, Reached, default_config}
use Rattle.csv.specs.Records.{AllText}
use Rattle.csv.specs.declared.parser.State.TheVariants.{StartRecord}
use Rattle.sheet_refs.specs.Cells.{IsNamed}
use Rattle.sheet_refs.specs.Names.{IsCellName, IsDecimal, IsDigit, IsLetter, column_number}
use Rattle.sheet_refs.specs.Ends.{Anchor, IsReference, IsReferenceName, one_end}
use Rattle.sheet_refs.specs.Ends.IsReferenceName.{alone}
use Rattle.value_core.specs.Wholes.{IsWhole}
use Rattle.value_core.specs.declared.operators.BinaryOp.TheVariants.{Add}
use Rattle.value_core.specs.declared.value.ErrorKind.TheVariants.{Circ}
use Rattle.value_core.specs.declared.value.Value.TheVariants.{Number, Error}
use Rattle.formula_syntax.specs.declared.tokens.Token.{Token}
use Rattle.formula_syntax.specs.declared.tokens.Token.TheVariants as token
use Rattle.formula_syntax.specs.Tree.{Tree, number, reference, binary}
use Rattle.formula_syntax.specs.Lexing.{HasTokens, IsWord}
use Rattle.formula_syntax.specs.Lexing.HasTokens.{nothing, next}
use Rattle.formula_syntax.specs.Lexing.IsToken.{word as a_word, operator as an_operator}
use Rattle.formula_syntax.specs.Lexing.IsWord.{number as a_count, reference as a_name}
use Rattle.formula_syntax.specs.Grammar.{Derives}
use Rattle.formula_syntax.specs.Grammar.Derives.{tighter, operator, a_number, a_reference}
use Rattle.formula_syntax.specs.declared.edition.Edition.TheVariants.{One}
use Rattle.formula_syntax.specs.Spelling.{IsTooDeep, IsRead}
use Rattle.formula_syntax.specs.Spelling.IsIntroduced.{plain}
use Rattle.sheet_model.specs.Fields.{IsContent, IsNumberField, IsTableAfter}
use Rattle.sheet_model.specs.Fields.IsTableAfter.{other}
use Rattle.sheet_model.specs.Sheets.{Constant, Computed, IsHeld, IsSheet, SheetValue, content_of}
use Rattle.sheet_model.specs.Tables.{AddsLabels}
use Rattle.sheet_model.specs.Tables.AddsLabels.{done, next as and_next}
use Rattle.sheet_model.specs.Fields.IsNumberField.{unsigned}
use Rattle.csv_sheet.specs.Records.{cell_there, field_at, longest}
use Rattle.csv_sheet.specs.Results.{IsLong, IsSheetOf, IsTooLarge, NoField}
use Rattle.sheet_cli.specs.Answers.{GivesSheet}
use Rattle.sheet_cli.specs.Rows.{TellsWorked, worked_text}

-- the fields of the text, and the sheet that they write
abbrev pub worked_rows : List (List (List ℕ))
worked_rows = (codes "1" ∷ codes "=A1+1" ∷ []) ∷ (codes "2" ∷ codes "=A2+B1" ∷ []) ∷ []

abbrev pub end_at : ℕ → ℕ → Anchor
end_at row col = record { cell = record { row = row; col = col }; col_fixed = false; row_fixed = false }

abbrev pub cell_tree : ℕ → ℕ → Tree
cell_tree row col = reference (one_end (end_at row col))

abbrev pub worked_sheet : SheetValue
worked_sheet = record {
  edition = One;
  sizes = record { rows = 2; cols = 2 };
  contents =
      Constant (Number (pos 1)) ∷ Computed (binary Add (cell_tree 1 1) (number (pos 1)))
      ∷ Constant (Number (pos 2)) ∷ Computed (binary Add (cell_tree 2 1) (cell_tree 1 2)) ∷ [];
  labels = [];
}

pub one_element : (P : ℕ → Type 0) (byte : ℕ) → P byte → All P (byte ∷ [])
one_element P byte is zero d within = is
one_element P byte is (suc k) d within = absurd (omega (arith, within))

-- a digit writes a number
pub digit_number : (digit most n : ℕ) → 48 ≤ digit → digit ≤ 57 → n ≡ digit - 48 → n ≤ most → IsDecimal (digit ∷ []) most n
digit_number digit most n from to is within = record {
  some = omega arith;
  digits = one_element IsDigit digit (from, to);
  value = omega (arith, is);
  within = within;
}

pub field_of_one : IsNumberField (codes "1") (pos 1)
field_of_one = unsigned (codes "1") 1 (digit_number 49 9007199254740991 1 (omega arith) (omega arith) refl (omega arith))

pub field_of_two : IsNumberField (codes "2") (pos 2)
field_of_two = unsigned (codes "2") 2 (digit_number 50 9007199254740991 2 (omega arith) (omega arith) refl (omega arith))

-- a letter and a digit name a cell
cell_name : (letter digit row col : ℕ) → 65 ≤ letter → letter ≤ 90 → 49 ≤ digit → digit ≤ 57 → col ≡ letter - 64
    → row ≡ digit - 48 → column_number (letter ∷ []) ≡ letter - 64
    → IsCellName (letter ∷ digit ∷ []) (record { row = row; col = col })
cell_name letter digit row col a b c d is re value = record {
  letters = letter ∷ [];
  digits = digit ∷ [];
  text_is = refl;
  column = record {
    some = omega arith;
    few = omega arith;
    letters = one_element IsLetter letter (inl (a, b));
    value = is ∙ sym value;
    within = omega (arith, is, b);
  };
  row = record {
    few = omega arith;
    first = λ (zero_digit : digit ≡ 48). omega (arith, zero_digit, c);
    number = digit_number digit 1048576 row (omega (arith, c)) d re (omega (arith, re, d));
  };
}

-- cells in the first two columns
pub in_a : (digit row : ℕ) → 49 ≤ digit → digit ≤ 57 → row ≡ digit - 48 → IsCellName (65 ∷ digit ∷ []) (record { row = row; col = 1 })
in_a digit row c d is = cell_name 65 digit row 1 (omega arith) (omega arith) c d refl is refl

pub in_b : (digit row : ℕ) → 49 ≤ digit → digit ≤ 57 → row ≡ digit - 48 → IsCellName (66 ∷ digit ∷ []) (record { row = row; col = 2 })
in_b digit row c d is = cell_name 66 digit row 2 (omega arith) (omega arith) c d refl is refl

-- and as references
end_name : (text : List ℕ) (row col : ℕ) → IsCellName text (record { row = row; col = col }) → IsReferenceName false text (one_end (end_at row col))
end_name text row col name =
    alone false text (end_at row col) (record {
      letters = name.letters;
      digits = name.digits;
      text_is = name.text_is;
      column = name.column;
      row = name.row;
    })

abbrev IsNameAt : List ℕ → ℕ → ℕ → Type 0
IsNameAt text row col = IsReferenceName false text (one_end (end_at row col))

name_a1 : IsNameAt (65 ∷ 49 ∷ []) 1 1
name_a1 = end_name (65 ∷ 49 ∷ []) 1 1 (in_a 49 1 (omega arith) (omega arith) refl)

name_a2 : IsNameAt (65 ∷ 50 ∷ []) 2 1
name_a2 = end_name (65 ∷ 50 ∷ []) 2 1 (in_a 50 2 (omega arith) (omega arith) refl)

name_b1 : IsNameAt (66 ∷ 49 ∷ []) 1 2
name_b1 = end_name (66 ∷ 49 ∷ []) 1 2 (in_b 49 1 (omega arith) (omega arith) refl)

-- a text that is short isn't too deep
pub not_deep : (text : List ℕ) → length text ≤ 64 → ¬ IsTooDeep text
not_deep text short deep =
    let few = count_by-le-length (λ b. b == 40) (take deep.0 text) in
    let cut = length-take deep.0 text in
    omega (arith, few, cut, short, deep.1)

-- what is tightest, between operators
in_sum : (ts : List Token) (t : Tree) → Derives 5 ts t → Derives 2 ts t
in_sum ts t is = tighter 2 ts t (omega arith) (tighter 3 ts t (omega arith) (tighter 4 ts t (omega arith) is))

sum_of : (first second : Token) (left right : Tree) → Derives 5 (first ∷ []) left → Derives 5 (second ∷ []) right
    → Derives 0 (first ∷ token.Operator Add ∷ second ∷ []) (binary Add left right)
sum_of first second left right is re =
    tighter 0 (first ∷ token.Operator Add ∷ second ∷ []) (binary Add left right) (omega arith)
    (operator Add (first ∷ []) (second ∷ []) left right (tighter 1 (first ∷ []) left (omega arith)
    (in_sum (first ∷ []) left is)) (in_sum (second ∷ []) right re))

-- the tokens of two words with a plus between them
plus_tokens : (first second : List ℕ) (one two : Token) → IsWord first one → IsWord second two
    → HasTokens (first ++ (43 ∷ second)) (one ∷ token.Operator Add ∷ two ∷ [])
plus_tokens first second one two is re =
    next (first ++ (43 ∷ second)) first (43 ∷ second) one (token.Operator Add ∷ two ∷ []) refl (a_word first (43 ∷ second) one is refl)
    (next (43 ∷ second) (43 ∷ []) second (token.Operator Add) (two ∷ []) refl (an_operator second Add tt)
    (next second second [] two [] (sym (append-nil second)) (a_word second [] two re tt) (nothing [] refl)))

pub first_sum : IsRead One (codes "=A1+1") (binary Add (cell_tree 1 1) (number (pos 1)))
first_sum = record {
  shallow = not_deep (codes "=A1+1") (omega arith);
  spelt = record {
    rest = codes "A1+1";
    introduced = plain (codes "=A1+1") (codes "A1+1") refl;
    tokens = token.Reference (one_end (end_at 1 1)) ∷ token.Operator Add ∷ token.Number (pos 1) ∷ [];
    has_tokens = plus_tokens (codes "A1") (codes "1") (token.Reference (one_end (end_at 1 1))) (token.Number (pos 1))
        (a_name (codes "A1") (one_end (end_at 1 1)) name_a1)
        (a_count (codes "1") 1 (digit_number 49 9007199254740991 1 (omega arith) (omega arith) refl (omega arith)));
    derived = sum_of (token.Reference (one_end (end_at 1 1))) (token.Number (pos 1)) (cell_tree 1 1) (number (pos 1))
        (a_reference (one_end (end_at 1 1))) (a_number (pos 1));
  };
  within = refl;
  few = omega arith;
}

pub second_sum : IsRead One (codes "=A2+B1") (binary Add (cell_tree 2 1) (cell_tree 1 2))
second_sum = record {
  shallow = not_deep (codes "=A2+B1") (omega arith);
  spelt = record {
    rest = codes "A2+B1";
    introduced = plain (codes "=A2+B1") (codes "A2+B1") refl;
    tokens = token.Reference (one_end (end_at 2 1)) ∷ token.Operator Add ∷ token.Reference (one_end (end_at 1 2)) ∷ [];
    has_tokens = plus_tokens (codes "A2") (codes "B1") (token.Reference (one_end (end_at 2 1)))
        (token.Reference (one_end (end_at 1 2))) (a_name (codes "A2") (one_end (end_at 2 1)) name_a2)
        (a_name (codes "B1") (one_end (end_at 1 2)) name_b1);
    derived = sum_of (token.Reference (one_end (end_at 2 1))) (token.Reference (one_end (end_at 1 2))) (cell_tree 2 1)
        (cell_tree 1 2) (a_reference (one_end (end_at 2 1))) (a_reference (one_end (end_at 1 2)));
  };
  within = refl;
  few = omega arith;
}

-- none of the fields is a label
pub number_table : (text : List ℕ) (n : ℤ) → IsNumberField text n → IsTableAfter text [] []
number_table text n is = other text [] [] (λ label. label.no_number n is) refl

formula_table : (text rest : List ℕ) → text ≡ 61 ∷ rest → IsTableAfter text [] []
formula_table text rest is = other text [] [] (λ label. label.no_formula (rest, plain text rest is)) refl

pub no_labels : AddsLabels (codes "1" ∷ codes "=A1+1" ∷ codes "2" ∷ codes "=A2+B1" ∷ []) [] []
no_labels =
    next_field _ _ (number_table (codes "1") (pos 1) field_of_one)
    (next_field _ _ (formula_table (codes "=A1+1") (codes "A1+1") refl)
    (next_field _ _ (number_table (codes "2") (pos 2) field_of_two)
    (next_field _ _ (formula_table (codes "=A2+B1") (codes "A2+B1") refl) (done [] [] [] refl refl))))
  where
    next_field : (text : List ℕ) (rest : List (List ℕ)) → IsTableAfter text [] [] → AddsLabels rest [] [] → AddsLabels (text ∷ rest) [] []
    next_field text rest is more = and_next (text ∷ rest) text rest [] [] [] refl is more

-- the records of the text
pub the_rows : AreRecords default_config StartRecord worked_text worked_rows
unfolding Reached next_record
the_rows = (
  StartRecord,
  [],
  (
    (codes "1" ∷ codes "=A1+1" ∷ [], StartRecord, codes "2,=A2+B1\n"),
    refl,
    refl,
    ((codes "2" ∷ codes "=A2+B1" ∷ [], StartRecord, []), refl, refl, (refl, refl)),
  ),
  refl,
)

named_end : (row col : ℕ) → 1 ≤ row → row ≤ 9 → 1 ≤ col → col ≤ 9 → IsReference (end_at row col) (end_at row col) true
named_end row col a b c d = record { head_named = named; tail_named = named; ordered = record { rows = omega arith; cols = omega arith }; one_end = λ _. refl }
  where
    named : IsNamed row col
    named = record { row_from = a; row_to = omega (arith, b); col_from = c; col_to = omega (arith, d) }

not_circular : (n : ℤ) → Number n ≢ Error Circ
not_circular n h = cc

one_in_range : IsWhole (pos 1)
one_in_range = record { least = omega (arith, ints); most = omega (arith, ints) }

two_in_range : IsWhole (pos 2)
two_in_range = record { least = omega (arith, ints); most = omega (arith, ints) }

-- what stands in the cells may stand there
held : All (IsHeld 0) worked_sheet.contents
held zero d within = record { label = tt; written = record { in_range = one_in_range; not_circular = not_circular (pos 1) } }
held (suc zero) d within = record {
  label = tt;
  written = record {
    few_nodes = omega arith;
    few_references = omega arith;
    fitting = (named_end 1 1 (omega arith) (omega arith) (omega arith) (omega arith), (1, omega arith, refl));
  };
}
held (suc (suc zero)) d within = record { label = tt; written = record { in_range = two_in_range; not_circular = not_circular (pos 2) } }
held (suc (suc (suc zero))) d within = record {
  label = tt;
  written = record {
    few_nodes = omega arith;
    few_references = omega arith;
    fitting = (named_end 2 1 (omega arith) (omega arith) (omega arith) (omega arith), named_end 1 2 (omega arith) (omega arith) (omega arith) (omega arith));
  };
}
held (suc (suc (suc (suc k)))) d within = absurd (omega (arith, within))

pub is_sheet : IsSheet worked_sheet
is_sheet = record {
  size = record { cells = omega arith; narrow = omega arith; no_rows = λ (none : 2 ≡ 0). omega (arith, none); no_cols = λ (none : 2 ≡ 0). omega (arith, none) };
  filled = refl;
  table = record { distinct = λ i j d e within. absurd (omega (arith, within)); few = omega arith };
  held = held;
}

-- ---- what the text gives

all_text : All AllText worked_rows
unfolding AllText lib.Utf8.encode
all_text zero d within = ((codes "1", (refl, refl)), ((codes "=A1+1", (refl, refl)), tt))
all_text (suc zero) d within = ((codes "2", (refl, refl)), ((codes "=A2+B1", (refl, refl)), tt))
all_text (suc (suc k)) d within = absurd (omega (arith, within))

short_fields : NoField IsLong worked_rows
short_fields zero zero within long = omega (arith, long)
short_fields zero (suc zero) within long = omega (arith, long)
short_fields zero (suc (suc col)) within long = omega (arith, within)
short_fields (suc zero) zero within long = omega (arith, long)
short_fields (suc zero) (suc zero) within long = omega (arith, long)
short_fields (suc zero) (suc (suc col)) within long = omega (arith, within)
short_fields (suc (suc row)) col within long = omega (arith, within)

not_large : ¬ IsTooLarge worked_rows
not_large (inl cells) = omega (arith, cells)
not_large (inr wide) = omega (arith, wide)

in_cells : (row col : ℕ) → row < length worked_rows → col < longest worked_rows
    → IsContent One [] (field_at worked_rows row col) (content_of worked_sheet (cell_there row col))
in_cells zero zero r c = field_of_one
in_cells zero (suc zero) r c = first_sum
in_cells zero (suc (suc col)) r c = absurd (omega (arith, c))
in_cells (suc zero) zero r c = field_of_two
in_cells (suc zero) (suc zero) r c = second_sum
in_cells (suc zero) (suc (suc col)) r c = absurd (omega (arith, c))
in_cells (suc (suc row)) col r c = absurd (omega (arith, r))

sheet_of_rows : IsSheetOf One worked_rows worked_sheet
sheet_of_rows = record {
  readable = record { text = all_text; fits = not_large; short = short_fields };
  kept = is_sheet;
  edition_is = refl;
  sizes = refl;
  labels = no_labels;
  cells = in_cells;
}

pub gives_worked : (holds : List ℕ → Option (List ℕ)) → TellsWorked holds → GivesSheet holds (codes "s") (Ok worked_sheet)
gives_worked holds here = record {
  text = worked_text;
  stands = record {
    told = subst (λ o. IfSome o (λ t. worked_text ≡ t)) (sym here) refl;
    short = subst (λ o. IfSome o (λ t. length t ≤ 16777216)) (sym here) (omega arith);
  };
  gives = record { rows = worked_rows; has = the_rows; answer = sheet_of_rows };
}
