-- What the fields of a generated sheet write: short texts, none of which is a label.
use Rattle.std.proofs.Common.{ℕ, pos, ◌-◌, ◌<◌, ◌≤◌, ◌==◌, Bool, true, false, List, ◌∷◌, ◌++◌, length, take, cond, refl, ap, arith}
use Rattle.std.specs.Prelude.{codes}
use Rattle.std.specs.Fmt.{decimal}
use Rattle.std.proofs.lemmas.Fmt.{length-decimal-le}
use Rattle.std.proofs.lemmas.List.{length-append, length-take}
use Rattle.std.proofs.lemmas.List.Sums.{count_by-le-length}
use Rattle.sheet_refs.proofs.PrintLemmas.{decimal_printed}
use Rattle.formula_syntax.specs.declared.tokens.Token.{Token}
use Rattle.formula_syntax.specs.Lexing.{HasTokens}
use Rattle.formula_syntax.specs.declared.edition.Edition.{Edition}
use Rattle.formula_syntax.specs.Lexing.HasTokens.{nothing, blank, next}
use Rattle.formula_syntax.specs.Spelling.{HasTooManyRefs, IsTooDeep, Spells, is_reference_token}
use Rattle.formula_syntax.specs.Spelling.IsIntroduced.{plain}
use Rattle.formula_syntax.specs.Tree.{Tree, references_of}
use Rattle.formula_syntax.proofs.Measures.{references_counted}
use Rattle.formula_syntax.proofs.Spells.{introduction_length}
use Rattle.formula_syntax.proofs.TokenLemmas.{token_some}
use Rattle.sheet_model.specs.Fields.{IsLabelField}
use Rattle.sheet_model.specs.Fields.IsNumberField.{unsigned}
use Rattle.live_gen.specs.Rows.{field_text, chain_text}
use Rattle.live_gen.specs.declared.column.Column.{Column}
use Rattle.live_gen.specs.declared.column.Column.TheVariants.{A, B, C, D, E, F, G}

-- a text of at most 64 bytes opens no more parentheses than may be open
pub not_deep : (text : List ℕ) → length text ≤ 64 → ¬ IsTooDeep text
not_deep text short (front, more) =
    omega (arith, more, short, count_by-le-length (λ (b : ℕ). b == 40) (take front text), length-take front text)

-- a text has at most as many tokens as bytes
tokens_within : (text : List ℕ) (ts : List Token) → HasTokens text ts → length ts ≤ length text
tokens_within text _ (nothing _ e) = omega arith
tokens_within text ts (blank _ b rest _ split is more) = omega (arith, tokens_within rest ts more, ap length split)
tokens_within text _ (next _ piece rest t ts split is more) =
    omega (arith, tokens_within rest ts more, token_some piece rest t is, ap length split, length-append piece rest)

-- and no more references than bytes
few_references : (text : List ℕ) (tree : Tree) → Spells text tree → length (references_of tree) ≤ length text
few_references text tree spelt =
    let counted = references_counted 0 spelt.tokens tree spelt.derived in
    let among = count_by-le-length is_reference_token spelt.tokens in
    let tokens = tokens_within spelt.rest spelt.tokens spelt.has_tokens in
    let behind = introduction_length text spelt.rest spelt.introduced in
    omega (arith, counted, among, tokens, behind)

pub not_many : (edition : Edition) (text : List ℕ) → length text ≤ 64 → ¬ HasTooManyRefs edition text
not_many edition text short (shallow, tree, spelt, many) = omega (arith, short, many, few_references text tree spelt.spelt)

-- a text that begins as a formula is no label, nor is a number
formula_no_label : (rest : List ℕ) → ¬ IsLabelField (61 ∷ rest)
formula_no_label rest is = is.no_formula (rest, plain (61 ∷ rest) rest refl)

number_no_label : (n : ℕ) → n ≤ 9007199254740991 → ¬ IsLabelField (decimal n)
number_no_label n small is = is.no_number (pos n) (unsigned (decimal n) n (decimal_printed 9007199254740991 n small (omega (arith, small))))

chain_no_label : (row : ℕ) → ¬ IsLabelField (chain_text row)
chain_no_label row = go (row == 1)
  where
    go : (first : Bool) → ¬ IsLabelField (cond first (codes "=A1") (codes "=C" ++ (decimal (row - 1) ++ (codes "+A" ++ decimal row))))
    go true = formula_no_label (codes "A1")
    go false = formula_no_label (codes "C" ++ (decimal (row - 1) ++ (codes "+A" ++ decimal row)))

pub no_label : (column : Column) (row drawn : ℕ) → drawn < 1000 → ¬ IsLabelField (field_text column row drawn)
no_label A row drawn small = number_no_label drawn (omega (arith, small))
no_label B row drawn small = formula_no_label (codes "SUM($A$1:A" ++ (decimal row ++ codes ")"))
no_label C row drawn small = chain_no_label row
no_label D row drawn small = formula_no_label (codes "IF(A" ++ (decimal row ++ (codes ">500;B" ++ (decimal row ++ (codes ";C" ++ (decimal row ++ codes ")"))))))
no_label E row drawn small = formula_no_label (codes "A" ++ (decimal row ++ codes "*$A$1"))
no_label F row drawn small = formula_no_label (codes "SUM(A" ++ (decimal row ++ codes ":$A$1000)"))
no_label G row drawn small = formula_no_label (codes "MOD(B" ++ (decimal row ++ codes ";7)"))

-- a number below 10,000 has at most four digits
four : (n : ℕ) → n < 10000 → length (decimal n) ≤ 4
four n small = length-decimal-le 4 n (omega arith) (omega (arith, small)) (omega (arith, small))

one_number : (front back : List ℕ) (n : ℕ) → length front ≤ 12 → length back ≤ 12 → n < 10000 → length (front ++ (decimal n ++ back)) ≤ 64
one_number front back n few least small = omega (arith, few, least, four n small, length-append front (decimal n ++ back), length-append (decimal n) back)

chain_short : (row : ℕ) → row < 10000 → length (chain_text row) ≤ 64
chain_short row small = go (row == 1)
  where
    go : (first : Bool) → length (cond first (codes "=A1") (codes "=C" ++ (decimal (row - 1) ++ (codes "+A" ++ decimal row)))) ≤ 64
    go true = omega arith
    go false =
        omega (
          arith,
          four row small,
          four (row - 1) (omega (arith, small)),
          length-append (codes "=C") (decimal (row - 1) ++ (codes "+A" ++ decimal row)),
          length-append (decimal (row - 1)) (codes "+A" ++ decimal row),
          length-append (codes "+A") (decimal row),
        )

pub short : (column : Column) (row drawn : ℕ) → row < 10000 → drawn < 1000 → length (field_text column row drawn) ≤ 64
short A row drawn small few = omega (arith, four drawn (omega (arith, few)))
short B row drawn small few = one_number (codes "=SUM($A$1:A") (codes ")") row (omega arith) (omega arith) small
short C row drawn small few = chain_short row small
short D row drawn small few =
    let last = codes ")" in
    let else_text = codes ";C" ++ (decimal row ++ last) in
    let then_text = codes ">500;B" ++ (decimal row ++ else_text) in
    omega (
      arith,
      four row small,
      length-append (codes "=IF(A") (decimal row ++ then_text),
      length-append (decimal row) then_text,
      length-append
          (codes ">500;B") (decimal row ++ else_text),
      length-append (decimal row) else_text,
      length-append (codes ";C") (decimal row ++ last),
      length-append
          (decimal row) last,
    )
short E row drawn small few = one_number (codes "=A") (codes "*$A$1") row (omega arith) (omega arith) small
short F row drawn small few = one_number (codes "=SUM(A") (codes ":$A$1000)") row (omega arith) (omega arith) small
short G row drawn small few = one_number (codes "=MOD(B") (codes ";7)") row (omega arith) (omega arith) small
