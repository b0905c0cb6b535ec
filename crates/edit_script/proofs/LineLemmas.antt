-- Lines of a word and something behind it, and lines that say nothing.
use Rattle.std.proofs.Common.{◌≡◌, ◌≢◌, ◌⊎◌, ◌<◌, ◌≤◌, ℕ, zero, suc, true, nat_le, List, [], ◌∷◌, ◌++◌, length, get_or}
use Rattle.std.proofs.Common.{All, refl, sym, ap, subst, ◌∙◌, arith, inl, inr, ⊎_elim, length-append}
use Rattle.std.specs.Prelude.{IsUtf8, codes}
use Rattle.std.proofs.Math.Seq.{get_or-append_seam}
use Rattle.std.specs.List.{list_all}
use Rattle.std.proofs.lemmas.Bool.{leb-true}
use Rattle.std.proofs.lemmas.List.Elements.{All-append, All-weaker}
use Rattle.std.proofs.lemmas.List.Sums.{AllPass-from_list_all}
use Rattle.std.proofs.lemmas.Str.{IsUtf8-from_ascii, IsUtf8-append}
use Rattle.std.proofs.lemmas.Str.Ascii.{IsAscii-from_all}
use Rattle.sheet_refs.specs.Cells.{Position, Corners}
use Rattle.sheet_refs.specs.Names.{IsLetter, IsDigit, IsCellName, IsRangeName}
use Rattle.sheet_refs.specs.Names.IsRangeName.{one, two}
use Rattle.edit_script.specs.Lines.{LineValue, Skip, IsLineOf, IsNameByte, IsOrder, IsSpaced}
use Rattle.edit_script.specs.Lines.IsLineOf.{empty, comment, begins, ends, order}
use Rattle.edit_script.specs.Lines.IsOrder.{client, set, clear, look, firm, work}
use Rattle.edit_script.proofs.SpaceLemmas.{HasNoSpace}

-- an empty line, and one that begins with `#`
pub skips : (line : List ℕ) → (length line ≡ 0) ⊎ (get_or line 0 0 ≡ 35) → IsLineOf line Skip
skips [] first = empty [] refl
skips (b ∷ rest) (inl none) = absurd (omega (arith, none))
skips (b ∷ rest) (inr hash) = comment (b ∷ rest) rest (ap (λ x. x ∷ rest) hash)

-- the word of a line is of lower-case letters
word_low : (word behind : List ℕ) (value : LineValue) → IsOrder word behind value → list_all (nat_le 97) word ≡ true
word_low word _ _ (client _ name w is_name) = ap (list_all (nat_le 97)) w
word_low word _ _ (set _ text content cell w sets) = ap (list_all (nat_le 97)) w
word_low word _ _ (clear _ name cell w is_name) = ap (list_all (nat_le 97)) w
word_low word _ _ (look _ name range w is_name) = ap (list_all (nat_le 97)) w
word_low word _ _ (firm _ name range w is_name) = ap (list_all (nat_le 97)) w
word_low word _ _ (work _ digits turns w is_turns) = ap (list_all (nat_le 97)) w

word_high : (word behind : List ℕ) (value : LineValue) → IsOrder word behind value → list_all (λ b. nat_le b 122) word ≡ true
word_high word _ _ (client _ name w is_name) = ap (list_all (λ b. nat_le b 122)) w
word_high word _ _ (set _ text content cell w sets) = ap (list_all (λ b. nat_le b 122)) w
word_high word _ _ (clear _ name cell w is_name) = ap (list_all (λ b. nat_le b 122)) w
word_high word _ _ (look _ name range w is_name) = ap (list_all (λ b. nat_le b 122)) w
word_high word _ _ (firm _ name range w is_name) = ap (list_all (λ b. nat_le b 122)) w
word_high word _ _ (work _ digits turns w is_turns) = ap (list_all (λ b. nat_le b 122)) w

lower_letters : (word behind : List ℕ) (value : LineValue) → IsOrder word behind value → All (λ b. (97 ≤ b) × (b ≤ 122)) word
lower_letters word behind value is k d within = (
  leb-true 97 (get_or word k d) (AllPass-from_list_all (nat_le 97) word (word_low word behind value is) k d within),
  leb-true (get_or word k d) 122 (AllPass-from_list_all (λ b. nat_le b 122) word (word_high word behind value is) k d within),
)

pub word_space : (word behind : List ℕ) (value : LineValue) → IsOrder word behind value → HasNoSpace word
word_space word behind value is i within =
    let lower = lower_letters word behind value is i 0 within in
    λ same. omega (arith, lower.0, same)

ascii : (text : List ℕ) → All (λ b. b < 128) text → IsUtf8 text
ascii text all = IsUtf8-from_ascii text (IsAscii-from_all text all)

letter_small : (byte : ℕ) → IsLetter byte → byte < 128
letter_small byte letter = ⊎_elim (λ upper. omega (arith, upper.1)) (λ lower. omega (arith, lower.1)) letter

digit_small : (byte : ℕ) → IsDigit byte → byte < 128
digit_small byte digit = omega (arith, digit.1)

name_small : (byte : ℕ) → IsNameByte byte → byte < 128
name_small byte name =
    ⊎_elim (letter_small byte) (λ other. ⊎_elim (digit_small byte) (λ sign. ⊎_elim (λ low. omega (arith, low))
    (λ dash. omega (arith, dash)) sign) other) name

cell_ascii : (name : List ℕ) (cell : Position) → IsCellName name cell → All (λ b. b < 128) name
cell_ascii name cell is =
    subst (All (λ b. b < 128)) (sym is.text_is)
    (All-append (λ b. b < 128) is.letters is.digits
    (All-weaker IsLetter (λ b. b < 128) letter_small is.letters is.column.letters)
    (All-weaker IsDigit (λ b. b < 128) digit_small is.digits is.row.number.digits))

spaced : (front behind : List ℕ) → IsUtf8 front → IsUtf8 behind → IsUtf8 (front ++ 32 ∷ behind)
spaced front behind first second = IsUtf8-append front (32 ∷ behind) first (IsUtf8-append (32 ∷ []) behind (ascii (32 ∷ []) one_space) second)
  where
    one_space : All (λ b. b < 128) (32 ∷ [])
    one_space zero d within = omega arith
    one_space (suc k) d within = absurd (omega (arith, within))

range_ascii : (name : List ℕ) (range : Corners) → IsRangeName name range → IsUtf8 name
range_ascii _ _ (one name cell is) = ascii name (cell_ascii name cell is)
range_ascii _ _ (two name first second a b text_is is_a is_b) =
    subst IsUtf8 (sym text_is)
    (IsUtf8-append first (58 ∷ second) (ascii first (cell_ascii first a is_a))
    (IsUtf8-append (58 ∷ []) second (ascii (58 ∷ []) one_colon) (ascii second (cell_ascii second b is_b))))
  where
    one_colon : All (λ b. b < 128) (58 ∷ [])
    one_colon zero d within = omega arith
    one_colon (suc k) d within = absurd (omega (arith, within))

behind_utf8 : (word behind : List ℕ) (value : LineValue) → IsOrder word behind value → IsUtf8 behind
behind_utf8 word _ _ (client _ name w is_name) = ascii name (All-weaker IsNameByte (λ b. b < 128) name_small name is_name.bytes)
behind_utf8 word _ _ (set _ text content cell w sets) =
    subst IsUtf8 (sym sets.text_is) (spaced sets.name content (ascii sets.name (cell_ascii sets.name cell sets.names))
    sets.utf8)
behind_utf8 word _ _ (clear _ name cell w is_name) = ascii name (cell_ascii name cell is_name)
behind_utf8 word _ _ (look _ name range w is_name) = range_ascii name range is_name
behind_utf8 word _ _ (firm _ name range w is_name) = range_ascii name range is_name
behind_utf8 word _ _ (work _ digits turns w is_turns) = ascii digits (All-weaker IsDigit (λ b. b < 128) digit_small digits is_turns.number.digits)

order_utf8 : (word behind : List ℕ) (value : LineValue) → IsOrder word behind value → IsUtf8 (word ++ 32 ∷ behind)
order_utf8 word behind value is =
    spaced word behind (ascii word (λ k d within. let lower = lower_letters word behind value is k d within in
    omega (arith, lower.1))) (behind_utf8 word behind value is)

-- a line that says something is a word, a space and what stands behind it
pub record IsOrderLine (line : List ℕ) (value : LineValue) : Type 0 where
  pub word : List ℕ
  pub behind : List ℕ
  pub text_is : IsSpaced word behind line
  pub order : IsOrder word behind value
  pub space : HasNoSpace word
  pub utf8 : IsUtf8 line

pub order_line : (line : List ℕ) (value : LineValue) → line ≢ [] → ((rest : List ℕ) → line ≢ 35 ∷ rest)
    → line ≢ codes "batch" → line ≢ codes "end" → IsLineOf line value → IsOrderLine line value
order_line line _ some no_hash no_batch no_end (empty _ none) = absurd (some none)
order_line line _ some no_hash no_batch no_end (comment _ rest is) = absurd (no_hash rest is)
order_line line _ some no_hash no_batch no_end (begins _ is) = absurd (no_batch is)
order_line line _ some no_hash no_batch no_end (ends _ is) = absurd (no_end is)
order_line line value some no_hash no_batch no_end (order _ word behind _ text_is is) = record {
  word = word;
  behind = behind;
  text_is = text_is;
  order = is;
  space = word_space word behind value is;
  utf8 = subst IsUtf8 (sym text_is) (order_utf8 word behind value is);
}

-- the words that stand alone
small_text : (text : List ℕ) → list_all (λ b. nat_le b 127) text ≡ true → IsUtf8 text
small_text text small =
    ascii text (λ k d within. let least = leb-true (get_or text k d) 127 (AllPass-from_list_all (λ b. nat_le b 127) text
    small k d within) in omega (arith, least))

large_text : (text : List ℕ) → list_all (nat_le 33) text ≡ true → HasNoSpace text
large_text text large i within =
    let least = leb-true 33 (get_or text i 0) (AllPass-from_list_all (nat_le 33) text large i 0 within) in
    λ same. omega (arith, least, same)

pub batch_space : HasNoSpace (codes "batch")
batch_space = large_text (codes "batch") refl

pub end_space : HasNoSpace (codes "end")
end_space = large_text (codes "end") refl

-- a text without spaces is no two texts with one between them
pub spaced_not : (line word behind : List ℕ) → HasNoSpace line → IsSpaced word behind line → ⊥
spaced_not line word behind none is =
    let long = length-append word (32 ∷ behind) in
    let count : length line ≡ length (word ++ 32 ∷ behind) = ap length is in
    none (length word) (omega (arith, long, count)) (ap (λ l. get_or l (length word) 0) is ∙ get_or-append_seam word 32 behind 0)

-- a line that says something, and is neither empty nor a comment, is UTF-8
pub line_utf8 : (line : List ℕ) (value : LineValue) → line ≢ [] → ((rest : List ℕ) → line ≢ 35 ∷ rest) → IsLineOf line value → IsUtf8 line
line_utf8 line _ some no_hash (empty _ none) = absurd (some none)
line_utf8 line _ some no_hash (comment _ rest is) = absurd (no_hash rest is)
line_utf8 line _ some no_hash (begins _ is) = subst IsUtf8 (sym is) (small_text (codes "batch") refl)
line_utf8 line _ some no_hash (ends _ is) = subst IsUtf8 (sym is) (small_text (codes "end") refl)
line_utf8 line value some no_hash (order _ word behind _ text_is is) = subst IsUtf8 (sym text_is) (order_utf8 word behind value is)
