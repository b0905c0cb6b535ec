-- The spelling of a reference splits in one way: at its `$`, its letters and its colon.
use Rattle.std.proofs.Common.{◌≡◌, ◌≢◌, ℕ, zero, suc, ◌+◌, ◌<◌, Bool, true, false, List, [], ◌∷◌, ◌++◌, length, get_or}
use Rattle.std.proofs.Common.{take, drop, refl, sym, ◌∙◌, ap, subst, arith, inl, inr}
use Rattle.std.specs.List.{prefix_len, position_or_len, position, All}
use Rattle.std.specs.Prelude.{Option, Some, None, MatchOption, ◌==◌, not}
use Rattle.std.specs.Char.{is_ascii_alphabetic}
use Rattle.std.proofs.lemmas.List.{append-nil, length-append}
use Rattle.std.proofs.lemmas.List.Elements.{All-append}
use Rattle.std.proofs.Math.Seq.{drop-append_seam, drop-append-add}
use Rattle.std.proofs.lemmas.Option.{none-some, same_Some}
use Rattle.std.proofs.lemmas.Bool.Decides.{nat_tests}
use Rattle.sheet_refs.specs.Cells.{Position, IsNamed}
use Rattle.sheet_refs.specs.Names.{IsLetter, IsDigit, IsColumnName, IsRowName}
use Rattle.sheet_refs.specs.Ends.{Anchor, Reference, IsReference, IsAnchorName, IsEndName, IsReferenceName, has_dollar, past_dollar, dollar, one_end, two_ends}
use Rattle.sheet_refs.specs.Ends.IsReferenceName.{alone, joined}
use Rattle.sheet_refs.proofs.NameLemmas.{front_len, take_front, is_colon, at_place, no_place, first_row, first_col}
use Rattle.sheet_refs.proofs.Grid.{same_position}

letter_passes : (b : ℕ) → IsLetter b → is_ascii_alphabetic b ≡ true
letter_passes b (inl h) = grind (arith, nat_tests)
letter_passes b (inr h) = grind (arith, nat_tests)

letter_no_dollar : (b : ℕ) → IsLetter b → (b == 36) ≡ false
letter_no_dollar b (inl h) = grind (arith, nat_tests)
letter_no_dollar b (inr h) = grind (arith, nat_tests)

digit_fails : (b : ℕ) → IsDigit b → is_ascii_alphabetic b ≡ false
digit_fails b h = grind (arith, nat_tests)

digit_no_dollar : (b : ℕ) → IsDigit b → (b == 36) ≡ false
digit_no_dollar b h = grind (arith, nat_tests)

-- what a `$` before letters or digits tells
dollar_tells : (fixed : Bool) (text : List ℕ) → has_dollar text ≡ false → (has_dollar (dollar fixed ++ text) ≡ fixed)
    × (past_dollar (dollar fixed ++ text) ≡ text)
dollar_tells true text h = (refl, refl)
dollar_tells false [] h = (refl, refl)
dollar_tells false (b ∷ bs) h = (h, rw h refl)

letters_first : (letters rest : List ℕ) (col : ℕ) → IsColumnName letters col → has_dollar (letters ++ rest) ≡ false
letters_first [] rest col column = absurd (omega (arith, column.some))
letters_first (b ∷ bs) rest col column = letter_no_dollar b (column.letters 0 0 column.some)

digits_first : (digits : List ℕ) (row : ℕ) → IsRowName digits row → has_dollar digits ≡ false
digits_first [] row name = refl
digits_first (d ∷ ds) row name = digit_no_dollar d (name.number.digits 0 0 name.number.some)

behind_letters : (fixed : Bool) (digits : List ℕ) (row : ℕ) → IsRowName digits row → 0 < length (dollar fixed ++ digits)
    → is_ascii_alphabetic (get_or (dollar fixed ++ digits) 0 0) ≡ false
behind_letters true digits row name h = refl
behind_letters false [] row name h = absurd (omega (arith, name.number.some))
behind_letters false (d ∷ ds) row name h = digit_fails d (name.number.digits 0 0 name.number.some)

-- the parts of an end's name, as a reader finds them
abbrev pub column_part : List ℕ → List ℕ
column_part text = take (prefix_len is_ascii_alphabetic (past_dollar text)) (past_dollar text)

abbrev pub row_part : List ℕ → List ℕ
row_part text = drop (prefix_len is_ascii_alphabetic (past_dollar text)) (past_dollar text)

pub record Parts (text : List ℕ) (end : Anchor) : Type 0 where
  pub col_fixed : has_dollar text ≡ end.col_fixed
  pub column : IsColumnName (column_part text) end.cell.col
  pub row_fixed : has_dollar (row_part text) ≡ end.row_fixed
  pub row : IsRowName (past_dollar (row_part text)) end.cell.row

pub parts : (text : List ℕ) (end : Anchor) → IsAnchorName text end → Parts text end
parts text end name =
    let behind = dollar end.row_fixed ++ name.digits in
    let first = dollar_tells end.col_fixed (name.letters ++ behind) (letters_first name.letters behind end.cell.col name.column) in
    let second = dollar_tells end.row_fixed name.digits (digits_first name.digits end.cell.row name.row) in
    let past : past_dollar text ≡ name.letters ++ behind = ap past_dollar name.text_is ∙ first.1 in
    let front : prefix_len is_ascii_alphabetic (name.letters ++ behind) ≡ length name.letters =
    front_len is_ascii_alphabetic name.letters behind (λ k d h. letter_passes _ (name.column.letters k d h))
    (behind_letters end.row_fixed name.digits end.cell.row name.row) in
    let letters : column_part text ≡ name.letters = rw (past, front) (take_front name.letters behind) in
    let digits : row_part text ≡ behind = rw (past, front) (drop-append_seam name.letters behind) in
    record {
      col_fixed = ap has_dollar name.text_is ∙ first.0;
      column = rw letters name.column;
      row_fixed = ap has_dollar digits ∙ second.0;
      row = rw (digits, second.1) name.row;
    }

abbrev at_anchor : Position → Bool → Bool → Anchor
at_anchor cell col_fixed row_fixed = record { cell = cell; col_fixed = col_fixed; row_fixed = row_fixed }

same_anchor : {p q : Position} {a b c d : Bool} → p ≡ q → a ≡ b → c ≡ d → at_anchor p a c ≡ at_anchor q b d
same_anchor cell col row = cc

pub one_anchor : (text : List ℕ) (a b : Anchor) → IsAnchorName text a → IsAnchorName text b → a ≡ b
one_anchor text a b name other =
    let p = parts text a name in
    let q = parts text b other in
    let row : a.cell.row ≡ b.cell.row = p.row.number.value ∙ sym q.row.number.value in
    let col : a.cell.col ≡ b.cell.col = p.column.value ∙ sym q.column.value in
    same_anchor (same_position row col) (sym p.col_fixed ∙ q.col_fixed) (sym p.row_fixed ∙ q.row_fixed)

pub one_end_name : (dotted : Bool) (text : List ℕ) (a b : Anchor) → IsEndName dotted text a → IsEndName dotted text b → a ≡ b
one_end_name false text a b name other = one_anchor text a b name other
one_end_name true text a b (name, split, is) (other, apart, also) =
    let same : name ≡ other = cc in
    one_anchor other a b (subst (λ (t : List ℕ). IsAnchorName t a) same is) also

-- an end's name has no colon
abbrev Free : List ℕ → Type 0
Free text = All (λ byte. not (is_colon byte) ≡ true) text

letters_free : (letters : List ℕ) → All IsLetter letters → Free letters
letters_free letters all k d h = one _ (all k d h)
  where
    one : (b : ℕ) → IsLetter b → not (is_colon b) ≡ true
    one b (inl h) = grind (arith, nat_tests)
    one b (inr h) = grind (arith, nat_tests)

digits_free : (digits : List ℕ) → All IsDigit digits → Free digits
digits_free digits all k d h = one _ (all k d h)
  where
    one : (b : ℕ) → IsDigit b → not (is_colon b) ≡ true
    one b h = grind (arith, nat_tests)

single_free : (b : ℕ) → not (is_colon b) ≡ true → Free (b ∷ [])
single_free b h zero d k = h
single_free b h (suc i) d k = absurd (omega (arith, k))

dollar_free : (fixed : Bool) → Free (dollar fixed)
dollar_free true = single_free 36 refl
dollar_free false = λ k d h. absurd (omega (arith, h))

free_append : (xs ys : List ℕ) → Free xs → Free ys → Free (xs ++ ys)
free_append xs ys f g = All-append (λ byte. not (is_colon byte) ≡ true) xs ys f g

anchor_free : (text : List ℕ) (end : Anchor) → IsAnchorName text end → Free text
anchor_free text end name = rw name.text_is
    (free_append (dollar end.col_fixed) (name.letters ++ (dollar end.row_fixed ++ name.digits)) (dollar_free end.col_fixed)
    (free_append name.letters (dollar end.row_fixed ++ name.digits) (letters_free name.letters name.column.letters)
    (free_append (dollar end.row_fixed) name.digits (dollar_free end.row_fixed) (digits_free name.digits name.row.number.digits))))

end_free : (dotted : Bool) (text : List ℕ) (end : Anchor) → IsEndName dotted text end → Free text
end_free false text end name = anchor_free text end name
end_free true text end (name, split, is) = rw split (free_append (46 ∷ []) name (single_free 46 refl) (anchor_free name end is))

-- one end's name has no colon, and of two joined it stands behind the first
pub lone_colon : (text : List ℕ) → Free text → position is_colon text ≡ None
lone_colon text free =
    let all = front_len (λ b. not (is_colon b)) text [] free (λ h. absurd (omega (arith, h))) in
    let e : position_or_len is_colon text ≡ length text = rw append-nil at all in
    rw e (no_place (length text))

pub first_colon : (text first second : List ℕ) → text ≡ first ++ 58 ∷ second → Free first → position is_colon text ≡ Some (length first)
first_colon text first second split free =
    let e = front_len (λ b. not (is_colon b)) first (58 ∷ second) free (λ _. refl) in
    let whole = length-append first (58 ∷ second) in
    rw split (rw e (at_place (length first) _ (omega (arith, whole))))

pub end_colon : (dotted : Bool) (text : List ℕ) (end : Anchor) → IsEndName dotted text end → position is_colon text ≡ None
end_colon dotted text end name = lone_colon text (end_free dotted text end name)

pub joined_colon : (dotted : Bool) (text first second : List ℕ) (a : Anchor) → text ≡ first ++ 58 ∷ second
    → IsEndName dotted first a → position is_colon text ≡ Some (length first)
joined_colon dotted text first second a split name = first_colon text first second split (end_free dotted first a name)

-- a text without a colon spells one end or nothing
pub no_lone_end : (dotted : Bool) (text : List ℕ) → position is_colon text ≡ None
    → ((end : Anchor) → ¬ IsEndName dotted text end) → (r : Reference) → ¬ IsReferenceName dotted text r
no_lone_end dotted text lone none r (alone _ _ a name) = none a name
no_lone_end dotted text lone none r (joined _ _ first second a b split head tail) =
    none-some _ (sym lone ∙ joined_colon dotted text first second a split head)

before_colon : (dotted : Bool) (text first second : List ℕ) (a : Anchor) (colon : ℕ)
    → position is_colon text ≡ Some colon → text ≡ first ++ 58 ∷ second → IsEndName dotted first a
    → take colon text ≡ first
before_colon dotted text first second a colon found split head =
    let e : colon ≡ length first = same_Some _ _ (sym found ∙ joined_colon dotted text first second a split head) in
    rw (e, split) (take_front first (58 ∷ second))

behind_colon : (dotted : Bool) (text first second : List ℕ) (a : Anchor) (colon : ℕ)
    → position is_colon text ≡ Some colon → text ≡ first ++ 58 ∷ second → IsEndName dotted first a
    → drop (colon + 1) text ≡ second
behind_colon dotted text first second a colon found split head =
    let e : colon ≡ length first = same_Some _ _ (sym found ∙ joined_colon dotted text first second a split head) in
    rw (e, split) (drop-append-add first (58 ∷ second) 1)

pub no_first_end : (dotted : Bool) (text : List ℕ) (colon : ℕ) → position is_colon text ≡ Some colon
    → ((end : Anchor) → ¬ IsEndName dotted (take colon text) end) → (r : Reference) → ¬ IsReferenceName dotted text r
no_first_end dotted text colon found none r (alone _ _ a name) = none-some _ (sym (end_colon dotted text a name) ∙ found)
no_first_end dotted text colon found none r (joined _ _ first second a b split head tail) =
    none a (rw (before_colon dotted text first second a colon found split head) head)

pub no_second_end : (dotted : Bool) (text : List ℕ) (colon : ℕ) → position is_colon text ≡ Some colon
    → ((end : Anchor) → ¬ IsEndName dotted (drop (colon + 1) text) end) → (r : Reference)
    → ¬ IsReferenceName dotted text r
no_second_end dotted text colon found none r (alone _ _ a name) = none-some _ (sym (end_colon dotted text a name) ∙ found)
no_second_end dotted text colon found none r (joined _ _ first second a b split head tail) =
    none b (rw (behind_colon dotted text first second a colon found split head) tail)

-- a text spells one reference
pub one_reference : (dotted : Bool) (text : List ℕ) (a b : Reference) → IsReferenceName dotted text a → IsReferenceName dotted text b → a ≡ b
one_reference dotted text _ _ (alone _ _ a name) (alone _ _ b other) = ap one_end (one_end_name dotted text a b name other)
one_reference dotted text _ _ (alone _ _ a name) (joined _ _ first second b d split head tail) =
    absurd (none-some _ (sym (end_colon dotted text a name) ∙ joined_colon dotted text first second b split head))
one_reference dotted text _ _ (joined _ _ first second b d split head tail) (alone _ _ a name) =
    absurd (none-some _ (sym (end_colon dotted text a name) ∙ joined_colon dotted text first second b split head))
one_reference dotted text _ _ (joined _ _ first second a b split head tail) (joined _ _ third fourth c d apart front back) =
    let colon = joined_colon dotted text first second a split head in
    let same_first : first ≡ third = sym (before_colon dotted text first second a (length first) colon split head)
    ∙ before_colon dotted text third fourth c (length first) colon apart front in
    let same_second : second ≡ fourth = sym (behind_colon dotted text first second a (length first) colon split head)
    ∙ behind_colon dotted text third fourth c (length first) colon apart front in
    let e : a ≡ c = one_end_name dotted third a c (subst (λ (t : List ℕ). IsEndName dotted t a) same_first head) front in
    let f : b ≡ d = one_end_name dotted fourth b d (subst (λ (t : List ℕ). IsEndName dotted t b) same_second tail) back in
    ap (λ (x : Anchor). two_ends x b) e ∙ ap (λ (x : Anchor). two_ends c x) f

-- a column's and a row's name name a cell
pub named_from : (letters digits : List ℕ) (col row : ℕ) → IsColumnName letters col → IsRowName digits row → IsNamed row col
named_from letters digits col row column number =
    record { row_from = first_row digits row number; row_to = number.number.within; col_from = first_col letters col column; col_to = column.within }

-- without a dot in front nothing within brackets is spelt
pub no_dot : (text : List ℕ) → ((name : List ℕ) → text ≢ 46 ∷ name) → (end : Anchor) → ¬ IsEndName true text end
no_dot text none end (name, split, is) = none name split

-- what stands behind a dot
pub behind_dot : (dotted : Bool) (text name : List ℕ) (o : Option Anchor) → dotted ≡ true → text ≡ 46 ∷ name
    → MatchOption o ((end : Anchor) → ¬ IsAnchorName name end) (IsAnchorName name)
    → MatchOption o ((end : Anchor) → ¬ IsEndName dotted text end) (IsEndName dotted text)
behind_dot false text name o is split m = absurd (cc is)
behind_dot true text name None is split m = λ end (other, apart, also). let same : other ≡ name = cc in
    m end (subst (λ (t : List ℕ). IsAnchorName t end) same also)
behind_dot true text name (Some end) is split m = (name, split, m)

anchor_named : (dotted : Bool) (text : List ℕ) (end : Anchor) → IsEndName dotted text end → IsNamed end.cell.row end.cell.col
anchor_named false text end name = named_from name.letters name.digits end.cell.col end.cell.row name.column name.row
anchor_named true text end (_, _, name) = named_from name.letters name.digits end.cell.col end.cell.row name.column name.row

-- what a text spells is a reference, with ends in order
pub reference_kept : (dotted : Bool) (text : List ℕ) (r : Reference) → IsReferenceName dotted text r → IsReference r.head r.tail r.single
reference_kept dotted text _ (alone _ _ a name) =
    let named = anchor_named dotted text a name in
    record { head_named = named; tail_named = named; ordered = record { rows = omega arith; cols = omega arith }; one_end = λ _. refl }
reference_kept dotted text _ (joined _ _ first second a b split head tail) =
    let one = anchor_named dotted first a head in
    let two = anchor_named dotted second b tail in
    record {
      head_named = record {
        row_from = omega (arith, one.row_from, two.row_from);
        row_to = omega (arith, one.row_to, two.row_to);
        col_from = omega (arith, one.col_from, two.col_from);
        col_to = omega (arith, one.col_to, two.col_to);
      };
      tail_named = record {
        row_from = omega (arith, one.row_from, two.row_from);
        row_to = omega (arith, one.row_to, two.row_to);
        col_from = omega (arith, one.col_from, two.col_from);
        col_to = omega (arith, one.col_to, two.col_to);
      };
      ordered = record { rows = omega arith; cols = omega arith };
      one_end = λ e. absurd (cc);
    }
