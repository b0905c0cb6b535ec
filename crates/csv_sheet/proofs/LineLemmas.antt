-- The record that csv reads where a line without quotes stands.
use Rattle.std.proofs.Common.{◌≡◌, ℕ, zero, suc, ◌+◌, ◌<◌, ◌≤◌, ◌⊎◌, Bool, true, false, List, [], ◌∷◌, ◌++◌, length, take, drop, get_or, Some}
use Rattle.memchr.specs.Find.{IsFirstByte}
use Rattle.std.proofs.Common.{◌≢◌, Option, None, inl, inr, refl, sym, ◌∙◌, ap, subst, arith, if◌then◌else◌, append_assoc, length-drop}
use Rattle.std.proofs.Common.{length-append, get_or-drop, add-one, ap₂, IsTrue}
use Rattle.std.specs.Prelude.{◌==◌, ◌||◌, not, cond, count_by, max, slice_index}
use Rattle.std.specs.Option.{unwrap_or}
use Rattle.std.specs.List.{prefix_len}
use Rattle.std.specs.Str.{IsAscii}
use Rattle.std.proofs.lemmas.Bool.Decides.{nat_tests}
use Rattle.std.proofs.lemmas.List.{append-nil, take-append-drop}
use Rattle.std.proofs.lemmas.List.Elements.{All-append}
use Rattle.std.proofs.lemmas.List.Folds.{list_any-append}
use Rattle.std.proofs.lemmas.List.Sums.{sum_by-cons}
use Rattle.std.proofs.lemmas.Str.{IsUtf8-from_ascii}
use Rattle.csv.specs.Machine.{Read, next_record, step, after_end}
use Rattle.csv.specs.Reading.{AreRecords, Reached, default_config}
use Rattle.csv.specs.Records.{AllText}
use Rattle.csv.specs.declared.parser.Action.TheVariants as act
use Rattle.csv.specs.declared.parser.State.{State}
use Rattle.csv.specs.declared.parser.State.TheVariants as st
use Rattle.csv.specs.declared.parser.Terminator.TheVariants as term
use Rattle.csv.proofs.ReadFacts.{reached-more}
use Rattle.csv_sheet.specs.Records.{Rows, longest}
use Rattle.csv_sheet.specs.Results.{IsLong}
use Rattle.csv_sheet.specs.Lines.{AreCounted, HasCounted, IsCountOf, IsPlain, goes_on, goes_on_field, has_quote, is_comma}
use Rattle.csv_sheet.specs.Lines.{line_fields, rows_from, rows_in, text_rows}
use Rattle.csv_sheet.specs.declared.lines.Lines.{Lines}
use Rattle.csv_sheet.proofs.RowLemmas.{length-more, longest-more, longest_both, none_both, none_more, text_more}

-- within a record, outside quotes
abbrev Inside : State → Type 0
Inside s = (s ≡ st.StartField) ⊎ (s ≡ st.InField)

not_false : (x : Bool) → not x ≡ true → x ≡ false
not_false true e = cc e
not_false false e = refl

not_true : (x y : Bool) → not (x || y) ≡ false → (x ≡ true) ⊎ (y ≡ true)
not_true true y e = inl refl
not_true false true e = inr refl
not_true false false e = cc e

or_false : (x y : Bool) → (x || y) ≡ false → (x ≡ false) × (y ≡ false)
or_false true y e = cc e
or_false false y e = (refl, e)

pub is_byte : (b c : ℕ) → (b == c) ≡ true → b ≡ c
is_byte b c e = grind (arith, nat_tests)

-- what the bytes of a line do there, and the byte that ends it
comma_step : (s : State) (b : ℕ) → Inside s → (b == 34) ≡ false → (b == 44) ≡ true
    → step default_config s b ≡ (st.StartField, act.EndField)
comma_step s b (inl e) quote is = rw (e, is_byte b 44 is) refl
comma_step s b (inr e) quote is = rw (e, is_byte b 44 is) refl

copy_step : (s : State) (b : ℕ) → Inside s → (b == 34) ≡ false → (b == 44) ≡ false → goes_on b ≡ true
    → step default_config s b ≡ (st.InField, act.Copy)
copy_step s b (inl e) quote comma on = rw (e, quote, comma, not_false ((b == 13) || (b == 10)) on) refl
copy_step s b (inr e) quote comma on = rw (e, comma, not_false ((b == 13) || (b == 10)) on) refl

end_step : (s : State) (b : ℕ) → Inside s → goes_on b ≡ false → step default_config s b ≡ (after_end term.CRLF b, act.EndRecord)
end_step s b inside ends = by inside (not_true (b == 13) (b == 10) ends)
  where
    by : Inside s → ((b == 13) ≡ true) ⊎ ((b == 10) ≡ true) → step default_config s b ≡ (after_end term.CRLF b, act.EndRecord)
    by (inl e) (inl is) = rw (e, is_byte b 13 is) refl
    by (inl e) (inr is) = rw (e, is_byte b 10 is) refl
    by (inr e) (inl is) = rw (e, is_byte b 13 is) refl
    by (inr e) (inr is) = rw (e, is_byte b 10 is) refl

-- at the start of a record a line's end is passed over, and any other byte does as at the start of a field
skip_step : (b : ℕ) → goes_on b ≡ false → step default_config st.StartRecord b ≡ (st.StartRecord, act.Skip)
skip_step b ends = by (not_true (b == 13) (b == 10) ends)
  where
    by : ((b == 13) ≡ true) ⊎ ((b == 10) ≡ true) → step default_config st.StartRecord b ≡ (st.StartRecord, act.Skip)
    by (inl is) = rw (is_byte b 13 is) refl
    by (inr is) = rw (is_byte b 10 is) refl

first_step : (b : ℕ) → goes_on b ≡ true → step default_config st.StartRecord b ≡ step default_config st.StartField b
first_step b on = rw (not_false ((b == 13) || (b == 10)) on) refl

-- behind a CR an LF is passed over too
return_step : (b : ℕ) → step default_config st.AfterCr b ≡ step default_config st.StartRecord b
return_step b = by (b == 10) refl
  where
    by : (x : Bool) → (b == 10) ≡ x → step default_config st.AfterCr b ≡ step default_config st.StartRecord b
    by true is = rw (is_byte b 10 is) refl
    by false is = rw is refl

-- a record that ends with a line, and what is behind its end
abbrev ended : List (List ℕ) → List ℕ → Read
ended fields [] = (fields, st.StartRecord, [])
ended fields (b ∷ bs) = (fields, after_end term.CRLF b, bs)

-- a record that is read up to a place of what is left
abbrev ReadsTo : List ℕ → State → List (List ℕ) → List ℕ → ℕ → Type 0
ReadsTo left s fields field n = next_record default_config s fields field left ≡ Some (ended (fields ++ line_fields field (take n left)) (drop n left))

-- the length of a front by its first byte
pub prefix_of : (test : ℕ → Bool) (b : ℕ) (bs : List ℕ) → prefix_len test (b ∷ bs) ≡ cond (test b) (suc (prefix_len test bs)) 0
prefix_of test b bs = by (test b)
  where
    by : (x : Bool) → cond x (1 + prefix_len test bs) 0 ≡ cond x (suc (prefix_len test bs)) 0
    by true = omega arith
    by false = refl

prefix_one : (b : ℕ) (bs : List ℕ) → prefix_len goes_on (b ∷ bs) ≡ cond (goes_on b) (suc (prefix_len goes_on bs)) 0
prefix_one = prefix_of goes_on

line_read : (left : List ℕ) (s : State) (fields : List (List ℕ)) (field : List ℕ) → Inside s → has_quote left ≡ false
    → ReadsTo left s fields field (prefix_len goes_on left)
unfolding next_record line_fields
line_read [] s fields field (inl e) unquoted = rw e refl
line_read [] s fields field (inr e) unquoted = rw e refl
line_read (b ∷ bs) s fields field inside unquoted =
    let plain = or_false (b == 34) (has_quote bs) unquoted in
    subst (λ n. ReadsTo (b ∷ bs) s fields field n) (sym (prefix_one b bs))
    (by plain.0 (goes_on b) refl (b == 44) refl (line_read bs st.StartField (fields ++ field ∷ []) [] (inl refl) plain.1)
    (line_read bs st.InField fields (field ++ b ∷ []) (inr refl) plain.1))
  where
    by : (b == 34) ≡ false → (on : Bool) → goes_on b ≡ on → (comma : Bool) → (b == 44) ≡ comma
        → ReadsTo bs st.StartField (fields ++ field ∷ []) [] (prefix_len goes_on bs)
        → ReadsTo bs st.InField fields (field ++ b ∷ []) (prefix_len goes_on bs)
        → ReadsTo (b ∷ bs) s fields field (cond on (suc (prefix_len goes_on bs)) 0)
    by quote false ends comma is next same = rw (end_step s b inside ends) refl
    by quote true on true is next same =
        rw (comma_step s b inside quote is, is)
        (next ∙ ap (λ all. Some (ended all (drop (prefix_len goes_on bs) bs)))
        (append_assoc fields (field ∷ []) (line_fields [] (take (prefix_len goes_on bs) bs))))
    by quote true on false is next same = rw (copy_step s b inside quote is on, is) same

first_read : (b : ℕ) (bs : List ℕ) → goes_on b ≡ true
    → next_record default_config st.StartRecord [] [] (b ∷ bs) ≡ next_record default_config st.StartField [] [] (b ∷ bs)
unfolding next_record
first_read b bs on = rw (first_step b on) refl

skip_read : (b : ℕ) (bs : List ℕ) → goes_on b ≡ false
    → next_record default_config st.StartRecord [] [] (b ∷ bs) ≡ next_record default_config st.StartRecord [] [] bs
unfolding next_record
skip_read b bs ends = rw (skip_step b ends) refl

return_read : (left : List ℕ) → next_record default_config st.AfterCr [] [] left ≡ next_record default_config st.StartRecord [] [] left
unfolding next_record
return_read [] = refl
return_read (b ∷ bs) = rw (return_step b) refl

-- behind a line's end a record starts
ended_read : (fields : List (List ℕ)) (left : List ℕ) → next_record default_config (ended fields left).1 [] [] (ended fields left).2
    ≡ next_record default_config st.StartRecord [] [] (drop 1 left)
ended_read fields [] = refl
ended_read fields (b ∷ bs) = by (b == 13) refl
  where
    by : (x : Bool) → (b == 13) ≡ x → next_record default_config (after_end term.CRLF b) [] [] bs ≡ next_record default_config st.StartRecord [] [] bs
    by true is = rw is (return_read bs)
    by false is = rw is refl

-- the fields of a line: how many they are, that they are text, and that none is longer than the line
pub many_fields : (field line : List ℕ) → length (line_fields field line) ≡ count_by is_comma line + 1
unfolding line_fields
many_fields field [] = refl
many_fields field (b ∷ bs) =
    by (b == 44) (many_fields [] bs) (many_fields (field ++ b ∷ []) bs) ∙ ap (λ n. n + 1) (sym (sum_by-cons (λ c. cond (is_comma c) 1 0) b bs))
  where
    by : (x : Bool) → length (line_fields [] bs) ≡ count_by is_comma bs + 1 → length (line_fields (field ++ b ∷ []) bs) ≡ count_by is_comma bs + 1
        → length (if x then field ∷ line_fields [] bs else line_fields (field ++ b ∷ []) bs) ≡ (cond x 1 0 + count_by is_comma bs) + 1
    by true next same = omega (arith, next)
    by false next same = omega (arith, same)

ascii_more : (bytes : List ℕ) (b : ℕ) → IsAscii bytes → b < 128 → IsAscii (bytes ++ b ∷ [])
ascii_more [] b all small zero = small
ascii_more [] b all small (suc i) = omega arith
ascii_more (x ∷ xs) b all small zero = all 0
ascii_more (x ∷ xs) b all small (suc i) = ascii_more xs b (λ j. all (suc j)) small i

pub line_text : (field line : List ℕ) → IsAscii field → IsAscii line → AllText (line_fields field line)
unfolding line_fields AllText
line_text field [] first all = (IsUtf8-from_ascii field first, tt)
line_text field (b ∷ bs) first all =
    by (b == 44) (line_text [] bs none (λ i. all (suc i))) (line_text (field ++ b ∷ []) bs (ascii_more field b first (all 0)) (λ i. all (suc i)))
  where
    none : IsAscii []
    none i = omega arith

    by : (x : Bool) → AllText (line_fields [] bs) → AllText (line_fields (field ++ b ∷ []) bs)
        → AllText (if x then field ∷ line_fields [] bs else line_fields (field ++ b ∷ []) bs)
    by true next same = (IsUtf8-from_ascii field first, next)
    by false next same = same

pub line_short : (field line : List ℕ) (col : ℕ) → length (get_or (line_fields field line) col []) ≤ length field + length line
unfolding line_fields
line_short field [] zero = omega arith
line_short field [] (suc col) = omega arith
line_short field (b ∷ bs) col = by (b == 44) col (λ k. let more = line_short [] bs k in omega (arith, more)) (λ k. line_short (field ++ b ∷ []) bs k)
  where
    by : (x : Bool) (col : ℕ) → ((k : ℕ) → length (get_or (line_fields [] bs) k []) ≤ length bs)
        → ((k : ℕ) → length (get_or (line_fields (field ++ b ∷ []) bs) k []) ≤ length (field ++ b ∷ []) + length bs)
        → length (get_or (if x then field ∷ line_fields [] bs else line_fields (field ++ b ∷ []) bs) col []) ≤ length field + suc (length bs)
    by true zero next same = omega arith
    by true (suc col) next same = let more = next col in omega (arith, more)
    by false col next same = let more = same col in let grown = length-append field (b ∷ []) in omega (arith, more, grown)

-- one line more is counted
pub counted_more : (rows : Rows) (line : List ℕ) (lines more : Lines) (some : 0 < length line) → IsAscii line
    → (IsTrue more.short → IsTrue lines.short × (length line ≤ 8192))
    → more.rows ≡ lines.rows + 1 → more.cols ≡ max lines.cols (length (line_fields [] line))
    → AreCounted rows lines → AreCounted (rows ++ rows_in line) more
counted_more rows [] lines more some ascii short count cols is = absurd (omega (arith, some))
counted_more rows (b ∷ bs) lines more some ascii short count cols is =
    let fields = line_fields [] (b ∷ bs) in
    let one = length-more rows fields in
    let widest = longest-more rows fields in
    record {
      count = (let e = is.count in omega (arith, count, e, one));
      cols = cols ∙ ap (λ most. max most (length fields)) is.cols ∙ sym widest;
      text = text_more rows fields is.text (line_text [] (b ∷ bs) (λ i. omega arith) ascii);
      short = λ told.
          let less = (short told).1 in
          none_more rows fields IsLong (is.short (short told).0)
          (λ col within long. let most = line_short [] (b ∷ bs) col in omega (arith, most, long, less));
    }

-- and nothing of a line without bytes
pub counted_same : (rows : Rows) (line : List ℕ) (lines : Lines) → length line ≡ 0 → AreCounted rows lines → AreCounted (rows ++ rows_in line) lines
counted_same rows [] lines none is = subst (λ rs. AreCounted rs lines) (sym (append-nil rows)) is
counted_same rows (b ∷ bs) lines none is = absurd (omega (arith, none))

-- the lines behind others
pub counted_both : (front back : Rows) (a b both : Lines) → AreCounted front a → AreCounted back b → both.rows ≡ a.rows + b.rows
    → both.cols ≡ max a.cols b.cols → (IsTrue both.short → IsTrue a.short × IsTrue b.short) → AreCounted (front ++ back) both
counted_both front back a b both first second rows cols short = record {
  count = (let e = first.count in let f = second.count in let all = length-append front back in omega (arith, rows, e, f, all));
  cols = cols ∙ ap (λ n. max n b.cols) first.cols ∙ ap (λ n. max (longest front) n) second.cols ∙ sym (longest_both front back);
  text = All-append AllText front back first.text second.text;
  short = λ told. none_both IsLong front back (first.short (short told).0) (second.short (short told).1);
}

-- a front ends where the first byte that passes a test stands, or with the text
front_at : (test : ℕ → Bool) (text : List ℕ) (k : ℕ) → k < length text → ((j : ℕ) → j < k → test (slice_index text j) ≢ true)
    → test (slice_index text k) ≡ true → prefix_len (λ b. not (test b)) text ≡ k
front_at test [] k within before at = absurd (omega (arith, within))
front_at test (b ∷ bs) zero within before at = prefix_of (λ c. not (test c)) b bs ∙ rw at refl
front_at test (b ∷ bs) (suc k) within before at =
    prefix_of (λ c. not (test c)) b bs
    ∙ by (test b) refl (λ is. front_at test bs k (omega (arith, within)) (λ j less. before (suc j) (omega (arith, less))) at)
  where
    by : (x : Bool) → test b ≡ x → (x ≡ false → prefix_len (λ c. not (test c)) bs ≡ k) → cond (not x) (suc (prefix_len (λ c. not (test c)) bs)) 0 ≡ suc k
    by true is more = absurd (before 0 (omega arith) is)
    by false is more = ap suc (more refl)

whole_front : (test : ℕ → Bool) (text : List ℕ) → ((j : ℕ) → j < length text → test (slice_index text j) ≢ true)
    → prefix_len (λ b. not (test b)) text ≡ length text
whole_front test [] none = refl
whole_front test (b ∷ bs) none =
    prefix_of (λ c. not (test c)) b bs ∙ by (test b) refl (whole_front test bs (λ j less. none (suc j) (omega (arith, less))))
  where
    by : (x : Bool) → test b ≡ x → prefix_len (λ c. not (test c)) bs ≡ length bs
        → cond (not x) (suc (prefix_len (λ c. not (test c)) bs)) 0 ≡ suc (length bs)
    by true is more = absurd (none 0 (omega arith) is)
    by false is more = ap suc more

pub front_found : (test : ℕ → Bool) (text : List ℕ) (found : Option ℕ) → IsFirstByte test text found
    → prefix_len (λ b. not (test b)) text ≡ unwrap_or found (length text)
front_found test text None none = whole_front test text (λ j less. none j (omega arith) less)
front_found test text (Some k) first =
    front_at test text k first.0.high (λ j less. first.0.before j (omega arith) less) first.1

-- the fields behind the first one, by what is behind that one's bytes
abbrev behind_comma : List ℕ → List (List ℕ)
behind_comma [] = []
behind_comma (b ∷ bs) = line_fields [] bs

-- the first field of a line, and the others
abbrev IsCut : List ℕ → List ℕ → ℕ → Type 0
IsCut field line n = line_fields field line ≡ (field ++ take n line) ∷ behind_comma (drop n line)

first_field : (field line : List ℕ) → IsCut field line (prefix_len goes_on_field line)
unfolding line_fields
first_field field [] = ap (λ f. f ∷ []) (sym (append-nil field))
first_field field (b ∷ bs) =
    subst (λ n. IsCut field (b ∷ bs) n) (sym (prefix_of goes_on_field b bs)) (by (b == 44) (first_field (field ++ b ∷ []) bs))
  where
    by : (x : Bool) → IsCut (field ++ b ∷ []) bs (prefix_len goes_on_field bs)
        → (if x then field ∷ line_fields [] bs else line_fields (field ++ b ∷ []) bs)
        ≡ (field ++ take (cond (not x) (suc (prefix_len goes_on_field bs)) 0) (b ∷ bs))
        ∷ behind_comma (drop (cond (not x) (suc (prefix_len goes_on_field bs)) 0) (b ∷ bs))
    by true same = ap (λ f. f ∷ line_fields [] bs) (sym (append-nil field))
    by false same =
        same ∙ ap (λ f. f ∷ behind_comma (drop (prefix_len goes_on_field bs) bs)) (append_assoc field (b ∷ []) (take (prefix_len goes_on_field bs) bs))

drop_more : (n : ℕ) (fields : List (List ℕ)) → drop (suc n) fields ≡ drop 1 (drop n fields)
drop_more zero fields = refl
drop_more (suc n) [] = refl
drop_more (suc n) (f ∷ fs) = drop_more n fs

module _ (fields : List (List ℕ)) (col : ℕ) (left : List ℕ) (behind : drop col fields ≡ line_fields [] left) where
  -- the next field of a line, and what is left behind it
  pub next_field : get_or fields col [] ≡ take (prefix_len goes_on_field left) left
  next_field =
      let there : get_or (drop col fields) 0 [] ≡ get_or fields (col + 0) [] = get_or-drop col fields 0 [] in
      let here : col + 0 ≡ col = omega arith in
      sym (ap (λ k. get_or fields k []) here) ∙ sym there ∙ ap (λ fs. get_or fs 0 []) (behind ∙ first_field [] left)

  pub next_left : col + 1 < length fields → drop (col + 1) fields ≡ line_fields [] (drop 1 (drop (prefix_len goes_on_field left) left))
  next_left more =
      let next : drop (suc col) fields ≡ behind_comma (drop (prefix_len goes_on_field left) left) =
      drop_more col fields ∙ ap (λ fs. drop 1 fs) (behind ∙ first_field [] left) in
      let count = length-drop (suc col) fields in
      let some : 0 < length (behind_comma (drop (prefix_len goes_on_field left) left)) = (let e = ap length next in omega (arith, count, e, more)) in
      rw add-one (next ∙ goes (drop (prefix_len goes_on_field left) left) some)
    where
      goes : (bytes : List ℕ) → 0 < length (behind_comma bytes) → behind_comma bytes ≡ line_fields [] (drop 1 bytes)
      goes [] some = absurd (omega (arith, some))
      goes (b ∷ bs) some = refl

-- a line that has a byte is a record
pub some_row : (line : List ℕ) → 0 < length line → rows_in line ≡ line_fields [] line ∷ []
some_row [] some = absurd (omega (arith, some))
some_row (b ∷ bs) some = refl

pub none_in : (line : List ℕ) → length line ≡ 0 → rows_in line ≡ []
none_in [] none = refl
none_in (b ∷ bs) none = absurd (omega (arith, none))

-- records with that of a line more
abbrev with_line : Rows → List ℕ → Rows
with_line rows [] = rows
with_line rows (b ∷ bs) = rows ++ line_fields [] (b ∷ bs) ∷ []

with_rows : (rows : Rows) (line : List ℕ) → with_line rows line ≡ rows ++ rows_in line
with_rows rows [] = sym (append-nil rows)
with_rows rows (b ∷ bs) = refl

-- these records were read of a text line by line, up to what is left of it
record HasReadLines (text left : List ℕ) (rows : Rows) : Type 0 where
  state : State
  rest : List ℕ
  reached : Reached default_config st.StartRecord text rows state rest
  goes : next_record default_config state [] [] rest ≡ next_record default_config st.StartRecord [] [] left
  plain : IsPlain left

-- the whole text is left to be read
reading_begins : (text : List ℕ) → IsPlain text → HasReadLines text text []
unfolding Reached
reading_begins text plain = record {
  state = st.StartRecord;
  rest = text;
  reached = (refl, refl);
  goes = refl;
  plain = plain;
}

-- and less of it, once a line was
reading_goes : (text left : List ℕ) (rows : Rows) → HasReadLines text left rows → 0 < length left
    → HasReadLines text (drop 1 (drop (prefix_len goes_on left) left)) (with_line rows (take (prefix_len goes_on left) left))
reading_goes text [] rows has some = absurd (omega (arith, some))
reading_goes text (b ∷ bs) rows has some =
    subst (λ n. HasReadLines text (drop 1 (drop n (b ∷ bs))) (with_line rows (take n (b ∷ bs)))) (sym (prefix_one b bs)) (by (goes_on b) refl)
  where
    quote_behind : (n : ℕ) (l : List ℕ) → has_quote l ≡ false → has_quote (drop n l) ≡ false
    quote_behind zero l none = none
    quote_behind (suc n) [] none = refl
    quote_behind (suc n) (x ∷ xs) none = quote_behind n xs (or_false (x == 34) (has_quote xs) none).1

    ascii_behind : (n : ℕ) (l : List ℕ) → IsAscii l → IsAscii (drop n l)
    ascii_behind n l all i = rw (get_or-drop n l i 0) (all (n + i))

    by : (on : Bool) → goes_on b ≡ on
        → HasReadLines text (drop 1 (drop (cond on (suc (prefix_len goes_on bs)) 0) (b ∷ bs)))
        (with_line rows (take (cond on (suc (prefix_len goes_on bs)) 0) (b ∷ bs)))
    by false ends = record {
      state = has.state;
      rest = has.rest;
      reached = has.reached;
      goes = has.goes ∙ skip_read b bs ends;
      plain = record { ascii = λ i. has.plain.ascii (suc i); unquoted = (or_false (b == 34) (has_quote bs) has.plain.unquoted).1 };
    }
    by true on =
        let n = prefix_len goes_on bs in
        let fields = line_fields [] (b ∷ take n bs) in
        let whole : next_record default_config st.StartField [] [] (b ∷ bs) ≡ Some (ended fields (drop n bs)) =
        line_read (b ∷ bs) st.StartField [] [] (inl refl) has.plain.unquoted
        ∙ ap (λ k. Some (ended (line_fields [] (take k (b ∷ bs))) (drop k (b ∷ bs)))) (one on) in
        let read : next_record default_config has.state [] [] has.rest ≡ Some (ended fields (drop n bs)) = has.goes ∙ first_read b bs on ∙ whole in
        record {
          state = (ended fields (drop n bs)).1;
          rest = (ended fields (drop n bs)).2;
          reached = subst (λ (f : List (List ℕ)). Reached default_config st.StartRecord text (rows ++ f ∷ [])
              (ended fields (drop n bs)).1 (ended fields (drop n bs)).2)
              (ended_fields fields (drop n bs))
              (reached-more default_config st.StartRecord has.state text has.rest rows (ended fields (drop n bs)) has.reached read);
          goes = ended_read fields (drop n bs);
          plain = record {
            ascii = ascii_behind 1 (drop n bs) (ascii_behind n bs (λ i. has.plain.ascii (suc i)));
            unquoted = quote_behind 1 (drop n bs) (quote_behind n bs (or_false (b == 34) (has_quote bs) has.plain.unquoted).1);
          };
        }
      where
        one : goes_on b ≡ true → prefix_len goes_on (b ∷ bs) ≡ suc (prefix_len goes_on bs)
        one on = prefix_one b bs ∙ rw on refl

        ended_fields : (fs : List (List ℕ)) (l : List ℕ) → (ended fs l).0 ≡ fs
        ended_fields fs [] = refl
        ended_fields fs (x ∷ xs) = refl

-- where nothing is left, all records were read
reading_ends : (text left : List ℕ) (rows : Rows) → HasReadLines text left rows → length left ≡ 0 → AreRecords default_config st.StartRecord text rows
unfolding next_record
reading_ends text left rows has none =
    (has.state, has.rest, has.reached, has.goes ∙ ap (λ l. next_record default_config st.StartRecord [] [] l) (empty left none) ∙ nothing)
  where
    nothing : next_record default_config st.StartRecord [] [] [] ≡ None
    nothing = refl

    empty : (l : List ℕ) → length l ≡ 0 → l ≡ []
    empty [] e = refl
    empty (x ∷ xs) e = absurd (omega (arith, e))

-- what is behind a line is shorter
pub behind_shorter : (n : ℕ) (left : List ℕ) → 0 < length left → length (drop 1 (drop n left)) < length left
behind_shorter n left some = (let behind = length-drop n left in let last = length-drop 1 (drop n left) in omega (arith, behind, last, some))

-- where the records of a line end, those of the lines behind it begin
abbrev IsFirst : List ℕ → List ℕ → ℕ → Type 0
IsFirst line text n = rows_from line text ≡ rows_in (line ++ take n text) ++ text_rows (drop 1 (drop n text))

pub first_line : (line text : List ℕ) → IsFirst line text (prefix_len goes_on text)
unfolding rows_from
first_line line [] = ap (λ l. rows_in l) (sym (append-nil line)) ∙ sym (append-nil (rows_in (line ++ [])))
first_line line (b ∷ bs) =
    subst (λ n. IsFirst line (b ∷ bs) n) (sym (prefix_of goes_on b bs)) (by (goes_on b) (first_line (line ++ b ∷ []) bs))
  where
    by : (on : Bool) → IsFirst (line ++ b ∷ []) bs (prefix_len goes_on bs)
        → (if on then rows_from (line ++ b ∷ []) bs else rows_in line ++ rows_from [] bs)
        ≡ rows_in (line ++ take (cond on (suc (prefix_len goes_on bs)) 0) (b ∷ bs))
        ++ text_rows (drop 1 (drop (cond on (suc (prefix_len goes_on bs)) 0) (b ∷ bs)))
    by true same =
        same ∙ ap (λ l. rows_in l ++ text_rows (drop 1 (drop (prefix_len goes_on bs) bs)))
        (append_assoc line (b ∷ []) (take (prefix_len goes_on bs) bs))
    by false same = ap (λ l. rows_in l ++ text_rows bs) (sym (append-nil line))

pub no_rows : (left : List ℕ) → length left ≡ 0 → text_rows left ≡ []
unfolding rows_from
no_rows [] none = refl
no_rows (b ∷ bs) none = absurd (omega (arith, none))

-- the records of a text are those of its lines
pub plain_rows : (text : List ℕ) → IsPlain text → AreRecords default_config st.StartRecord text (text_rows text)
plain_rows text plain = to_end (suc (length text)) text [] (omega arith) (reading_begins text plain)
  where
    to_end : (most : ℕ) (left : List ℕ) (rows : Rows) → length left < most → HasReadLines text left rows
        → AreRecords default_config st.StartRecord text (rows ++ text_rows left)
    to_end zero left rows less has = absurd (omega (arith, less))
    to_end (suc most) [] rows less has =
        subst (AreRecords default_config st.StartRecord text) (sym (append-nil rows) ∙ ap (λ rs. rows ++ rs) (sym (no_rows [] refl)))
        (reading_ends text [] rows has refl)
    to_end (suc most) (b ∷ bs) rows less has =
        let left = b ∷ bs in
        let n = prefix_len goes_on left in
        let shorter = behind_shorter n left (omega arith) in
        let rest = to_end most (drop 1 (drop n left)) (with_line rows (take n left)) (omega (arith, less, shorter))
        (reading_goes text left rows has (omega arith)) in
        subst (AreRecords default_config st.StartRecord text)
        (ap (λ rs. rs ++ text_rows (drop 1 (drop n left))) (with_rows rows (take n left))
        ∙ append_assoc rows (rows_in (take n left)) (text_rows (drop 1 (drop n left)))
        ∙ ap (λ rs. rows ++ rs) (sym (first_line [] left)))
        rest

pub ascii_behind : (n : ℕ) (left : List ℕ) → IsAscii left → IsAscii (drop 1 (drop n left))
ascii_behind n left all i = rw (get_or-drop 1 (drop n left) i 0, get_or-drop n left (1 + i) 0) (all (n + (1 + i)))

-- none was counted yet
pub counting_begins : (text : List ℕ) (lines : Lines) → IsAscii text → lines.rows ≡ 0 → lines.cols ≡ 0 → HasCounted text text lines
counting_begins text lines ascii rows cols = record {
  rows = [];
  split = refl;
  counted = record {
    count = rows;
    cols = cols;
    text = λ k d within. absurd (omega (arith, within));
    short = λ told row col within long. omega (arith, within);
  };
  few = omega (arith, rows);
  ascii = ascii;
}

-- and one line more
pub counting_goes : (text left : List ℕ) (lines more : Lines) → HasCounted text left lines → 0 < length left
    → ((rows : Rows) → AreCounted rows lines → AreCounted (rows ++ rows_in (take (prefix_len goes_on left) left)) more)
    → more.rows ≤ lines.rows + 1 → HasCounted text (drop 1 (drop (prefix_len goes_on left) left)) more
counting_goes text left lines more has some counts few =
    let n = prefix_len goes_on left in
    record {
      rows = has.rows ++ rows_in (take n left);
      split = has.split ∙ ap (λ rs. has.rows ++ rs) (first_line [] left)
          ∙ sym (append_assoc has.rows (rows_in (take n left)) (text_rows (drop 1 (drop n left))));
      counted = counts has.rows has.counted;
      few = (let f = has.few in let behind = length-drop n left in let last = length-drop 1 (drop n left) in omega (arith, f, few, behind, last, some));
      ascii = ascii_behind n left has.ascii;
    }

pub counting_ends : (text left : List ℕ) (lines : Lines) → HasCounted text left lines → length left ≡ 0 → AreCounted (text_rows text) lines
counting_ends text left lines has none =
    subst (λ rs. AreCounted rs lines) (sym (has.split ∙ ap (λ rs. has.rows ++ rs) (no_rows left none) ∙ append-nil has.rows)) has.counted

-- behind the line in which a place is
abbrev pub ending : List ℕ → ℕ → ℕ
ending text place = place + prefix_len goes_on (drop place text) + 1

abbrev IsCutAt : List ℕ → List ℕ → ℕ → Type 0
IsCutAt line text n = rows_from line text ≡ rows_from line (take n text) ++ text_rows (drop n text)

cut_none : (line : List ℕ) (n : ℕ) → IsCutAt line [] n
unfolding rows_from
cut_none line zero = sym (append-nil (rows_in line))
cut_none line (suc n) = sym (append-nil (rows_in line))

cut_more : (line : List ℕ) (b : ℕ) (bs : List ℕ) (n : ℕ) → IsCutAt (line ++ b ∷ []) bs n → IsCutAt [] bs n → IsCutAt line (b ∷ bs) (suc n)
unfolding rows_from
cut_more line b bs n on off = by (goes_on b)
  where
    by : (x : Bool)
        → (if x then rows_from (line ++ b ∷ []) bs else rows_in line ++ rows_from [] bs)
        ≡ (if x then rows_from (line ++ b ∷ []) (take n bs) else rows_in line ++ rows_from [] (take n bs)) ++ text_rows (drop n bs)
    by true = on
    by false =
        ap (λ l. rows_in line ++ l) off ∙ sym (append_assoc (rows_in line) (rows_from [] (take n bs)) (text_rows (drop n bs)))

cut_first : (line text : List ℕ) → IsCutAt line text (prefix_len goes_on text + 1)
unfolding rows_from
cut_first line [] = cut_none line (prefix_len goes_on [] + 1)
cut_first line (b ∷ bs) =
    subst (λ n. IsCutAt line (b ∷ bs) (n + 1)) (sym (prefix_of goes_on b bs))
    (by (goes_on b) refl (cut_more line b bs (prefix_len goes_on bs + 1) (cut_first (line ++ b ∷ []) bs) (cut_first [] bs)))
  where
    by : (x : Bool) → goes_on b ≡ x → IsCutAt line (b ∷ bs) (suc (prefix_len goes_on bs + 1))
        → IsCutAt line (b ∷ bs) (cond x (suc (prefix_len goes_on bs)) 0 + 1)
    by true on more =
        let same : suc (prefix_len goes_on bs) + 1 ≡ suc (prefix_len goes_on bs + 1) = omega arith in
        subst (λ k. IsCutAt line (b ∷ bs) k) (sym same) more
    by false ends more =
        rw ends (ap (λ l. l ++ rows_from [] bs) (sym (append-nil (rows_in line))))

pub cut_behind : (line text : List ℕ) (place : ℕ) → IsCutAt line text (ending text place)
unfolding rows_from
cut_behind line text zero =
    let same : prefix_len goes_on text + 1 ≡ 0 + prefix_len goes_on text + 1 = omega arith in
    subst (λ n. IsCutAt line text n) same (cut_first line text)
cut_behind line [] (suc place) = cut_none line (ending [] (suc place))
cut_behind line (b ∷ bs) (suc place) =
    let same : suc (ending bs place) ≡ ending (b ∷ bs) (suc place) = omega arith in
    subst (λ n. IsCutAt line (b ∷ bs) n) same
    (cut_more line b bs (ending bs place) (cut_behind (line ++ b ∷ []) bs place) (cut_behind [] bs place))

-- a text of two is plain where both are
pub plain_both : (front back : List ℕ) → IsPlain front → IsPlain back → IsPlain (front ++ back)
plain_both front back first second = record {
  ascii = ascii_both front back first.ascii second.ascii;
  unquoted = list_any-append (λ b. b == 34) front back ∙ rw (first.unquoted, second.unquoted) refl;
}
  where
    ascii_both : (a b : List ℕ) → IsAscii a → IsAscii b → IsAscii (a ++ b)
    ascii_both [] b all more i = more i
    ascii_both (x ∷ xs) b all more zero = all 0
    ascii_both (x ∷ xs) b all more (suc i) = ascii_both xs b (λ j. all (suc j)) more i

pub plain_cut : (text front back : List ℕ) (n : ℕ) → front ≡ take n text → back ≡ drop n text → IsPlain front → IsPlain back → IsPlain text
plain_cut text front back n first second a b =
    subst IsPlain (ap₂ (λ x y. x ++ y) first second ∙ take-append-drop n text) (plain_both front back a b)

-- what is counted of two texts that are cut from one
pub count_both : (text front back : List ℕ) (a b both : Lines) → IsCountOf front a → IsCountOf back b
    → (IsPlain front → IsPlain back → IsPlain text) → text_rows text ≡ text_rows front ++ text_rows back → length front + length back ≡ length text
    → AreCounted (text_rows front ++ text_rows back) both → IsCountOf text both
count_both text front back a b both first second plain split count is = record {
  plain = plain first.plain second.plain;
  counted = subst (λ rs. AreCounted rs both) (sym split) is;
  few = (let e = is.count in let more = length-append (text_rows front) (text_rows back) in let f = first.counted.count in let s = second.counted.count in
      let less = first.few in let rest = second.few in omega (arith, e, more, f, s, less, rest, count));
}
