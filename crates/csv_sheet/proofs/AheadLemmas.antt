-- Fields of lines that are read ahead of filling.
use Rattle.std.proofs.Common.{◌≡◌, ℕ, ◌+◌, ◌<◌, ◌≤◌, Bool, true, false, List, [], ◌∷◌, ◌++◌, length, take, drop, get_or, Option}
use Rattle.std.proofs.Common.{rules, refl, sym, ◌∙◌, ap, subst, arith, if◌then◌else◌, append_assoc, true≢false, IsTrue}
use Rattle.std.specs.Prelude.{Result, Ok, Err, IfOk}
use Rattle.std.specs.List.{prefix_len}
use Rattle.std.proofs.lemmas.Grind.{flat_map-append}
use Rattle.std.proofs.lemmas.List.{append-nil}
use Rattle.std.proofs.lemmas.List.{drop_more}
use Rattle.std.specs.Global.{Vec}
use Rattle.csv_sheet.specs.declared.known.Known.{Known}
use Rattle.formula_syntax.specs.declared.edition.Edition.{Edition}
use Rattle.sheet_model.specs.Fields.IsTableAfter.{other}
use Rattle.sheet_model.specs.Labels.{IsTable}
use Rattle.sheet_model.specs.Changes.{after_change}
use Rattle.sheet_model.specs.Sheets.{ContentValue, HasLabel, IsWritten, SheetValue, with_content, with_labels}
use Rattle.sheet_model.specs.declared.content.Content.{Content}
use Rattle.sheet_model.proofs.SheetLemmas.{held_content, label_content}
use Rattle.csv_sheet.specs.Ahead.{AreAhead, AreNext, Begin, HasReadAhead, IsAhead, WritesAnywhere, in_lists, text_fields}
use Rattle.sheet_refs.specs.Cells.{Position}
use Rattle.sheet_refs.specs.Sizes.{is_inside}
use Rattle.csv_sheet.specs.Filling.{PutsField}
use Rattle.csv_sheet.specs.Lines.{goes_on, line_fields, rows_in, text_rows}
use Rattle.csv_sheet.specs.Records.{Rows, all_fields}
use Rattle.csv_sheet.proofs.LineLemmas.{first_line, no_rows}

-- what is known of some fields, and of those behind them
pub ahead_behind : (edition : Edition) (fields behind : List (List ℕ)) (ahead more : List (Option Content))
    → AreAhead edition fields ahead → AreAhead edition behind more → AreAhead edition (fields ++ behind) (ahead ++ more)
ahead_behind edition [] behind [] more first second = second
ahead_behind edition [] behind (known ∷ ahead) more first second = absurd first
ahead_behind edition (field ∷ fields) behind [] more first second = absurd first
ahead_behind edition (field ∷ fields) behind (known ∷ ahead) more first second =
    (first.0, ahead_behind edition fields behind ahead more first.1 second)

-- and of one field more
pub ahead_more : (edition : Edition) (fields : List (List ℕ)) (ahead : List (Option Content)) (field : List ℕ) (known : Option Content)
    → AreAhead edition fields ahead → IsAhead edition field known → AreAhead edition (fields ++ field ∷ []) (ahead ++ known ∷ [])
ahead_more edition fields ahead field known first one = ahead_behind edition fields (field ∷ []) ahead (known ∷ []) first (one, tt)

pub all_begin : (edition : Edition) (fields : List (List ℕ)) (ahead : List (Option Content)) → AreAhead edition fields ahead → Begin edition ahead fields
all_begin edition [] [] all = tt
all_begin edition [] (known ∷ ahead) all = absurd all
all_begin edition (field ∷ fields) [] all = tt
all_begin edition (field ∷ fields) (known ∷ ahead) all = (all.0, all_begin edition fields ahead all.1)

-- and of the first of more fields
pub begin_more : (edition : Edition) (ahead : List (Option Content)) (fields more : List (List ℕ)) → Begin edition ahead fields
    → Begin edition ahead (fields ++ more)
begin_more edition [] fields more begin = tt
begin_more edition (known ∷ ahead) [] more begin = absurd begin
begin_more edition (known ∷ ahead) (field ∷ fields) more begin = (begin.0, begin_more edition ahead fields more begin.1)

-- what follows of a value, where there is one
pub if_ok : {A E : Type 0} (P Q : A → Type 0) (result : Result A E) → ((value : A) → P value → Q value) → IfOk result P → IfOk result Q
if_ok P Q (Ok value) follows is = follows value is
if_ok P Q (Err e) follows is = tt

-- what is said in lists and in those behind them
pub lists_both : (front back : List (Vec (Option Content))) → in_lists (front ++ back) ≡ in_lists front ++ in_lists back
lists_both front back = flat_map-append (λ (list : Vec (Option Content)). list.items) front back

-- what is known of the next field of a line, and of those behind it
pub at_next : (edition : Edition) (fields : List (List ℕ)) (col : ℕ) (known : Known) (more : List (List ℕ)) → col < length fields
    → AreNext edition known (drop col fields ++ more) → AreNext edition known (get_or fields col [] ∷ (drop (col + 1) fields ++ more))
at_next edition fields col known more within start = subst (λ fs. AreNext edition known (fs ++ more)) (drop_more fields col [] within) start

-- the fields of a line, and those of the lines behind it
abbrev pub fields_in : List ℕ → List (List ℕ)
fields_in line = all_fields (rows_in line)

fields_both : (front back : Rows) → all_fields (front ++ back) ≡ all_fields front ++ all_fields back
fields_both front back = flat_map-append (λ (fields : List (List ℕ)). fields) front back

pub first_fields : (text : List ℕ)
    → text_fields text ≡ fields_in (take (prefix_len goes_on text) text) ++ text_fields (drop 1 (drop (prefix_len goes_on text) text))
first_fields text =
    let n = prefix_len goes_on text in
    ap all_fields (first_line [] text) ∙ fields_both (rows_in (take n text)) (text_rows (drop 1 (drop n text)))

-- the fields of two texts that are cut from one
pub split_fields : (text front back : List ℕ) → text_rows text ≡ text_rows front ++ text_rows back
    → text_fields text ≡ text_fields front ++ text_fields back
split_fields text front back split = ap all_fields split ∙ fields_both (text_rows front) (text_rows back)

-- what is known of a line's fields, and of those behind it
pub line_next : (edition : Edition) (ahead : Known) (left line behind : List ℕ)
    → line ≡ take (prefix_len goes_on left) left → behind ≡ drop 1 (drop (prefix_len goes_on left) left)
    → AreNext edition ahead (text_fields left) → AreNext edition ahead (fields_in line ++ text_fields behind)
line_next edition ahead left line behind is after next =
    subst (λ b. AreNext edition ahead (fields_in line ++ text_fields b)) (sym after)
    (subst (λ l. AreNext edition ahead (fields_in l ++ text_fields (drop 1 (drop (prefix_len goes_on left) left)))) (sym is)
    (subst (λ fs. AreNext edition ahead fs) (first_fields left) next))

pub some_fields : (line : List ℕ) → 0 < length line → fields_in line ≡ line_fields [] line
some_fields [] some = absurd (omega (arith, some))
some_fields (b ∷ bs) some = append-nil (line_fields [] (b ∷ bs))

pub no_fields : (line : List ℕ) → length line ≡ 0 → fields_in line ≡ []
no_fields [] none = refl
no_fields (b ∷ bs) none = absurd (omega (arith, none))

pub no_fields_left : (left : List ℕ) → length left ≡ 0 → text_fields left ≡ []
no_fields_left left none = ap all_fields (no_rows left none)

-- a line more was read ahead, or one without bytes
module _ (edition : Edition) (text left line behind : List ℕ) (old : List (Option Content)) where
  split_behind : line ≡ take (prefix_len goes_on left) left → behind ≡ drop 1 (drop (prefix_len goes_on left) left)
      → text_fields left ≡ fields_in line ++ text_fields behind
  split_behind is after =
      first_fields left
      ∙ ap (λ l. fields_in l ++ text_fields (drop 1 (drop (prefix_len goes_on left) left))) (sym is)
      ∙ ap (λ b. fields_in line ++ text_fields b) (sym after)

  pub line_behind : (new : List (Option Content)) → 0 < length line → line ≡ take (prefix_len goes_on left) left
      → behind ≡ drop 1 (drop (prefix_len goes_on left) left) → HasReadAhead edition text left old
      → ((fields : List (List ℕ)) → AreAhead edition fields old → AreAhead edition (fields ++ line_fields [] line) new)
      → HasReadAhead edition text behind new
  line_behind new some is after has more = record {
    fields = has.fields ++ line_fields [] line;
    split = has.split ∙ ap (λ fs. has.fields ++ fs) (split_behind is after ∙ ap (λ fs. fs ++ text_fields behind) (some_fields line some))
        ∙ sym (append_assoc has.fields (line_fields [] line) (text_fields behind));
    known = more has.fields has.known;
  }

  pub no_line_behind : length line ≡ 0 → line ≡ take (prefix_len goes_on left) left
      → behind ≡ drop 1 (drop (prefix_len goes_on left) left) → HasReadAhead edition text left old → HasReadAhead edition text behind old
  no_line_behind none is after has = record {
    fields = has.fields;
    split = has.split ∙ ap (λ fs. has.fields ++ fs) (split_behind is after ∙ ap (λ fs. fs ++ text_fields behind) (no_fields line none));
    known = has.known;
  }

no_table : IsTable []
no_table = record { distinct = search rules; few = omega arith }

-- a content that is known ahead may stand in a cell, beside any table
pub has_label : (edition : Edition) (labels : List (List ℕ)) (field : List ℕ) (content : ContentValue) → WritesAnywhere edition field content
    → HasLabel (length labels) content
has_label edition labels field content known = label_content edition labels field content (known.writes labels)

pub is_written : (edition : Edition) (field : List ℕ) (content : ContentValue) → length field ≤ 8192 → WritesAnywhere edition field content
    → IsWritten content
is_written edition field content short known = (held_content edition [] field content no_table short (known.writes [])).written

pub puts_known : (old new : SheetValue) (cell : Position) (field : List ℕ) (content : ContentValue) → length field ≤ 8192
    → IsTrue (is_inside old.sizes cell) → WritesAnywhere old.edition field content
    → new ≡ after_change old (record { cell = cell; content = content }) → PutsField field cell old new
puts_known old new cell field content short inside known placed =
    let put : new ≡ with_content old cell content = placed ∙ changed (is_inside old.sizes cell) inside in
    let labels : new.labels ≡ old.labels = ap (λ (s : SheetValue). s.labels) put in
    record {
      short = λ long. omega (arith, short, long);
      table = other field old.labels new.labels known.other labels;
      content = content;
      writes = known.writes new.labels;
      placed = put ∙ ap (λ l. with_content (with_labels old l) cell content) (sym labels);
    }
  where
    changed : (x : Bool) → IsTrue x → (if x then with_content old cell content else old) ≡ with_content old cell content
    changed true is = refl
    changed false is = absurd (true≢false (sym is))
