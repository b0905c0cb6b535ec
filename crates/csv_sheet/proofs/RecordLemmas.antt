-- Records and their fields.
use Rattle.std.proofs.Common.{◌≡◌, ◌≢◌, ℕ, zero, suc, ◌+◌, ◌-◌, ◌<◌, ◌≤◌, Bool, true, false, List, [], ◌∷◌, ◌++◌, length, take, drop, get_or, Some}
use Rattle.std.proofs.Common.{None, Option, IsSome, Result, Ok, Err, inl, refl, sym, ◌∙◌, ap, subst, arith}
use Rattle.std.proofs.Common.{if◌then◌else◌, length-append, length-take, length-drop, get_or-drop}
use Rattle.std.specs.Str.{IsAscii}
use Rattle.std.proofs.lemmas.Str.{IsUtf8-from_ascii}
use Rattle.std.specs.Prelude.{IsUtf8, option_map, MatchBool, MatchResult, IfErr}
use Rattle.std.specs.Result.{IsErrAnd}
use Rattle.std.proofs.lemmas.List.{append-nil}
use Rattle.csv.specs.Machine.{next_record, Read, step, ends_at_end, is_end, fields_after, field_after}
use Rattle.csv.specs.declared.parser.Action.{Action}
use Rattle.csv.specs.declared.parser.Action.TheVariants.{Skip, Copy, EndField, EndRecord}
use Rattle.csv_sheet.proofs.FieldLemmas.{longest_of}
use Rattle.csv.specs.Reading.{AreRecords, Reached, ReadRecord, default_config}
use Rattle.csv.specs.declared.reader.Reader.{Reader}
use Rattle.csv.specs.declared.parser.State.TheVariants.{StartRecord}
use Rattle.csv.proofs.ReadFacts.{rows-end, rows-more}
use Rattle.csv.specs.Records.{AllText, cut_from, field_at}
use Rattle.csv.specs.declared.parser.Config.{Config}
use Rattle.csv.specs.declared.parser.State.{State}
use Rattle.csv_sheet.specs.Reading.{HasReadRecords}
use Rattle.csv_sheet.specs.Records.{Rows, longest}

-- the field at a place of a record
pub field_there : (fields : List (List ℕ)) (col : ℕ) → col < length fields → field_at fields col ≡ Some (get_or fields col [])
unfolding field_at
field_there [] col within = absurd (omega (arith, within))
field_there (f ∷ fs) zero within = refl
field_there (f ∷ fs) (suc col) within = field_there fs col (omega (arith, within))

pub is_some_from : {A B : Type 0} (f : A → B) (found : Option A) (b : B) → option_map f found ≡ Some b → IsSome found
is_some_from f None b e = cc e
is_some_from f (Some a) b e = refl

pub same_found : {A B : Type 0} (f : A → B) (found : Option A) (a : A) (b : B) → found ≡ Some a → option_map f found ≡ Some b → f a ≡ b
same_found f found a b is e =
    let both : Some (f a) ≡ Some b = sym (ap (option_map f) is) ∙ e in
    cc

-- a record is text where each of its fields is
pub text_from : (fields : List (List ℕ)) → ((k : ℕ) → k < length fields → IsUtf8 (get_or fields k [])) → AllText fields
unfolding AllText
text_from [] each = tt
text_from (f ∷ fs) each = (each 0 (omega arith), text_from fs (λ k within. each (suc k) (omega (arith, within))))

pub text_at : (fields : List (List ℕ)) → AllText fields → (k : ℕ) → k < length fields → IsUtf8 (get_or fields k [])
unfolding AllText
text_at [] text k within = absurd (omega (arith, within))
text_at (f ∷ fs) text zero within = text.0
text_at (f ∷ fs) text (suc k) within = text_at fs text.1 k (omega (arith, within))

-- a record all of whose bytes are ASCII is text
ascii_front : (n : ℕ) (bytes : List ℕ) → IsAscii bytes → IsAscii (take n bytes)
ascii_front zero bytes all i = omega arith
ascii_front (suc n) [] all i = omega arith
ascii_front (suc n) (b ∷ bs) all zero = all 0
ascii_front (suc n) (b ∷ bs) all (suc i) = ascii_front n bs (λ j. all (suc j)) i

pub ascii_text : (start : ℕ) (ends bytes : List ℕ) → IsAscii bytes → AllText (cut_from start ends bytes)
unfolding AllText cut_from
ascii_text start [] bytes all = tt
ascii_text start (end ∷ ends) bytes all =
    let behind : IsAscii (drop start bytes) = λ i. rw (get_or-drop start bytes i 0) (all (start + i)) in
    (IsUtf8-from_ascii _ (ascii_front (end - start) _ behind), ascii_text end ends bytes all)

-- no field is longer than the bytes of all
pub no_longer : (start : ℕ) (ends bytes : List ℕ) (col : ℕ) → length (get_or (cut_from start ends bytes) col []) ≤ length bytes
unfolding cut_from
no_longer start [] bytes col = omega arith
no_longer start (end ∷ ends) bytes zero =
    let behind = length-drop start bytes in
    let front = length-take (end - start) (drop start bytes) in
    omega (arith, behind, front)
no_longer start (end ∷ ends) bytes (suc col) = no_longer end ends bytes col

no_read : (o : Option Read) (p : Read) → o ≡ None → o ≡ Some p → ⊥
no_read o p a b = cc

same_read : (o : Option Read) (p q : Read) → o ≡ Some p → o ≡ Some q → p ≡ q
same_read o p q a b = cc

-- records that were read are the first of all
pub rows_in_front : (cfg : Config) (s : State) (xs : List ℕ) (some all : Rows) (s2 : State) (ys : List ℕ)
    → Reached cfg s xs some s2 ys → AreRecords cfg s xs all → (rest : Rows) × (all ≡ some ++ rest)
    × AreRecords cfg s2 ys rest
unfolding Reached
rows_in_front cfg s xs [] all s2 ys read is =
    (all, refl, subst (λ t. AreRecords cfg t ys all) read.0 (subst (λ t. AreRecords cfg s t all) read.1 is))
rows_in_front cfg s xs (r ∷ rs) [] s2 ys read is =
    let at_end : next_record cfg s [] [] xs ≡ None = subst (λ t. next_record cfg t [] [] xs ≡ None) (sym is.2.0)
    (subst (λ t. next_record cfg is.0 [] [] t ≡ None) (sym is.2.1) is.3) in
    absurd (no_read (next_record cfg s [] [] xs) read.0 at_end read.1)
rows_in_front cfg s xs (r ∷ rs) (q ∷ qs) s2 ys read is =
    let same : is.2.0 ≡ read.0 = same_read (next_record cfg s [] [] xs) is.2.0 read.0 is.2.1 read.1 in
    let more : Reached cfg read.0.1 read.0.2 qs is.0 is.1 = subst (λ (p : Read). Reached cfg p.1 p.2 qs is.0 is.1) same is.2.3 in
    let rest = rows_in_front cfg read.0.1 read.0.2 rs qs s2 ys read.3 (is.0, is.1, more, is.3) in
    let first : q ≡ r = is.2.2 ∙ ap (λ (p : Read). p.0) same ∙ sym read.2 in
    (rest.0, λ i. first i ∷ rest.1 i, rest.2)

nothing_left : (cfg : Config) (s : State) (xs : List ℕ) (rows : Rows) → AreRecords cfg s xs rows → next_record cfg s [] [] xs ≡ None → rows ≡ []
unfolding Reached
nothing_left cfg s xs [] is none = refl
nothing_left cfg s xs (r ∷ rs) is none = absurd (no_read (next_record cfg s [] [] xs) is.2.0 none is.2.1)

-- a text has one list of records
pub one_rows : (cfg : Config) (s : State) (xs : List ℕ) (a b : Rows) → AreRecords cfg s xs a → AreRecords cfg s xs b → a ≡ b
one_rows cfg s xs a b x y =
    let more = rows_in_front cfg s xs a b x.0 x.1 x.2 y in
    let none : more.0 ≡ [] = nothing_left cfg x.0 x.1 more.0 more.2 x.3 in
    sym (more.1 ∙ ap (λ rest. a ++ rest) none ∙ append-nil a)

module _ {R : Type 0} (left : R → Option (List ℕ)) (a b : Reader R) (fields : List (List ℕ)) (text : List ℕ)
    (rows : Rows) (has : HasReadRecords left text rows a) where
  -- one record more
  read_more : ReadRecord left a b true fields → b.flexible ≡ a.flexible → b.first ≡ true → HasReadRecords left text (rows ++ fields ∷ []) b
  read_more read flexible first =
      let more = rows-more left a b fields default_config StartRecord text has.rest rows has.config has.source has.reached read in
      record {
        plain = read.3 ∙ has.plain;
        ready = inl first;
        config = read.2 ∙ has.config;
        flexible = flexible ∙ has.flexible;
        rest = more.0;
        source = more.1;
        reached = more.2;
      }

  -- or the end
  read_end : ReadRecord left a b false fields → AreRecords default_config StartRecord text rows
  read_end read = (a.state, has.rest, has.reached, rows-end left a b fields default_config has.rest has.config has.source read)

  pub read_either : (found : Bool) → ReadRecord left a b found fields → b.flexible ≡ a.flexible → b.first ≡ true
      → MatchBool found (HasReadRecords left text (rows ++ fields ∷ []) b) (AreRecords default_config StartRecord text rows)
  read_either true read flexible first = read_more read flexible first
  read_either false read flexible first = read_end read

-- what a result tells of its error, where it isn't Ok
pub told_err : {A E : Type 0} (r : Result A E) (P : A → Type 0) (Q : E → Type 0) → ((a : A) → r ≢ Ok a) → MatchResult r P Q → (e : E) × Q e
told_err (Ok a) P Q not told = absurd (not a refl)
told_err (Err e) P Q not told = (e, told)

-- an error that a call hands on
pub err_handed : {A E : Type 0} (r : Result A E) (P Q : E → Type 0) → ((e : E) → P e → Q e) → IsErrAnd r P → IfErr r Q
err_handed (Ok a) P Q more is = tt
err_handed (Err e) P Q more is = more e is

pub told_some : (p q : Read) → Some p ≡ Some q → p ≡ q
told_some p q e = cc

-- each record has a field
some_fields : (cfg : Config) (s : State) (fields : List (List ℕ)) (field xs : List ℕ) (p : Read) → next_record cfg s fields field xs ≡ Some p → 0 < length p.0
unfolding next_record
some_fields cfg s fields field [] p e = at_end (ends_at_end s) e
  where
    at_end : (b : Bool) → (if b then Some (fields ++ (field ∷ []), StartRecord, []) else None) ≡ Some p → 0 < length p.0
    at_end true e =
        let same : fields ++ (field ∷ []) ≡ p.0 = ap (λ (q : Read). q.0) (told_some (fields ++ (field ∷ []), StartRecord, []) p e) in
        let long = length-append fields (field ∷ []) in
        let count : length (fields ++ (field ∷ [])) ≡ length p.0 = ap length same in
        omega (arith, long, count)
    at_end false e = cc e
some_fields cfg s fields field (c ∷ rest) p e =
    go (step cfg s c).1 (step cfg s c).0 (λ more. some_fields cfg (step cfg s c).0
    (fields_after (step cfg s c).1 fields field) (field_after (step cfg s c).1 c field) rest p more) e
  where
    go : (did : Action) (t : State) → (next_record cfg t (fields_after did fields field) (field_after did c field) rest ≡ Some p → 0 < length p.0)
        → (if is_end did then Some (fields_after did fields field, t, rest) else next_record cfg t
        (fields_after did fields field) (field_after did c field) rest) ≡ Some p → 0 < length p.0
    go Skip t more e = more e
    go Copy t more e = more e
    go EndField t more e = more e
    go EndRecord t more e =
        let same : fields ++ (field ∷ []) ≡ p.0 = ap (λ (q : Read). q.0) (told_some (fields ++ (field ∷ []), t, rest) p e) in
        let long = length-append fields (field ∷ []) in
        let count : length (fields ++ (field ∷ [])) ≡ length p.0 = ap length same in
        omega (arith, long, count)

-- a text with records has columns
pub has_columns : (cfg : Config) (s : State) (xs : List ℕ) (rows : Rows) → AreRecords cfg s xs rows → longest rows ≡ 0 → length rows ≡ 0
unfolding Reached
has_columns cfg s xs [] is none = refl
has_columns cfg s xs (r ∷ rs) is none =
    let some = some_fields cfg s [] [] xs is.2.0 is.2.1 in
    let same : length r ≡ length is.2.0.0 = ap length is.2.2 in
    let wide = longest_of (r ∷ rs) 0 0 (omega arith) (omega (arith, some, same)) in
    absurd (omega (arith, wide, none))
