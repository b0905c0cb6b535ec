-- The text of a live run, piece by piece.
use Rattle.std.proofs.Common.{◌≡◌, ◌<◌, ◌≤◌, ◌+◌, ◌*◌, ℕ, zero, suc, Bool, true, false, List, [], ◌∷◌, ◌++◌, codes, map}
use Rattle.std.proofs.Common.{length, drop, get_or, refl, sym, ap, subst, ◌∙◌, arith, Global, Vec}
use Rattle.std.specs.Prelude.{if◌then◌else◌, nat_le, string_bytes, String}
use Rattle.std.specs.Fmt.{decimal}
use Rattle.std.proofs.Math.ListN.{drop_of_length-le}
use Rattle.std.proofs.lemmas.Bool.{le-leb}
use Rattle.std.proofs.lemmas.List.{drop_more, get_or-map, length-map}
use Rattle.sheet_refs.specs.Cells.{IsNamed}
use Rattle.sheet_refs.specs.declared.sizes.Sizes.{Sizes}
use Rattle.sheet_model.specs.Sheets.{IsSheetSize}
use Rattle.sheet_model.specs.declared.entry.Entry.{Entry}
use Rattle.window_text.specs.Transcripts.{client_text, clients_text, edit_head, entries_text, entry_text}
use Rattle.sheet_model.specs.declared.report.Report.{Report}

chosen : (b : Bool) (one other : List ℕ) → b ≡ true → (if b then one else other) ≡ one
chosen true one other same = refl
chosen false one other same = absurd (cc)

refused : (b : Bool) (one other : List ℕ) → b ≡ false → (if b then one else other) ≡ other
refused false one other same = refl
refused true one other same = absurd (cc)

le_fails : (a b : ℕ) → b < a → nat_le a b ≡ false
le_fails a b past = grind (arith, past)

-- how many changes follow isn't said of one, and is said of several
pub head_of_one : (changes : ℕ) → changes ≤ 1 → edit_head changes ≡ []
head_of_one changes one = chosen (nat_le changes 1) [] (codes "batch " ++ (decimal changes ++ 10 ∷ [])) (le-leb changes 1 one)

pub head_of_many : (changes : ℕ) → 1 < changes → edit_head changes ≡ codes "batch " ++ (decimal changes ++ 10 ∷ [])
head_of_many changes many = refused (nat_le changes 1) [] (codes "batch " ++ (decimal changes ++ 10 ∷ [])) (le_fails changes 1 many)

-- what is made of an element is at its place in the list of what is made of all
pub made_there : {X : Type 0} (make : X → List ℕ) (xs : List X) (place : ℕ) (x : X) → place < length xs
    → x ≡ get_or xs place x → make x ≡ get_or (map make xs) place []
made_there make xs place x within here = ap make here ∙ sym (get_or-map make xs place x [] within)

mapped_there : {X Y : Type 0} (make : X → Y) (xs : List X) (place : ℕ) (x : X) → place < length xs
    → x ≡ get_or xs place x → make x ≡ get_or (map make xs) place (make x)
mapped_there make xs place x within here = ap make here ∙ sym (get_or-map make xs place x (make x) within)

-- the entries from a place on
abbrev pub entries_rest : List (List ℕ) → List (List ℕ) → List Entry → ℕ → List ℕ
entries_rest names labels log place = entries_text names labels (place + 1) (drop place log)

-- go on with the entry at that place
pub entries_go_on : (names labels : List (List ℕ)) (log : List Entry) (place : ℕ) (entry : Entry) → place < length log → entry ≡ get_or log place entry
    → entries_rest names labels log place ≡ entry_text names labels (place + 1) entry ++ entries_rest names labels log (place + 1)
entries_go_on names labels log place entry within here =
    ap (entries_text names labels (place + 1)) (drop_more log place entry within)
    ∙ ap (λ (e : Entry). entry_text names labels (place + 1) e ++ entries_rest names labels log (place + 1)) (sym here)

-- until no entry is left
pub entries_end : (names labels : List (List ℕ)) (log : List Entry) (place : ℕ) → length log ≤ place → entries_rest names labels log place ≡ []
entries_end names labels log place past = ap (entries_text names labels (place + 1)) (drop_of_length-le log past)

-- the clients from a place on
abbrev pub clients_rest : List (List ℕ) → List (List ℕ) → List (List Report) → ℕ → List ℕ
clients_rest labels names reports place = clients_text labels (drop place names) (drop place reports)

-- go on with the client at that place
pub clients_go_on : (labels names : List (List ℕ)) (reports : List (List Report)) (place : ℕ) (name : List ℕ)
    (shown : List Report) → place < length names → place < length reports
    → name ≡ get_or names place name → shown ≡ get_or reports place shown
    → clients_rest labels names reports place ≡ client_text labels name shown ++ clients_rest labels names reports (place + 1)
clients_go_on labels names reports place name shown within inside here there =
    ap (λ (l : List (List ℕ)). clients_text labels l (drop place reports)) (drop_more names place name within)
    ∙ ap (clients_text labels (get_or names place name ∷ drop (place + 1) names)) (drop_more reports place shown inside)
    ∙ ap (λ (n : List ℕ). client_text labels n (get_or reports place shown) ++ clients_rest labels names reports (place + 1)) (sym here)
    ∙ ap (λ (r : List Report). client_text labels name r ++ clients_rest labels names reports (place + 1)) (sym there)

-- until no client is left
pub clients_end : (labels names : List (List ℕ)) (reports : List (List Report)) (place : ℕ) → length names ≤ place
    → clients_rest labels names reports place ≡ []
clients_end labels names reports place past = ap (λ (l : List (List ℕ)). clients_text labels l (drop place reports)) (drop_of_length-le names past)

-- the last cell of a sheet with cells has a name
pub last_is_named : (sizes : Sizes) → IsSheetSize sizes → (sizes.rows ≡ 0 → ⊥) → IsNamed sizes.rows sizes.cols
last_is_named sizes size some = record {
  row_from = omega (arith, some);
  row_to = few sizes.rows sizes.cols size.cells size.no_cols;
  col_from = wide sizes.cols some size.no_cols;
  col_to = size.narrow;
}
  where
    few : (rows cols : ℕ) → rows * cols ≤ 1048576 → (cols ≡ 0 → rows ≡ 0) → rows ≤ 1048576
    few rows zero cells none = let no = none refl in omega (arith, no)
    few rows (suc cols) cells none = grind (arith, cells)

    wide : (cols : ℕ) → (sizes.rows ≡ 0 → ⊥) → (cols ≡ 0 → sizes.rows ≡ 0) → 1 ≤ cols
    wide zero some none = absurd (some (none refl))
    wide (suc cols) some none = omega (arith)

-- the same of lists of strings and of lists of reports in memory
pub clients_at : (labels : List (List ℕ)) (names : List (String Global)) (reports : List (Vec Report Global))
    (place : ℕ) (name : String Global) (shown : Vec Report Global) → place < length names → place < length reports
    → name ≡ get_or names place name → shown ≡ get_or reports place shown
    → clients_rest labels (map string_bytes names) (map (λ (r : Vec Report Global). r.items) reports) place
    ≡ client_text labels (string_bytes name) shown.items
    ++ clients_rest labels (map string_bytes names) (map (λ (r : Vec Report Global). r.items) reports) (place + 1)
clients_at labels names reports place name shown within inside here there =
    clients_go_on labels (map string_bytes names) (map (λ (r : Vec Report Global). r.items) reports) place
    (string_bytes name) shown.items (subst (λ n. place < n) (sym (length-map names string_bytes)) within)
    (subst (λ n. place < n) (sym (length-map reports (λ (r : Vec Report Global). r.items))) inside)
    (mapped_there string_bytes names place name within here) (mapped_there (λ (r : Vec Report Global). r.items) reports place shown inside there)

-- no client is left past the last name
pub clients_ended : (labels : List (List ℕ)) (names : List (String Global)) (reports : List (List Report)) (place : ℕ)
    → length names ≤ place → clients_rest labels (map string_bytes names) reports place ≡ []
clients_ended labels names reports place past =
    clients_end labels (map string_bytes names) reports place
    (subst (λ n. n ≤ place) (sym (length-map names string_bytes)) past)

-- the text turns on what names, labels, log and reports are
pub entries_told : (names other : List (String Global)) (labels others : List (List ℕ)) (log entries : List Entry)
    → names ≡ other → labels ≡ others → log ≡ entries
    → entries_text (map string_bytes names) labels 1 log ≡ entries_text (map string_bytes other) others 1 entries
entries_told names other labels others log entries a b c =
    ap (λ (n : List (String Global)). entries_text (map string_bytes n) labels 1 log) a
    ∙ ap (λ (l : List (List ℕ)). entries_text (map string_bytes other) l 1 log) b
    ∙ ap (entries_text (map string_bytes other) others 1) c

pub clients_told : (names other : List (String Global)) (labels others : List (List ℕ))
    (reports shown : List (Vec Report Global)) → names ≡ other → labels ≡ others → reports ≡ shown
    → clients_text labels (map string_bytes names) (map (λ (r : Vec Report Global). r.items) reports) ≡ clients_text
    others (map string_bytes other) (map (λ (r : Vec Report Global). r.items) shown)
clients_told names other labels others reports shown a b c =
    ap (λ (n : List (String Global)). clients_text labels (map string_bytes n) (map (λ (r : Vec Report Global). r.items) reports)) a
    ∙ ap (λ (l : List (List ℕ)). clients_text l (map string_bytes other) (map (λ (r : Vec Report Global). r.items) reports)) b
    ∙ ap (λ (rs : List (Vec Report Global)). clients_text others (map string_bytes other) (map (λ (r : Vec Report Global). r.items) rs)) c
