-- A live run's text tells one run.
use Rattle.std.proofs.Common.{◌≡◌, ℕ, zero, suc, Bool, true, false, List, [], ◌∷◌, ◌++◌, length, map, refl, sym, ap}
use Rattle.std.proofs.Common.{◌∙◌, arith, All, get_or, codes, decimal, append_assoc, inl, inr}
use Rattle.std.specs.Prelude.{flat_map, slice_index_or, nat_eq, if◌then◌else◌}
use Rattle.std.proofs.lemmas.Bool.{cases_eq, ne_eqb}
use Rattle.std.proofs.lemmas.List.{append_cancel_left, append-nil}
use Rattle.sheet_refs.specs.Cells.{Position, Corners, IsNamed, cells_of, rows_of}
use Rattle.sheet_refs.specs.Names.{cell_text, range_text}
use Rattle.sheet_refs.proofs.Places.{inside_bounds}
use Rattle.sheet_model.specs.Edits.{EditValue, HasName, all_names}
use Rattle.sheet_model.specs.Changes.{ChangeValue}
use Rattle.sheet_model.specs.Sheets.{SheetValue, IsSheet, IsWritten}
use Rattle.sheet_model.specs.Values.{value_of}
use Rattle.sheet_model.specs.declared.entry.Entry.{Entry}
use Rattle.sheet_model.proofs.SheetValues.{value_in_range}
use Rattle.window_text.specs.Texts.{rows_text, sheet_window, shown_cell}
use Rattle.window_text.specs.Told.{IsOneWord, IsTellableEntry, IsTellableRun, ToldCell, ToldValue, Nothing, Shows}
use Rattle.window_text.specs.Told.{Waits, Passed, told_cell, told_run, told_values}
use Rattle.window_text.specs.Transcripts.{TranscriptValue, clients_text, closing_rows, closing_text, entries_text, live_text, whole_range}
use Rattle.window_text.proofs.ToldCells.{IsTellable}
use Rattle.window_text.proofs.ToldChanges.{IsFineChange, fine_of, value_told_text, value_tellable}
use Rattle.window_text.proofs.ToldEntries.{IsFineEntry, entries_end}
use Rattle.window_text.proofs.ToldNamed.{IsStop, line, colon, space, decimal_ends, range_ends, no_stop_in_cell}
use Rattle.window_text.proofs.ToldReports.{clients_end, rows_told_text}
use Rattle.window_text.proofs.ToldRows.{line_of, lines_told}
use Rattle.window_text.proofs.ToldSplit.{split_at_stop, same_first, same_others, first_is, others_are}
use Rattle.window_text.proofs.TranscriptLemmas.{last_is_named}

-- the value that a cell shows
abbrev inside : ToldCell → ToldValue
inside (Shows v) = v
inside (Waits n) = Nothing
inside (Passed n) = Nothing

insides : (f : Position → ToldValue) (cells : List Position) → map inside (map (λ cell. Shows (f cell)) cells) ≡ map f cells
insides f [] = refl
insides f (cell ∷ cells) = ap (λ rest. f cell ∷ rest) (insides f cells)

-- a sheet whose values are told
abbrev shows : SheetValue → Position → ToldCell
shows sheet cell = Shows (told_cell sheet cell)

shows_fine : (sheet : SheetValue) → IsSheet sheet → (cell : Position) → IsTellable (shows sheet cell)
shows_fine sheet is cell = value_tellable sheet.labels (value_of sheet cell) (value_in_range sheet cell is)

window_open : (sheet : SheetValue) (window : Corners) → sheet_window sheet window ≡ range_text window ++ 10
    ∷ flat_map (line_of (shows sheet) window) (rows_of window)
window_open sheet window =
    ap (λ t. range_text window ++ 10 ∷ t) (rows_told_text (shown_cell sheet) (shows sheet) window
    (λ cell. value_told_text sheet.labels (value_of sheet cell)))

-- the closing rows: a dash where there is no cell, and else the window of all cells
data IsClosing (sheet : SheetValue) : Type 0 where
  none : sheet.sizes.rows ≡ 0 → closing_rows sheet ≡ 45 ∷ 10 ∷ [] → IsClosing sheet
  some : (sheet.sizes.rows ≡ 0 → ⊥) → closing_rows sheet ≡ sheet_window sheet (whole_range sheet.sizes) → IsClosing sheet

chosen : (b : Bool) (one other : List ℕ) → b ≡ true → (if b then one else other) ≡ one
chosen true one other same = refl
chosen false one other same = absurd cc

refused : (b : Bool) (one other : List ℕ) → b ≡ false → (if b then one else other) ≡ other
refused false one other same = refl
refused true one other same = absurd cc

closing_of : (sheet : SheetValue) → IsClosing sheet
closing_of sheet = elim (cases_eq sheet.sizes.rows 0) [
  | inl is ↦ none is (chosen (nat_eq sheet.sizes.rows 0) (45 ∷ 10 ∷ []) (sheet_window sheet (whole_range sheet.sizes)) (ap (λ k. nat_eq k 0) is))
  | inr other ↦ some other (refused (nat_eq sheet.sizes.rows 0) (45 ∷ 10 ∷ []) (sheet_window sheet (whole_range sheet.sizes)) (ne_eqb sheet.sizes.rows 0 other))
]

-- a sheet of no cells has no values
no_values : (sheet : SheetValue) → sheet.sizes.rows ≡ 0 → told_values sheet ≡ []
no_values sheet is = ap (λ k. map (told_cell sheet) (cells_of (whole_range (record { rows = k; cols = sheet.sizes.cols })))) is

first_named : IsNamed 1 1
first_named = record { row_from = omega arith; row_to = omega arith; col_from = omega arith; col_to = omega arith }

-- a dash is no name of a range
no_dash : (sheet : SheetValue) → 45 ∷ 10 ∷ [] ≡ sheet_window sheet (whole_range sheet.sizes) → ⊥
no_dash sheet same =
    let first = cell_text (record { row = 1; col = 1 }) in
    let window = whole_range sheet.sizes in
    let rest = cell_text window.tail ++ 10 ∷ rows_text (shown_cell sheet) window in
    let all : 45 ∷ 10 ∷ [] ≡ first ++ 58 ∷ rest = same ∙ append_assoc first (58 ∷ cell_text window.tail) (10 ∷ rows_text (shown_cell sheet) window) in
    let parts = split_at_stop IsStop (45 ∷ []) first 10 58 [] rest dash_clear
    (no_stop_in_cell (record { row = 1; col = 1 }) first_named) (line refl) (colon refl) all in
    absurd (omega (arith, same_first 10 58 [] rest parts.1))
  where
    not_stop : (byte : ℕ) → byte ≡ 45 → ¬ IsStop byte
    not_stop byte is stop = absurd (grind (arith, stop, is))

    dash_clear : All (λ byte. ¬ IsStop byte) (45 ∷ [])
    dash_clear zero d within = not_stop 45 refl
    dash_clear (suc k) d within = absurd (omega (arith, within))

-- the closing rows tell the sizes and the values
closing_told : (x y : SheetValue) → IsSheet x → IsSheet y → closing_rows x ≡ closing_rows y → (x.sizes ≡ y.sizes) × (told_values x ≡ told_values y)
closing_told x y one two same = told (closing_of x) (closing_of y)
  where
    told : IsClosing x → IsClosing y → (x.sizes ≡ y.sizes) × (told_values x ≡ told_values y)
    told (none is text) (none is_too text_too) =
        let rows = is ∙ sym is_too in
        let cols = one.size.no_rows is ∙ sym (two.size.no_rows is_too) in
        (λ i. record { rows = rows i; cols = cols i }, no_values x is ∙ sym (no_values y is_too))
    told (none is text) (some other text_too) = absurd (no_dash y (sym text ∙ same ∙ text_too))
    told (some other text) (none is text_too) = absurd (no_dash x (sym text_too ∙ sym same ∙ text))
    told (some other text) (some other_too text_too) =
        let w = whole_range x.sizes in
        let v = whole_range y.sizes in
        let mine = flat_map (line_of (shows x) w) (rows_of w) in
        let yours = flat_map (line_of (shows y) v) (rows_of v) in
        let all : range_text w ++ 10 ∷ mine ≡ range_text v ++ 10 ∷ yours = sym (text ∙ window_open x w) ∙ same ∙ (text_too ∙ window_open y v) in
        let windows = range_ends w v 10 10 mine yours first_named (last_is_named x.sizes one.size other) first_named
        (last_is_named y.sizes two.size other_too) (line refl) (line refl) all in
        let rows : mine ≡ flat_map (line_of (shows y) w) (rows_of w) = same_others 10 10 mine yours windows.1
        ∙ ap (λ u. flat_map (line_of (shows y) u) (rows_of u)) (sym windows.0) in
        let cells = lines_told (shows x) (shows y) (shows_fine x one) (shows_fine y two) w (rows_of w) [] []
        (append-nil mine ∙ rows ∙ sym (append-nil (flat_map (line_of (shows y) w) (rows_of w)))) in
        let values = sym (insides (told_cell x) (cells_of w)) ∙ ap (map inside) cells.0 ∙ insides (told_cell y) (cells_of w) in
        (λ i. record { rows = (windows.0 i).tail.row; cols = (windows.0 i).tail.col }, values ∙ ap (λ u. map (told_cell y) (cells_of u)) windows.0)

-- the name at a place is one word
word_at : (names : List (List ℕ)) (place : ℕ) → All IsOneWord names → IsOneWord (slice_index_or names place [])
word_at [] place words = λ k d within. absurd (omega (arith, within))
word_at (name ∷ names) zero words = first_is IsOneWord name names words
word_at (name ∷ names) (suc place) words = word_at names place (others_are IsOneWord name names words)

all_named : (cell : Position) → HasName cell → IsNamed cell.row cell.col
all_named cell has =
    let bounds = inside_bounds all_names cell has in
    record { row_from = bounds.row_from; row_to = bounds.row_to; col_from = bounds.col_from; col_to = bounds.col_to }

both : (changes : EditValue) → All (λ (change : ChangeValue). HasName change.cell) changes
    → All (λ (change : ChangeValue). IsWritten change.content) changes → All IsFineChange changes
both changes named written k d within =
    record { named = all_named (get_or changes k d).cell (named k d within); content = fine_of (get_or changes k d).content (written k d within) }

fine_entry : (names : List (List ℕ)) → All IsOneWord names → (entry : Entry) → IsTellableEntry entry → IsFineEntry names entry
fine_entry names words entry is = record {
  word = word_at names entry.client words;
  edit = record {
    some = is.edit.edit.some;
    few = let few = is.edit.edit.few in omega (arith, few);
    changes = both entry.edit is.cells is.edit.written;
  };
}

fine_entries : (names : List (List ℕ)) → All IsOneWord names → (log : List Entry) → All IsTellableEntry log → All (IsFineEntry names) log
fine_entries names words log all k d within = fine_entry names words (get_or log k d) (all k d within)

-- the text of a run, opened
run_open : (t : TranscriptValue) → live_text t ≡ codes "log" ++ (32 ∷ (decimal (length t.log) ++ 10 ∷ (entries_text t.names t.sheet.labels 1 t.log
    ++ (clients_text t.sheet.labels t.names t.reports ++ 115 ∷ (codes "heet " ++ (decimal (length t.log) ++ (32 ∷ closing_rows t.sheet)))))))
run_open t =
    let rest = entries_text t.names t.sheet.labels 1 t.log ++ (clients_text t.sheet.labels t.names t.reports ++ closing_text (length t.log) t.sheet) in
    let with_end : List ℕ → List ℕ = λ u. codes "log" ++ (32 ∷ (decimal (length t.log) ++ 10 ∷ (entries_text t.names t.sheet.labels 1 t.log
    ++ (clients_text t.sheet.labels t.names t.reports ++ 115 ∷ (codes "heet " ++ u))))) in
    ap (λ u. codes "log" ++ (32 ∷ u)) (append_assoc (decimal (length t.log)) (10 ∷ []) rest)
    ∙ ap with_end (append_assoc (decimal (length t.log)) (32 ∷ []) (closing_rows t.sheet))

pub run_told : (t u : TranscriptValue) → IsTellableRun t → IsTellableRun u → live_text t ≡ live_text u → told_run t ≡ told_run u
run_told t u one two same =
    let t_closing = codes "heet " ++ (decimal (length t.log) ++ (32 ∷ closing_rows t.sheet)) in
    let u_closing = codes "heet " ++ (decimal (length u.log) ++ (32 ∷ closing_rows u.sheet)) in
    let t_clients = clients_text t.sheet.labels t.names t.reports ++ 115 ∷ t_closing in
    let u_clients = clients_text u.sheet.labels u.names u.reports ++ 115 ∷ u_closing in
    let t_log = entries_text t.names t.sheet.labels 1 t.log ++ t_clients in
    let u_log = entries_text u.names u.sheet.labels 1 u.log ++ u_clients in
    let all = sym (run_open t) ∙ same ∙ run_open u in
    let behind = same_others 32 32 (decimal (length t.log) ++ 10 ∷ t_log) (decimal (length u.log) ++ 10 ∷ u_log)
    (append_cancel_left (codes "log") (32 ∷ (decimal (length t.log) ++ 10 ∷ t_log)) (32 ∷ (decimal (length u.log) ++ 10 ∷ u_log)) all) in
    let counts = decimal_ends (length t.log) (length u.log) 10 10 t_log u_log one.few two.few (line refl) (line refl) behind in
    let logs = entries_end t.names u.names t.sheet.labels u.sheet.labels 1 t.log u.log t_clients u_clients counts.0
    (fine_entries t.names one.words t.log one.entries) (fine_entries u.names two.words u.log two.entries)
    (same_others 10 10 t_log u_log counts.1) in
    let clients = clients_end t.sheet.labels u.sheet.labels t.names u.names t.reports u.reports t_closing u_closing
    one.lists two.lists one.words two.words one.reports two.reports logs.1 in
    let numbers = append_cancel_left (codes "heet ") (decimal (length t.log) ++ (32 ∷ closing_rows t.sheet))
    (decimal (length u.log) ++ (32 ∷ closing_rows u.sheet)) clients.2 in
    let ends = decimal_ends (length t.log) (length u.log) 32 32 (closing_rows t.sheet) (closing_rows u.sheet) one.few
    two.few (space refl) (space refl) numbers in
    let closing = closing_told t.sheet u.sheet one.sheet two.sheet (same_others 32 32 (closing_rows t.sheet) (closing_rows u.sheet) ends.1) in
    λ i. record { log = logs.0 i; names = clients.0 i; reports = clients.1 i; sizes = closing.0 i; values = closing.1 i }
