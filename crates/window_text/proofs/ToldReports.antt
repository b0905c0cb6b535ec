-- Reports and clients, each before what follows it.
use Rattle.std.proofs.Common.{◌≡◌, ℕ, zero, suc, Bool, true, false, List, [], ◌∷◌, ◌++◌, length, map, refl, sym, ap}
use Rattle.std.proofs.Common.{◌∙◌, arith, All, codes, decimal, append_assoc}
use Rattle.std.specs.Prelude.{flat_map, slice_index_or}
use Rattle.std.proofs.lemmas.List.{append_cancel_left}
use Rattle.sheet_refs.specs.Cells.{Position, Corners, cells_of, rows_of}
use Rattle.sheet_refs.specs.Names.{range_text}
use Rattle.sheet_model.specs.Boards.{BoardValue}
use Rattle.sheet_model.specs.declared.board.Shown.{Shown}
use Rattle.sheet_model.specs.declared.board.Shown.TheVariants as shown
use Rattle.window_text.specs.Reports.{board_text, place_in, play_text, report_kind, report_text, shown_text, window_text}
use Rattle.window_text.specs.Texts.{rows_text}
use Rattle.window_text.specs.Told.{IsCounted, IsOneWord, IsTellableReport, ToldCell, line as name_line, told_at, told_report, told_reports, told_shown}
use Rattle.window_text.specs.Transcripts.{client_text, clients_text}
use Rattle.sheet_model.specs.declared.report.Report.{Report}
use Rattle.window_text.proofs.ToldCells.{IsTellable, told_text}
use Rattle.window_text.proofs.ToldChanges.{value_told_text, value_tellable}
use Rattle.window_text.proofs.ToldEntries.{name_ends}
use Rattle.window_text.proofs.ToldNamed.{decimal_ends, range_ends, line, space}
use Rattle.window_text.proofs.ToldRows.{line_of, lines_told}
use Rattle.window_text.proofs.ToldSplit.{same_first, same_others, first_is, others_are}

-- the text of what is shown is that of what is told of it
shown_told_text : (labels : List (List ℕ)) (s : Shown) → shown_text labels s ≡ told_text (told_shown labels s)
shown_told_text labels (shown.Value v) = value_told_text labels v
shown_told_text labels (shown.Stale n) = refl
shown_told_text labels (shown.Newer n) = refl

shown_tellable : (labels : List (List ℕ)) (s : Shown) → IsCounted s → IsTellable (told_shown labels s)
shown_tellable labels (shown.Value v) is = value_tellable labels v is
shown_tellable labels (shown.Stale n) is = is
shown_tellable labels (shown.Newer n) is = is

-- what stands at a place of a list, or else a cell that waits for the load
counted_at : (cells : List Shown) (place : ℕ) → All IsCounted cells → IsCounted (slice_index_or cells place (shown.Stale 0))
counted_at [] place all = omega arith
counted_at (c ∷ cells) zero all = first_is IsCounted c cells all
counted_at (c ∷ cells) (suc place) all = counted_at cells place (others_are IsCounted c cells all)

-- the rows of a window, by what is told of its cells
pub rows_told_text : (shown : Position → List ℕ) (told : Position → ToldCell) (window : Corners)
    → ((cell : Position) → shown cell ≡ told_text (told cell))
    → rows_text shown window ≡ flat_map (line_of told window) (rows_of window)
rows_told_text shown told window same =
    let all : shown ≡ (λ cell. told_text (told cell)) = λ i cell. same cell i in
    ap (λ f. rows_text f window) all

-- what follows reports: a client, or the closing sheet
pub data IsNext (byte : ℕ) : Type 0 where
  client : byte ≡ 99 → IsNext byte
  closing : byte ≡ 115 → IsNext byte

-- the kind of a report
data IsKindFirst (byte : ℕ) : Type 0 where
  firm : byte ≡ 102 → IsKindFirst byte
  plain : byte ≡ 108 → IsKindFirst byte

kind_begins : (b : Bool) → (byte : ℕ) × (rest : List ℕ) × IsKindFirst byte × (report_kind b ≡ byte ∷ rest)
kind_begins true = (102, codes "irm ", firm refl, refl)
kind_begins false = (108, codes "ook ", plain refl, refl)

no_report_next : (byte other : ℕ) → IsNext byte → IsKindFirst other → byte ≡ other → ⊥
no_report_next byte other (client is) (firm also) same = absurd (omega (arith, is, also, same))
no_report_next byte other (client is) (plain also) same = absurd (omega (arith, is, also, same))
no_report_next byte other (closing is) (firm also) same = absurd (omega (arith, is, also, same))
no_report_next byte other (closing is) (plain also) same = absurd (omega (arith, is, also, same))

kind_ends : (a b : Bool) (r s : List ℕ) → report_kind a ++ r ≡ report_kind b ++ s → (a ≡ b) × (r ≡ s)
kind_ends true true r s same = (refl, append_cancel_left (codes "firm ") r s same)
kind_ends true false r s same = absurd (omega (arith, same_first 102 108 (codes "irm " ++ r) (codes "ook " ++ s) same))
kind_ends false true r s same = absurd (omega (arith, same_first 108 102 (codes "ook " ++ r) (codes "irm " ++ s) same))
kind_ends false false r s same = (refl, append_cancel_left (codes "look ") r s same)

-- a report, and what stands behind it
abbrev told_rows : List (List ℕ) → BoardValue → Corners → List ℕ
told_rows labels board window = flat_map (line_of (told_at labels board) window) (rows_of window)

report_open : (labels : List (List ℕ)) (report : Report) (r : List ℕ)
    → report_text labels report ++ r ≡ report_kind report.firm
    ++ (decimal report.board.number ++ 32 ∷ (range_text report.board.window ++ 10
    ∷ (told_rows labels report.board report.board.window ++ r)))
report_open labels report r =
    let board = report.board in
    let rows = rows_text (board_text labels board) board.window in
    append_assoc (report_kind report.firm) (decimal board.number ++ (32 ∷ window_text labels board)) r
    ∙ ap (λ t. report_kind report.firm ++ t) (append_assoc (decimal board.number) (32 ∷ window_text labels board) r
    ∙ ap (λ t. decimal board.number ++ 32 ∷ t) (append_assoc (range_text board.window) (10 ∷ rows) r
    ∙ ap (λ t. range_text board.window ++ 10 ∷ (t ++ r))
    (rows_told_text (board_text labels board) (told_at labels board) board.window
    (λ cell. shown_told_text labels (slice_index_or board.cells (place_in board.window cell) (shown.Stale 0))))))

at_tellable : (labels : List (List ℕ)) (report : Report) → IsTellableReport report → (cell : Position) → IsTellable (told_at labels report.board cell)
at_tellable labels report is cell =
    let board = report.board in
    let place = place_in board.window cell in
    shown_tellable labels (slice_index_or board.cells place (shown.Stale 0)) (counted_at board.cells place is.cells)

-- a text that goes on begins as its first part does
first_of : (byte : ℕ) (rest front behind more after : List ℕ) (text : List ℕ) → front ≡ byte ∷ rest
    → text ≡ ((front ++ behind) ++ more) ++ after → (c : ℕ) (t : List ℕ) → text ≡ c ∷ t → c ≡ byte
first_of byte rest front behind more after text is same c t whole =
    let opened : text ≡ byte ∷ (((rest ++ behind) ++ more) ++ after) = same ∙ ap (λ f. ((f ++ behind) ++ more) ++ after) is in
    same_first c byte t (((rest ++ behind) ++ more) ++ after) (sym whole ∙ opened)

module _ (labels others : List (List ℕ)) where
  report_ends : (x y : Report) (r s : List ℕ) → IsTellableReport x → IsTellableReport y → report_text labels x ++ r ≡ report_text others y ++ s
      → (told_report labels x ≡ told_report others y) × (r ≡ s)
  report_ends x y r s one two same =
      let x_rows = told_rows labels x.board x.board.window ++ r in
      let y_rows = told_rows others y.board y.board.window ++ s in
      let x_behind = range_text x.board.window ++ 10 ∷ x_rows in
      let y_behind = range_text y.board.window ++ 10 ∷ y_rows in
      let all = sym (report_open labels x r) ∙ same ∙ report_open others y s in
      let kinds = kind_ends x.firm y.firm (decimal x.board.number ++ 32 ∷ x_behind) (decimal y.board.number ++ 32 ∷ y_behind) all in
      let numbers = decimal_ends x.board.number y.board.number 32 32 x_behind y_behind one.number two.number (space refl) (space refl) kinds.1 in
      let windows = range_ends x.board.window y.board.window 10 10 x_rows y_rows one.head one.tail two.head two.tail
      (line refl) (line refl) (same_others 32 32 x_behind y_behind numbers.1) in
      let rows : x_rows ≡ told_rows others y.board x.board.window ++ s =
      same_others 10 10 x_rows y_rows windows.1 ∙ ap (λ w. told_rows others y.board w ++ s) (sym windows.0) in
      let cells = lines_told (told_at labels x.board) (told_at others y.board) (at_tellable labels x one)
      (at_tellable others y two) x.board.window (rows_of x.board.window) r s rows in
      let all_cells = cells.0 ∙ ap (λ w. map (told_at others y.board) (cells_of w)) windows.0 in
      (λ i. record { firm = kinds.0 i; number = numbers.0 i; window = windows.0 i; cells = all_cells i }, cells.1)

  -- all reports of a client
  reports_end : (xs ys : List Report) (a b : ℕ) (r s : List ℕ) → IsNext a → IsNext b → All IsTellableReport xs → All IsTellableReport ys
      → play_text labels xs ++ a ∷ r ≡ play_text others ys ++ b ∷ s → (told_reports labels xs ≡ told_reports others ys) × (a ∷ r ≡ b ∷ s)
  reports_end [] [] a b r s first second one two same = (refl, same)
  reports_end [] (y ∷ ys) a b r s first second one two same =
      let kind = kind_begins y.firm in
      absurd (no_report_next a kind.0 first kind.2 (first_of kind.0 kind.1 (report_kind y.firm) (decimal y.board.number
      ++ (32 ∷ window_text others y.board)) (play_text others ys) (b ∷ s) (a ∷ r) kind.3 same a r refl))
  reports_end (x ∷ xs) [] a b r s first second one two same =
      let kind = kind_begins x.firm in
      absurd (no_report_next b kind.0 second kind.2 (first_of kind.0 kind.1 (report_kind x.firm) (decimal x.board.number
      ++ (32 ∷ window_text labels x.board)) (play_text labels xs) (a ∷ r) (b ∷ s) kind.3 (sym same) b s refl))
  reports_end (x ∷ xs) (y ∷ ys) a b r s first second one two same =
      let mine = play_text labels xs ++ a ∷ r in
      let yours = play_text others ys ++ b ∷ s in
      let all : report_text labels x ++ mine ≡ report_text others y ++ yours =
      sym (append_assoc (report_text labels x) (play_text labels xs) (a ∷ r)) ∙ same ∙ append_assoc (report_text others y) (play_text others ys) (b ∷ s) in
      let here = report_ends x y mine yours (first_is IsTellableReport x xs one) (first_is IsTellableReport y ys two) all in
      let there = reports_end xs ys a b r s first second (others_are IsTellableReport x xs one) (others_are IsTellableReport y ys two) here.1 in
      (λ i. here.0 i ∷ there.0 i, there.1)

-- a client, with its reports
client_open : (labels : List (List ℕ)) (name : List ℕ) (reports : List Report) (r : List ℕ)
    → client_text labels name reports ++ r ≡ codes "client " ++ (name ++ 10 ∷ (play_text labels reports ++ r))
client_open labels name reports r = ap (λ t. codes "client " ++ t) (append_assoc name (10 ∷ play_text labels reports) r)

-- what stands behind some clients begins with a client or the closing sheet
clients_next : (labels : List (List ℕ)) (names : List (List ℕ)) (reports : List (List Report)) (t : List ℕ)
    → (c : ℕ) × (rest : List ℕ) × IsNext c × (clients_text labels names reports ++ 115 ∷ t ≡ c ∷ rest)
clients_next labels [] reports t = (115, t, closing refl, refl)
clients_next labels (name ∷ names) [] t = (115, t, closing refl, refl)
clients_next labels (name ∷ names) (shown ∷ reports) t =
    (99, ((codes "lient " ++ (name ++ (10 ∷ play_text labels shown))) ++ clients_text labels names reports) ++ 115 ∷ t, client refl, refl)

module _ (labels others : List (List ℕ)) where
  -- all clients, up to the closing sheet
  pub clients_end : (names titles : List (List ℕ)) (xs ys : List (List Report)) (r s : List ℕ) → length xs ≡ length names → length ys ≡ length titles
      → All IsOneWord names → All IsOneWord titles → All (All IsTellableReport) xs → All (All IsTellableReport) ys
      → clients_text labels names xs ++ 115 ∷ r ≡ clients_text others titles ys ++ 115 ∷ s
      → (names ≡ titles) × (map (told_reports labels) xs ≡ map (told_reports others) ys) × (r ≡ s)
  clients_end [] [] [] [] r s count number words terms one two same = (refl, refl, same_others 115 115 r s same)
  clients_end [] [] [] (y ∷ ys) r s count number words terms one two same = absurd (omega (arith, number))
  clients_end [] [] (x ∷ xs) ys r s count number words terms one two same = absurd (omega (arith, count))
  clients_end [] (title ∷ titles) (x ∷ xs) ys r s count number words terms one two same = absurd (omega (arith, count))
  clients_end [] (title ∷ titles) [] [] r s count number words terms one two same = absurd (omega (arith, number))
  clients_end [] (title ∷ titles) [] (y ∷ ys) r s count number words terms one two same =
      absurd (omega (arith, same_first 115 99 r (((codes "lient " ++ (title ++ (10 ∷ play_text others y))) ++ clients_text others titles ys) ++ 115 ∷ s) same))
  clients_end (name ∷ names) [] [] ys r s count number words terms one two same = absurd (omega (arith, count))
  clients_end (name ∷ names) [] (x ∷ xs) (y ∷ ys) r s count number words terms one two same = absurd (omega (arith, number))
  clients_end (name ∷ names) [] (x ∷ xs) [] r s count number words terms one two same =
      absurd (omega (arith, same_first 99 115 (((codes "lient " ++ (name ++ (10 ∷ play_text labels x))) ++ clients_text labels names xs) ++ 115 ∷ r) s same))
  clients_end (name ∷ names) (title ∷ titles) [] ys r s count number words terms one two same = absurd (omega (arith, count))
  clients_end (name ∷ names) (title ∷ titles) (x ∷ xs) [] r s count number words terms one two same = absurd (omega (arith, number))
  clients_end (name ∷ names) (title ∷ titles) (x ∷ xs) (y ∷ ys) r s count number words terms one two same =
      let mine = clients_next labels names xs r in
      let yours = clients_next others titles ys s in
      let all = sym (append_assoc (client_text labels name x) (clients_text labels names xs) (115 ∷ r)
      ∙ client_open labels name x (clients_text labels names xs ++ 115 ∷ r))
      ∙ same ∙ (append_assoc (client_text others title y) (clients_text others titles ys) (115 ∷ s)
      ∙ client_open others title y (clients_text others titles ys ++ 115 ∷ s)) in
      let mine_text = play_text labels x ++ (clients_text labels names xs ++ 115 ∷ r) in
      let yours_text = play_text others y ++ (clients_text others titles ys ++ 115 ∷ s) in
      let words_end = name_ends name title 10 10 mine_text yours_text (first_is IsOneWord name names words)
      (first_is IsOneWord title titles terms) (name_line refl) (name_line refl)
      (append_cancel_left (codes "client ") (name ++ 10 ∷ mine_text) (title ++ 10 ∷ yours_text) all) in
      let texts : play_text labels x ++ mine.0 ∷ mine.1 ≡ play_text others y ++ yours.0 ∷ yours.1 =
      sym (ap (λ t. play_text labels x ++ t) mine.3) ∙ same_others 10 10 mine_text yours_text words_end.1 ∙ ap (λ t. play_text others y ++ t) yours.3 in
      let here = reports_end labels others x y mine.0 yours.0 mine.1 yours.1 mine.2 yours.2
      (first_is (All IsTellableReport) x xs one) (first_is (All IsTellableReport) y ys two) texts in
      let there = clients_end names titles xs ys r s (omega (arith, count)) (omega (arith, number))
      (others_are IsOneWord name names words) (others_are IsOneWord title titles terms)
      (others_are (All IsTellableReport) x xs one) (others_are (All IsTellableReport) y ys two) (mine.3 ∙ here.1 ∙ sym yours.3) in
      (λ i. words_end.0 i ∷ there.0 i, λ i. here.0 i ∷ there.1 i, there.2)
