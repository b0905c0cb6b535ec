-- Books: a sheet, its graph, and the log of its edits.
use Rattle.std.specs.Prelude.{◌≡◌, ℕ, ◌+◌, ◌<◌, ◌≤◌, Bool, IsTrue, List, [], ◌∷◌, ◌++◌, length, take, All, Option, IfSome}
use Rattle.std.specs.List.{AllZip}
use Rattle.sheet_refs.specs.Cells.{Position, Corners}
use Rattle.sheet_refs.specs.Sizes.{is_inside}
use Rattle.formula_syntax.specs.Listing.{IsOnceEach}
use Rattle.graph_walk.specs.Graphs.{Pair, SamePairs}
use Rattle.sheet_model.specs.Changes.{ChangeValue}
use Rattle.sheet_model.specs.Edits.{EditValue, AreHeldBeside, AreInSheet, IsEdit, after_edit}
use Rattle.sheet_model.specs.KeptValues.{KeepsValuesOf}
use Rattle.sheet_model.specs.Logs.{after, AreHeld}
use Rattle.sheet_model.specs.Sheets.{SheetValue, IsSheet}
use Rattle.sheet_model.specs.declared.entry.Entry.{Entry}
use Rattle.sheet_model.specs.declared.kept_values.KeptValues.{KeptValues}
use Rattle.edit_log.specs.Cycles.{HoldsCycles, RefersToNone}
use Rattle.edit_log.specs.Pairs.{ArePairsOf}
use Rattle.sheet_model.specs.Ranges.{ranges_in}
use Rattle.edit_log.specs.Touches.{AreTouched}

-- the sheet with which it was opened, the sheet and the graph now, the log, and how many changes there is room for
pub record BookValue (G : Type 0) : Type 0 where
  pub opening : SheetValue
  pub sheet : SheetValue
  pub graph : G
  pub log : List Entry
  pub spare : ℕ

-- a sheet is the opening sheet after the log, of which each entry changes distinct cells to contents that may stand beside
-- the opening sheet's labels, and the pairs are those of the sheet
pub record IsBookOf (opening sheet : SheetValue) (log : List Entry) (pairs : List Pair) : Type 0 where
  pub opened : IsSheet opening
  pub held : AreHeld (length opening.labels) log
  pub edits : All (λ (entry : Entry). IsEdit entry.edit) log
  pub replayed : sheet ≡ after opening log
  pub pairs_are : ArePairsOf sheet pairs
  pub few : length log ≤ 1048576

abbrev pub IsBook : {G : Type 0} → (G → List Pair) → BookValue G → Type 0
IsBook pairs book = IsBookOf book.opening book.sheet book.log (pairs book.graph)

-- a new book of a sheet
pub record IsOpenedWith {G : Type 0} (start : SheetValue) (book : BookValue G) : Type 0 where
  pub opening : book.opening ≡ start
  pub sheet : book.sheet ≡ start
  pub log : book.log ≡ []

-- nothing that a book tells has changed: its log, its contents and its pairs
pub record IsUnchanged {G : Type 0} (pairs_of : G → List Pair) (old new : BookValue G) : Type 0 where
  pub opening : new.opening ≡ old.opening
  pub sheet : new.sheet ≡ old.sheet
  pub log : new.log ≡ old.log
  pub pairs : SamePairs (pairs_of old.graph) (pairs_of new.graph)

-- the client with its edit
abbrev pub client_entry : ℕ → EditValue → Entry
client_entry client edit = record { client = client; edit = edit }

-- an edit that is ready to be made: the entry, its number, and the cells that it touches
pub record PreparedValue : Type 0 where
  pub entry : Entry
  pub number : ℕ
  pub touched : List Position

-- it is for the next place of a log: it has the number of that place and the cells that the entry touches there, all of them
-- in the sheet as its own cells are; its contents may stand beside the labels; and the log isn't full
pub record IsPreparedFor (opening : SheetValue) (log : List Entry) (prepared : PreparedValue) : Type 0 where
  pub number : prepared.number ≡ length log + 1
  pub touched : AreTouched opening log prepared.entry prepared.touched
  pub edit : IsEdit prepared.entry.edit
  pub inside : AreInSheet opening prepared.entry.edit
  pub touched_inside : All (λ cell. IsTrue (is_inside opening.sizes cell)) prepared.touched
  pub held : AreHeldBeside (length opening.labels) prepared.entry.edit
  pub room : length log < 1048576

-- the ranges to which the content of a change refers, each once; and those of each change of an edit
abbrev pub AreRefsOf : ChangeValue → List Corners → Type 0
AreRefsOf change ranges = IsOnceEach (ranges_in change.content) ranges

abbrev pub HaveRefs : EditValue → List (List Corners) → Type 0
HaveRefs edit refs = AllZip AreRefsOf edit refs

-- a prepared edit in memory: the edit for the sheet is that of the entry, the ranges are those to which its formulas refer,
-- and where it is known to close no cycle, none of its formulas refers to a cell that it touches
pub record IsStoredEdit (prepared : PreparedValue) (edit : EditValue) (refs : List (List Corners)) (closes_none : Bool) : Type 0 where
  pub same : edit ≡ prepared.entry.edit
  pub whole : HaveRefs edit refs
  pub closes : IsTrue closes_none → RefersToNone prepared.entry.edit prepared.touched

-- what a book keeps: its sheet, graph and log agree, and each cell on a cycle is in the set of those that may be on one, where
-- there is such a set; the values that are kept are those of the sheet
pub record IsKeptBook (opening sheet : SheetValue) (log : List Entry) (pairs : List Pair) (cycles : Option (List Corners))
    (values : Option KeptValues) : Type 0 where
  pub book : IsBookOf opening sheet log pairs
  pub cycles_held : IfSome cycles (HoldsCycles pairs)
  pub values_kept : IfSome values (KeepsValuesOf sheet)

-- a book after an edit: the entry is the last of the log, and the edit is made
pub record HasApplied {G : Type 0} (entry : Entry) (old new : BookValue G) : Type 0 where
  pub opening : new.opening ≡ old.opening
  pub sheet : new.sheet ≡ after_edit old.sheet entry.edit
  pub log : new.log ≡ old.log ++ entry ∷ []

-- one book comes of another by the edits of these entries, made one after the other
abbrev pub ComesByEdits : {G : Type 0} → List Entry → BookValue G → BookValue G → Type 0
ComesByEdits {G} [] old new = new ≡ old
ComesByEdits {G} (entry ∷ entries) old new = (between : BookValue G) × HasApplied entry old between × ComesByEdits entries between new

-- then the opening sheet is the same, the entries are the last of the log, and the sheet is the opening one after the log
abbrev pub EditsMakeTheLog : Type 0 → Type 0
EditsMakeTheLog G =
    (entries : List Entry) (old new : BookValue G) → ComesByEdits entries old new → old.sheet ≡ after old.opening old.log
    → (new.opening ≡ old.opening) × (new.log ≡ old.log ++ entries) × (new.sheet ≡ after old.opening new.log)

-- the sheet after each beginning of a book's log is a sheet
abbrev pub EarlierSheetsAreSheets : Type 0
EarlierSheetsAreSheets =
    (opening sheet : SheetValue) (log : List Entry) (pairs : List Pair) → IsBookOf opening sheet log pairs
    → (k : ℕ) → IsSheet (after opening (take k log))
