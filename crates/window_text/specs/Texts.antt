-- What the commands print of a sheet, and of its edges.
use Rattle.std.specs.Prelude.{ℕ, ℤ, List, [], ◌∷◌, ◌++◌, map, flat_map, length, codes}
use Rattle.std.specs.List.{join_with_byte}
use Rattle.std.specs.Fmt.{decimal, signed_decimal}
use Rattle.sheet_refs.specs.Cells.{Position, Corners, rows_of, row_cells}
use Rattle.sheet_refs.specs.Names.{range_text}
use Rattle.edge_patterns.specs.declared.edge.Pattern.{Pattern}
use Rattle.edge_patterns.specs.declared.edge.Pattern.TheVariants.{Single, Rr, Rf, Fr, Ff, Chain}
use Rattle.edge_patterns.specs.Edges.{EdgeValue}
use Rattle.value_core.specs.declared.value.Value.{Value}
use Rattle.value_core.specs.Values.{value_text}
use Rattle.sheet_model.specs.Labels.{label_text}
use Rattle.sheet_model.specs.Sheets.{SheetValue}
use Rattle.sheet_model.specs.Values.{value_of}

-- how a value is printed beside a table of labels
abbrev pub shown_value : List (List ℕ) → Value → List ℕ
shown_value labels value = value_text (label_text labels) value

-- how the value of a cell of a sheet is printed
abbrev pub shown_cell : SheetValue → Position → List ℕ
shown_cell sheet cell = shown_value sheet.labels (value_of sheet cell)

-- one row of a window, of which each cell has a text: these with commas between them, and the line's end
abbrev pub row_text : (Position → List ℕ) → Corners → ℕ → List ℕ
row_text shown window row = join_with_byte 44 (map shown (row_cells window row)) ++ 10 ∷ []

-- all rows of a window
abbrev pub rows_text : (Position → List ℕ) → Corners → List ℕ
rows_text shown window = flat_map (row_text shown window) (rows_of window)

-- a window of a sheet: its name, and a line for each of its rows
abbrev pub sheet_window : SheetValue → Corners → List ℕ
sheet_window sheet window = range_text window ++ (10 ∷ rows_text (shown_cell sheet) window)

-- what stands ahead of a window of a sheet after so many edits
abbrev pub sheet_head : ℕ → List ℕ
sheet_head number = codes "sheet " ++ (decimal number ++ (32 ∷ []))

-- what `show` writes: a window of the sheet after no edit
abbrev pub show_text : SheetValue → Corners → List ℕ
show_text sheet window = sheet_head 0 ++ sheet_window sheet window

-- what `deps` and `precs` write: a line for each of their ranges
abbrev pub runs_text : List Corners → List ℕ
runs_text runs = flat_map (λ run. range_text run ++ 10 ∷ []) runs

-- the name of a pattern, as TACO gives it
abbrev pub pattern_text : Pattern → List ℕ
pattern_text Single = codes "Single"
pattern_text Rr = codes "RR"
pattern_text Rf = codes "RF"
pattern_text Fr = codes "FR"
pattern_text Ff = codes "FF"
pattern_text Chain = codes "Chain"

-- the line of an edge: its run, the rectangle of its ranges and its pattern, with a space between them
abbrev pub line_of : Corners → Corners → Pattern → List ℕ
line_of dep prec pattern = range_text dep ++ (32 ∷ (range_text prec ++ (32 ∷ (pattern_text pattern ++ 10 ∷ []))))

abbrev pub edge_line : EdgeValue → List ℕ
edge_line edge = line_of edge.dep edge.prec edge.pattern

-- a line of a word and a number
abbrev pub count_line : List ℕ → ℕ → List ℕ
count_line word number = word ++ (32 ∷ (decimal number ++ 10 ∷ []))

-- what `check` writes: how many pairs there are, how many edges, and a line for each edge
abbrev pub check_text : ℕ → List EdgeValue → List ℕ
check_text pairs edges =
    count_line (codes "pairs") pairs ++ (count_line (codes "edges") (length edges) ++ flat_map edge_line edges)

-- what `gen` writes: the number of the generated run, the cells of its sheet, how many edits it has, and the sum of its values
abbrev pub generated_text : ℕ → ℕ → ℤ → List ℕ
generated_text number edits sum =
    count_line (codes "gen") number
    ++ (codes "cells 7000" ++ (10 ∷ (count_line (codes "edits") edits ++ (codes "sum " ++ (signed_decimal sum ++ 10 ∷ [])))))
