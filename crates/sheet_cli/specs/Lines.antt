-- The lines that say why a run was refused. Each begins with the program's name and ends with a line feed.
use Rattle.std.specs.Prelude.{ℕ, List, [], ◌∷◌, ◌++◌, codes}
use Rattle.std.specs.Fmt.{decimal}
use Rattle.sheet_fill.specs.declared.refused.FillRefused.{FillRefused}
use Rattle.sheet_fill.specs.declared.refused.FillRefused.TheVariants as unfilled
use Rattle.sheet_undo.specs.declared.refused.UndoRefused.{UndoRefused}
use Rattle.sheet_undo.specs.declared.refused.UndoRefused.TheVariants.{NoSuchEdit, Overtaken, Memory}
use Rattle.sheet_refs.specs.Cells.{Position}
use Rattle.sheet_refs.specs.Names.{cell_text}
use Rattle.csv_sheet.specs.Results.{sheet_refusal_text}
use Rattle.csv_sheet.specs.declared.refused.SheetRefused.{SheetRefused}
use Rattle.edit_script.specs.Scripts.{script_refusal_text}
use Rattle.edit_script.specs.declared.refused.ScriptRefused.{ScriptRefused}

abbrev pub line_end : List ℕ
line_end = 10 ∷ []

abbrev pub usage_line : List ℕ
usage_line =
    codes "antifreeze: usage: antifreeze show|deps|precs SHEET RANGE; check SHEET; "
    ++ (codes "play|live SHEET SCRIPT; gen NUMBER; fill SHEET CELL RANGE; undo SHEET SCRIPT NUMBER; path SHEET CELL CELL; "
    ++ (codes "--workers N with live, gen" ++ line_end))

abbrev pub outside_line : List ℕ
outside_line = codes "antifreeze: range outside the sheet" ++ line_end

abbrev pub too_long_line : List ℕ
too_long_line = codes "antifreeze: sheet: text too long" ++ line_end

-- why the text is no sheet
abbrev pub refused_line : SheetRefused → List ℕ
refused_line why = codes "antifreeze: " ++ (sheet_refusal_text why ++ line_end)

abbrev pub long_script_line : List ℕ
long_script_line = codes "antifreeze: script: text too long" ++ line_end

-- why the text is no script
abbrev pub script_line : ScriptRefused → List ℕ
script_line why = codes "antifreeze: " ++ (script_refusal_text why ++ line_end)

-- there is no edit of a number
abbrev pub no_edit_line : ℕ → List ℕ
no_edit_line number = codes "antifreeze: no edit " ++ (decimal number ++ line_end)

-- a later edit changes a cell of the one that was to be undone
abbrev pub overtaken_line : ℕ → ℕ → Position → List ℕ
overtaken_line number by cell =
    codes "antifreeze: edit " ++ (decimal number ++ (codes " overtaken by " ++ (decimal by ++ (codes " at " ++ (cell_text cell ++ line_end)))))

-- the range that was to be filled is the cell that was to be copied, or too large
abbrev pub nothing_line : List ℕ
nothing_line = codes "antifreeze: nothing to fill" ++ line_end

abbrev pub many_line : List ℕ
many_line = codes "antifreeze: fill of too many cells" ++ line_end

abbrev pub read_failed_line : List ℕ → List ℕ
read_failed_line name = codes "antifreeze: " ++ (name ++ (codes ": read failed" ++ line_end))

abbrev pub write_failed_line : List ℕ
write_failed_line = codes "antifreeze: write failed" ++ line_end

abbrev pub no_memory_line : List ℕ
no_memory_line = codes "antifreeze: out of memory" ++ line_end

-- why an edit isn't undone
abbrev pub undo_line : ℕ → UndoRefused → List ℕ
undo_line number (NoSuchEdit count) = no_edit_line number
undo_line number (Overtaken by cell) = overtaken_line number by cell
undo_line number Memory = no_memory_line

-- why a range isn't filled
abbrev pub fill_line : FillRefused → List ℕ
fill_line unfilled.Nothing = nothing_line
fill_line (unfilled.TooMany count) = many_line
fill_line unfilled.Memory = no_memory_line
