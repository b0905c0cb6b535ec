-- Texts on their way out: lists of cells, and a text whose front has passed a buffer and whose end is put.
use Rattle.std.proofs.Common.{◌≡◌, ℕ, ◌+◌, ◌<◌, ◌≤◌, List, [], ◌∷◌, ◌++◌, length, drop, get_or, sym, subst, ◌∙◌, ap, append_assoc}
use Rattle.std.proofs.Math.ListN.{drop_of_length-le}
use Rattle.std.proofs.lemmas.List.{drop_more}
use Rattle.std.specs.Prelude.{Result, Ok, Err}
use Rattle.std.specs.declared.option.Option.{Option}
use Rattle.std.specs.Io.KnownBytes.{Appends}
use Rattle.std.proofs.KnownBytes.{Appends-trans}
use Rattle.sheet_io.specs.Sink.{Puts}
use Rattle.sink_buffer.specs.Buffers.{HasPassed}
use Rattle.sink_buffer.proofs.PassLemmas.{cut_then}
use Rattle.sheet_refs.specs.Cells.{Position}
use Rattle.sheet_refs.specs.Names.{cell_text}
use Rattle.text_pieces.specs.Pieces.{Taker}
use Rattle.text_pieces.proofs.PieceLemmas.{Completes}
use Rattle.sheet_cli.specs.Graphs.{cells_text}

-- the text of the cells from a place on
abbrev pub cells_rest : List Position → ℕ → List ℕ
cells_rest cells place = cells_text (drop place cells)

-- goes on with the cell at that place
cells_go_on : (cells : List Position) (place : ℕ) (cell : Position) → place < length cells
    → cell ≡ get_or cells place cell → cells_rest cells place ≡ cell_text cell
    ++ ((10 ∷ []) ++ cells_rest cells (place + 1))
cells_go_on cells place cell within here =
    let one = λ (c : Position). (cell_text c ++ 10 ∷ []) ++ cells_rest cells (place + 1) in
    ap cells_text (drop_more cells place cell within) ∙ (ap one (sym here) ∙ append_assoc (cell_text cell) (10 ∷ []) (cells_rest cells (place + 1)))

-- whoever hands out the cell there and the others, has handed out the text
module _ {F : Type 0} (taker : Taker F) (old now : F) (cells : List Position) (place : ℕ) where
  pub next_cell : (cell : Position) → place < length cells → cell ≡ get_or cells place cell
      → Completes taker old (cells_text cells) now (cells_rest cells place)
      → Completes taker old (cells_text cells) now (cell_text cell ++ ((10 ∷ []) ++ cells_rest cells (place + 1)))
  next_cell cell within here rest = subst (Completes taker old (cells_text cells) now) (cells_go_on cells place cell within here) rest

-- until no cell is left
pub cells_end : (cells : List Position) (place : ℕ) → length cells ≤ place → cells_rest cells place ≡ []
cells_end cells place past = ap cells_text (drop_of_length-le cells past)

pub put_rest : {T E : Type 0} (old now new : Option (List ℕ)) (text held : List ℕ) (result : Result T E)
    → HasPassed old now text held → Puts now new held result → Puts old new text result
put_rest old now new text held (Ok x) passed puts = subst (Appends old new) (sym passed.split) (Appends-trans old now new passed.put held passed.appends puts)
put_rest old now new text held (Err e) passed puts = cut_then old now new text held passed puts
