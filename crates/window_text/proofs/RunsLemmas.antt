-- The text of a list of ranges, one after the other.
use Rattle.std.proofs.Common.{◌≡◌, ℕ, ◌+◌, ◌<◌, ◌≤◌, List, [], ◌∷◌, ◌++◌, length, drop, get_or, sym, subst, ◌∙◌, ap, append_assoc}
use Rattle.std.proofs.Math.ListN.{drop_of_length-le}
use Rattle.std.proofs.lemmas.List.{drop_more}
use Rattle.sheet_refs.specs.Cells.{Corners}
use Rattle.sheet_refs.specs.Names.{range_text}
use Rattle.text_pieces.specs.Pieces.{Taker}
use Rattle.window_text.specs.Texts.{runs_text}
use Rattle.text_pieces.proofs.PieceLemmas.{Completes}

-- the text of the ranges from a place on
abbrev pub runs_rest : List Corners → ℕ → List ℕ
runs_rest runs place = runs_text (drop place runs)

-- goes on with the range at that place
pub runs_go_on : (runs : List Corners) (place : ℕ) (run : Corners) → place < length runs → run ≡ get_or runs place run
    → runs_rest runs place ≡ range_text run ++ ((10 ∷ []) ++ runs_rest runs (place + 1))
runs_go_on runs place run within here =
    let one = λ (r : Corners). (range_text r ++ 10 ∷ []) ++ runs_rest runs (place + 1) in
    ap runs_text (drop_more runs place run within) ∙ (ap one (sym here) ∙ append_assoc (range_text run) (10 ∷ []) (runs_rest runs (place + 1)))

-- whoever hands out the ranges from a place on, has handed out the text; so has who hands out the range there and the others
module _ {F : Type 0} (taker : Taker F) (old now : F) (runs : List Corners) (place : ℕ) where
  pub next_run : (run : Corners) → place < length runs → run ≡ get_or runs place run
      → Completes taker old (runs_text runs) now (runs_rest runs place)
      → Completes taker old (runs_text runs) now (range_text run ++ ((10 ∷ []) ++ runs_rest runs (place + 1)))
  next_run run within here rest = subst (Completes taker old (runs_text runs) now) (runs_go_on runs place run within here) rest

-- until no range is left
pub runs_end : (runs : List Corners) (place : ℕ) → length runs ≤ place → runs_rest runs place ≡ []
runs_end runs place past = ap runs_text (drop_of_length-le runs past)
