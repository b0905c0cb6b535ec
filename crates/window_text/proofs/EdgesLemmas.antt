-- The lines of a list of edges, one after the other.
use Rattle.std.proofs.Common.{◌≡◌, ℕ, ◌+◌, ◌<◌, ◌≤◌, List, [], ◌∷◌, ◌++◌, length, drop, get_or, sym, ◌∙◌, ap, subst}
use Rattle.std.specs.List.{flat_map}
use Rattle.std.proofs.Math.ListN.{drop_of_length-le}
use Rattle.std.proofs.lemmas.List.{drop_more}
use Rattle.edge_patterns.specs.Edges.{EdgeValue}
use Rattle.text_pieces.specs.Pieces.{Taker}
use Rattle.sheet_refs.specs.Names.{range_text}
use Rattle.window_text.specs.Texts.{edge_line, pattern_text}
use Rattle.text_pieces.proofs.PieceLemmas.{Completes}

-- what follows the rectangle in an edge's line, and what follows the run
abbrev pub after_rectangle : EdgeValue → List ℕ
after_rectangle edge = 32 ∷ (pattern_text edge.pattern ++ 10 ∷ [])

abbrev pub after_run : EdgeValue → List ℕ
after_run edge = 32 ∷ (range_text edge.prec ++ after_rectangle edge)

-- the lines of the edges from a place on
abbrev pub edges_rest : List EdgeValue → ℕ → List ℕ
edges_rest edges place = flat_map edge_line (drop place edges)

-- goes on with the edge at that place
edges_go_on : (edges : List EdgeValue) (place : ℕ) (edge : EdgeValue) → place < length edges
    → edge ≡ get_or edges place edge → edges_rest edges place ≡ edge_line edge ++ edges_rest edges (place + 1)
edges_go_on edges place edge within here =
    ap (flat_map edge_line) (drop_more edges place edge within) ∙ ap (λ (e : EdgeValue). edge_line e ++ edges_rest edges (place + 1)) (sym here)

-- whoever hands out the lines from a place on, has handed out the text; so has who hands out the line there and the others
pub next_edge : {F : Type 0} (taker : Taker F) (old now : F) (text : List ℕ) (edges : List EdgeValue) (place : ℕ)
    (edge : EdgeValue) → place < length edges → edge ≡ get_or edges place edge
    → Completes taker old text now (edges_rest edges place) → Completes taker old text now (edge_line edge
    ++ edges_rest edges (place + 1))
next_edge taker old now text edges place edge within here rest = subst (Completes taker old text now) (edges_go_on edges place edge within here) rest

-- until no edge is left
pub edges_end : (edges : List EdgeValue) (place : ℕ) → length edges ≤ place → edges_rest edges place ≡ []
edges_end edges place past = ap (flat_map edge_line) (drop_of_length-le edges past)
