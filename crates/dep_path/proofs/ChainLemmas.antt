-- Chains as paths of steps.
use Rattle.std.proofs.Common.{◌≡◌, ◌≤◌, ◌<◌, ℕ, zero, suc, List, [], ◌∷◌, ◌++◌, length, take, get_or, refl, sym, subst, arith}
use Rattle.sheet_refs.specs.Cells.{Position}
use Rattle.graph_walk.specs.Graphs.{Pair, Step}
use Rattle.graph_walk.specs.Paths.{IsPath}
use Rattle.dep_path.specs.Chains.{IsChain}
use Rattle.dep_path.specs.Laws.{last_of, ChainsAreTheirEnds, ShortestAreChains, ShortestAreOfOneLength, EqualCellsAreOne}

path_of : (pairs : List Pair) (first : Position) (cells : List Position) → IsChain pairs (first ∷ cells) → IsPath (Step pairs) first cells (last_of first cells)
path_of pairs first [] chain = refl
path_of pairs first (next ∷ cells) chain = (chain.0, path_of pairs next cells chain.1)

chain_of : (pairs : List Pair) (first last : Position) (cells : List Position) → IsPath (Step pairs) first cells last → IsChain pairs (first ∷ cells)
chain_of pairs first last [] path = tt
chain_of pairs first last (next ∷ cells) path = (path.0, chain_of pairs next last cells path.1)

ends_at : (pairs : List Pair) (first last : Position) (cells : List Position) → IsPath (Step pairs) first cells last → last_of first cells ≡ last
ends_at pairs first last [] path = path
ends_at pairs first last (next ∷ cells) path = ends_at pairs next last cells path.1

pub chains_ends : ChainsAreTheirEnds
chains_ends pairs first cells = (path_of pairs first cells, chain_of pairs first (last_of first cells) cells)

pub shortest_chains : ShortestAreChains
shortest_chains pairs from to chain shortest = (
  rw shortest.begins (chain_of pairs from to shortest.cells shortest.path),
  (shortest.cells, shortest.begins, ends_at pairs from to shortest.cells shortest.path),
)

pub shortest_length : ShortestAreOfOneLength
shortest_length pairs from to chain shortest cells is ends =
    let path = subst (λ (last : Position). IsPath (Step pairs) from cells last) ends (path_of pairs from cells is) in
    let least = shortest.least cells path in
    rw shortest.begins (omega (arith, least))

pub shortest_equal : EqualCellsAreOne
shortest_equal pairs cell chain shortest = by_cells shortest.cells shortest.begins (shortest.least [] refl)
  where
    by_cells : (cells : List Position) → chain ≡ cell ∷ cells → length cells ≤ 0 → chain ≡ cell ∷ []
    by_cells [] is few = is
    by_cells (next ∷ cells) is few = absurd (omega (arith, few))

-- one cell more at the end
pub last_more : (first x : Position) (cells : List Position) → last_of first (cells ++ x ∷ []) ≡ x
last_more first x [] = refl
last_more first x (next ∷ cells) = last_more next x cells

pub chain_more : (pairs : List Pair) (first x : Position) (cells : List Position) → IsChain pairs (first ∷ cells)
    → Step pairs (last_of first cells) x → IsChain pairs (first ∷ (cells ++ x ∷ []))
chain_more pairs first x [] chain step = (step, tt)
chain_more pairs first x (next ∷ cells) chain step = (chain.0, chain_more pairs next x cells chain.1 step)

-- in a chain each cell depends on the one before
pub chain_at : (pairs : List Pair) (first x : Position) (cells : List Position) (place : ℕ) → place < length cells
    → x ≡ get_or cells place x → IsChain pairs (first ∷ cells)
    → Step pairs (last_of first (take place cells)) x
chain_at pairs first x [] place below at chain = absurd (omega (arith, below))
chain_at pairs first x (next ∷ cells) zero below at chain = subst (λ (to : Position). Step pairs first to) (sym at) chain.0
chain_at pairs first x (next ∷ cells) (suc place) below at chain = chain_at pairs next x cells place (omega (arith, below)) at chain.1
