-- Shortest chains of references, and what `path` writes of them.
use Rattle.std.proofs.Common.{◌≡◌, ℕ, zero, suc, ◌<◌, ◌≤◌, ◌+◌, ◌-◌, ◌/◌, ◌%◌, All, inl, inr, false, List, [], ◌∷◌}
use Rattle.std.proofs.Common.{◌++◌, length, length-append, append_assoc, decimal, refl, sym, ◌∙◌, ap, arith}
use Rattle.std.specs.Prelude.{◌==◌, ◌⊎◌}
use Rattle.std.proofs.lemmas.Bool.Decides.{nat_tests}
use Rattle.std.proofs.lemmas.List.Elements.{All-append}
use Rattle.sheet_refs.specs.Cells.{Position}
use Rattle.sheet_refs.specs.Names.{last_letters}
use Rattle.sheet_refs.proofs.Places.{inside_bounds}
use Rattle.sheet_model.specs.Sheets.{SheetValue}
use Rattle.graph_walk.specs.Graphs.{Pair, Step, Reach}
use Rattle.edit_log.specs.Pairs.{ArePairsOf}
use Rattle.dep_path.specs.Chains.{IsShortest}
use Rattle.dep_path.specs.Levels.{one_cell}
use Rattle.sheet_cli.specs.Answers.{AreAlternatives, AreInSheet}
use Rattle.sheet_cli.specs.Answers.Answer.{output}
use Rattle.sheet_cli.specs.Answers.AreAlternatives.{either_path}
use Rattle.sheet_cli.specs.Graphs.{ShowsPath, cells_text, none_text}
use Rattle.sheet_cli.specs.Graphs.ShowsPath.{chain, no_chain}
use Rattle.sheet_cli.specs.Laws.{NoneIsNoChain, ShownIsShortest}
use Rattle.sheet_cli.specs.Requests.Request.{of_path}
use Rattle.sheet_cli.specs.Words.{Asks}
use Rattle.sheet_cli.proofs.GraphLemmas.{path_over, reach_over, step_over}

-- shortest chains between two cells are equally long
no_longer : (pairs : List Pair) (from to : Position) (cells others : List Position) → IsShortest pairs from to cells
    → IsShortest pairs from to others → length cells ≤ length others
no_longer pairs from to cells others one other =
    let least = one.least other.cells other.path in
    rw (one.begins, other.begins) (omega (arith, least))

pub as_long : (pairs : List Pair) (from to : Position) (cells others : List Position) → IsShortest pairs from to cells
    → IsShortest pairs from to others → length cells ≡ length others
as_long pairs from to cells others one other = omega (arith, no_longer pairs from to cells others one other, no_longer pairs from to others cells other one)

-- whoever has a chain is reached
reached : (pairs : List Pair) (from to : Position) (cells : List Position) → IsShortest pairs from to cells → Reach pairs (one_cell from) to
reached pairs from to cells shortest = record {
  from = from;
  starts = record { row_from = omega arith; row_to = omega arith; col_from = omega arith; col_to = omega arith };
  cells = shortest.cells;
  path = shortest.path;
}

-- whatever list a sheet's pairs stand in, the shortest chains are the same
module _ (sheet : SheetValue) (pairs others : List Pair) (here : ArePairsOf sheet pairs) (there : ArePairsOf sheet others) where
  pub shortest_over : (from to : Position) (cells : List Position) → IsShortest pairs from to cells → IsShortest others from to cells
  shortest_over from to cells shortest = record {
    cells = shortest.cells;
    begins = shortest.begins;
    path = path_over (Step pairs) (Step others) (step_over sheet pairs others here there) from to shortest.cells shortest.path;
    least = λ steps path. shortest.least steps (path_over (Step others) (Step pairs) (step_over sheet others pairs there here) from to steps path);
  }

-- `path` writes one text of two cells of a sheet, or two chains of which either is a shortest one
pub one_shown : (words : List (List ℕ)) (name : List ℕ) (from to : Position) (sheet : SheetValue) (text said : List ℕ)
    → Asks words (of_path name from to) → ShowsPath sheet from to text → ShowsPath sheet from to said
    → (output text ≡ output said) ⊎ AreAlternatives words (output text) (output said)
one_shown words name from to sheet _ _ asked (chain pairs cells here shortest) (chain others again there other) = inr (either_path (record {
  name = name;
  from = from;
  to = to;
  asked = asked;
  pairs = pairs;
  cells = cells;
  others = again;
  shortest = shortest;
  again = shortest_over sheet others pairs there here from to again other;
  one = refl;
  other = refl;
}))
one_shown words name from to sheet _ _ asked (chain pairs cells here shortest) (no_chain others there none) =
    absurd (none (reach_over sheet pairs others here there (one_cell from) to (reached pairs from to cells shortest)))
one_shown words name from to sheet _ _ asked (no_chain pairs here none) (chain others again there other) =
    absurd (none (reach_over sheet others pairs there here (one_cell from) to (reached others from to again other)))
one_shown words name from to sheet _ _ asked (no_chain _ _ _) (no_chain _ _ _) = inl refl

-- ---- a list of cells isn't the word for none

-- one element has the property of all
alone : (P : ℕ → Type 0) (x : ℕ) → P x → All P (x ∷ [])
alone P x is zero d within = is
alone P x is (suc k) d within = absurd (omega (arith, within))

-- the letters of a column are upper-case ones
last_behind : (more col : ℕ) → last_letters (suc more) (suc col) ≡ last_letters more (col / 26) ++ (65 + col % 26) ∷ []
last_behind more col =
    let some : (suc col == 0) ≡ false = grind (arith, nat_tests) in
    let less : suc col - 1 ≡ col = omega arith in
    rw (some, less)

upper : (count col : ℕ) → All (λ letter. letter ≤ 90) (last_letters count col)
upper zero col = λ k d within. absurd (omega (arith, within))
upper (suc more) zero = λ k d within. absurd (omega (arith, within))
upper (suc more) (suc col) =
    let letter = 65 + col % 26 in
    rw (last_behind more col) (All-append (λ b. b ≤ 90) (last_letters more (col / 26)) (letter
    ∷ []) (upper more (col / 26)) (alone (λ b. b ≤ 90) letter (omega arith)))

-- the name of a column has a letter
some_letter : (col : ℕ) → 1 ≤ col → 0 < length (last_letters 3 col)
some_letter zero from = absurd (omega (arith, from))
some_letter (suc col) from = rw (last_behind 2 col) (omega (arith, length-append (last_letters 2 (col / 26)) ((65 + col % 26) ∷ [])))

front_of : (letters rest : List ℕ) → 0 < length letters → All (λ letter. letter ≤ 90) letters → letters ++ rest ≡ none_text → ⊥
front_of [] rest some all is = omega (arith, some)
front_of (letter ∷ letters) rest some all is =
    let small = all 0 0 some in
    let same : letter ≡ 110 = cc is in
    omega (arith, small, same)

no_word : (sheet : SheetValue) (from to : Position) (pairs : List Pair) (cells : List Position)
    → AreInSheet sheet from to → IsShortest pairs from to cells → cells_text cells ≡ none_text → ⊥
no_word sheet from to pairs cells inside shortest is =
    let letters = last_letters 3 from.col in
    let col = (inside_bounds sheet.sizes from inside.0).col_from in
    let text : cells_text (from ∷ shortest.cells) ≡ none_text = ap cells_text (sym shortest.begins) ∙ is in
    front_of letters ((decimal from.row ++ 10 ∷ []) ++ cells_text shortest.cells) (some_letter from.col col) (upper 3 from.col)
    (sym (ap (λ front. front ++ cells_text shortest.cells) (append_assoc letters (decimal from.row) (10 ∷ []))
    ∙ append_assoc letters (decimal from.row ++ 10 ∷ []) (cells_text shortest.cells)) ∙ text)

pub none_no_chain : NoneIsNoChain
none_no_chain sheet from to pairs _ inside here (chain others cells there shortest) = (
  λ is. absurd (no_word sheet from to others cells inside shortest is),
  λ none. absurd (none (reach_over sheet others pairs there here (one_cell from) to (reached others from to cells shortest))),
)
none_no_chain sheet from to pairs _ inside here (no_chain others there none) = (
  λ is reach. none (reach_over sheet pairs others here there (one_cell from) to reach),
  λ unreached. refl,
)

pub shown_shortest : ShownIsShortest
shown_shortest sheet from to pairs _ here (chain others cells there shortest) reach =
    (cells, (refl, shortest_over sheet others pairs there here from to cells shortest))
shown_shortest sheet from to pairs _ here (no_chain others there none) reach = absurd (none (reach_over sheet pairs others here there (one_cell from) to reach))
