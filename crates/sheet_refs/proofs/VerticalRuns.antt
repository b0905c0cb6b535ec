-- A set of cells has one list of maximal vertical runs.
use Rattle.std.proofs.Common.{◌≡◌, suc, ◌+◌, ◌<◌, ◌≤◌, ◌⊎◌, inl, inr, List, [], ◌∷◌, refl, sym, ap₂, subst, arith}
use Rattle.std.proofs.lemmas.Bool.{cases_lt}
use Rattle.sheet_refs.specs.Cells.{Position, Corners, IsIn}
use Rattle.sheet_refs.specs.Rectangles.{IsAmong, IsVertical, IsBefore, AreMaximalRuns}
use Rattle.sheet_refs.specs.SetLaws.{HaveSameCells}
use Rattle.sheet_refs.proofs.ColumnLemmas.{among_cons, none_among}

-- a cell stands to the right of a run, or below it with a cell between
abbrev pub IsPast : Corners → Position → Type 0
IsPast run cell = (run.tail.col < cell.col) ⊎ ((run.tail.col ≡ cell.col) × (run.tail.row + 1 < cell.row))

past_run : (run later : Corners) (cell : Position) → IsVertical later → IsBefore run later → IsIn cell later → IsPast run cell
past_run run later cell upright (inl left) inside = inl (omega (arith, left, inside.col_from))
past_run run later cell upright (inr below) inside =
    inr (omega (arith, below.0, upright.one_column, inside.col_from, inside.col_to), omega (arith, below.1, inside.row_from))

not_past : (run : Corners) (cell : Position) → IsVertical run → IsIn cell run → IsPast run cell → ⊥
not_past run cell upright inside (inl right) = omega (arith, right, inside.col_to)
not_past run cell upright inside (inr below) = omega (arith, below.1, inside.row_to)

module _ (first : Corners) (rest : List Corners) (runs : AreMaximalRuns (first ∷ rest)) where
  upright : IsVertical first
  upright = runs.vertical 0 first (omega arith)

  others : AreMaximalRuns rest
  others = record {
    vertical = λ k d within. runs.vertical (suc k) d (omega (arith, within));
    in_order = λ i j d before within. runs.in_order (suc i) (suc j) d (omega (arith, before)) (omega (arith, within));
  }

  -- the first run has its head
  has_head : IsAmong (first ∷ rest) first.head
  has_head =
      let inside : IsIn first.head first = record {
        row_from = omega arith;
        row_to = upright.ordered;
        col_from = omega arith;
        col_to = omega (arith, upright.one_column);
      } in
      record { range = first; listed = (0, omega arith, refl); inside = inside }

  -- and all cells of the others are past it
  later_past : (cell : Position) → IsAmong rest cell → IsPast first cell
  later_past cell among =
      let (k, within, is) = among.listed in
      let before = runs.in_order 0 (suc k) among.range (omega arith) (omega (arith, within)) in
      let vertical = others.vertical k among.range within in
      past_run first among.range cell (subst IsVertical is vertical) (subst (IsBefore first) is before) among.inside

  in_or_past : (cell : Position) → IsAmong (first ∷ rest) cell → IsIn cell first ⊎ IsPast first cell
  in_or_past cell among = elim ((among_cons first rest cell).0 among) [ inl here ↦ inl here | inr later ↦ inr (later_past cell later) ]

  -- a run that begins where the first one does, and has no other cells, doesn't end below it
  ends_within : (run : Corners) → IsVertical run → first.head.row ≡ run.head.row → first.head.col ≡ run.head.col
      → ((cell : Position) → IsIn cell run → IsAmong (first ∷ rest) cell) → run.tail.row ≤ first.tail.row
  ends_within run vertical row col has = elim (cases_lt first.tail.row run.tail.row) [ inl below ↦ absurd (no below) | inr within ↦ within ]
    where
      next : Position
      next = record { row = first.tail.row + 1; col = first.tail.col }

      no : first.tail.row < run.tail.row → ⊥
      no below =
          let inside : IsIn next run = record {
            row_from = omega (arith, row, upright.ordered);
            row_to = omega (arith, below);
            col_from = omega (arith, col, upright.one_column);
            col_to = omega (arith, col, upright.one_column, vertical.one_column);
          } in
          elim (in_or_past next (has next inside)) [
            | inl here ↦ omega (arith, here.row_to)
            | inr past ↦ elim past [ inl right ↦ omega (arith, right) | inr far ↦ omega (arith, far.1) ]
          ]

-- two runs of which each begins in the other or past it begin at the same cell
same_head : (a b : Corners) → IsVertical a → IsVertical b → IsIn a.head b ⊎ IsPast b a.head → IsIn b.head a
    ⊎ IsPast a b.head → (a.head.row ≡ b.head.row) × (a.head.col ≡ b.head.col)
same_head a b va vb (inl p) (inl q) = (omega (arith, p.row_from, q.row_from), omega (arith, p.col_from, q.col_from))
same_head a b va vb (inl p) (inr (inl q)) = absurd (omega (arith, p.col_from, q, va.one_column))
same_head a b va vb (inl p) (inr (inr q)) = absurd (omega (arith, p.row_from, q.1, va.ordered))
same_head a b va vb (inr (inl p)) (inl q) = absurd (omega (arith, q.col_from, p, vb.one_column))
same_head a b va vb (inr (inl p)) (inr (inl q)) = absurd (omega (arith, p, q, va.one_column, vb.one_column))
same_head a b va vb (inr (inl p)) (inr (inr q)) = absurd (omega (arith, p, q.0, va.one_column, vb.one_column))
same_head a b va vb (inr (inr p)) (inl q) = absurd (omega (arith, q.row_from, p.1, vb.ordered))
same_head a b va vb (inr (inr p)) (inr (inl q)) = absurd (omega (arith, p.0, q, va.one_column, vb.one_column))
same_head a b va vb (inr (inr p)) (inr (inr q)) = absurd (omega (arith, p.1, q.1, va.ordered, vb.ordered))

same_corners : (a b : Corners) → a.head.row ≡ b.head.row → a.head.col ≡ b.head.col → a.tail.row ≡ b.tail.row → a.tail.col ≡ b.tail.col → a ≡ b
same_corners a b top left bottom right = λ i. record { head = record { row = top i; col = left i }; tail = record { row = bottom i; col = right i } }

same_first : (a b : Corners) (xs ys : List Corners) → AreMaximalRuns (a ∷ xs) → AreMaximalRuns (b ∷ ys) → HaveSameCells (a ∷ xs) (b ∷ ys) → a ≡ b
same_first a b xs ys here there same =
    let va = upright a xs here in
    let vb = upright b ys there in
    let heads = same_head a b va vb (in_or_past b ys there a.head ((same a.head).0 (has_head a xs here)))
    (in_or_past a xs here b.head ((same b.head).1 (has_head b ys there))) in
    let below = ends_within a xs here b vb heads.0 heads.1 (λ cell inside. (same cell).1 ((among_cons b ys cell).1 (inl inside))) in
    let above = ends_within b ys there a va (sym heads.0) (sym heads.1) (λ cell inside. (same cell).0 ((among_cons a xs cell).1 (inl inside))) in
    same_corners a b heads.0 heads.1 (omega (arith, below, above)) (omega (arith, heads.1, va.one_column, vb.one_column))

-- what the others have, the others have
others_have : (a b : Corners) (xs ys : List Corners) → a ≡ b → AreMaximalRuns (a ∷ xs)
    → ((cell : Position) → IsAmong (a ∷ xs) cell → IsAmong (b ∷ ys) cell) → (cell : Position) → IsAmong xs cell
    → IsAmong ys cell
others_have a b xs ys first here has cell among =
    elim ((among_cons b ys cell).0 (has cell ((among_cons a xs cell).1 (inr among)))) [
      | inl inside ↦ absurd (not_past a cell (upright a xs here) (subst (IsIn cell) (sym first) inside) (later_past a xs here cell among))
      | inr later ↦ later
    ]

pub one_list : (xs ys : List Corners) → AreMaximalRuns xs → AreMaximalRuns ys → HaveSameCells xs ys → xs ≡ ys
one_list [] [] here there same = refl
one_list [] (b ∷ ys) here there same = absurd (none_among b.head ((same b.head).1 (has_head b ys there)))
one_list (a ∷ xs) [] here there same = absurd (none_among a.head ((same a.head).0 (has_head a xs here)))
one_list (a ∷ xs) (b ∷ ys) here there same =
    let first = same_first a b xs ys here there same in
    ap₂ (λ x xs. x ∷ xs) first
    (one_list xs ys (others a xs here) (others b ys there)
    (λ cell. (others_have a b xs ys first here (λ c. (same c).0) cell, others_have b a ys xs (sym first) there (λ c. (same c).1) cell)))
