-- The pairs of a run of cells with their ranges of some series, one pair after another and one series after another.
use Rattle.std.proofs.Common.{◌≡◌, ℕ, ◌+◌, ◌-◌, ◌*◌, ◌<◌, ◌↔◌, ◌⊎◌, inl, inr, List, [], ◌∷◌, ◌++◌}
use Rattle.std.proofs.Common.{sym, ◌∙◌, ap, subst, arith}
use Rattle.std.proofs.lemmas.Bool.{cases_lt}
use Rattle.std.proofs.Math.Nat.{add-mul}
use Rattle.std.proofs.lemmas.List.Elements.{Contains-append_left, Contains-append_right, Contains-push, Contains-push_cases}
use Rattle.std.specs.List.{Contains}
use Rattle.sheet_refs.specs.Cells.{Position, Corners, height}
use Rattle.sheet_refs.proofs.Grid.{same_position}
use Rattle.graph_walk.specs.Graphs.{Pair}
use Rattle.graph_walk.specs.Series.{SeriesValue, IsOfRun, AddsRun, range_in}
use Rattle.plain_graph.specs.Plain.{AddsSeries}
use Rattle.plain_graph.proofs.PairLemmas.{same_pair}

-- ---- one cell after another

-- the cell of a run with this index, counted from 0, and its pair
abbrev pub cell_in : Corners → ℕ → Position
cell_in run index = record { row = run.head.row + index; col = run.head.col }

abbrev pub pair_in : Corners → SeriesValue → ℕ → Pair
pair_in run one index = record { range = range_in one index; cell = cell_in run index }

-- the pair of one of the first so many cells
pub record IsOfFirst (run : Corners) (one : SeriesValue) (count : ℕ) (pair : Pair) : Type 0 where
  pub index : ℕ
  pub below : index < count
  pub is : pair ≡ pair_in run one index

-- the pairs of the first so many cells have come
abbrev pub AddsFirst : List Pair → List Pair → Corners → SeriesValue → ℕ → Type 0
AddsFirst old new run one count = (pair : Pair) → Contains new pair ↔ (IsOfFirst run one count pair ⊎ Contains old pair)

pub first_none : (old : List Pair) (run : Corners) (one : SeriesValue) → AddsFirst old old run one 0
first_none old run one pair = (λ listed. inr listed, from)
  where
    from : IsOfFirst run one 0 pair ⊎ Contains old pair → Contains old pair
    from (inl first) = absurd (omega (arith, first.below))
    from (inr listed) = listed

pub first_next : (old now new : List Pair) (run : Corners) (one : SeriesValue) (count : ℕ)
    → new ≡ now ++ pair_in run one count ∷ [] → AddsFirst old now run one count → AddsFirst old new run one (count + 1)
first_next old now new run one count pushed known pair = (to, from)
  where
    last : Pair
    last = pair_in run one count

    to : Contains new pair → IsOfFirst run one (count + 1) pair ⊎ Contains old pair
    to listed = elim (Contains-push_cases now last pair (subst (λ (ps : List Pair). Contains ps pair) pushed listed)) [
      | inl before ↦ elim ((known pair).0 before) [
        | inl first ↦ inl (record { index = first.index; below = omega (arith, first.below); is = first.is })
        | inr was ↦ inr was
      ]
      | inr same ↦ inl (record { index = count; below = omega arith; is = sym same })
    ]

    kept : Contains now pair → Contains new pair
    kept listed = subst (λ (ps : List Pair). Contains ps pair) (sym pushed) (Contains-append_left now (last ∷ []) pair listed)

    from : IsOfFirst run one (count + 1) pair ⊎ Contains old pair → Contains new pair
    from (inl first) = elim (cases_lt first.index count) [
      | inl before ↦ kept ((known pair).1 (inl (record { index = first.index; below = before; is = first.is })))
      | inr not_before ↦
          let here : first.index ≡ count = omega (arith, first.below) in
          let is : pair ≡ last = first.is ∙ ap (λ (k : ℕ). pair_in run one k) here in
          subst (λ (p : Pair). Contains new p) (sym is) (subst (λ (ps : List Pair). Contains ps last) (sym pushed) (Contains-push now last))
    ]
    from (inr was) = kept ((known pair).1 (inr was))

-- the pairs of all cells of a run have come
pub first_all : (old new : List Pair) (run : Corners) (one : SeriesValue) (count : ℕ) → run.tail.col ≡ run.head.col
    → count ≡ height run → AddsFirst old new run one count → AddsSeries old new run one
first_all old new run one count line all known pair = (to, from)
  where
    alone : (series : SeriesValue) → Contains (one ∷ []) series → series ≡ one
    alone series listed = elim (Contains-push_cases [] one series listed) [
      | inl none ↦ absurd (omega (arith, none.1))
      | inr same ↦ sym same
    ]

    to : Contains new pair → IsOfRun run (one ∷ []) pair ⊎ Contains old pair
    to listed = elim ((known pair).0 listed) [
      | inl first ↦
          let row : pair.cell.row ≡ run.head.row + first.index = ap (λ (p : Pair). p.cell.row) first.is in
          let col : pair.cell.col ≡ run.head.col = ap (λ (p : Pair). p.cell.col) first.is in
          let at : first.index ≡ pair.cell.row - run.head.row = omega arith in
          inl (record {
            inside = record {
              row_from = omega arith;
              row_to = omega (arith, first.below);
              col_from = omega arith;
              col_to = omega arith;
            };
            one = one;
            listed = Contains-push [] one;
            range_is = ap (λ (p : Pair). p.range) first.is ∙ ap (λ (k : ℕ). range_in one k) at;
          })
      | inr was ↦ inr was
    ]

    from : IsOfRun run (one ∷ []) pair ⊎ Contains old pair → Contains new pair
    from (inl own) =
        let index : ℕ = pair.cell.row - run.head.row in
        let cell : pair.cell ≡ cell_in run index = same_position (omega (arith, own.inside)) (omega (arith, own.inside)) in
        let range : pair.range ≡ range_in one index = own.range_is ∙ ap (λ (s : SeriesValue). range_in s index) (alone own.one own.listed) in
        (known pair).1 (inl (record { index = index; below = omega (arith, own.inside); is = same_pair range cell }))
    from (inr was) = (known pair).1 (inr was)

-- ---- one series after another

pub run_none : (old new : List Pair) (run : Corners) → new ≡ old → AddsRun old new run []
run_none old new run same pair = (λ listed. inr (subst (λ (ps : List Pair). Contains ps pair) same listed), from)
  where
    from : IsOfRun run [] pair ⊎ Contains old pair → Contains new pair
    from (inl own) = absurd (omega (arith, own.listed.1))
    from (inr listed) = subst (λ (ps : List Pair). Contains ps pair) (sym same) listed

run_more : (run : Corners) (some more : List SeriesValue) (pair : Pair)
    → ((one : SeriesValue) → Contains some one → Contains more one) → IsOfRun run some pair → IsOfRun run more pair
run_more run some more pair within own = record { inside = own.inside; one = own.one; listed = within own.one own.listed; range_is = own.range_is }

pub run_next : (old now new : List Pair) (run : Corners) (series : List SeriesValue) (next : SeriesValue)
    → AddsRun old now run series → AddsSeries now new run next → AddsRun old new run (series ++ next ∷ [])
run_next old now new run series next known added pair = (to, from)
  where
    to : Contains new pair → IsOfRun run (series ++ next ∷ []) pair ⊎ Contains old pair
    to listed = elim ((added pair).0 listed) [
      | inl own ↦
          inl (run_more run (next ∷ []) (series ++ next ∷ []) pair (λ one here. Contains-append_right series (next ∷ []) one here) own)
      | inr before ↦ elim ((known pair).0 before) [
        | inl own ↦
            inl (run_more run series (series ++ next ∷ []) pair (λ one here. Contains-append_left series (next ∷ []) one here) own)
        | inr was ↦ inr was
      ]
    ]

    from : IsOfRun run (series ++ next ∷ []) pair ⊎ Contains old pair → Contains new pair
    from (inl own) = elim (Contains-push_cases series next own.one own.listed) [
      | inl before ↦
          let one : IsOfRun run series pair = record { inside = own.inside; one = own.one; listed = before; range_is = own.range_is } in
          (added pair).1 (inr ((known pair).1 (inl one)))
      | inr same ↦
          let range : pair.range ≡ range_in next (pair.cell.row - run.head.row) =
          own.range_is ∙ ap (λ (s : SeriesValue). range_in s (pair.cell.row - run.head.row)) (sym same) in
          (added pair).1 (inl (record { inside = own.inside; one = next; listed = Contains-push [] next; range_is = range }))
    ]
    from (inr was) = (added pair).1 (inr ((known pair).1 (inr was)))

-- the room that is left for the rest of some series, once the pairs of one of them have come
pub room_next : (taken count index cells : ℕ) → index < count → taken + cells + (count - (index + 1)) * cells ≡ taken + (count - index) * cells
room_next taken count index cells more =
    let left : count - index ≡ (count - (index + 1)) + 1 = omega arith in
    omega (arith, ap (λ (k : ℕ). k * cells) left, add-mul (count - (index + 1)) 1 cells)
