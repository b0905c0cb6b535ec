-- A turn of the walk that finds a cycle.
use Rattle.std.proofs.Common.{◌≡◌, ◌≢◌, ℕ, suc, ◌<◌, ◌≤◌, ◌⊎◌, inl, inr, List, [], ◌∷◌, ◌++◌, length, map, slice_get}
use Rattle.std.proofs.Common.{set, Some, Bool, true, false, not, option_map, IsTrue, refl, sym, ◌∙◌, ap, arith}
use Rattle.std.proofs.Common.{length-set}
use Rattle.std.proofs.lemmas.Option.{slice_get_within, slice_get_cases, get_or_from_slice_get, slice_get-map}
use Rattle.std.proofs.lemmas.List.{length-map, map-set}
use Rattle.sheet_refs.specs.Cells.{Position}
use Rattle.value_core.specs.declared.value.ErrorKind.TheVariants.{Circ}
use Rattle.value_core.specs.declared.value.Value.{Value}
use Rattle.value_core.specs.declared.value.Value.TheVariants.{Error}
use Rattle.sheet_model.specs.Budget.{IsCircular}
use Rattle.sheet_refs.specs.Sizes.{is_inside, place_of, cell_count}
use Rattle.sheet_model.specs.Sheets.{SheetValue}
use Rattle.formula_eval.specs.Meaning.{is_circular}
use Rattle.sheet_model.specs.Values.{step, value_of, IsInput}
use Rattle.sheet_model.specs.Words.{CellState, Unseen, Open, Known, is_plain_state}
use Rattle.sheet_model.specs.declared.walk.Frame.{Frame}
use Rattle.sheet_model.specs.Walks.{is_unseen, work_left, closed_state, IsWalkOf, KeepsSeen, KeepsKnown, IsWaiting, IsClosing}
use Rattle.sheet_model.proofs.BudgetLemmas.{circular_closed}
use Rattle.sheet_model.proofs.ListLemmas.{slice_get-append, slice_get-push, slice_get-pushed, count_by-map}
use Rattle.sheet_model.proofs.ListLemmas.{set_same, map_same}
use Rattle.sheet_refs.proofs.Places.{place-lt, place_same}
use Rattle.sheet_model.proofs.SheetValues.{circular_from_all, circular_with_all}
use Rattle.sheet_model.proofs.ValueLemmas.{step_local, step_strict, is_circular-true}
use Rattle.sheet_model.proofs.TurnLemmas.{read_set}

-- the state of a cell of the rectangle
pub state_at : (states : List CellState) (p n : ℕ) → length states ≡ n → p < n → (s : CellState) × (slice_get states p ≡ Some s)
state_at states p n count lt = elim (slice_get_cases states p).1 [
  | inl there ↦ (there.0, there.2)
  | inr past ↦
      absurd (let le : length states ≤ p = past.0 in omega arith)
]

-- where a state stands after closing, it came from one
closed_read : (states : List CellState) (p : ℕ) (t : CellState) → slice_get (map closed_state states) p ≡ Some t
    → (s : CellState) × (slice_get states p ≡ Some s) × (closed_state s ≡ t)
closed_read states p t at =
    elim (slice_get_cases states p).1 [
      | inl there ↦ (there.0, there.2, (let e = sym (slice_get-map closed_state states p) ∙ at in let f = ap (option_map closed_state) there.2 in cc))
      | inr past ↦ absurd (let e = sym (slice_get-map closed_state states p) ∙ at in let f = ap (option_map closed_state) past.1 in cc)
    ]

closed-not_open : (s : CellState) → closed_state s ≡ Open → ⊥
closed-not_open Unseen e = cc
closed-not_open Open e = cc
closed-not_open (Known v) e = cc

module _ (sheet : SheetValue) (states : List CellState) (frames : List Frame) (walk : IsWalkOf sheet states frames) where
  -- an open cell has an open input, or a circular one
  next_open : (cell : Position) → IsWaiting sheet states frames cell
      → slice_get states (place_of sheet.sizes cell) ≢ Some Unseen → (c : Position) → IsTrue (is_inside sheet.sizes c)
      × (slice_get states (place_of sheet.sizes c) ≡ Some Open) → (d : Position) × IsInput sheet c d
      × ((IsTrue (is_inside sheet.sizes d) × (slice_get states (place_of sheet.sizes d) ≡ Some Open))
      ⊎ IsCircular (Error Circ) (step sheet) d)
  next_open cell waiting seen c is_open =
      elim (slice_get_cases frames (suc place.0)).1 [
        | inl there ↦ (
          there.0.cell,
          rw (← same_cell) (walk.waits place.0 place.1 there.0 place.2 there.2),
          inl (walk.inside (suc place.0) there.0 there.2, walk.opened (suc place.0) there.0 there.2),
        )
        | inr past ↦ (
          cell,
          rw (← same_cell) (waiting.newest place.0 place.1 place.2 (let lt = slice_get_within frames place.0 place.1
              place.2 in let le : length frames ≤ suc place.0 = past.0 in omega arith)),
          blocked,
        )
      ]
    where
      place : (i : ℕ) × (frame : Frame) × (slice_get frames i ≡ Some frame) × (place_of sheet.sizes frame.cell ≡ place_of sheet.sizes c)
      place = walk.listed (place_of sheet.sizes c) is_open.1

      same_cell : place.1.cell ≡ c
      same_cell = place_same sheet.sizes place.1.cell c (walk.inside place.0 place.1 place.2) is_open.0 place.3

      state : (s : CellState) × (slice_get states (place_of sheet.sizes cell) ≡ Some s)
      state = state_at states (place_of sheet.sizes cell) (cell_count sheet.sizes) walk.count (place-lt sheet.sizes cell waiting.inside)

      stop_here : (s : CellState) → slice_get states (place_of sheet.sizes cell) ≡ Some s → is_plain_state s ≡ false
      stop_here s at = ap is_plain_state (sym (get_or_from_slice_get states (place_of sheet.sizes cell) s Unseen at)) ∙ waiting.stop

      circular : (v : Value) → not (is_circular v) ≡ false → v ≡ Error Circ
      circular v test = is_circular-true v (go (is_circular v) test)
        where
          go : (b : Bool) → not b ≡ false → b ≡ true
          go true h = refl
          go false h = cc

      go : (s : CellState) → slice_get states (place_of sheet.sizes cell) ≡ Some s → is_plain_state s ≡ false
          → (IsTrue (is_inside sheet.sizes cell) × (slice_get states (place_of sheet.sizes cell) ≡ Some Open))
          ⊎ IsCircular (Error Circ) (step sheet) cell
      go Unseen at stop = absurd (seen at)
      go Open at stop = inl (waiting.inside, at)
      go (Known v) at stop =
          inr (circular_with_all sheet cell walk.is_sheet (walk.settled cell v waiting.inside at ∙ circular v stop))

      blocked : (IsTrue (is_inside sheet.sizes cell) × (slice_get states (place_of sheet.sizes cell) ≡ Some Open)) ⊎ IsCircular (Error Circ) (step sheet) cell
      blocked = go state.0 state.1 (stop_here state.0 state.1)

  -- so every open cell is circular
  open_circular : (cell : Position) → IsWaiting sheet states frames cell
      → slice_get states (place_of sheet.sizes cell) ≢ Some Unseen → (c : Position) → IsTrue (is_inside sheet.sizes c)
      → slice_get states (place_of sheet.sizes c) ≡ Some Open → IsCircular (Error Circ) (step sheet) c
  open_circular cell waiting seen c inside at =
      circular_closed (IsInput sheet) (Error Circ) (step sheet) (step_local sheet) (step_strict sheet)
      (λ d. IsTrue (is_inside sheet.sizes d) × (slice_get states (place_of sheet.sizes d) ≡ Some Open))
      (next_open cell waiting seen) c (inside, at)

  -- the walk goes on with all open cells known to be circular
  pub walk_close : (cell : Position) → IsWaiting sheet states frames cell
      → slice_get states (place_of sheet.sizes cell) ≢ Some Unseen → IsWalkOf sheet (map closed_state states) []
  walk_close cell waiting seen = record {
    is_sheet = walk.is_sheet;
    count = length-map states closed_state ∙ walk.count;
    settled = λ c v inside at.
        let was = closed_read states (place_of sheet.sizes c) (Known v) at in
        settled_before c v inside was.0 was.1 was.2;
    listed = λ p at. let was = closed_read states p Open at in absurd (closed-not_open was.0 was.2);
    inside = λ i frame at. absurd (cc);
    opened = λ i frame at. absurd (cc);
    once = λ i j f g lt at_i at_j. absurd (cc);
    waits = λ i f g at_i at_j. absurd (cc);
  }
    where
      settled_before : (c : Position) (v : Value) → IsTrue (is_inside sheet.sizes c) → (s : CellState)
          → slice_get states (place_of sheet.sizes c) ≡ Some s → closed_state s ≡ Known v → value_of sheet c ≡ v
      settled_before c v inside Unseen at e = absurd (cc)
      settled_before c v inside Open at e = let same : Error Circ ≡ v = cc in circular_from_all sheet c (open_circular cell waiting seen c inside at) ∙ same
      settled_before c v inside (Known u) at e = let same : u ≡ v = cc in walk.settled c u inside at ∙ same

  pub closing_begin : IsClosing sheet states frames
  closing_begin = record {
    count = walk.count;
    inside = walk.inside;
    listed = walk.listed;
    closes = λ i frame at. slice_get-map closed_state states (place_of sheet.sizes frame.cell) ∙ ap (option_map closed_state) (walk.opened i frame at);
  }

  pub work_close : 0 < length frames → work_left (map closed_state states) [] < work_left states frames
  work_close some =
      let same = count_by-map is_unseen closed_state states unseen_same in omega arith
    where
      unseen_same : (s : CellState) → is_unseen (closed_state s) ≡ is_unseen s
      unseen_same Unseen = refl
      unseen_same Open = refl
      unseen_same (Known v) = refl

  pub seen_close : KeepsSeen states (map closed_state states)
  seen_close p unseen = let was = closed_read states p Unseen unseen in go was.0 was.1 was.2
    where
      go : (s : CellState) → slice_get states p ≡ Some s → closed_state s ≡ Unseen → slice_get states p ≡ Some Unseen
      go Unseen at e = at
      go Open at e = absurd (cc)
      go (Known v) at e = absurd (cc)

-- what was known stays so where open cells are closed
pub known_close : (states : List CellState) → KeepsKnown states (map closed_state states)
known_close states p v at = slice_get-map closed_state states p ∙ ap (option_map closed_state) at

-- closing goes on with the cell of one frame closed
module _ (sheet : SheetValue) (states : List CellState) (rest : List Frame) (f : Frame) (closing : IsClosing sheet states (rest ++ f ∷ [])) where
  here : (s : CellState) × (slice_get states (place_of sheet.sizes f.cell) ≡ Some s) × (closed_state s ≡ Known (Error Circ))
  here = closed_read states (place_of sheet.sizes f.cell) (Known (Error Circ)) (closing.closes (length rest) f (slice_get-push rest f))

  pub closing_same : map closed_state (set states (place_of sheet.sizes f.cell) (Known (Error Circ))) ≡ map closed_state states
  closing_same =
      map-set closed_state states (place_of sheet.sizes f.cell) (Known (Error Circ))
      ∙ set_same (map closed_state states) (place_of sheet.sizes f.cell) (Known (Error Circ)) (closing.closes (length rest) f (slice_get-push rest f))

  pub closing_step : IsClosing sheet (set states (place_of sheet.sizes f.cell) (Known (Error Circ))) rest
  closing_step = record {
    count = length-set states (place_of sheet.sizes f.cell) (Known (Error Circ)) ∙ closing.count;
    inside = λ i g at. closing.inside i g (slice_get-append rest (f ∷ []) i g at);
    listed = λ q at.
        elim (read_set states (place_of sheet.sizes f.cell) q here.0 (Known (Error Circ)) Open here.1 at) [
          | inl same ↦ absurd (let no = same.1 in cc)
          | inr other ↦ (let l = closing.listed q other.1 in
              elim (slice_get-pushed rest f l.0 l.1 l.2) [
                | inl old ↦ (l.0, l.1, old, l.3)
                | inr last ↦ absurd (other.0 (sym l.3 ∙ ap (λ (g : Frame). place_of sheet.sizes g.cell) (sym last.1)))
              ])
        ];
    closes = λ i g at. ap (λ states. slice_get states (place_of sheet.sizes g.cell)) closing_same ∙ closing.closes i g (slice_get-append rest (f ∷ []) i g at);
  }

pub closing_end : (sheet : SheetValue) (states : List CellState) → IsClosing sheet states [] → states ≡ map closed_state states
closing_end sheet states closing = sym (map_same closed_state states go)
  where
    go : (i : ℕ) (s : CellState) → slice_get states i ≡ Some s → closed_state s ≡ s
    go i Unseen at = refl
    go i Open at = absurd (let l = closing.listed i at in let no = l.2 in cc)
    go i (Known v) at = refl
