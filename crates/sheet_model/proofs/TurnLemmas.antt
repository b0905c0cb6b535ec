-- A turn of the walk that opens one more cell, and one that settles the newest open cell.
use Rattle.std.proofs.Common.{◌≡◌, ◌≢◌, ℕ, suc, ◌<◌, ◌⊎◌, inl, inr, List, [], ◌∷◌, ◌++◌, length, slice_get, set}
use Rattle.std.proofs.Common.{Some, IsTrue, sym, ◌∙◌, ap, subst, arith, length-set, length-append}
use Rattle.std.proofs.lemmas.Bool.Decides.{eqb_tells}
use Rattle.std.proofs.lemmas.Option.{slice_get_within, get_or_from_slice_get}
use Rattle.sheet_refs.specs.Cells.{Position}
use Rattle.value_core.specs.declared.value.Value.{Value}
use Rattle.sheet_refs.specs.Sizes.{is_inside, place_of}
use Rattle.sheet_model.specs.Sheets.{SheetValue}
use Rattle.sheet_model.specs.Values.{step, value_of, IsInput}
use Rattle.sheet_model.specs.Words.{CellState, Unseen, Open, Known, is_plain}
use Rattle.sheet_model.specs.declared.walk.Frame.{Frame}
use Rattle.sheet_model.specs.Walks.{known_value, known_values, is_unseen, work_left, IsWalkOf, KeepsSeen, KeepsKnown}
use Rattle.sheet_model.proofs.ListLemmas.{slice_get-append, slice_get-push, slice_get-pushed, slice_get-set_same, slice_get-set_other, count_by-set}
use Rattle.sheet_refs.proofs.Places.{place_same}
use Rattle.sheet_model.proofs.SheetValues.{value_over}
use Rattle.sheet_model.proofs.WalkLemmas.{differ, known_plain}

-- a write at one place, read at another or at that one
pub read_set : (states : List CellState) (p q : ℕ) (s t u : CellState) → slice_get states p ≡ Some s
    → slice_get (set states p t) q ≡ Some u → ((q ≡ p) × (t ≡ u)) ⊎ ((q ≢ p) × (slice_get states q ≡ Some u))
read_set states p q s t u at at_set =
    elim (eqb_tells q p) [
      | inl same ↦ inl (same.1, let e = slice_get-set_same states p s t at in let f = ap (slice_get (set states p t)) same.1 in cc)
      | inr other ↦ inr (other.1, sym (slice_get-set_other states p q t other.1) ∙ at_set)
    ]

module _ (sheet : SheetValue) (states : List CellState) where
  -- one more cell is open
  pub walk_open : (frames : List Frame) (cell : Position) → IsWalkOf sheet states frames
      → IsTrue (is_inside sheet.sizes cell) → slice_get states (place_of sheet.sizes cell) ≡ Some Unseen
      → ((i : ℕ) (f : Frame) → slice_get frames i ≡ Some f → suc i ≡ length frames → IsInput sheet f.cell cell)
      → (first : ℕ) → IsWalkOf sheet (set states (place_of sheet.sizes cell) Open) (frames
      ++ record { cell = cell; first = first } ∷ [])
  walk_open frames cell walk inside unseen waiting first = record {
    is_sheet = walk.is_sheet;
    count = length-set states p Open ∙ walk.count;
    settled = λ c v c_inside at.
        elim (read_set states p (place_of sheet.sizes c) Unseen Open (Known v) unseen at) [
          | inl here ↦ absurd (let no = here.1 in cc)
          | inr other ↦ walk.settled c v c_inside other.1
        ];
    listed = λ q at.
        elim (read_set states p q Unseen Open Open unseen at) [
          | inl here ↦ (length frames, new, slice_get-push frames new, sym here.0)
          | inr other ↦ (let l = walk.listed q other.1 in (l.0, l.1, slice_get-append frames (new ∷ []) l.0 l.1 l.2, l.3))
        ];
    inside = λ i f at. elim (slice_get-pushed frames new i f at) [
      | inl old ↦ walk.inside i f old
      | inr last ↦
          subst (λ (g : Frame). IsTrue (is_inside sheet.sizes g.cell)) last.1 inside
    ];
    opened = λ i f at.
        elim (slice_get-pushed frames new i f at) [
          | inl old ↦ slice_get-set_other states p (place_of sheet.sizes f.cell) Open (apart i f old) ∙ walk.opened i f old
          | inr last ↦ subst (λ (g : Frame). slice_get (set states p Open) (place_of sheet.sizes g.cell) ≡ Some Open)
              last.1 (slice_get-set_same states p Unseen Open unseen)
        ];
    once = λ i j f g lt at_i at_j.
        elim (slice_get-pushed frames new i f at_i) [
          | inl old_i ↦ elim (slice_get-pushed frames new j g at_j) [
            | inl old_j ↦ walk.once i j f g lt old_i old_j
            | inr last ↦ subst (λ (h : Frame). place_of sheet.sizes f.cell ≢ place_of sheet.sizes h.cell) last.1 (apart i f old_i)
          ]
          | inr last_i ↦ absurd (let in_range = slice_get_within (frames ++ new ∷ []) j g at_j in
              let e = length-append frames (new ∷ []) in let first : i ≡ length frames = last_i.0 in omega arith)
        ];
    waits = λ i f g at_i at_j.
        elim (slice_get-pushed frames new (suc i) g at_j) [
          | inl old_j ↦ (let lt : suc i < length frames = slice_get_within frames (suc i) g old_j in
              elim (slice_get-pushed frames new i f at_i) [
                | inl old_i ↦ walk.waits i f g old_i old_j
                | inr last_i ↦ absurd (let first : i ≡ length frames = last_i.0 in omega arith)
              ])
          | inr last ↦ (let end : suc i ≡ length frames = last.0 in
              elim (slice_get-pushed frames new i f at_i) [
                | inl old_i ↦ subst (λ (h : Frame). IsInput sheet f.cell h.cell) last.1 (waiting i f old_i end)
                | inr last_i ↦ absurd (let first : i ≡ length frames = last_i.0 in omega arith)
              ])
        ];
  }
    where
      p : ℕ
      p = place_of sheet.sizes cell

      new : Frame
      new = record { cell = cell; first = first }

      apart : (i : ℕ) (f : Frame) → slice_get frames i ≡ Some f → place_of sheet.sizes f.cell ≢ p
      apart i f at = differ states (place_of sheet.sizes f.cell) p Open Unseen (walk.opened i f at) unseen (λ same. cc)

  pub work_open : (frames : List Frame) (frame : Frame) (p : ℕ) → slice_get states p ≡ Some Unseen
      → work_left (set states p Open) (frames ++ frame ∷ []) < work_left states frames
  work_open frames frame p unseen = let fewer = count_by-set is_unseen states p Unseen Open unseen in
      let longer = length-append frames (frame ∷ []) in omega arith

  -- the newest open cell is open no longer; where it has a value now, that is the sheet's
  pub walk_pop : (rest : List Frame) (f : Frame) (s : CellState) → IsWalkOf sheet states (rest ++ f ∷ []) → s ≢ Open
      → ((v : Value) → s ≡ Known v → value_of sheet f.cell ≡ v) → IsWalkOf sheet (set states (place_of sheet.sizes f.cell) s) rest
  walk_pop rest f s walk closed settles = record {
    is_sheet = walk.is_sheet;
    count = length-set states p s ∙ walk.count;
    settled = λ c v c_inside at.
        elim (read_set states p (place_of sheet.sizes c) Open s (Known v) here at) [
          | inl same ↦ (let same_cell : f.cell ≡ c = place_same sheet.sizes f.cell c f_inside c_inside (sym same.0) in
              ap (value_of sheet) (sym same_cell) ∙ settles v same.1)
          | inr other ↦ walk.settled c v c_inside other.1
        ];
    listed = λ q at.
        elim (read_set states p q Open s Open here at) [
          | inl same ↦ absurd (closed same.1)
          | inr other ↦ (let l = walk.listed q other.1 in
              elim (slice_get-pushed rest f l.0 l.1 l.2) [
                | inl old ↦ (l.0, l.1, old, l.3)
                | inr last ↦ absurd (other.0 (sym l.3 ∙ ap (λ (g : Frame). place_of sheet.sizes g.cell) (sym last.1)))
              ])
        ];
    inside = λ i g at. walk.inside i g (old i g at);
    opened = λ i g at. slice_get-set_other states p (place_of sheet.sizes g.cell) s (apart i g at) ∙ walk.opened i g (old i g at);
    once = λ i j g h lt at_i at_j. walk.once i j g h lt (old i g at_i) (old j h at_j);
    waits = λ i g h at_i at_j. walk.waits i g h (old i g at_i) (old (suc i) h at_j);
  }
    where
      p : ℕ
      p = place_of sheet.sizes f.cell

      at_end : slice_get (rest ++ f ∷ []) (length rest) ≡ Some f
      at_end = slice_get-push rest f

      here : slice_get states p ≡ Some Open
      here = walk.opened (length rest) f at_end

      f_inside : IsTrue (is_inside sheet.sizes f.cell)
      f_inside = walk.inside (length rest) f at_end

      old : (i : ℕ) (g : Frame) → slice_get rest i ≡ Some g → slice_get (rest ++ f ∷ []) i ≡ Some g
      old i g at = slice_get-append rest (f ∷ []) i g at

      apart : (i : ℕ) (g : Frame) → slice_get rest i ≡ Some g → place_of sheet.sizes g.cell ≢ p
      apart i g at = walk.once i (length rest) g f (slice_get_within rest i g at) (old i g at) at_end

  -- the newest open cell, whose references can all be read past, has the value of one step over the known values
  pub walk_finish : (rest : List Frame) (f : Frame) → IsWalkOf sheet states (rest ++ f ∷ [])
      → ((c : Position) → IsInput sheet f.cell c → IsTrue (is_plain sheet.sizes states c))
      → IsWalkOf sheet (set states (place_of sheet.sizes f.cell)
      (Known (step sheet f.cell (known_values sheet.sizes states)))) rest
  walk_finish rest f walk plain = walk_pop rest f (Known value) walk (λ same. cc) (λ v same. settles ∙ one v same)
    where
      value : Value
      value = step sheet f.cell (known_values sheet.sizes states)

      one : (v : Value) → Known value ≡ Known v → value ≡ v
      one v same = cc

      settles : value_of sheet f.cell ≡ value
      settles =
          value_over sheet f.cell (known_values sheet.sizes states) walk.is_sheet
          (λ d input.
          let known = known_plain sheet.sizes states walk.count d input.inside (plain d input) in
          let e : known_values sheet.sizes states d ≡ known.0 =
          ap known_value (get_or_from_slice_get states (place_of sheet.sizes d) (Known known.0) Unseen known.1) in
          walk.settled d known.0 input.inside known.1 ∙ sym e)

  pub work_settle : (frames : List Frame) (p : ℕ) (v : Value) → slice_get states p ≡ Some Unseen
      → work_left (set states p (Known v)) frames < work_left states frames
  work_settle frames p v unseen = let fewer = count_by-set is_unseen states p Unseen (Known v) unseen in omega arith

  pub work_finish : (rest : List Frame) (f : Frame) (p : ℕ) (v : Value) → slice_get states p ≡ Some Open
      → work_left (set states p (Known v)) rest < work_left states (rest ++ f ∷ [])
  work_finish rest f p v open_here = let same = count_by-set is_unseen states p Open (Known v) open_here in
      let longer = length-append rest (f ∷ []) in omega arith

-- a write to a cell that was seen, or of a state that is no longer unseen, keeps what was seen
pub seen_set : (states : List CellState) (p : ℕ) (s t : CellState) → slice_get states p ≡ Some s → t ≢ Unseen → KeepsSeen states (set states p t)
seen_set states p s t at seen q unseen =
    elim (read_set states p q s t Unseen at unseen) [ inl here ↦ absurd (seen here.1) | inr other ↦ other.1 ]

-- a write to a cell without a known value keeps what was known
pub known_set : (states : List CellState) (p : ℕ) (s t : CellState) → slice_get states p ≡ Some s → ((v : Value) → s ≢ Known v)
    → KeepsKnown states (set states p t)
known_set states p s t at free q v known =
    elim (eqb_tells q p) [
      | inl same ↦ absurd (free v (let e = ap (slice_get states) same.1 in cc))
      | inr other ↦ slice_get-set_other states p q t other.1 ∙ known
    ]
