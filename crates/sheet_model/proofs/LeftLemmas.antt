-- What is left to look at of the open cells' ranges, after each step of the walk.
use Rattle.std.proofs.Common.{◌≡◌, ℕ, suc, ◌+◌, ◌<◌, ◌≤◌, inl, inr, List, [], ◌∷◌, ◌++◌, length, slice_get, set, Some, false, IsTrue, sym, ap, subst, arith}
use Rattle.std.proofs.lemmas.Option.{slice_get_within}
use Rattle.sheet_refs.specs.Cells.{Position, IsIn}
use Rattle.formula_eval.specs.Meaning.{IsNamedBy}
use Rattle.sheet_model.specs.Parts.{IsAt, IsLeftInParts, IsPartOf, IsPartOfRectangle, AddsParts, IsStopInParts, LooksOn}
use Rattle.sheet_model.specs.Sheets.{SheetValue, content_of}
use Rattle.sheet_model.specs.Values.{content_references, IsInput}
use Rattle.sheet_model.specs.Walks.{BelowLater, HasParts, IsWaiting}
use Rattle.sheet_model.specs.Words.{CellState, is_plain_state, is_plain}
use Rattle.sheet_model.specs.declared.parts.Part.{Part}
use Rattle.sheet_model.specs.declared.walk.Frame.{Frame}
use Rattle.sheet_model.proofs.ListLemmas.{slice_get-append, slice_get-push, slice_get-pushed}
use Rattle.sheet_model.proofs.PartLemmas.{slice_get-either, left_before, left_behind}
use Rattle.sheet_model.proofs.WalkLemmas.{plain_kept}

module _ (sheet : SheetValue) (states : List CellState) where
  -- nothing is left where no cell is open
  pub parts_none : HasParts sheet states [] []
  parts_none = record {
    are_parts = λ k part at. absurd (cc);
    passed = λ i f input at is_input. absurd (cc);
    named = λ i f k input at from below is_at. absurd (cc);
  }

  -- a write to a cell that evaluation couldn't read past
  pub parts_set : (frames : List Frame) (parts : List Part) (p : ℕ) (s t : CellState) → slice_get states p ≡ Some s
      → is_plain_state s ≡ false → HasParts sheet states frames parts → HasParts sheet (set states p t) frames parts
  parts_set frames parts p s t at not_plain has = record {
    are_parts =
        λ k part at_k. (let is = has.are_parts k part at_k in
        record { inside = is.inside; passed = λ j cell less at_j. kept cell (is.passed j cell less at_j) });
    passed = λ i f input at_i is_input. elim (has.passed i f input at_i is_input) [ inl plain ↦ inl (kept input plain) | inr left ↦ inr left ];
    named = has.named;
  }
    where
      kept : (cell : Position) → IsTrue (is_plain sheet.sizes states cell) → IsTrue (is_plain sheet.sizes (set states p t) cell)
      kept cell plain = plain_kept sheet.sizes states p s t at not_plain cell plain

  -- a look at what is left
  pub parts_look : (frames : List Frame) (old new : List Part) → LooksOn sheet.sizes states old new
      → HasParts sheet states frames old → HasParts sheet states frames new
  parts_look frames old new looks has = record {
    are_parts = looks.are_parts;
    passed = λ i f input at is_input. elim (has.passed i f input at is_input) [
      | inl plain ↦ inl plain
      | inr left ↦ elim (looks.left left.place input left.at) [
        | inl plain ↦ inl plain
        | inr still ↦ inr (record { place = left.place; from = left.from; at = still })
      ]
    ];
    named = λ i f k input at from below is_at. has.named i f k input at from below (was k input is_at);
  }
    where
      was : (k : ℕ) (input : Position) → IsAt new k input → IsAt old k input
      was k input is_at =
          let before = looks.same k is_at.part is_at.listed in
          record { part = before.before; listed = before.listed; inside = rw before.range at is_at.inside }

  -- one more cell is open, and all that it names is left to look at
  pub parts_open : (frames : List Frame) (cell : Position) (old new : List Part)
      → AddsParts sheet.sizes (content_references (content_of sheet cell)) old new → HasParts sheet states frames old
      → HasParts sheet states (frames ++ record { cell = cell; first = length old } ∷ []) new
  parts_open frames cell old new adds has = record {
    are_parts = λ k part at. elim (slice_get-either old adds.added k part (rw adds.behind at at)) [
      | inl here ↦
          has.are_parts k part here
      | inr there ↦ new_part part (adds.parts there.0 part there.2)
    ];
    passed = λ i f input at is_input. elim (slice_get-pushed frames opened i f at) [
      | inl before ↦ elim (has.passed i f input before is_input) [
        | inl plain ↦ inl plain
        | inr left ↦
            inr (rw adds.behind (left_before old adds.added f.first input left))
      ]
      | inr last ↦
          inr (subst (λ (g : Frame). IsLeftInParts new g.first input) last.1
          (rw adds.behind (left_behind old adds.added (length old) input (omega arith)
          (adds.complete input (here last.1 is_input).named is_input.inside))))
    ];
    named = λ i f k input at from below is_at.
        elim (slice_get-either old adds.added k is_at.part (rw adds.behind at is_at.listed)) [
          | inl in_old ↦ elim (slice_get-pushed frames opened i f at) [
            | inl before ↦
                has.named i f k input before from (λ j g less at_j. below j g less (slice_get-append frames (opened
                ∷ []) j g at_j)) (record { part = is_at.part; listed = in_old; inside = is_at.inside })
            | inr last ↦ absurd (let within = slice_get_within old k is_at.part in_old in let low : length old ≤ k = rw (← last.1) at from in omega arith)
          ]
          | inr in_added ↦ elim (slice_get-pushed frames opened i f at) [
            | inl before ↦ absurd (let less = slice_get_within frames i f before in
                let low : k < length old = below (length frames) opened less (slice_get-push frames opened) in
                let e : k ≡ length old + in_added.0 = in_added.1 in omega arith)
            | inr last ↦ subst (λ (g : Frame). IsInput sheet g.cell input) last.1 (added input is_at.part in_added.0 in_added.2 is_at.inside)
          ]
        ];
  }
    where
      opened : Frame
      opened = record { cell = cell; first = length old }

      here : {f : Frame} {input : Position} → opened ≡ f → IsInput sheet f.cell input → IsInput sheet cell input
      here {f} {input} same is_input = subst (λ (c : Position). IsInput sheet c input) (ap (λ (g : Frame). g.cell) (sym same)) is_input

      new_part : (part : Part) → IsPartOf sheet.sizes (λ c. IsNamedBy (content_references (content_of sheet cell)) c)
          part → IsPartOfRectangle sheet.sizes states part
      new_part part is = record { inside = is.inside; passed = λ k c less at. absurd (let none = is.next in omega arith) }

      added : (input : Position) (part : Part) (j : ℕ) → slice_get adds.added j ≡ Some part → IsIn input part.range → IsInput sheet cell input
      added input part j at inside =
          let is = adds.parts j part at in
          record { named = is.named input inside; inside = is.inside input inside }

  -- the newest open cell is settled, where nothing is left behind its first part
  pub parts_finish : (rest : List Frame) (f : Frame) (parts : List Part) → length parts ≤ f.first
      → HasParts sheet states (rest ++ f ∷ []) parts → HasParts sheet states rest parts
  parts_finish rest f parts done has = record {
    are_parts = has.are_parts;
    passed = λ i g input at is_input. has.passed i g input (slice_get-append rest (f ∷ []) i g at) is_input;
    named = λ i g k input at from below is_at. has.named i g k input (slice_get-append rest (f ∷ []) i g at) from (later i k below is_at) is_at;
  }
    where
      later : {input : Position} (i k : ℕ) → BelowLater rest i k → IsAt parts k input → BelowLater (rest ++ f ∷ []) i k
      later i k below is_at j h less at_j = elim (slice_get-pushed rest f j h at_j) [
        | inl before ↦ below j h less before
        | inr last ↦ (let within = slice_get_within parts k is_at.part is_at.listed in
            let first : f.first ≡ h.first = ap (λ (g : Frame). g.first) last.1 in omega arith)
      ]

  -- and then evaluation can read past all its inputs
  pub inputs_plain : (frames : List Frame) (parts : List Part) (i : ℕ) (f : Frame) → slice_get frames i ≡ Some f
      → length parts ≤ f.first → HasParts sheet states frames parts → (input : Position) → IsInput sheet f.cell input
      → IsTrue (is_plain sheet.sizes states input)
  inputs_plain frames parts i f at done has input is_input = elim (has.passed i f input at is_input) [
    | inl plain ↦ plain
    | inr left ↦ absurd (let within = slice_get_within parts left.place left.at.part left.at.listed in let from = left.from in omega arith)
  ]

  -- the newest open cell waits for the cell at which a look stops
  pub waits_for : (frames : List Frame) (parts : List Part) (i : ℕ) (f : Frame) (cell : Position)
      → slice_get frames i ≡ Some f → suc i ≡ length frames → HasParts sheet states frames parts
      → IsStopInParts sheet.sizes states parts f.first cell → IsWaiting sheet states frames cell
  waits_for frames parts i f cell at end has stop = record {
    newest = λ j g at_j end_j.
        let same_place : j ≡ i = omega (arith, end, end_j) in
        let same : f ≡ g = (let e = rw same_place at at_j in cc) in
        subst (λ (h : Frame). IsInput sheet h.cell cell) same is_input;
    some = (let within = slice_get_within frames i f at in omega arith);
    inside = is_input.inside;
    stop = stop.stop;
  }
    where
      is_input : IsInput sheet f.cell cell
      is_input =
          has.named i f stop.left.place cell at stop.left.from
          (λ j g less at_j. absurd (let within = slice_get_within frames j g at_j in omega (arith, end)))
          stop.left.at
