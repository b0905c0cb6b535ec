-- A look at what is left of a formula's ranges.
use Rattle.std.proofs.Common.{◌≡◌, ℕ, ◌+◌, ◌<◌, ◌≤◌, ◌⊎◌, inl, inr, ◌↔◌, List, [], ◌∷◌, ◌++◌, length, slice_get, Some}
use Rattle.std.proofs.Common.{Bool, false, IsTrue, IsFalse, refl, sym, ◌∙◌, ap, subst, arith}
use Rattle.std.specs.List.{Contains}
use native.Mathlib.Decide.{dec_lt}
use Rattle.std.proofs.lemmas.Option.{slice_get_within, slice_get_read}
use Rattle.sheet_refs.specs.Cells.{Position, IsIn, cells_of}
use Rattle.sheet_refs.specs.declared.sizes.Sizes.{Sizes}
use Rattle.sheet_model.specs.declared.parts.Part.{Part}
use Rattle.sheet_model.specs.Parts.{IsAt, IsPartOfRectangle, AreParts, part_at, IsStopInParts, WasPart, LooksOn}
use Rattle.sheet_model.specs.Words.{CellState, is_plain}
use Rattle.sheet_model.proofs.ListLemmas.{slice_get-append, slice_get-push, slice_get-pushed}

module _ (sizes : Sizes) (states : List CellState) where
  pub looks_init : (parts : List Part) → AreParts sizes states parts → LooksOn sizes states parts parts
  looks_init parts are = record { are_parts = are; same = λ k part at. record { before = part; listed = at; range = refl }; left = λ k cell at. inr at }

  -- one more cell of a part can be read past
  pub part_more : (part : Part) (place : ℕ) (cell : Position) → IsPartOfRectangle sizes states (part_at part place)
      → slice_get (cells_of part.range) place ≡ Some cell → IsTrue (is_plain sizes states cell)
      → IsPartOfRectangle sizes states (part_at part (place + 1))
  part_more part place cell is at plain = record {
    inside = is.inside;
    passed = λ k c less at_k.
        elim (dec_lt k place) [
          | yes before ↦ is.passed k c before at_k
          | no past ↦ (let h : ¬ (k < place) = past in let here : k ≡ place = omega arith in
              let same : cell ≡ c = (let e = rw here at at_k in cc) in rw same at plain)
        ];
  }

  -- the cell at which a look stops
  pub stop_here : (part : Part) (place : ℕ) (cell : Position) (b : Bool)
      → slice_get (cells_of part.range) place ≡ Some cell → b ≡ is_plain sizes states cell → b ≡ false → (c : Position)
      → slice_get (cells_of part.range) place ≡ Some c → IsFalse (is_plain sizes states c)
  stop_here part place cell b at is not_plain c at_c =
      let same : cell ≡ c = (let e = sym at ∙ at_c in cc) in
      subst (λ (d : Position). IsFalse (is_plain sizes states d)) same (sym is ∙ not_plain)

  pub stop_past : (part : Part) (place : ℕ) → length (cells_of part.range) ≤ place → (c : Position)
      → slice_get (cells_of part.range) place ≡ Some c → IsFalse (is_plain sizes states c)
  stop_past part place past c at = absurd (let within = slice_get_within (cells_of part.range) place c at in omega arith)

  -- evaluation can read past each cell of a part that is done with
  pub past_cells : (part : Part) (next : ℕ) → IsPartOfRectangle sizes states (part_at part next)
      → length (cells_of part.range) ≤ next → ((cell : Position) → Contains (cells_of part.range) cell
      ↔ IsIn cell part.range) → (cell : Position) → IsIn cell part.range → IsTrue (is_plain sizes states cell)
  past_cells part next is end listed cell inside =
      let found = (listed cell).1 inside in
      let less = found.1 in
      is.passed found.0 cell (omega (arith, less, end))
      (slice_get_read (cells_of part.range) (length (cells_of part.range)) found.0 cell refl found.1
      (sym found.2))

  module _ (old rest : List Part) (part : Part) (looks : LooksOn sizes states old (rest ++ part ∷ [])) where
    in_rest : (k : ℕ) (p : Part) → slice_get rest k ≡ Some p → slice_get (rest ++ part ∷ []) k ≡ Some p
    in_rest k p at = slice_get-append rest (part ∷ []) k p at

    pub last_part : IsPartOfRectangle sizes states part
    last_part = looks.are_parts (length rest) part (slice_get-push rest part)

    -- what was left is so before the last part, or in it
    left_or_last : (k : ℕ) (cell : Position) → IsAt old k cell → IsTrue (is_plain sizes states cell)
        ⊎ (IsAt rest k cell ⊎ ((k ≡ length rest) × IsIn cell part.range))
    left_or_last k cell at = elim (looks.left k cell at) [ inl plain ↦ inl plain | inr still ↦ inr (split still) ]
      where
        split : IsAt (rest ++ part ∷ []) k cell → IsAt rest k cell ⊎ ((k ≡ length rest) × IsIn cell part.range)
        split still = elim (slice_get-pushed rest part k still.part still.listed) [
          | inl here ↦ inl (record { part = still.part; listed = here; inside = still.inside })
          | inr last ↦ inr (last.0, subst (λ (p : Part). IsIn cell p.range) (sym last.1) still.inside)
        ]

    -- the last part is done with: evaluation can read past each of its cells
    pub looks_past : (next : ℕ) → IsPartOfRectangle sizes states (part_at part next)
        → length (cells_of part.range) ≤ next → ((cell : Position) → Contains (cells_of part.range) cell
        ↔ IsIn cell part.range) → LooksOn sizes states old rest
    looks_past next is end listed = record {
      are_parts = λ k p at. looks.are_parts k p (in_rest k p at);
      same = λ k p at. looks.same k p (in_rest k p at);
      left = λ k cell at. elim (left_or_last k cell at) [
        | inl plain ↦ inl plain
        | inr still ↦
            elim still [ inl here ↦ inr here | inr last ↦ inl (past_cells part next is end listed cell last.1) ]
      ];
    }

    -- the last part is left with a later next place
    pub looks_stop : (next : ℕ) → IsPartOfRectangle sizes states (part_at part next) → LooksOn sizes states old (rest ++ part_at part next ∷ [])
    looks_stop next is = record {
      are_parts = λ k p at. elim (slice_get-pushed rest (part_at part next) k p at) [
        | inl here ↦
            looks.are_parts k p (in_rest k p here)
        | inr last ↦
            subst (λ (q : Part). IsPartOfRectangle sizes states q) last.1 is
      ];
      same = λ k p at. elim (slice_get-pushed rest (part_at part next) k p at) [
        | inl here ↦
            looks.same k p (in_rest k p here)
        | inr last ↦ was_last k p last.0 last.1
      ];
      left = λ k cell at. elim (left_or_last k cell at) [
        | inl plain ↦ inl plain
        | inr still ↦
            elim still [ inl here ↦ inr (before k cell here) | inr last ↦ inr (behind k cell last.0 last.1) ]
      ];
    }
      where
        new : Part
        new = part_at part next

        was_last : (k : ℕ) (p : Part) → k ≡ length rest → new ≡ p → WasPart old k p
        was_last k p here same =
            let was = looks.same (length rest) part (slice_get-push rest part) in
            let range : p.range ≡ part.range = ap (λ (q : Part). q.range) (sym same) in
            record { before = was.before; listed = rw here was.listed; range = range ∙ was.range }

        before : (k : ℕ) (cell : Position) → IsAt rest k cell → IsAt (rest ++ new ∷ []) k cell
        before k cell at = record { part = at.part; listed = slice_get-append rest (new ∷ []) k at.part at.listed; inside = at.inside }

        behind : (k : ℕ) (cell : Position) → k ≡ length rest → IsIn cell part.range → IsAt (rest ++ new ∷ []) k cell
        behind k cell here inside = rw here (record { part = new; listed = slice_get-push rest new; inside = inside })

    pub stop_at : (first next : ℕ) (cell : Position) → first ≤ length rest
        → slice_get (cells_of part.range) next ≡ Some cell → IsIn cell part.range
        → ((c : Position) → slice_get (cells_of part.range) next ≡ Some c → IsFalse (is_plain sizes states c))
        → IsStopInParts sizes states (rest ++ part_at part next ∷ []) first cell
    stop_at first next cell below at inside stop = record {
      left =
          record {
            place = length rest;
            from = below;
            at = record {
              part = part_at part next;
              listed = slice_get-push rest (part_at part next);
              inside = inside;
            };
          };
      stop = stop cell at;
    }
