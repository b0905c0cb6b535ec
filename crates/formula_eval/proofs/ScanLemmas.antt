-- What is known of the cells of a range after a look at each.
use Rattle.std.proofs.Common.{◌≡◌, ℕ, ◌<◌, ◌≤◌, ◌++◌, Option, Some, List, length, slice_get, IsTrue, ◌↔◌, [], ◌∷◌, sym}
use Rattle.std.proofs.Common.{refl, ◌∙◌, subst, arith, append_assoc, Result, Ok, Err, IfErr, ◌+◌}
use native.Mathlib.Decide.{dec_lt}
use Rattle.std.specs.List.{Contains}
use Rattle.std.proofs.lemmas.Option.{slice_get_read}
use Rattle.sheet_refs.specs.Cells.{Position, Corners, IsIn, cells_of}
use Rattle.sheet_refs.specs.declared.sizes.Sizes.{Sizes}
use Rattle.sheet_refs.specs.Sizes.{is_inside}
use Rattle.std.proofs.lemmas.List.Elements.{All-append, All-cons, All-nil, All-same}
use Rattle.sheet_refs.specs.Ends.{Reference, corners_of}
use Rattle.value_core.specs.declared.operators.BinaryOp.{BinaryOp}
use Rattle.formula_syntax.specs.Tree.{Tree, binary, references_of, node_count}
use Rattle.formula_eval.specs.Inputs.{IsKnownPlain, IsPlainRange, ArePlain}
use Rattle.formula_eval.specs.Stops.{StopsIn, StopsAt, stop_cell}
use Rattle.formula_eval.specs.declared.scan.Stop.{Stop}
use Rattle.formula_eval.proofs.NodeLemmas.{named_within}

-- each of so many cells of a range is plain
abbrev pub PlainBelow : (Position → Option ℕ) → Corners → ℕ → Type 0
PlainBelow codes part count = (k : ℕ) (cell : Position) → k < count → slice_get (cells_of part) k ≡ Some cell → IsKnownPlain codes cell

pub plain_range : (sizes : Sizes) (codes : Position → Option ℕ) (range part : Corners) (count : ℕ)
    → ((cell : Position) → IsIn cell part ↔ (IsIn cell range × IsTrue (is_inside sizes cell)))
    → ((cell : Position) → Contains (cells_of part) cell ↔ IsIn cell part) → count ≡ length (cells_of part)
    → PlainBelow codes part count → IsPlainRange sizes codes range
plain_range sizes codes range part count same listed all below = record {
  plain = λ cell inside held.
      let found = (listed cell).1 ((same cell).1 (inside, held)) in
      below found.0 cell (omega (arith, found.1, all)) (slice_get_read (cells_of part) (length (cells_of part)) found.0 cell refl found.1 (sym found.2));
}

-- one more cell of a range is plain
pub plain_more : (codes : Position → Option ℕ) (part : Corners) (count : ℕ) (here : Position) → PlainBelow codes part count
    → slice_get (cells_of part) count ≡ Some here → IsKnownPlain codes here → PlainBelow codes part (count + 1)
plain_more codes part count here below at plain k cell less is =
    elim (dec_lt k count) [
      | yes before ↦ below k cell before is
      | no past ↦ (let h : ¬ (k < count) = past in
          let same : k ≡ count = omega (arith, less) in
          let found : here ≡ cell = cc in
          subst (IsKnownPlain codes) found plain)
    ]

-- the references of a tree are those of a part of it and others that are plain
pub record HasRest (sizes : Sizes) (codes : Position → Option ℕ) (whole part : Tree) : Type 0 where
  pub rest : List Reference
  pub references : references_of whole ≡ references_of part ++ rest
  pub plain : ArePlain sizes codes rest
  pub smaller : node_count part ≤ node_count whole

module _ (sizes : Sizes) (codes : Position → Option ℕ) where
  pub rest_plain : (whole part : Tree) → HasRest sizes codes whole part → ArePlain sizes codes (references_of part) → ArePlain sizes codes (references_of whole)
  rest_plain whole part has plain =
      All-same (λ (r : Reference). IsPlainRange sizes codes (corners_of r)) (references_of whole) (references_of part ++ has.rest) has.references
      (All-append (λ (r : Reference). IsPlainRange sizes codes (corners_of r)) (references_of part) has.rest plain has.plain)

  -- a look at a right operand
  pub rest_right : (whole left right : Tree) (op : BinaryOp) → HasRest sizes codes whole (binary op left right)
      → ArePlain sizes codes (references_of right) → HasRest sizes codes whole left
  rest_right whole left right op has plain = record {
    rest = references_of right ++ has.rest;
    references = has.references ∙ append_assoc (references_of left) (references_of right) has.rest;
    plain = All-append (λ (r : Reference). IsPlainRange sizes codes (corners_of r)) (references_of right) has.rest plain has.plain;
    smaller = (let h = has.smaller in omega arith);
  }

  -- one reference
  pub plain_one : (r : Reference) → IsPlainRange sizes codes (corners_of r) → ArePlain sizes codes (r ∷ [])
  plain_one r plain = All-cons (λ (r : Reference). IsPlainRange sizes codes (corners_of r)) r [] plain
      (All-nil (λ (r : Reference). IsPlainRange sizes codes (corners_of r)))

  pub stops_at_one : (r : Reference) (stop : Stop) → StopsIn sizes codes (corners_of r) stop → StopsAt sizes codes (r ∷ []) stop
  stops_at_one r stop stops = record { is_stop = stops.is_stop; named = record { through = r; place = 0; listed = refl; inside = stops.within } }

  -- what stops at a part of some references stops at all of them
  pub stops_within : (all before part after : List Reference) (stop : Stop) → all ≡ before ++ (part ++ after)
      → StopsAt sizes codes part stop → StopsAt sizes codes all stop
  stops_within all before part after stop is stops =
      record { is_stop = stops.is_stop; named = named_within all before part after (stop_cell stop) is stops.named }

  pub rest_stops : (whole part : Tree) (stop : Stop) → HasRest sizes codes whole part
      → StopsAt sizes codes (references_of part) stop → StopsAt sizes codes (references_of whole) stop
  rest_stops whole part stop has stops = stops_within (references_of whole) [] (references_of part) has.rest stop has.references stops

  pub right_stops : (whole left right : Tree) (op : BinaryOp) (stop : Stop)
      → HasRest sizes codes whole (binary op left right) → StopsAt sizes codes (references_of right) stop
      → StopsAt sizes codes (references_of whole) stop
  right_stops whole left right op stop has stops =
      stops_within (references_of whole) (references_of left) (references_of right) has.rest stop (has.references
      ∙ append_assoc (references_of left) (references_of right) has.rest) stops

-- what follows from the error of a result
pub if_err_weaker : {T E : Type 0} {P Q : E → Type 0} (r : Result T E) → ((e : E) → P e → Q e) → IfErr r P → IfErr r Q
if_err_weaker (Ok x) f h = h
if_err_weaker (Err e) f h = f e h
