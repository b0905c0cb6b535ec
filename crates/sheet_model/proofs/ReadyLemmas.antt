-- Past which of a formula's references evaluation can read.
use Rattle.std.proofs.Common.{◌≡◌, ℕ, zero, suc, ◌<◌, ◌≤◌, inl, inr, List, [], ◌∷◌, ◌++◌, length, map, slice_get, get_or, Some, IsTrue}
use Rattle.std.proofs.Common.{refl, sym, ◌∙◌, ap, subst, arith, append_assoc, option_map}
use Rattle.std.proofs.lemmas.List.{append-nil, length-map}
use Rattle.std.proofs.lemmas.Option.{slice_get-map, slice_get_read, get_or_from_slice_get}
use Rattle.sheet_refs.specs.Cells.{Position, IsIn}
use Rattle.sheet_refs.specs.Ends.{Anchor, Reference, corners_of}
use Rattle.sheet_refs.specs.Sizes.{is_inside}
use Rattle.sheet_refs.specs.declared.sizes.Sizes.{Sizes}
use Rattle.value_core.specs.declared.operators.BinaryOp.{BinaryOp}
use Rattle.value_core.specs.declared.value.Value.TheVariants.{Empty}
use Rattle.formula_syntax.specs.Tree.{Tree, binary, references_of, node_count}
use Rattle.formula_eval.specs.Meaning.{IsNamedBy}
use Rattle.sheet_model.specs.Sheets.{ContentValue, Constant, content_value}
use Rattle.sheet_model.specs.Walks.{ArePlainReferences}
use Rattle.sheet_model.specs.Words.{CellState, is_plain}
use Rattle.sheet_model.specs.declared.content.Content.{Content}
use Rattle.sheet_model.proofs.PartLemmas.{named_either}

-- the one cell of a range whose corners are the same
one_cell : (cell head tail : Position) → head ≡ tail → IsIn cell (record { head = head; tail = tail }) → head ≡ cell
one_cell cell head tail one inside =
    let rows = ap (λ (p : Position). p.row) one in
    let cols = ap (λ (p : Position). p.col) one in
    let row : head.row ≡ cell.row = omega (arith, rows, inside.row_from, inside.row_to) in
    let col : head.col ≡ cell.col = omega (arith, cols, inside.col_from, inside.col_to) in
    λ i. record { row = row i; col = col i }

-- what one reference names
named_once : (r : Reference) (cell : Position) → IsNamedBy (r ∷ []) cell → IsIn cell (corners_of r)
named_once r cell named = by_place named.through named.place named.listed named.inside
  where
    by_place : (through : Reference) (place : ℕ) → slice_get (r ∷ []) place ≡ Some through → IsIn cell (corners_of through) → IsIn cell (corners_of r)
    by_place through zero listed inside = let same : r ≡ through = cc in rw same inside
    by_place through (suc place) listed inside = absurd (cc)

-- the references of a tree are those of a part of it, and others that evaluation can read past
pub record RestPlain (sizes : Sizes) (states : List CellState) (whole part : Tree) : Type 0 where
  pub rest : List Reference
  pub references : references_of whole ≡ references_of part ++ rest
  pub plain : ArePlainReferences sizes states rest
  pub smaller : node_count part ≤ node_count whole

module _ (sizes : Sizes) (states : List CellState) where
  pub plain_none : ArePlainReferences sizes states []
  plain_none cell named inside = absurd (let no = named.listed in cc)

  pub plain_both : (xs ys : List Reference) → ArePlainReferences sizes states xs → ArePlainReferences sizes states ys
      → ArePlainReferences sizes states (xs ++ ys)
  plain_both xs ys first second cell named inside =
      elim (named_either xs ys cell named) [ inl here ↦ first cell here inside | inr there ↦ second cell there inside ]

  -- one reference, of which each cell of the rectangle can be read past
  pub plain_ranged : (r : Reference) → ((cell : Position) → IsIn cell (corners_of r) → IsTrue (is_inside sizes cell) → IsTrue (is_plain sizes states cell))
      → ArePlainReferences sizes states (r ∷ [])
  plain_ranged r plain cell named inside = plain cell (named_once r cell named) inside

  -- a reference whose two ends are the same names one cell
  pub plain_one : (r : Reference) (here : Position) → here ≡ r.head.cell → r.head ≡ r.tail
      → (IsTrue (is_inside sizes here) → IsTrue (is_plain sizes states here)) → ArePlainReferences sizes states (r ∷ [])
  plain_one r here is one plain cell named inside =
      let ends : r.head.cell ≡ r.tail.cell = ap (λ (a : Anchor). a.cell) one in
      let same : here ≡ cell = is ∙ one_cell cell r.head.cell r.tail.cell ends (named_once r cell named) in
      subst (λ (c : Position). IsTrue (is_plain sizes states c)) same
      (plain (subst (λ (c : Position). IsTrue (is_inside sizes c)) (sym same) inside))

  pub rest_init : (whole : Tree) → RestPlain sizes states whole whole
  rest_init whole = record { rest = []; references = sym (append-nil (references_of whole)); plain = plain_none; smaller = omega arith }

  pub rest_plain : (whole part : Tree) → RestPlain sizes states whole part → ArePlainReferences sizes states (references_of part)
      → ArePlainReferences sizes states (references_of whole)
  rest_plain whole part has plain =
      subst (ArePlainReferences sizes states) (sym has.references) (plain_both (references_of part) has.rest plain has.plain)

  -- the right operand of an operator is done with
  pub rest_right : (whole left right : Tree) (op : BinaryOp) → RestPlain sizes states whole (binary op left right)
      → ArePlainReferences sizes states (references_of right) → RestPlain sizes states whole left
  rest_right whole left right op has plain = record {
    rest = references_of right ++ has.rest;
    references = has.references ∙ append_assoc (references_of left) (references_of right) has.rest;
    plain = plain_both (references_of right) has.rest plain has.plain;
    smaller = (let h = has.smaller in omega arith);
  }

-- what stands in one of some contents, as contracts see them
pub seen_there : (contents : List Content) (all : List ContentValue) (place : ℕ) (content : Content) → map content_value contents ≡ all
    → place < length contents → content ≡ get_or contents place content → content_value content ≡ get_or all place (Constant Empty)
seen_there contents all place content seen below at =
    let there = slice_get_read contents (length contents) place content refl below at in
    let value = sym (ap (λ (cs : List ContentValue). slice_get cs place) seen) ∙ slice_get-map content_value contents place
    ∙ ap (option_map content_value) there in
    sym (get_or_from_slice_get all place (content_value content) (Constant Empty) value)

pub seen_length : (contents : List Content) (all : List ContentValue) → map content_value contents ≡ all → length contents ≡ length all
seen_length contents all seen = sym (length-map contents content_value) ∙ ap (λ (cs : List ContentValue). length cs) seen
