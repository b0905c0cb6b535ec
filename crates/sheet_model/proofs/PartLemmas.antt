-- What is left to look at after more ranges are put behind.
use Rattle.std.proofs.Common.{◌≡◌, ℕ, zero, suc, ◌+◌, ◌≤◌, ◌⊎◌, inl, inr, List, [], ◌∷◌, ◌++◌, length, slice_get, Some}
use Rattle.std.proofs.Common.{IsTrue, IsFalse, ◌↔◌, refl, sym, subst, ◌∙◌, ap, arith, append_assoc, ◌<◌, ◌-◌, take}
use Rattle.std.proofs.Common.{drop, reverse, get_or}
use Rattle.std.proofs.lemmas.List.{append-nil, get_or-reverse, length-reverse}
use Rattle.std.proofs.lemmas.Option.{get_or_from_slice_get, slice_get-get_or, slice_get_within}
use Rattle.std.proofs.Math.Seq.{drop-append_seam, take-append_seam}
use Rattle.sheet_refs.specs.Cells.{Position, Corners, IsIn}
use Rattle.sheet_refs.specs.Ends.{Reference, corners_of}
use Rattle.sheet_refs.specs.Sizes.{is_inside}
use Rattle.sheet_refs.specs.declared.sizes.Sizes.{Sizes}
use Rattle.value_core.specs.declared.operators.BinaryOp.{BinaryOp}
use Rattle.formula_syntax.specs.Tree.{Tree, binary, references_of, node_count}
use Rattle.formula_eval.specs.Meaning.{IsNamedBy}
use Rattle.sheet_model.specs.declared.parts.Part.{Part}
use Rattle.sheet_model.specs.Parts.{IsAt, IsLeftInParts, IsPartOf, GainsParts, AddsRange, AddsParts}
use Rattle.sheet_model.proofs.ListLemmas.{slice_get-append}

-- what stands in two lists joined stands in one of them
pub slice_get-either : {A : Type 0} (xs ys : List A) (i : ℕ) (x : A) → slice_get (xs ++ ys) i ≡ Some x
    → (slice_get xs i ≡ Some x) ⊎ ((j : ℕ) × (i ≡ length xs + j) × (slice_get ys j ≡ Some x))
slice_get-either [] ys i x at = inr (i, omega arith, at)
slice_get-either (z ∷ zs) ys zero x at = inl at
slice_get-either (z ∷ zs) ys (suc i) x at = elim (slice_get-either zs ys i x at) [
  | inl here ↦ inl here
  | inr there ↦
      inr (there.0, omega (arith, there.1), there.2)
]

pub slice_get-behind : {A : Type 0} (xs ys : List A) (j : ℕ) (x : A) → slice_get ys j ≡ Some x → slice_get (xs ++ ys) (length xs + j) ≡ Some x
slice_get-behind [] ys j x at = let none : 0 + j ≡ j = omega arith in rw none at
slice_get-behind (z ∷ zs) ys j x at = let more : suc (length zs) + j ≡ suc (length zs + j) = omega arith in rw more (slice_get-behind zs ys j x at)

-- a cell that two lists of references name together, one of them names
pub named_either : (xs ys : List Reference) (cell : Position) → IsNamedBy (xs ++ ys) cell → IsNamedBy xs cell ⊎ IsNamedBy ys cell
named_either xs ys cell named =
    elim (slice_get-either xs ys named.place named.through named.listed) [
      | inl here ↦ inl (record { through = named.through; place = named.place; listed = here; inside = named.inside })
      | inr there ↦ inr (record { through = named.through; place = there.0; listed = there.2; inside = named.inside })
    ]

pub named_by_both : (xs ys : List Reference) (cell : Position) → IsNamedBy xs cell ⊎ IsNamedBy ys cell → IsNamedBy (xs ++ ys) cell
named_by_both xs ys cell (inl named) =
    record {
      through = named.through;
      place = named.place;
      listed = slice_get-append xs ys named.place named.through named.listed;
      inside = named.inside;
    }
named_by_both xs ys cell (inr named) = record {
  through = named.through;
  place = length xs + named.place;
  listed = slice_get-behind xs ys named.place named.through named.listed;
  inside = named.inside;
}

-- what is in one of two lists is in both
pub at_before : (xs ys : List Part) (k : ℕ) (cell : Position) → IsAt xs k cell → IsAt (xs ++ ys) k cell
at_before xs ys k cell at = record { part = at.part; listed = slice_get-append xs ys k at.part at.listed; inside = at.inside }

pub at_behind : (xs ys : List Part) (k : ℕ) (cell : Position) → IsAt ys k cell → IsAt (xs ++ ys) (length xs + k) cell
at_behind xs ys k cell at = record { part = at.part; listed = slice_get-behind xs ys k at.part at.listed; inside = at.inside }

pub left_before : (xs ys : List Part) (first : ℕ) (cell : Position) → IsLeftInParts xs first cell → IsLeftInParts (xs ++ ys) first cell
left_before xs ys first cell left = record { place = left.place; from = left.from; at = at_before xs ys left.place cell left.at }

pub left_behind : (xs ys : List Part) (first : ℕ) (cell : Position) → first ≤ length xs → IsLeftInParts ys 0 cell → IsLeftInParts (xs ++ ys) first cell
left_behind xs ys first cell low left = record { place = length xs + left.place; from = omega arith; at = at_behind xs ys left.place cell left.at }

module _ (sizes : Sizes) (P Q : Position → Type 0) (forth : (cell : Position) → P cell → Q cell) (back : (cell : Position) → Q cell → P cell) where
  part_same : (part : Part) → IsPartOf sizes P part → IsPartOf sizes Q part
  part_same part is = record { next = is.next; named = λ cell inside. forth cell (is.named cell inside); inside = is.inside }

  -- the same cells named in another way
  pub adds_same : (old new : List Part) → GainsParts sizes P old new → GainsParts sizes Q old new
  adds_same old new adds = record {
    added = adds.added;
    behind = adds.behind;
    parts = λ k part at. part_same part (adds.parts k part at);
    complete = λ cell named inside. adds.complete cell (back cell named) inside;
  }

pub adds_nothing : (sizes : Sizes) (P : Position → Type 0) (old : List Part) → ((cell : Position) → P cell → ⊥) → GainsParts sizes P old old
adds_nothing sizes P old none = record {
  added = [];
  behind = sym (append-nil old);
  parts = λ k part at. absurd (cc);
  complete = λ cell named inside. absurd (none cell named);
}

module _ (sizes : Sizes) (P Q : Position → Type 0) where
  part_left : (part : Part) → IsPartOf sizes P part → IsPartOf sizes (λ cell. P cell ⊎ Q cell) part
  part_left part is = record { next = is.next; named = λ cell inside. inl (is.named cell inside); inside = is.inside }

  part_right : (part : Part) → IsPartOf sizes Q part → IsPartOf sizes (λ cell. P cell ⊎ Q cell) part
  part_right part is = record { next = is.next; named = λ cell inside. inr (is.named cell inside); inside = is.inside }

  -- parts for more cells behind those for some
  pub adds_both : (old mid new : List Part) → GainsParts sizes P old mid → GainsParts sizes Q mid new → GainsParts sizes (λ cell. P cell ⊎ Q cell) old new
  adds_both old mid new first second = record {
    added = first.added ++ second.added;
    behind = second.behind ∙ ap (λ parts. parts ++ second.added) first.behind ∙ append_assoc old first.added second.added;
    parts = λ k part at.
        elim (slice_get-either first.added second.added k part at) [
          | inl here ↦ part_left part (first.parts k part here)
          | inr there ↦ part_right part (second.parts there.0 part there.2)
        ];
    complete = λ cell named inside.
        elim named [
          | inl by_first ↦ left_before first.added second.added 0 cell (first.complete cell by_first inside)
          | inr by_second ↦ left_behind first.added second.added 0 cell (omega arith) (second.complete cell by_second inside)
        ];
  }

-- the part of a range that lies in the rectangle, and none where no cell does
pub adds_clip : (sizes : Sizes) (range part : Corners) (old : List Part)
    → ((cell : Position) → IsIn cell part ↔ (IsIn cell range × IsTrue (is_inside sizes cell)))
    → AddsRange sizes range old (old ++ record { range = part; next = 0 } ∷ [])
adds_clip sizes range part old same = record {
  added = new ∷ [];
  behind = refl;
  parts = is_new;
  complete = λ cell named inside. record { place = 0; from = omega arith; at = record { part = new; listed = refl; inside = (same cell).1 (named, inside) } };
}
  where
    new : Part
    new = record { range = part; next = 0 }

    is_part : IsPartOf sizes (λ cell. IsIn cell range) new
    is_part = record { next = refl; named = λ cell inside. ((same cell).0 inside).0; inside = λ cell inside. ((same cell).0 inside).1 }

    is_new : (k : ℕ) (p : Part) → slice_get (new ∷ []) k ≡ Some p → IsPartOf sizes (λ cell. IsIn cell range) p
    is_new zero p at = let one : new ≡ p = cc in subst (λ (q : Part). IsPartOf sizes (λ cell. IsIn cell range) q) one is_part
    is_new (suc k) p at = absurd (cc)

pub adds_past : (sizes : Sizes) (range : Corners) (old : List Part)
    → ((cell : Position) → IsIn cell range → IsFalse (is_inside sizes cell)) → AddsRange sizes range old old
adds_past sizes range old outside = record {
  added = [];
  behind = sym (append-nil old);
  parts = λ k part at. absurd (cc);
  complete = λ cell named inside. (let out = outside cell named in absurd (cc (inside, out)));
}

module _ (sizes : Sizes) where
  -- the references of one list behind those of another, whichever were added first
  pub adds_append : (xs ys : List Reference) (old mid new : List Part) → AddsParts sizes xs old mid
      → AddsParts sizes ys mid new → AddsParts sizes (xs ++ ys) old new
  adds_append xs ys old mid new first second =
      adds_same sizes (λ cell. IsNamedBy xs cell ⊎ IsNamedBy ys cell) (λ cell. IsNamedBy (xs ++ ys) cell) (named_by_both xs ys) (named_either xs ys) old new
      (adds_both sizes (λ cell. IsNamedBy xs cell) (λ cell. IsNamedBy ys cell) old mid new first second)

  pub adds_before : (xs ys : List Reference) (old mid new : List Part) → AddsParts sizes ys old mid
      → AddsParts sizes xs mid new → AddsParts sizes (xs ++ ys) old new
  adds_before xs ys old mid new first second =
      adds_same sizes (λ cell. IsNamedBy ys cell ⊎ IsNamedBy xs cell) (λ cell. IsNamedBy (xs ++ ys) cell)
      (λ cell either. named_by_both xs ys cell (elim either [ inl second ↦ inr second | inr first ↦ inl first ]))
      (λ cell named. elim (named_either xs ys cell named) [ inl first ↦ inr first | inr second ↦ inl second ]) old new
      (adds_both sizes (λ cell. IsNamedBy ys cell) (λ cell. IsNamedBy xs cell) old mid new first second)

  pub adds_none : (old : List Part) → AddsParts sizes [] old old
  adds_none old = adds_nothing sizes (λ cell. IsNamedBy [] cell) old (λ cell named. (let no = named.listed in cc))

  -- one reference
  pub adds_one : (r : Reference) (old new : List Part) → GainsParts sizes (λ cell. IsIn cell (corners_of r)) old new → AddsParts sizes (r ∷ []) old new
  adds_one r old new adds =
      adds_same sizes (λ cell. IsIn cell (corners_of r)) (λ cell. IsNamedBy (r ∷ []) cell)
      (λ cell inside. record { through = r; place = 0; listed = refl; inside = inside }) (λ cell named. only named) old new adds
    where
      only : {cell : Position} → IsNamedBy (r ∷ []) cell → IsIn cell (corners_of r)
      only {cell} named = by_place named.through named.place named.listed named.inside
        where
          by_place : (through : Reference) (place : ℕ) → slice_get (r ∷ []) place ≡ Some through → IsIn cell (corners_of through) → IsIn cell (corners_of r)
          by_place through zero listed inside = let same : r ≡ through = cc in rw same inside
          by_place through (suc place) listed inside = absurd (cc)

-- the references of a tree are those of a part of it, and others whose ranges were put behind already
pub record RestAdded (sizes : Sizes) (whole part : Tree) (old now : List Part) : Type 0 where
  pub rest : List Reference
  pub references : references_of whole ≡ references_of part ++ rest
  pub added : AddsParts sizes rest old now
  pub smaller : node_count part ≤ node_count whole

module _ (sizes : Sizes) where
  pub rest_init : (whole : Tree) (old : List Part) → RestAdded sizes whole whole old old
  rest_init whole old = record { rest = []; references = sym (append-nil (references_of whole)); added = adds_none sizes old; smaller = omega arith }

  pub rest_added : (whole part : Tree) (old now new : List Part) → RestAdded sizes whole part old now
      → AddsParts sizes (references_of part) now new → AddsParts sizes (references_of whole) old new
  rest_added whole part old now new has adds =
      rw has.references (adds_before sizes (references_of part) has.rest old now new has.added adds)

  pub rest_right : (whole left right : Tree) (op : BinaryOp) (old now new : List Part)
      → RestAdded sizes whole (binary op left right) old now → AddsParts sizes (references_of right) now new
      → RestAdded sizes whole left old new
  rest_right whole left right op old now new has adds = record {
    rest = references_of right ++ has.rest;
    references = has.references ∙ append_assoc (references_of left) (references_of right) has.rest;
    added = adds_before sizes (references_of right) has.rest old now new has.added adds;
    smaller = (let h = has.smaller in omega arith);
  }

-- new parts are new parts in any order: also turned round
pub adds_reversed : (sizes : Sizes) (Named : Position → Type 0) (old new : List Part) (first : ℕ) → first ≡ length old
    → GainsParts sizes Named old new → GainsParts sizes Named old (take first new ++ reverse (drop first new))
adds_reversed sizes Named old new first here adds = record {
  added = reverse adds.added;
  behind = rw (here, adds.behind) (λ i. take-append_seam old adds.added i ++ reverse (drop-append_seam old adds.added i));
  parts = λ k part at. adds.parts (length adds.added - 1 - k) part (before adds.added k part at);
  complete = λ cell named inside. (
      let left = adds.complete cell named inside in
      let within : left.place < length adds.added = slice_get_within adds.added left.place left.at.part left.at.listed in
      record {
        place = length adds.added - 1 - left.place;
        from = omega arith;
        at = record { part = left.at.part; listed = behind adds.added left.place left.at.part left.at.listed; inside = left.at.inside };
      });
}
  where
    at_place : (xs : List Part) (k : ℕ) (part : Part) → k < length xs → get_or xs k part ≡ part → slice_get xs k ≡ Some part
    at_place xs k part within same = slice_get-get_or xs k part within ∙ ap Some same

    before : (xs : List Part) (k : ℕ) (part : Part) → slice_get (reverse xs) k ≡ Some part → slice_get xs (length xs - 1 - k) ≡ Some part
    before xs k part at =
        let long = length-reverse xs in
        let within : k < length (reverse xs) = slice_get_within (reverse xs) k part at in
        let small : k < length xs = omega (arith, within, long) in
        at_place xs (length xs - 1 - k) part (omega (arith, small)) (sym (get_or-reverse xs k part small) ∙ get_or_from_slice_get (reverse xs) k part part at)

    behind : (xs : List Part) (k : ℕ) (part : Part) → slice_get xs k ≡ Some part → slice_get (reverse xs) (length xs - 1 - k) ≡ Some part
    behind xs k part at =
        let long = length-reverse xs in
        let within : k < length xs = slice_get_within xs k part at in
        let small : length xs - 1 - k < length xs = omega (arith, within) in
        let back : length xs - 1 - (length xs - 1 - k) ≡ k = omega (arith, within) in
        at_place (reverse xs) (length xs - 1 - k) part (omega (arith, small, long))
        (get_or-reverse xs (length xs - 1 - k) part small ∙ ap (λ j. get_or xs j part) back ∙ get_or_from_slice_get xs k part part at)
