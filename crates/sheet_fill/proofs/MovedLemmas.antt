-- Where ends and references go that are shifted.
use Rattle.std.proofs.Common.{◌≡◌, ◌⊎◌, ◌↔◌, inl, inr, ℕ, ℤ, pos, ◌<◌, ◌≤◌, Bool, true, false, Option, None, Some, arith, refl, sym, ap, ◌∙◌, subst}
use Rattle.std.specs.Prelude.{◌+ℤ◌, ◌<ℤ◌, int_le, nat_abs, nat_le, min, max, if◌then◌else◌, option_map, option_and_then}
use Rattle.std.proofs.lemmas.Bool.{cases_lt, true≢false}
use Rattle.std.proofs.lemmas.Bool.Decides.{nat_tests}
use Rattle.std.proofs.lemmas.Int.{ints}
use Rattle.std.proofs.lemmas.Option.{none-some, same_Some}
use Rattle.sheet_refs.specs.Cells.{IsNamed, Position, span_of}
use Rattle.sheet_refs.specs.Ends.{Anchor, IsReference, Reference, corners_of, lesser, greater, one_end, two_ends}
use Rattle.formula_syntax.specs.Shifting.{IsMovedEnd, IsMovedPart, at_cell, if_named, or_lost, shifted_end, shifted_ends, shifted_part, shifted_reference}
use Rattle.formula_syntax.specs.Tree.{reference}
use Rattle.formula_syntax.proofs.Shifts.{end_moved, moved_end}
use Rattle.sheet_model.specs.Sheets.{Computed}
use Rattle.sheet_fill.specs.Filling.{copied, way}
use Rattle.sheet_fill.specs.MovedReferences.{ArePutInOrder, EndLeaves, IsAsFar, IsEndOfCopy, IsMovedReference, PartLeaves, col_part, row_part}

-- a row or a column that is lost
named_lost : (last : ℕ) (z : ℤ) → if_named last z ≡ None → (z <ℤ pos 1) ⊎ (pos last <ℤ z)
named_lost last z e = by_tests (int_le (pos 1) z) refl (int_le z (pos last)) refl
  where
    by_tests : (p : Bool) → int_le (pos 1) z ≡ p → (q : Bool) → int_le z (pos last) ≡ q → (z <ℤ pos 1) ⊎ (pos last <ℤ z)
    by_tests true f true g = absurd (none-some (nat_abs z) (sym (rw (f, g) at e)))
    by_tests true f false g = inr (grind (arith, ints, nat_tests))
    by_tests false f q g = inl (grind (arith, ints, nat_tests))

lost_named : (last : ℕ) (z : ℤ) → (z <ℤ pos 1) ⊎ (pos last <ℤ z) → if_named last z ≡ None
lost_named last z (inl before) = let f : int_le (pos 1) z ≡ false = grind (arith, ints, nat_tests) in rw f refl
lost_named last z (inr past) = go (int_le (pos 1) z) refl
  where
    go : (p : Bool) → int_le (pos 1) z ≡ p → if_named last z ≡ None
    go false f = rw f refl
    go true f = let g : int_le z (pos last) ≡ false = grind (arith, ints, nat_tests) in rw (f, g) refl

part_lost : (fixed : Bool) (last : ℕ) (by : ℤ) (part : ℕ) → shifted_part fixed last by part ≡ None → PartLeaves fixed last by part
part_lost true last by part e = absurd (cc e)
part_lost false last by part e = (refl, named_lost last (pos part +ℤ by) e)

lost_part : (fixed : Bool) (last : ℕ) (by : ℤ) (part : ℕ) → PartLeaves fixed last by part → shifted_part fixed last by part ≡ None
lost_part true last by part h = absurd (true≢false h.0)
lost_part false last by part h = lost_named last (pos part +ℤ by) h.1

-- an end is lost by one of its parts
by_part : (a : Anchor) (row col : Option ℕ) → option_and_then (λ r. option_map (at_cell a r) col) row ≡ None → (row ≡ None) ⊎ (col ≡ None)
by_part a None col e = inl refl
by_part a (Some r) None e = inr refl
by_part a (Some r) (Some c) e = absurd (cc e)

no_row : (a : Anchor) (row col : Option ℕ) → row ≡ None → option_and_then (λ r. option_map (at_cell a r) col) row ≡ None
no_row a row col e = rw e refl

no_col : (a : Anchor) (row col : Option ℕ) → col ≡ None → option_and_then (λ r. option_map (at_cell a r) col) row ≡ None
no_col a None col e = refl
no_col a (Some r) col e = rw e refl

pub end_lost : (down right : ℤ) (end : Anchor) → shifted_end down right end ≡ None ↔ EndLeaves down right end
end_lost down right end = (to, from)
  where
    to : shifted_end down right end ≡ None → EndLeaves down right end
    to e = elim (by_part end (shifted_part end.row_fixed 1048576 down end.cell.row) (shifted_part end.col_fixed 16384 right end.cell.col) e) [
      | inl lost ↦ inl (part_lost end.row_fixed 1048576 down end.cell.row lost)
      | inr lost ↦ inr (part_lost end.col_fixed 16384 right end.cell.col lost)
    ]

    from : EndLeaves down right end → shifted_end down right end ≡ None
    from (inl leaves) = no_row end _ _ (lost_part end.row_fixed 1048576 down end.cell.row leaves)
    from (inr leaves) = no_col end _ _ (lost_part end.col_fixed 16384 right end.cell.col leaves)

-- a reference is lost by one of its ends
by_end : (single : Bool) (down right : ℤ) (head tail : Anchor) → shifted_ends down right single head tail ≡ None
    → (shifted_end down right head ≡ None) ⊎ (shifted_end down right tail ≡ None)
by_end true down right head tail e = inl (one (shifted_end down right head) e)
  where
    one : (o : Option Anchor) → option_map one_end o ≡ None → o ≡ None
    one None f = refl
    one (Some a) f = absurd (cc f)
by_end false down right head tail e = two (shifted_end down right head) (shifted_end down right tail) e
  where
    two : (o p : Option Anchor) → option_and_then (λ first. option_map (two_ends first) p) o ≡ None → (o ≡ None) ⊎ (p ≡ None)
    two None p f = inl refl
    two (Some a) None f = inr refl
    two (Some a) (Some b) f = absurd (cc f)

no_head : (single : Bool) (down right : ℤ) (head tail : Anchor) → shifted_end down right head ≡ None → shifted_ends down right single head tail ≡ None
no_head true down right head tail e = rw e refl
no_head false down right head tail e = rw e refl

no_tail : (single : Bool) (down right : ℤ) (head tail : Anchor) → (single ≡ true → head ≡ tail) → shifted_end down right tail ≡ None
    → shifted_ends down right single head tail ≡ None
no_tail true down right head tail one e = no_head true down right head tail (ap (shifted_end down right) (one refl) ∙ e)
no_tail false down right head tail one e = two (shifted_end down right head)
  where
    two : (o : Option Anchor) → option_and_then (λ first. option_map (two_ends first) (shifted_end down right tail)) o ≡ None
    two None = refl
    two (Some a) = rw e refl

pub reference_lost : (down right : ℤ) (r : Reference) → IsReference r.head r.tail r.single
    → shifted_reference down right r ≡ None ↔ (EndLeaves down right r.head ⊎ EndLeaves down right r.tail)
reference_lost down right r is = (to, from)
  where
    to : shifted_reference down right r ≡ None → EndLeaves down right r.head ⊎ EndLeaves down right r.tail
    to e = elim (by_end r.single down right r.head r.tail e) [
      | inl lost ↦ inl ((end_lost down right r.head).0 lost)
      | inr lost ↦ inr ((end_lost down right r.tail).0 lost)
    ]

    from : EndLeaves down right r.head ⊎ EndLeaves down right r.tail → shifted_reference down right r ≡ None
    from (inl leaves) = no_head r.single down right r.head r.tail ((end_lost down right r.head).1 leaves)
    from (inr leaves) = no_tail r.single down right r.head r.tail is.one_end ((end_lost down right r.tail).1 leaves)

-- two parts in order
abbrev lower_of : ℕ × Bool → ℕ × Bool → ℕ × Bool
lower_of p q = (min p.0 q.0, if nat_le p.0 q.0 then p.1 else q.1)

abbrev upper_of : ℕ × Bool → ℕ × Bool → ℕ × Bool
upper_of p q = (max p.0 q.0, if nat_le p.0 q.0 then q.1 else p.1)

same_part : {a b : ℕ} {p q : Bool} → a ≡ b → p ≡ q → ◌≡◌ {A = ℕ × Bool} (a, p) (b, q)
same_part number fixed = cc

chosen : (b : Bool) (x y : Bool) → b ≡ true → (if b then x else y) ≡ x
chosen true x y e = refl
chosen false x y e = absurd (true≢false (sym e))

other : (b : Bool) (x y : Bool) → b ≡ false → (if b then x else y) ≡ y
other true x y e = absurd (true≢false e)
other false x y e = refl

parts_ordered : (p q : ℕ × Bool) → ArePutInOrder p q (lower_of p q) (upper_of p q)
parts_ordered p q = record {
  kept = λ le. (let t : nat_le p.0 q.0 ≡ true = grind (arith, nat_tests, le) in
      (same_part (omega (arith, le)) (chosen _ p.1 q.1 t), same_part (omega (arith, le)) (chosen _ q.1 p.1 t)));
  exchanged = λ lt. (let t : nat_le p.0 q.0 ≡ false = grind (arith, nat_tests, lt) in
      (same_part (omega (arith, lt)) (other _ p.1 q.1 t), same_part (omega (arith, lt)) (other _ q.1 p.1 t)));
}

order_is : (p q lower upper : ℕ × Bool) → ArePutInOrder p q lower upper → (lower ≡ lower_of p q) × (upper ≡ upper_of p q)
order_is p q lower upper is = go (cases_lt q.0 p.0)
  where
    go : (q.0 < p.0) ⊎ (p.0 ≤ q.0) → (lower ≡ lower_of p q) × (upper ≡ upper_of p q)
    go (inl lt) = ((is.exchanged lt).0 ∙ sym ((parts_ordered p q).exchanged lt).0, (is.exchanged lt).1 ∙ sym ((parts_ordered p q).exchanged lt).1)
    go (inr le) = ((is.kept le).0 ∙ sym ((parts_ordered p q).kept le).0, (is.kept le).1 ∙ sym ((parts_ordered p q).kept le).1)

-- an end by its two parts
abbrev end_by : ℕ × Bool → ℕ × Bool → Anchor
end_by row col = record { cell = record { row = row.0; col = col.0 }; col_fixed = col.1; row_fixed = row.1 }

same_end : (a b : Anchor) → row_part a ≡ row_part b → col_part a ≡ col_part b → a ≡ b
same_end a b row col = λ i. end_by (row i) (col i)

same_reference : (r s : Reference) → r.head ≡ s.head → r.tail ≡ s.tail → r.single ≡ s.single → r ≡ s
same_reference r s head tail single = λ i. record { head = head i; tail = tail i; single = single i }

-- where a reference goes by its ends
corners_spanned : (a b : Anchor) → corners_of (two_ends a b) ≡ span_of a.cell b.cell
corners_spanned a b = refl

corner_alone : (a : Anchor) → corners_of (one_end a) ≡ span_of a.cell a.cell
corner_alone a =
    let row : a.cell.row ≡ min a.cell.row a.cell.row = omega arith in
    let col : a.cell.col ≡ min a.cell.col a.cell.col = omega arith in
    let low : a.cell.row ≡ max a.cell.row a.cell.row = omega arith in
    let right : a.cell.col ≡ max a.cell.col a.cell.col = omega arith in
    λ i. record { head = record { row = row i; col = col i }; tail = record { row = low i; col = right i } }

in_order : (p : ℕ × Bool) → ArePutInOrder p p p p
in_order p = record { kept = λ le. (refl, refl); exchanged = λ lt. absurd (omega (arith, lt)) }

same_some : {A : Type 0} (o : Option A) (x y : A) → o ≡ Some x → o ≡ Some y → x ≡ y
same_some o x y e f = same_Some x y (sym e ∙ f)

module _ (down right : ℤ) (head tail : Anchor) (head_named : IsNamed head.cell.row head.cell.col) (tail_named : IsNamed tail.cell.row tail.cell.col) where
  one_moved : head ≡ tail → (o : Option Anchor) → shifted_end down right head ≡ o → (new : Reference) → option_map one_end o ≡ Some new
      → IsMovedReference down right (record { head = head; tail = tail; single = true }) new
  one_moved same None is new e = absurd (cc e)
  one_moved same (Some a) is new e =
      subst (IsMovedReference down right (record { head = head; tail = tail; single = true })) (same_Some (one_end a) new e)
      (record {
        head = a;
        tail = a;
        head_moved = end_moved down right head a head_named is;
        tail_moved = end_moved down right tail a tail_named (ap (shifted_end down right) (sym same) ∙ is);
        range_is = corner_alone a;
        rows = in_order (row_part a);
        cols = in_order (col_part a);
        single = refl;
      })

  two_moved : (o p : Option Anchor) → shifted_end down right head ≡ o → shifted_end down right tail ≡ p → (new : Reference)
      → option_and_then (λ first. option_map (two_ends first) p) o ≡ Some new
      → IsMovedReference down right (record { head = head; tail = tail; single = false }) new
  two_moved None p is also new e = absurd (cc e)
  two_moved (Some a) None is also new e = absurd (cc e)
  two_moved (Some a) (Some b) is also new e =
      subst (IsMovedReference down right (record { head = head; tail = tail; single = false })) (same_Some (two_ends a b) new e)
      (record {
        head = a;
        tail = b;
        head_moved = end_moved down right head a head_named is;
        tail_moved = end_moved down right tail b tail_named also;
        range_is = corners_spanned a b;
        rows = parts_ordered (row_part a) (row_part b);
        cols = parts_ordered (col_part a) (col_part b);
        single = refl;
      })

  ends_moved : (single : Bool) → (single ≡ true → head ≡ tail) → (new : Reference) → shifted_ends down right single head tail ≡ Some new
      → IsMovedReference down right (record { head = head; tail = tail; single = single }) new
  ends_moved true one new e = one_moved (one refl) (shifted_end down right head) refl new e
  ends_moved false one new e = two_moved (shifted_end down right head) (shifted_end down right tail) refl refl new e

  moved_ends : (single : Bool) → (single ≡ true → head ≡ tail) → (new : Reference)
      → IsMovedReference down right (record { head = head; tail = tail; single = single }) new → shifted_ends down right single head tail ≡ Some new
  moved_ends true one new is =
      let first : shifted_end down right head ≡ Some is.head = moved_end down right head is.head is.head_moved in
      let second : shifted_end down right tail ≡ Some is.tail = moved_end down right tail is.tail is.tail_moved in
      let same : is.head ≡ is.tail = same_some _ is.head is.tail first (ap (shifted_end down right) (one refl) ∙ second) in
      let row : is.head.cell.row ≤ is.tail.cell.row = omega (arith, ap (λ (a : Anchor). a.cell.row) same) in
      let col : is.head.cell.col ≤ is.tail.cell.col = omega (arith, ap (λ (a : Anchor). a.cell.col) same) in
      let head_is : new.head ≡ is.head = same_end new.head is.head (is.rows.kept row).0 (is.cols.kept col).0 in
      let tail_is : new.tail ≡ is.tail = same_end new.tail is.tail (is.rows.kept row).1 (is.cols.kept col).1 in
      rw first (ap Some (sym (same_reference new (one_end is.head) head_is (tail_is ∙ sym same) is.single)))
  moved_ends false one new is =
      let first : shifted_end down right head ≡ Some is.head = moved_end down right head is.head is.head_moved in
      let second : shifted_end down right tail ≡ Some is.tail = moved_end down right tail is.tail is.tail_moved in
      let rows = order_is (row_part is.head) (row_part is.tail) (row_part new.head) (row_part new.tail) is.rows in
      let cols = order_is (col_part is.head) (col_part is.tail) (col_part new.head) (col_part new.tail) is.cols in
      rw (first, second) (ap Some (sym (same_reference new (two_ends is.head is.tail)
      (same_end new.head (lesser is.head is.tail) rows.0 cols.0) (same_end new.tail (greater is.head is.tail) rows.1 cols.1) is.single)))

pub reference_moves : (down right : ℤ) (r new : Reference) → IsReference r.head r.tail r.single
    → shifted_reference down right r ≡ Some new ↔ IsMovedReference down right r new
reference_moves down right r new is = (
  ends_moved down right r.head r.tail is.head_named is.tail_named r.single is.one_end new,
  moved_ends down right r.head r.tail is.head_named is.tail_named r.single is.one_end new,
)

-- how far an end of a copy is
as_far : (fixed : Bool) (from to part new : ℕ) → IsMovedPart fixed (way from to) part new → IsAsFar fixed from to part new
as_far true from to part new is = is
as_far false from to part new is = omega (arith, ints, is)

pub copy_kept : (from to : Position) (end new : Anchor) → IsNamed end.cell.row end.cell.col
    → copied from to (Computed (reference (one_end end))) ≡ Computed (reference (one_end new)) → IsEndOfCopy from to end new
copy_kept from to end new named is = go (shifted_end (way from.row to.row) (way from.col to.col) end) refl is
  where
    go : (o : Option Anchor) → shifted_end (way from.row to.row) (way from.col to.col) end ≡ o
        → Computed (or_lost (option_map one_end o)) ≡ Computed (reference (one_end new)) → IsEndOfCopy from to end new
    go None e same = absurd (cc same)
    go (Some a) e same =
        let references : one_end a ≡ one_end new = cc same in
        let same_end_is : a ≡ new = ap (λ (r : Reference). r.head) references in
        let moved : IsMovedEnd (way from.row to.row) (way from.col to.col) end new =
        subst (IsMovedEnd (way from.row to.row) (way from.col to.col) end) same_end_is
        (end_moved (way from.row to.row) (way from.col to.col) end a named e) in
        record {
          row = as_far end.row_fixed from.row to.row end.cell.row new.cell.row moved.row;
          col = as_far end.col_fixed from.col to.col end.cell.col new.cell.col moved.col;
        }
