-- A part of an edge is an edge.
use Rattle.std.proofs.Common.{◌≡◌, ◌⊎◌, inl, inr, ℕ, ◌+◌, ◌-◌, ◌≤◌, ◌<◌, arith, refl, sym, ◌∙◌, ap, subst}
use Rattle.std.specs.Prelude.{◌==◌, Bool, true, false}
use Rattle.std.proofs.lemmas.Bool.Decides.{nat_tests}
use Rattle.sheet_refs.specs.Cells.{Corners, IsIn, IsOrdered}
use Rattle.edge_patterns.specs.declared.axis.Axis.{Axis}
use Rattle.edge_patterns.specs.declared.edge.Pattern.{Pattern}
use Rattle.edge_patterns.specs.declared.edge.Pattern.TheVariants.{Single, Rr, Rf, Fr, Ff, Chain}
use Rattle.edge_patterns.specs.Axes.{along, across, IsLine, axis_of, count_along}
use Rattle.edge_patterns.specs.Edges.{EdgeValue, IsEdge, IsRange, IsShapeOf, IsBeside, run_length, first_along, last_along, part_of}
use Rattle.edge_patterns.proofs.Crossings.{is_in, ordered, is_ordered}
use Rattle.edge_patterns.proofs.AxisLemmas.{line_or_cell, count_one}
use Rattle.edge_patterns.proofs.PartLemmas.{run_cut, prec_cut, part_line, part_count}

-- a rectangle with its corners in another one has names where that one has
inner_range : (outer inner : Corners) → IsRange outer → IsIn inner.head outer → IsIn inner.tail outer → IsOrdered inner.head inner.tail → IsRange inner
inner_range outer inner is head tail order =
    let a = is.head.row_from in
    let b = is.tail.row_to in
    let c = is.head.col_from in
    let d = is.tail.col_to in
    let e = head.row_from in
    let f = head.row_to in
    let g = head.col_from in
    let h = head.col_to in
    let i = tail.row_from in
    let j = tail.row_to in
    let k = tail.col_from in
    let l = tail.col_to in
    record {
      head = record { row_from = omega (arith, a, e); row_to = omega (arith, b, f); col_from = omega (arith, c, g); col_to = omega (arith, d, h) };
      tail = record { row_from = omega (arith, a, i); row_to = omega (arith, b, j); col_from = omega (arith, c, k); col_to = omega (arith, d, l) };
      ordered = order;
    }

-- where a part's ranges begin and end
record Bounds (axis : Axis) (edge : EdgeValue) (from to : ℕ) : Type 0 where
  low : along axis edge.prec.head ≤ first_along axis edge from
  mid : first_along axis edge from ≤ last_along axis edge to
  high : last_along axis edge to ≤ along axis edge.prec.tail

bounds : (axis : Axis) (pattern : Pattern) (edge : EdgeValue) (from to : ℕ) → edge.pattern ≡ pattern
    → IsShapeOf axis pattern edge → along axis edge.prec.head ≤ along axis edge.prec.tail → from ≤ to
    → to < count_along axis edge.dep → Bounds axis edge from to
bounds axis Single edge from to same shape line order within =
    record { low = rw same (omega arith); mid = rw same (omega (arith, line)); high = rw same (omega arith) }
bounds axis Rr edge from to same shape line order within =
    let fits = shape.0.fits in
    record { low = rw same (omega arith); mid = rw same (omega (arith, fits, order, within)); high = rw same (omega arith) }
bounds axis Rf edge from to same shape line order within =
    let fits = shape.fits in
    record { low = rw same (omega arith); mid = rw same (omega (arith, fits, order, within)); high = rw same (omega arith) }
bounds axis Fr edge from to same shape line order within =
    let fits = shape.fits in
    record { low = rw same (omega arith); mid = rw same (omega (arith, fits, order, within)); high = rw same (omega arith) }
bounds axis Ff edge from to same shape line order within =
    record { low = rw same (omega arith); mid = rw same (omega (arith, line)); high = rw same (omega arith) }
bounds axis Chain edge from to same shape line order within =
    let fits = shape.0.fits in
    record { low = rw same (omega arith); mid = rw same (omega (arith, fits, order, within)); high = rw same (omega arith) }

-- a part of several cells, by coordinates
record Cut (axis : Axis) (edge part : EdgeValue) (from to : ℕ) : Type 0 where
  several : from < to
  within : to < count_along axis edge.dep
  run_head : along axis part.dep.head ≡ along axis edge.dep.head + from
  run_tail : along axis part.dep.tail ≡ along axis edge.dep.head + to
  left : across axis part.dep.head ≡ across axis edge.dep.head
  right : across axis part.dep.tail ≡ across axis edge.dep.tail
  head : along axis part.prec.head ≡ first_along axis edge from
  tail : along axis part.prec.tail ≡ last_along axis edge to
  prec_left : across axis part.prec.head ≡ across axis edge.prec.head
  prec_right : across axis part.prec.tail ≡ across axis edge.prec.tail

module _ (axis : Axis) (edge part : EdgeValue) (from to : ℕ) (cut : Cut axis edge part from to) where
  count_is : count_along axis part.dep ≡ to + 1 - from
  count_is =
      let a = cut.run_head in
      let b = cut.run_tail in
      omega (arith, a, b)

  -- what moves with the cell is beside the part exactly where it is beside the whole
  module _ (fits : along axis edge.prec.head + (count_along axis edge.dep - 1) ≤ along axis edge.prec.tail)
      (head : along axis part.prec.head ≡ along axis edge.prec.head + from) (tail : along axis part.prec.tail ≡ along
      axis edge.prec.tail - (count_along axis edge.dep - 1 - to)) where
    beside_part : IsBeside axis edge.dep edge.prec → IsBeside axis part.dep part.prec
    beside_part is =
        let a = cut.run_head in
        let b = cut.run_tail in
        let w = cut.within in
        let s = cut.several in
        record {
          head = cut.prec_left ∙ is.head ∙ sym cut.left;
          tail = cut.prec_right ∙ is.tail ∙ sym cut.right;
          moved = elim is.moved [
            | inl on ↦ inl (let p = on.0 in omega (arith, a, head, p), let q = on.1 in omega (arith, b, tail, q, w, s))
            | inr back ↦ inr (let p = back.0 in omega (arith, a, head, p), let q = back.1 in omega (arith, b, tail, q, w, s, fits))
          ];
        }

    beside_whole : IsBeside axis part.dep part.prec → IsBeside axis edge.dep edge.prec
    beside_whole is =
        let a = cut.run_head in
        let b = cut.run_tail in
        let w = cut.within in
        let s = cut.several in
        record {
          head = sym cut.prec_left ∙ is.head ∙ cut.left;
          tail = sym cut.prec_right ∙ is.tail ∙ cut.right;
          moved = elim is.moved [
            | inl on ↦ inl (let p = on.0 in omega (arith, a, head, p), let q = on.1 in omega (arith, b, tail, q, w, s, fits))
            | inr back ↦ inr (let p = back.0 in omega (arith, a, head, p), let q = back.1 in omega (arith, b, tail, q, w, s, fits))
          ];
        }

  part_shape : (pattern : Pattern) → edge.pattern ≡ pattern → IsShapeOf axis pattern edge → IsShapeOf axis pattern part
  part_shape Single same shape =
      let w = cut.within in
      let s = cut.several in
      absurd (omega (arith, shape, w, s))
  part_shape Rr same shape =
      let c = count_is in
      let w = cut.within in
      let s = cut.several in
      let fits = shape.0.fits in
      let head : along axis part.prec.head ≡ along axis edge.prec.head + from = rw same at cut.head in
      let tail : along axis part.prec.tail ≡ along axis edge.prec.tail - (count_along axis edge.dep - 1 - to) = rw same at cut.tail in
      (record { several = omega (arith, c, s); fits = omega (arith, c, w, s, fits, head, tail) }, λ is. shape.1 (beside_whole fits head tail is))
  part_shape Rf same shape =
      let c = count_is in
      let w = cut.within in
      let s = cut.several in
      let fits = shape.fits in
      let head : along axis part.prec.head ≡ along axis edge.prec.head + from = rw same at cut.head in
      let ends = rw same at cut.tail in
      let tail : along axis part.prec.tail ≡ along axis edge.prec.tail = omega (arith, ends) in
      record { several = omega (arith, c, s); fits = omega (arith, c, w, s, fits, head, tail) }
  part_shape Fr same shape =
      let c = count_is in
      let w = cut.within in
      let s = cut.several in
      let fits = shape.fits in
      let begins = rw same at cut.head in
      let head : along axis part.prec.head ≡ along axis edge.prec.head = omega (arith, begins) in
      let tail : along axis part.prec.tail ≡ along axis edge.prec.tail - (count_along axis edge.dep - 1 - to) = rw same at cut.tail in
      record { several = omega (arith, c, s); fits = omega (arith, c, w, s, fits, head, tail) }
  part_shape Ff same shape =
      let c = count_is in
      let s = cut.several in
      omega (arith, c, s)
  part_shape Chain same shape =
      let c = count_is in
      let w = cut.within in
      let s = cut.several in
      let fits = shape.0.fits in
      let head : along axis part.prec.head ≡ along axis edge.prec.head + from = rw same at cut.head in
      let tail : along axis part.prec.tail ≡ along axis edge.prec.tail - (count_along axis edge.dep - 1 - to) = rw same at cut.tail in
      (record { several = omega (arith, c, s); fits = omega (arith, c, w, s, fits, head, tail) }, beside_part fits head tail shape.1)

module _ (edge : EdgeValue) (is : IsEdge edge) (from to : ℕ) (order : from ≤ to) (within : to < run_length edge) where
  run_is : IsRange (part_of edge from to).dep
  run_is =
      let cut = run_cut edge is from to order within in
      let head = cut.head in
      let tail = cut.tail in
      let left = cut.left in
      let right = cut.right in
      let one = is.line in
      inner_range edge.dep (part_of edge from to).dep is.dep
      (is_in (axis_of edge.dep) _ edge.dep (record {
        from = omega (arith, head);
        to = omega (arith, head, order, within);
        left = omega (arith, left);
        right = omega (arith, left, one);
      }))
      (is_in (axis_of edge.dep) _ edge.dep (record {
        from = omega (arith, tail);
        to = omega (arith, tail, within);
        left = omega (arith, right, one);
        right = omega (arith, right);
      }))
      (is_ordered (axis_of edge.dep) _ (record { line = omega (arith, head, tail, order); width = omega (arith, left, right, one) }))

  prec_is : IsRange (part_of edge from to).prec
  prec_is =
      let cut = prec_cut edge is from to order within in
      let at = ordered (axis_of edge.dep) edge.prec is.prec.ordered in
      let b = bounds (axis_of edge.dep) edge.pattern edge from to refl is.shape at.line order within in
      let head = cut.head in
      let tail = cut.tail in
      let left = cut.left in
      let right = cut.right in
      let low = b.low in
      let mid = b.mid in
      let high = b.high in
      let wide = at.width in
      inner_range edge.prec (part_of edge from to).prec is.prec
      (is_in (axis_of edge.dep) _ edge.prec (record {
        from = omega (arith, head, low);
        to = omega (arith, head, mid, high);
        left = omega (arith, left);
        right = omega (arith, left, wide);
      }))
      (is_in (axis_of edge.dep) _ edge.prec (record {
        from = omega (arith, tail, low, mid);
        to = omega (arith, tail, high);
        left = omega (arith, right, wide);
        right = omega (arith, right);
      }))
      (is_ordered (axis_of edge.dep) _ (record { line = omega (arith, head, tail, mid); width = omega (arith, left, right, wide) }))

  line_is : (axis : Axis) → (axis ≡ axis_of edge.dep)
      ⊎ ((part_of edge from to).dep.head ≡ (part_of edge from to).dep.tail) → IsLine axis (part_of edge from to).dep
  line_is axis (inl same) = subst (λ (x : Axis). IsLine x (part_of edge from to).dep) (sym same) (part_line edge is from to order within)
  line_is axis (inr alone) = ap (across axis) alone

  cut_is : from < to → Cut (axis_of edge.dep) edge (part_of edge from to) from to
  cut_is several =
      let run = run_cut edge is from to order within in
      let prec = prec_cut edge is from to order within in
      record {
        several = several;
        within = within;
        run_head = run.head;
        run_tail = run.tail;
        left = run.left;
        right = run.right;
        head = prec.head;
        tail = prec.tail;
        prec_left = prec.left;
        prec_right = prec.right;
      }

  one_or_several : (test : Bool) → (from == to) ≡ test → (axis_of (part_of edge from to).dep ≡ axis_of edge.dep)
      ⊎ ((part_of edge from to).dep.head ≡ (part_of edge from to).dep.tail)
      → IsShapeOf (axis_of (part_of edge from to).dep) (part_of edge from to).pattern (part_of edge from to)
  one_or_several true same (inr alone) = rw same (count_one (axis_of (part_of edge from to).dep) (part_of edge from to).dep alone)
  one_or_several false differ (inr alone) =
      let one = count_one (axis_of edge.dep) (part_of edge from to).dep alone in
      let count = part_count edge is from to order within in
      let differs : ¬ (from ≡ to) = grind (arith, nat_tests) in
      absurd (differs (omega (arith, one, count, order)))
  one_or_several true same (inl axis) =
      let alike : from ≡ to = grind (arith, nat_tests) in
      let count = part_count edge is from to order within in
      let one : count_along (axis_of edge.dep) (part_of edge from to).dep ≡ 1 = omega (arith, count, alike) in
      rw same (subst (λ (x : Axis). count_along x (part_of edge from to).dep ≡ 1) (sym axis) one)
  one_or_several false differ (inl axis) =
      let several : from < to = grind (arith, nat_tests) in
      let shape = part_shape (axis_of edge.dep) edge (part_of edge from to) from to (cut_is several) edge.pattern refl is.shape in
      let pattern : (part_of edge from to).pattern ≡ edge.pattern = rw differ refl in
      subst (λ (p : Pattern). IsShapeOf (axis_of (part_of edge from to).dep) p (part_of edge from to)) (sym pattern)
      (subst (λ (x : Axis). IsShapeOf x edge.pattern (part_of edge from to)) (sym axis) shape)

  pub part_is_edge : IsEdge (part_of edge from to)
  part_is_edge =
      let which = line_or_cell (axis_of edge.dep) (part_of edge from to).dep (part_line edge is from to order within) in
      record {
        dep = run_is;
        prec = prec_is;
        line = line_is (axis_of (part_of edge from to).dep) which;
        shape = one_or_several (from == to) refl which;
      }
