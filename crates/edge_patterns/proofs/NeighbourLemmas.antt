-- The chains are the edges whose cells refer to their neighbours.
use Rattle.std.proofs.Common.{◌≡◌, ◌≢◌, ℕ, ◌+◌, ◌-◌, ◌<◌, ◌⊎◌, inl, inr, arith, refl, sym, ◌∙◌, ap, subst}
use Rattle.sheet_refs.specs.Cells.{Position, Corners}
use Rattle.edge_patterns.specs.declared.axis.Axis.{Axis}
use Rattle.edge_patterns.specs.declared.edge.Pattern.{Pattern}
use Rattle.edge_patterns.specs.declared.edge.Pattern.TheVariants.{Single, Rr, Rf, Fr, Ff, Chain}
use Rattle.edge_patterns.specs.Axes.{along, across, position_at, axis_of}
use Rattle.edge_patterns.specs.Edges.{EdgeValue, IsEdge, IsShapeOf, IsPair, run_length, run_cell, range_at, first_along, last_along}
use Rattle.edge_patterns.specs.Laws.{AllReferBefore, AllReferBehind}
use Rattle.edge_patterns.proofs.Crossings.{ordered, along_of, across_of, cell_again}
use Rattle.edge_patterns.proofs.EdgeLemmas.{spans}
use Rattle.edge_patterns.proofs.ChainLemmas.{IsChain, is_chain, prec_head, run_head}

same_corner : (axis : Axis) (a b : Position) → along axis a ≡ along axis b → across axis a ≡ across axis b → a ≡ b
same_corner axis a b line index =
    sym (cell_again axis a) ∙ ap (λ (k : ℕ). position_at axis k (across axis a)) line ∙ ap (position_at axis (along axis b)) index ∙ cell_again axis b

-- the range of a chain's cell is one cell of its line
record IsPoint (edge : EdgeValue) (index : ℕ) (range : Corners) : Type 0 where
  one : range.head ≡ range.tail
  at : along (axis_of edge.dep) range.head ≡ prec_head edge + index
  in_line : across (axis_of edge.dep) range.head ≡ across (axis_of edge.dep) edge.dep.head

chain_point : (edge : EdgeValue) → IsChain edge → (index : ℕ) → index < run_length edge → IsPoint edge index (range_at edge index)
chain_point edge chain index within =
    let axis = axis_of edge.dep in
    let range = spans axis edge index in
    let first : first_along axis edge index ≡ prec_head edge + index = rw chain.pattern refl in
    let last : last_along axis edge index ≡ prec_head edge + index = rw (chain.pattern, chain.last) (omega (arith, within)) in
    record {
      one = same_corner axis _ _ (range.head ∙ first ∙ sym last ∙ sym range.tail) (range.left ∙ chain.thin ∙ sym range.right);
      at = range.head ∙ first;
      in_line = range.left ∙ chain.line;
    }

cell_line : (edge : EdgeValue) (index : ℕ) → along (axis_of edge.dep) (run_cell edge index) ≡ run_head edge + index
cell_line edge index = along_of (axis_of edge.dep) _ _

cell_across : (edge : EdgeValue) (index : ℕ) → across (axis_of edge.dep) (run_cell edge index) ≡ across (axis_of edge.dep) edge.dep.head
cell_across edge index = across_of (axis_of edge.dep) _ _

pub chain_refers : (edge : EdgeValue) → IsEdge edge → edge.pattern ≡ Chain → AllReferBefore edge ⊎ AllReferBehind edge
chain_refers edge is same = either (is_chain edge is same).beside
  where
    either : (prec_head edge ≡ run_head edge + 1) ⊎ (prec_head edge + 1 ≡ run_head edge) → AllReferBefore edge ⊎ AllReferBehind edge
    either (inl behind) = inr (λ range cell pair.
        let point = subst (IsPoint edge pair.index) (sym pair.range_is) (chain_point edge (is_chain edge is same) pair.index pair.within) in
        let at = point.at in
        let line : along (axis_of edge.dep) cell ≡ run_head edge + pair.index = ap (along (axis_of edge.dep)) pair.cell_is ∙ cell_line edge pair.index in
        let index : across (axis_of edge.dep) cell ≡ across (axis_of edge.dep) edge.dep.head =
        ap (across (axis_of edge.dep)) pair.cell_is ∙ cell_across edge pair.index in
        (point.one, record { same_line = point.in_line ∙ sym index; one_on = omega (arith, at, line, behind) }))
    either (inr before) = inl (λ range cell pair.
        let point = subst (IsPoint edge pair.index) (sym pair.range_is) (chain_point edge (is_chain edge is same) pair.index pair.within) in
        let at = point.at in
        let line : along (axis_of edge.dep) cell ≡ run_head edge + pair.index = ap (along (axis_of edge.dep)) pair.cell_is ∙ cell_line edge pair.index in
        let index : across (axis_of edge.dep) cell ≡ across (axis_of edge.dep) edge.dep.head =
        ap (across (axis_of edge.dep)) pair.cell_is ∙ cell_across edge pair.index in
        (point.one, record { same_line = index ∙ sym point.in_line; one_on = omega (arith, at, line, before) }))

-- at a index the range is one cell, so many before the cell of the run or so many behind it
record Near (edge : EdgeValue) (before behind index : ℕ) : Type 0 where
  one : first_along (axis_of edge.dep) edge index ≡ last_along (axis_of edge.dep) edge index
  at : first_along (axis_of edge.dep) edge index + before ≡ run_head edge + index + behind
  left : across (axis_of edge.dep) edge.prec.head ≡ across (axis_of edge.dep) edge.dep.head
  right : across (axis_of edge.dep) edge.prec.tail ≡ across (axis_of edge.dep) edge.dep.head

pair_here : (edge : EdgeValue) (index : ℕ) → index < run_length edge → IsPair edge (range_at edge index) (run_cell edge index)
pair_here edge index within = record { index = index; within = within; cell_is = refl; range_is = refl }

-- a range of one cell in the line of the run
near_from : (edge : EdgeValue) (before behind index : ℕ) → (range_at edge index).head ≡ (range_at edge index).tail
    → along (axis_of edge.dep) (range_at edge index).head + before ≡ along (axis_of edge.dep)
    (run_cell edge index) + behind → across (axis_of edge.dep) (range_at edge index).head ≡ across (axis_of edge.dep)
    (run_cell edge index) → Near edge before behind index
near_from edge before behind index one at in_line =
    let axis = axis_of edge.dep in
    let range = spans axis edge index in
    let head = range.head in
    let line = cell_line edge index in
    record {
      one = sym range.head ∙ ap (along axis) one ∙ range.tail;
      at = omega (arith, at, head, line);
      left = sym range.left ∙ in_line ∙ cell_across edge index;
      right = sym range.right ∙ ap (across axis) (sym one) ∙ in_line ∙ cell_across edge index;
    }

near_before : (edge : EdgeValue) → AllReferBefore edge → (index : ℕ) → index < run_length edge → Near edge 1 0 index
near_before edge refers index within =
    let (one, next) = refers (range_at edge index) (run_cell edge index) (pair_here edge index within) in
    let step = next.one_on in
    near_from edge 1 0 index one (omega (arith, step)) (sym next.same_line)

near_behind : (edge : EdgeValue) → AllReferBehind edge → (index : ℕ) → index < run_length edge → Near edge 0 1 index
near_behind edge refers index within =
    let (one, next) = refers (range_at edge index) (run_cell edge index) (pair_here edge index within) in
    let step = next.one_on in
    near_from edge 0 1 index one (omega (arith, step)) next.same_line

-- an edge whose first and last ranges are such is a chain, as no other pattern's are
chain_of : (edge : EdgeValue) → IsEdge edge → (before behind : ℕ) → (before ≡ 1 × behind ≡ 0)
    ⊎ (before ≡ 0 × behind ≡ 1) → (pattern : Pattern) → edge.pattern ≡ pattern
    → IsShapeOf (axis_of edge.dep) pattern edge → pattern ≢ Single → Near edge before behind 0
    → Near edge before behind (run_length edge - 1) → pattern ≡ Chain
chain_of edge is before behind way Single same shape several first last = absurd (several refl)
chain_of edge is before behind way Rf same shape several first last =
    let fits = shape.fits in
    let two = shape.several in
    let one = rw same at first.one in
    absurd (omega (arith, fits, two, one))
chain_of edge is before behind way Fr same shape several first last =
    let fits = shape.fits in
    let two = shape.several in
    let one = rw same at last.one in
    absurd (omega (arith, fits, two, one))
chain_of edge is before behind way Ff same shape several first last =
    let at_first = rw same at first.at in
    let at_last = rw same at last.at in
    absurd (omega (arith, shape, at_first, at_last))
chain_of edge is before behind way Rr same shape several first last =
    let axis = axis_of edge.dep in
    let fits = shape.0.fits in
    let one = rw same at first.one in
    let at = rw same at first.at in
    let run = ordered axis edge.dep is.dep.ordered in
    let line = run.line in
    absurd (shape.1 (record {
      head = first.left;
      tail = first.right ∙ is.line;
      moved = moved way;
    }))
  where
    moved : (before ≡ 1 × behind ≡ 0) ⊎ (before ≡ 0 × behind ≡ 1)
        → ((along (axis_of edge.dep) edge.prec.head ≡ along (axis_of edge.dep) edge.dep.head + 1)
        × (along (axis_of edge.dep) edge.prec.tail ≡ along (axis_of edge.dep) edge.dep.tail + 1))
        ⊎ ((along (axis_of edge.dep) edge.prec.head + 1 ≡ along (axis_of edge.dep) edge.dep.head)
        × (along (axis_of edge.dep) edge.prec.tail + 1 ≡ along (axis_of edge.dep) edge.dep.tail))
    moved (inl (b, h)) =
        let fits = shape.0.fits in
        let two = shape.0.several in
        let one = rw same at first.one in
        let at = rw same at first.at in
        inr (omega (arith, b, h, at), omega (arith, b, h, at, one, fits, two))
    moved (inr (b, h)) =
        let fits = shape.0.fits in
        let two = shape.0.several in
        let one = rw same at first.one in
        let at = rw same at first.at in
        inl (omega (arith, b, h, at), omega (arith, b, h, at, one, fits, two))
chain_of edge is before behind way Chain same shape several first last = refl

pub refers_chain : (edge : EdgeValue) → IsEdge edge → edge.pattern ≢ Single → AllReferBefore edge ⊎ AllReferBehind edge → edge.pattern ≡ Chain
refers_chain edge is several (inl refers) =
    let run = ordered (axis_of edge.dep) edge.dep is.dep.ordered in
    let line = run.line in
    chain_of edge is 1 0 (inl (refl, refl)) edge.pattern refl is.shape several
    (near_before edge refers 0 (omega (arith, line))) (near_before edge refers (run_length edge - 1)
    (omega (arith, line)))
refers_chain edge is several (inr refers) =
    let run = ordered (axis_of edge.dep) edge.dep is.dep.ordered in
    let line = run.line in
    chain_of edge is 0 1 (inr (refl, refl)) edge.pattern refl is.shape several
    (near_behind edge refers 0 (omega (arith, line))) (near_behind edge refers (run_length edge - 1)
    (omega (arith, line)))
