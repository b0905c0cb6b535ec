use Rattle.std.proofs.Common.{◌≡◌, arith, ap, subst}
use Rattle.std.proofs.lemmas.List.{take_all}
use Rattle.graph_walk.specs.Graphs.{Replaces}
use Rattle.sheet_refs.specs.Cells.{Position}
use Rattle.sheet_model.specs.Changes.{ChangeValue}
use Rattle.sheet_model.specs.Edits.{EditValue, after_edit}
use Rattle.edit_log.specs.Pairs.{ArePairsOf}
use Rattle.edit_log.proofs.ReplaceLemmas.{refs_at, refs_length, replaced_more}
use Rattle.edit_log.proofs.replacing.replace_all.Goals as goal

pub bounds-refs-place : goal.bounds-refs-place
bounds-refs-place g c =
    let count = refs_length c.args.changes.now c.args.refs.now c.requires.whole in
    omega (arith, count, c.loop-place-test.true)

pub loop-place-preserved : goal.loop-place-preserved
loop-place-preserved g c =
    let left = c.loop-place.invariant.0 in
    let room = c.replace.ensures.room in
    let cell : c.change.inside.cell ≡ c.index-changes-place.result.cell = ap (λ (x : ChangeValue). x.cell) c.change.view_is in
    let replaced : Replaces (g.G.Graph.pairs c.loop-place.graph) (g.G.Graph.pairs c.replace.new.self)
    c.index-changes-place.result.cell c.index-refs-place.result =
    subst (λ (p : Position). Replaces (g.G.Graph.pairs c.loop-place.graph) (g.G.Graph.pairs c.replace.new.self) p
    c.index-refs-place.result) cell c.replace.ensures.replaced in (
      omega (arith, left, room),
      replaced_more c.args.changes.now (g.G.Graph.pairs c.args.graph.now) (g.G.Graph.pairs c.loop-place.graph)
          (g.G.Graph.pairs c.replace.new.self) c.loop-place.place c.index-changes-place.result c.index-refs-place.result
          c.loop-place-test.true c.index-changes-place.is
          (refs_at c.args.changes.now c.args.refs.now c.loop-place.place c.index-changes-place.result
          c.index-refs-place.result c.requires.whole c.loop-place-test.true c.index-changes-place.is
          c.index-refs-place.is)
          c.loop-place.invariant.1 replaced,
    )

pub returns : goal.returns
returns g c = λ sheet filled inside are.
    subst (λ (cs : EditValue). ArePairsOf (after_edit sheet cs) (g.G.Graph.pairs c.loop-place.graph))
    (take_all c.loop-place.place c.args.changes.now c.loop-place-test.false)
    (c.loop-place.invariant.1 sheet filled inside are)
