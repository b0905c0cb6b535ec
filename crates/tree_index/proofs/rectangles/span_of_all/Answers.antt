use Rattle.std.proofs.Common.{◌≡◌, ◌+◌, ◌++◌, ◌∷◌, [], ℕ, List, take, Some, arith, rules, sym, ◌∙◌, ap, subst}
use Rattle.std.specs.List.{Contains, slice_get}
use Rattle.std.proofs.lemmas.List.{take_all, take_more}
use Rattle.std.proofs.lemmas.List.Elements.{Contains-get_or}
use Rattle.sheet_refs.specs.Cells.{Corners}
use Rattle.range_index.specs.Entries.{Entry}
use Rattle.tree_index.specs.Rectangles.{Covers, CoverAll}
use Rattle.tree_index.proofs.ChildLemmas.{listed_at}
use Rattle.tree_index.proofs.RectangleLemmas.{covers_pushed}
use Rattle.tree_index.proofs.rectangles.span_of_all.Goals as goal

pub loop-item-preserved : goal.loop-item-preserved
loop-item-preserved c =
    let items : List Entry = c.args.items.now in
    let place : ℕ = c.loop-item.item-index in
    let entry : Entry = c.item-item.result in
    let before : List Entry = take place items in
    let next : take (place + 1) items ≡ before ++ entry ∷ [] = take_more items place entry c.loop-item-test.true
    ∙ ap (λ (e : Entry). before ++ e ∷ []) (sym c.item-item.is) in
    let range : c.item.inside.range ≡ entry.range = ap (λ (e : Entry). e.range) c.item.view_is in
    let listed : Contains items entry = subst (λ (e : Entry). Contains items e) (sym c.item-item.is)
    (Contains-get_or items place entry c.loop-item-test.true) in (
      subst (λ (l : List Entry). CoverAll c.span-whole.result l) (sym next)
          (covers_pushed before entry c.loop-item.whole c.span-whole.result c.span-whole.ensures.first
          (subst (λ (r : Corners). Covers c.span-whole.result r) range c.span-whole.ensures.second)
          c.loop-item.invariant.0),
      λ outer covers. c.span-whole.ensures.least outer (c.loop-item.invariant.1 outer covers)
          (subst (λ (r : Corners). Covers outer r) (sym range) (covers entry listed)),
    )

pub loop-item-init : goal.loop-item-init
loop-item-init c =
    let here : slice_get c.args.items.now 0 ≡ Some c.in-Some.first.now = search rules in
    let range : c.first-2.inside.range ≡ c.in-Some.first.now.range = ap (λ (e : Entry). e.range) c.first-2.view_is in (
      λ e listed. absurd (omega (arith, listed.1)),
      λ outer covers. subst (λ (r : Corners). Covers outer r) (sym range) (covers c.in-Some.first.now (listed_at c.args.items.now 0 c.in-Some.first.now here)),
    )

pub returns-clause-covers : goal.returns-clause-covers
returns-clause-covers c =
    let all : take c.loop-item.item-index c.args.items.now ≡ c.args.items.now = take_all c.loop-item.item-index c.args.items.now c.loop-item-test.false in
    subst (λ (l : List Entry). CoverAll c.loop-item.whole l) all c.loop-item.invariant.0
