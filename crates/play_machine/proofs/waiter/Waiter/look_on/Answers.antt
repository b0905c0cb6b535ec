use Rattle.std.proofs.Common.{◌≡◌, ◌<◌, ◌≤◌, List, length, get_or, refl, subst}
use Rattle.sheet_refs.specs.Cells.{Corners}
use Rattle.sheet_refs.specs.declared.sizes.Sizes.{Sizes}
use Rattle.play_machine.specs.Marking.{HasNoMark}
use Rattle.play_machine.specs.Waiting.{HasNoMarkedInput, IsMarkedInput, IsNextMarked}
use Rattle.play_machine.proofs.WaiterLemmas.{found_input, looked_at_all, looked_more, stops}
use Rattle.play_machine.proofs.waiter.Waiter.look_on.Goals as goal

pub returns-in-Some-clause-found : goal.returns-in-Some-clause-found
returns-in-Some-clause-found c =
    let below = subst (λ (r : List Corners). c.loop-self.self.range < length r) c.ranges-in-loop-self.ensures.ranges c.loop-self-test.true in
    let here =
    subst (λ (r : List Corners). c.index-ranges-self.result ≡ get_or r c.loop-self.self.range
    c.index-ranges-self.result) c.ranges-in-loop-self-2.ensures.ranges c.index-ranges-self.is in
    let found = subst (λ (s : Sizes). IsNextMarked s c.args.marks.now c.index-ranges-self.result c.in-Some.found)
    c.sizes-sizes.ensures.sizes c.in-Some.ensures in
    subst (λ cell. IsMarkedInput c.args.sheet.now c.args.marks.now cell c.in-Some.found.1) c.loop-self.invariant.1
    (found_input c.args.sheet.now c.args.marks.now c.loop-self.self c.loop-self.invariant.0 c.index-ranges-self.result
    c.in-Some.found.0 c.in-Some.found.1 below here found)

pub returns-in-Some-clause-waiter : goal.returns-in-Some-clause-waiter
returns-in-Some-clause-waiter c =
    let below = subst (λ (r : List Corners). c.loop-self.self.range < length r) c.ranges-in-loop-self.ensures.ranges c.loop-self-test.true in
    let here =
    subst (λ (r : List Corners). c.index-ranges-self.result ≡ get_or r c.loop-self.self.range
    c.index-ranges-self.result) c.ranges-in-loop-self-2.ensures.ranges c.index-ranges-self.is in
    let found = subst (λ (s : Sizes). IsNextMarked s c.args.marks.now c.index-ranges-self.result c.in-Some.found)
    c.sizes-sizes.ensures.sizes c.in-Some.ensures in
    stops c.args.sheet.now c.args.marks.now c.loop-self.self c.loop-self.invariant.0 c.index-ranges-self.result
    c.in-Some.found.0 c.in-Some.found.1 _ below here found refl refl refl refl

pub loop-self-preserved : goal.loop-self-preserved
loop-self-preserved c =
    let below = subst (λ (r : List Corners). c.loop-self.self.range < length r) c.ranges-in-loop-self.ensures.ranges c.loop-self-test.true in
    let here =
    subst (λ (r : List Corners). c.index-ranges-self.result ≡ get_or r c.loop-self.self.range
    c.index-ranges-self.result) c.ranges-in-loop-self-2.ensures.ranges c.index-ranges-self.is in
    let none = subst (λ (s : Sizes). HasNoMark s c.args.marks.now c.index-ranges-self.result) c.sizes-sizes.ensures.sizes c.in_default.ensures in (
      looked_more c.args.sheet.now c.args.marks.now c.loop-self.self c.loop-self.invariant.0 c.index-ranges-self.result _
          below here none refl refl refl refl,
      c.loop-self.invariant.1,
      c.loop-self.invariant.2,
    )

pub returns-clause-found : goal.returns-clause-found
returns-clause-found c =
    let past = subst (λ (r : List Corners). length r ≤ c.loop-self.self.range) c.ranges-in-loop-self.ensures.ranges c.loop-self-test.false in
    subst (λ cell. HasNoMarkedInput c.args.sheet.now c.args.marks.now cell) c.loop-self.invariant.1
    (looked_at_all c.args.sheet.now c.args.marks.now c.loop-self.self c.loop-self.invariant.0 past)
