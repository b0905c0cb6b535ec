use Rattle.std.proofs.Common.{◌≤◌, ◌++◌, ◌∷◌, [], length, arith, length-append}
use Rattle.sheet_model.specs.Parts.{LooksOn}
use Rattle.sheet_model.specs.Words.{states_of}
use Rattle.sheet_model.proofs.LookLemmas.{looks_past, looks_stop, stop_at}
use Rattle.sheet_model.proofs.words.look.Goals as goal
use Rattle.sheet_model.proofs.words.look.Goals.{After-first_stop-next}

-- what is left before the look at the last part
looks : (c : After-first_stop-next) → LooksOn c.args.sizes (states_of c.args.words.now) c.args.parts.now.items (c.pop.new.self.items ++ c.in-Some.part ∷ [])
looks c = rw c.in-Some.ensures.items at c.loop-sizes.invariant

pub returns-then-next-cells-clause-looks : goal.returns-then-next-cells-clause-looks
returns-then-next-cells-clause-looks c =
    rw c.push_reserved.ensures.items
    (looks_stop c.args.sizes (states_of c.args.words.now) c.args.parts.now.items c.pop.new.self.items c.in-Some.part
    (looks (goal.at.returns-then-next-cells-clause-looks c).After-first_stop-next) c.first_stop-next.result
    c.first_stop-next.ensures.part)

pub returns-then-next-cells-clause-stop : goal.returns-then-next-cells-clause-stop
returns-then-next-cells-clause-stop c =
    let more = length-append c.pop.new.self.items (c.in-Some.part ∷ []) in
    let items = c.in-Some.ensures.items in
    let below : c.args.first ≤ length c.pop.new.self.items = omega (arith, c.loop-sizes-test.true, c.len.ensures, c.in-Some.ensures.len) in
    rw c.push_reserved.ensures.items
    (stop_at c.args.sizes (states_of c.args.words.now) c.args.parts.now.items c.pop.new.self.items c.in-Some.part
    (looks (goal.at.returns-then-next-cells-clause-stop c).After-first_stop-next) c.args.first
    c.first_stop-next.result c.cell_at.result below c.cell_at.ensures.listed c.cell_at.ensures.inside
    c.first_stop-next.ensures.stop)

pub loop-sizes-preserved : goal.loop-sizes-preserved
loop-sizes-preserved c =
    looks_past c.args.sizes (states_of c.args.words.now) c.args.parts.now.items c.pop.new.self.items c.in-Some.part
    (looks (goal.at.loop-sizes-preserved c).After-first_stop-next) c.first_stop-next.result
    c.first_stop-next.ensures.part (omega (arith, c.if-next-cells.false, c.cells.ensures.count))
    c.cells.ensures.listed
