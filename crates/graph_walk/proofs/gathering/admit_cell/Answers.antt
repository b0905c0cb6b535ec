use Rattle.std.proofs.Common.{◌≡◌, true}
use Rattle.sheet_refs.specs.Cells.{IsNamed}
use Rattle.sheet_refs.specs.Rectangles.{IsAmong}
use Rattle.graph_walk.proofs.GatherLemmas.{one_is_there, one_is_new}
use Rattle.graph_walk.proofs.gathering.admit_cell.Goals as goal

pub returns-then-contains : goal.returns-then-contains
returns-then-contains c =
    let head : c.head-cell.result ≡ c.args.range.head = c.head-cell.ensures.head in
    let there : IsAmong c.args.set.now c.args.range.head = rw (← head) (c.contains.ensures.0 c.if-contains.true) in
    one_is_there c.args.set.now c.args.waiting.now.items c.args.range c.requires there

pub returns : goal.returns
returns c =
    let head : c.head-cell.result ≡ c.args.range.head = c.head-cell.ensures.head in
    let named : IsNamed c.args.range.head.row c.args.range.head.col = rw (← head) c.row-row.ensures.named in
    let absent : IsAmong c.args.set.now c.args.range.head → ⊥ = λ among.
    absurd (let there : c.contains.result ≡ true = c.contains.ensures.1 (rw head among) in cc (there, c.if-contains.false))
    in
    one_is_new c.args.set.now c.add.new.self c.args.waiting.now.items c.push.new.self.items c.args.range absent
    c.head-cell.ensures.ordered named c.in_ok-add.ensures.joined c.in_ok-push.ensures.items
