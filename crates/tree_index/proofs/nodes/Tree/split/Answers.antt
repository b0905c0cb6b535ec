use Rattle.std.proofs.Common.{◌≡◌, ◌≢◌, ◌≤◌, ℕ, List, length, Some, sym, ◌∙◌, ap, arith, rules}
use Rattle.range_index.specs.Entries.{Entry}
use Rattle.tree_index.specs.Trees.{Node}
use Rattle.tree_index.specs.Indexes.{node_at}
use Rattle.tree_index.proofs.SplitLemmas.{above_no_to, child_is, may_share, no_above}
use Rattle.tree_index.proofs.WayLemmas.{kept_on, rearranged_on}
use Rattle.tree_index.proofs.nodes.Tree.split.Goals as goal

pub share_out-requires-clause-may : goal.share_out-requires-clause-may
share_out-requires-clause-may c =
    let old = c.args.self.now in
    let b = c.in-Some-make_beside.ensures.beside in
    let node : Node = c.in-Some-get.node.now in
    let there : node_at c.args.self.now c.child.inside.id ≡ Some node = search rules in
    let level : node.level ≡ c.node.inside.level = ap (λ (n : Node). n.level) (sym c.node.view_is) in
    let children : node.children ≡ c.node.inside.children.items = ap (λ (n : Node). n.children) (sym c.node.view_is) in
    let fits : length c.as_slice.result.now ≤ 16 = c.as_slice.ensures.fits in
    let few : length node.children ≤ 16 = omega (arith, fits, ap (λ (l : List Entry). length l) (children ∙ sym c.as_slice.ensures.value)) in
    let is : c.in-Some.child ≡ b.child = child_is c.args.self.now c.make_beside.new.self c.args.above c.args.place
    c.in-Some-make_beside.to c.requires.tree b c.in-Some.child (sym c.child_at.ensures ∙ c.in-Some.is) in
    let from : c.child.inside.id ≡ b.child.id = ap (λ (e : Entry). e.id) (c.child.view_is ∙ is) in
    may_share c.args.self.now c.make_beside.new.self c.args.above c.args.place c.in-Some-make_beside.to c.requires.tree
    b node c.child.inside.id c.node.inside.level from there level few

pub returns-clause-rest : goal.returns-clause-rest
returns-clause-rest c =
    rearranged_on c.args.self.now c.tighten.new.self c.tighten-2.new.self
    (rearranged_on c.args.self.now c.share_out.new.self c.tighten.new.self
    (rearranged_on c.args.self.now c.make_beside.new.self c.share_out.new.self c.make_beside.ensures.rest
    c.share_out.ensures.rest) c.tighten.ensures.rest) c.tighten-2.ensures.rest

pub returns-clause-above : goal.returns-clause-above
returns-clause-above c =
    let b = c.in-Some-make_beside.ensures.beside in
    let above : ℕ = c.args.above in
    let is : c.in-Some.child ≡ b.child = child_is c.args.self.now c.make_beside.new.self c.args.above c.args.place
    c.in-Some-make_beside.to c.requires.tree b c.in-Some.child (sym c.child_at.ensures ∙ c.in-Some.is) in
    let from : c.child.inside.id ≡ b.child.id = ap (λ (e : Entry). e.id) (c.child.view_is ∙ is) in
    let no_from : above ≢ c.child.inside.id = λ same. no_above c.args.self.now c.make_beside.new.self c.args.above
    c.args.place c.in-Some-make_beside.to c.requires.tree b (sym from ∙ sym same) in
    let no_to : above ≢ c.in-Some-make_beside.to = above_no_to c.args.self.now c.make_beside.new.self c.args.above
    c.args.place c.in-Some-make_beside.to c.requires.tree b in
    kept_on c.args.self.now c.tighten.new.self c.tighten-2.new.self above
    (kept_on c.args.self.now c.share_out.new.self c.tighten.new.self above
    (kept_on c.args.self.now c.make_beside.new.self c.share_out.new.self above c.make_beside.ensures.above
    (c.share_out.ensures.nodes above)) (c.tighten.ensures.nodes above no_from))
    (c.tighten-2.ensures.nodes above no_to)
