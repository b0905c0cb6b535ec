use Rattle.std.proofs.Common.{◌≡◌, ◌∷◌, arith, rules, length}
use Rattle.std.proofs.lemmas.Grind.{common_steps}
use Rattle.formula_syntax.specs.Tree.{tree_of, references_of}
use Rattle.formula_syntax.proofs.Listings.{listing_starts, listing_step, step_fewer, listing_goes, goes_fewer}
use Rattle.formula_syntax.proofs.listing.list_ranges.Goals as goal

pub loop-first-init : goal.loop-first-init
loop-first-init c =
    rw c.new-listed.ensures (listing_starts c.args.root.now c.alone-nodes.result.now c.new-left.result.items c.alone-nodes.ensures c.new-left.ensures.items)

pub loop-first-smaller-in-Some : goal.loop-first-smaller-in-Some
loop-first-smaller-in-Some c =
    let split : c.loop-first.nodes.now ≡ c.in-Some.first.now ∷ c.in-Some.beside.now = search rules in
    step_fewer (references_of (tree_of c.args.root.now)) c.in-Some.first.now c.loop-first.nodes.now c.in-Some.beside.now c.loop-first.left.items
    c.visit.new.left.items c.in_ok-nodes.nodes c.loop-first.listed c.visit.new.listed split c.in_ok-nodes.ensures

pub loop-first-preserved-in-Some : goal.loop-first-preserved-in-Some
loop-first-preserved-in-Some c =
    let split : c.loop-first.nodes.now ≡ c.in-Some.first.now ∷ c.in-Some.beside.now = search rules in
    listing_step (references_of (tree_of c.args.root.now)) c.in-Some.first.now c.loop-first.nodes.now c.in-Some.beside.now c.loop-first.left.items
    c.visit.new.left.items c.in_ok-nodes.nodes c.loop-first.listed c.visit.new.listed split c.in_ok-nodes.ensures c.loop-first.invariant

pub loop-first-smaller : goal.loop-first-smaller
loop-first-smaller c =
    goes_fewer c.loop-first.left.items c.pop.new.self.items c.loop-first.nodes.now c.in-Some-pop.next c.in-Some-pop.ensures.items

pub loop-first-preserved : goal.loop-first-preserved
loop-first-preserved c =
    let none : length c.loop-first.nodes.now ≡ 0 = grind (arith, common_steps) in
    listing_goes (references_of (tree_of c.args.root.now)) c.loop-first.left.items c.pop.new.self.items c.loop-first.nodes.now c.in-Some-pop.next
    c.loop-first.listed c.in-Some-pop.ensures.items none c.loop-first.invariant
