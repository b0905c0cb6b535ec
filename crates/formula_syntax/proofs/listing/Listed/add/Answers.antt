use Rattle.std.proofs.Common.{◌≡◌, ◌∷◌, ◌++◌, ◌<◌, [], rules}
use Rattle.std.specs.List.{Contains}
use Rattle.formula_syntax.specs.Listing.{head_place}
use Rattle.formula_syntax.proofs.Listings.{add_known, add_new, far_apart}
use Rattle.formula_syntax.proofs.listing.Listed.add.Goals.{else-place-self-via-then-place-self+else-contains, else-place-self-via-else-place-self}
use Rattle.formula_syntax.proofs.listing.Listed.add.Goals as goal

pub returns-then-contains : goal.returns-then-contains
returns-then-contains c =
    let there : Contains c.args.self.now c.args.range = search rules in
    add_known c.args.self.now c.args.range there

pub returns : goal.returns
returns c =
    let new : ¬ Contains c.args.self.now c.args.range = elim c.else-place-self.branch [
      | else-place-self-via-then-place-self+else-contains w ↦ search rules
      | else-place-self-via-else-place-self w ↦
          let behind : c.self.inside.furthest < head_place c.args.range = search rules in
          rw (← c.self.view_is) (far_apart c.self.inside.ranges.items c.args.range c.self.inside.furthest c.self.invariant behind)
    ] in
    let items : c.push.new.self.items ≡ c.args.self.now ++ (c.args.range ∷ []) = search rules in
    add_new c.args.self.now c.push.new.self.items c.args.range new items
