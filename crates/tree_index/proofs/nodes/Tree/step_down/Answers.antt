use Rattle.std.proofs.Common.{◌≡◌, Some, refl, sym, ◌∙◌, ap}
use Rattle.range_index.specs.Entries.{entry_of}
use Rattle.tree_index.specs.Changes.{child_of}
use Rattle.tree_index.proofs.DownLemmas.{admits_below, admits_child, place_below, room_at, widened}
use Rattle.tree_index.proofs.WayLemmas.{rearranged_on}
use Rattle.tree_index.proofs.nodes.Tree.step_down.Goals as goal

child_is : (c : goal.After-set_range) → child_of c.place_with_room.new.self c.args.key c.in-Some.place ≡ Some (entry_of c.child.inside.id c.child.inside.range)
child_is c = sym c.child_at.ensures ∙ c.in-Some-child_at.is ∙ ap Some (sym c.child.view_is)

pub returns-clause-rest : goal.returns-clause-rest
returns-clause-rest c =
    rearranged_on c.args.self.now c.place_with_room.new.self c.set_range.new.self c.place_with_room.ensures.rest
    (widened c.place_with_room.new.self c.set_range.new.self c.args.key c.in-Some.place c.args.range c.span.result
    c.place_with_room.ensures.rest.tree (c.place_with_room.ensures.level c.requires.inner)
    c.place_with_room.ensures.admits
    (entry_of c.child.inside.id c.child.inside.range) (child_is c) c.set_range.ensures c.span.ensures.first c.span.ensures.second c.span.ensures.least)

pub returns-clause-place : goal.returns-clause-place
returns-clause-place c =
    place_below c.place_with_room.new.self c.set_range.new.self c.args.key c.in-Some.place c.args.range c.span.result
    c.place_with_room.ensures.rest.tree (c.place_with_room.ensures.level c.requires.inner)
    c.place_with_room.ensures.admits
    (entry_of c.child.inside.id c.child.inside.range) (child_is c) c.set_range.ensures c.span.ensures.first
    c.span.ensures.second c.span.ensures.least c.in-Some.ensures.below

pub returns-clause-admits : goal.returns-clause-admits
returns-clause-admits c =
    admits_below c.place_with_room.new.self c.set_range.new.self c.args.key c.in-Some.place c.args.range c.span.result
    c.place_with_room.ensures.rest.tree (c.place_with_room.ensures.level c.requires.inner)
    c.place_with_room.ensures.admits
    (entry_of c.child.inside.id c.child.inside.range) (child_is c) c.set_range.ensures c.span.ensures.first c.span.ensures.second c.span.ensures.least

pub returns-then-covers-clause-place : goal.returns-then-covers-clause-place
returns-then-covers-clause-place c =
    room_at c.place_with_room.new.self c.args.key c.in-Some.place (entry_of c.child.inside.id c.child.inside.range)
    (sym c.child_at.ensures ∙ c.in-Some-child_at.is ∙ ap Some (sym c.child.view_is)) c.in-Some.ensures.below

pub returns-then-covers-clause-admits : goal.returns-then-covers-clause-admits
returns-then-covers-clause-admits c =
    admits_child c.place_with_room.new.self c.args.key c.in-Some.place c.args.range (entry_of c.child.inside.id c.child.inside.range)
    c.place_with_room.ensures.rest.tree (c.place_with_room.ensures.level c.requires.inner)
    (sym c.child_at.ensures ∙ c.in-Some-child_at.is ∙ ap Some (sym c.child.view_is)) (c.if-covers.ensures.0 refl)
