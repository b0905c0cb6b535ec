use Rattle.std.proofs.Common.{rules, List, ◌++◌, append_assoc}
use Rattle.std.specs.Option.{option_to_list}
use Rattle.sheet_refs.specs.Cells.{Corners}
use Rattle.sheet_refs.specs.Rectangles.{Tile, IsLeft}
use Rattle.sheet_refs.proofs.Subtraction.{subtract_tiles, between_same, IsAbove, IsBelow, IsBefore, IsAfter}
use Rattle.sheet_refs.proofs.range.Range.subtract.Goals as goal

pub returns-clause-left : goal.returns-clause-left
returns-clause-left c =
    let range : Corners = c.args.self.now in
    let middle : Corners = c.in-Some.middle in
    let above : List Corners = option_to_list c.area.result in
    let below : List Corners = option_to_list c.area-2.result in
    let before : List Corners = option_to_list c.area-3.result in
    let after : List Corners = option_to_list c.area-4.result in
    let above_tiled : Tile above (IsAbove range middle) = between_same above (search rules) (search rules) (search rules) (search rules) c.area.ensures in
    let below_tiled : Tile below (IsBelow range middle) = between_same below (search rules) (search rules) (search rules) (search rules) c.area-2.ensures in
    let before_tiled : Tile before (IsBefore range middle) = between_same before (search rules) (search rules) (search rules) (search rules) c.area-3.ensures in
    let after_tiled : Tile after (IsAfter range middle) = between_same after (search rules) (search rules) (search rules) (search rules) c.area-4.ensures in
    let tiled : Tile (above ++ (below ++ (before ++ after))) (IsLeft range c.args.other.now) =
    subtract_tiles range c.args.other.now middle above below before after c.in-Some.ensures.shared (search rules)
    above_tiled below_tiled before_tiled after_tiled in
    rw (c.push-5.ensures, c.push-4.ensures, c.push-3.ensures, c.push-2.ensures, c.none-pieces.ensures) (simp append_assoc tiled)
