use Rattle.std.proofs.Common.{◌≡◌, ◌++◌, List, ap, ◌∙◌, rules}
use Rattle.sheet_refs.specs.Cells.{Corners}
use Rattle.edit_log.proofs.ListingLemmas.{longer}
use Rattle.edit_log.proofs.listing.Listing.add.Goals as goal

pub returns : goal.returns
returns c contents count listed once =
    let ranges : c.extend_from_slice.new.self.items ≡ c.args.self.now.ranges.items ++ c.args.refs.now =
    c.in_ok-extend_from_slice.ensures.items ∙ ap (λ (l : List Corners). c.args.self.now.ranges.items ++ l) c.ranges-2.ensures.ranges in
    longer contents count c.args.self.now.ranges.items c.args.refs.now c.extend_from_slice.new.self.items c.args.self.now.bounds.items
    c.push.new.self.items c.len.result listed once c.ranges-2.ensures.distinct_and_few ranges (search rules) c.in_ok-push.ensures.items
