use Rattle.edit_log.proofs.ListingLemmas.{first_cell}
use Rattle.edit_log.proofs.listing.list_all.Goals as goal

pub loop-row-init : goal.loop-row-init
loop-row-init c = first_cell c.args.sheet.now.contents c.args.sheet.now.sizes c.in_ok-listing.listing.ranges.items
    c.in_ok-listing.listing.bounds.items (c.in_ok-listing.ensures c.args.sheet.now.contents)
