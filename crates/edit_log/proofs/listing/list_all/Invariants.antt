use Rattle.sheet_refs.specs.Sizes.{place_of}
use Rattle.edit_log.specs.Listings.{ListsFirst}
use Rattle.edit_log.proofs.listing.list_all.Given as goal

abbrev pub invariant-loop-row : goal.invariant-loop-row
invariant-loop-row l = ListsFirst l.sheet (place_of l.sheet.sizes (record { row = l.row; col = 1 })) l.listing
