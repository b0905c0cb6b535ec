use Rattle.sheet_refs.specs.Sizes.{place_of}
use Rattle.edit_log.specs.Listings.{ListsFirst}
use Rattle.edit_log.proofs.listing.list_row.Given as goal

abbrev pub invariant-loop-col : goal.invariant-loop-col
invariant-loop-col l = ListsFirst l.sheet (place_of l.sheet.sizes (record { row = l.row; col = l.col })) l.listing
