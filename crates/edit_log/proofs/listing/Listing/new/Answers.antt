use Rattle.std.proofs.Common.{rules}
use Rattle.edit_log.proofs.ListingLemmas.{none_listed}
use Rattle.edit_log.proofs.listing.Listing.new.Goals as goal

pub returns : goal.returns
returns c contents = none_listed contents c.new.result.items c.push.new.self.items (search rules) (search rules)
