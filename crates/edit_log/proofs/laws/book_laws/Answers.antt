use Rattle.edit_log.proofs.BookLemmas.{earlier_sheets, edits_log}
use Rattle.edit_log.proofs.laws.book_laws.Goals as goal

pub returns : goal.returns
returns g c = record { earlier = earlier_sheets; edits = edits_log }
