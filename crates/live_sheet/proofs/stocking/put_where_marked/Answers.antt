use Rattle.live_sheet.proofs.stocking.put_where_marked.Goals as goal

pub returns-clause-slots : goal.returns-clause-slots
returns-clause-slots c = c.put.ensures c.args.book.now.opening c.args.book.now.log c.requires.slots c.in_ok-stored_of.ensures
