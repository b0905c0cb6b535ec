use Rattle.std.proofs.Common.{List, sym, subst}
use Rattle.mark_core.specs.Marks.{IsPrefix}
use Rattle.mark_words.specs.Tokens.{log_of}
use Rattle.sheet_model.specs.Sheets.{SheetValue}
use Rattle.sheet_model.specs.declared.entry.Entry.{Entry}
use Rattle.live_sheet.specs.Stored.{AreStored}
use Rattle.live_sheet.proofs.StoreLemmas.{stored_on}
use Rattle.live_sheet.proofs.store.Store.stock.Goals as goal

pub put_from-requires-clause-slots : goal.put_from-requires-clause-slots
put_from-requires-clause-slots g c =
    let goes_on : IsPrefix (log_of c.self.inside.seat) c.args.book.now.log =
    subst (λ (l : List Entry). IsPrefix (log_of c.self.inside.seat) l) c.requires.editor.log_is c.hear.ensures.heard.other_log in
    stored_on c.args.book.now.opening (log_of c.self.inside.seat) c.args.book.now.log c.self.inside.slots.items goes_on
    (subst (λ (o : SheetValue). AreStored o (log_of c.self.inside.seat) c.self.inside.slots.items) (sym c.requires.opening) c.self.invariant.each)
