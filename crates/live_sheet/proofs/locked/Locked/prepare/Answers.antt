-- The sheet has the sizes and the labels of the opening sheet.
use Rattle.std.proofs.Common.{ℕ, sym, subst}
use Rattle.sheet_model.specs.Edits.{HaveLabels}
use Rattle.live_sheet.proofs.CauseLemmas.{sizes_now, labels_now, outside_of, why_of}
use Rattle.live_sheet.proofs.locked.Locked.prepare.Goals as goal

pub prepare-requires : goal.prepare-requires
prepare-requires g c =
    let me = c.args.self.now in
    subst (λ (n : ℕ). HaveLabels n c.args.edit)
    (sym (labels_now g.N.Naming.opening me.book.opening me.book.sheet me.book.log c.length.ensures.kept.replayed
    me.opening)) c.requires.labels

pub returns-clause-out_of_sheet : goal.returns-clause-out_of_sheet
returns-clause-out_of_sheet g c = λ cell outside.
    let me = c.args.self.now in
    c.prepare.ensures.out_of_sheet cell (outside_of g.N.Naming.opening me.book.sheet c.args.edit cell
    (sym (sizes_now g.N.Naming.opening me.book.opening me.book.sheet me.book.log c.length.ensures.kept.replayed
    me.opening)) outside)

pub returns-clause-why : goal.returns-clause-why
returns-clause-why g c =
    let me = c.args.self.now in
    why_of me.book.sheet g.N.Naming.opening me.book.log c.prepare.new.self.log c.args.edit c.prepare.result
    (sizes_now g.N.Naming.opening me.book.opening me.book.sheet me.book.log c.length.ensures.kept.replayed me.opening)
    (sym c.prepare.ensures.same.log) c.prepare.ensures.why
