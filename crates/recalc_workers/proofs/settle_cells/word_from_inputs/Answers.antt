use Rattle.std.proofs.Common.{IsTrue, refl, ◌∙◌, ap, subst}
use Rattle.sheet_refs.specs.Sizes.{is_inside, place_of}
use Rattle.sheet_refs.specs.declared.sizes.Sizes.{Sizes}
use Rattle.mark_words.specs.Tokens.{subject_of, log_of}
use Rattle.sheet_model.specs.Sheets.{SheetValue, IsSheet, content_of, content_value}
use Rattle.recalc_workers.specs.Desks.{seat_of}
use Rattle.recalc_workers.proofs.SettlingLemmas.{reads_worked}
use Rattle.recalc_workers.proofs.WorthLemmas.{listed_codes, listed_words, listed_worth}
use Rattle.recalc_workers.proofs.settle_cells.word_from_inputs.Goals as goal

pub returns-in_err-read_all-clause-works : goal.returns-in_err-read_all-clause-works
returns-in_err-read_all-clause-works g c = record { seat = reads_worked _ _ c.args.desk.now.free c.read_all.ensures.only; hand = refl }

pub evaluate-requires-clause-codes : goal.evaluate-requires-clause-codes
evaluate-requires-clause-codes g c =
    let subject = subject_of c.args.marks.now in
    listed_codes (g.S.SheetSubject.opening subject) (g.S.Subject.places subject) (g.S.Subject.worth subject)
    c.is_of_sheet.ensures (log_of (seat_of c.args.desk.now)) c.args.cell
    (place_of c.args.level.sizes c.args.cell) (ap (λ (s : Sizes). place_of s c.args.cell) c.requires.sizes)
    (subst (λ (s : Sizes). IsTrue (is_inside s c.args.cell)) c.requires.sizes c.requires.inside)
    c.requires.is_sheet
    c.args.level.sizes c.requires.sizes (content_value c.args.content.now)
    c.requires.content
    c.read_all.new.list c.in_ok-read_all.ensures.listed

pub evaluate-requires-clause-known : goal.evaluate-requires-clause-known
evaluate-requires-clause-known g c =
    let subject = subject_of c.args.marks.now in
    listed_words (g.S.SheetSubject.opening subject) (g.S.Subject.places subject) (g.S.Subject.worth subject)
    c.is_of_sheet.ensures (log_of (seat_of c.args.desk.now)) c.args.cell
    (place_of c.args.level.sizes c.args.cell) (ap (λ (s : Sizes). place_of s c.args.cell) c.requires.sizes)
    (subst (λ (s : Sizes). IsTrue (is_inside s c.args.cell)) c.requires.sizes c.requires.inside)
    c.requires.is_sheet
    c.args.level.sizes c.requires.sizes (content_value c.args.content.now)
    c.requires.content
    c.read_all.new.list c.in_ok-read_all.ensures.listed

pub returns-clause-works : goal.returns-clause-works
returns-clause-works g c = record { seat = reads_worked _ _ c.args.desk.now.free c.read_all.ensures.only; hand = refl }

pub returns-clause-word : goal.returns-clause-word
returns-clause-word g c =
    let subject = subject_of c.args.marks.now in
    listed_worth (g.S.SheetSubject.opening subject) (g.S.Subject.places subject) (g.S.Subject.worth subject)
    c.is_of_sheet.ensures (log_of (seat_of c.args.desk.now)) c.args.cell
    (place_of c.args.level.sizes c.args.cell) (ap (λ (s : Sizes). place_of s c.args.cell) c.requires.sizes)
    (subst (λ (s : Sizes). IsTrue (is_inside s c.args.cell)) c.requires.sizes c.requires.inside)
    c.requires.is_sheet
    c.args.level.sizes c.requires.sizes (content_value c.args.content.now)
    c.requires.content
    c.read_all.new.list c.in_ok-read_all.ensures.listed
    c.evaluate.result c.evaluate.ensures
