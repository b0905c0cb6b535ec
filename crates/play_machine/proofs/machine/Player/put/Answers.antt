use Rattle.std.proofs.Common.{◌≡◌, All, IsTrue, ap, subst, sym, ◌∙◌}
use Rattle.sheet_refs.specs.Sizes.{is_inside}
use Rattle.sheet_model.specs.Edits.{after_edit}
use Rattle.sheet_model.specs.Logs.{after}
use Rattle.sheet_model.specs.Sheets.{SheetValue}
use Rattle.sheet_model.proofs.EditLemmas.{edit-sizes}
use Rattle.sheet_model.proofs.ListLemmas.{on_ok}
use Rattle.edit_log.specs.Touches.{AreTouched}
use Rattle.play_machine.specs.Marking.{SetsMarks}
use Rattle.play_machine.specs.Waiting.{AreKept}
use Rattle.play_machine.proofs.EditedLemmas.{touches_at_most}
use Rattle.play_machine.proofs.PlayLemmas.{put_machine, put_marks}
use Rattle.edit_log.proofs.ValueLemmas.{book_sheet, kept_through, same_beside, touched_inside}
use Rattle.play_machine.proofs.machine.Player.put.Goals as goal

pub forget-requires-clause-inside : goal.forget-requires-clause-inside
forget-requires-clause-inside g c =
    let book = c.prepare_edit.new.book in
    touched_inside book.opening book.sheet c.sheet-2.result.now book.log c.in_ok-ready.ready.touched c.touched.result.now
    c.sheet-2.ensures.sheet c.sheet-2.ensures.kept.replayed c.touched.ensures c.in_ok-ready.ensures.prepared.touched_inside

pub returns-clause-values : goal.returns-clause-values
returns-clause-values g c =
    let book = c.prepare_edit.new.book in
    let edited = c.apply-applied.new.self in
    let entry = c.in_ok-ready.ready.entry in
    let sheet = c.sheet-2.result.now in
    let cells = c.touched.result.now in
    on_ok c.mark.result
    (λ (kept : AreKept c.sheet-3.result.now c.mark.new.self).
    kept_through sheet edited.sheet cells c.forget.new.values c.forget.ensures
    (same_beside book.opening sheet edited.sheet book.log entry cells (c.sheet-2.ensures.sheet ∙ c.sheet-2.ensures.kept.replayed)
    (subst (AreTouched book.opening book.log entry) (sym c.touched.ensures) c.in_ok-ready.ensures.prepared.touched)
    (book_sheet edited.opening edited.sheet edited.log _ c.apply-applied.ensures.kept)
    (c.apply-applied.ensures.applied.sheet ∙ ap (λ (s : SheetValue). after_edit s entry.edit) (sym c.sheet-2.ensures.sheet))))
    c.mark.ensures.kept

pub mark-requires-clause-kept : goal.mark-requires-clause-kept
mark-requires-clause-kept g c =
    let same = c.in_ok-ready.ensures.same in
    let before = c.of-before.ensures ∙ c.sheet.ensures.sheet ∙ same.sheet in
    subst (λ s. AreKept s c.args.self.now.cells) (sym before) c.requires.kept

pub mark-requires-clause-edit : goal.mark-requires-clause-edit
mark-requires-clause-edit g c =
    let book = c.prepare_edit.new.book in
    let edited = c.apply-applied.new.self in
    let applied = c.apply-applied.ensures.applied in
    let entry = c.in_ok-ready.ready.entry in
    let prepared = c.in_ok-ready.ensures.prepared in
    let touched = c.in_ok-ready.ready.touched in
    let cells = c.deref.result.now in
    let cells_are : cells ≡ touched = c.deref.ensures.value ∙ c.apply-applied.ensures.touched in
    let before : c.of-before.result.value ≡ book.sheet = c.of-before.ensures ∙ c.sheet.ensures.sheet in
    let opening_inside : All (λ cell. IsTrue (is_inside edited.opening.sizes cell)) touched =
    subst (λ (o : SheetValue). All (λ cell. IsTrue (is_inside o.sizes cell)) touched) (sym applied.opening) prepared.touched_inside in
    touches_at_most book.opening c.of-before.result.value c.sheet-3.result.now book.log entry cells
    (before ∙ c.sheet.ensures.kept.replayed)
    (subst (AreTouched book.opening book.log entry) (sym cells_are) prepared.touched)
    (c.sheet-3.ensures.sheet ∙ applied.sheet ∙ ap (λ (s : SheetValue). after_edit s entry.edit) (sym before))
    (touched_inside edited.opening edited.sheet c.sheet-3.result.now edited.log touched cells c.sheet-3.ensures.sheet
    c.sheet-3.ensures.kept.replayed cells_are opening_inside)

pub returns-clause-marks : goal.returns-clause-marks
returns-clause-marks g c =
    let was = c.args.self.now.book in
    let book = c.prepare_edit.new.book in
    let same = c.in_ok-ready.ensures.same in
    let entry = c.in_ok-ready.ready.entry in
    let prepared = c.in_ok-ready.ensures.prepared in
    let replayed : was.sheet ≡ after was.opening was.log =
    sym same.sheet ∙ c.sheet.ensures.kept.replayed ∙ ap (λ (o : SheetValue). after o book.log) same.opening ∙ ap (after was.opening) same.log in
    let sizes = ap (λ (s : SheetValue). s.sizes) (c.sheet-3.ensures.sheet ∙ c.apply-applied.ensures.applied.sheet)
    ∙ edit-sizes book.sheet entry.edit ∙ ap (λ (s : SheetValue). s.sizes) same.sheet in
    let number = c.apply-applied.result.number in
    let old = c.args.self.now.cells.marks.items in
    let new = c.mark.new.self.marks.items in
    on_ok c.mark.result
    (λ (marks : SetsMarks c.sheet-3.result.now.sizes c.deref.result.now number old new).
    put_marks was.opening was.sheet book.opening was.log book.log c.sheet-3.result.now.sizes entry c.args.client
    c.args.edit.now c.in_ok-ready.ready.touched c.deref.result.now number old new replayed same.opening same.log
    prepared.touched c.in_ok-ready.ensures.entry sizes (c.deref.ensures.value ∙ c.apply-applied.ensures.touched)
    (c.apply-applied.ensures.number ∙ prepared.number) marks)
    c.mark.ensures.marks

pub returns-clause-machine : goal.returns-clause-machine
returns-clause-machine g c =
    let was = c.args.self.now.book in
    let book = c.prepare_edit.new.book in
    let edited = c.apply-applied.new.self in
    let same = c.in_ok-ready.ensures.same in
    let applied = c.apply-applied.ensures.applied in
    on_ok c.mark.result
    (λ (kept : AreKept c.sheet-3.result.now c.mark.new.self).
    put_machine was.sheet edited.sheet book.sheet was.log book.log edited.log c.in_ok-ready.ready.entry c.args.client
    c.args.edit.now c.args.self.now.cells.marks.items c.mark.new.self.marks.items same.sheet same.log applied.sheet
    applied.log c.in_ok-ready.ensures.entry)
    c.mark.ensures.kept

pub returns-clause-kept : goal.returns-clause-kept
returns-clause-kept g c =
    on_ok c.mark.result
    (λ (kept : AreKept c.sheet-3.result.now c.mark.new.self).
    subst (λ s. AreKept s c.mark.new.self) c.sheet-3.ensures.sheet kept)
    c.mark.ensures.kept
