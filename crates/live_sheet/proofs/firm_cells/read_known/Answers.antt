use Rattle.std.proofs.Common.{◌≡◌, ◌≤◌, ◌+◌, ℕ, Some, length, List, ap, sym, refl, subst, ◌∙◌}
use Rattle.mark_core.specs.declared.words.Half.{Half}
use Rattle.mark_core.specs.Marks.{IsLastMark}
use Rattle.mark_core.specs.Views.{new_half}
use Rattle.mark_words.specs.declared.tables.Doing.{Doing}
use Rattle.mark_words.specs.Tokens.{subject_of, view_of, log_of}
use Rattle.recalc_workers.proofs.SeatLemmas.{has_read, tells_over}
use Rattle.live_sheet.proofs.FirmLemmas.{shows_clean}
use Rattle.live_sheet.proofs.firm_cells.read_known.Goals as goal

pub returns-clause-loads : goal.returns-clause-loads
returns-clause-loads g c =
    let word : ℕ = c.read_value-word.result in
    let read =
    has_read c.args.editor.now c.read_clean-clean.new.seat c.read_value-word.new.seat c.read_mark-mark.new.seat
    c.args.place (record { clean = c.read_clean-clean.result; word = word; mark = c.read_mark-mark.result })
    c.read_clean-clean.ensures.doing c.read_value-word.ensures.doing c.read_mark-mark.ensures.doing
    (c.read_mark-mark.ensures.same.same_table ∙ sym c.requires.table.same_table)
    c.read_clean-clean.ensures.step c.read_value-word.ensures.step c.read_mark-mark.ensures.step
    c.read_mark-mark.ensures.ends in
    let tells =
    tells_over c.args.editor.now c.read_clean-clean.new.seat c.read_value-word.new.seat c.read_mark-mark.new.seat
    c.args.place (record { clean = c.read_clean-clean.result; word = word; mark = c.read_mark-mark.result })
    c.read_clean-clean.ensures.doing c.read_value-word.ensures.doing c.read_mark-mark.ensures.doing
    (g.S.Subject.worth (subject_of c.args.marks.now)) (g.S.Subject.touches (subject_of c.args.marks.now))
    c.read_mark-mark.ensures.tells c.read_mark-mark.ensures.clean in
    let half : Half = record (new_half (view_of c.args.editor.now) c.args.place c.read_clean-clean.result) { word = Some word } in
    let begun : (view_of c.read_value-word.new.seat).half ≡ Some half =
    c.read_value-word.ensures.goes_on (new_half (view_of c.args.editor.now) c.args.place c.read_clean-clean.result)
    (ap (λ (d : Doing _ _). d.view.half) c.read_clean-clean.ensures.doing) refl in
    let told = c.read_mark-mark.ensures.tells half begun refl in
    let half_log : log_of c.read_value-word.new.seat ≡ log_of c.args.editor.now =
    ap (λ (d : Doing _ _). d.view.log) c.read_value-word.ensures.doing ∙ ap (λ (d : Doing _ _). d.view.log) c.read_clean-clean.ensures.doing in
    let within : c.read_mark-mark.result ≤ length (log_of c.read_value-word.new.seat) =
    c.read_mark-mark.ensures.editor
    (ap (λ (d : Doing _ _). d.editor) c.read_value-word.ensures.doing
    ∙ ap (λ (d : Doing _ _). d.editor) c.read_clean-clean.ensures.doing ∙ c.requires.free.editor)
    (ap (λ (d : Doing _ _). d.edits.pending) c.read_value-word.ensures.doing
    ∙ ap (λ (d : Doing _ _). d.edits.pending) c.read_clean-clean.ensures.doing ∙ c.requires.free.idle) in
    let past : c.read_mark-mark.result ≤ length (log_of c.read_mark-mark.new.seat) =
    subst (λ (l : List _). c.read_mark-mark.result ≤ length l) (half_log ∙ sym read.log) within in
    let last : IsLastMark (g.S.Subject.touches (subject_of c.args.marks.now)) (log_of c.args.editor.now) c.args.place c.read_mark-mark.result =
    subst (λ (l : List _). IsLastMark (g.S.Subject.touches (subject_of c.args.marks.now)) l c.args.place c.read_mark-mark.result) read.log (tells.last past) in
    let is : c.read_clean-clean.result.upto ≡ c.read_mark-mark.result + 1 =
    shows_clean (g.S.Subject.touches (subject_of c.args.marks.now)) (log_of c.args.editor.now) c.args.place
    c.requires.known.0 c.read_mark-mark.result half.floor c.read_clean-clean.result.upto
    c.requires.known.1.last last (c.read_clean-clean.ensures.begins.above c.requires.known.0 c.requires.known.1.known) told.floor in
    record {
      clean = is;
      within = subst (λ (l : List _). c.read_mark-mark.result ≤ length l) half_log within;
      worth_is = subst (λ (l : List _). g.S.Subject.worth (subject_of c.args.marks.now) l c.args.place ≡ word) read.log (tells.worth_is is past);
    }
