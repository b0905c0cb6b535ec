use Rattle.std.proofs.Common.{◌≡◌, ◌≤◌, ℕ, length, List, ap, sym, subst, ◌∙◌}
use Rattle.mark_words.specs.declared.tables.Doing.{Doing}
use Rattle.mark_words.specs.Tokens.{subject_of, view_of, log_of}
use Rattle.recalc_workers.proofs.SeatLemmas.{has_read, tells_over}
use Rattle.live_sheet.proofs.StaleLemmas.{read_knows}
use Rattle.live_sheet.proofs.stale.is_clean.Goals as goal

pub returns-clause-known : goal.returns-clause-known
returns-clause-known g c =
    let word : ℕ = c.read_value-word.result in
    let read =
    has_read c.args.editor.now c.read_clean-clean.new.seat c.read_value-word.new.seat c.read_mark-mark.new.seat
    c.args.place (record { clean = c.read_clean-clean.result; word = word; mark = c.read_mark-mark.result })
    c.read_clean-clean.ensures.doing c.read_value-word.ensures.doing c.read_mark-mark.ensures.doing
    (c.read_mark-mark.ensures.same.same_table ∙ sym c.requires.table.same_table)
    c.read_clean-clean.ensures.step c.read_value-word.ensures.step c.read_mark-mark.ensures.step
    c.read_mark-mark.ensures.ends in
    let tells =
    tells_over c.args.editor.now c.read_clean-clean.new.seat c.read_value-word.new.seat c.read_mark-mark.new.seat
    c.args.place (record { clean = c.read_clean-clean.result; word = word; mark = c.read_mark-mark.result })
    c.read_clean-clean.ensures.doing c.read_value-word.ensures.doing c.read_mark-mark.ensures.doing
    (g.S.Subject.worth (subject_of c.args.marks.now)) (g.S.Subject.touches (subject_of c.args.marks.now))
    c.read_mark-mark.ensures.tells c.read_mark-mark.ensures.clean in
    let half_log : log_of c.read_value-word.new.seat ≡ log_of c.args.editor.now =
    ap (λ (d : Doing _ _). d.view.log) c.read_value-word.ensures.doing ∙ ap (λ (d : Doing _ _). d.view.log) c.read_clean-clean.ensures.doing in
    let within : c.read_mark-mark.result ≤ length (log_of c.read_value-word.new.seat) =
    c.read_mark-mark.ensures.editor
    (ap (λ (d : Doing _ _). d.editor) c.read_value-word.ensures.doing
    ∙ ap (λ (d : Doing _ _). d.editor) c.read_clean-clean.ensures.doing ∙ c.requires.free.editor)
    (ap (λ (d : Doing _ _). d.edits.pending) c.read_value-word.ensures.doing
    ∙ ap (λ (d : Doing _ _). d.edits.pending) c.read_clean-clean.ensures.doing ∙ c.requires.free.idle) in
    let past : c.read_mark-mark.result ≤ length (log_of c.read_mark-mark.new.seat) =
    subst (λ (l : List _). c.read_mark-mark.result ≤ length l) (half_log ∙ sym read.log) within in
    read_knows (g.S.Subject.touches (subject_of c.args.marks.now)) (view_of c.read_mark-mark.new.seat) c.args.place
    c.read_clean-clean.result.upto c.read_mark-mark.result c.is_for.result
    (λ is. tells.known is past) c.is_for.ensures
