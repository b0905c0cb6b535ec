use Rattle.std.proofs.Common.{◌≡◌, IsTrue, ◌≤◌, ap, sym, subst, ◌∙◌, ℕ}
use Rattle.sheet_refs.specs.Sizes.{is_inside, place_of}
use Rattle.sheet_refs.specs.declared.sizes.Sizes.{Sizes}
use Rattle.mark_words.specs.Tokens.{subject_of, log_of}
use Rattle.sheet_model.specs.Logs.{after}
use Rattle.sheet_model.specs.Values.{value_of}
use Rattle.sheet_model.specs.declared.board.Shown.TheVariants.{Value}
use Rattle.value_core.specs.Values.{code_of}
use Rattle.live_sheet.proofs.firm_cells.show_cell.Goals as goal

pub returns-clause-value : goal.returns-clause-value
returns-clause-value g c =
    let loads = c.read_known.ensures.loads in
    let opening = g.S.SheetSubject.opening (subject_of c.args.marks.now) in
    let log = log_of c.args.editor.now in
    let current = c.show.ensures.current loads.clean (subst (λ (n : ℕ). c.read_known.result.mark ≤ n) (sym c.requires.number) loads.within) in
    let at : g.S.Subject.worth (subject_of c.args.marks.now) log (place_of c.args.sizes c.args.cell) ≡ code_of (value_of (after opening log) c.args.cell) =
    subst (λ (s : Sizes). g.S.Subject.worth (subject_of c.args.marks.now) log (place_of s c.args.cell) ≡ code_of
    (value_of (after opening log) c.args.cell)) c.requires.opening
    (c.is_of_sheet.ensures.values log c.args.cell (subst (λ (s : Sizes). IsTrue (is_inside s c.args.cell)) (sym c.requires.opening) c.requires.inside)) in
    current.1 ∙ ap Value (current.2 (value_of (after opening log) c.args.cell) (c.value_laws.ensures.in_range (after opening log) c.args.cell c.requires.sheet)
    (sym loads.worth_is ∙ ap (g.S.Subject.worth (subject_of c.args.marks.now) log) c.place-place.ensures.place ∙ at))
