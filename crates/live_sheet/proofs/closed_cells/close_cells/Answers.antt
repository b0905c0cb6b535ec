-- Cells and their places are one.
use Rattle.std.proofs.Common.{◌<◌, ◌∙◌, Some, ap, subst, arith, refl, slice_index_or, suc}
use Rattle.std.proofs.lemmas.List.Elements.{Contains-get_or}
use Rattle.edit_log.specs.Kept.{over_sheet}
use Rattle.mark_words.specs.Tokens.{subject_of, topic_of, view_of, log_of, edits_of}
use Rattle.sheet_refs.proofs.Places.{place-lt}
use Rattle.live_sheet.proofs.ClosingLemmas.{known_places, legal_over}
use Rattle.live_sheet.proofs.closed_cells.close_cells.Goals as goal

pub close_words-requires-clause-known : goal.close_words-requires-clause-known
close_words-requires-clause-known c κs = λ place below.
    known_places (subject_of c.args.marks) (view_of c.args.editor) c.requires.known place (subst (λ n. place < n) c.requires.cells below)

pub returns-clause-values : goal.returns-clause-values
returns-clause-values c = λ cell inside.
    c.close_words.ensures.each _ (let lt = place-lt (subject_of c.args.marks).sizes cell inside in omega (arith, lt, c.requires.cells))
    ∙ ap Some ((over_sheet (subject_of c.args.marks)).values (log_of c.args.editor) cell inside)

pub returns-clause-legal : goal.returns-clause-legal
returns-clause-legal c = λ k d below read word among is.
    let seat = slice_index_or c.args.others.items k d in
    let has = Contains-get_or c.args.others.items k d below in
    legal_over (subject_of c.args.marks) (subject_of c.args.marks) (topic_of c.args.marks).opening.value
    (edits_of c.args.editor) (log_of c.args.editor) read word refl
    c.close_words.ensures.edits c.requires.free.idle (c.close_words.ensures.legal seat read word (
      suc has.0,
      (let lt = has.1 in omega (arith, lt)),
      has.2,
    ) among is)
