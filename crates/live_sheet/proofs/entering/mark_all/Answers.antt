-- Each touched cell may be marked, and then all are.
use Rattle.std.proofs.Common.{List, refl, sym, subst, All}
use Rattle.sheet_refs.specs.Cells.{Position}
use Rattle.sheet_refs.specs.Sizes.{place_of}
use Rattle.sheet_refs.specs.declared.sizes.Sizes.{Sizes}
use Rattle.sheet_model.specs.declared.entry.Entry.{Entry}
use Rattle.edit_log.specs.Touches.{TouchesPlace}
use Rattle.mark_words.specs.Tokens.{subject_of, places_of, doing_of, log_of}
use Rattle.live_sheet.specs.Edits.{HasMarked}
use Rattle.live_sheet.proofs.EnterLemmas.{touched_all, is_ready}
use Rattle.live_sheet.proofs.entering.mark_all.Goals as goal

pub mark_cells-requires-clause-touched : goal.mark_cells-requires-clause-touched
mark_cells-requires-clause-touched c =
    let all = touched_all (subject_of c.args.marks.now) (log_of c.args.editor.now) c.args.prepared.now c.requires.prepared in
    subst (λ (cells : List Position). All (λ cell. TouchesPlace (subject_of c.args.marks.now) (log_of c.args.editor.now)
    c.entry.result.now (place_of c.args.sizes cell)) cells) (sym c.touched.ensures)
    (subst (λ (entry : Entry). All (λ cell. TouchesPlace (subject_of c.args.marks.now) (log_of c.args.editor.now) entry
    (place_of c.args.sizes cell)) c.args.prepared.now.touched) (sym c.entry.ensures)
    (subst (λ (sizes : Sizes). All (λ cell. TouchesPlace (subject_of c.args.marks.now) (log_of c.args.editor.now)
    c.args.prepared.now.entry (place_of sizes cell)) c.args.prepared.now.touched) (sym c.requires.sizes) all))

pub returns-clause-ready : goal.returns-clause-ready
returns-clause-ready c =
    is_ready (subject_of c.args.marks.now) (log_of c.args.editor.now) c.args.prepared.now (places_of c.args.marks.now)
    (doing_of c.args.editor.now) (doing_of c.mark_cells.new.editor) c.requires.prepared refl
    (subst (λ (sizes : Sizes). HasMarked sizes c.args.prepared.now.entry c.args.prepared.now.touched
    (doing_of c.args.editor.now) (doing_of c.mark_cells.new.editor)) c.requires.sizes
    (subst (λ (entry : Entry). HasMarked c.args.sizes entry c.args.prepared.now.touched (doing_of c.args.editor.now)
    (doing_of c.mark_cells.new.editor)) c.entry.ensures
    (subst (λ (cells : List Position). HasMarked c.args.sizes c.entry.result.now cells (doing_of c.args.editor.now)
    (doing_of c.mark_cells.new.editor)) c.touched.ensures c.mark_cells.ensures.marked)))
