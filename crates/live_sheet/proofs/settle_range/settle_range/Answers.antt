use Rattle.std.proofs.Common.{IsTrue, ap, arith, sym, subst, ◌∙◌}
use Rattle.std.proofs.lemmas.Bool.Decides.{nat_tests}
use Rattle.sheet_refs.specs.Sizes.{cell_count, is_inside}
use Rattle.sheet_refs.specs.declared.sizes.Sizes.{Sizes}
use Rattle.sheet_refs.proofs.Tiles.{among_one}
use Rattle.mark_core.specs.declared.actors.Edits.{Edits}
use Rattle.mark_words.specs.Tokens.{subject_of, view_of}
use Rattle.recalc_workers.proofs.SharingLemmas.{keeps_editor_on}
use Rattle.sheet_model.specs.KeptValues.{KeepsValuesOf}
use Rattle.sheet_model.specs.Logs.{after}
use Rattle.sheet_model.specs.Sheets.{SheetValue}
use Rattle.sheet_model.specs.declared.entry.Entry.{Entry}
use Rattle.edit_log.specs.Books.{BookValue}
use Rattle.edit_log.specs.Touches.{TouchesPlace}
use Rattle.live_sheet.specs.Stale.{KnowsCell}
use Rattle.live_sheet.proofs.DeskLemmas.{desks_themselves}
use Rattle.live_sheet.proofs.RangeLemmas.{all_of_range, lone_disjoint, none_stale, stale_inside}
use Rattle.live_sheet.proofs.StaleLemmas.{cell_still}
use Rattle.live_sheet.proofs.settle_range.settle_range.Goals as goal

pub list_stale-requires-clause-places : goal.list_stale-requires-clause-places
list_stale-requires-clause-places g c κs =
    c.requires.table.same_places ∙ ap (λ (s : SheetValue). cell_count s.sizes) c.requires.subject ∙ ap cell_count (sym c.opening_sizes-sizes.ensures.sizes)

pub list_stale-requires-clause-inside : goal.list_stale-requires-clause-inside
list_stale-requires-clause-inside g c κs = λ cell among.
    subst (λ (s : Sizes). IsTrue (is_inside s cell)) (sym c.opening_sizes-sizes.ensures.sizes)
    (c.requires.inside cell (among_one c.args.range cell among))

pub list_stale-requires-clause-disjoint : goal.list_stale-requires-clause-disjoint
list_stale-requires-clause-disjoint g c κs = lone_disjoint c.args.range

pub returns-in_err-stale-clause-desks : goal.returns-in_err-stale-clause-desks
returns-in_err-stale-clause-desks g c = desks_themselves c.args.marks.now c.args.desks.now c.requires.desks

pub returns-then-is_empty-clause-desks : goal.returns-then-is_empty-clause-desks
returns-then-is_empty-clause-desks g c = desks_themselves c.args.marks.now c.args.desks.now c.requires.desks

pub returns-then-is_empty-clause-clean : goal.returns-then-is_empty-clause-clean
returns-then-is_empty-clause-clean g c = λ cell inside.
    none_stale c.args.range c.in_ok-stale.stale.items
    (rw (c.requires.subject, c.opening_sizes-sizes.ensures.sizes) at c.in_ok-stale.ensures.stale)
    (grind (arith, nat_tests, c.in_ok-stale.stale.ok.0, sym c.is_empty.ensures ∙ c.if-is_empty.true)) cell inside

pub returns-in_err-values-clause-desks : goal.returns-in_err-values-clause-desks
returns-in_err-values-clause-desks g c = desks_themselves c.args.marks.now c.args.desks.now c.requires.desks

pub put_values-requires-clause-editor : goal.put_values-requires-clause-editor
put_values-requires-clause-editor g c κs within = record {
  table = c.list_stale.ensures.table;
  editor = c.list_stale.ensures.editor.editor ∙ c.requires.free.editor;
  idle = ap (λ (e : Edits Entry). e.pending) c.list_stale.ensures.editor.edits ∙ c.requires.free.idle;
  sheet_is =
      c.sheet-sheet.ensures.sheet ∙ c.sheet-sheet.ensures.kept.replayed
      ∙ ap (λ (b : BookValue _). after b.opening b.log) c.take_values.ensures.same
      ∙ ap (λ (o : SheetValue). after o c.args.book.now.log) (sym c.requires.subject)
      ∙ ap (after (subject_of c.args.marks.now)) (sym (c.list_stale.ensures.editor.log ∙ c.requires.log));
}

pub put_values-requires-clause-places : goal.put_values-requires-clause-places
put_values-requires-clause-places g c κs within =
    let sizes_now = ap (λ (s : SheetValue). s.sizes) (c.sheet-sheet.ensures.sheet ∙ ap (λ (b : BookValue _). b.sheet) c.take_values.ensures.same)
    ∙ c.opening_sizes-sizes.ensures.same in
    c.requires.table.same_places ∙ ap (λ (s : SheetValue). cell_count s.sizes) c.requires.subject ∙ ap cell_count (sym sizes_now)

pub put_values-requires-clause-kept : goal.put_values-requires-clause-kept
put_values-requires-clause-kept g c κs within =
    subst (λ (s : SheetValue). KeepsValuesOf s c.in_ok-values.values)
    (sym (c.sheet-sheet.ensures.sheet ∙ ap (λ (b : BookValue _). b.sheet) c.take_values.ensures.same)) c.in_ok-values.ensures.values

pub put_values-requires-clause-inside : goal.put_values-requires-clause-inside
put_values-requires-clause-inside g c κs within =
    let sizes_now = ap (λ (s : SheetValue). s.sizes) (c.sheet-sheet.ensures.sheet ∙ ap (λ (b : BookValue _). b.sheet) c.take_values.ensures.same)
    ∙ c.opening_sizes-sizes.ensures.same in
    rw (c.deref.ensures.value, sizes_now)
    (stale_inside c.args.book.now.opening.sizes c.args.range c.in_ok-stale.stale.items c.in_ok-stale.ensures.stale c.requires.inside)

pub returns-in_err-values-2-clause-editor : goal.returns-in_err-values-2-clause-editor
returns-in_err-values-2-clause-editor g c = keeps_editor_on c.args.editor.now c.list_stale.new.editor c.put_values.new.editor
    c.list_stale.ensures.editor c.put_values.ensures.editor

pub keep_values-requires : goal.keep_values-requires
keep_values-requires g c = subst (λ (s : SheetValue). KeepsValuesOf s c.in_ok-values-2.values) c.sheet-sheet.ensures.sheet c.in_ok-values-2.ensures.kept

pub returns-clause-book : goal.returns-clause-book
returns-clause-book g c = c.keep_values.ensures ∙ c.take_values.ensures.same

pub returns-clause-editor : goal.returns-clause-editor
returns-clause-editor g c = keeps_editor_on c.args.editor.now c.list_stale.new.editor c.put_values.new.editor
    c.list_stale.ensures.editor c.put_values.ensures.editor

pub returns-clause-clean : goal.returns-clause-clean
returns-clause-clean g c =
    let sizes_now = ap (λ (s : SheetValue). s.sizes) (c.sheet-sheet.ensures.sheet ∙ ap (λ (b : BookValue _). b.sheet) c.take_values.ensures.same)
    ∙ c.opening_sizes-sizes.ensures.same in
    let opening = c.args.book.now.opening in
    let Knows = KnowsCell (TouchesPlace opening) opening.sizes (view_of c.put_values.new.editor) in
    all_of_range Knows c.args.range c.in_ok-stale.stale.items
    (rw (c.requires.subject, c.opening_sizes-sizes.ensures.sizes) at c.in_ok-stale.ensures.stale)
    (cell_still (TouchesPlace opening) opening.sizes c.list_stale.new.editor c.put_values.new.editor c.put_values.ensures.editor)
    (rw (c.deref.ensures.value, sizes_now, c.requires.subject) at c.in_ok-values-2.ensures.clean)
