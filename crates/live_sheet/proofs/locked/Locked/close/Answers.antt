-- All shares together are the whole ledger, whose total is the length of the log.
use Rattle.std.proofs.Common.{◌≡◌, ◌≤◌, List, length, slice_index_or, vec_capacity, sym, ◌∙◌, ap, subst, arith}
use Rattle.std.proofs.lemmas.List.Elements.{All-contains}
use Rattle.mark_core.specs.Marks.{IsPrefix}
use Rattle.mark_words.specs.Tokens.{subject_of, topic_of, view_of, log_of}
use Rattle.edit_log.specs.Touches.{TouchesPlace}
use Rattle.sheet_refs.specs.Sizes.{cell_count}
use Rattle.sheet_model.specs.Logs.{after}
use Rattle.sheet_model.specs.Sheets.{SheetValue}
use Rattle.sheet_model.specs.declared.entry.Entry.{Entry}
use Rattle.live_sheet.specs.Closed.{ReadsAreLegal, accepted_count}
use Rattle.live_sheet.specs.Passes.{pass_log}
use Rattle.live_sheet.specs.Ranges.{KnowsAll}
use Rattle.live_sheet.proofs.ClosingLemmas.{seat_of_words, values_closed, all_end}
use Rattle.live_sheet.proofs.locked.Locked.close.Goals as goal

pub close_cells-values-requires-clause-tables : goal.close_cells-values-requires-clause-tables
close_cells-values-requires-clause-tables g c = λ k d below.
    seat_of_words g.N.Naming.words g.N.Naming.opening c.args.marks _ c.requires.words.table c.requires.words.about
    (c.requires.words.places ∙ ap (λ (o : SheetValue). cell_count o.sizes) (sym c.requires.words.about)) (c.gather.ensures.tables k d below)

pub close_cells-values-requires-clause-places : goal.close_cells-values-requires-clause-places
close_cells-values-requires-clause-places g c = c.cells-cells.ensures ∙ sym c.requires.words.places

pub close_cells-values-requires-clause-cells : goal.close_cells-values-requires-clause-cells
close_cells-values-requires-clause-cells g c = c.cells-cells.ensures ∙ ap (λ (o : SheetValue). cell_count o.sizes) (sym c.requires.words.about)

pub close_cells-values-requires-clause-known : goal.close_cells-values-requires-clause-known
close_cells-values-requires-clause-known g c =
    subst (λ (o : SheetValue). KnowsAll (TouchesPlace o) o.sizes (view_of c.args.self.editor)) (sym c.requires.words.about) c.requires.known

pub close_cells-values-requires-clause-room : goal.close_cells-values-requires-clause-room
close_cells-values-requires-clause-room g c = subst (λ n. n ≤ vec_capacity c.args.room.values) (sym c.cells-cells.ensures) c.requires.room.values

pub returns : goal.returns
returns g c =
    let me = c.args.self in
    let opening = g.N.Naming.opening in
    let codes = (topic_of c.args.marks).opening.value in
    let passes = c.args.passes.items in
    let seats = c.gather.new.seats.items in
    let parts = c.into_parts-sheet.ensures in
    let shown = c.close_cells-values.ensures in
    let log = c.into_parts-sheet.result.1.items in
    let same : log_of me.editor ≡ log = me.seat.log_is ∙ sym parts.log in
    let amount = c.audit.ensures.whole (omega (arith, c.gather.ensures.parts, c.share-share.ensures.parts, c.share-share.ensures.all, c.requires.clients)) in
    let all : accepted_count passes ≡ length log = omega (
      arith,
      amount,
      c.gather.ensures.amount,
      c.share-share.ensures.amount,
      me.total,
      ap length parts.log,
    ) in
    let ends = all_end opening codes log passes c.requires.order all (λ k d below. (c.gather.ensures.kept k d below).accepted)
    (λ k d below. subst (λ (l : List Entry). IsPrefix (pass_log (slice_index_or passes k d)) l) same
    (All-contains (λ other. IsPrefix (log_of other) (log_of me.editor)) seats (slice_index_or passes k d).seat
    shown.prefixes (c.gather.ensures.handed k d below)))
    (λ k d below. subst (λ (l : List Entry). ReadsAreLegal opening codes l (slice_index_or passes k d).seat) same
    (subst (λ (o : SheetValue). ReadsAreLegal o codes (log_of me.editor) (slice_index_or passes k d).seat) c.requires.words.about
    (All-contains (ReadsAreLegal (subject_of c.args.marks) codes (log_of me.editor)) seats
    (slice_index_or passes k d).seat shown.legal (c.gather.ensures.handed k d below)))) in
    let sheet_is = parts.sheet ∙ parts.kept.replayed ∙ ap (λ (o : SheetValue). after o me.book.log) me.opening ∙ ap (after opening) (sym parts.log) in
    record {
      each = ends.0;
      others = ends.1;
      sheet_is = sheet_is;
      values_are = values_closed opening (subject_of c.args.marks) c.into_parts-sheet.result.0 log (log_of me.editor)
          c.close_cells-values.result.items c.cells-cells.result
          c.requires.words.about same sheet_is c.sizes.ensures.sheet shown.count c.cells-cells.ensures shown.values;
    }
