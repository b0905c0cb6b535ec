use Rattle.std.proofs.Common.{◌≡◌, ap, subst, sym, take, ◌∙◌}
use Rattle.std.specs.BTreeMap.{get}
use Rattle.std.specs.Ordering.{nat_cmp}
use Rattle.sheet_model.specs.Edits.{EditValue, IsWholeEdit}
use Rattle.sheet_model.specs.Logs.{after}
use Rattle.sheet_model.specs.declared.entry.Entry.{Entry}
use Rattle.sheet_model.proofs.ListLemmas.{all_taken_more}
use Rattle.sheet_undo.specs.Found.{Finds, Follows}
use Rattle.sheet_undo.specs.Undoing.{changed_cells}
use Rattle.sheet_undo.proofs.FollowLemmas.{held_next, replaced_cells}
use Rattle.sheet_undo.proofs.replaying.held_after.Goals as goal

pub follow-requires-clause-cells : goal.follow-requires-clause-cells
follow-requires-clause-cells c =
    let same : changed_cells c.loop-entry.held.items ≡ changed_cells c.args.own.now =
    ap changed_cells c.loop-entry.invariant.0
    ∙ replaced_cells (after c.args.opening.now (take c.loop-entry.entry-index c.args.earlier.now)) c.args.own.now in
    subst (λ cells. Finds c.args.cells.now.sizes cells (get nat_cmp c.args.cells.now.places)) (sym same) c.requires.cells

pub loop-entry-preserved : goal.loop-entry-preserved
loop-entry-preserved c =
    let entry = c.entry-item.result in
    let follows : Follows c.args.cells.now.sizes entry.edit c.loop-entry.held.items c.follow.new.held.items =
    subst (λ (edit : EditValue). Follows c.args.cells.now.sizes edit c.loop-entry.held.items c.follow.new.held.items) c.changes.ensures.changes
    c.in_ok-follow.ensures in
    let whole : IsWholeEdit entry.edit = record { edit = c.changes.ensures.edit; written = c.changes.ensures.written } in (
      held_next c.args.cells.now.sizes c.args.opening.now c.args.earlier.now c.loop-entry.entry-index entry c.args.own.now c.loop-entry.held.items
          c.follow.new.held.items
          c.requires.sheet c.requires.sizes c.loop-entry-test.true c.entry-item.is c.loop-entry.invariant.0 follows,
      all_taken_more (λ (e : Entry). IsWholeEdit e.edit) c.args.earlier.now c.loop-entry.entry-index entry c.loop-entry-test.true c.entry-item.is
          c.loop-entry.invariant.1 whole,
    )
