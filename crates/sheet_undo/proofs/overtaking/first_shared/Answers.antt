use Rattle.std.proofs.Common.{◌≡◌, min, length, take, slice_get, Some, IsTrue, ap, arith, refl, subst, sym, ◌∙◌}
use Rattle.std.specs.BTreeMap.{get}
use Rattle.std.specs.Ordering.{nat_cmp}
use Rattle.std.proofs.lemmas.List.{length-map, take_all}
use Rattle.std.proofs.lemmas.Option.{slice_get_read}
use Rattle.sheet_refs.specs.Cells.{Position}
use Rattle.sheet_refs.specs.Sizes.{is_inside}
use Rattle.sheet_model.specs.Changes.{ChangeValue}
use Rattle.sheet_model.specs.Edits.{EditValue}
use Rattle.sheet_undo.specs.Undoing.{changed_cells}
use Rattle.sheet_undo.proofs.FindLemmas.{cells_more}
use Rattle.sheet_undo.proofs.PlaceLemmas.{all_read, at_mapped}
use Rattle.sheet_undo.proofs.ShareLemmas.{IsLeast, least_first, least_found, least_missed, least_nowhere, min_either}
use Rattle.sheet_undo.proofs.overtaking.first_shared.Goals.{in-Some, in_default}
use Rattle.sheet_undo.proofs.overtaking.first_shared.Goals as goal

pub loop-change-preserved : goal.loop-change-preserved
loop-change-preserved c =
    let sizes = c.args.cells.now.sizes in
    let own = changed_cells c.args.own.now in
    let others = changed_cells (take c.loop-change.change-index c.args.others.now) in
    let look = get nat_cmp c.args.cells.now.places in
    let cell : c.change.inside.cell ≡ c.change-item.result.cell = ap (λ (x : ChangeValue). x.cell) c.change.view_is in
    let inside : IsTrue (is_inside sizes c.change.inside.cell) = subst (λ (p : Position). IsTrue (is_inside sizes p)) (sym cell)
    (all_read (λ (x : ChangeValue). IsTrue (is_inside sizes x.cell)) c.args.others.now c.loop-change.change-index c.change-item.result c.requires.inside
    c.loop-change-test.true c.change-item.is) in
    subst (λ cells. IsLeast own cells c.match-find.first)
    (sym (cells_more c.args.others.now c.loop-change.change-index c.change-item.result c.change.inside.cell c.loop-change-test.true c.change-item.is
    cell))
    (elim c.match-find.branch [
      | in-Some w ↦ (let less : c.match-find.first ≡ min c.loop-change.first w.in-Some.place = w.first-is ∙ w.min-first.ensures in
          least_found sizes own others look c.requires.cells c.loop-change.first c.loop-change.invariant c.change.inside.cell w.in-Some.place
          c.match-find.first inside (sym c.find.ensures ∙ w.in-Some.is)
          (omega (arith, less)) (omega (arith, less)) (min_either c.match-find.first c.loop-change.first w.in-Some.place less))
      | in_default w ↦ subst (IsLeast own _) (sym w.first-is)
          (least_missed sizes own others look c.requires.cells c.loop-change.first c.loop-change.invariant c.change.inside.cell (sym c.find.ensures
          ∙ w.in_default.is))
    ])

pub returns-then-first-own : goal.returns-then-first-own
returns-then-first-own c =
    let count = length-map c.args.own.now (λ (x : ChangeValue). x.cell) in
    let is : IsLeast (changed_cells c.args.own.now) (changed_cells c.args.others.now) c.loop-change.first =
    subst (λ (edit : EditValue). IsLeast (changed_cells c.args.own.now) (changed_cells edit) c.loop-change.first)
    (take_all c.loop-change.change-index c.args.others.now c.loop-change-test.false) c.loop-change.invariant in
    least_nowhere c.args.own.now c.args.others.now c.loop-change.first is (omega (arith, count, c.if-first-own.true))

pub returns : goal.returns
returns c =
    let is : IsLeast (changed_cells c.args.own.now) (changed_cells c.args.others.now) c.loop-change.first =
    subst (λ (edit : EditValue). IsLeast (changed_cells c.args.own.now) (changed_cells edit) c.loop-change.first)
    (take_all c.loop-change.change-index c.args.others.now c.loop-change-test.false) c.loop-change.invariant in
    let stands : slice_get c.args.own.now c.loop-change.first ≡ Some c.index-own-first.result =
    slice_get_read c.args.own.now (length c.args.own.now) c.loop-change.first c.index-own-first.result refl
    (omega (arith, c.if-first-own.false)) c.index-own-first.is in
    least_first (changed_cells c.args.own.now) (changed_cells c.args.others.now) c.loop-change.first c.change-2.inside.cell is
    (at_mapped (λ (x : ChangeValue). x.cell) c.args.own.now c.loop-change.first c.index-own-first.result stands
    ∙ ap Some (sym (ap (λ (x : ChangeValue). x.cell) c.change-2.view_is)))
