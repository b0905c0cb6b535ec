use Rattle.std.proofs.Common.{IsTrue}
use Rattle.sheet_refs.specs.Cells.{Position}
use Rattle.sheet_refs.specs.Sizes.{is_inside}
use Rattle.mark_words.specs.Tokens.{subject_of, view_of}
use Rattle.sheet_model.specs.KeptValues.{HoldsValue}
use Rattle.live_sheet.specs.Stale.{KnowsCell}
use Rattle.live_sheet.proofs.DeskLemmas.{on_ok_then}
use Rattle.live_sheet.proofs.RangeLemmas.{all_listed}
use Rattle.live_sheet.proofs.settle_range.list_if_kept.Goals as goal

pub returns-then-holds-clause-inside : goal.returns-then-holds-clause-inside
returns-then-holds-clause-inside g c =
    on_ok_then _ _ c.list_if_stale.result
    (λ listed.
    all_listed (KnowsCell (g.S.Subject.touches (subject_of c.args.marks.now)) c.sizes.result (view_of c.list_if_stale.new.editor))
    (λ (cell : Position). IsTrue (is_inside c.args.sheet.now.sizes cell)) c.args.cell c.args.stale.now.items
    c.list_if_stale.new.stale.items listed c.requires.inside (c.holds.ensures.inside c.if-holds.true))
    c.list_if_stale.ensures.listed

pub returns-then-holds-clause-held : goal.returns-then-holds-clause-held
returns-then-holds-clause-held g c =
    on_ok_then _ _ c.list_if_stale.result
    (λ listed.
    all_listed (KnowsCell (g.S.Subject.touches (subject_of c.args.marks.now)) c.sizes.result (view_of c.list_if_stale.new.editor))
    (HoldsValue c.args.sheet.now.sizes c.args.values.now) c.args.cell c.args.stale.now.items
    c.list_if_stale.new.stale.items listed c.requires.held (c.holds.ensures.held c.if-holds.true))
    c.list_if_stale.ensures.listed
