use Rattle.std.proofs.Common.{◌∙◌, ◌≤◌, ◌*◌, ℕ, length, sym, subst}
use Rattle.std.proofs.lemmas.Grind.{div_ceil_times}
use Rattle.mark_words.specs.Tokens.{subject_of, view_of}
use Rattle.recalc_workers.proofs.LevelLemmas.{covered_stays, ready, desks_after, all_clean}
use Rattle.recalc_workers.proofs.levels.settle_at.Goals as goal

pub settle_shares-requires-clause-ready : goal.settle_shares-requires-clause-ready
settle_shares-requires-clause-ready g c κs within =
    ready c.args.marks.now c.args.level.cells.now c.args.level.count _ (view_of c.args.editor.now) c.args.desks.now c.lend_all.new.desks
    (covered_stays (g.S.SheetSubject.opening (subject_of c.args.marks.now)) (g.W.CellWords.sheet c.args.words.now)
    (g.W.CellWords.covers c.args.words.now)) c.requires.entries c.requires.covered c.lend_all.ensures.desks

pub returns-then-gather_all-clause-desks : goal.returns-then-gather_all-clause-desks
returns-then-gather_all-clause-desks g c =
    desks_after c.args.marks.now (g.S.Subject.touches (subject_of c.args.marks.now)) c.args.level.sizes
    c.args.level.cells.now c.div_ceil-size.result (view_of c.args.editor.now)
    c.args.desks.now c.lend_all.new.desks c.settle_shares.new.desks c.gather_all.new.desks c.lend_all.ensures.desks
    c.settle_shares.ensures.count c.settle_shares.ensures.shares c.gather_all.ensures.desks

pub returns-clause-desks : goal.returns-clause-desks
returns-clause-desks g c =
    desks_after c.args.marks.now (g.S.Subject.touches (subject_of c.args.marks.now)) c.args.level.sizes
    c.args.level.cells.now c.div_ceil-size.result (view_of c.args.editor.now)
    c.args.desks.now c.lend_all.new.desks c.settle_shares.new.desks c.gather_all.new.desks c.lend_all.ensures.desks
    c.settle_shares.ensures.count c.settle_shares.ensures.shares c.gather_all.ensures.desks

pub returns-clause-clean : goal.returns-clause-clean
returns-clause-clean g c =
    all_clean c.args.marks.now (g.S.Subject.touches (subject_of c.args.marks.now)) c.args.level.sizes
    c.args.level.cells.now c.div_ceil-size.result (view_of c.args.editor.now)
    c.args.desks.now c.lend_all.new.desks c.settle_shares.new.desks c.gather_all.new.desks c.lend_all.ensures.desks
    c.settle_shares.ensures.count c.settle_shares.ensures.shares
    (view_of c.gather_all.new.editor) (c.gather_all.ensures.editor.log ∙ c.lend_all.ensures.editor.log)
    (subst (λ (s : ℕ). length c.args.level.cells.now ≤ s * length c.args.desks.now) (sym c.div_ceil-size.ensures)
    (div_ceil_times (length c.args.level.cells.now) (length c.args.desks.now) c.requires.some).0)
    c.gather_all.ensures.knows (c.gather_all.ensures.wants c.if-gather_all.false)
