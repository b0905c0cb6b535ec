-- The editor's seat is as it was, and the worker's knows what it knows.
use Rattle.std.proofs.Common.{length, ◌∙◌, ap}
use Rattle.mark_words.specs.declared.tables.Doing.{Doing}
use Rattle.mark_trial.specs.TwoTestCells.{last_or}
use Rattle.mark_trial.proofs.TestLemmas.{ready_still}
use Rattle.mark_trial.proofs.words.row.hires.Goals as goal

pub returns-clause-ready : goal.returns-clause-ready
returns-clause-ready c = ready_still c.args.marks.now c.args.editor.now c.split.new.seat _ c.requires.ready c.split.ensures.same c.split.ensures.kept

pub returns-clause-last : goal.returns-clause-last
returns-clause-last c =
    let kept = c.split.ensures.kept in
    record {
      table = c.split.ensures.same;
      two = c.requires.last.two;
      entries = ap (λ (d : Doing _ _). length d.view.log) kept ∙ c.requires.last.entries;
      ends = ap (λ (d : Doing _ _). last_or 1 d.view.log) kept ∙ c.requires.last.ends;
    }

pub returns-clause-worker : goal.returns-clause-worker
returns-clause-worker c =
    let copy = c.split.ensures.copy in
    record {
      table = c.split.ensures.new;
      two = c.requires.last.two;
      entries = ap (λ (d : Doing _ _). length d.view.log) copy ∙ c.requires.last.entries;
      ends = ap (λ (d : Doing _ _). last_or 1 d.view.log) copy ∙ c.requires.last.ends;
    }
