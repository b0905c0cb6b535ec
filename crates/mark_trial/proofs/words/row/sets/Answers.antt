-- Both cells are marked, and the entry is the last one.
use Rattle.std.proofs.Common.{ℕ, ◌∙◌, ap}
use Rattle.mark_words.specs.declared.tables.Doing.{Doing}
use Rattle.mark_words.specs.Tokens.{log_of}
use Rattle.mark_trial.specs.TwoTestCells.{last_or}
use Rattle.mark_trial.proofs.TestLemmas.{both_marked, entry_pending, ready_next, last_added}
use Rattle.mark_trial.proofs.words.row.sets.Goals as goal

pub commit-requires-clause-marked : goal.commit-requires-clause-marked
commit-requires-clause-marked c κs entry pending place there touched =
    both_marked c.args.marks.now c.args.editor.now c.mark.new.seat c.mark-2.new.seat c.args.entry c.args.count _
    c.requires.ready c.mark.ensures.doing c.mark-2.ensures.doing place touched

pub returns-clause-ready : goal.returns-clause-ready
returns-clause-ready c =
    let pending = entry_pending c.args.marks.now c.args.editor.now c.mark.new.seat c.mark-2.new.seat c.args.entry
    c.args.count _ c.requires.ready c.mark.ensures.doing c.mark-2.ensures.doing in
    ready_next c.args.marks.now c.args.editor.now c.mark.new.seat c.mark-2.new.seat c.args.entry c.args.count _
    c.requires.ready c.mark.ensures.doing c.mark-2.ensures.doing
    c.commit.new.seat c.commit.ensures.same (c.commit.ensures.doing c.args.entry pending)

pub returns-clause-last : goal.returns-clause-last
returns-clause-last c =
    let second = c.mark-2.ensures.doing in
    let last = c.commit.ensures.doing c.args.entry (ap (λ (d : Doing _ ℕ). d.edits.pending) second) in
    let ready = returns-clause-ready c in
    record {
      table = ready.table;
      two = ready.two;
      entries = ready.entries;
      ends =
          ap (λ (d : Doing _ ℕ). last_or 1 d.view.log) last
          ∙ last_added 1 (log_of c.mark-2.new.seat) c.args.entry;
    }
