-- The viewer knew nothing, and knows the editor's log.
use Rattle.std.proofs.Common.{length, ◌∙◌, ap, inl, inr, arith}
use Rattle.mark_core.proofs.Prefixes.{prefix_length}
use Rattle.mark_words.specs.Tokens.{log_of}
use Rattle.mark_trial.proofs.TestLemmas.{ready_still}
use Rattle.mark_trial.proofs.words.learns.Goals as goal

pub returns-clause-ready : goal.returns-clause-ready
returns-clause-ready c = ready_still c.args.marks.now c.args.editor.now c.meet.new.other _ c.requires.ready c.meet.ensures.other_same c.meet.ensures.other_kept

pub returns-clause-log : goal.returns-clause-log
returns-clause-log c =
    let met = c.meet.ensures.met in
    let most = prefix_length (log_of c.args.editor.now) (log_of c.meet.new.seat) met.other_log in
    elim met.one_log [
      | inl own ↦ absurd (omega (arith, most, ap length (own ∙ c.requires.blank.none), c.requires.ready.entries))
      | inr theirs ↦ ap length theirs ∙ c.requires.ready.entries
    ]
