use Rattle.mark_words.specs.Tokens.{subject_of, doing_of}
use Rattle.mark_trial.proofs.TestLemmas.{has_read}
use Rattle.mark_trial.proofs.words.uses.reads.Goals as goal

pub returns-clause-read : goal.returns-clause-read
returns-clause-read g c =
    has_read (g.S.Subject.worth (subject_of c.args.marks.now)) (g.S.Subject.touches (subject_of c.args.marks.now))
    (doing_of c.args.seat.now) (doing_of c.read_clean-clean.new.seat)
    (doing_of c.read_value-word.new.seat) (doing_of c.read_mark-mark.new.seat) c.args.place
    c.read_clean-clean.result c.read_value-word.result c.read_mark-mark.result
    c.read_clean-clean.ensures.doing c.read_value-word.ensures.doing c.read_mark-mark.ensures.doing
    c.read_value-word.ensures.goes_on c.read_mark-mark.ensures.ends c.read_mark-mark.ensures.tells
