use Rattle.std.proofs.Common.{rules}
use Rattle.mark_words.proofs.SeatSteps.{splits}
use Rattle.mark_words.proofs.marks.Marks.split.Goals as goal

pub split_seat-copy-requires : goal.split_seat-copy-requires
split_seat-copy-requires g c = (
  search rules,
  search rules,
  splits c.args.self.now.table.shared.key.subject.value
      (g.S.Subject.places c.args.self.now.table.shared.key.subject.value)
      (g.S.Subject.worth c.args.self.now.table.shared.key.subject.value)
      (g.S.Subject.touches c.args.self.now.table.shared.key.subject.value) (g.S.Subject.untouched c.args.self.now.table.shared.key.subject.value)
      c.args.self.now.table.shared.key.opening.value _ _ c.args.seat.now.live,
)
