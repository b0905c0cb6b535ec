use Rattle.std.proofs.Common.{arith}
use Rattle.text_pieces.proofs.WriteLemmas.{short_row}
use Rattle.text_pieces.proofs.written.write_row.Goals as goal

pub write_digits-requires : goal.write_digits-requires
write_digits-requires c =
    let short = short_row _ _ c.requires.small c.from.ensures in
    (omega (arith, short, c.requires.room), c.requires.within)

pub returns-clause-near : goal.returns-clause-near
returns-clause-near c =
    let short = short_row _ _ c.requires.small c.from.ensures in
    omega (arith, short, c.write_digits.ensures.start)
