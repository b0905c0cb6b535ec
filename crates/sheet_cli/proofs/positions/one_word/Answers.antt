use Rattle.sheet_cli.specs.Words.{bytes_of}
use Rattle.sheet_cli.proofs.WordLemmas.{as_bytes, not_one, one_found, refuted}
use Rattle.sheet_cli.proofs.positions.one_word.Goals as goal

pub returns-then-not-are_positions : goal.returns-then-not-are_positions
returns-then-not-are_positions c = not_one c.args.words.now (refuted c.are_positions.result c.are_positions.ensures c.if-not-are_positions.true)

pub match_one-requires : goal.match_one-requires
match_one-requires c = record { plain = as_bytes c.args.words.now (c.are_positions.ensures.0 c.if-not-are_positions.false) }

pub returns : goal.returns
returns c =
    one_found (λ s. s.now) (bytes_of c.args.words.now) c.match_one.result
    (as_bytes c.args.words.now (c.are_positions.ensures.0 c.if-not-are_positions.false)) c.match_one.ensures
