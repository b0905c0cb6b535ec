use Rattle.sheet_cli.specs.Words.{bytes_of}
use Rattle.sheet_cli.proofs.WordLemmas.{as_bytes, not_two, refuted, two_found}
use Rattle.sheet_cli.proofs.positions.two_words.Goals as goal

pub returns-then-not-are_positions : goal.returns-then-not-are_positions
returns-then-not-are_positions c = not_two c.args.words.now (refuted c.are_positions.result c.are_positions.ensures c.if-not-are_positions.true)

pub match_two-requires : goal.match_two-requires
match_two-requires c = record { plain = as_bytes c.args.words.now (c.are_positions.ensures.0 c.if-not-are_positions.false) }

pub returns : goal.returns
returns c =
    two_found (λ pair. pair.0.now) (λ pair. pair.1.now) (bytes_of c.args.words.now) c.match_two.result
    (as_bytes c.args.words.now (c.are_positions.ensures.0 c.if-not-are_positions.false)) c.match_two.ensures
