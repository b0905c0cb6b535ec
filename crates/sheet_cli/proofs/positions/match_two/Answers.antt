use Rattle.std.proofs.Common.{ap₂, sym, ◌∙◌, ◌∷◌, []}
use Rattle.sheet_cli.specs.Words.{bytes_of}
use Rattle.sheet_cli.proofs.ClapLemmas.{both, not_two, some_of, taken_of}
use Rattle.sheet_cli.proofs.WordLemmas.{refuted}
use Rattle.sheet_cli.proofs.positions.match_two.Goals as goal

pub unwrap-first-requires : goal.unwrap-first-requires
unwrap-first-requires c =
    let found = both (bytes_of c.args.words.now) _ c.in-Ok.matches c.requires.plain c.in_ok-two_positions.ensures
    c.in-Ok.ensures.matches c.in-Ok.ensures.kinds in
    some_of (λ s. s.now) c.get_str.result found.first (c.get_str.ensures ∙ found.first_is)

pub unwrap-second-requires : goal.unwrap-second-requires
unwrap-second-requires c =
    let found = both (bytes_of c.args.words.now) _ c.in-Ok.matches c.requires.plain c.in_ok-two_positions.ensures
    c.in-Ok.ensures.matches c.in-Ok.ensures.kinds in
    some_of (λ s. s.now) c.get_str-in-Ok.result found.second (c.get_str-in-Ok.ensures ∙ found.second_is)

pub returns-in-Ok : goal.returns-in-Ok
returns-in-Ok c =
    let found = both (bytes_of c.args.words.now) _ c.in-Ok.matches c.requires.plain c.in_ok-two_positions.ensures
    c.in-Ok.ensures.matches c.in-Ok.ensures.kinds in
    let first = taken_of (λ s. s.now) c.get_str.result c.unwrap-first.result found.first c.unwrap-first.ensures (c.get_str.ensures ∙ found.first_is) in
    let second = taken_of (λ s. s.now) c.get_str-in-Ok.result c.unwrap-second.result found.second
    c.unwrap-second.ensures (c.get_str-in-Ok.ensures ∙ found.second_is) in
    found.words_are ∙ ap₂ (λ a b. a ∷ b ∷ []) (sym first) (sym second)

pub returns : goal.returns
returns c =
    not_two (bytes_of c.args.words.now) _ c.in-Err.error c.requires.plain c.in_ok-two_positions.ensures c.in-Err.ensures.kinds
    (refuted c.ran_out.result c.ran_out.ensures c.if-ran_out.false)
