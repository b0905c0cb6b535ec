use Rattle.std.proofs.Common.{ap, sym, ◌∙◌, ◌∷◌, []}
use Rattle.sheet_cli.specs.Words.{bytes_of}
use Rattle.sheet_cli.proofs.ClapLemmas.{some_of, taken_of}
use Rattle.sheet_cli.proofs.ClapOne.{has_first, not_one}
use Rattle.sheet_cli.proofs.WordLemmas.{refuted}
use Rattle.sheet_cli.proofs.positions.match_one.Goals as goal

pub unwrap-requires : goal.unwrap-requires
unwrap-requires c =
    let found = has_first (bytes_of c.args.words.now) _ c.in-Ok.matches c.requires.plain c.in_ok-one_position.ensures
    c.in-Ok.ensures.matches c.in-Ok.ensures.kinds in
    some_of (λ s. s.now) c.get_str.result found.first (c.get_str.ensures ∙ found.first_is)

pub returns-in-Ok : goal.returns-in-Ok
returns-in-Ok c =
    let found = has_first (bytes_of c.args.words.now) _ c.in-Ok.matches c.requires.plain c.in_ok-one_position.ensures
    c.in-Ok.ensures.matches c.in-Ok.ensures.kinds in
    let first = taken_of (λ s. s.now) c.get_str.result c.unwrap.result found.first c.unwrap.ensures (c.get_str.ensures ∙ found.first_is) in
    found.words_are ∙ ap (λ a. a ∷ []) (sym first)

pub returns : goal.returns
returns c =
    not_one (bytes_of c.args.words.now) _ c.in-Err.error c.requires.plain c.in_ok-one_position.ensures c.in-Err.ensures.kinds
    (refuted c.ran_out.result c.ran_out.ensures c.if-ran_out.false)
