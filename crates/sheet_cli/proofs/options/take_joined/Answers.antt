use Rattle.std.proofs.lemmas.Option.{MatchOption-at_none, MatchOption-at_some}
use Rattle.sheet_cli.specs.Words.{bytes_of}
use Rattle.sheet_cli.proofs.OptionLemmas.{no_workers, one_taken}
use Rattle.sheet_cli.proofs.WordLemmas.{as_bytes}
use Rattle.sheet_cli.proofs.options.take_joined.Goals as goal

pub returns-in-Some : goal.returns-in-Some
returns-in-Some c =
    let is = MatchOption-at_some _ _ _ c.in-Some.is c.digits_in.ensures in
    one_taken (bytes_of c.args.before.now) (bytes_of c.args.after.now) c.args.option.now c.in-Some.digits.now
    (as_bytes c.args.before.now c.requires.plain) is c.take_number.result c.take_number.ensures

pub returns-in-None : goal.returns-in-None
returns-in-None c =
    let none = MatchOption-at_none _ _ c.in-None.is c.digits_in.ensures in
    no_workers (bytes_of c.args.before.now) (bytes_of c.args.after.now) c.args.option.now
    (as_bytes c.args.before.now c.requires.plain) c.requires.option c.requires.other none
