use Rattle.std.proofs.Common.{refl, sym, ◌∷◌, codes, subst}
use Rattle.std.proofs.lemmas.Option.{MatchOption-at_none, MatchOption-at_some}
use Rattle.sheet_cli.specs.Requests.Request.{of_check}
use Rattle.sheet_cli.specs.Words.{Asks, bytes_of}
use Rattle.sheet_cli.specs.Words.CommandWord.{check_word}
use Rattle.sheet_cli.proofs.WordLemmas.{behind}
use Rattle.sheet_cli.proofs.check.read_check.Goals as goal

pub returns : goal.returns
returns c =
    let are = MatchOption-at_some _ _ _ c.in-Some.is c.in_ok-sheet.ensures in
    subst (λ name. Asks (codes "check" ∷ bytes_of c.args.words.now) (of_check name)) (sym c.in_ok-sheet-2.ensures.ok)
    (record {
      command = check_word;
      rest = bytes_of c.args.words.now;
      words_are = refl;
      behind = record { sheet = c.in-Some.sheet.now; position = are; request_is = refl };
    })

pub returns-in_default : goal.returns-in_default
returns-in_default c = λ request asked.
    let asks = behind check_word (bytes_of c.args.words.now) request asked in
    MatchOption-at_none _ _ c.in_default.is c.in_ok-sheet.ensures asks.sheet asks.position
