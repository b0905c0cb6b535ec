use Rattle.std.proofs.Common.{refl, sym, ◌∷◌, subst}
use Rattle.std.proofs.lemmas.Option.{MatchOption-at_none, MatchOption-at_some}
use Rattle.sheet_refs.specs.Names.{IsRangeName}
use Rattle.sheet_cli.specs.Requests.Request.{of_window}
use Rattle.sheet_cli.specs.Words.{Asks, bytes_of, command_word}
use Rattle.sheet_cli.specs.Words.CommandWord.{window_word}
use Rattle.sheet_cli.proofs.WordLemmas.{behind}
use Rattle.sheet_cli.proofs.window.read_window.Goals as goal

pub returns : goal.returns
returns c =
    let are = MatchOption-at_some _ _ _ c.in-Some.is c.in_ok-sheet.ensures in
    let named : IsRangeName c.in-Some.range.now c.in-Some-range_of.range = rw c.as_bytes.ensures.value at c.in-Some-range_of.ensures in
    subst (λ name. Asks (command_word c.args.command ∷ bytes_of c.args.words.now)
    (of_window c.args.command name c.in-Some-range_of.range)) (sym c.in_ok-sheet-2.ensures.ok)
    (record {
      command = window_word c.args.command;
      rest = bytes_of c.args.words.now;
      words_are = refl;
      behind = record {
        sheet = c.in-Some.sheet.now;
        name = c.in-Some.range.now;
        window = c.in-Some-range_of.range;
        positions = are;
        named = named;
        request_is = refl;
      };
    })

pub returns-in_default : goal.returns-in_default
returns-in_default c = λ request asked.
    let asks = behind (window_word c.args.command) (bytes_of c.args.words.now) request asked in
    MatchOption-at_none _ _ c.in_default.is c.in_ok-sheet.ensures asks.sheet asks.name asks.positions
