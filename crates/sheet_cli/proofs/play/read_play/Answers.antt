use Rattle.std.proofs.Common.{refl, sym, ◌∷◌, codes, subst}
use Rattle.std.specs.Prelude.{string_bytes}
use Rattle.std.proofs.lemmas.Option.{MatchOption-at_none, MatchOption-at_some}
use Rattle.sheet_cli.specs.Requests.Request.{of_script}
use Rattle.sheet_cli.specs.Words.{Asks, bytes_of}
use Rattle.sheet_cli.specs.Words.CommandWord.{play_word}
use Rattle.sheet_cli.specs.declared.script.ScriptCommand.TheVariants.{Play}
use Rattle.sheet_cli.proofs.WordLemmas.{behind}
use Rattle.sheet_cli.proofs.play.read_play.Goals as goal

pub returns : goal.returns
returns c =
    let are = MatchOption-at_some _ _ _ c.in-Some.is c.in_ok-sheet.ensures in
    subst (λ name. Asks (codes "play" ∷ bytes_of c.args.words.now) (of_script Play name (string_bytes c.in_ok-script.script))) (sym c.in_ok-sheet-2.ensures.ok)
    (subst (λ name. Asks (codes "play" ∷ bytes_of c.args.words.now) (of_script Play c.in-Some.sheet.now name)) (sym c.in_ok-script.ensures.ok)
    (record {
      command = play_word;
      rest = bytes_of c.args.words.now;
      words_are = refl;
      behind = record { sheet = c.in-Some.sheet.now; script = c.in-Some.script.now; positions = are; request_is = refl };
    }))

pub returns-in_default : goal.returns-in_default
returns-in_default c = λ request asked.
    let asks = behind play_word (bytes_of c.args.words.now) request asked in
    MatchOption-at_none _ _ c.in_default.is c.in_ok-sheet.ensures asks.sheet asks.script asks.positions
