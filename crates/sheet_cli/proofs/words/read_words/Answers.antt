use Rattle.std.proofs.Common.{◌≡◌, ap, sym, ◌∙◌, ◌∷◌, subst}
use Rattle.sheet_cli.specs.Words.{IsAskedBy, bytes_of, command_word}
use Rattle.std.proofs.lemmas.Option.{MatchOption-at_some}
use Rattle.std.specs.Prelude.{IfOk, string_bytes}
use Rattle.sheet_cli.proofs.words.read_words.Goals as goal

pub returns-in-Some-window_command : goal.returns-in-Some-window_command
returns-in-Some-window_command c =
    let named : string_bytes c.in-Some.command.now ≡ command_word c.in-Some-window_command.window =
    sym c.as_str.ensures.value ∙ MatchOption-at_some _ _ _ c.in-Some-window_command.is c.window_command.ensures in
    let words_are : bytes_of c.args.words.now ≡ command_word c.in-Some-window_command.window
    ∷ bytes_of c.in-Some.rest.now = ap bytes_of c.in-Some.ensures.cases.0
    ∙ ap (λ w. w ∷ bytes_of c.in-Some.rest.now) named in
    subst (λ words. IfOk c.read_window.result (IsAskedBy words)) (sym words_are) c.read_window.ensures

pub returns-in-None : goal.returns-in-None
returns-in-None c =
    let words_are : bytes_of c.args.words.now ≡ c.as_str-in-None.result.now ∷ bytes_of c.in-Some.rest.now =
    ap bytes_of c.in-Some.ensures.cases.0 ∙ ap (λ w. w ∷ bytes_of c.in-Some.rest.now) (sym c.as_str-in-None.ensures.value) in
    subst (λ words. IfOk c.read_other.result (IsAskedBy words)) (sym words_are) c.read_other.ensures
