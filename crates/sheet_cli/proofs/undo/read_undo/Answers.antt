use Rattle.std.proofs.Common.{◌≡◌, refl, sym, ◌∙◌, [], ◌∷◌, codes, subst}
use Rattle.std.specs.Prelude.{string_bytes}
use Rattle.std.proofs.lemmas.Option.{MatchOption-at_none, MatchOption-at_some}
use Rattle.sheet_cli.specs.Requests.Request.{of_script}
use Rattle.sheet_cli.specs.Words.{Asks, IsNumber, bytes_of}
use Rattle.sheet_cli.specs.Words.CommandWord.{undo_word}
use Rattle.sheet_cli.specs.declared.script.ScriptCommand.TheVariants.{Undo}
use Rattle.sheet_cli.proofs.WordLemmas.{behind}
use Rattle.sheet_cli.proofs.undo.read_undo.Goals as goal

pub returns : goal.returns
returns c =
    let are = MatchOption-at_some _ _ _ c.in-Some.is c.in_ok-sheet.ensures in
    let numbered : IsNumber c.in-Some.digits.now c.in-Some-number_of.number = rw c.as_bytes.ensures.value at c.in-Some-number_of.ensures in
    subst (λ name. Asks (codes "undo" ∷ bytes_of c.args.words.now) (of_script (Undo c.in-Some-number_of.number) name
    (string_bytes c.in_ok-script.script))) (sym c.in_ok-sheet-2.ensures.ok)
    (subst (λ name. Asks (codes "undo" ∷ bytes_of c.args.words.now) (of_script (Undo c.in-Some-number_of.number)
    c.in-Some.sheet.now name)) (sym c.in_ok-script.ensures.ok)
    (record {
      command = undo_word;
      rest = bytes_of c.args.words.now;
      words_are = refl;
      behind = record {
        sheet = c.in-Some.sheet.now;
        script = c.in-Some.script.now;
        digits = c.in-Some.digits.now;
        number = c.in-Some-number_of.number;
        positions = are;
        numbered = numbered;
        request_is = refl;
      };
    }))

pub returns-in_default : goal.returns-in_default
returns-in_default c = λ request asked.
    let asks = behind undo_word (bytes_of c.args.words.now) request asked in
    MatchOption-at_none _ _ c.in_default.is c.in_ok-sheet.ensures asks.sheet asks.script asks.digits asks.positions

pub returns-in_default-number_of : goal.returns-in_default-number_of
returns-in_default-number_of c = λ request asked.
    let asks = behind undo_word (bytes_of c.args.words.now) request asked in
    let are = MatchOption-at_some _ _ _ c.in-Some.is c.in_ok-sheet.ensures in
    let three : asks.sheet ∷ asks.script ∷ asks.digits ∷ [] ≡ c.in-Some.sheet.now ∷ c.in-Some.script.now
    ∷ c.in-Some.digits.now ∷ [] = sym asks.positions.words_are ∙ are.words_are in
    let digits : asks.digits ≡ c.in-Some.digits.now = cc three in
    c.in_default-number_of.ensures asks.number (subst (λ word. IsNumber word asks.number) (digits ∙ sym c.as_bytes.ensures.value) asks.numbered)
