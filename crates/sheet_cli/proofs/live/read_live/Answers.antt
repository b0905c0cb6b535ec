use Rattle.std.proofs.Common.{refl, subst, sym, ◌∷◌, ◌∙◌, ap, codes}
use Rattle.std.specs.Prelude.{string_bytes}
use Rattle.std.proofs.lemmas.Option.{MatchOption-at_none, MatchOption-at_some}
use Rattle.sheet_cli.specs.Requests.Request.{of_script}
use Rattle.sheet_cli.specs.Words.{AreTwoPositions, Asks, bytes_of}
use Rattle.sheet_cli.specs.Words.CommandWord.{live_word}
use Rattle.sheet_cli.specs.declared.script.ScriptCommand.TheVariants.{Live}
use Rattle.sheet_cli.proofs.OptionLemmas.{one_left}
use Rattle.sheet_cli.proofs.WordLemmas.{behind}
use Rattle.sheet_cli.proofs.live.read_live.Goals as goal

pub returns-in_default : goal.returns-in_default
returns-in_default c = λ request asked.
    let asks = behind live_word (bytes_of c.args.words.now) request asked in
    MatchOption-at_none _ _ c.in_default.is c.in_ok-taken.ensures asks.left asks.workers asks.takes

pub returns-in_default-2 : goal.returns-in_default-2
returns-in_default-2 c = λ request asked.
    let asks = behind live_word (bytes_of c.args.words.now) request asked in
    let takes = MatchOption-at_some _ _ _ c.in-Some.is c.in_ok-taken.ensures in
    let left = one_left (bytes_of c.args.words.now) asks.left (bytes_of c.in-Some.taken.words.items) asks.workers c.in-Some.taken.workers asks.takes takes in
    let none = MatchOption-at_none _ _ c.in_default-2.is c.in_ok-sheet.ensures in
    none asks.sheet asks.script (subst (λ ws. AreTwoPositions ws asks.sheet asks.script) (left.0 ∙ ap bytes_of (sym c.deref.ensures.value)) asks.positions)

pub returns : goal.returns
returns c =
    let takes = MatchOption-at_some _ _ _ c.in-Some.is c.in_ok-taken.ensures in
    let are = MatchOption-at_some _ _ _ c.in-Some-2.is c.in_ok-sheet.ensures in
    let two = subst (λ ws. AreTwoPositions ws c.in-Some-2.sheet.now c.in-Some-2.script.now) (ap bytes_of c.deref.ensures.value) are in
    let asked : Asks (codes "live" ∷ bytes_of c.args.words.now) (of_script (Live c.in-Some.taken.workers)
    c.in-Some-2.sheet.now c.in-Some-2.script.now) = record {
      command = live_word;
      rest = bytes_of c.args.words.now;
      words_are = refl;
      behind = record {
        left = bytes_of c.in-Some.taken.words.items;
        workers = c.in-Some.taken.workers;
        sheet = c.in-Some-2.sheet.now;
        script = c.in-Some-2.script.now;
        takes = takes;
        positions = two;
        request_is = refl;
      };
    } in
    subst (λ name. Asks (codes "live" ∷ bytes_of c.args.words.now) (of_script (Live c.in-Some.taken.workers) name
    (string_bytes c.in_ok-script.script))) (sym c.in_ok-sheet-2.ensures.ok)
    (subst (λ name. Asks (codes "live" ∷ bytes_of c.args.words.now) (of_script (Live c.in-Some.taken.workers)
    c.in-Some-2.sheet.now name)) (sym c.in_ok-script.ensures.ok) asked)
