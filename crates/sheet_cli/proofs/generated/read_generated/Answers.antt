use Rattle.std.proofs.Common.{◌≡◌, refl, subst, sym, ◌∙◌, ap}
use Rattle.std.proofs.lemmas.Option.{MatchOption-at_none, MatchOption-at_some}
use Rattle.sheet_cli.specs.Words.{IsOnePosition, IsNumber, bytes_of}
use Rattle.sheet_cli.specs.Words.CommandWord.{gen_word}
use Rattle.sheet_cli.proofs.OptionLemmas.{one_left}
use Rattle.sheet_cli.proofs.WordLemmas.{behind}
use Rattle.sheet_cli.proofs.generated.read_generated.Goals as goal

pub returns-in_default : goal.returns-in_default
returns-in_default c = λ request asked.
    let asks = behind gen_word (bytes_of c.args.words.now) request asked in
    MatchOption-at_none _ _ c.in_default.is c.in_ok-taken.ensures asks.left asks.workers asks.takes

pub returns-in_default-2 : goal.returns-in_default-2
returns-in_default-2 c = λ request asked.
    let asks = behind gen_word (bytes_of c.args.words.now) request asked in
    let takes = MatchOption-at_some _ _ _ c.in-Some.is c.in_ok-taken.ensures in
    let left = one_left (bytes_of c.args.words.now) asks.left (bytes_of c.in-Some.taken.words.items) asks.workers c.in-Some.taken.workers asks.takes takes in
    let none = MatchOption-at_none _ _ c.in_default-2.is c.in_ok-digits.ensures in
    none asks.digits (subst (λ ws. IsOnePosition ws asks.digits) (left.0 ∙ ap bytes_of (sym c.deref.ensures.value)) asks.position)

pub returns-in_default-run_number_of : goal.returns-in_default-run_number_of
returns-in_default-run_number_of c = λ request asked.
    let asks = behind gen_word (bytes_of c.args.words.now) request asked in
    let takes = MatchOption-at_some _ _ _ c.in-Some.is c.in_ok-taken.ensures in
    let left = one_left (bytes_of c.args.words.now) asks.left (bytes_of c.in-Some.taken.words.items) asks.workers c.in-Some.taken.workers asks.takes takes in
    let is = MatchOption-at_some _ _ _ c.in-Some-2.is c.in_ok-digits.ensures in
    let one = subst (λ ws. IsOnePosition ws c.in-Some-2.digits.now) (ap bytes_of c.deref.ensures.value) is in
    let same : asks.digits ≡ c.in-Some-2.digits.now = cc (sym asks.position.words_are ∙ left.0 ∙ one.words_are) in
    let none = MatchOption-at_none _ _ c.in_default-run_number_of.is c.run_number_of.ensures in
    none asks.number (subst (λ ds. IsNumber ds asks.number) (same ∙ sym c.as_bytes.ensures.value) asks.writes)

pub returns : goal.returns
returns c =
    let takes = MatchOption-at_some _ _ _ c.in-Some.is c.in_ok-taken.ensures in
    let is = MatchOption-at_some _ _ _ c.in-Some-2.is c.in_ok-digits.ensures in
    let one = subst (λ ws. IsOnePosition ws c.in-Some-2.digits.now) (ap bytes_of c.deref.ensures.value) is in
    record {
      command = gen_word;
      rest = bytes_of c.args.words.now;
      words_are = refl;
      behind = record {
        left = bytes_of c.in-Some.taken.words.items;
        workers = c.in-Some.taken.workers;
        digits = c.in-Some-2.digits.now;
        number = c.in-Some-run_number_of.number;
        takes = takes;
        position = one;
        writes = rw c.as_bytes.ensures.value at c.in-Some-run_number_of.ensures;
        request_is = refl;
      };
    }
