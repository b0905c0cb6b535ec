use Rattle.std.proofs.Common.{◌≡◌, refl, sym, ◌∙◌, [], ◌∷◌, codes, subst}
use Rattle.std.proofs.lemmas.Option.{MatchOption-at_none, MatchOption-at_some}
use Rattle.sheet_refs.specs.Names.{IsCellName}
use Rattle.sheet_cli.specs.Requests.Request.{of_path}
use Rattle.sheet_cli.specs.Words.{Asks, bytes_of}
use Rattle.sheet_cli.specs.Words.CommandWord.{path_word}
use Rattle.sheet_cli.proofs.WordLemmas.{behind}
use Rattle.sheet_cli.proofs.path.read_path.Goals as goal

pub returns : goal.returns
returns c =
    let are = MatchOption-at_some _ _ _ c.in-Some.is c.in_ok-sheet.ensures in
    let first_named : IsCellName c.in-Some.first.now c.in-Some-cell_of.from = rw c.as_bytes.ensures.value at c.in-Some-cell_of.ensures in
    let second_named : IsCellName c.in-Some.second.now c.in-Some-cell_of-2.to = rw c.as_bytes-2.ensures.value at c.in-Some-cell_of-2.ensures in
    subst (λ name. Asks (codes "path" ∷ bytes_of c.args.words.now)
    (of_path name c.in-Some-cell_of.from c.in-Some-cell_of-2.to)) (sym c.in_ok-sheet-2.ensures.ok)
    (record {
      command = path_word;
      rest = bytes_of c.args.words.now;
      words_are = refl;
      behind = record {
        sheet = c.in-Some.sheet.now;
        first = c.in-Some.first.now;
        second = c.in-Some.second.now;
        from = c.in-Some-cell_of.from;
        to = c.in-Some-cell_of-2.to;
        positions = are;
        first_named = first_named;
        second_named = second_named;
        request_is = refl;
      };
    })

pub returns-in_default : goal.returns-in_default
returns-in_default c = λ request asked.
    let asks = behind path_word (bytes_of c.args.words.now) request asked in
    MatchOption-at_none _ _ c.in_default.is c.in_ok-sheet.ensures asks.sheet asks.first asks.second asks.positions

pub returns-in_default-cell_of : goal.returns-in_default-cell_of
returns-in_default-cell_of c = λ request asked.
    let asks = behind path_word (bytes_of c.args.words.now) request asked in
    let are = MatchOption-at_some _ _ _ c.in-Some.is c.in_ok-sheet.ensures in
    let three : asks.sheet ∷ asks.first ∷ asks.second ∷ [] ≡ c.in-Some.sheet.now ∷ c.in-Some.first.now
    ∷ c.in-Some.second.now ∷ [] = sym asks.positions.words_are ∙ are.words_are in
    let firsts : asks.first ≡ c.in-Some.first.now = cc three in
    c.in_default-cell_of.ensures asks.from (subst (λ name. IsCellName name asks.from) (firsts ∙ sym c.as_bytes.ensures.value) asks.first_named)

pub returns-in_default-cell_of-2 : goal.returns-in_default-cell_of-2
returns-in_default-cell_of-2 c = λ request asked.
    let asks = behind path_word (bytes_of c.args.words.now) request asked in
    let are = MatchOption-at_some _ _ _ c.in-Some.is c.in_ok-sheet.ensures in
    let three : asks.sheet ∷ asks.first ∷ asks.second ∷ [] ≡ c.in-Some.sheet.now ∷ c.in-Some.first.now
    ∷ c.in-Some.second.now ∷ [] = sym asks.positions.words_are ∙ are.words_are in
    let seconds : asks.second ≡ c.in-Some.second.now = cc three in
    c.in_default-cell_of-2.ensures asks.to (subst (λ name. IsCellName name asks.to) (seconds ∙ sym c.as_bytes-2.ensures.value) asks.second_named)
