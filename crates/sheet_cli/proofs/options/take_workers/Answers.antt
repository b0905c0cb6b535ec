use Rattle.std.proofs.Common.{◌≡◌, ◌++◌, All, refl, sym, ◌∙◌, ap, subst}
use Rattle.std.specs.Prelude.{string_bytes}
use Rattle.std.proofs.lemmas.List.{append-nil, nil_from_length}
use Rattle.sheet_cli.specs.Words.{IsOption, bytes_of}
use Rattle.sheet_cli.specs.Words.TakesWorkers.{without}
use Rattle.sheet_cli.proofs.WordLemmas.{as_bytes}
use Rattle.sheet_cli.proofs.options.take_workers.Goals as goal

pub returns-in_ok-join_words-in-None : goal.returns-in_ok-join_words-in-None
returns-in_ok-join_words-in-None c =
    let before = c.split_plain.result.0.now in
    let none = nil_from_length c.split_plain.result.1.now c.in-None.ensures.cases in
    let all : c.args.words.now ≡ before = c.split_plain.ensures.parts ∙ ap (λ behind. before ++ behind) none ∙ append-nil before in
    let left = c.in_ok-join_words-in-None.ensures ∙ ap (λ behind. bytes_of before ++ bytes_of behind) none
    ∙ append-nil (bytes_of before) ∙ ap bytes_of (sym all) in
    without (as_bytes c.args.words.now (subst (All (λ word. ¬ IsOption (string_bytes word))) (sym all) c.split_plain.ensures.plain)) left refl
