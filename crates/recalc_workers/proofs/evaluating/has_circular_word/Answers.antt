use Rattle.std.proofs.Common.{sym, ◌∙◌}
use Rattle.std.proofs.lemmas.Bool.{eq-eqb, false≢true}
use Rattle.std.proofs.lemmas.List.Folds.{list_any_at}
use Rattle.std.proofs.lemmas.Option.{get_or_from_slice_get, slice_get_within}
use Rattle.recalc_workers.proofs.evaluating.has_circular_word.Goals as goal

pub returns : goal.returns
returns c = λ none i word at same.
    false≢true (sym none ∙ c.contains.ensures.value ∙ list_any_at _ c.args.words.now i 0 (slice_get_within c.args.words.now i word at)
    (eq-eqb _ _ (get_or_from_slice_get c.args.words.now i word 0 at ∙ same ∙ sym c.get-circular.ensures)))
