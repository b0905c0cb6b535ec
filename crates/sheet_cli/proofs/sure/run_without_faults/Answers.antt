use Rattle.std.proofs.Common.{ℕ, List, inl, inr, refl, slice_index_or, arith}
use Rattle.sheet_io.specs.Faults.{Rose}
use Rattle.sheet_io.specs.Sure.{sure_holds, sure_texts}
use Rattle.sheet_io.specs.Texts.{text_or_empty}
use Rattle.sheet_io.specs.declared.sure.SureShelf.{SureShelf}
use Rattle.sheet_cli.specs.Answers.{TellsTexts}
use Rattle.sheet_cli.specs.Requests.{texts_named}
use Rattle.sheet_cli.proofs.sure.run_without_faults.Goals as goal

no_rise : ¬ Rose 0 0
no_rise (inl more) = omega (arith, more)
no_rise (inr most) = omega (arith, most)

-- each text that words name is told
all_told : (words : List (List ℕ)) (shelf : SureShelf) → TellsTexts words (sure_holds shelf)
all_told words shelf request asked k d within = (text_or_empty (sure_texts shelf) (slice_index_or (texts_named request) k d), refl)

pub returns-clause-accepted : goal.returns-clause-accepted
returns-clause-accepted g c = c.run.ensures.accepts no_rise no_rise (all_told _ c.args.shelf.now)

pub returns-clause-answered : goal.returns-clause-answered
returns-clause-answered g c = λ answer owed. c.run.ensures.complete no_rise no_rise answer (all_told _ c.args.shelf.now) owed
