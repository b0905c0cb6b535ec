use Rattle.sheet_model.proofs.ApplyLemmas.{IsExchanged}
use Rattle.sheet_model.proofs.sheet.Sheet.apply.Given as goal

abbrev pub invariant-loop-place : goal.invariant-loop-place
invariant-loop-place l = IsExchanged l.fn.self l.fn.edit l.place l.self l.changes.items
