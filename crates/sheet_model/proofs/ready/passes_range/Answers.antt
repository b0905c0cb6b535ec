use Rattle.sheet_model.proofs.ready.passes_range.Goals as goal

pub is_plain_range-requires-clause-inside : goal.is_plain_range-requires-clause-inside
is_plain_range-requires-clause-inside c = λ cell inside. ((c.in-Some.ensures.cells cell).0 inside).1

pub returns : goal.returns
returns c = λ yes cell inside held. c.is_plain_range.ensures yes cell ((c.in-Some.ensures.cells cell).1 (inside, held))
