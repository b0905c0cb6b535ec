use Rattle.std.proofs.Common.{◌≤◌, length, arith}
use Rattle.std.proofs.lemmas.Bool.Decides.{nat_tests}
use Rattle.sheet_refs.specs.Cells.{cells_of}
use Rattle.sheet_model.specs.Words.{states_of}
use Rattle.sheet_model.proofs.LookLemmas.{past_cells}
use Rattle.sheet_model.proofs.words.is_plain_range.Goals as goal

pub first_stop-requires-clause-part : goal.first_stop-requires-clause-part
first_stop-requires-clause-part c = record {
  inside = c.requires.inside;
  passed = λ k cell less at. absurd (omega (arith, less));
}

pub returns : goal.returns
returns c = λ yes cell inside.
    let count = c.cells.ensures.count in
    let all : length (cells_of c.args.range) ≤ c.first_stop.result = grind (arith, nat_tests, yes, count) in
    past_cells c.args.sizes (states_of c.args.words.now) (record { range = c.args.range; next = 0 }) c.first_stop.result
    c.first_stop.ensures.part all c.cells.ensures.listed cell inside
