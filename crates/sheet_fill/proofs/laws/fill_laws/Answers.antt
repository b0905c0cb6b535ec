use Rattle.sheet_fill.proofs.FillLemmas.{filled_copies, filled_others}
use Rattle.sheet_fill.proofs.FillTextLemmas.{fill_says}
use Rattle.sheet_fill.proofs.FilledPairs.{filled_pairs, reference_onward, run_pairs}
use Rattle.sheet_fill.proofs.PairLemmas.{one_listed}
use Rattle.sheet_fill.proofs.ScriptLemmas.{says_edit}
use Rattle.sheet_fill.proofs.laws.fill_laws.Goals as goal

pub returns-clause-copies : goal.returns-clause-copies
returns-clause-copies c = λ sheet from range cell is inside here differs. filled_copies sheet from range cell is inside here differs

pub returns-clause-others : goal.returns-clause-others
returns-clause-others c = filled_others

pub returns-clause-one_edge : goal.returns-clause-one_edge
returns-clause-one_edge c = λ run reference edge edges is stand none same.
    c.join_laws.ensures.alone edges stand none edge is.is_edge (λ pair. (
      λ there. (one_listed edge pair).1 ((is.pairs pair.range pair.cell).1 ((same pair).0 there)),
      λ there. (same pair).1 ((is.pairs pair.range pair.cell).0 ((one_listed edge pair).0 there)),
    ))

pub returns-clause-along : goal.returns-clause-along
returns-clause-along c = reference_onward

pub returns-clause-pairs : goal.returns-clause-pairs
returns-clause-pairs c = λ sheet run tree index range is inside line head within stay.
    filled_pairs sheet run tree index range (record { sheet_is = is; inside = inside; line = line; head = head }) within stay

pub returns-clause-sheet_edge : goal.returns-clause-sheet_edge
returns-clause-sheet_edge c = λ sheet run tree reference edge edges is inside line head one filled stand none same.
    c.join_laws.ensures.alone edges stand none edge filled.is_edge (λ pair.
    (let those = run_pairs sheet run tree reference pair.range pair.cell (record { sheet_is = is; inside = inside; line = line; head = head }) one
    filled.stays in (
      λ there. (one_listed edge pair).1 ((filled.pairs pair.range pair.cell).1 (those.0 ((same pair).0 there))),
      λ there. (same pair).1 (those.1 ((filled.pairs pair.range pair.cell).0 ((one_listed edge pair).0 there))),
    )))

pub returns-clause-texts : goal.returns-clause-texts
returns-clause-texts c = says_edit

pub returns-clause-fill_texts : goal.returns-clause-fill_texts
returns-clause-fill_texts c = fill_says
