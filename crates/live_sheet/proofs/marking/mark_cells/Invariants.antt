use Rattle.std.proofs.Common.{take}
use Rattle.mark_words.specs.Tokens.{IsSeatOf, doing_of, own_steps}
use Rattle.live_sheet.specs.Edits.{HasMarked, marks_of}
use Rattle.live_sheet.specs.Steps.{StepsAre}
use Rattle.live_sheet.proofs.marking.mark_cells.Given as goal

abbrev pub invariant-loop-cell : goal.invariant-loop-cell
invariant-loop-cell l =
    record {
      same : IsSeatOf l.marks l.editor;
      marked : HasMarked l.sizes l.entry (take l.cell-index l.cells) (doing_of l.fn.editor) (doing_of l.editor);
      steps : StepsAre (own_steps l.fn.editor) (marks_of l.sizes l.entry l.number (take l.cell-index l.cells)) (own_steps l.editor);
    }
