-- One cell more is marked.
use Rattle.std.proofs.Common.{◌+◌, take, inl, refl}
use Rattle.sheet_model.proofs.ListLemmas.{taken_more}
use Rattle.mark_words.specs.Tokens.{doing_of, own_steps}
use Rattle.live_sheet.proofs.EditLemmas.{none_marked, one_marked, one_mark_more}
use Rattle.live_sheet.proofs.marking.mark_cells.Goals as goal

pub loop-cell-init : goal.loop-cell-init
loop-cell-init c =
    record { same = c.requires.table; marked = none_marked c.args.sizes c.args.entry.now (doing_of c.args.editor.now) (inl c.requires.idle); steps = refl }

pub loop-cell-preserved : goal.loop-cell-preserved
loop-cell-preserved c =
    let l = c.loop-cell in
    let more = taken_more c.args.cells.now l.cell-index c.cell-item.result c.loop-cell-test.true c.cell-item.is in
    record {
      same = c.mark_cell.ensures.same;
      marked = one_marked c.args.sizes c.args.entry.now c.args.number (take l.cell-index c.args.cells.now)
          (take (l.cell-index + 1) c.args.cells.now) c.cell-item.result (doing_of c.args.editor.now) (doing_of l.editor)
          (doing_of c.mark_cell.new.editor) more l.invariant.marked c.mark_cell.ensures.doing;
      steps = one_mark_more c.args.sizes c.args.entry.now c.args.number (take l.cell-index c.args.cells.now)
          (take (l.cell-index + 1) c.args.cells.now) c.cell-item.result (own_steps c.args.editor.now)
          (own_steps l.editor) (own_steps c.mark_cell.new.editor) more l.invariant.steps c.mark_cell.ensures.step;
    }
