use Rattle.std.proofs.Common.{◌≡◌, ap, sym, subst}
use Rattle.live_run.specs.Runs.{IsRunnable}
use Rattle.live_gen.specs.Draws.{DrawsValue}
use Rattle.live_gen.specs.Rows.{IsGeneratedSheet}
use Rattle.live_gen.proofs.ScriptLemmas.{generated_runnable}
use Rattle.live_gen.proofs.generating.generate.Goals as goal

pub returns-clause-runnable : goal.returns-clause-runnable
returns-clause-runnable c =
    let same : c.draw_sheet.new.draws.number ≡ c.of-draws.result.number = ap (λ (v : DrawsValue). v.number) c.in_ok-sheet.ensures.drawn in
    subst (λ s. IsRunnable c.in_ok-sheet.sheet s) (sym c.in_ok-script.ensures)
    (generated_runnable c.draw_sheet.new.draws.number c.in_ok-sheet.sheet
    (subst (λ n. IsGeneratedSheet n c.in_ok-sheet.sheet) (sym same) c.in_ok-sheet.ensures.sheet))
