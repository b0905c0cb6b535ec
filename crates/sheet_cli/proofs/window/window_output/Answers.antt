use Rattle.std.proofs.Common.{ℕ, List}
use Rattle.window_text.specs.Texts.{runs_text, show_text}
use Rattle.sheet_cli.specs.Answers.Writes.{values, dependents, precedents}
use Rattle.sheet_cli.specs.declared.window.WindowCommand.TheVariants.{Show, Deps, Precs}
use Rattle.sheet_cli.proofs.GraphLemmas.{if_written}
use Rattle.sheet_cli.proofs.window.window_output.Goals as goal

pub returns-in-Show : goal.returns-in-Show
returns-in-Show c =
    if_written (λ (t : List ℕ). t) c.of_window.result c.args.sheet c.args.range c.args.command Show
    (show_text c.args.sheet c.args.range) c.in-Show.is c.of_window.ensures values

pub returns-in_ok-dependents_of-in-Deps : goal.returns-in_ok-dependents_of-in-Deps
returns-in_ok-dependents_of-in-Deps c =
    let runs = c.in_ok-dependents_of-in-Deps.field-0.items in
    if_written (λ (t : List ℕ). t) c.of_runs.result c.args.sheet c.args.range c.args.command Deps (runs_text runs)
    c.in-Deps.is c.of_runs.ensures (dependents runs c.in_ok-dependents_of-in-Deps.ensures)

pub returns-in_ok-precedents_of-in-Precs : goal.returns-in_ok-precedents_of-in-Precs
returns-in_ok-precedents_of-in-Precs c =
    let runs = c.in_ok-precedents_of-in-Precs.field-0.items in
    if_written (λ (t : List ℕ). t) c.of_runs-in-Precs.result c.args.sheet c.args.range c.args.command Precs
    (runs_text runs) c.in-Precs.is c.of_runs-in-Precs.ensures
    (precedents runs c.in_ok-precedents_of-in-Precs.ensures)
