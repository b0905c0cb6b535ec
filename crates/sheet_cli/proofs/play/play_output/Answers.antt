use Rattle.std.proofs.Common.{ap, subst, ◌∙◌}
use Rattle.std.proofs.lemmas.Result.{IfOk-weaker}
use Rattle.sheet_model.specs.Sheets.{SheetValue}
use Rattle.play_machine.specs.Machine.{ArePlayed}
use Rattle.window_text.specs.Reports.{play_text}
use Rattle.sheet_cli.proofs.play.play_output.Goals as goal

pub returns : goal.returns
returns c =
    IfOk-weaker c.of_reports.result _ _ (λ text is. record {
      reports = c.in_ok-book-2.reports.items;
      played = subst (λ s. ArePlayed s c.args.steps.now c.in_ok-book-2.reports.items) c.in_ok-book.ensures.opened.sheet c.in_ok-book-2.ensures.reports;
      text_is = is ∙ ap (λ labels. play_text labels c.in_ok-book-2.reports.items) (c.in_ok-book-2.ensures.labels
          ∙ ap (λ (s : SheetValue). s.labels) c.in_ok-book.ensures.opened.sheet);
    }) c.of_reports.ensures
