use Rattle.std.proofs.Common.{inr}
use Rattle.sheet_cli.specs.Answers.AnswersGenerated.{summed}
use Rattle.sheet_cli.proofs.generated.reply_of_generated.Goals as goal

pub returns : goal.returns
returns g c = λ holds faults. inr (summed c.in_ok-output.output c.in_ok-output.ensures)
