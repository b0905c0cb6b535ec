use Rattle.std.proofs.Common.{rules}
use Rattle.csv_sheet.proofs.LineLemmas.{counted_both}
use Rattle.csv_sheet.proofs.lines.Lines.and.Goals as goal

pub returns-then-self : goal.returns-then-self
returns-then-self c = λ front back first second.
    counted_both front back c.args.self.now c.args.behind.now _ first second (search rules) (search rules) (search rules)

pub returns-else-self : goal.returns-else-self
returns-else-self c = λ front back first second.
    counted_both front back c.args.self.now c.args.behind.now _ first second (search rules) (search rules) (search rules)
