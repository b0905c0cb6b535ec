use Rattle.std.proofs.Common.{◌≡◌, rules, length}
use Rattle.csv_sheet.proofs.LineLemmas.{counted_more, counted_same}
use Rattle.csv_sheet.proofs.lines.Lines.with.Goals as goal

pub returns-then-is_empty-clause-counted : goal.returns-then-is_empty-clause-counted
returns-then-is_empty-clause-counted c = λ rows is.
    let none : length c.args.line.now ≡ 0 = search rules in
    counted_same rows c.args.line.now c.args.self.now none is

pub returns-then-self-clause-counted : goal.returns-then-self-clause-counted
returns-then-self-clause-counted c = λ rows is.
    counted_more rows c.args.line.now c.args.self.now _ (search rules) c.requires.ascii (search rules) (search rules) (search rules) is

pub returns-else-self-clause-counted : goal.returns-else-self-clause-counted
returns-else-self-clause-counted c = λ rows is.
    counted_more rows c.args.line.now c.args.self.now _ (search rules) c.requires.ascii (search rules) (search rules) (search rules) is
