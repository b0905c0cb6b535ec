use Rattle.sheet_cli.proofs.script.script_of.Goals as goal

pub returns-clause-table : goal.returns-clause-table
returns-clause-table c = c.labels.ensures.sheet.table
