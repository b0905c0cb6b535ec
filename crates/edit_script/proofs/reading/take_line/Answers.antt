use Rattle.edit_script.specs.Saying.{line_value}
use Rattle.edit_script.proofs.ReadLemmas.{says_fit}
use Rattle.edit_script.proofs.reading.take_line.Goals as goal

pub take-requires-clause-fits : goal.take-requires-clause-fits
take-requires-clause-fits c = says_fit c.args.mode c.args.text.now (line_value c.in-Some.line) c.in-Some.ensures
