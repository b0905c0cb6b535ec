use Rattle.sheet_refs.proofs.NameLemmas.{one_cell, one_range}
use Rattle.sheet_refs.proofs.PrintLemmas.{cell_printed, range_printed, reference_printed}
use Rattle.sheet_refs.proofs.laws.name_laws.Goals as goal

pub returns-clause-cells_print_names : goal.returns-clause-cells_print_names
returns-clause-cells_print_names c = cell_printed

pub returns-clause-ranges_print_names : goal.returns-clause-ranges_print_names
returns-clause-ranges_print_names c = range_printed

pub returns-clause-references_print_names : goal.returns-clause-references_print_names
returns-clause-references_print_names c = reference_printed

pub returns-clause-names_one_cell : goal.returns-clause-names_one_cell
returns-clause-names_one_cell c = one_cell

pub returns-clause-names_one_range : goal.returns-clause-names_one_range
returns-clause-names_one_range c = one_range
