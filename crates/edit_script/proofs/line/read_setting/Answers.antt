use Rattle.std.proofs.Common.{◌∙◌, length, sym, ap, subst, arith}
use Rattle.sheet_refs.specs.Names.{IsCellName}
use Rattle.edit_script.proofs.SpaceLemmas.{split_there, cell_name_space}
use Rattle.edit_script.proofs.line.read_setting.Goals as goal

pub returns-in_err-name : goal.returns-in_err-name
returns-in_err-name c = rw c.from_residual.ensures (λ value meant.
    let sets = meant.3 in
    rw c.in_err-name.was at (split_there c.args.text.now sets.name meant.1 c.split_once.result
    c.split_once.ensures.cases (cell_name_space sets.name meant.0 sets.names) sets.text_is))

pub returns-in_err-cell : goal.returns-in_err-cell
returns-in_err-cell c = rw c.from_residual-in_err-cell.ensures (λ value meant.
    let sets = meant.3 in
    let parts =
    rw c.in_ok-name.was at (split_there c.args.text.now sets.name meant.1 c.split_once.result
    c.split_once.ensures.cases (cell_name_space sets.name meant.0 sets.names) sets.text_is) in
    c.in_err-cell.ensures meant.0 (subst (λ n. IsCellName n meant.0) (sym (c.as_bytes.ensures.value ∙ parts.0)) sets.names))

pub returns-then-content-gt-MAX_FIELD : goal.returns-then-content-gt-MAX_FIELD
returns-then-content-gt-MAX_FIELD c = λ value meant.
    let sets = meant.3 in
    let parts =
    rw c.in_ok-name.was at (split_there c.args.text.now sets.name meant.1 c.split_once.result
    c.split_once.ensures.cases (cell_name_space sets.name meant.0 sets.names) sets.text_is) in
    let long = c.if-content-gt-MAX_FIELD.true in
    let short = sets.short in
    let same = ap length parts.1 in
    omega (arith, long, short, same)
