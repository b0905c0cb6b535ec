use Rattle.std.proofs.Common.{◌≡◌, ◌++◌}
use Rattle.std.proofs.lemmas.List.{take-append-drop}
use Rattle.sheet_refs.proofs.NameLemmas.{name_column, name_row, name_joined}
use Rattle.sheet_refs.proofs.names.cell_of.Goals as goal

pub returns-in_err-col : goal.returns-in_err-col
returns-in_err-col c =
    rw c.from_residual.ensures
    (λ cell name. c.in_err-col.ensures cell.col (rw (c.split_at.ensures.front, c.letters_in_front.ensures.count) (name_column _ cell name)))

pub returns-in_err-row : goal.returns-in_err-row
returns-in_err-row c =
    rw c.from_residual-in_err-row.ensures
    (λ cell name. c.in_err-row.ensures cell.row (rw (c.split_at.ensures.back, c.letters_in_front.ensures.count) (name_row _ cell name)))

pub returns : goal.returns
returns c =
    let split : c.split_at.result.0.now ++ c.split_at.result.1.now ≡ c.args.text.now =
    rw (c.split_at.ensures.front, c.split_at.ensures.back) (take-append-drop c.letters_in_front.result
    c.args.text.now) in
    name_joined _ _ _ _ _ _ split c.in_ok-col.ensures c.in_ok-row.ensures c.new.ensures.named c.new.ensures.position
