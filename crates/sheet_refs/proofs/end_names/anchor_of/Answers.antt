use Rattle.sheet_refs.proofs.EndLemmas.{parts, named_from}
use Rattle.sheet_refs.proofs.end_names.anchor_of.Goals as goal

pub returns-in_err-col : goal.returns-in_err-col
returns-in_err-col c = rw c.from_residual.ensures
    (λ end name. c.in_err-col.ensures end.cell.col (rw (
      c.split_at.ensures.front,
      c.letters_in_front.ensures.count,
      c.dollar_off-col_fixed.ensures.rest,
    ) (parts _ end name).column))

pub returns-in_err-row : goal.returns-in_err-row
returns-in_err-row c = rw c.from_residual-in_err-row.ensures
    (λ end name. c.in_err-row.ensures end.cell.row (rw (
      c.dollar_off-row_fixed.ensures.rest,
      c.split_at.ensures.back,
      c.letters_in_front.ensures.count,
      c.dollar_off-col_fixed.ensures.rest,
    ) (parts _ end name).row))

pub returns-in_err-cell : goal.returns-in_err-cell
returns-in_err-cell c = rw c.from_residual-in_err-cell.ensures
    (λ end name. absurd (cc (c.in_err-cell.ensures.named.1 (named_from _ _ _ _ c.in_ok-col.ensures c.in_ok-row.ensures))))
