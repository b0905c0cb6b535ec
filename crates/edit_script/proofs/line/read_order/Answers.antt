use Rattle.std.proofs.Common.{sym, subst}
use Rattle.std.specs.Option.{option_map}
use Rattle.sheet_refs.specs.Names.{IsCellName, IsRangeName}
use Rattle.edit_script.specs.Lines.{FitsMode}
use Rattle.edit_script.specs.Lines.IsOrder.{client, set, clear, look, firm, work}
use Rattle.edit_script.specs.Saying.{line_value, Orders}
use Rattle.edit_script.proofs.FindLemmas.{finds_same}
use Rattle.edit_script.proofs.OrderLemmas.{says_client, says_set, says_clear, says_look, says_work}
use Rattle.edit_script.proofs.line.read_order.Goals as goal

pub returns-in-client : goal.returns-in-client
returns-in-client c = finds_same (option_map line_value c.read_client.result) _ (Orders c.args.mode c.args.word.now c.args.behind.now)
    (λ value found. subst (Orders c.args.mode c.args.word.now c.args.behind.now) (sym found.0)
    (client c.args.word.now c.args.behind.now c.in-client.is found.1, tt))
    (λ value meant. says_client c.args.word.now c.args.behind.now value c.in-client.is meant.0)
    c.read_client.ensures

pub returns-in-set : goal.returns-in-set
returns-in-set c = finds_same (option_map line_value c.read_setting.result) _ (Orders c.args.mode c.args.word.now c.args.behind.now)
    (λ value found. subst (Orders c.args.mode c.args.word.now c.args.behind.now) (sym found.2)
    (set c.args.word.now c.args.behind.now found.1 found.0 c.in-set.is found.3, tt))
    (λ value meant. says_set c.args.word.now c.args.behind.now value c.in-set.is meant.0)
    c.read_setting.ensures

pub returns-in-work : goal.returns-in-work
returns-in-work c = finds_same (option_map line_value c.read_turns.result) _ (Orders c.args.mode c.args.word.now c.args.behind.now)
    (λ value found. subst (Orders c.args.mode c.args.word.now c.args.behind.now) (sym found.1) (
      work c.args.word.now c.args.behind.now found.0 c.in-work.is found.2,
      subst (FitsMode c.args.mode) found.1 found.3,
    ))
    (λ value meant. let says = says_work c.args.word.now c.args.behind.now value c.in-work.is meant.0 in (says.0, says.1, says.2, meant.1))
    c.read_turns.ensures

pub returns-in_err-cell_of-in-clear : goal.returns-in_err-cell_of-in-clear
returns-in_err-cell_of-in-clear c = rw c.from_residual.ensures (λ value meant.
    let says = says_clear c.args.word.now c.args.behind.now value c.in-clear.is meant.0 in
    c.in_err-cell_of-in-clear.ensures says.0 (subst (λ n. IsCellName n says.0) (sym c.as_bytes.ensures.value) says.2))

pub returns-in_ok-cell_of-in-clear : goal.returns-in_ok-cell_of-in-clear
returns-in_ok-cell_of-in-clear c = (
  clear c.args.word.now c.args.behind.now c.in_ok-cell_of-in-clear.field-0 c.in-clear.is
      (subst (λ n. IsCellName n c.in_ok-cell_of-in-clear.field-0) c.as_bytes.ensures.value c.in_ok-cell_of-in-clear.ensures),
  tt,
)

pub returns-in_ok-range_of-in-look : goal.returns-in_ok-range_of-in-look
returns-in_ok-range_of-in-look c = (
  look c.args.word.now c.args.behind.now c.in_ok-range_of-in-look.field-0 c.in-look.is
      (subst (λ n. IsRangeName n c.in_ok-range_of-in-look.field-0) c.as_bytes-in-look.ensures.value c.in_ok-range_of-in-look.ensures),
  tt,
)

pub returns-in_ok-range_of-in-firm : goal.returns-in_ok-range_of-in-firm
returns-in_ok-range_of-in-firm c = (
  firm c.args.word.now c.args.behind.now c.in_ok-range_of-in-firm.field-0 c.in-firm.is
      (subst (λ n. IsRangeName n c.in_ok-range_of-in-firm.field-0) c.as_bytes-in-firm.ensures.value c.in_ok-range_of-in-firm.ensures),
  tt,
)

pub returns-in_err-range_of-in-look : goal.returns-in_err-range_of-in-look
returns-in_err-range_of-in-look c = rw c.from_residual-in_err-range_of-in-look.ensures (λ value meant.
    let says = says_look c.args.word.now c.args.behind.now value c.in-look.is meant.0 in
    c.in_err-range_of-in-look.ensures says.0 (subst (λ n. IsRangeName n says.0) (sym c.as_bytes-in-look.ensures.value) says.2))
