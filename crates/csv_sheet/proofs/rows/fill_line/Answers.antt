use Rattle.std.proofs.Common.{◌+◌, ◌++◌, drop, ◌<◌, ◌≤◌, ◌∙◌, ℕ, [], List, length, get_or, sym, ap, subst, arith, refl}
use Rattle.std.specs.Prelude.{IsUtf8}
use Rattle.csv_sheet.specs.Ahead.{IsAhead}
use Rattle.csv_sheet.specs.Filling.{IsFieldRefusal}
use Rattle.csv_sheet.specs.Lines.{line_fields}
use Rattle.csv_sheet.proofs.AheadLemmas.{at_next}
use Rattle.csv_sheet.proofs.FillLemmas.{part_none, part_step, made_there}
use Rattle.csv_sheet.proofs.LineLemmas.{next_field, next_left}
use Rattle.csv_sheet.proofs.RecordLemmas.{err_handed, text_at}
use Rattle.csv_sheet.proofs.rows.fill_line.Goals as goal

pub loop-col-init : goal.loop-col-init
loop-col-init c = record {
  part = part_none c.args.row (line_fields [] c.args.line.now) c.args.sheet.now c.requires.record.few;
  behind = λ within. refl;
  next = λ more start. start;
}

-- there is a field more
pub text_of-requires : goal.text_of-requires
text_of-requires c =
    let fields = line_fields [] c.args.line.now in
    let within : c.loop-col.col < length fields = (let e = c.field_count-col-end.ensures in let t = c.loop-col-test.true in omega (arith, e, t)) in
    let field = c.split_field.ensures.field ∙ sym (next_field fields c.loop-col.col c.loop-col.left.now (c.loop-col.invariant.behind within)) in
    subst IsUtf8 (sym field) (text_at fields c.requires.record.text c.loop-col.col within)

pub fill_cell-requires-clause-short : goal.fill_cell-requires-clause-short
fill_cell-requires-clause-short c =
    let fields = line_fields [] c.args.line.now in
    let within : c.loop-col.col < length fields = (let e = c.field_count-col-end.ensures in let t = c.loop-col-test.true in omega (arith, e, t)) in
    let field = c.text_of.ensures ∙ c.split_field.ensures.field
    ∙ sym (next_field fields c.loop-col.col c.loop-col.left.now (c.loop-col.invariant.behind within)) in
    let short : length (get_or fields c.loop-col.col []) ≤ 8192 = (let not_long = c.requires.record.short c.loop-col.col within in omega (arith, not_long)) in
    subst (λ (f : List ℕ). length f ≤ 8192) (sym field) short

pub fill_cell-requires-clause-ahead : goal.fill_cell-requires-clause-ahead
fill_cell-requires-clause-ahead c =
    let fields = line_fields [] c.args.line.now in
    let way = c.loop-col.invariant in
    let within : c.loop-col.col < length fields = (let e = c.field_count-col-end.ensures in let t = c.loop-col-test.true in omega (arith, e, t)) in
    let field = c.text_of.ensures ∙ c.split_field.ensures.field ∙ sym (next_field fields c.loop-col.col c.loop-col.left.now (way.behind within)) in
    let start = way.next c.requires.ahead.0 c.requires.ahead.1 in
    let told = c.next.ensures c.args.sheet.now.edition (get_or fields c.loop-col.col []) (drop (c.loop-col.col + 1) fields ++ c.requires.ahead.0)
    (at_next c.args.sheet.now.edition fields c.loop-col.col c.loop-col.known c.requires.ahead.0 within start) in
    subst (λ e. IsAhead e c.text_of.result.now c.next.result) (sym way.part.edition)
    (subst (λ f. IsAhead c.args.sheet.now.edition f c.next.result) (sym field) told.0)

pub loop-col-preserved : goal.loop-col-preserved
loop-col-preserved c =
    let fields = line_fields [] c.args.line.now in
    let way = c.loop-col.invariant in
    let within : c.loop-col.col < length fields = (let e = c.field_count-col-end.ensures in let t = c.loop-col-test.true in omega (arith, e, t)) in
    let cell = made_there c.new.result c.unwrap-cell.result c.args.row c.loop-col.col c.new.ensures.position c.unwrap-cell.ensures in
    let field = c.text_of.ensures ∙ c.split_field.ensures.field ∙ sym (next_field fields c.loop-col.col c.loop-col.left.now (way.behind within)) in
    record {
      part = part_step c.args.row fields c.loop-col.col c.args.sheet.now c.loop-col.sheet c.fill_cell.new.sheet c.unwrap-cell.result c.text_of.result.now
          c.requires.record within way.part cell field c.in_ok-fill_cell.ensures.put;
      behind = λ more. next_left fields c.loop-col.col c.loop-col.left.now (way.behind within) more
          ∙ ap (λ l. line_fields [] l) (sym c.split_field.ensures.behind);
      next = λ more start. (c.next.ensures c.args.sheet.now.edition (get_or fields c.loop-col.col []) (drop (c.loop-col.col + 1) fields ++ more)
          (at_next c.args.sheet.now.edition fields c.loop-col.col c.loop-col.known more within (way.next more start))).1;
    }

pub returns-in_err-fill_cell-clause-why : goal.returns-in_err-fill_cell-clause-why
returns-in_err-fill_cell-clause-why c =
    let fields = line_fields [] c.args.line.now in
    let way = c.loop-col.invariant in
    let col = c.loop-col.col in
    let within : col < length fields = (let e = c.field_count-col-end.ensures in let t = c.loop-col-test.true in omega (arith, e, t)) in
    let cell = made_there c.new.result c.unwrap-cell.result c.args.row col c.new.ensures.position c.unwrap-cell.ensures in
    let field = c.text_of.ensures ∙ c.split_field.ensures.field ∙ sym (next_field fields col c.loop-col.left.now (way.behind within)) in
    err_handed c.from_residual.result _ _ (λ e same. record {
      col = col;
      within = within;
      why = subst (λ k. IsFieldRefusal c.args.sheet.now.edition (get_or fields col []) k e) cell
          (subst (λ f. IsFieldRefusal c.args.sheet.now.edition f c.unwrap-cell.result e) field
          (subst (λ d. IsFieldRefusal d c.text_of.result.now c.unwrap-cell.result e) way.part.edition
          (subst (λ k. IsFieldRefusal c.loop-col.sheet.edition c.text_of.result.now c.unwrap-cell.result k) (sym same) c.in_err-fill_cell.ensures.why)));
      before = way.part.clean;
    }) c.from_residual.ensures.1
