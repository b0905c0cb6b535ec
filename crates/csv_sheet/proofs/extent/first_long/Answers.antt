use Rattle.std.proofs.Common.{arith, ℕ, ◌<◌, ◌≤◌, List, length, subst}
use Rattle.csv_sheet.proofs.RecordLemmas.{no_longer}
use Rattle.csv_sheet.proofs.extent.first_long.Goals as goal

pub returns-then-as_slice-le-MAX_FIELD : goal.returns-then-as_slice-le-MAX_FIELD
returns-then-as_slice-le-MAX_FIELD c = λ col within long.
    let all = no_longer 0 c.args.fields.now.ends c.args.fields.now.bytes col in
    let whole : length c.args.fields.now.bytes ≤ 8192 = subst (λ (t : List ℕ). length t ≤ 8192) c.as_slice.ensures c.if-as_slice-le-MAX_FIELD.true in
    omega (arith, all, whole, long)

pub returns-then-field-gt-MAX_FIELD : goal.returns-then-field-gt-MAX_FIELD
returns-then-field-gt-MAX_FIELD c = record {
  within = (let e = c.len-col-end.ensures in let t = c.loop-col-test.true in omega (arith, e, t));
  long = subst (λ f. 8192 < length f) c.field.ensures c.if-field-gt-MAX_FIELD.true;
  before = c.loop-col.invariant;
}
