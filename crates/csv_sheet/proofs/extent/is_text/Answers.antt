use Rattle.std.proofs.Common.{◌<◌, length, get_or, [], inl, inr, refl, sym, subst, arith}
use Rattle.std.specs.Prelude.{IsUtf8}
use Rattle.std.proofs.lemmas.Bool.{cases_eq}
use Rattle.csv.specs.Records.{fields_of}
use Rattle.csv_sheet.proofs.RecordLemmas.{ascii_text, text_from, text_at, told_err}
use Rattle.csv_sheet.proofs.extent.is_text.Goals as goal

pub returns-then-is_ascii : goal.returns-then-is_ascii
returns-then-is_ascii c = (λ e. ascii_text 0 _ _ (rw c.as_slice.ensures at c.if-is_ascii.ensures.cases), λ text. refl)

pub returns-in_default : goal.returns-in_default
returns-in_default c =
    let within : c.loop-col.col < length (fields_of c.args.fields.now) = (let e = c.len-col-end.ensures in
    let t = c.loop-col-test.true in omega (arith, e, t)) in
    let why = told_err c.from_utf8.result _ _ c.in_default.not-Ok c.from_utf8.ensures.cases in
    (λ e. cc e, λ text. absurd (why.1.0 (subst IsUtf8 (sym c.field.ensures) (text_at (fields_of c.args.fields.now) text c.loop-col.col within))))

pub loop-col-preserved : goal.loop-col-preserved
loop-col-preserved c = λ k less. elim (cases_eq k c.loop-col.col) [
  | inl same ↦ subst (λ j. IsUtf8 (get_or (fields_of c.args.fields.now) j [])) (sym same) (subst IsUtf8 c.field.ensures c.in-Ok.ensures.cases.1)
  | inr apart ↦ c.loop-col.invariant k (omega (arith, less, apart))
]

pub returns : goal.returns
returns c = (
  λ e. text_from (fields_of c.args.fields.now) (λ k within. c.loop-col.invariant k (let e = c.len-col-end.ensures in
      let t = c.loop-col-test.false in omega (arith, e, t, within))),
  λ text. refl,
)
