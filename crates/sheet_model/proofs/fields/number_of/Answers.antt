use Rattle.std.proofs.Common.{◌≡◌, ◌≤◌, ◌∷◌, pos, rules, arith}
use Rattle.std.specs.Prelude.{neg_ℤ}
use Rattle.std.proofs.lemmas.Int.{ints}
use Rattle.std.proofs.lemmas.Grind.{common_steps}
use Rattle.sheet_refs.specs.Names.{IsDecimal}
use Rattle.sheet_model.specs.Fields.IsNumberField.{unsigned, plus, minus}
use Rattle.sheet_model.proofs.fields.number_of.Goals as goal

pub returns-in_ok-size-in-Some-eq45-default : goal.returns-in_ok-size-in-Some-eq45-default
returns-in_ok-size-in-Some-eq45-default c =
    let size = c.in_ok-size-in-Some-eq45-default.field-0 in
    let decimal : IsDecimal c.in-Some-eq45-default.digits.now 9007199254740991 size = c.in_ok-size-in-Some-eq45-default.ensures in
    let small : size ≤ 9007199254740991 = decimal.within in
    let split : c.args.field.now ≡ 45 ∷ c.in-Some-eq45-default.digits.now = search rules in
    let same : c.unwrap.result ≡ neg_ℤ (pos size) = grind (arith, common_steps, ints) in
    rw same (minus _ _ _ split decimal)

pub returns-in_ok-size-in-Some-eq43-default : goal.returns-in_ok-size-in-Some-eq43-default
returns-in_ok-size-in-Some-eq43-default c =
    let size = c.in_ok-size-in-Some-eq43-default.field-0 in
    let decimal : IsDecimal c.in-Some-eq43-default.digits.now 9007199254740991 size = c.in_ok-size-in-Some-eq43-default.ensures in
    let small : size ≤ 9007199254740991 = decimal.within in
    let split : c.args.field.now ≡ 43 ∷ c.in-Some-eq43-default.digits.now = search rules in
    let same : c.unwrap-in-Some-eq43-default.result ≡ pos size = grind (arith, common_steps, ints) in
    rw same (plus _ _ _ split decimal)

pub returns-in_ok-size-in_default : goal.returns-in_ok-size-in_default
returns-in_ok-size-in_default c =
    let size = c.in_ok-size-in_default.field-0 in
    let decimal : IsDecimal c.args.field.now 9007199254740991 size = c.in_ok-size-in_default.ensures in
    let small : size ≤ 9007199254740991 = decimal.within in
    let same : c.unwrap-in_default.result ≡ pos size = grind (arith, common_steps, ints) in
    rw same (unsigned _ _ decimal)
