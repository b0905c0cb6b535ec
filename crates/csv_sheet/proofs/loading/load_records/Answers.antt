use Rattle.std.proofs.Common.{◌∙◌, sym, ap₂, rules, subst, arith, Err}
use Rattle.csv_sheet.specs.Results.{IsFirstField, IsLong}
use Rattle.csv_sheet.specs.declared.refused.SheetRefused.TheVariants as refused
use Rattle.csv_sheet.proofs.LoadLemmas.{filled_from, none_long, result_from, large, not_large, not_too_large, all_text, long_first, sheet_size, long_named}
use Rattle.csv_sheet.proofs.FillLemmas.{made_there}
use Rattle.csv_sheet.proofs.loading.load_records.Goals as goal

pub returns-then-is_too_large : goal.returns-then-is_too_large
returns-then-is_too_large g c = λ other.
    let m = c.in_ok-extent.ensures in
    let extent = c.in_ok-extent.extent in
    result_from c.args.edition c.args.records.now m.0 (Err (refused.TooManyCells c.from.result extent.cols)) m.1 (
      all_text m.0 extent m.2 c.in_default.is,
      large m.0 extent m.2 (c.is_too_large.ensures.0 c.if-is_too_large.true),
      c.from.ensures ∙ m.2.count,
      m.2.cols,
    )

pub overflow_cast-col : goal.overflow_cast-col
overflow_cast-col g c =
    let m = c.in_ok-extent.ensures in
    let extent = c.in_ok-extent.extent in
    let first = long_first m.0 extent m.2 c.in-Some-long.row c.in-Some-long.col c.in-Some-long.is in
    let named = long_named m.0 extent m.2 c.in-Some-long.row c.in-Some-long.col first
    (not_large m.0 extent m.2 c.is_too_large.result c.is_too_large.ensures.1 c.if-is_too_large.false) in
    let col_to = named.col_to in
    omega (arith, col_to)

pub overflow_add-col : goal.overflow_add-col
overflow_add-col g c =
    let m = c.in_ok-extent.ensures in
    let extent = c.in_ok-extent.extent in
    let first = long_first m.0 extent m.2 c.in-Some-long.row c.in-Some-long.col c.in-Some-long.is in
    let named = long_named m.0 extent m.2 c.in-Some-long.row c.in-Some-long.col first
    (not_large m.0 extent m.2 c.is_too_large.result c.is_too_large.ensures.1 c.if-is_too_large.false) in
    let col_to = named.col_to in
    omega (arith, col_to)

pub unwrap-requires : goal.unwrap-requires
unwrap-requires g c =
    let m = c.in_ok-extent.ensures in
    let extent = c.in_ok-extent.extent in
    let first = long_first m.0 extent m.2 c.in-Some-long.row c.in-Some-long.col c.in-Some-long.is in
    c.new.ensures.named.1 (long_named m.0 extent m.2 c.in-Some-long.row c.in-Some-long.col first
    (not_large m.0 extent m.2 c.is_too_large.result c.is_too_large.ensures.1 c.if-is_too_large.false))

pub returns-in-Some-long : goal.returns-in-Some-long
returns-in-Some-long g c = λ other.
    let m = c.in_ok-extent.ensures in
    let extent = c.in_ok-extent.extent in
    let first = long_first m.0 extent m.2 c.in-Some-long.row c.in-Some-long.col c.in-Some-long.is in
    let cell = made_there c.new.result c.unwrap.result c.in-Some-long.row c.in-Some-long.col c.new.ensures.position c.unwrap.ensures in
    result_from c.args.edition c.args.records.now m.0 (Err (refused.FieldTooLong c.unwrap.result)) m.1 (
      all_text m.0 extent m.2 c.in_default.is,
      not_too_large m.0 extent m.2 (not_large m.0 extent m.2 c.is_too_large.result c.is_too_large.ensures.1 c.if-is_too_large.false),
      subst (IsFirstField IsLong m.0) (sym cell) first,
    )

pub fill-requires-clause-sizes : goal.fill-requires-clause-sizes
fill-requires-clause-sizes g c =
    let m = c.in_ok-extent.ensures in
    let extent = c.in_ok-extent.extent in
    let small = not_large m.0 extent m.2 c.is_too_large.result c.is_too_large.ensures.1 c.if-is_too_large.false in (
      m.0,
      m.1,
      record {
        text = all_text m.0 extent m.2 c.in_default.is;
        fits = not_too_large m.0 extent m.2 small;
        short = none_long m.0 extent m.2 (search rules);
      },
      ap₂ (λ r k. record { rows = r; cols = k }) m.2.count m.2.cols,
      sheet_size m.0 extent m.2 c.args.records.now m.1 small,
    )

pub returns : goal.returns
returns g c = λ other. filled_from c.args.edition c.args.records.now c.fill.result c.fill.ensures.filled c.fill.ensures.why other
