use Rattle.std.proofs.Common.{◌≡◌, ◌+◌, length, arith, rules, subst, sym}
use Rattle.sheet_model.specs.Sheets.{blank_sheet}
use Rattle.csv_sheet.specs.Ahead.{Begin, in_lists, text_fields}
use Rattle.csv_sheet.specs.Filling.{IsPartRefusal, PutsPart}
use Rattle.csv_sheet.proofs.RecordLemmas.{err_handed}
use Rattle.csv_sheet.proofs.WayLemmas.{part_put, part_refused, put_begins, put_ends}
use Rattle.csv_sheet.proofs.rows.fill_lines.Goals as goal

pub loop-part-init : goal.loop-part-init
loop-part-init g c =
    let known = c.requires.sizes in
    let part = c.split_lines.result.0.now in
    let behind = c.split_lines.result.1.now in
    let cut = c.split_lines.ensures in
    let count = cut.count in
    let blank : c.in_ok-blank.field-0 ≡ blank_sheet c.args.edition c.args.sizes = search rules in
    let begin : Begin c.args.edition (in_lists c.in_ok-ahead.ahead.items) (text_fields part) = search rules in
    record {
      all = known.0;
      has = known.1;
      put = put_begins c.args.text.now part behind c.args.edition c.args.sizes c.in_ok-blank.field-0 known c.requires.plain cut.rows blank;
      begin = begin;
      ascii = cut.back c.requires.plain.ascii;
      few = omega (arith, count);
    }

-- want of memory isn't what the records give
pub returns-in_err-ahead-2-clause-why : goal.returns-in_err-ahead-2-clause-why
returns-in_err-ahead-2-clause-why g c =
    err_handed c.from_residual-in_err-ahead-2.result _ _ (λ e same other. absurd (other same)) c.from_residual-in_err-ahead-2.ensures.1

pub returns-in_err-filled-clause-why : goal.returns-in_err-filled-clause-why
returns-in_err-filled-clause-why g c =
    let now = c.loop-part in
    let way = now.invariant in
    let refusal : IsPartRefusal now.part.now now.filled.1 now.filled.0 c.in_err-filled.field-0.0 = search rules in
    err_handed c.from_residual-in_err-filled.result _ _ (λ e same other. (
      way.all,
      way.has,
      part_refused c.args.edition way.all now.part.now now.behind.now now.filled.1 now.filled.0 way.put e
          (subst (λ k. IsPartRefusal now.part.now now.filled.1 now.filled.0 k) (sym same) refusal) other,
    ))
    c.from_residual-in_err-filled.ensures.1

pub loop-part-preserved : goal.loop-part-preserved
loop-part-preserved g c =
    let now = c.loop-part in
    let way = now.invariant in
    let next = c.split_lines-in-loop-part.result.0.now in
    let rest = c.split_lines-in-loop-part.result.1.now in
    let cut = c.split_lines-in-loop-part.ensures in
    let puts : PutsPart now.part.now now.filled.1 now.filled.0 c.in_ok-filled.filled = search rules in
    let begin : Begin c.args.edition (in_lists c.in_ok-ahead-2.ahead.items) (text_fields next) = search rules in
    let few = way.few in
    let count = cut.count in
    record {
      all = way.all;
      has = way.has;
      put = part_put c.args.edition way.all now.part.now now.behind.now now.filled.1 now.filled.0 way.put next rest
          c.in_ok-filled.filled puts cut.rows;
      begin = begin;
      ascii = cut.back way.ascii;
      few = omega (arith, few, count);
    }

pub returns-clause-filled : goal.returns-clause-filled
returns-clause-filled g c =
    let now = c.loop-part in
    let way = now.invariant in
    let none : length now.part.now + length now.behind.now ≡ 0 = search rules in (
      way.all,
      way.has,
      put_ends c.args.edition way.all now.part.now now.behind.now now.filled.1 now.filled.0 way.put c.args.text.now way.has
          (omega (arith, none)) (omega (arith, none)),
    )
