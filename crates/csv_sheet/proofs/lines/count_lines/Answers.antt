use Rattle.std.proofs.Common.{◌≡◌, ◌<◌, ◌++◌, ◌∙◌, List, ℕ, arith, rules, refl, subst, sym, length}
use Rattle.std.specs.List.{prefix_len}
use Rattle.csv_sheet.specs.Lines.{AreCounted, HasCounted, IsPlain, goes_on, rows_in}
use Rattle.csv_sheet.proofs.LineLemmas.{counting_begins, counting_goes, counting_ends, behind_shorter, is_byte}
use Rattle.csv_sheet.proofs.lines.count_lines.Goals as goal

pub loop-left-init : goal.loop-left-init
loop-left-init c =
    let plain : IsPlain c.args.text.now = search rules in
    counting_begins c.args.text.now _ plain.ascii refl refl

pub loop-left-preserved : goal.loop-left-preserved
loop-left-preserved c =
    let left = c.loop-left.left.now in
    let some : 0 < length left = search rules in
    let cut = c.split_line.ensures in
    subst (λ (l : List ℕ). HasCounted c.args.text.now l c.with-lines.result) (sym cut.behind)
    (counting_goes c.args.text.now left c.loop-left.lines c.with-lines.result c.loop-left.invariant some
    (λ rows is. subst (λ (l : List ℕ). AreCounted (rows ++ rows_in l) c.with-lines.result) cut.line (c.with-lines.ensures.counted rows is))
    c.with-lines.ensures.few)

pub loop-left-smaller : goal.loop-left-smaller
loop-left-smaller c =
    let some : 0 < length c.loop-left.left.now = search rules in
    rw c.split_line.ensures.behind (behind_shorter (prefix_len goes_on c.loop-left.left.now) c.loop-left.left.now some)

pub returns : goal.returns
returns c =
    let plain : IsPlain c.args.text.now = search rules in
    let none : length c.loop-left.left.now ≡ 0 = is_byte (length c.loop-left.left.now) 0 (sym c.is_empty.ensures ∙ c.loop-left-test.false) in
    let few = c.loop-left.invariant.few in
    record {
      plain = plain;
      counted = counting_ends c.args.text.now c.loop-left.left.now c.loop-left.lines c.loop-left.invariant none;
      few = omega (arith, few);
    }
