use Rattle.std.proofs.Common.{◌≡◌, ◌<◌, ◌∙◌, ◌++◌, List, ℕ, [], length, drop, sym, ap, subst, arith, rules}
use Rattle.std.specs.List.{prefix_len}
use Rattle.std.specs.Str.{IsAscii}
use Rattle.std.proofs.lemmas.List.{append-nil}
use Rattle.csv_sheet.specs.Ahead.{AreAhead, text_fields}
use Rattle.csv_sheet.specs.Lines.{goes_on}
use Rattle.csv_sheet.proofs.AheadLemmas.{line_behind, no_fields_left, no_line_behind}
use Rattle.csv_sheet.proofs.LineLemmas.{ascii_behind, behind_shorter, is_byte}
use Rattle.csv_sheet.proofs.ahead.read_lines.Goals as goal

shorter : (left behind : List ℕ) → 0 < length left → behind ≡ drop 1 (drop (prefix_len goes_on left) left) → length behind < length left
shorter left behind some after = subst (λ l. length l < length left) (sym after) (behind_shorter (prefix_len goes_on left) left some)

pub loop-left-smaller-in_ok-read_line : goal.loop-left-smaller-in_ok-read_line
loop-left-smaller-in_ok-read_line c =
    let some : 0 < length c.loop-left.left.now = search rules in
    shorter c.loop-left.left.now c.split_line.result.1.now some c.split_line.ensures.behind

pub loop-left-preserved-in_ok-read_line : goal.loop-left-preserved-in_ok-read_line
loop-left-preserved-in_ok-read_line c =
    let left = c.loop-left.left.now in
    let some : 0 < length left = search rules in
    let full : 0 < length c.split_line.result.0.now = search rules in
    let less = shorter left c.split_line.result.1.now some c.split_line.ensures.behind in
    let short = c.loop-left.invariant.2 in (
      line_behind c.args.edition c.args.text.now left c.split_line.result.0.now c.split_line.result.1.now c.loop-left.ahead.items
          c.read_line.new.ahead.items full c.split_line.ensures.line c.split_line.ensures.behind c.loop-left.invariant.0 c.in_ok-read_line.ensures,
      subst IsAscii (sym c.split_line.ensures.behind) (ascii_behind (prefix_len goes_on left) left c.loop-left.invariant.1),
      omega (arith, short, less),
    )

pub loop-left-preserved : goal.loop-left-preserved
loop-left-preserved c =
    let left = c.loop-left.left.now in
    let some : 0 < length left = search rules in
    let none : length c.split_line.result.0.now ≡ 0 = search rules in
    let less = shorter left c.split_line.result.1.now some c.split_line.ensures.behind in
    let short = c.loop-left.invariant.2 in (
      no_line_behind c.args.edition c.args.text.now left c.split_line.result.0.now c.split_line.result.1.now c.loop-left.ahead.items none
          c.split_line.ensures.line c.split_line.ensures.behind c.loop-left.invariant.0,
      subst IsAscii (sym c.split_line.ensures.behind) (ascii_behind (prefix_len goes_on left) left c.loop-left.invariant.1),
      omega (arith, short, less),
    )

pub returns : goal.returns
returns c =
    let read = c.loop-left.invariant.0 in
    let none : length c.loop-left.left.now ≡ 0 = is_byte (length c.loop-left.left.now) 0 (sym c.is_empty.ensures ∙ c.loop-left-test.false) in
    let nothing : text_fields c.loop-left.left.now ≡ [] = no_fields_left c.loop-left.left.now none in
    let all : text_fields c.args.text.now ≡ read.fields = read.split ∙ ap (λ fs. read.fields ++ fs) nothing ∙ append-nil read.fields in
    subst (λ fs. AreAhead c.args.edition fs c.loop-left.ahead.items) (sym all) read.known
