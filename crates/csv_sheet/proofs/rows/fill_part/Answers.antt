use Rattle.std.proofs.Common.{◌≡◌, ◌==◌, false, ◌<◌, ◌∙◌, ◌++◌, ◌∷◌, List, ℕ, [], length, drop, take, sym, subst, arith, rules}
use Rattle.std.specs.List.{prefix_len}
use Rattle.csv_sheet.specs.declared.known.Known.{Known}
use Rattle.formula_syntax.specs.declared.edition.Edition.{Edition}
use Rattle.csv_sheet.specs.Ahead.{AreNext, text_fields}
use Rattle.csv_sheet.specs.Filling.{IsRowRefusal}
use Rattle.csv_sheet.specs.Lines.{goes_on, line_fields, text_rows}
use Rattle.csv_sheet.proofs.AheadLemmas.{line_next, no_fields, some_fields}
use Rattle.csv_sheet.proofs.LineLemmas.{behind_shorter, is_byte, many_fields}
use Rattle.csv_sheet.proofs.RecordLemmas.{err_handed}
use Rattle.csv_sheet.proofs.WayLemmas.{next_fits, next_line, next_put, next_refused, next_row, no_line, none_left}
use Rattle.csv_sheet.proofs.rows.fill_part.Goals as goal

full_line : (line : List ℕ) → (length line == 0) ≡ false → 0 < length line
full_line [] empty = cc empty
full_line (b ∷ bs) empty = omega arith

shorter : (left behind : List ℕ) → 0 < length left → behind ≡ drop 1 (drop (prefix_len goes_on left) left) → length behind < length left
shorter left behind some after = subst (λ l. length l < length left) (sym after) (behind_shorter (prefix_len goes_on left) left some)

-- what is known of a line's fields and of those behind it, where the sheet has the edition of the one that was blank
known_line : {now was : Edition} → now ≡ was → (left line behind : List ℕ) (ahead : Known)
    → line ≡ take (prefix_len goes_on left) left → behind ≡ drop 1 (drop (prefix_len goes_on left) left) → 0 < length line
    → AreNext was ahead (text_fields left) → AreNext now ahead (line_fields [] line ++ text_fields behind)
known_line {now} {was} same left line behind ahead is after full next =
    subst (λ e. AreNext e ahead (line_fields [] line ++ text_fields behind)) (sym same)
    (subst (λ fs. AreNext was ahead (fs ++ text_fields behind)) (some_fields line full) (line_next was ahead left line behind is after next))

pub fill_line-requires-clause-record : goal.fill_line-requires-clause-record
fill_line-requires-clause-record c =
    let now = c.loop-left in
    let next = c.requires.next in
    let cut = c.split_line.ensures in
    let full = full_line c.split_line.result.0.now (sym c.is_empty-in-loop-left.ensures ∙ c.if-not-is_empty.true) in
    next_fits c.args.sheet.edition next.all (text_rows c.split_line.result.1.now ++ next.behind) (line_fields [] c.split_line.result.0.now) now.row now.sheet
    (next_line c.args.sheet.edition next.all next.behind now.row now.sheet now.left.now c.split_line.result.0.now c.split_line.result.1.now
    cut.line cut.behind (now.invariant.puts next.all next.behind next.has) full)

pub fill_line-requires-clause-ahead : goal.fill_line-requires-clause-ahead
fill_line-requires-clause-ahead c =
    let now = c.loop-left in
    let next = c.requires.next in
    let cut = c.split_line.ensures in
    let full = full_line c.split_line.result.0.now (sym c.is_empty-in-loop-left.ensures ∙ c.if-not-is_empty.true) in
    let has = now.invariant.puts next.all next.behind next.has in (
      text_fields c.split_line.result.1.now,
      known_line has.put.edition now.left.now c.split_line.result.0.now c.split_line.result.1.now now.known cut.line cut.behind full now.invariant.next,
    )

pub returns-in_err-fill_line-clause-why : goal.returns-in_err-fill_line-clause-why
returns-in_err-fill_line-clause-why c =
    let now = c.loop-left in
    let line = c.split_line.result.0.now in
    let rest = c.split_line.result.1.now in
    let cut = c.split_line.ensures in
    let full = full_line line (sym c.is_empty-in-loop-left.ensures ∙ c.if-not-is_empty.true) in
    err_handed c.from_residual.result _ _ (λ e same all behind has other.
    next_refused c.args.sheet.edition all (text_rows rest ++ behind) (line_fields [] line) now.row now.sheet
    (next_line c.args.sheet.edition all behind now.row now.sheet now.left.now line rest cut.line cut.behind (now.invariant.puts all behind has) full)
    e other (subst (λ k. IsRowRefusal now.sheet.edition now.row (line_fields [] line) k) (sym same) c.in_err-fill_line.ensures.why))
    c.from_residual.ensures.1

pub overflow_add-row : goal.overflow_add-row
overflow_add-row c =
    let now = c.loop-left in
    let next = c.requires.next in
    let line = c.split_line.result.0.now in
    let rest = c.split_line.result.1.now in
    let cut = c.split_line.ensures in
    let full = full_line line (sym c.is_empty-in-loop-left.ensures ∙ c.if-not-is_empty.true) in
    let many = many_fields [] line in
    let less = next_row c.args.sheet.edition next.all (text_rows rest ++ next.behind) (line_fields [] line) now.row now.sheet
    (next_line c.args.sheet.edition next.all next.behind now.row now.sheet now.left.now line rest
    cut.line cut.behind (now.invariant.puts next.all next.behind next.has) full) (omega (arith, many)) in
    omega (arith, less)

pub loop-left-smaller-in_ok-fill_line : goal.loop-left-smaller-in_ok-fill_line
loop-left-smaller-in_ok-fill_line c =
    let some : 0 < length c.loop-left.left.now = search rules in
    shorter c.loop-left.left.now c.split_line.result.1.now some c.split_line.ensures.behind

pub loop-left-preserved-in_ok-fill_line : goal.loop-left-preserved-in_ok-fill_line
loop-left-preserved-in_ok-fill_line c =
    let now = c.loop-left in
    let next = c.requires.next in
    let line = c.split_line.result.0.now in
    let rest = c.split_line.result.1.now in
    let cut = c.split_line.ensures in
    let some : 0 < length now.left.now = search rules in
    let full = full_line line (sym c.is_empty-in-loop-left.ensures ∙ c.if-not-is_empty.true) in
    let less = shorter now.left.now rest some cut.behind in
    let few = now.invariant.few in
    let filled = c.in_ok-fill_line.ensures in
    let same = (now.invariant.puts next.all next.behind next.has).put.edition in
    record {
      puts = λ all behind has.
          next_put c.args.sheet.edition all (text_rows rest ++ behind) (line_fields [] line) now.row now.sheet
          (next_line c.args.sheet.edition all behind now.row now.sheet now.left.now line rest cut.line cut.behind (now.invariant.puts all behind has) full)
          c.fill_line.new.sheet filled.filled filled.edition filled.sizes filled.few;
      next = subst (λ e. AreNext e c.fill_line.new.known (text_fields rest)) same
          (filled.ahead (text_fields rest) (known_line same now.left.now line rest now.known cut.line cut.behind full now.invariant.next));
      few = omega (arith, few, less);
    }

pub loop-left-preserved : goal.loop-left-preserved
loop-left-preserved c =
    let now = c.loop-left in
    let line = c.split_line.result.0.now in
    let rest = c.split_line.result.1.now in
    let cut = c.split_line.ensures in
    let some : 0 < length now.left.now = search rules in
    let none : length line ≡ 0 = search rules in
    let less = shorter now.left.now rest some cut.behind in
    let few = now.invariant.few in
    record {
      puts = λ all behind has.
          no_line c.args.sheet.edition all behind now.row now.sheet now.left.now line rest cut.line cut.behind (now.invariant.puts all behind has) none;
      next = subst (λ fs. AreNext c.args.sheet.edition now.known (fs ++ text_fields rest)) (no_fields line none)
          (line_next c.args.sheet.edition now.known now.left.now line rest cut.line cut.behind now.invariant.next);
      few = omega (arith, few, less);
    }

pub returns-clause-put : goal.returns-clause-put
returns-clause-put c =
    let now = c.loop-left in
    let none : length now.left.now ≡ 0 = is_byte (length now.left.now) 0 (sym c.is_empty.ensures ∙ c.loop-left-test.false) in
    λ all behind has. none_left c.args.sheet.edition all behind now.row now.sheet now.left.now none (now.invariant.puts all behind has)
