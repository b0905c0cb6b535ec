use Rattle.std.proofs.Common.{◌≡◌, None, Some, subst, rules}
use Rattle.std.specs.Ordering.{nat_cmp}
use Rattle.std.specs.BTreeMap.{get}
use Rattle.sheet_refs.specs.Runs.{IsSpan}
use Rattle.sheet_refs.proofs.RunLemmas.{Filled, sets_from_updates, filled_spaced, filled_joined}
use Rattle.sheet_refs.proofs.SpanLemmas.{filled_none, filled_some, no_room, on_any_error}
use Rattle.sheet_refs.proofs.column.join.Goals as goal
use Rattle.sheet_refs.proofs.column.join.Goals.{After-clear_to, In_default}

pub returns-in_err-insert-clause-room : goal.returns-in_err-insert-clause-room
returns-in_err-insert-clause-room c =
    on_any_error _ _ (no_room _ _ _ c.span_of-start.ensures.begins c.in_err-insert.ensures.absent)

alone : (c : In_default) → Filled (get nat_cmp c.args.runs.now) (get nat_cmp c.insert.new.self) c.span_of-start.result.0 c.span_of-start.result.1
alone c =
    let none : c.span_of-start.result.2 ≡ None = search rules in
    filled_none _ _ _ _ _ _ c.requires.rows.1 (sets_from_updates c.args.runs.now c.insert.new.self _ _ c.in_ok-insert.ensures.updates)
    (subst (IsSpan (get nat_cmp c.args.runs.now) c.args.first c.args.last c.span_of-start.result.0 c.span_of-start.result.1) none c.span_of-start.ensures)

pub returns-in_default-clause-spaced : goal.returns-in_default-clause-spaced
returns-in_default-clause-spaced c =
    record {
      ordered = c.in_ok-insert.ensures.ordered;
      spaced = filled_spaced _ _ _ _ _ _ c.requires.spaced.spaced
          c.requires.rows.1 c.span_of-start.ensures.begins c.span_of-start.ensures.ends (alone c);
    }

pub returns-in_default-clause-joined : goal.returns-in_default-clause-joined
returns-in_default-clause-joined c =
    filled_joined _ _ _ _ _ _ c.requires.spaced.spaced c.requires.rows.1 c.span_of-start.ensures.begins
    c.span_of-start.ensures.ends (alone c)

covering : (c : After-clear_to) → Filled (get nat_cmp c.args.runs.now) (get nat_cmp c.clear_to.new.runs) c.span_of-start.result.0 c.span_of-start.result.1
covering c =
    let some : c.span_of-start.result.2 ≡ Some c.in-Some.lowest = search rules in
    filled_some _ _ _ _ _ _ c.requires.rows.1 (sets_from_updates c.args.runs.now c.insert.new.self _ _ c.in_ok-insert.ensures.updates) _ _
    (subst (IsSpan (get nat_cmp c.args.runs.now) c.args.first c.args.last c.span_of-start.result.0 c.span_of-start.result.1) some c.span_of-start.ensures)
    c.clear_to.ensures.cleared c.clear_to.ensures.above c.clear_to.ensures.below

pub returns-clause-spaced : goal.returns-clause-spaced
returns-clause-spaced c =
    record {
      ordered = c.clear_to.ensures.ordered;
      spaced = filled_spaced _ _ _ _ _ _ c.requires.spaced.spaced
          c.requires.rows.1 c.span_of-start.ensures.begins c.span_of-start.ensures.ends (covering c);
    }

pub returns-clause-joined : goal.returns-clause-joined
returns-clause-joined c =
    filled_joined _ _ _ _ _ _ c.requires.spaced.spaced c.requires.rows.1 c.span_of-start.ensures.begins
    c.span_of-start.ensures.ends (covering c)
