use Rattle.std.proofs.Common.{◌≡◌, ◌≤◌, None, rules, arith}
use Rattle.std.specs.Ordering.{nat_cmp}
use Rattle.std.specs.BTreeMap.{get}
use Rattle.sheet_refs.proofs.ColumnLemmas.{ranges-insert_empty}
use Rattle.sheet_refs.proofs.RunLemmas.{sets_from_updates, room_spaced, room_there}
use Rattle.sheet_refs.proofs.column.reserve.Goals as goal

pub returns-in_ok-insert-clause-spaced : goal.returns-in_ok-insert-clause-spaced
returns-in_ok-insert-clause-spaced c =
    let absent : get nat_cmp c.args.runs.now c.start_of-start.result ≡ None = search rules in
    let sets = sets_from_updates c.args.runs.now c.insert.new.self _ _ c.in_ok-insert.ensures.updates in
    record {
      ordered = c.in_ok-insert.ensures.ordered;
      spaced = room_spaced _ _ _ _ c.start_of-start.ensures absent sets
          c.requires.spaced.spaced c.requires.row.1;
    }

pub returns-in_ok-insert-clause-room : goal.returns-in_ok-insert-clause-room
returns-in_ok-insert-clause-room c =
    let absent : get nat_cmp c.args.runs.now c.start_of-start.result ≡ None = search rules in
    room_there _ _ _ _ c.start_of-start.ensures absent (sets_from_updates c.args.runs.now c.insert.new.self _ _ c.in_ok-insert.ensures.updates)

pub returns-in_ok-insert-clause-same_ranges : goal.returns-in_ok-insert-clause-same_ranges
returns-in_ok-insert-clause-same_ranges c = λ col.
    let absent : get nat_cmp c.args.runs.now c.start_of-start.result ≡ None = search rules in
    let from : 1 ≤ c.start_of-start.result = c.start_of-start.ensures.from in
    rw c.in_ok-insert.ensures.entries (ranges-insert_empty col c.args.runs.now.entries _ _ absent (omega arith))
