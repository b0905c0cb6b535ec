use Rattle.std.proofs.Common.{rules}
use Rattle.std.proofs.lemmas.Cmp.{nat_cmp_total}
use Rattle.std.proofs.lemmas.Map.Iter.{btree_map_turn}
use Rattle.std.specs.Map.Iter.{deref_pair}
use Rattle.sheet_refs.proofs.column.push_ranges.Goals as goal

pub strip-requires-clause-rows : goal.strip-requires-clause-rows
strip-requires-clause-rows c =
    let turn = btree_map_turn deref_pair c.loop-first.yielded c.into_iter-first-iterator.result
    c.loop-first.first-iterator c.next.new.self c.next.result (
      c.in-Some.first,
      c.in-Some.last,
    ) c.loop-first.yielded_by c.in-Some.is c.next.ensures.steps nat_cmp_total c.args.runs.now
    (search rules) c.requires.spaced.ordered in
    let run = c.requires.spaced.spaced.each c.in-Some.first.now c.in-Some.last.now turn.1 in
    (run.first_from, c.if-first-last.true, run.last_to)
