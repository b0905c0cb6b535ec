use Rattle.std.proofs.Common.{◌≡◌, ◌<◌, length, vec_len, arith, rules}
use Rattle.plain_graph.proofs.PairLemmas.{TakenOut, dropped_more}
use Rattle.plain_graph.proofs.plain.drop_pairs.Goals as goal

pub loop-place-preserved-then-is_of : goal.loop-place-preserved-then-is_of
loop-place-preserved-then-is_of c =
    let inside : c.loop-place.place < length c.loop-place.pairs.items = search rules in
    let lens : vec_len c.loop-place.pairs ≡ length c.loop-place.pairs.items = search rules in
    let taken : TakenOut c.loop-place.pairs.items c.swap_remove.new.self.items c.loop-place.place = record {
      length_is = search rules;
      moved = λ d below. rw (← lens) (c.swap_remove.ensures.by_index.0 d (omega (arith, below, lens)));
      stayed = λ k d other below. c.swap_remove.ensures.by_index.1 k d other (omega (arith, below, lens));
    } in (
      search rules,
      search rules,
      dropped_more c.args.cell c.args.pairs.now.items c.loop-place.pairs.items c.swap_remove.new.self.items
          c.loop-place.place c.index.result.now inside c.index.ensures (c.is_of.ensures.0 c.if-is_of.true) taken
          c.loop-place.invariant.2,
    )
