use Rattle.std.proofs.Common.{◌≡◌, ◌+◌, ap, arith}
use Rattle.range_index.specs.Grids.{entry_at, count_at, slot_of}
use Rattle.range_index.proofs.GridLemmas.{places_of, found_more, found_same, IsBelow, not_below, below_next}
use Rattle.range_index.proofs.tables.Tables.visit_home.Goals as goal

pub loop-place-preserved : goal.loop-place-preserved
loop-place-preserved c =
    let home = c.args.home in
    let place = c.loop-place.place in
    found_more (entry_at c.args.self.now) (IsBelow home place) (λ s. s ≡ slot_of home place) (IsBelow home (place + 1))
    c.args.q c.args.out.now.items c.loop-place.out.items c.visit_slot.new.out.items
    (places_of c.requires) (not_below home place) (λ slot entry here. below_next home place slot) c.loop-place.invariant c.in_ok-visit_slot.ensures.found

pub returns-clause-found : goal.returns-clause-found
returns-clause-found c =
    found_same (entry_at c.args.self.now) (IsBelow c.args.home c.loop-place.place) (λ s. s.home ≡ c.args.home) c.args.q
    c.args.out.now.items c.loop-place.out.items
    (λ slot entry here. (
      λ below. below.0,
      λ same. (
        same,
        omega (
          arith,
          c.loop-place-test.false,
          c.count-place-end.ensures,
          c.requires.grid.counted slot entry here,
          ap (count_at c.args.self.now) same,
        ),
      ),
    )) c.loop-place.invariant
