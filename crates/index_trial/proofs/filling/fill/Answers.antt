use Rattle.std.proofs.Common.{◌≡◌, length, refl, subst, arith}
use Rattle.std.proofs.lemmas.Option.{slice_get_read}
use Rattle.index_trial.specs.Listed.{AreListed}
use Rattle.index_trial.proofs.ListedLemmas.{absent_listed, none_listed, one_listed}
use Rattle.index_trial.proofs.filling.fill.Goals as goal

pub loop-place-init : goal.loop-place-init
loop-place-init g c = record {
  listed = none_listed (g.I.RangeIndex.entries c.args.index.now) (g.I.RangeIndex.entries c.reserve.new.self)
      c.args.ranges.now c.requires.none c.reserve.ensures.same;
  room = omega (arith, c.in_ok-reserve.ensures.room);
}

pub insert-requires-clause-absent : goal.insert-requires-clause-absent
insert-requires-clause-absent g c = absent_listed (g.I.RangeIndex.entries c.loop-place.index) c.args.ranges.now c.loop-place.place c.loop-place.invariant.listed

pub loop-place-preserved : goal.loop-place-preserved
loop-place-preserved g c = record {
  listed =
      one_listed (g.I.RangeIndex.entries c.loop-place.index) (g.I.RangeIndex.entries c.insert.new.self)
      c.args.ranges.now c.loop-place.place c.index-ranges-place.result c.loop-place.invariant.listed
      (slice_get_read c.args.ranges.now (length c.args.ranges.now) c.loop-place.place c.index-ranges-place.result refl
      c.loop-place-test.true c.index-ranges-place.is) c.insert.ensures.inserted;
  room = omega (arith, c.insert.ensures.room, c.loop-place.invariant.room);
}

pub returns : goal.returns
returns g c =
    let all : c.loop-place.place ≡ length c.args.ranges.now = omega arith in
    subst (λ n. AreListed (g.I.RangeIndex.entries c.loop-place.index) c.args.ranges.now 0 n) all c.loop-place.invariant.listed
