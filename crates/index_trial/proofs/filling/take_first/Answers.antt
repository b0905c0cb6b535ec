use Rattle.std.proofs.Common.{◌≡◌, length, refl, subst, arith}
use Rattle.std.proofs.lemmas.Option.{slice_get_read}
use Rattle.index_trial.specs.Listed.{AreListed}
use Rattle.index_trial.proofs.ListedLemmas.{first_listed, next_listed}
use Rattle.index_trial.proofs.filling.take_first.Goals as goal

pub remove-requires : goal.remove-requires
remove-requires g c = record {
  there =
      first_listed (g.I.RangeIndex.entries c.loop-place.index) c.args.ranges.now c.loop-place.place
      (length c.args.ranges.now) c.index-ranges-place.result c.loop-place.invariant
      (omega (arith, c.loop-place-test.true, c.requires.within))
      (slice_get_read c.args.ranges.now (length c.args.ranges.now) c.loop-place.place c.index-ranges-place.result refl
      (omega (arith, c.loop-place-test.true, c.requires.within)) c.index-ranges-place.is);
}

pub loop-place-preserved : goal.loop-place-preserved
loop-place-preserved g c =
    next_listed (g.I.RangeIndex.entries c.loop-place.index) (g.I.RangeIndex.entries c.remove.new.self) c.args.ranges.now
    c.loop-place.place (length c.args.ranges.now) c.loop-place.invariant c.remove.ensures.removed

pub returns : goal.returns
returns g c =
    let all : c.loop-place.place ≡ c.args.end = omega arith in
    subst (λ n. AreListed (g.I.RangeIndex.entries c.loop-place.index) c.args.ranges.now n (length c.args.ranges.now)) all c.loop-place.invariant
