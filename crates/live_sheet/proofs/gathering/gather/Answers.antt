-- The passes are gone, the last one first.
use Rattle.std.proofs.Common.{◌+◌, ◌∙◌, ap, arith, refl}
use Rattle.mark_words.proofs.CloseLemmas.{no_items}
use Rattle.live_sheet.specs.Closed.{IsPassIn}
use Rattle.live_sheet.specs.Held.{IsFreeSeat}
use Rattle.live_sheet.proofs.GatherLemmas.{gather_begins, gather_goes_on, all_gone}
use Rattle.live_sheet.proofs.gathering.gather.Goals as goal

pub loop-pass-init : goal.loop-pass-init
loop-pass-init g c =
    record {
      so = gather_begins (λ pass. pass.seat) (IsPassIn g.N.Naming.words g.N.Naming.opening) (IsFreeSeat g.N.Naming.words g.N.Naming.opening)
          c.args.passes.items c.args.share.now.parts c.args.share.now.amount c.args.seats.now.items c.requires.none;
      room = refl;
    }

pub loop-pass-preserved : goal.loop-pass-preserved
loop-pass-preserved g c =
    let pass = c.in-Some.pass in
    record {
      so = gather_goes_on (λ pass. pass.seat) (IsPassIn g.N.Naming.words g.N.Naming.opening) (IsFreeSeat g.N.Naming.words g.N.Naming.opening)
          c.args.passes.items c.loop-pass.passes.items c.pop.new.self.items c.args.share.now.parts
          c.args.share.now.amount c.loop-pass.share.parts c.loop-pass.share.amount
          c.merge.new.self.parts c.merge.new.self.amount c.loop-pass.seats.items c.push_reserved.new.self.items pass
          c.loop-pass.invariant.so c.in-Some.ensures.items
          (c.merge.ensures.parts ∙ ap (λ n. c.loop-pass.share.parts + n) pass.part)
          (c.merge.ensures.amount ∙ ap (λ n. c.loop-pass.share.amount + n) (pass.amount ∙ pass.numbers.ok.0))
          c.push_reserved.ensures.items (record { seat = pass.belongs; accepted = pass.accepted }) pass.belongs;
      room = c.push_reserved.ensures.capacity ∙ c.loop-pass.invariant.room;
    }

pub returns-clause-handed : goal.returns-clause-handed
returns-clause-handed g c =
    (all_gone (λ pass. pass.seat) (IsPassIn g.N.Naming.words g.N.Naming.opening) (IsFreeSeat g.N.Naming.words g.N.Naming.opening)
    c.args.passes.items c.loop-pass.passes.items c.args.share.now.parts c.args.share.now.amount c.loop-pass.share.parts
    c.loop-pass.share.amount c.loop-pass.seats.items c.loop-pass.invariant.so
    (no_items c.loop-pass.passes.items (omega (arith, c.in_default.ensures.cases.0)))).3
