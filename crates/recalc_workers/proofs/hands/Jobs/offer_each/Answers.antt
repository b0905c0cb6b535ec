-- One more job was put, or all that are left are refused.
use Rattle.std.proofs.Common.{◌<◌, inl, List, length, take, arith, refl, sym, subst, ◌∙◌}
use Rattle.std.proofs.lemmas.List.{take_all}
use Rattle.sheet_refs.specs.Cells.{Position}
use Rattle.sheet_model.proofs.ListLemmas.{taken_more}
use Rattle.recalc_workers.specs.Hands.{sizes_of}
use Rattle.recalc_workers.specs.Offers.{AreOffered}
use Rattle.recalc_workers.proofs.OfferLemmas.{offered_more, refused_after}
use Rattle.recalc_workers.proofs.hands.Jobs.offer_each.Goals as goal

pub loop-place-preserved : goal.loop-place-preserved
loop-place-preserved g c =
    let l = c.loop-place in
    let cells = c.args.cells.items in
    let cell = c.index.result.now in
    let below : l.place < length cells = omega (arith, c.loop-place-test.true, c.len-place-end.ensures) in
    record {
      hand = c.put.ensures.hand.0;
      sole = c.put.ensures.hand.1 ∙ l.invariant.sole;
      offered =
          subst (λ (all : List Position). AreOffered (sizes_of c.args.self.now) c.args.hand.now all c.put.new.hand)
          (sym (taken_more cells l.place cell below c.index.ensures))
          (offered_more (sizes_of c.args.self.now) c.args.hand.now l.hand c.put.new.hand (take l.place cells) cell l.invariant.offered
          (inl (c.put.ensures.put c.if-not-put.false)));
    }

pub returns-then-not-put-clause-offered : goal.returns-then-not-put-clause-offered
returns-then-not-put-clause-offered g c =
    let l = c.loop-place in
    refused_after (sizes_of c.args.self.now) c.args.hand.now l.hand c.put.new.hand _ c.args.cells.items l.place
    (omega (arith, c.loop-place-test.true, c.len-place-end.ensures)) l.invariant.offered
    (c.put.ensures.full c.if-not-put.true) c.put.ensures.hand.1 refl refl c.note_rest.ensures.noted

pub returns-clause-offered : goal.returns-clause-offered
returns-clause-offered g c =
    let cells = c.args.cells.items in
    subst (λ (all : List Position). AreOffered (sizes_of c.args.self.now) c.args.hand.now all c.loop-place.hand)
    (take_all c.loop-place.place cells (omega (arith, c.loop-place-test.false, c.len-place-end.ensures))) c.loop-place.invariant.offered
