-- One more new desk.
use Rattle.std.proofs.Common.{All, ◌∙◌, sym, subst, arith, ap, length, length-append, [], ◌∷◌}
use Rattle.std.proofs.lemmas.List.Elements.{All-push}
use Rattle.live_sheet.specs.Opened.{IsNewDesk}
use Rattle.live_sheet.proofs.desks.new_desks.Goals as goal

pub loop-preserved : goal.loop-preserved
loop-preserved g c =
    let before = c.in_ok-desk.ensures.start in
    record {
      start = record {
        words_are = before.words_are;
        subject_is = before.subject_is;
        seat = c.in_ok-store.ensures.same;
        begins = c.in_ok-store.ensures.kept ∙ before.begins;
        queue_is = before.queue_is;
        sizes_are = before.sizes_are;
        hand_is = before.hand_is;
      };
      count = omega (arith, ap length c.in_ok-push.ensures.items, length-append c.loop.desks.items (c.worker_desk.result ∷ []), c.loop.invariant.count);
      new =
          subst (λ desks. All IsNewDesk desks) (sym c.in_ok-push.ensures.items)
          (All-push IsNewDesk c.loop.desks.items c.worker_desk.result c.loop.invariant.new c.worker_desk.ensures);
    }
