use Rattle.std.proofs.Common.{◌≡◌, ◌+◌, ap, subst, ◌∙◌}
use Rattle.live_gen.specs.Draws.{DrawsValue, draw_of, draws_after}
use Rattle.live_gen.specs.Filling.{FillsRow}
use Rattle.live_gen.proofs.FillLemmas.{holds_row}
use Rattle.live_gen.proofs.sheeting.draw_sheet.Goals as goal

pub loop-row-preserved : goal.loop-row-preserved
loop-row-preserved c =
    let here = c.loop-row.invariant.drawn in
    let number = c.args.draws.now.number in
    let drawn : c.next-drawn.result ≡ draw_of c.args.draws.now.number (c.loop-row.row + 1) 1000 =
    c.next-drawn.ensures.drawn ∙ ap (λ (v : DrawsValue). draw_of v.number (v.made + 1) 1000) here in
    record {
      drawn = c.next-drawn.ensures.one ∙ ap (λ (v : DrawsValue). draws_after v.number (v.made + 1)) here;
      holds =
          holds_row c.args.draws.now.number c.loop-row.row c.loop-row.sheet c.fill_row.new.sheet c.loop-row.invariant.holds
          (subst (λ n. FillsRow c.loop-row.row n 7 c.loop-row.sheet c.fill_row.new.sheet) drawn c.in_ok-fill_row.ensures);
    }
