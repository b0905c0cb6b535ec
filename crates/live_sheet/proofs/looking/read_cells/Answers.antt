-- One cell more was read, and is shown.
use Rattle.std.proofs.Common.{◌≡◌, ◌<◌, ◌+◌, ℕ, length, take, sym, ◌∙◌, ap, subst, arith, length-append, [], ◌∷◌}
use Rattle.std.proofs.lemmas.Option.{get_or_from_slice_get}
use Rattle.sheet_refs.specs.Cells.{cells_of}
use Rattle.sheet_refs.proofs.Places.{comes_to_next}
use Rattle.mark_words.specs.Tokens.{doing_of, view_of, own_steps}
use Rattle.sheet_model.specs.Boards.{BoardValue}
use Rattle.sheet_model.proofs.ListLemmas.{taken_more}
use Rattle.live_sheet.specs.Looks.{after_read, loads_made}
use Rattle.live_sheet.specs.Steps.{StepsAre}
use Rattle.live_sheet.proofs.LookLemmas.{read_one_more}
use Rattle.live_sheet.proofs.looking.read_cells.Goals as goal

pub loop-place-preserved : goal.loop-place-preserved
loop-place-preserved c =
    let l = c.loop-place in
    let xs = cells_of c.args.window in
    let now = l.seat in
    let next = c.read_place-loads.new.seat in
    let loads = c.read_place-loads.result in
    let below : l.place < length xs = omega (arith, c.loop-place-test.true, c.cells-cells.ensures.count) in
    let listed = l.invariant.come.listed below in
    let pushed = ap (λ (b : BoardValue). b.cells) c.push.ensures in
    let at = c.place.ensures.place in
    record {
      same = c.read_place-loads.ensures.same;
      come = comes_to_next c.args.window l.place l.cell c.cell_behind-cell.result l.invariant.come below
          c.cell_behind-cell.ensures.next c.cell_behind-cell.ensures.inside;
      read = read_one_more c.args.sizes c.args.number (take l.place xs) (take (l.place + 1) xs) l.cell loads
          c.show.result c.args.seat.now now next l.board.cells c.push.new.self.cells
          (taken_more xs l.place l.cell below (sym (get_or_from_slice_get xs l.place l.cell l.cell listed)))
          pushed
          l.invariant.read
          (subst (λ (n : ℕ). doing_of next ≡ record (doing_of now) { view = after_read (view_of now) n loads }) at c.read_place-loads.ensures.doing)
          (subst (λ (n : ℕ). StepsAre (own_steps now) (loads_made n loads) (own_steps next)) at c.read_place-loads.ensures.steps)
          c.show.ensures;
      count = omega (arith, ap length pushed, length-append l.board.cells (c.show.result ∷ []), l.invariant.count);
      within = omega (arith, c.loop-place-test.true);
      number_is = ap (λ (b : BoardValue). b.number) c.push.ensures ∙ l.invariant.number_is;
      window_is = ap (λ (b : BoardValue). b.window) c.push.ensures ∙ l.invariant.window_is;
      room = ap (λ (b : BoardValue). b.room) c.push.ensures ∙ l.invariant.room;
    }
