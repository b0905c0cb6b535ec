use Rattle.std.proofs.Common.{rules, ◌<◌, length, sym, refl, ◌∙◌, ap, subst, arith}
use Rattle.std.proofs.lemmas.List.{append-nil}
use Rattle.sheet_refs.specs.Cells.{cells_of}
use Rattle.sheet_refs.specs.Sizes.{place_of}
use Rattle.sheet_refs.proofs.Places.{comes_to_head, comes_to_next, HasComeTo}
use Rattle.mark_words.specs.Tokens.{subject_of, log_of}
use Rattle.recalc_workers.proofs.ReadingLemmas.{read_nothing, read_on, outdated_later, one_more}
use Rattle.recalc_workers.proofs.gathering.read_range.Goals as goal

pub loop-place-init : goal.loop-place-init
loop-place-init g c = (
  c.requires.table,
  read_nothing c.args.seat.now,
  sym (append-nil c.args.words.now.items),
  subst (λ cell. HasComeTo c.args.range 0 cell) (sym c.head-cell.ensures.head)
      (comes_to_head c.args.range c.head-cell.ensures.ordered),
)

pub returns-in_default-clause-only : goal.returns-in_default-clause-only
returns-in_default-clause-only g c = read_on c.args.seat.now c.loop-place.seat c.read_input.new.seat c.loop-place.invariant.1 c.read_input.ensures.only

pub returns-in_default-clause-stops : goal.returns-in_default-clause-stops
returns-in_default-clause-stops g c = (
  c.loop-place.invariant.3.inside,
  c.requires.inside c.loop-place.cell c.loop-place.invariant.3.inside,
  outdated_later c.args.seat.now c.loop-place.seat c.read_input.new.seat _ c.args.met c.loop-place.invariant.1.keeps (c.in_default.ensures.outdated refl),
)

pub returns-then-is_err-clause-only : goal.returns-then-is_err-clause-only
returns-then-is_err-clause-only g c = read_on c.args.seat.now c.loop-place.seat c.read_input.new.seat c.loop-place.invariant.1 c.read_input.ensures.only

pub loop-place-preserved : goal.loop-place-preserved
loop-place-preserved g c =
    let below : c.loop-place._place < length (cells_of c.args.range) = omega (arith, c.loop-place-test.true, c.cells-place-end.ensures.count) in (
      c.read_input.ensures.same,
      read_on c.args.seat.now c.loop-place.seat c.read_input.new.seat c.loop-place.invariant.1 c.read_input.ensures.only,
      one_more (λ cell. g.S.Subject.worth (subject_of c.args.marks.now) (log_of c.args.seat.now)
          (place_of c.args.sizes cell)) (cells_of c.args.range) c.loop-place._place c.loop-place.cell c.in-Some.word
          c.args.words.now.items c.loop-place.words.items c.push.new.self.items (c.loop-place.invariant.3.listed below)
          (c.in-Some.ensures.word
          ∙ ap (λ l. g.S.Subject.worth (subject_of c.args.marks.now) l (place_of c.args.sizes c.loop-place.cell))
          c.loop-place.invariant.1.log)
          c.loop-place.invariant.2 (search rules),
      comes_to_next c.args.range c.loop-place._place c.loop-place.cell c.cell_behind-cell.result
          c.loop-place.invariant.3 below c.cell_behind-cell.ensures.next c.cell_behind-cell.ensures.inside,
    )
