use Rattle.std.proofs.Common.{refl, ◌∙◌, ◌≡◌, ◌+◌, ◌++◌, ap, arith, map, take, Some}
use Rattle.std.specs.Prelude.{slice_get}
use Rattle.std.proofs.lemmas.List.{take_all}
use Rattle.std.proofs.lemmas.Option.{slice_get_read}
use Rattle.sheet_refs.specs.Sizes.{place_of}
use Rattle.sheet_refs.specs.Cells.{IsIn, cells_of}
use Rattle.mark_words.specs.Tokens.{subject_of, log_of}
use Rattle.recalc_workers.specs.Inputs.{IsInParts, all_cells}
use Rattle.recalc_workers.proofs.ReadingLemmas.{read_on, taken_more, part_more, stops_there}
use Rattle.recalc_workers.proofs.gathering.read_parts.Goals as goal

pub returns-in-Err-clause-only : goal.returns-in-Err-clause-only
returns-in-Err-clause-only g c = read_on c.args.seat.now c.loop-part.seat c.read_range.new.seat c.loop-part.invariant.1 c.read_range.ensures.only

pub returns-in-Err-clause-stops : goal.returns-in-Err-clause-stops
returns-in-Err-clause-stops g c =
    let at : slice_get c.args.parts.now c.loop-part.part-index ≡ Some c.part-item.result =
    slice_get_read c.args.parts.now _ c.loop-part.part-index c.part-item.result refl c.loop-part-test.true c.part-item.is in
    stops_there c.args.sizes (λ cell. IsIn cell c.part-item.result.range) (IsInParts c.args.parts.now)
    (λ cell inside. record { place = c.loop-part.part-index; part = c.part-item.result; listed = at; within = inside })
    c.args.seat.now c.loop-part.seat c.read_range.new.seat c.args.met c.in-Err.unread c.loop-part.invariant.1.keeps c.in-Err.ensures.stops

pub loop-part-preserved : goal.loop-part-preserved
loop-part-preserved g c = (
  c.read_range.ensures.same,
  read_on c.args.seat.now c.loop-part.seat c.read_range.new.seat c.loop-part.invariant.1 c.read_range.ensures.only,
  part_more (λ cell. g.S.Subject.worth (subject_of c.args.marks.now) (log_of c.args.seat.now)
      (place_of c.args.sizes cell)) (take c.loop-part.part-index c.args.parts.now)
      (take (c.loop-part.part-index + 1) c.args.parts.now) c.part-item.result
      c.args.words.now.items c.loop-part.words.items c.read_range.new.words.items
      (taken_more c.args.parts.now c.loop-part.part-index c.part-item.result c.loop-part-test.true c.part-item.is)
      c.loop-part.invariant.2
      (c.in_default.ensures.words
      ∙ ap (λ l. c.loop-part.words.items
      ++ map (λ cell. g.S.Subject.worth (subject_of c.args.marks.now) l (place_of c.args.sizes cell))
      (cells_of c.part-item.result.range)) c.loop-part.invariant.1.log),
)

pub returns-clause-words : goal.returns-clause-words
returns-clause-words g c =
    c.loop-part.invariant.2
    ∙ ap (λ parts. c.args.words.now.items
    ++ map (λ cell. g.S.Subject.worth (subject_of c.args.marks.now) (log_of c.args.seat.now)
    (place_of c.args.sizes cell)) (all_cells parts))
    (take_all c.loop-part.part-index c.args.parts.now (omega (arith, c.loop-part-test.false)))
