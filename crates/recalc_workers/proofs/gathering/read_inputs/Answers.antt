use Rattle.std.proofs.Common.{rules, []}
use Rattle.formula_eval.specs.Meaning.{IsNamedBy}
use Rattle.sheet_model.specs.Parts.{AddsParts}
use Rattle.sheet_model.specs.Sheets.{content_value}
use Rattle.sheet_model.specs.Values.{content_references}
use Rattle.recalc_workers.specs.Inputs.{IsInParts, StopsReading}
use Rattle.recalc_workers.proofs.SeatLemmas.{keeps_itself}
use Rattle.recalc_workers.proofs.ReadingLemmas.{if_err, named_in_parts, stops_there}
use Rattle.recalc_workers.proofs.gathering.read_inputs.Goals as goal

pub returns-clause-stops : goal.returns-clause-stops
returns-clause-stops g c =
    let references = content_references (content_value c.args.content.now) in
    let gains : AddsParts c.args.sizes references [] c.deref.result.now = search rules in
    if_err (StopsReading c.args.sizes (IsInParts c.deref.result.now) c.args.seat.now c.read_parts.new.seat c.args.met)
    (StopsReading c.args.sizes (λ cell. IsNamedBy references cell) c.args.seat.now c.read_parts.new.seat c.args.met) c.read_parts.result
    (λ unread. stops_there c.args.sizes (IsInParts c.deref.result.now) (λ cell. IsNamedBy references cell)
    (named_in_parts c.args.sizes references c.deref.result.now gains)
    c.args.seat.now c.args.seat.now c.read_parts.new.seat c.args.met unread (keeps_itself c.args.seat.now))
    c.read_parts.ensures.stops
