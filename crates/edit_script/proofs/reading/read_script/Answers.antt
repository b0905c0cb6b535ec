use Rattle.std.proofs.Common.{◌≡◌, ◌≢◌, ◌∙◌, ◌+◌, Err, refl, ap, sym, subst}
use Rattle.sheet_model.specs.Sheets.{SheetValue, with_labels}
use Rattle.edit_script.specs.Progress.{Takes, brought}
use Rattle.edit_script.specs.Scripts.{Ground, IsFault, IsFirstFault, IsUnended, ground_of}
use Rattle.edit_script.specs.Scripts.IsRefused.{at_line, unended}
use Rattle.edit_script.specs.declared.refused.ScriptRefused.TheVariants.{Memory}
use Rattle.edit_script.proofs.TableLemmas.{same_table}
use Rattle.edit_script.proofs.ReadLemmas.{reading_begins, reading_ends, reading_goes, reading_stops, reading_unended, grows_twice}
use Rattle.edit_script.proofs.reading.read_script.Goals as goal

pub loop-text-init : goal.loop-text-init
loop-text-init c = (
  tt,
  tt,
  reading_begins c.args.mode (ground_of c.args.sheet.now) c.args.sheet.now.labels c.args.text.now c.into_iter-text-iterator.result c.new-progress.result
      (c.into_iter-text-iterator.ensures.into_iter_gives ∙ c.lines-text-items.ensures.value)
      c.new-progress.ensures.brought c.new-progress.ensures.sound c.new-progress.ensures.steps
      c.new-progress.ensures.batch,
  refl,
  same_table c.args.sheet.now.labels c.args.sheet.now.labels refl,
)

pub loop-text-preserved : goal.loop-text-preserved
loop-text-preserved c =
    let reading = c.loop-text.invariant.2 in
    let ground : ground_of c.loop-text.sheet ≡ ground_of c.args.sheet.now = ap ground_of c.loop-text.invariant.3 in
    let (line, says, taken) = c.in_default.ensures.taken refl in
    let takes =
    subst (λ (z : Ground). Takes z line (c.loop-text.number + 1) c.loop-text.sheet.labels c.loop-text.progress
    c.take_line.new.sheet.labels c.take_line.new.progress) ground taken in (
      tt,
      tt,
      reading_goes c.args.mode (ground_of c.args.sheet.now) c.args.sheet.now.labels c.args.text.now
          c.loop-text.sheet.labels c.take_line.new.sheet.labels c.loop-text.number c.loop-text.text-iterator
          c.next.new.self
          c.in-Some.text.now line c.loop-text.progress c.take_line.new.progress reading c.in-Some.ensures.steps says takes,
      c.take_line.ensures.kept ∙ ap (λ s. with_labels s c.take_line.new.sheet.labels) c.loop-text.invariant.3,
      grows_twice c.args.sheet.now.labels c.loop-text.sheet.labels c.take_line.new.sheet.labels c.loop-text.invariant.4 c.take_line.ensures.grown,
    )

pub returns-in-Some-take_line-clause-result : goal.returns-in-Some-take_line-clause-result
returns-in-Some-take_line-clause-result c = λ other.
    let differs : c.in-Some-take_line.why ≢ Memory = λ same. other (ap Err same) in
    let ground : ground_of c.loop-text.sheet ≡ ground_of c.args.sheet.now = ap ground_of c.loop-text.invariant.3 in
    let labels : c.take_line.new.sheet.labels ≡ c.loop-text.sheet.labels = ap (λ (s : SheetValue). s.labels) (c.in-Some-take_line.ensures.same differs) in
    let told = c.in-Some-take_line.ensures.fault differs in
    let fault : IsFault c.args.mode (ground_of c.args.sheet.now) (brought c.loop-text.progress) c.in-Some.text.now c.in-Some-take_line.why =
    subst (λ (z : Ground). IsFault c.args.mode z (brought c.loop-text.progress) c.in-Some.text.now c.in-Some-take_line.why) ground told.1 in
    at_line
    (subst (λ ls. IsFirstFault c.args.mode (ground_of c.args.sheet.now) c.args.sheet.now.labels ls c.args.text.now c.in-Some-take_line.why) (sym labels)
    (reading_stops c.args.mode (ground_of c.args.sheet.now) c.args.sheet.now.labels c.loop-text.sheet.labels
    c.args.text.now c.loop-text.number c.loop-text.text-iterator c.loop-text.progress c.loop-text.invariant.2
    c.in-Some.text.now c.next.new.self c.in-Some-take_line.why c.in-Some.ensures.steps told.0 fault))

pub returns-in-Some-unended-clause-result : goal.returns-in-Some-unended-clause-result
returns-in-Some-unended-clause-result c = λ other.
    unended c.in-Some-unended.number refl
    (subst (IsUnended c.args.mode (ground_of c.args.sheet.now) c.args.sheet.now.labels c.loop-text.sheet.labels
    c.args.text.now) (sym c.in-Some-unended.ensures.0)
    (reading_unended c.args.mode (ground_of c.args.sheet.now) c.args.sheet.now.labels c.loop-text.sheet.labels
    c.args.text.now c.loop-text.number c.loop-text.text-iterator c.loop-text.progress c.loop-text.invariant.2
    c.in-None.ensures.steps.0 c.in-Some-unended.ensures.1))

pub returns-clause-result : goal.returns-clause-result
returns-clause-result c = λ other.
    reading_ends c.args.mode (ground_of c.args.sheet.now) c.args.sheet.now.labels c.loop-text.sheet.labels
    c.args.text.now c.loop-text.number c.loop-text.text-iterator c.loop-text.progress c.loop-text.invariant.2
    c.into_script.result
    c.in-None.ensures.steps.0 c.in_default-unended.ensures c.into_script.ensures.names c.into_script.ensures.steps
