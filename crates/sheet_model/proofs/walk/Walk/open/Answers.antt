use Rattle.sheet_model.specs.Parts.{AddsParts}
use Rattle.sheet_model.specs.Values.{content_references}
use Rattle.sheet_model.specs.Sheets.{content_value}
use Rattle.sheet_model.proofs.ListLemmas.{on_ok}
use Rattle.sheet_model.proofs.StepLemmas.{state_open, less_open}
use Rattle.sheet_model.proofs.WordLemmas.{states_set}
use Rattle.sheet_model.proofs.walk.Walk.open.Goals as goal

pub returns-in_err-push-clause-states : goal.returns-in_err-push-clause-states
returns-in_err-push-clause-states c = rw (← c.place.ensures.place, c.get.ensures) (states_set c.args.self.now.words.items c.place.result 6)

pub returns-clause-states : goal.returns-clause-states
returns-clause-states c = rw (← c.place.ensures.place, c.get.ensures) (states_set c.args.self.now.words.items c.place.result 6)

pub returns-clause-sound : goal.returns-clause-sound
returns-clause-sound c =
    let self = c.args.self.now in
    on_ok c.add_content.result
    (λ (adds : AddsParts c.sizes.result (content_references (content_value c.content.result.now)) self.parts.items c.add_content.new.parts.items).
    rw (c.in_ok-push.ensures.items, c.place.ensures.place, c.get.ensures, c.len-first.ensures, self.parts.ok.0)
    (state_open c.args.sheet.now self.words.items self.frames.items self.parts.items c.requires.sound c.args.cell
    c.requires.opening c.add_content.new.parts.items (rw (c.sizes.ensures.sizes, c.content.ensures.content) at
    adds)))
    c.add_content.ensures

pub returns-clause-less : goal.returns-clause-less
returns-clause-less c =
    let self = c.args.self.now in
    on_ok c.add_content.result
    (λ (adds : AddsParts c.sizes.result (content_references (content_value c.content.result.now)) self.parts.items c.add_content.new.parts.items).
    rw (c.in_ok-push.ensures.items, c.place.ensures.place, c.get.ensures)
    (less_open c.args.sheet.now self.words.items self.frames.items self.parts.items c.requires.sound c.args.cell
    c.requires.opening (record { cell = c.args.cell; first = c.len-first.result })))
    c.add_content.ensures
