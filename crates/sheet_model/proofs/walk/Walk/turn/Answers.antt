use Rattle.std.proofs.Common.{◌≡◌, ◌≤◌, ◌-◌, suc, length, slice_get, Some, refl, subst, arith}
use Rattle.std.proofs.lemmas.Option.{slice_get_read}
use Rattle.sheet_model.specs.Parts.{LooksOn}
use Rattle.sheet_model.specs.Words.{states_of}
use Rattle.sheet_model.specs.declared.walk.Frame.{Frame}
use Rattle.sheet_model.proofs.LeftLemmas.{waits_for}
use Rattle.sheet_model.proofs.StepLemmas.{state_look, same_last}
use Rattle.sheet_model.proofs.walk.Walk.turn.Goals as goal
use Rattle.sheet_model.proofs.walk.Walk.turn.Goals.{After-index-frame, After-look}

-- the newest frame
end : (c : After-index-frame) → suc (c.len-count.result - 1) ≡ length c.args.self.now.frames.items
end c = let count = c.args.self.now.frames.ok.0 in let some = c.if-count-eq0.false in omega (arith, count, c.len-count.ensures, some)

newest : (c : After-index-frame) → slice_get c.args.self.now.frames.items (c.len-count.result - 1) ≡ Some c.index-frame.result.now
newest c = slice_get_read c.args.self.now.frames.items (length c.args.self.now.frames.items) (c.len-count.result - 1)
    c.index-frame.result.now refl (omega (arith, end c)) c.index-frame.ensures

looks : (c : After-look) → LooksOn c.args.sheet.now.sizes (states_of c.args.self.now.words.items) c.args.self.now.parts.items c.look.new.parts.items
looks c = rw (c.sizes.ensures.sizes, c.deref.ensures.value) at c.look.ensures.looks

pub look-requires-clause-words : goal.look-requires-clause-words
look-requires-clause-words c = rw c.deref.ensures.value c.requires.sound.coded

pub enter-requires-clause-sound : goal.enter-requires-clause-sound
enter-requires-clause-sound c =
    let self = c.args.self.now in
    state_look c.args.sheet.now self.words.items self.frames.items self.parts.items c.requires.sound
    c.look.new.parts.items (looks (goal.at.enter-requires-clause-sound c).After-look)

pub enter-requires-clause-waiting : goal.enter-requires-clause-waiting
enter-requires-clause-waiting c =
    let self = c.args.self.now in
    let before = (goal.at.enter-requires-clause-waiting c).After-index-frame in
    let sound = state_look c.args.sheet.now self.words.items self.frames.items self.parts.items c.requires.sound
    c.look.new.parts.items (looks (goal.at.enter-requires-clause-waiting c).After-look) in
    let stop = rw (c.sizes.ensures.sizes, c.deref.ensures.value) at c.in-Some.ensures.stop in
    waits_for c.args.sheet.now (states_of self.words.items) self.frames.items c.look.new.parts.items
    (c.len-count.result - 1) c.index-frame.result.now c.in-Some.cell (newest before) (end before) sound.left stop

pub finish-requires-clause-sound : goal.finish-requires-clause-sound
finish-requires-clause-sound c =
    let self = c.args.self.now in
    state_look c.args.sheet.now self.words.items self.frames.items self.parts.items c.requires.sound
    c.look.new.parts.items (looks (goal.at.finish-requires-clause-sound c).After-look)

pub finish-requires-clause-done : goal.finish-requires-clause-done
finish-requires-clause-done c = λ i f at end_i.
    let before = (goal.at.finish-requires-clause-done c).After-index-frame in
    let same = same_last c.args.self.now.frames.items (c.len-count.result - 1) i c.index-frame.result.now f (newest before) at (end before) end_i in
    subst (λ (g : Frame). length c.look.new.parts.items ≤ g.first) same c.in-None.ensures.stop
