use Rattle.std.proofs.Common.{◌≤◌, ◌++◌, ◌∷◌, [], length}
use Rattle.sheet_model.specs.Walks.{IsWalkState}
use Rattle.sheet_model.proofs.StepLemmas.{done_last, finish_plain, finish_inside, state_finish, less_finish, seen_finish, known_finish}
use Rattle.sheet_model.proofs.walk.Walk.finish.Goals as goal
use Rattle.sheet_model.proofs.walk.Walk.finish.Goals.{After-content-content}

-- the walk before, with the newest frame apart
sound : (c : After-content-content) → IsWalkState c.args.sheet.now c.args.self.now.words.items (c.pop.new.self.items
    ++ c.in-Some.frame ∷ []) c.args.self.now.parts.items
sound c = rw c.in-Some.ensures.items at c.requires.sound

done : (c : After-content-content) → length c.args.self.now.parts.items ≤ c.in-Some.frame.first
done c =
    done_last c.args.self.now.frames.items c.pop.new.self.items c.in-Some.frame (length c.args.self.now.parts.items)
    c.in-Some.ensures.items c.requires.done

pub evaluate-word-requires-clause-words : goal.evaluate-word-requires-clause-words
evaluate-word-requires-clause-words c = rw c.deref.ensures.value c.requires.sound.coded

pub evaluate-word-requires-clause-plain : goal.evaluate-word-requires-clause-plain
evaluate-word-requires-clause-plain c =
    let before = (goal.at.evaluate-word-requires-clause-plain c).After-content-content in
    rw (c.sizes.ensures.sizes, c.deref.ensures.value, c.content-content.ensures.content)
    (finish_plain c.args.sheet.now c.args.self.now.words.items c.pop.new.self.items c.in-Some.frame c.args.self.now.parts.items (sound before) (done before))

pub place-requires : goal.place-requires
place-requires c =
    let before = (goal.at.place-requires c).After-content-content in
    finish_inside c.args.sheet.now c.args.self.now.words.items c.pop.new.self.items c.in-Some.frame c.args.self.now.parts.items (sound before)

pub returns-clause-sound : goal.returns-clause-sound
returns-clause-sound c =
    let before = (goal.at.returns-clause-sound c).After-content-content in
    let known = rw (c.sizes.ensures.sizes, c.deref.ensures.value, c.content-content.ensures.content) at c.evaluate-word.ensures.state in
    rw c.place.ensures.place
    (state_finish c.args.sheet.now c.args.self.now.words.items c.pop.new.self.items c.in-Some.frame
    c.args.self.now.parts.items (sound before) c.evaluate-word.result (done before) c.evaluate-word.ensures.word
    known)

pub returns-clause-seen : goal.returns-clause-seen
returns-clause-seen c =
    let before = (goal.at.returns-clause-seen c).After-content-content in
    let known = rw (c.sizes.ensures.sizes, c.deref.ensures.value, c.content-content.ensures.content) at c.evaluate-word.ensures.state in
    rw c.place.ensures.place
    (seen_finish c.args.sheet.now c.args.self.now.words.items c.pop.new.self.items c.in-Some.frame
    c.args.self.now.parts.items (sound before) c.evaluate-word.result known)

pub returns-clause-known : goal.returns-clause-known
returns-clause-known c =
    let before = (goal.at.returns-clause-known c).After-content-content in
    rw c.place.ensures.place
    (known_finish c.args.sheet.now c.args.self.now.words.items c.pop.new.self.items c.in-Some.frame
    c.args.self.now.parts.items (sound before) c.evaluate-word.result)

pub returns-clause-less : goal.returns-clause-less
returns-clause-less c = λ not_idle.
    let before = (goal.at.returns-clause-less c).After-content-content in
    let known = rw (c.sizes.ensures.sizes, c.deref.ensures.value, c.content-content.ensures.content) at c.evaluate-word.ensures.state in
    rw (c.place.ensures.place, c.in-Some.ensures.items)
    (less_finish c.args.sheet.now c.args.self.now.words.items c.pop.new.self.items c.in-Some.frame
    c.args.self.now.parts.items (sound before) c.evaluate-word.result known)
