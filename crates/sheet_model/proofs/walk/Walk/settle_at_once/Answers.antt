use Rattle.std.proofs.Common.{◌≡◌, set, true, rules, ◌∙◌, ap}
use Rattle.sheet_model.specs.Values.{step_content}
use Rattle.sheet_model.specs.Walks.{content_there, known_values}
use Rattle.sheet_model.specs.Words.{Known, cell_state, states_of}
use Rattle.sheet_model.proofs.SettleLemmas.{state_settle}
use Rattle.sheet_model.proofs.WordLemmas.{states_set}
use Rattle.sheet_model.proofs.walk.Walk.settle_at_once.Goals as goal
use Rattle.sheet_model.proofs.walk.Walk.settle_at_once.Goals.{After-evaluate-word}

pub is_ready-requires-clause-words : goal.is_ready-requires-clause-words
is_ready-requires-clause-words c = rw c.deref.ensures.value c.requires.sound.coded

pub evaluate-word-requires-clause-words : goal.evaluate-word-requires-clause-words
evaluate-word-requires-clause-words c = rw c.deref-2.ensures.value c.requires.sound.coded

-- the value that was found
known : (c : After-evaluate-word) → cell_state c.evaluate-word.result
    ≡ Known (step_content c.args.sheet.now.sizes (known_values c.args.sheet.now.sizes (states_of c.args.self.now.words.items))
    (content_there c.args.sheet.now c.args.place))
known c = rw (c.sizes-2.ensures.sizes, c.deref-2.ensures.value, c.content_at-content.ensures) at c.evaluate-word.ensures.state

pub returns-clause-sound : goal.returns-clause-sound
returns-clause-sound c =
    let self = c.args.self.now in
    let ready : c.is_ready.result ≡ true = search rules in
    let plain = rw (c.sizes.ensures.sizes, c.deref.ensures.value, c.content_at-content.ensures) at (c.is_ready.ensures ready) in
    state_settle c.args.sheet.now self.words.items self.frames.items self.parts.items c.requires.sound c.args.place
    c.evaluate-word.result c.requires.unseen plain c.evaluate-word.ensures.word
    (known (goal.at.returns-clause-sound c).After-evaluate-word)

pub returns-clause-settled : goal.returns-clause-settled
returns-clause-settled c = λ yes.
    let states = states_of c.args.self.now.words.items in
    states_set c.args.self.now.words.items c.args.place c.evaluate-word.result
    ∙ ap (set states c.args.place) (known (goal.at.returns-clause-settled c).After-evaluate-word)
