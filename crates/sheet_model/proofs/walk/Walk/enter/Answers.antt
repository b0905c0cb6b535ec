use Rattle.std.proofs.Common.{◌≡◌, ◌≢◌, ◌<◌, slice_get, Some, option_map, sym, ◌∙◌, ap, rules}
use Rattle.std.proofs.lemmas.Option.{slice_get-map, slice_get_read}
use Rattle.sheet_refs.specs.Sizes.{cell_count, place_of}
use Rattle.sheet_model.specs.Walks.{cells_left}
use Rattle.sheet_model.specs.Words.{Unseen, Open, cell_state, states_of}
use Rattle.sheet_model.proofs.CycleLemmas.{closing_begin, known_close, seen_close, work_close}
use Rattle.sheet_model.proofs.ListLemmas.{on_ok}
use Rattle.sheet_model.proofs.StepLemmas.{words_count, state_close}
use Rattle.sheet_model.proofs.TurnLemmas.{known_set, seen_set}
use Rattle.sheet_model.proofs.WordLemmas.{unseen_state, seen_state}
use Rattle.sheet_model.proofs.walk.Walk.enter.Goals as goal
use Rattle.sheet_model.proofs.walk.Walk.enter.Goals.{After-index}

-- what is known of the cell
state : (c : After-index)
    → slice_get (states_of c.args.self.now.words.items) (place_of c.args.sheet.now.sizes c.args.cell) ≡ Some
    (cell_state c.index.result.now)
state c =
    let self = c.args.self.now in
    let count = words_count c.args.sheet.now self.words.items self.frames.items self.parts.items c.requires.sound in
    rw (← c.place-place.ensures.place)
    (slice_get-map cell_state self.words.items c.place-place.result
    ∙ ap (option_map cell_state) (slice_get_read self.words.items (cell_count c.args.sheet.now.sizes) c.place-place.result
    c.index.result.now (sym count) c.place-place.ensures.within c.index.ensures))

pub open-requires-clause-opening : goal.open-requires-clause-opening
open-requires-clause-opening c = record {
  inside = c.requires.waiting.inside;
  unseen =
      ap (λ states. slice_get states (place_of c.args.sheet.now.sizes c.args.cell)) (c.settle_at_once.ensures.left (search rules))
      ∙ state (goal.at.open-requires-clause-opening c).After-index ∙ ap Some (unseen_state c.index.result.now (search rules));
  newest = rw c.settle_at_once.ensures.frames c.requires.waiting.newest;
}

pub returns-then-index-get-clause-seen : goal.returns-then-index-get-clause-seen
returns-then-index-get-clause-seen c =
    let at = state (goal.at.returns-then-index-get-clause-seen c).After-index ∙ ap Some (unseen_state c.index.result.now (search rules)) in
    let differs : Open ≢ Unseen = λ e. cc in
    on_ok c.open.result
    (λ (less : cells_left c.open.new.self < cells_left c.settle_at_once.new.self).
    rw (c.open.ensures.states, c.settle_at_once.ensures.left (search rules))
    (seen_set (states_of c.args.self.now.words.items) (place_of c.args.sheet.now.sizes c.args.cell) Unseen Open at
    differs))
    c.open.ensures.less

pub returns-then-index-get-clause-known : goal.returns-then-index-get-clause-known
returns-then-index-get-clause-known c =
    let at = state (goal.at.returns-then-index-get-clause-known c).After-index ∙ ap Some (unseen_state c.index.result.now (search rules)) in
    on_ok c.open.result
    (λ (less : cells_left c.open.new.self < cells_left c.settle_at_once.new.self).
    rw (c.open.ensures.states, c.settle_at_once.ensures.left (search rules))
    (known_set (states_of c.args.self.now.words.items) (place_of c.args.sheet.now.sizes c.args.cell) Unseen Open at (λ v same. cc)))
    c.open.ensures.less

pub close-requires-clause-closing : goal.close-requires-clause-closing
close-requires-clause-closing c = closing_begin c.args.sheet.now (states_of c.args.self.now.words.items) c.args.self.now.frames.items c.requires.sound.walk

pub returns-clause-sound : goal.returns-clause-sound
returns-clause-sound c =
    let self = c.args.self.now in
    let at = state (goal.at.returns-clause-sound c).After-index in
    let differs : cell_state c.index.result.now ≢ Unseen = seen_state c.index.result.now (search rules) in
    let seen : slice_get (states_of self.words.items) (place_of c.args.sheet.now.sizes c.args.cell) ≢ Some Unseen = λ e. differs (cc (at, e)) in
    rw (c.close.ensures.frames, c.clear.ensures.items)
    (state_close c.args.sheet.now self.words.items self.frames.items self.parts.items c.requires.sound c.args.cell
    c.close.new.self.words.items c.requires.waiting seen c.close.ensures.words c.close.ensures.states)

pub returns-clause-seen : goal.returns-clause-seen
returns-clause-seen c =
    rw c.close.ensures.states (seen_close c.args.sheet.now (states_of c.args.self.now.words.items)
    c.args.self.now.frames.items c.requires.sound.walk)

pub returns-clause-known : goal.returns-clause-known
returns-clause-known c = rw c.close.ensures.states (known_close (states_of c.args.self.now.words.items))

pub returns-clause-less : goal.returns-clause-less
returns-clause-less c =
    rw (c.close.ensures.states, c.close.ensures.frames)
    (work_close c.args.sheet.now (states_of c.args.self.now.words.items) c.args.self.now.frames.items
    c.requires.sound.walk c.requires.waiting.some)
