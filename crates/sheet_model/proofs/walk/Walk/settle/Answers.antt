use Rattle.std.proofs.Common.{Some, option_map, sym, ◌∙◌, ap, rules}
use Rattle.std.proofs.lemmas.Option.{slice_get-map, slice_get_read}
use Rattle.sheet_refs.specs.Sizes.{cell_count}
use Rattle.sheet_model.specs.Words.{cell_state}
use Rattle.sheet_model.proofs.StepLemmas.{words_count}
use Rattle.sheet_model.proofs.WordLemmas.{unseen_state}
use Rattle.sheet_model.proofs.walk.Walk.settle.Goals as goal

pub begin-requires-clause-unseen : goal.begin-requires-clause-unseen
begin-requires-clause-unseen c =
    let self = c.args.self.now in
    let count = words_count c.args.sheet.now self.words.items self.frames.items self.parts.items c.requires.sound in
    slice_get-map cell_state self.words.items c.args.place
    ∙ ap (option_map cell_state) (slice_get_read self.words.items (cell_count c.args.sheet.now.sizes) c.args.place
    c.index.result.now (sym count) c.requires.place c.index.ensures)
    ∙ ap Some (unseen_state c.index.result.now (search rules))

pub loop-self-preserved : goal.loop-self-preserved
loop-self-preserved c = record {
  sound = c.in_ok-turn.ensures.sound;
  seen = λ p unseen. c.loop-self.invariant.seen p (c.in_ok-turn.ensures.seen p unseen);
  known = λ p v at. c.in_ok-turn.ensures.known p v (c.loop-self.invariant.known p v at);
}

pub returns-clause-seen : goal.returns-clause-seen
returns-clause-seen c = λ p unseen. c.in_ok-begin.ensures.seen p (c.loop-self.invariant.seen p unseen)

pub returns-clause-known : goal.returns-clause-known
returns-clause-known c = λ p v at. c.loop-self.invariant.known p v (c.in_ok-begin.ensures.known p v at)

pub returns-clause-settled : goal.returns-clause-settled
returns-clause-settled c = λ unseen. c.in_ok-begin.ensures.begun (c.loop-self.invariant.seen c.args.place unseen)
