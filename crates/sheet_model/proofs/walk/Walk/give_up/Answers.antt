use Rattle.std.proofs.Common.{◌≡◌, [], ◌∙◌, sym}
use Rattle.sheet_refs.specs.Sizes.{place_of}
use Rattle.sheet_model.specs.Words.{states_of}
use Rattle.sheet_model.proofs.LeftLemmas.{parts_none}
use Rattle.sheet_model.proofs.ListLemmas.{empty_list}
use Rattle.sheet_model.proofs.StepLemmas.{inside_newest, known_given_up, walk_given_up}
use Rattle.sheet_model.proofs.WordLemmas.{unseen_is_word, words_set}
use Rattle.sheet_model.proofs.walk.Walk.give_up.Goals as goal

pub place-requires : goal.place-requires
place-requires c =
    inside_newest c.args.sheet.now c.loop-frame.self.words.items c.pop.new.self.items c.in-Some.frame
    (rw c.in-Some.ensures.items at c.loop-frame.invariant.walk)

pub loop-frame-preserved : goal.loop-frame-preserved
loop-frame-preserved c =
    let sheet = c.args.sheet.now in
    let words = c.loop-frame.self.words.items in
    let walk = rw c.in-Some.ensures.items at c.loop-frame.invariant.walk in
    let known = known_given_up sheet words c.pop.new.self.items c.in-Some.frame walk in
    rw (c.place.ensures.place, c.get.ensures) (record {
      coded = words_set words (place_of sheet.sizes c.in-Some.frame.cell) 5 c.loop-frame.invariant.coded unseen_is_word;
      walk = walk_given_up sheet words c.pop.new.self.items c.in-Some.frame walk;
      known = λ p v at. known p v (c.loop-frame.invariant.known p v at);
    })

pub returns-clause-sound : goal.returns-clause-sound
returns-clause-sound c =
    let before : c.loop-frame.self.frames.items ≡ [] =
    empty_list c.loop-frame.self.frames.items (sym c.loop-frame.self.frames.ok.0 ∙ c.in_default.ensures.cases.0) in
    let after : c.pop.new.self.items ≡ [] = empty_list c.pop.new.self.items (sym c.pop.new.self.ok.0 ∙ c.in_default.ensures.cases.1) in
    rw (after, c.clear.ensures.items) (record {
      coded = c.loop-frame.invariant.coded;
      walk = rw before at c.loop-frame.invariant.walk;
      left = parts_none c.args.sheet.now (states_of c.loop-frame.self.words.items);
    })
