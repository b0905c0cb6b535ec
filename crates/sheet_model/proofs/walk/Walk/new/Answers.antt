use Rattle.sheet_model.specs.Words.{states_of}
use Rattle.sheet_model.proofs.LeftLemmas.{parts_none}
use Rattle.sheet_model.proofs.WalkLemmas.{walk_new}
use Rattle.sheet_model.proofs.walk.Walk.new.Goals as goal

pub returns-clause-walk : goal.returns-clause-walk
returns-clause-walk c =
    rw (c.new-2.ensures.items, c.new-3.ensures.items) (record {
      coded = c.in_ok-words.ensures.words;
      walk = rw (c.in_ok-words.ensures.states, c.contents.ensures.contents) (walk_new c.args.sheet.now c.contents.ensures.sheet);
      left = parts_none c.args.sheet.now (states_of c.in_ok-words.words.items);
    })
