use Rattle.std.proofs.Common.{◌≡◌, map, take}
use Rattle.sheet_model.specs.Sheets.{content_value}
use Rattle.sheet_model.specs.Walks.{first_state}
use Rattle.sheet_model.specs.Words.{AreWords, states_of}
use Rattle.sheet_model.proofs.eval.first_words.Given as goal

abbrev pub invariant-loop-content : goal.invariant-loop-content
invariant-loop-content l = record {
  states : states_of l.words.items ≡ map (λ content. first_state (content_value content)) (take l.content-index l.contents);
  words : AreWords l.words.items;
}
