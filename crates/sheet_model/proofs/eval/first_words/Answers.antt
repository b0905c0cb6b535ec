use Rattle.std.proofs.Common.{◌∙◌}
use Rattle.formula_eval.proofs.NodeLemmas.{take-all}
use Rattle.sheet_model.specs.Sheets.{content_value}
use Rattle.sheet_model.specs.Walks.{first_state}
use Rattle.sheet_model.proofs.ListLemmas.{map_after}
use Rattle.sheet_model.proofs.WalkLemmas.{states_more}
use Rattle.sheet_model.proofs.WordLemmas.{words_push}
use Rattle.sheet_model.proofs.eval.first_words.Goals as goal

pub loop-content-preserved : goal.loop-content-preserved
loop-content-preserved c =
    rw c.in_ok-push.ensures.items (record {
      states = states_more c.args.contents.now c.loop-content.words.items c.loop-content.content-index
          c.content-item.result c.first_word.result c.loop-content.invariant.states c.loop-content-test.true
          c.content-item.is c.first_word.ensures.state;
      words = words_push c.loop-content.words.items c.first_word.result c.loop-content.invariant.words c.first_word.ensures.word;
    })

pub returns-clause-states : goal.returns-clause-states
returns-clause-states c =
    let all = take-all c.args.contents.now c.loop-content.content-index c.loop-content-test.false in
    (rw all at c.loop-content.invariant.states) ∙ map_after first_state content_value c.args.contents.now
