use Rattle.std.proofs.Common.{◌≡◌, [], ◌∙◌, sym}
use Rattle.sheet_refs.specs.Sizes.{place_of}
use Rattle.sheet_model.specs.Words.{states_of}
use Rattle.sheet_model.proofs.CycleLemmas.{closing_end}
use Rattle.sheet_model.proofs.ListLemmas.{empty_list}
use Rattle.sheet_model.proofs.StepLemmas.{circular_is_word, words_closing, words_same}
use Rattle.sheet_model.proofs.WordLemmas.{words_set}
use Rattle.sheet_model.proofs.walk.Walk.close.Goals as goal

pub loop-frame-preserved : goal.loop-frame-preserved
loop-frame-preserved c =
    let words = c.loop-frame.self.words.items in
    let closing = rw c.in-Some.ensures.items at c.loop-frame.invariant.closing in
    rw (c.place.ensures.place, c.get.ensures) (record {
      words = words_set words (place_of c.args.sheet.now.sizes c.in-Some.frame.cell) 59 c.loop-frame.invariant.words circular_is_word;
      closing = words_closing c.args.sheet.now words c.pop.new.self.items c.in-Some.frame closing;
      same = words_same c.args.sheet.now words c.pop.new.self.items c.in-Some.frame closing ∙ c.loop-frame.invariant.same;
    })

pub returns-clause-states : goal.returns-clause-states
returns-clause-states c =
    let none : c.loop-frame.self.frames.items ≡ [] =
    empty_list c.loop-frame.self.frames.items (sym c.loop-frame.self.frames.ok.0 ∙ c.in_default.ensures.cases.0) in
    let closing = rw none at c.loop-frame.invariant.closing in
    closing_end c.args.sheet.now (states_of c.loop-frame.self.words.items) closing ∙ c.loop-frame.invariant.same
