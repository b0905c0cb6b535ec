use Rattle.std.proofs.Common.{◌≡◌, slice_get, Some, sym, ◌∙◌, ap, subst, rules}
use Rattle.std.proofs.lemmas.Option.{slice_get_read}
use Rattle.sheet_refs.specs.Sizes.{cell_count, place_of}
use Rattle.value_core.specs.Values.{code_of}
use Rattle.sheet_model.specs.Values.{value_of}
use Rattle.sheet_model.specs.Walks.{IsKnownAt, walk_states}
use Rattle.sheet_model.proofs.ResultLemmas.{word_held}
use Rattle.sheet_model.proofs.StepLemmas.{words_count}
use Rattle.sheet_model.proofs.WordLemmas.{decoded_code}
use Rattle.sheet_model.proofs.kept_values.KeptValues.value.Goals as goal
use Rattle.sheet_model.proofs.kept_values.KeptValues.value.Goals.{After-decode}

-- the word that is read is the code of the cell's value
shown : (c : After-decode) → c.decode.result ≡ Some (value_of c.args.sheet.now c.args.cell)
shown c =
    let sheet = c.args.sheet.now in
    let walk = c.settle_apart.new.self in
    let state = c.in_ok-settle_apart.ensures.sound in
    let known = word_held sheet walk.words.items walk.frames.items state.coded state.walk c.args.cell c.requires.inside
    (subst (IsKnownAt (walk_states walk)) c.place-place.ensures.place c.in_ok-settle_apart.ensures.settled) in
    let count = words_count sheet walk.words.items _ _ state in
    let at = slice_get_read walk.words.items (cell_count sheet.sizes) c.place-place.result c.index.result.now (sym count)
    c.place-place.ensures.within c.index.ensures in
    let here : Some c.index.result.now ≡ Some (code_of (value_of sheet c.args.cell)) =
    sym at ∙ ap (slice_get walk.words.items) c.place-place.ensures.place ∙ known.1 in
    decoded_code c.index.result.now c.decode.result (value_of sheet c.args.cell) c.decode.ensures known.0 (cc)

pub unwrap-requires : goal.unwrap-requires
unwrap-requires c = let is = shown (goal.at.unwrap-requires c).After-decode in rw is (search rules)

pub returns-clause-value : goal.returns-clause-value
returns-clause-value c = let is = shown (goal.at.returns-clause-value c).After-decode in search (rules, is)

pub returns-clause-held : goal.returns-clause-held
returns-clause-held c = subst (IsKnownAt (walk_states c.settle_apart.new.self)) c.place-place.ensures.place c.in_ok-settle_apart.ensures.settled

pub returns-clause-others : goal.returns-clause-others
returns-clause-others c = λ other held. (held.0, c.in_ok-settle_apart.ensures.known (place_of c.args.sheet.now.sizes other) held.0 held.1)
