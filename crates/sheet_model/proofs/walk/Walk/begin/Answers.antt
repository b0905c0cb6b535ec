use Rattle.std.proofs.Common.{◌≢◌, ◌<◌, rules}
use Rattle.sheet_model.specs.Values.{step_content}
use Rattle.sheet_model.specs.Walks.{cells_left, content_there, known_values}
use Rattle.sheet_model.specs.Words.{Open, Unseen, states_of}
use Rattle.sheet_model.proofs.ListLemmas.{on_ok}
use Rattle.sheet_model.proofs.TurnLemmas.{known_set, seen_set, work_settle}
use Rattle.sheet_model.proofs.walk.Walk.begin.Goals as goal

pub returns-then-settle_at_once-clause-less : goal.returns-then-settle_at_once-clause-less
returns-then-settle_at_once-clause-less c =
    let sheet = c.args.sheet.now in
    let states = states_of c.args.self.now.words.items in
    rw (c.settle_at_once.ensures.settled (search rules), c.settle_at_once.ensures.frames)
    (work_settle sheet states c.args.self.now.frames.items c.args.place
    (step_content sheet.sizes (known_values sheet.sizes states) (content_there sheet c.args.place)) c.requires.unseen)

pub returns-clause-known : goal.returns-clause-known
returns-clause-known c =
    on_ok c.open.result
    (λ (less : cells_left c.open.new.self < cells_left c.settle_at_once.new.self).
    rw (c.open.ensures.states, c.cell_at.ensures.place, c.settle_at_once.ensures.left (search rules))
    (known_set (states_of c.args.self.now.words.items) c.args.place Unseen Open c.requires.unseen (λ v same. cc)))
    c.open.ensures.less

pub returns-clause-seen : goal.returns-clause-seen
returns-clause-seen c =
    let differs : Open ≢ Unseen = λ e. cc in
    on_ok c.open.result
    (λ (less : cells_left c.open.new.self < cells_left c.settle_at_once.new.self).
    rw (c.open.ensures.states, c.cell_at.ensures.place, c.settle_at_once.ensures.left (search rules))
    (seen_set (states_of c.args.self.now.words.items) c.args.place Unseen Open c.requires.unseen differs))
    c.open.ensures.less
