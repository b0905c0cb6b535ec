-- One place more was looked at.
use Rattle.std.proofs.Common.{arith}
use Rattle.mark_words.specs.Tokens.{subject_of}
use Rattle.live_sheet.proofs.SliceLemmas.{count_still, round_begins, round_goes_on, visited_on}
use Rattle.live_sheet.proofs.round.look_from.Goals as goal

pub loop-place-init : goal.loop-place-init
loop-place-init g c =
    round_begins c.args.marks.now (g.S.Subject.touches (subject_of c.args.marks.now)) c.args.sizes c.args.desk.now c.args.seen.now c.args.start
    c.requires.table c.requires.inside

pub look_at-requires-clause-count : goal.look_at-requires-clause-count
look_at-requires-clause-count g c κs within =
    count_still c.args.count c.args.desk.now c.loop-place.desk c.loop-place.invariant.visited c.requires.count

pub returns-in_err-look_at-clause-visited : goal.returns-in_err-look_at-clause-visited
returns-in_err-look_at-clause-visited g c =
    visited_on c.args.desk.now c.loop-place.desk c.look_at.new.desk c.loop-place.invariant.visited c.look_at.ensures.visited

pub returns-then-is_enough-clause-visited : goal.returns-then-is_enough-clause-visited
returns-then-is_enough-clause-visited g c =
    visited_on c.args.desk.now c.loop-place.desk c.look_at.new.desk c.loop-place.invariant.visited c.look_at.ensures.visited

pub returns-then-is_enough-clause-clear : goal.returns-then-is_enough-clause-clear
returns-then-is_enough-clause-clear g c = λ clear. absurd (c.is_enough.ensures c.if-is_enough.true clear)

pub loop-place-preserved : goal.loop-place-preserved
loop-place-preserved g c =
    round_goes_on c.args.marks.now (g.S.Subject.touches (subject_of c.args.marks.now)) c.args.sizes c.args.desk.now c.args.seen.now c.args.start
    c.loop-place.desk c.look_at.new.desk c.loop-place.seen c.look_at.new.seen c.loop-place.place c.loop-place.invariant
    c.look_at.ensures.table c.look_at.ensures.visited c.in_ok-look_at.ensures.inside c.in_ok-look_at.ensures.clear

pub returns-clause-clear : goal.returns-clause-clear
returns-clause-clear g c = λ clear.
    let all = c.loop-place.invariant.clear clear in
    (all.0, λ place from below. all.1 place from (omega (arith, below, c.loop-place-test.false)))
