use Rattle.std.proofs.Common.{◌≡◌, ◌+◌, ◌*◌, arith, subst, rules}
use Rattle.sheet_model.proofs.LineLemmas.{PlainBelow, plain_all, plain_joined, stops_joined, within_part}
use Rattle.sheet_model.proofs.words.words_to_stop.Goals as goal

pub batch_to_stop-plain-requires-clause-within : goal.batch_to_stop-plain-requires-clause-within
batch_to_stop-plain-requires-clause-within c =
    within_part c.args.words.now c.args.first c.args.step c.loop-read.read _ c.args.count c.requires.within (search rules)

pub returns-then-plain-next : goal.returns-then-plain-next
returns-then-plain-next c =
    stops_joined c.args.words.now c.args.first c.args.step c.loop-read.read _ c.batch_to_stop-plain.result c.args.count
    c.loop-read.invariant.0 c.batch_to_stop-plain.ensures c.if-plain-next.true (search rules)

pub loop-read-preserved : goal.loop-read-preserved
loop-read-preserved c =
    let same : c.batch_to_stop-plain.result ≡ c.min-next.result = omega (arith, c.if-plain-next.false, c.batch_to_stop-plain.ensures.few) in (
      plain_joined c.args.words.now c.args.first c.args.step c.loop-read.read c.min-next.result c.loop-read.invariant.0
          (subst (PlainBelow c.args.words.now (c.args.first + c.loop-read.read * c.args.step) c.args.step) same c.batch_to_stop-plain.ensures.plain),
      search rules,
    )

pub returns : goal.returns
returns c = plain_all c.args.words.now c.args.first c.args.step c.loop-read.read c.args.count c.loop-read.invariant.0 (omega (arith, c.loop-read.invariant.1))
