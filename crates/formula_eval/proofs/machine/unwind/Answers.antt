use Rattle.std.proofs.Common.{◌∙◌, ap, ◌++◌, arith}
use Rattle.std.specs.Option.{option_to_list}
use Rattle.formula_eval.proofs.PendingLemmas.{unwinds_step}
use Rattle.formula_eval.proofs.machine.unwind.Goals as goal

pub loop-pending-preserved : goal.loop-pending-preserved
loop-pending-preserved c =
    let rest = c.pop.ensures.items ∙ ap (λ o. c.pop.new.self.items ++ option_to_list o) c.in-Some.is in (
      unwinds_step c.args.pending.now.items c.loop-pending.pending.items c.pop.new.self.items c.in-Some.last
          c.args.first c.args.value c.loop-pending.value c.apply-value.result c.loop-pending.invariant.0 rest
          (omega arith) c.apply-value.ensures,
      c.pop.ensures.capacity ∙ c.loop-pending.invariant.1,
    )
