use Rattle.recalc_plan.proofs.CycleLemmas.{not_circular}
use Rattle.recalc_plan.proofs.LawLemmas.{has_stale, levels_least, same_index, plans_agree, stands_once}
use Rattle.recalc_plan.proofs.laws.plan_laws.Goals as goal

pub returns : goal.returns
returns c = record {
  least = λ pairs stale levels circular given plan rises number cell here. levels_least pairs stale levels given plan.sorted rises number cell here;
  apart = λ pairs stale levels circular plan number cell here listed. not_circular pairs stale levels plan.sorted cell
      number here ((plan.exact cell).0 listed).1;
  agree = plans_agree;
  stale = has_stale;
  once = λ pairs stale levels circular plan. stands_once pairs stale levels plan.sorted;
  circular = λ pairs stale levels circular plan. same_index circular plan.distinct;
}
