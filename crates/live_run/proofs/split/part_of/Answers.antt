use Rattle.std.proofs.Common.{All, sym, subst, ◌∙◌}
use Rattle.live_run.specs.Parts.{IsAnswerable}
use Rattle.live_run.proofs.PartLemmas.{all_by}
use Rattle.live_run.proofs.split.part_of.Goals as goal

pub reports_for-requires : goal.reports_for-requires
reports_for-requires c = subst (All IsAnswerable) (sym (c.deref.ensures.value ∙ c.in_ok-commands.ensures))
    (all_by IsAnswerable c.args.client c.args.steps.now c.requires)
