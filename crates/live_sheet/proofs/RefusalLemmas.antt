-- What a refusal for a cell outside answers.
use Rattle.std.proofs.Common.{◌≡◌, List, subst}
use Rattle.sheet_refs.specs.Cells.{Position}
use Rattle.sheet_model.specs.declared.entry.Entry.{Entry}
use Rattle.edit_log.specs.declared.refused.PrepareRefused.{PrepareRefused}
use Rattle.edit_log.specs.declared.refused.PrepareRefused.TheVariants as prepare
use Rattle.live_sheet.specs.declared.committed.EditRefused.{EditRefused}
use Rattle.live_sheet.specs.declared.committed.EditRefused.TheVariants.{OutOfSheet}
use Rattle.live_sheet.specs.declared.naming.Naming.{Ghosts}
use Rattle.live_sheet.specs.declared.pass.Pass.{Pass}
use Rattle.live_sheet.specs.Edited.{IsRefusedAs}

pub refused_outside : {N : Type 0} {G : Ghosts N} (log : List Entry) (old new : Pass N G) (cell : Position)
    (why : PrepareRefused) (answer : EditRefused) → why ≡ prepare.OutOfSheet cell → IsRefusedAs log old new why answer
    → answer ≡ OutOfSheet cell
refused_outside log old new cell why answer is told = (subst (λ (w : PrepareRefused). IsRefusedAs log old new w answer) is told).0
