-- What is refused for a cell outside is refused so.
use Rattle.std.proofs.Common.{◌≡◌, Err, ap}
use Rattle.live_sheet.specs.declared.committed.EditRefused.TheVariants as refusal
use Rattle.live_sheet.proofs.live.Live.edit.Goals as goal

pub returns-in-Ok-clause-out_of_sheet : goal.returns-in-Ok-clause-out_of_sheet
returns-in-Ok-clause-out_of_sheet g c = λ cell outside. let h = c.in-Ok.ensures.out_of_sheet cell outside in absurd (cc)

pub returns-in-Err-clause-out_of_sheet : goal.returns-in-Err-clause-out_of_sheet
returns-in-Err-clause-out_of_sheet g c = λ cell outside.
    let h = c.in-Err.ensures.out_of_sheet cell outside in
    let why : c.in-Err.refused ≡ refusal.OutOfSheet cell = cc in
    ap Err why
