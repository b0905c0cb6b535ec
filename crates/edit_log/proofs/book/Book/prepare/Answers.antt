use Rattle.std.proofs.Common.{◌≡◌, ◌∙◌, Some, Err, ap, sym}
use Rattle.edit_log.specs.declared.refused.PrepareRefused.TheVariants.{OutOfSheet}
use Rattle.edit_log.proofs.book.Book.prepare.Goals as goal

pub returns-in-Some-clause-out_of_sheet : goal.returns-in-Some-clause-out_of_sheet
returns-in-Some-clause-out_of_sheet g c = λ cell first.
    (let told : Some c.in-Some.refused ≡ Some (OutOfSheet cell) = sym c.in-Some.is ∙ c.refusal.ensures.out_of_sheet cell first in
    let same : c.in-Some.refused ≡ OutOfSheet cell = cc in
    ap Err same)

pub returns-in_err-prepared-clause-out_of_sheet : goal.returns-in_err-prepared-clause-out_of_sheet
returns-in_err-prepared-clause-out_of_sheet g c = λ cell first. absurd (c.in_default.not-Some (OutOfSheet cell) (c.refusal.ensures.out_of_sheet cell first))

pub returns-in_err-reserve-clause-out_of_sheet : goal.returns-in_err-reserve-clause-out_of_sheet
returns-in_err-reserve-clause-out_of_sheet g c = λ cell first. absurd (c.in_default.not-Some (OutOfSheet cell) (c.refusal.ensures.out_of_sheet cell first))

pub returns-clause-out_of_sheet : goal.returns-clause-out_of_sheet
returns-clause-out_of_sheet g c = λ cell first. absurd (c.in_default.not-Some (OutOfSheet cell) (c.refusal.ensures.out_of_sheet cell first))
