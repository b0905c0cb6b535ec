-- What was made is the edit, and what is refused for a cell outside is refused so.
use Rattle.std.proofs.Common.{◌≡◌, Err, ◌∙◌, ap, subst}
use Rattle.edit_log.specs.Books.{client_entry, HasApplied}
use Rattle.edit_log.specs.declared.refused.PrepareRefused.TheVariants as refused
use Rattle.live_sheet.specs.Graphs.{live_pairs}
use Rattle.live_sheet.proofs.CauseLemmas.{applied_from}
use Rattle.live_sheet.proofs.RefusalLemmas.{refused_outside}
use Rattle.live_sheet.proofs.locked.Locked.edit.Goals as goal

pub returns-in_ok-room-in-Ok-clause-made : goal.returns-in_ok-room-in-Ok-clause-made
returns-in_ok-room-in-Ok-clause-made g c =
    subst (λ book. HasApplied (client_entry c.args.pass.now.client c.args.edit) book c.make.new.self.book) c.hear_pass.ensures.book
    (applied_from live_pairs c.hear_pass.new.self.book c.prepare.new.self.book c.make.new.self.book
    c.in-Ok.prepared.entry (client_entry c.args.pass.now.client c.args.edit) c.prepare.ensures.same
    (c.in-Ok.ensures.entry ∙ ap (λ n. client_entry n c.args.edit) c.hear_pass.ensures.pass.kept.client)
    c.make.ensures.made)

pub returns-in_ok-room-in-Ok-clause-out_of_sheet :
    goal.returns-in_ok-room-in-Ok-clause-out_of_sheet
returns-in_ok-room-in-Ok-clause-out_of_sheet g c = λ cell outside. let h = c.in-Ok.ensures.out_of_sheet cell outside in absurd (cc)

pub returns-in-Err-clause-out_of_sheet : goal.returns-in-Err-clause-out_of_sheet
returns-in-Err-clause-out_of_sheet g c = λ cell outside.
    let h = c.in-Err.ensures.out_of_sheet cell outside in
    let why : c.in-Err.refused ≡ refused.OutOfSheet cell = cc in
    ap Err (refused_outside _ _ _ cell c.in-Err.refused c.refuse.result why c.refuse.ensures.answer)
