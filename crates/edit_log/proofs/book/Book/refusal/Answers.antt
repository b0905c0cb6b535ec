use Rattle.std.proofs.Common.{◌≡◌, Some, ap, subst}
use Rattle.sheet_model.specs.Edits.{EditValue, AreInSheet}
use Rattle.sheet_model.specs.Sheets.{SheetValue}
use Rattle.edit_log.specs.Books.{BookValue}
use Rattle.edit_log.specs.Refusals.{IsFirstOutside}
use Rattle.edit_log.specs.declared.refused.PrepareRefused.TheVariants.{OutOfSheet}
use Rattle.edit_log.proofs.RefusalLemmas.{first_outside_once, none_outside}
use Rattle.edit_log.proofs.book.Book.refusal.Goals as goal

pub returns-in-Some-clause-out_of_sheet : goal.returns-in-Some-clause-out_of_sheet
returns-in-Some-clause-out_of_sheet g c =
    let sheet_is : c.self.inside.sheet ≡ c.args.self.now.sheet = ap (λ (b : BookValue _). b.sheet) c.self.view_is in
    let found : IsFirstOutside c.args.self.now.sheet c.args.edit.now c.in-Some.cell =
    subst (λ (s : SheetValue). IsFirstOutside s c.args.edit.now c.in-Some.cell) sheet_is
    (subst (λ (e : EditValue). IsFirstOutside c.self.inside.sheet e c.in-Some.cell) c.changes.ensures.changes
    c.in-Some.ensures) in
    λ cell first. ap (λ x. Some (OutOfSheet x)) (first_outside_once c.args.self.now.sheet c.args.edit.now c.in-Some.cell cell found first)

pub returns-in-Some-clause-log_full : goal.returns-in-Some-clause-log_full
returns-in-Some-clause-log_full g c =
    let sheet_is : c.self.inside.sheet ≡ c.args.self.now.sheet = ap (λ (b : BookValue _). b.sheet) c.self.view_is in
    let found : IsFirstOutside c.args.self.now.sheet c.args.edit.now c.in-Some.cell =
    subst (λ (s : SheetValue). IsFirstOutside s c.args.edit.now c.in-Some.cell) sheet_is
    (subst (λ (e : EditValue). IsFirstOutside c.self.inside.sheet e c.in-Some.cell) c.changes.ensures.changes
    c.in-Some.ensures) in
    λ inside full. absurd (none_outside c.args.self.now.sheet c.args.edit.now c.in-Some.cell inside found)

pub returns-then-length-eq-MAX_ENTRIES-clause-out_of_sheet : goal.returns-then-length-eq-MAX_ENTRIES-clause-out_of_sheet
returns-then-length-eq-MAX_ENTRIES-clause-out_of_sheet g c =
    let sheet_is : c.self.inside.sheet ≡ c.args.self.now.sheet = ap (λ (b : BookValue _). b.sheet) c.self.view_is in
    let inside : AreInSheet c.args.self.now.sheet c.args.edit.now =
    subst (λ (s : SheetValue). AreInSheet s c.args.edit.now) sheet_is (subst (AreInSheet c.self.inside.sheet) c.changes.ensures.changes c.in_default.ensures) in
    λ cell first. absurd (none_outside c.args.self.now.sheet c.args.edit.now cell inside first)

pub returns-clause-out_of_sheet : goal.returns-clause-out_of_sheet
returns-clause-out_of_sheet g c =
    let sheet_is : c.self.inside.sheet ≡ c.args.self.now.sheet = ap (λ (b : BookValue _). b.sheet) c.self.view_is in
    let inside : AreInSheet c.args.self.now.sheet c.args.edit.now =
    subst (λ (s : SheetValue). AreInSheet s c.args.edit.now) sheet_is (subst (AreInSheet c.self.inside.sheet) c.changes.ensures.changes c.in_default.ensures) in
    λ cell first. absurd (none_outside c.args.self.now.sheet c.args.edit.now cell inside first)
