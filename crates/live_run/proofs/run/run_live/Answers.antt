use Rattle.std.proofs.Common.{◌≡◌, ℕ, List, length, All, refl, sym, ap, subst, ◌∙◌, arith}
use Rattle.std.specs.Prelude.{string_bytes}
use Rattle.std.proofs.lemmas.List.{length-map}
use Rattle.edit_script.specs.declared.script.Step.{Step}
use Rattle.live_run.specs.Parts.{ArePartsOf, IsPartFor}
use Rattle.live_run.specs.Tasks.{IsRunOf}
use Rattle.live_run.proofs.PartLemmas.{parts_for}
use Rattle.live_run.proofs.RoomLemmas.{few_edits}
use Rattle.live_run.proofs.TranscriptLemmas.{is_legal, is_whole}
use Rattle.live_run.proofs.run.run_live.Goals as goal

pub session-requires-clause-named : goal.session-requires-clause-named
session-requires-clause-named g c κs within = record {
  ledger_is = refl;
  parts_are = refl;
  words_are = refl;
  queue_is = refl;
  opening_is = refl;
  clients_are = refl;
}

pub session-requires-clause-count : goal.session-requires-clause-count
session-requires-clause-count g c κs within = c.in_ok-parts.ensures.count ∙ sym c.in_ok-setup.ensures.clients_are

pub session-requires-clause-parts : goal.session-requires-clause-parts
session-requires-clause-parts g c κs within =
    let are = subst (λ (steps : List Step). ArePartsOf c.len-clients.result steps c.in_ok-parts.parts.items) c.steps.ensures.steps c.in_ok-parts.ensures in
    subst (λ s. All (IsPartFor s) c.in_ok-parts.parts.items) (sym c.in_ok-setup.ensures.opening)
    (parts_for c.args.sheet c.len-clients.result c.args.script.now.steps c.in_ok-parts.parts.items c.requires.runnable.short c.requires.runnable.commands are)

pub session-requires-clause-edits : goal.session-requires-clause-edits
session-requires-clause-edits g c κs within =
    let are = subst (λ (steps : List Step). ArePartsOf c.len-clients.result steps c.in_ok-parts.parts.items) c.steps.ensures.steps c.in_ok-parts.ensures in
    let most = few_edits c.len-clients.result c.args.script.now.steps c.in_ok-parts.parts.items are in
    let few = c.requires.runnable.edits in
    omega (arith, most, few)

pub returns-clause-legal : goal.returns-clause-legal
returns-clause-legal g c =
    let names = c.in_ok-names.ensures ∙ c.names.ensures.names in
    let clients : c.len-clients.result ≡ length c.args.script.now.names =
    c.len-clients.ensures ∙ c.in_ok-names.names.ok.0 ∙ sym (length-map c.in_ok-names.names.items string_bytes) ∙ ap length names in
    let are = subst (λ (n : ℕ). ArePartsOf n c.args.script.now.steps c.in_ok-parts.parts.items) clients
    (subst (λ (steps : List Step). ArePartsOf c.len-clients.result steps c.in_ok-parts.parts.items) c.steps.ensures.steps c.in_ok-parts.ensures) in
    let run = subst (λ s. IsRunOf s c.in_ok-parts.parts.items c.in_ok-closed.field-0) c.in_ok-setup.ensures.opening c.in_ok-closed.ensures in
    is_legal c.args.sheet c.args.script.now c.in_ok-parts.parts.items
    (record {
      names = c.in_ok-names.names;
      log = c.in_ok-closed.field-0.closed.log;
      sheet = c.in_ok-closed.field-0.closed.sheet;
      values = c.in_ok-closed.field-0.closed.values;
      reports = c.in_ok-closed.field-0.reports;
    })
    c.in_ok-closed.field-0 names are run

pub returns-clause-whole : goal.returns-clause-whole
returns-clause-whole g c =
    let names = c.in_ok-names.ensures ∙ c.names.ensures.names in
    let clients : c.len-clients.result ≡ length c.args.script.now.names =
    c.len-clients.ensures ∙ c.in_ok-names.names.ok.0 ∙ sym (length-map c.in_ok-names.names.items string_bytes) ∙ ap length names in
    let are = subst (λ (n : ℕ). ArePartsOf n c.args.script.now.steps c.in_ok-parts.parts.items) clients
    (subst (λ (steps : List Step). ArePartsOf c.len-clients.result steps c.in_ok-parts.parts.items) c.steps.ensures.steps c.in_ok-parts.ensures) in
    let run = subst (λ s. IsRunOf s c.in_ok-parts.parts.items c.in_ok-closed.field-0) c.in_ok-setup.ensures.opening c.in_ok-closed.ensures in
    is_whole c.args.sheet c.args.script.now c.in_ok-parts.parts.items
    (record {
      names = c.in_ok-names.names;
      log = c.in_ok-closed.field-0.closed.log;
      sheet = c.in_ok-closed.field-0.closed.sheet;
      values = c.in_ok-closed.field-0.closed.values;
      reports = c.in_ok-closed.field-0.reports;
    })
    c.in_ok-closed.field-0 names are run
