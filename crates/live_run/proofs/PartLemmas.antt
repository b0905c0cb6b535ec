-- The commands and the reports of a client, as they are gathered; and parts for a sheet.
use Rattle.std.proofs.Common.{◌≡◌, ◌<◌, ◌≤◌, ◌+◌, ◌^◌, inl, inr, ℕ, Bool, true, false, cond, List, [], ◌∷◌, ◌++◌}
use Rattle.std.proofs.Common.{length, take, map, get_or, All, sym, ◌∙◌, ap, subst, arith, length-append}
use Rattle.std.specs.Prelude.{◌==◌, filter}
use Rattle.std.specs.List.{AllZip}
use Rattle.std.proofs.lemmas.List.{append-nil, map-append, length-map}
use Rattle.std.proofs.lemmas.List.Elements.{All-filter, All-map, All-weaker, filter-append}
use Rattle.std.proofs.lemmas.Option.{slice_get-get_or}
use Rattle.sheet_model.specs.Sheets.{SheetValue}
use Rattle.sheet_model.proofs.ListLemmas.{slice_get-pushed, taken_more}
use Rattle.edit_script.specs.declared.script.Command.{Command}
use Rattle.edit_script.specs.declared.script.Command.TheVariants as asks
use Rattle.edit_script.specs.declared.script.Step.{Step}
use Rattle.sheet_model.specs.declared.report.Report.{Report}
use Rattle.live_run.specs.Legal.{LookAsked, commands_by, looks_asked, looks_behind}
use Rattle.live_run.specs.Parts.{AddsReport, ArePartsOf, AreStepsAnswerable, IsAnswerable, IsPartFor, IsPartOf}
use Rattle.live_run.specs.Runs.{AreReportsFor, IsCommandFor, IsReportFor}
use Rattle.live_run.specs.declared.part.Part.{Part}
use Rattle.live_run.proofs.CommandLemmas.{looks_more}
use Rattle.live_run.proofs.ZipLemmas.{zip_push}

-- the commands of a client of a step more
one_more : (client : ℕ) (steps : List Step) (place : ℕ) (step : Step) → place < length steps → step ≡ get_or steps place step
    → commands_by client (take (place + 1) steps) ≡ commands_by client (take place steps)
    ++ map (λ (s : Step). s.command) (cond (step.client == client) (step ∷ []) [])
one_more client steps place step within is =
    ap (commands_by client) (taken_more steps place step within is)
    ∙ ap (map (λ (s : Step). s.command)) (filter-append (λ (s : Step). s.client == client) (take place steps) (step ∷ []))
    ∙ map-append (λ (s : Step). s.command) (filter (λ (s : Step). s.client == client) (take place steps))
    (filter (λ (s : Step). s.client == client) (step ∷ []))

pub command_more : (client : ℕ) (steps : List Step) (place : ℕ) (step : Step) (commands more : List Command)
    → place < length steps → step ≡ get_or steps place step → (step.client == client) ≡ true
    → commands ≡ commands_by client (take place steps) → more ≡ commands ++ step.command ∷ [] → more ≡ commands_by client (take (place + 1) steps)
command_more client steps place step commands more within is own so pushed =
    pushed ∙ ap (λ cs. cs ++ step.command ∷ []) so
    ∙ sym (one_more client steps place step within is ∙ ap (λ b. commands_by client (take place steps)
    ++ map (λ (s : Step). s.command) (cond b (step ∷ []) [])) own)

pub command_other : (client : ℕ) (steps : List Step) (place : ℕ) (step : Step) (commands : List Command)
    → place < length steps → step ≡ get_or steps place step → (step.client == client) ≡ false
    → commands ≡ commands_by client (take place steps) → commands ≡ commands_by client (take (place + 1) steps)
command_other client steps place step commands within is other so =
    so ∙ sym (one_more client steps place step within is ∙ ap (λ b. commands_by client (take place steps)
    ++ map (λ (s : Step). s.command) (cond b (step ∷ []) [])) other
    ∙ append-nil (commands_by client (take place steps)))

-- the looks of a command more are those of the others and then its own, and so are their reports
added : (m : ℕ) (looks : List LookAsked) (command : Command) (old new : List Report) → AllZip IsReportFor looks old
    → AddsReport command old new → AllZip IsReportFor (looks ++ looks_behind m (command ∷ [])) new
added m looks (asks.Put edit) old new all adds =
    subst (λ rs. AllZip IsReportFor (looks ++ []) rs) (sym adds) (subst (λ ls. AllZip IsReportFor ls old)
    (sym (append-nil looks)) all)
added m looks (asks.Look window) old new all adds =
    subst (λ rs. AllZip IsReportFor (looks ++ record { firm = false; window = window; made = m } ∷ []) rs) (sym adds.added)
    (zip_push IsReportFor looks old _ adds.report all (record { firm_is = adds.is_of.firm_is; room = adds.is_of.room }))
added m looks (asks.Firm window) old new all adds =
    subst (λ rs. AllZip IsReportFor (looks ++ record { firm = true; window = window; made = m } ∷ []) rs) (sym adds.added)
    (zip_push IsReportFor looks old _ adds.report all (record { firm_is = adds.is_of.firm_is; room = adds.is_of.room }))
added m looks (asks.Work turns) old new all adds =
    subst (λ rs. AllZip IsReportFor (looks ++ []) rs) (sym adds) (subst (λ ls. AllZip IsReportFor ls old)
    (sym (append-nil looks)) all)

pub report_more : (commands : List Command) (place : ℕ) (command : Command) (old new : List Report)
    → place < length commands → command ≡ get_or commands place command
    → AreReportsFor (take place commands) old → AddsReport command old new → AreReportsFor (take (place + 1) commands) new
report_more commands place command old new within is so adds =
    subst (λ cs. AreReportsFor cs new) (sym (taken_more commands place command within is))
    (subst (λ ls. AllZip IsReportFor ls new) (sym (looks_more (take place commands) command))
    (added _ (looks_asked (take place commands)) command old new so adds))

pub no_reports : (reports : List Report) → reports ≡ [] → AreReportsFor [] reports
no_reports reports none = subst (AreReportsFor []) (sym none) tt

-- what a client's commands keep of all steps
pub all_by : (P : Command → Type 0) (client : ℕ) (steps : List Step) → All (λ (s : Step). P s.command) steps → All P (commands_by client steps)
all_by P client steps all = All-map P (λ (s : Step). s.command) (filter (λ (s : Step). s.client == client) steps)
    (All-filter (λ (s : Step). s.client == client) (λ (s : Step). P s.command) steps all)

filtered : {X : Type 0} (p : X → Bool) (xs : List X) → length (filter p xs) ≤ length xs
filtered p [] = omega arith
filtered p (x ∷ xs) = go (p x) (filtered p xs)
  where
    go : (b : Bool) → length (filter p xs) ≤ length xs → length (cond b (x ∷ filter p xs) (filter p xs)) ≤ length (x ∷ xs)
    go true less = omega (arith, less)
    go false less = omega (arith, less)

-- a command that is for a sheet has a window that a board may have
answerable : (sheet : SheetValue) (command : Command) → IsCommandFor sheet command → IsAnswerable command
answerable sheet (asks.Put edit) for = tt
answerable sheet (asks.Look window) for = for.small
answerable sheet (asks.Firm window) for = for.small
answerable sheet (asks.Work turns) for = tt

pub all_answerable : (sheet : SheetValue) (steps : List Step) → All (λ (s : Step). IsCommandFor sheet s.command) steps → AreStepsAnswerable steps
all_answerable sheet steps all =
    All-weaker (λ (s : Step). IsCommandFor sheet s.command) (λ (s : Step). IsAnswerable s.command)
    (λ s for. answerable sheet s.command for) steps all

-- the parts of a script that may be run over a sheet are for it
part_for : (sheet : SheetValue) (client : ℕ) (steps : List Step) (part : Part) → length steps < 2 ^ 32
    → All (λ (s : Step). IsCommandFor sheet s.command) steps → IsPartOf client steps part → IsPartFor sheet part
part_for sheet client steps part short all of =
    record {
      few =
          (let same = ap length of.commands_are ∙ length-map (filter (λ (s : Step). s.client == client) steps)
          (λ (s : Step). s.command) in let less = filtered (λ (s : Step). s.client == client) steps in
          omega (arith, same, less, short));
      commands = subst (All (IsCommandFor sheet)) (sym of.commands_are) (all_by (IsCommandFor sheet) client steps all);
      reports = of.reports_are;
    }

pub parts_for : (sheet : SheetValue) (clients : ℕ) (steps : List Step) (parts : List Part) → length steps < 2 ^ 32
    → All (λ (s : Step). IsCommandFor sheet s.command) steps → ArePartsOf clients steps parts
    → All (IsPartFor sheet) parts
parts_for sheet clients steps parts short all of = λ place part within.
    part_for sheet place steps (get_or parts place part) short all (of.each place (get_or parts place part) (slice_get-get_or parts place part within))

-- one part more
pub parts_more : (client : ℕ) (steps : List Step) (parts more : List Part) (part : Part) → ArePartsOf client steps parts
    → IsPartOf client steps part → more ≡ parts ++ part ∷ [] → ArePartsOf (client + 1) steps more
parts_more client steps parts more part are is pushed =
    subst (ArePartsOf (client + 1) steps) (sym pushed) (record {
      count = (let long = length-append parts (part ∷ []) in let count = are.count in omega (arith, long, count));
      each = λ k other at. elim (slice_get-pushed parts part k other at) [
        | inl before ↦ are.each k other before
        | inr last ↦ subst (λ n. IsPartOf n steps other) (sym (last.0 ∙ are.count)) (subst (IsPartOf client steps) last.1 is)
      ];
    })
