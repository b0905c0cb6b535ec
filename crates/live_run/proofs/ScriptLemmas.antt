-- A script that was read for a live run may be run over its sheet.
use Rattle.std.proofs.Common.{◌≡◌, ◌⊎◌, inl, inr, ⊎_elim, ℕ, ◌+◌, ◌<◌, ◌≤◌, Bool, true, false, List, [], ◌∷◌, ◌++◌}
use Rattle.std.proofs.Common.{length, Option, Some, None, All, arith, refl, sym, ap, subst, ◌∙◌, length-append}
use Rattle.std.specs.Prelude.{Contains, fold, if◌then◌else◌}
use Rattle.std.specs.List.{list_any}
use Rattle.std.specs.Str.{bytes_eq}
use Rattle.std.proofs.lemmas.List.Elements.{All-nil, All-pop, All-push, Contains-push}
use Rattle.std.proofs.lemmas.Map.Views.{Contains-from_any}
use Rattle.std.proofs.lemmas.Slice.Eq.{bytes_eq-Decides}
use Rattle.bstr.proofs.lemmas.LengthLemmas.{length-lines}
use Rattle.sheet_refs.specs.Cells.{Position}
use Rattle.formula_syntax.specs.declared.edition.Edition.{Edition}
use Rattle.sheet_model.specs.Changes.{ChangeValue}
use Rattle.sheet_model.specs.Edits.{EditValue}
use Rattle.sheet_model.specs.Labels.{with_label}
use Rattle.sheet_model.specs.Sheets.{SheetValue, Constant, with_labels}
use Rattle.value_core.specs.declared.value.Value.TheVariants.{Empty}
use Rattle.edit_script.specs.Lines.{FitsMode, LineValue, Skip, Client, Set, Clear, Look, Firm, Work, Batch, End, script_lines}
use Rattle.edit_script.specs.Scripts.{AddsCommand, AreLines, AreSteps, Brought, GoesOn, Ground, IsAllowed, IsScript}
use Rattle.edit_script.specs.Scripts.{MakesChange, ScriptValue, brought_by, change_of, ground_of, nothing_yet}
use Rattle.edit_script.specs.Scripts.{with_change, with_client, with_line}
use Rattle.edit_script.specs.Scripts.AreLines.{none as no_lines, more as more_lines}
use Rattle.edit_script.specs.Scripts.AreSteps.{none as no_steps, more as step_more}
use Rattle.edit_script.specs.declared.script.Command.{Command}
use Rattle.edit_script.specs.declared.script.Command.TheVariants as asks
use Rattle.edit_script.specs.declared.script.Mode.{Mode}
use Rattle.edit_script.specs.declared.script.Mode.TheVariants.{Live}
use Rattle.edit_script.specs.declared.script.Step.{Step}
use Rattle.edit_script.proofs.NameLemmas.{few_names}
use Rattle.edit_script.proofs.TakeLemmas.{client_room}
use Rattle.play_machine.proofs.FitLemmas.{script_fits}
use Rattle.play_machine.specs.Playing.{IsCommandOfSheet}
use Rattle.live_run.specs.Runs.{IsCommandFor, IsRunnable}

fold_last : (now : Brought) (lines : List LineValue) (line : LineValue) → fold with_line now (lines ++ line ∷ []) ≡ with_line (fold with_line now lines) line
fold_last now [] line = refl
fold_last now (first ∷ lines) line = fold_last (with_line now first) lines line

-- At most 32 clients have a name; and the client whose commands follow is one of them, but where none has one.
record AreFewClients (now : Brought) : Type 0 where
  few : length now.names ≤ 32
  named : (now.names ≡ []) ⊎ Contains now.names now.client

-- a client that is added is among the clients
added : (names : List (List ℕ)) (name : List ℕ) → Contains (with_label names name) name
added names name = go (list_any (bytes_eq name) names) refl
  where
    go : (b : Bool) → list_any (bytes_eq name) names ≡ b → Contains (if b then names else names ++ name ∷ []) name
    go true e = Contains-from_any (λ x y. (bytes_eq-Decides x y).0) name names e
    go false e = Contains-push names name

joins : (now : Brought) (name : List ℕ) → AreFewClients now → (length now.names < 32) ⊎ Contains now.names name → AreFewClients (with_client now name)
joins now name few room = record { few = few_names now.names name few.few room; named = inr (added now.names name) }

-- the client whose commands follow joins
goes_on : (now : Brought) → AreFewClients now → AreFewClients (with_client now now.client)
goes_on now few =
    joins now now.client few (⊎_elim (λ (none : now.names ≡ []). inl (let no = ap length none in omega (arith, no)))
    (λ (there : Contains now.names now.client). inr there) few.named)

few_change : (batch : Option (List Position)) (now : Brought) (cell : Position) → AreFewClients now → AreFewClients (with_change batch now cell)
few_change None now cell few = let more = goes_on now few in record { few = more.few; named = more.named }
few_change (Some cells) now cell few = record { few = few.few; named = few.named }

few_line : (ground : Ground) (now : Brought) (line : LineValue) → IsAllowed ground now line → AreFewClients now → AreFewClients (with_line now line)
few_line ground now Skip allowed few = few
few_line ground now (Client name) allowed few = joins now name few (client_room ground now name (λ why early. allowed why))
few_line ground now (Set cell text) allowed few = few_change now.batch now cell few
few_line ground now (Clear cell) allowed few = few_change now.batch now cell few
few_line ground now (Look range) allowed few = let more = goes_on now few in record { few = more.few; named = more.named }
few_line ground now (Firm range) allowed few = let more = goes_on now few in record { few = more.few; named = more.named }
few_line ground now (Work turns) allowed few = goes_on now few
few_line ground now Batch allowed few = record { few = few.few; named = few.named }
few_line ground now End allowed few = let more = goes_on now few in record { few = more.few; named = more.named }

few_lines : (mode : Mode) (ground : Ground) (texts : List (List ℕ)) (lines : List LineValue)
    → AreLines mode ground texts lines → AreFewClients (brought_by lines)
few_lines mode ground _ _ no_lines = record { few = omega arith; named = inl refl }
few_lines mode ground _ _ (more_lines texts all text lines known line are says allowed all_is known_is) =
    subst AreFewClients (sym (ap brought_by known_is ∙ fold_last nothing_yet lines line))
    (few_line ground (brought_by lines) line allowed (few_lines mode ground texts lines are))

-- there are as many lines as texts
counted : (mode : Mode) (ground : Ground) (texts : List (List ℕ)) (lines : List LineValue) → AreLines mode ground texts lines → length lines ≡ length texts
counted mode ground _ _ no_lines = refl
counted mode ground _ _ (more_lines texts all text lines known line are says allowed all_is known_is) =
    let rest = counted mode ground texts lines are in
    let left = ap length known_is ∙ length-append lines (line ∷ []) in
    let right = ap length all_is ∙ length-append texts (text ∷ []) in
    omega (arith, rest, left, right)

-- a line brings at most one step
one_added : (command : Command) (there : Brought) (old new : List Step) → AddsCommand command there old new → length new ≤ length old + 1
one_added command there old new adds =
    let all = ap length adds.added ∙ length-append old (record { client = adds.client; command = command } ∷ []) in
    omega (arith, all)

same_steps : (old new : List Step) → new ≡ old → length new ≤ length old + 1
same_steps old new same = let all = ap length same in omega (arith, all)

one_change : (there : Brought) (change : ChangeValue) (before after : Option EditValue) (old new : List Step)
    → MakesChange there change before after old new → length new ≤ length old + 1
one_change there change None after old new (is, adds) = one_added (asks.Put (change ∷ [])) there old new adds
one_change there change (Some changes) after old new (is, same) = same_steps old new same

one_line : (edition : Edition) (labels : List (List ℕ)) (there : Brought) (line : LineValue)
    (before after : Option EditValue) (old new : List Step) → GoesOn edition labels there line before after old new
    → length new ≤ length old + 1
one_line edition labels there Skip before after old new (is, same) = same_steps old new same
one_line edition labels there (Client name) before after old new (is, same) = same_steps old new same
one_line edition labels there (Set cell text) before after old new (content, writes, makes) =
    one_change there (change_of cell content) before after old new makes
one_line edition labels there (Clear cell) before after old new makes = one_change there (change_of cell (Constant Empty)) before after old new makes
one_line edition labels there (Look range) before after old new (is, adds) = one_added (asks.Look range) there old new adds
one_line edition labels there (Firm range) before after old new (is, adds) = one_added (asks.Firm range) there old new adds
one_line edition labels there (Work turns) before after old new (is, adds) = one_added (asks.Work turns) there old new adds
one_line edition labels there Batch before after old new (is, same) = same_steps old new same
one_line edition labels there End before after old new (changes, was, is, adds) = one_added (asks.Put changes) there old new adds

few_steps : (edition : Edition) (labels : List (List ℕ)) (lines : List LineValue) (after : Option EditValue)
    (steps : List Step) → AreSteps edition labels lines after steps → length steps ≤ length lines
few_steps edition labels _ _ _ no_steps = omega arith
few_steps edition labels _ _ _ (step_more lines known line before after steps all are goes known_is) =
    let rest = few_steps edition labels lines before steps are in
    let one = one_line edition labels (brought_by known) line before after steps all goes in
    let more = ap length known_is ∙ length-append lines (line ∷ []) in
    omega (arith, rest, one, more)

-- no line of a live script asks for turns, and so no step does
abbrev IsLiveLine : LineValue → Type 0
IsLiveLine (Work turns) = ⊥
IsLiveLine _ = Unit {0}

abbrev IsLiveCommand : Command → Type 0
IsLiveCommand (asks.Work turns) = ⊥
IsLiveCommand _ = Unit {0}

live_line : (line : LineValue) → FitsMode Live line → IsLiveLine line
live_line Skip fits = tt
live_line (Client name) fits = tt
live_line (Set cell text) fits = tt
live_line (Clear cell) fits = tt
live_line (Look range) fits = tt
live_line (Firm range) fits = tt
live_line (Work turns) fits = absurd (cc)
live_line Batch fits = tt
live_line End fits = tt

live_lines : (ground : Ground) (texts : List (List ℕ)) (lines : List LineValue) → AreLines Live ground texts lines → All IsLiveLine lines
live_lines ground _ _ no_lines = All-nil IsLiveLine
live_lines ground _ _ (more_lines texts all text lines known line are says allowed all_is known_is) =
    subst (All IsLiveLine) (sym known_is) (All-push IsLiveLine lines line (live_lines ground texts lines are) (live_line line says.1))

live_added : (command : Command) (there : Brought) (old new : List Step) → IsLiveCommand command
    → AddsCommand command there old new → All (λ (s : Step). IsLiveCommand s.command) old
    → All (λ (s : Step). IsLiveCommand s.command) new
live_added command there old new live adds all =
    subst (All (λ (s : Step). IsLiveCommand s.command)) (sym adds.added)
    (All-push (λ (s : Step). IsLiveCommand s.command) old _ all live)

live_same : (old new : List Step) → new ≡ old → All (λ (s : Step). IsLiveCommand s.command) old → All (λ (s : Step). IsLiveCommand s.command) new
live_same old new same all = subst (All (λ (s : Step). IsLiveCommand s.command)) (sym same) all

live_change : (there : Brought) (change : ChangeValue) (before after : Option EditValue) (old new : List Step)
    → MakesChange there change before after old new → All (λ (s : Step). IsLiveCommand s.command) old
    → All (λ (s : Step). IsLiveCommand s.command) new
live_change there change None after old new (is, adds) all = live_added (asks.Put (change ∷ [])) there old new tt adds all
live_change there change (Some changes) after old new (is, same) all = live_same old new same all

live_step : (edition : Edition) (labels : List (List ℕ)) (there : Brought) (line : LineValue)
    (before after : Option EditValue) (old new : List Step) → IsLiveLine line
    → GoesOn edition labels there line before after old new
    → All (λ (s : Step). IsLiveCommand s.command) old → All (λ (s : Step). IsLiveCommand s.command) new
live_step edition labels there Skip before after old new live (is, same) all = live_same old new same all
live_step edition labels there (Client name) before after old new live (is, same) all = live_same old new same all
live_step edition labels there (Set cell text) before after old new live (content, writes, makes) all =
    live_change there (change_of cell content) before after old new makes all
live_step edition labels there (Clear cell) before after old new live makes all =
    live_change there (change_of cell (Constant Empty)) before after old new makes all
live_step edition labels there (Look range) before after old new live (is, adds) all = live_added (asks.Look range) there old new tt adds all
live_step edition labels there (Firm range) before after old new live (is, adds) all = live_added (asks.Firm range) there old new tt adds all
live_step edition labels there (Work turns) before after old new live goes all = absurd live
live_step edition labels there Batch before after old new live (is, same) all = live_same old new same all
live_step edition labels there End before after old new live (changes, was, is, adds) all = live_added (asks.Put changes) there old new tt adds all

live_steps : (edition : Edition) (labels : List (List ℕ)) (lines : List LineValue) (after : Option EditValue)
    (steps : List Step) → AreSteps edition labels lines after steps → All IsLiveLine lines
    → All (λ (s : Step). IsLiveCommand s.command) steps
live_steps edition labels _ _ _ no_steps live = All-nil (λ (s : Step). IsLiveCommand s.command)
live_steps edition labels _ _ _ (step_more lines known line before after steps all are goes known_is) live =
    let both = All-pop IsLiveLine known lines (Some line) known_is live in
    live_step edition labels (brought_by known) line before after steps all both.1 goes (live_steps edition labels lines before steps are both.0)

-- a command of the sheet that asks for no turns is for the sheet
for_sheet : (sheet : SheetValue) (command : Command) → IsCommandOfSheet sheet command → IsLiveCommand command → IsCommandFor sheet command
for_sheet sheet (asks.Put edit) of live = of
for_sheet sheet (asks.Look window) of live = record { inside = of.inside; small = of.few }
for_sheet sheet (asks.Firm window) of live = record { inside = of.inside; small = of.few }
for_sheet sheet (asks.Work turns) of live = live

pub runs : (sheet : SheetValue) (labels : List (List ℕ)) (text : List ℕ) (script : ScriptValue) → length text ≤ 16777216
    → IsScript Live (ground_of sheet) sheet.labels labels text script → IsRunnable (with_labels sheet labels) script
runs sheet labels text script small is =
    let fits = script_fits Live sheet labels text script is in
    let live = live_steps sheet.edition labels is.lines None script.steps is.steps (live_lines (ground_of sheet) (script_lines text) is.lines is.said) in
    let clients = few_lines Live (ground_of sheet) (script_lines text) is.lines is.said in
    let names = ap length is.names in
    record {
      few = (let some = clients.few in omega (arith, names, some));
      short = (let steps = few_steps sheet.edition labels is.lines None script.steps is.steps in
          let lines = counted Live (ground_of sheet) (script_lines text) is.lines is.said in
          let most = length-lines text in omega (arith, steps, lines, most, small));
      commands = λ place step within. for_sheet (with_labels sheet labels) _ (fits.each place step within) (live place step within);
      edits = fits.few;
    }
