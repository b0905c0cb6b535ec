-- What legal runs of clients that are apart come to.
use Rattle.std.proofs.Common.{◌≡◌, ◌≢◌, ⊎_elim, ℕ, ◌<◌, ◌≤◌, List, [], ◌∷◌, ◌++◌, Contains, All, length, get_or, refl, sym, ◌∙◌, ap, subst, arith}
use Rattle.std.proofs.lemmas.Bool.{cases_eq, cases_lt}
use Rattle.std.proofs.lemmas.List.Concat.{flat_map-cons}
use Rattle.std.proofs.lemmas.List.Elements.{All-head, All-tail}
use Rattle.std.proofs.lemmas.Option.{slice_get-get_or}
use Rattle.sheet_model.specs.Edits.{EditValue}
use Rattle.sheet_model.specs.Sheets.{SheetValue}
use Rattle.sheet_model.specs.declared.entry.Entry.{Entry}
use Rattle.edit_script.specs.Scripts.{ScriptValue}
use Rattle.edit_script.specs.declared.script.Command.{Command}
use Rattle.edit_script.specs.declared.script.Command.TheVariants as asks
use Rattle.edit_script.specs.declared.script.Step.{Step}
use Rattle.window_text.specs.Transcripts.{TranscriptValue}
use Rattle.live_run.specs.Legal.{IsLegalTranscript, commands_by, edit_asked, edits_asked, edits_by}
use Rattle.live_gen.specs.Apart.{ComesToScript, HaveSameEdits, LogIsApart, ScriptIsApart, entry_asked, script_log}
use Rattle.live_gen.specs.Generated.{generated_script}
use Rattle.live_gen.specs.Laws.{ComesToOne}
use Rattle.live_gen.proofs.OrderLemmas.{as_many, by_other, by_own, order_free}
use Rattle.live_gen.proofs.ScriptLemmas.{clients_few, commands_other, commands_own, generated_apart, steps_logged}

-- one step's entry, and the edits of its client and of another one
logged_own : (client owner : ℕ) (command : Command) (log : List Entry) → owner ≡ client
    → edits_by client (entry_asked owner command ++ log) ≡ edit_asked command ++ edits_by client log
logged_own client owner (asks.Put edit) log is = by_own client (record { client = owner; edit = edit }) log is
logged_own client owner (asks.Look window) log is = refl
logged_own client owner (asks.Firm window) log is = refl
logged_own client owner (asks.Work turns) log is = refl

logged_other : (client owner : ℕ) (command : Command) (log : List Entry) → owner ≢ client
    → edits_by client (entry_asked owner command ++ log) ≡ edits_by client log
logged_other client owner (asks.Put edit) log not = by_other client (record { client = owner; edit = edit }) log not
logged_other client owner (asks.Look window) log not = refl
logged_other client owner (asks.Firm window) log not = refl
logged_other client owner (asks.Work turns) log not = refl

-- a client's edits in the script's own log are those that it asks for
pub script_edits : (client : ℕ) (steps : List Step) → edits_by client (script_log steps) ≡ edits_asked (commands_by client steps)
script_edits client [] = refl
script_edits client (step ∷ steps) =
    ⊎_elim
    (λ (own : step.client ≡ client).
    logged_own client step.client step.command (script_log steps) own
    ∙ ap (λ (l : List EditValue). edit_asked step.command ++ l) (script_edits client steps)
    ∙ sym (ap edits_asked (commands_own client step steps own) ∙ flat_map-cons edit_asked step.command (commands_by client steps)))
    (λ other.
    logged_other client step.client step.command (script_log steps) other
    ∙ script_edits client steps
    ∙ sym (ap edits_asked (commands_other client step steps other)))
    (cases_eq step.client client)

-- who isn't among the clients has no edits
none_logged : (clients client : ℕ) (log : List Entry) → All (λ (entry : Entry). entry.client < clients) log → clients ≤ client → edits_by client log ≡ []
none_logged clients client [] all past = refl
none_logged clients client (entry ∷ log) all past =
    let here : entry.client < clients = All-head (λ (e : Entry). e.client < clients) entry log all in
    by_other client entry log (λ same. absurd (omega (arith, here, past, same))) ∙ none_logged clients client log
    (All-tail (λ (e : Entry). e.client < clients) entry log all) past

none_asked : (clients client : ℕ) (steps : List Step) → All (λ (step : Step). step.client < clients) steps → clients ≤ client → commands_by client steps ≡ []
none_asked clients client [] all past = refl
none_asked clients client (step ∷ steps) all past =
    let here : step.client < clients = All-head (λ (s : Step). s.client < clients) step steps all in
    commands_other client step steps (λ same. absurd (omega (arith, here, past, same))) ∙ none_asked clients client steps
    (All-tail (λ (s : Step). s.client < clients) step steps all) past

module _ (opening : SheetValue) (script : ScriptValue) (t : TranscriptValue) (clients : All (λ (step : Step). step.client < length script.names) script.steps)
    (apart : ScriptIsApart script) (legal : IsLegalTranscript opening script t) where
  -- in a legal run each client has the edits that it asks for
  run_edits : (client : ℕ) → edits_by client t.log ≡ edits_asked (commands_by client script.steps)
  run_edits client =
      ⊎_elim
      (λ (less : client < length script.names).
      let within : client < length t.reports = (let lists = legal.lists in omega (arith, less, lists)) in
      (legal.each client (get_or t.reports client []) (slice_get-get_or t.reports client [] within)).edits)
      (λ past.
      none_logged (length script.names) client t.log legal.others past
      ∙ sym (ap edits_asked (none_asked (length script.names) client script.steps clients past)))
      (cases_lt client (length script.names))

  same_edits : HaveSameEdits t.log (script_log script.steps)
  same_edits client = run_edits client ∙ sym (script_edits client script.steps)

  log_apart : LogIsApart t.log
  log_apart a b x y p q differ in_a in_b =
      apart a b x y p q differ (subst (λ (l : List EditValue). Contains l x) (run_edits a) in_a)
      (subst (λ (l : List EditValue). Contains l y) (run_edits b) in_b)

  pub comes_to_script : ComesToScript opening script t
  comes_to_script = record {
    closing = legal.closing ∙ order_free opening t.log (script_log script.steps) log_apart same_edits;
    entries = as_many t.log (script_log script.steps) same_edits;
  }

-- so each run of a number comes to one thing
pub comes_to_one : (number : ℕ) (sheet : SheetValue) (t : TranscriptValue) → IsLegalTranscript sheet (generated_script number) t → ComesToOne number sheet t
comes_to_one number sheet t legal =
    let comes = comes_to_script sheet (generated_script number) t (clients_few number) (generated_apart number) legal in
    record { entries = comes.entries ∙ steps_logged number 4; closing = comes.closing }
