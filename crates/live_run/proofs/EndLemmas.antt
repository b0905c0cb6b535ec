-- What is known of all clients from what is known of each.
use Rattle.std.proofs.Common.{◌≡◌, ◌<◌, ◌≤◌, ◌⊎◌, inl, inr, ℕ, List, length, map, get_or, slice_get, Option, Some, All, sym, ◌∙◌, ap, subst, arith}
use Rattle.std.specs.Prelude.{option_map}
use Rattle.std.specs.Global.{Vec}
use Rattle.std.proofs.lemmas.List.{length-map}
use Rattle.std.proofs.lemmas.Option.{get_or_from_slice_get, slice_get-get_or, slice_get-map, slice_get_within, slice_get_cases}
use Rattle.live_sheet.specs.Closed.{AreInOrder, EndsWith, HasClosedWith, entries_by}
use Rattle.live_sheet.specs.Openings.{opening_codes}
use Rattle.live_sheet.specs.Passes.{client_of, numbers_of, pass_log}
use Rattle.live_sheet.specs.declared.naming.Naming.{Ghosts}
use Rattle.live_sheet.specs.declared.pass.Pass.{Pass}
use Rattle.mark_core.proofs.Prefixes.{prefix_length}
use Rattle.sheet_model.specs.Edits.{AreHeldBeside}
use Rattle.sheet_model.specs.Logs.{AreHeld}
use Rattle.sheet_model.specs.Sheets.{IsSheet, SheetValue}
use Rattle.sheet_model.specs.declared.entry.Entry.{Entry}
use Rattle.sheet_model.specs.Boards.{IsFull}
use Rattle.sheet_model.specs.declared.report.Report.{Report}
use Rattle.live_run.specs.Client.{Begins, HasEnded, HasRun, IsCutShort}
use Rattle.live_run.specs.Legal.{HasFollowed, edits_asked, edits_by}
use Rattle.live_run.specs.Parts.{edits_of}
use Rattle.live_run.specs.Tasks.{AllEnd, AreEnded, AreReady, HadMemory, IsRunOf}
use Rattle.live_run.specs.declared.client.Client.{Client}
use Rattle.live_run.specs.declared.part.Part.{Part}
use Rattle.live_run.specs.declared.ran.Ran.{Ran}
use Rattle.live_run.proofs.RoomLemmas.{all_entries}
use Rattle.live_run.proofs.RunLemmas.{edits_held, ended_as, has_all, has_followed, log_is_held, own_edits}
use Rattle.live_run.proofs.SumLemmas.{fewer_in_all, total}
use Rattle.live_run.proofs.TaskLemmas.{mapped_at}

module _ {N : Type 0} {G : Ghosts N} (opening : SheetValue) where
  -- tasks that are ready begin
  pub all_begin : (parts : List Part) (tasks : List (Client N G)) → AreReady opening parts tasks → All (Begins opening) tasks
  all_begin parts tasks ready = λ place task within.
      elim (slice_get_cases parts place).1 [
        | inl (part, inside, at, same) ↦ (ready.each place part (get_or tasks place task) at (slice_get-get_or tasks place task within)).begins
        | inr (past, none) ↦ absurd (let count = ready.count in omega (arith, past, within, count))
      ]

  -- and come to their end with the commands of their parts
  pub all_ended : (parts : List Part) (old new : List (Client N G)) → AreReady opening parts old → AllEnd opening old new → AreEnded opening parts new
  all_ended parts old new ready all =
      record {
        count = all.count ∙ ready.count;
        each = λ client part task here there.
            let count = all.count in
            let inside = slice_get_within new client task there in
            let within : client < length old = omega (arith, inside, count) in
            let is = ready.each client part (get_or old client task) here (slice_get-get_or old client task within) in
            subst (HasEnded opening client part.commands.items) (get_or_from_slice_get new client task task there)
            (ended_as opening client part.commands.items (get_or old client task) (get_or new client task) is (all.each client task within));
      }

  -- a task that had its memory has followed its commands, or was cut short by a full log
  has_ended : (parts : List Part) (tasks : List (Client N G)) (client : ℕ) (part : Part) (task : Client N G)
      → AreEnded opening parts tasks → All HadMemory tasks
      → slice_get parts client ≡ Some part → slice_get tasks client ≡ Some task
      → HasRun opening client part.commands.items task.pass task.reports.items ⊎ IsCutShort opening client part.commands.items task.pass
  has_ended parts tasks client part task ended had here there =
      ended.each client part task here there (subst HadMemory (get_or_from_slice_get tasks client task task there)
      (had client task (slice_get_within tasks client task there)))

  -- in both cases its pass is that of its client
  own_pass : (client : ℕ) (part : Part) (task : Client N G)
      → HasRun opening client part.commands.items task.pass task.reports.items
      ⊎ IsCutShort opening client part.commands.items task.pass
      → client_of task.pass ≡ client
  own_pass client part task (inl run) = run.whose
  own_pass client part task (inr short) = short.whose

  -- so the passes stand in the order of their clients
  pub in_order : (parts : List Part) (tasks : List (Client N G)) (passes : List (Pass N G))
      → AreEnded opening parts tasks → All HadMemory tasks → passes ≡ map (λ (task : Client N G). task.pass) tasks
      → AreInOrder passes
  in_order parts tasks passes ended had are = λ client pass at.
      let (task, there, is) = mapped_at (λ (task : Client N G). task.pass) tasks client pass (subst (λ ps. slice_get ps client ≡ Some pass) are at) in
      elim (slice_get_cases parts client).1 [
        | inl (part, inside, here, same) ↦
            subst (λ p. client_of p ≡ client) is
            (own_pass client part task (has_ended parts tasks client part task ended had here there))
        | inr (past, none) ↦ absurd (let count = ended.count in let within = slice_get_within tasks client task there in omega (arith, past, within, count))
      ]

  module _ (parts : List Part) (tasks : List (Client N G)) (passes : List (Pass N G)) (codes : List (Option ℕ))
      (ran : Ran) (ended : AreEnded opening parts tasks) (had : All HadMemory tasks)
      (passes_are : passes ≡ map (λ (task : Client N G). task.pass) tasks) (reports_are : ran.reports.items ≡ map (λ (task : Client N G). task.reports) tasks)
      (closed : HasClosedWith opening codes passes ran.closed) (codes_are : codes ≡ opening_codes opening)
      (sheet : IsSheet opening) (few : edits_of parts ≤ 1048576) where
    -- how the pass of a task ends
    ends : (client : ℕ) (task : Client N G) → slice_get tasks client ≡ Some task → EndsWith opening codes ran.closed.log.items task.pass
    ends client task there =
        let at : slice_get passes client ≡ Some task.pass = ap (λ ps. slice_get ps client) passes_are
        ∙ slice_get-map (λ (task : Client N G). task.pass) tasks client
        ∙ ap (option_map (λ (task : Client N G). task.pass)) there in
        subst (EndsWith opening codes ran.closed.log.items) (get_or_from_slice_get passes client task.pass task.pass at)
        (closed.each client task.pass (slice_get_within passes client task.pass at))

    count_passes : length passes ≡ length parts
    count_passes = ap length passes_are ∙ length-map tasks (λ (task : Client N G). task.pass) ∙ ended.count

    -- the entries of a client are its accepted edits
    own_entries : (client : ℕ) (task : Client N G) → client_of task.pass ≡ client → slice_get tasks client ≡ Some task
        → entries_by client ran.closed.log.items ≡ length (numbers_of task.pass)
    own_entries client task whose there = ap (λ c. entries_by c ran.closed.log.items) (sym whose) ∙ (ends client task there).whole

    -- each client has at most as many as its commands ask for
    few_entries : (client : ℕ) (part : Part) (task : Client N G) → slice_get tasks client ≡ Some task
        → HasRun opening client part.commands.items task.pass task.reports.items ⊎ IsCutShort opening client part.commands.items task.pass
        → entries_by client ran.closed.log.items ≤ length (edits_asked part.commands.items)
    few_entries client part task there (inl run) =
        omega (arith, own_entries client task run.whose there, has_all opening client part.commands.items task.pass task.reports.items run)
    few_entries client part task there (inr short) = let fewer = short.fewer in omega (arith, own_entries client task short.whose there, fewer)

    all_few : (client : ℕ) (part : Part) → slice_get parts client ≡ Some part
        → entries_by client ran.closed.log.items ≤ length (edits_asked part.commands.items)
    all_few client part here =
        elim (slice_get_cases tasks client).1 [
          | inl (task, inside, there, same) ↦ few_entries client part task there (has_ended parts tasks client part task ended had here there)
          | inr (past, none) ↦ absurd (let count = ended.count in let within = slice_get_within parts client part here in omega (arith, past, within, count))
        ]

    -- No task was cut short: a full log would hold more edits than all parts ask for.
    never_cut : (client : ℕ) (part : Part) (task : Client N G) → slice_get parts client ≡ Some part
        → slice_get tasks client ≡ Some task → IsCutShort opening client part.commands.items task.pass → ⊥
    never_cut client part task here there short =
        let log = ran.closed.log.items in
        let all = all_entries (length passes) log closed.others in
        let same : total (λ i. entries_by i log) (length passes) ≡ total (λ i. entries_by i log) (length parts) =
        ap (total (λ i. entries_by i log)) count_passes in
        let fewer : entries_by client log < length (edits_asked part.commands.items) =
        let less = short.fewer in omega (arith, own_entries client task short.whose there, less) in
        let less = fewer_in_all (λ i. entries_by i log) parts client part all_few here fewer in
        let long = prefix_length (pass_log task.pass) log (ends client task there).known in
        let full = short.full in
        omega (arith, all, same, less, long, full, few)

    -- so each has followed its commands
    has_run : (client : ℕ) (part : Part) (task : Client N G) → slice_get parts client ≡ Some part
        → slice_get tasks client ≡ Some task → HasRun opening client part.commands.items task.pass task.reports.items
    has_run client part task here there =
        elim (has_ended parts tasks client part task ended had here there) [
          | inl run ↦ run
          | inr short ↦ absurd (never_cut client part task here there short)
        ]

    -- what the edits of a client write may stand in the sheet
    held_by : (client : ℕ) → client < length passes → All (AreHeldBeside (length opening.labels)) (edits_by client ran.closed.log.items)
    held_by client within =
        let all : length passes ≡ length tasks = ap length passes_are ∙ length-map tasks (λ (task : Client N G). task.pass) in
        elim (slice_get_cases tasks client).1 [
          | inl (task, inside, there, same) ↦ elim (slice_get_cases parts client).1 [
            | inl (part, inside, here, same) ↦
                let run = has_run client part task here there in
                subst (All (AreHeldBeside (length opening.labels)))
                (sym (own_edits opening client part.commands.items task.pass task.reports.items run codes
                ran.closed.log.items (ends client task there)))
                (edits_held opening client part.commands.items task.pass task.reports.items run)
            | inr (past, none) ↦ absurd (let count = ended.count in omega (arith, past, inside, count))
          ]
          | inr (past, none) ↦ absurd (omega (arith, past, within, all))
        ]

    log_held : AreHeld (length opening.labels) ran.closed.log.items
    log_held = log_is_held (length opening.labels) (length passes) ran.closed.log.items closed.others held_by

    -- what is known of the client at a place, with its part and its task
    follows : (client : ℕ) (part : Part) (task : Client N G) → slice_get parts client ≡ Some part → slice_get tasks client ≡ Some task
        → HasFollowed opening ran.closed.log.items client part.commands.items task.reports.items
        × All (λ (report : Report). IsFull report.board) task.reports.items
    follows client part task here there =
        has_followed opening client part.commands.items task.pass task.reports.items
        (has_run client part task here there) codes ran.closed.log.items (ends client task there)
        codes_are sheet log_held

    -- the task with these reports
    task_of : (client : ℕ) (reports : Vec Report) → slice_get ran.reports.items client ≡ Some reports
        → (task : Client N G) × (slice_get tasks client ≡ Some task) × (task.reports ≡ reports)
    task_of client reports at =
        mapped_at (λ (task : Client N G). task.reports) tasks client reports
        (subst (λ rs. slice_get rs client ≡ Some reports) reports_are at)

    full_at : (client : ℕ) (reports : Vec Report) → slice_get ran.reports.items client ≡ Some reports
        → All (λ (report : Report). IsFull report.board) reports.items
    full_at client reports at =
        let (task, there, is) = task_of client reports at in
        elim (slice_get_cases parts client).1 [
          | inl (part, inside, here, same) ↦
              subst (λ (v : Vec Report). All (λ (report : Report). IsFull report.board) v.items) is
              (follows client part task here there).1
          | inr (past, none) ↦ absurd (let count = ended.count in let within = slice_get_within tasks client task there in omega (arith, past, within, count))
        ]

    pub is_run : IsRunOf opening parts ran
    is_run =
        record {
          count = ap length reports_are ∙ length-map tasks (λ (task : Client N G). task.reports) ∙ ended.count;
          each = λ client part reports here at.
              let (task, there, is) = task_of client reports at in
              subst (λ (v : Vec Report). HasFollowed opening ran.closed.log.items client part.commands.items v.items) is
              (follows client part task here there).0;
          full = λ client reports within. full_at client (get_or ran.reports.items client reports) (slice_get-get_or ran.reports.items client reports within);
          others = subst (λ n. All (λ (entry : Entry). entry.client < n) ran.closed.log.items) count_passes closed.others;
          sheet_is = closed.sheet_is;
          values_are = closed.values_are;
        }
