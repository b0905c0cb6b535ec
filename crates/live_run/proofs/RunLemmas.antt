-- What a client's part of a run comes to once the live sheet is closed.
use Rattle.std.proofs.Common.{◌≡◌, ◌<◌, ◌==◌, inl, inr, ℕ, Bool, true, List, [], ◌∷◌, Option, Some, All, Contains, length, refl, sym, ◌∙◌, ap, subst}
use Rattle.std.specs.Prelude.{filter}
use Rattle.std.proofs.lemmas.Bool.{cond_both, eq-eqb}
use Rattle.std.proofs.lemmas.List.Elements.{All-contains}
use Rattle.std.proofs.lemmas.Slice.Zip.{AllZip-long}
use Rattle.edit_script.specs.declared.script.Command.{Command}
use Rattle.live_sheet.specs.Accepted.{AreAccepted}
use Rattle.live_sheet.specs.Closed.{EndsWith, IsLegalOver, entries_by}
use Rattle.live_sheet.specs.Openings.{opening_codes}
use Rattle.live_sheet.specs.Passes.{pass_log, pass_view, numbers_of}
use Rattle.live_sheet.specs.declared.naming.Naming.{Ghosts}
use Rattle.live_sheet.specs.declared.pass.Pass.{Pass}
use Rattle.mark_core.specs.declared.words.Finished.{Finished}
use Rattle.sheet_model.specs.Edits.{AreHeldBeside}
use Rattle.sheet_model.specs.Logs.{AreHeld}
use Rattle.sheet_model.specs.Sheets.{SheetValue, IsSheet}
use Rattle.sheet_model.specs.declared.entry.Entry.{Entry}
use Rattle.sheet_model.proofs.ListMembers.{all_from, first_member, later_member, mapped_to, no_member}
use Rattle.sheet_model.proofs.EditLemmas.{first_or_later}
use Rattle.sheet_model.specs.Boards.{IsFull}
use Rattle.sheet_model.specs.declared.report.Report.{Report}
use Rattle.live_run.specs.Client.{HasEnded, HasRun, IsReady, task_commands}
use Rattle.live_run.specs.Legal.{HasFollowed, edits_asked, edits_by, numbers_by}
use Rattle.live_run.specs.Told.{StandsAs}
use Rattle.live_run.specs.declared.client.Client.{Client}
use Rattle.live_run.proofs.FollowLemmas.{all_full, edits_are, followed}

-- what is in a list and passes a test is among what passes it
contains_filter : {A : Type 0} (p : A → Bool) (xs : List A) (x : A) → Contains xs x → p x ≡ true → Contains (filter p xs) x
contains_filter p [] x there passes = absurd (no_member x there)
contains_filter p (a ∷ xs) x there passes =
    cond_both (p a) (a ∷ filter p xs) (filter p xs) (λ l. Contains l x)
    (λ _.
    elim (first_or_later x a xs there) [
      | inl same ↦ subst (λ z. Contains (a ∷ filter p xs) z) same (first_member a (filter p xs))
      | inr later ↦ later_member a x (filter p xs) (contains_filter p xs x later passes)
    ])
    (λ fails.
    elim (first_or_later x a xs there) [
      | inl same ↦ absurd (let e : p a ≡ true = ap p same ∙ passes in cc)
      | inr later ↦ contains_filter p xs x later passes
    ])

-- a log is of edits that may stand beside so many labels, where the edits of each client are and there is no other client
pub log_is_held : (labels clients : ℕ) (log : List Entry) → All (λ (entry : Entry). entry.client < clients) log
    → ((client : ℕ) → client < clients → All (AreHeldBeside labels) (edits_by client log)) → AreHeld labels log
log_is_held labels clients log others each = all_from (λ (entry : Entry). AreHeldBeside labels entry.edit) log one
  where
    one : (entry : Entry) → Contains log entry → AreHeldBeside labels entry.edit
    one entry there =
        All-contains (AreHeldBeside labels) (edits_by entry.client log) entry.edit
        (each entry.client (All-contains (λ (e : Entry). e.client < clients) log entry others there))
        (mapped_to (λ (e : Entry). e.edit) _ entry
        (contains_filter (λ (e : Entry). e.client == entry.client) log entry there (eq-eqb entry.client entry.client refl)))

module _ {N : Type 0} {G : Ghosts N} (opening : SheetValue) (client : ℕ) (commands : List Command) where
  pub ended_as : (old new : Client N G) → IsReady opening client commands old
      → HasEnded opening old.client (task_commands old) new → HasEnded opening client commands new
  ended_as old new ready ended =
      subst (λ (c : ℕ). HasEnded opening c commands new) ready.whose (subst (λ (l : List Command). HasEnded opening old.client l new) ready.asked ended)

  module _ (pass : Pass N G) (reports : List Report) (run : HasRun opening client commands pass reports) where
    -- the client has as many accepted edits as its commands ask for
    pub has_all : length (numbers_of pass) ≡ length (edits_asked commands)
    has_all = sym (AllZip-long (StandsAs client (pass_log pass)) (numbers_of pass) (edits_asked commands) run.answered.edits)

    pub edits_held : All (AreHeldBeside (length opening.labels)) (edits_asked commands)
    edits_held = run.answered.held

    module _ (codes : List (Option ℕ)) (log : List Entry) (ends : EndsWith opening codes log pass) where
      own : (numbers_of pass ≡ numbers_by client log) × (edits_by client log ≡ edits_asked commands)
      own =
          edits_are opening client commands (pass_view pass) (numbers_of pass) reports log run.answered ends.known
          (subst (λ (c : ℕ). AreAccepted c log (numbers_of pass)) run.whose ends.accepted)
          (subst (λ (c : ℕ). entries_by c log ≡ length (numbers_of pass)) run.whose ends.whole)

      -- the client's edits in the log are those that its commands ask for
      pub own_edits : edits_by client log ≡ edits_asked commands
      own_edits = own.1

      legal : codes ≡ opening_codes opening → (read : Finished) (word : ℕ) → Contains (pass_view pass).reads read
          → read.word ≡ Some word → IsLegalOver opening (opening_codes opening) log read word
      legal same read word kept is = subst (λ (c : List (Option ℕ)). IsLegalOver opening c log read word) same (ends.legal read word kept is)

      -- the client's part is followed, and each of its reports has something of each cell
      pub has_followed : codes ≡ opening_codes opening → IsSheet opening → AreHeld (length opening.labels) log
          → HasFollowed opening log client commands reports × All (λ (report : Report). IsFull report.board) reports
      has_followed same is held = (
        followed opening log (pass_view pass) ends.known (legal same) is held (numbers_of pass) client commands reports run.answered own,
        all_full opening log (pass_view pass) ends.known (legal same) is held (numbers_of pass) client commands reports run.answered,
      )
