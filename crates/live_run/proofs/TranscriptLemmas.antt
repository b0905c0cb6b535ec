-- What a run of a script's parts leaves is a legal transcript of the script.
use Rattle.std.proofs.Common.{◌≡◌, ◌<◌, inl, inr, List, length, map, All, sym, ◌∙◌, ap, subst, arith}
use Rattle.std.specs.Prelude.{string_bytes}
use Rattle.std.specs.Global.{Vec}
use Rattle.std.proofs.lemmas.List.{length-map}
use Rattle.std.proofs.lemmas.Option.{slice_get_cases, slice_get_within}
use Rattle.edit_script.specs.Scripts.{ScriptValue}
use Rattle.sheet_model.specs.Sheets.{SheetValue}
use Rattle.sheet_model.specs.declared.entry.Entry.{Entry}
use Rattle.window_text.specs.Transcripts.{IsWhole, transcript_value}
use Rattle.sheet_model.specs.declared.report.Report.{Report}
use Rattle.window_text.specs.declared.transcript.Transcript.{Transcript}
use Rattle.live_run.specs.Legal.{HasFollowed, IsLegalTranscript, commands_by}
use Rattle.live_run.specs.Parts.{ArePartsOf}
use Rattle.live_run.specs.Tasks.{IsRunOf}
use Rattle.live_run.specs.declared.part.Part.{Part}
use Rattle.live_run.specs.declared.ran.Ran.{Ran}
use Rattle.live_run.proofs.TaskLemmas.{mapped_at}

-- what is told of a run, with the names of a transcript
abbrev pub told : Transcript → Ran → Transcript
told t ran = record { names = t.names; log = ran.closed.log; sheet = ran.closed.sheet; values = ran.closed.values; reports = ran.reports }

module _ (opening : SheetValue) (script : ScriptValue) (parts : List Part) (t : Transcript) (ran : Ran) where
  pub is_legal : map string_bytes t.names.items ≡ script.names → ArePartsOf (length script.names) script.steps parts
      → IsRunOf opening parts ran → IsLegalTranscript opening script (transcript_value (told t ran))
  is_legal same are run =
      record {
        names_are = same;
        lists = length-map ran.reports.items (λ (own : Vec Report). own.items) ∙ run.count ∙ are.count;
        each = λ client reports at.
            let (own, there, is) = mapped_at (λ (v : Vec Report). v.items) ran.reports.items client reports at in
            elim (slice_get_cases parts client).1 [
              | inl (part, inside, here, it) ↦
                  subst (HasFollowed opening ran.closed.log.items client (commands_by client script.steps)) is
                  (subst (λ cs. HasFollowed opening ran.closed.log.items client cs own.items)
                  (are.each client part here).commands_are (run.each client part own here there))
              | inr (past, none) ↦ absurd (let count = run.count in
                  let within = slice_get_within ran.reports.items client own there in
                  omega (arith, past, within, count))
            ];
        others = subst (λ n. All (λ (entry : Entry). entry.client < n) ran.closed.log.items) are.count run.others;
        closing = run.sheet_is;
      }

  pub is_whole : map string_bytes t.names.items ≡ script.names → ArePartsOf (length script.names) script.steps parts
      → IsRunOf opening parts ran → IsWhole (told t ran)
  is_whole same are run =
      let clients : length parts ≡ length t.names.items = are.count ∙ sym (ap length same) ∙ length-map t.names.items string_bytes in
      record {
        values = run.values_are;
        clients = subst (λ n. All (λ (entry : Entry). entry.client < n) ran.closed.log.items) clients run.others;
        lists = run.count ∙ clients;
        full = run.full;
      }
