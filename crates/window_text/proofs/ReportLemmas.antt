-- The text of reports, one after the other.
use Rattle.std.proofs.Common.{◌≡◌, ℕ, ◌+◌, ◌<◌, ◌≤◌, List, [], ◌++◌, length, drop, get_or, sym, subst, ◌∙◌, ap}
use Rattle.std.proofs.Math.ListN.{drop_of_length-le}
use Rattle.std.proofs.lemmas.List.{drop_more}
use Rattle.text_pieces.specs.Pieces.{Taker}
use Rattle.window_text.specs.Reports.{play_text, report_text}
use Rattle.sheet_model.specs.declared.report.Report.{Report}
use Rattle.text_pieces.proofs.PieceLemmas.{Completes}

-- the text of the reports from a place on
abbrev pub reports_rest : List (List ℕ) → List Report → ℕ → List ℕ
reports_rest labels reports place = play_text labels (drop place reports)

-- goes on with the report at that place
pub reports_go_on : (labels : List (List ℕ)) (reports : List Report) (place : ℕ) (report : Report)
    → place < length reports → report ≡ get_or reports place report
    → reports_rest labels reports place ≡ report_text labels report ++ reports_rest labels reports (place + 1)
reports_go_on labels reports place report within here =
    ap (play_text labels) (drop_more reports place report within) ∙ ap (λ r. report_text labels r ++ reports_rest labels reports (place + 1)) (sym here)

-- whoever hands out the reports from a place on, has handed out the text; so has who hands out the report there and the others
module _ {F : Type 0} (taker : Taker F) (old now : F) (labels : List (List ℕ)) (reports : List Report) (place : ℕ) where
  pub next_report : (report : Report) → place < length reports → report ≡ get_or reports place report
      → Completes taker old (play_text labels reports) now (reports_rest labels reports place)
      → Completes taker old (play_text labels reports) now (report_text labels report
      ++ reports_rest labels reports (place + 1))
  next_report report within here rest = subst (Completes taker old (play_text labels reports) now) (reports_go_on labels reports place report within here) rest

-- until no report is left
pub reports_end : (labels : List (List ℕ)) (reports : List Report) (place : ℕ) → length reports ≤ place → reports_rest labels reports place ≡ []
reports_end labels reports place past = ap (play_text labels) (drop_of_length-le reports past)
