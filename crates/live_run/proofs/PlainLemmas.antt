-- What a legal run tells, by places in lists and by numbers.
use Rattle.std.proofs.Common.{◌≡◌, ◌<◌, ℕ, List, [], Some, All, AllPairs, length, get_or, slice_get, refl, sym, ◌∙◌, ap, subst, inl, inr, arith}
use Rattle.std.proofs.lemmas.Option.{get_or_from_slice_get, same_Some, slice_get-get_or, slice_get_within}
use Rattle.std.proofs.lemmas.Slice.Zip.{AllZip-long}
use Rattle.sheet_refs.specs.Cells.{Corners, Position, cells_of}
use Rattle.sheet_model.specs.Sheets.{SheetValue}
use Rattle.sheet_model.specs.declared.board.Shown.{Shown}
use Rattle.sheet_model.specs.declared.board.Shown.TheVariants.{Value, Stale, Newer}
use Rattle.sheet_model.specs.declared.entry.Entry.{Entry}
use Rattle.sheet_model.specs.declared.report.Report.{Report}
use Rattle.value_core.specs.declared.value.Value.{Value as CellValue}
use Rattle.edit_script.specs.Scripts.{ScriptValue}
use Rattle.window_text.specs.Transcripts.{TranscriptValue}
use Rattle.live_run.specs.Legal.{Answers, HasFollowed, IsLegalReport, IsLegalTranscript, IsShownValue, IsTouchedBy, LookAsked, MayShow, Shows}
use Rattle.live_run.specs.Legal.{StaysCurrent, commands_by, looks_asked}
use Rattle.live_run.specs.Plain.{Stands, ShowsAt, TouchesAs, ClientsAreTheScripts, LogIsTheScripts, ReportsAreOfTheirLooks}
use Rattle.live_run.specs.Plain.{NumbersAreWithin, NumbersNeverFall, ValuesAreOfOneThread, FirmReportsShowValues, LaterMarksTouch, OtherMarksAreLast}
use Rattle.live_run.specs.Plain.{ShownIsMarkedLater, ClosingIsAfterTheLog}
use Rattle.live_run.proofs.ZipLemmas.{stands_in, zip_at, zip_beside}

-- what holds of each element of a list, at a place
all_at : {A : Type 0} (P : A → Type 0) (xs : List A) (k : ℕ) (x : A) → All P xs → slice_get xs k ≡ Some x → P x
all_at P xs k x all at = subst P (get_or_from_slice_get xs k x x at) (all k x (slice_get_within xs k x at))

-- and of each pair of them, at two
pair_at : {A : Type 0} (R : A → A → Type 0) (xs : List A) (i j : ℕ) (x y : A) → AllPairs R xs → i < j → slice_get xs i ≡ Some x → slice_get xs j ≡ Some y
    → R x y
pair_at {A} R xs i j x y pairs less at_x at_y =
    subst (λ (z : A). R z y) (get_or_from_slice_get xs i x y at_x)
    (subst (λ (z : A). R (get_or xs i y) z) (get_or_from_slice_get xs j y y at_y) (pairs i j y less (slice_get_within xs j y at_y)))

-- a touching entry in both words
touches_as : (opening : SheetValue) (log : List Entry) (cell : Position) (number : ℕ) → IsTouchedBy opening log cell number → TouchesAs opening log cell number
touches_as opening log cell number is = (is.entry, is.counted, is.stands, is.touched)

is_touched : (opening : SheetValue) (log : List Entry) (cell : Position) (number : ℕ) → TouchesAs opening log cell number → IsTouchedBy opening log cell number
is_touched opening log cell number touches = record { counted = touches.1; entry = touches.0; stands = touches.2; touched = touches.3 }

shows : (report : Report) (at : ℕ) (cell : Position) (shown : Shown) → ShowsAt report at cell shown → Shows report cell shown
shows report at cell shown is = record { place = at; cell_is = is.cell_is; shown_is = is.shown_is }

module _ (opening : SheetValue) (script : ScriptValue) (t : TranscriptValue) where
  module _ (client place : ℕ) (report : Report) (legal : IsLegalTranscript opening script t) (stands : Stands t client place report) where
    followed : HasFollowed opening t.log client (commands_by client script.steps) stands.reports
    followed = legal.each client stands.reports stands.of

    legal_report : IsLegalReport opening t.log report
    legal_report = all_at (IsLegalReport opening t.log) stands.reports place report followed.legal stands.there

    pub may_show : (at : ℕ) (cell : Position) (shown : Shown) → ShowsAt report at cell shown → MayShow opening t.log report.board.number cell shown
    may_show at cell shown is =
        zip_at (MayShow opening t.log report.board.number) (cells_of report.board.window) report.board.cells at cell shown legal_report.cells is.cell_is
        is.shown_is

    answers : (look : LookAsked) × Answers client t.log look report
    answers =
        zip_beside (Answers client t.log) (looks_asked (commands_by client script.steps)) stands.reports report followed.answered
        (stands_in stands.reports place report stands.there)

  -- two reports of one client
  module _ (client place later : ℕ) (a b : Report) (legal : IsLegalTranscript opening script t) (one : Stands t client place a)
      (other : Stands t client later b) (less : place < later) where
    stays : StaysCurrent a b
    stays =
        let f = legal.each client one.reports one.of in
        let same : other.reports ≡ one.reports = same_Some other.reports one.reports (sym other.of ∙ one.of) in
        pair_at StaysCurrent one.reports place later a b f.current less one.there
        (subst (λ (l : List Report). slice_get l later ≡ Some b) same other.there)

  pub clients_are_the_scripts : ClientsAreTheScripts opening script t
  clients_are_the_scripts legal = (
    legal.names_are,
    legal.lists,
    λ client reports of.
        AllZip-long (Answers client t.log) (looks_asked (commands_by client script.steps)) reports (legal.each client reports of).answered,
  )

  pub log_is_the_scripts : LogIsTheScripts opening script t
  log_is_the_scripts legal = (
    (λ client less.
        let lists = legal.lists in
        let within : client < length t.reports = omega (arith, less, lists) in
        (legal.each client (get_or t.reports client []) (slice_get-get_or t.reports client [] within)).edits),
    λ place entry at. all_at (λ (e : Entry). e.client < length script.names) t.log place entry legal.others at,
  )

  pub reports_are_of_their_looks : ReportsAreOfTheirLooks opening script t
  reports_are_of_their_looks client place look report legal stands at =
      let is =
      zip_at (Answers client t.log) (looks_asked (commands_by client script.steps)) stands.reports place look report
      (followed client place report legal stands).answered at stands.there in (
        is.firm_is,
        is.window_is,
        AllZip-long (MayShow opening t.log report.board.number) (cells_of report.board.window) report.board.cells
            (legal_report client place report legal stands).cells
            ∙ ap (λ (w : Corners). length (cells_of w)) is.window_is,
      )

  pub numbers_are_within : NumbersAreWithin opening script t
  numbers_are_within client place report legal stands = (answers client place report legal stands).1.within

  pub numbers_never_fall : NumbersNeverFall opening script t
  numbers_never_fall client place later a b legal one other less = (stays client place later a b legal one other less).rises

  pub values_are_of_one_thread : ValuesAreOfOneThread opening script t
  values_are_of_one_thread client place at report cell value legal stands is = may_show client place report legal stands at cell (Value value) is

  pub firm_reports_show_values : FirmReportsShowValues opening script t
  firm_reports_show_values client place at report shown legal stands firm is =
      go shown (all_at IsShownValue report.board.cells at shown ((legal_report client place report legal stands).values firm) is)
    where
      go : (s : Shown) → IsShownValue s → (value : CellValue) × (s ≡ Value value)
      go (Value value) so = (value, refl)
      go (Stale mark) so = absurd so
      go (Newer mark) so = absurd so

  pub later_marks_touch : LaterMarksTouch opening script t
  later_marks_touch client place at mark report cell shown legal stands is marked past =
      let number = report.board.number in
      elim marked [
        | inl stale ↦
            elim (subst (MayShow opening t.log number cell) stale (may_show client place report legal stands at cell shown is)) [
              | inl waits ↦ absurd (let within = waits.last.within in omega (arith, within, past))
              | inr later ↦ touches_as opening t.log cell mark later.touched
            ]
        | inr newer ↦
            touches_as opening t.log cell mark
            (subst (MayShow opening t.log number cell) newer (may_show client place report legal stands at cell shown is)).touched
      ]

  pub other_marks_are_last : OtherMarksAreLast opening script t
  other_marks_are_last client place at mark report cell shown legal stands is marked within =
      let number = report.board.number in
      elim marked [
        | inl stale ↦
            elim (subst (MayShow opening t.log number cell) stale (may_show client place report legal stands at cell shown is)) [
              | inl waits ↦ (
                stale,
                (λ some. touches_as opening t.log cell mark (waits.last.touched some)),
                (λ later past up touches. waits.last.none_later later past up (is_touched opening t.log cell later touches)),
                λ none. let holds = waits.load none in (holds.formula, holds.held),
              )
              | inr later ↦ absurd (let past = later.later in omega (arith, within, past))
            ]
        | inr newer ↦
            absurd
            (let past = (subst (MayShow opening t.log number cell) newer (may_show client place report legal stands at cell shown is)).later in
            omega (arith, within, past))
      ]

  pub shown_is_marked_later : ShownIsMarkedLater opening script t
  shown_is_marked_later client place later at there mark a b cell value shown legal one other less first second marked =
      let both = stays client place later a b legal one other less in
      let early = shows a at cell (Value value) first in
      elim marked [
        | inl stale ↦ both.stale cell value mark early (subst (Shows b cell) stale (shows b there cell shown second))
        | inr newer ↦ both.newer cell value mark early (subst (Shows b cell) newer (shows b there cell shown second))
      ]

  pub closing_is_after_the_log : ClosingIsAfterTheLog opening script t
  closing_is_after_the_log legal = legal.closing
