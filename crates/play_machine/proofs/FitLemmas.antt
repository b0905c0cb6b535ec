-- The steps of a script that was read are about cells of its sheet, and make no more edits than a log may have.
use Rattle.std.proofs.Common.{◌≡◌, ◌⊎◌, inl, inr, ℕ, ◌+◌, ◌*◌, ◌<◌, ◌≤◌, Bool, false, Option, Some, None, List, [], ◌∷◌}
use Rattle.std.proofs.Common.{◌++◌, length, count_by, IsTrue, All, arith, refl, sym, ap, subst, ◌∙◌}
use Rattle.std.specs.Prelude.{MatchOption, fold, option_map}
use Rattle.std.proofs.lemmas.List.{map-append}
use Rattle.std.proofs.lemmas.List.Elements.{All-push}
use Rattle.std.proofs.lemmas.List.Sums.{sum_by-cons}
use Rattle.sheet_refs.specs.Cells.{Position, Corners, IsIn, height, width}
use Rattle.sheet_refs.specs.Sizes.{is_inside}
use Rattle.sheet_refs.proofs.Grid.{rows_length}
use Rattle.sheet_model.specs.Changes.{ChangeValue}
use Rattle.sheet_model.specs.Edits.{EditValue, IsChangeFor, IsFor}
use Rattle.sheet_model.specs.Sheets.{SheetValue, Constant, with_labels}
use Rattle.value_core.specs.declared.value.Value.TheVariants.{Empty}
use Rattle.sheet_model.proofs.EditLemmas.{first_or_later}
use Rattle.sheet_model.proofs.ListMembers.{all_from, no_member}
use Rattle.sheet_model.proofs.SheetLemmas.{label_content, held_empty}
use Rattle.edit_script.specs.Batches.{changed_cells}
use Rattle.edit_script.specs.Lines.{LineValue, Skip, Client, Set, Clear, Look, Firm, Work, Batch, End}
use Rattle.edit_script.specs.Scripts.{AddsCommand, AreLines, AreSteps, Brought, GoesOn, IsAllowed, IsChangeEditTooMany}
use Rattle.edit_script.specs.Scripts.{IsMisplacedAlone, IsMisplacedIn, IsScript, MakesChange, ScriptValue, brought_by}
use Rattle.edit_script.specs.Scripts.{change_of, ground_of, nothing_yet, with_batch, with_change, with_client}
use Rattle.edit_script.specs.Scripts.{with_edit, with_line}
use Rattle.edit_script.specs.Scripts.AreLines.{none as no_lines, more as more_lines}
use Rattle.edit_script.specs.Scripts.AreSteps.{none as no_steps, more as step_more}
use Rattle.edit_script.specs.declared.refused.ScriptRefused.TheVariants.{BadLine, OutOfSheet, TooManyEdits, WindowTooLarge}
use Rattle.edit_script.specs.declared.script.Command.{Command}
use Rattle.edit_script.specs.declared.script.Command.TheVariants as asks
use Rattle.edit_script.specs.declared.script.Mode.{Mode}
use Rattle.edit_script.specs.declared.script.Step.{Step}
use Rattle.edit_script.proofs.OneScript.{none_last, one_last}
use Rattle.play_machine.specs.Playing.{AreFit, IsCommandOfSheet, IsWindow, is_put}
use Rattle.play_machine.proofs.MarkLemmas.{not_both}
use Rattle.play_machine.proofs.PlayLemmas.{one_of}
use Rattle.play_machine.proofs.TurnLemmas.{true_or_false}

fold_last : (now : Brought) (lines : List LineValue) (line : LineValue) → fold with_line now (lines ++ line ∷ []) ≡ with_line (fold with_line now lines) line
fold_last now [] line = refl
fold_last now (first ∷ lines) line = fold_last (with_line now first) lines line

-- what isn't false is true
stable : (b : Bool) → ((¬ IsTrue b) → ⊥) → IsTrue b
stable b not = go (true_or_false b)
  where
    go : IsTrue b ⊎ (b ≡ false) → IsTrue b
    go (inl is) = is
    go (inr other) = absurd (not (λ is. not_both b is other))

module _ (sheet : SheetValue) where
  window_fits : (now : Brought) (range : Corners)
      → ((cell : Position) → IsIn cell range → (¬ IsTrue (is_inside sheet.sizes cell)) → ⊥)
      → ((65536 < height range * width range) → ⊥) → IsWindow sheet range
  window_fits now range inside small = record {
    inside = λ cell there. stable (is_inside sheet.sizes cell) (λ outside. inside cell there outside);
    few = (let count = rows_length range range.head.row (height range) in
        let most : height range * width range ≤ 65536 = omega (arith, small) in omega (arith, count, most));
  }

  -- an edit of one change is for the sheet where that change is
  one_for : (change : ChangeValue) → IsChangeFor sheet change → IsFor sheet (change ∷ [])
  one_for change for = all_from (IsChangeFor sheet) (change ∷ []) (λ c there. elim (first_or_later c change [] there) [
    | inl same ↦ subst (IsChangeFor sheet) same for
    | inr later ↦ absurd (no_member c later)
  ])

  count_last : (steps : List Step) (step : Step) → count_by (λ s. is_put s.command) (steps ++ step
      ∷ []) ≡ count_by (λ s. is_put s.command) steps + one_of (is_put step.command)
  count_last [] step = sum_by-cons (λ s. one_of (is_put s.command)) step [] ∙ omega arith
  count_last (first ∷ steps) step =
      let rest = count_last steps step in
      let whole = sum_by-cons (λ (s : Step). one_of (is_put s.command)) first (steps ++ step ∷ []) in
      let part = sum_by-cons (λ (s : Step). one_of (is_put s.command)) first steps in
      rw (whole, part) (omega (arith, rest))

  -- how many edits an open batch is
  abbrev open_count : Option EditValue → ℕ
  open_count None = 0
  open_count (Some changes) = 1

  -- steps and an open batch that fit, behind lines that brought so much
  record Fits (now : Brought) (opened : Option EditValue) (steps : List Step) : Type 0 where
    each : All (λ step. IsCommandOfSheet sheet step.command) steps
    changes : MatchOption opened (Unit {0}) (IsFor sheet)
    edits : count_by (λ s. is_put s.command) steps + open_count opened ≡ now.edits
    few : now.edits ≤ 1048576
    batch : now.batch ≡ option_map changed_cells opened

  -- a step more
  each_more : (command : Command) (there : Brought) (steps all : List Step) → AddsCommand command there steps all
      → IsCommandOfSheet sheet command → All (λ (s : Step). IsCommandOfSheet sheet s.command) steps
      → All (λ (s : Step). IsCommandOfSheet sheet s.command) all
  each_more command there steps all adds fits each =
      subst (All (λ (s : Step). IsCommandOfSheet sheet s.command)) (sym adds.added)
      (All-push (λ (s : Step). IsCommandOfSheet sheet s.command) steps _ each fits)

  count_more : (command : Command) (there : Brought) (steps all : List Step) → AddsCommand command there steps all
      → count_by (λ s. is_put s.command) all ≡ count_by (λ s. is_put s.command) steps + one_of (is_put command)
  count_more command there steps all adds = ap (count_by (λ s. is_put s.command)) adds.added
      ∙ count_last steps (record { client = adds.client; command = command })

  -- a line that changes neither the steps nor the batch, nor how many edits there are
  same_fits : (now next : Brought) (opened after : Option EditValue) (steps all : List Step) → Fits now opened steps
      → next.edits ≡ now.edits → next.batch ≡ now.batch → after ≡ opened → all ≡ steps → Fits next after all
  same_fits now next opened after steps all fits edits batch after_is all_is =
      subst (λ o. Fits next o all) (sym after_is) (subst (λ s. Fits next opened s) (sym all_is) (record {
        each = fits.each;
        changes = fits.changes;
        edits = fits.edits ∙ sym edits;
        few = (let f = fits.few in omega (arith, edits, f));
        batch = batch ∙ fits.batch;
      }))

  -- a command that is no edit
  told_fits : (command : Command) (now next there : Brought) (opened after : Option EditValue) (steps all : List Step)
      → Fits now opened steps → one_of (is_put command) ≡ 0 → IsCommandOfSheet sheet command
      → next.edits ≡ now.edits → next.batch ≡ now.batch → after ≡ opened → AddsCommand command there steps all → Fits next after all
  told_fits command now next there opened after steps all fits no_edit fit edits batch after_is adds =
      subst (λ o. Fits next o all) (sym after_is) (record {
        each = each_more command there steps all adds fit fits.each;
        changes = fits.changes;
        edits = (let counted = count_more command there steps all adds in let e = fits.edits in omega (arith, counted, no_edit, e, edits));
        few = (let f = fits.few in omega (arith, edits, f));
        batch = batch ∙ fits.batch;
      })

  -- a change, within a batch or by itself
  change_fits : (opened after : Option EditValue) (steps all : List Step) (now there : Brought) (change : ChangeValue)
      → Fits now opened steps → IsChangeFor sheet change → ¬ IsChangeEditTooMany now
      → MakesChange there change opened after steps all
      → Fits (with_change now.batch now change.cell) after all
  change_fits None after steps all now there change fits for few (after_is, adds) =
      let none : now.batch ≡ None = fits.batch in
      let room : 1048576 ≤ now.edits → ⊥ = λ many. few (subst (λ b. MatchOption b (1048576 ≤ now.edits) (λ (cells : List Position). ⊥)) (sym none) many) in
      let counted = count_more (asks.Put (change ∷ [])) there steps all adds in
      subst (λ b. Fits (with_change b now change.cell) after all) (sym none)
      (subst (λ o. Fits (with_edit (with_client now now.client)) o all) (sym after_is) (record {
        each = each_more (asks.Put (change ∷ [])) there steps all adds (one_for change for) fits.each;
        changes = tt;
        edits = (let e = fits.edits in omega (arith, counted, e));
        few = omega (arith, room);
        batch = none;
      }))
  change_fits (Some changes) after steps all now there change fits for few (after_is, same) =
      let opened_is : now.batch ≡ Some (changed_cells changes) = fits.batch in
      subst (λ b. Fits (with_change b now change.cell) after all) (sym opened_is)
      (subst (λ o. Fits (with_batch now (Some (changed_cells changes ++ change.cell ∷ []))) o all) (sym after_is)
      (subst (λ s. Fits (with_batch now (Some (changed_cells changes ++ change.cell ∷ []))) (Some (changes ++ change ∷ [])) s) (sym same) (record {
        each = fits.each;
        changes = All-push (IsChangeFor sheet) changes change fits.changes for;
        edits = fits.edits;
        few = fits.few;
        batch = ap Some (sym (map-append (λ (c : ChangeValue). c.cell) changes (change ∷ [])));
      })))

  -- the first line of a batch
  batch_fits : (opened after : Option EditValue) (steps all : List Step) (now : Brought) → Fits now opened steps
      → IsAllowed (ground_of sheet) now Batch → after ≡ Some [] → all ≡ steps → Fits (with_line now Batch) after all
  batch_fits None after steps all now fits fine after_is all_is =
      let room : 1048576 ≤ now.edits → ⊥ = fine (TooManyEdits 0) in
      subst (λ o. Fits (with_line now Batch) o all) (sym after_is) (subst (λ s. Fits (with_line now Batch) (Some []) s) (sym all_is) (record {
        each = fits.each;
        changes = λ k d within. absurd (omega (arith, within));
        edits = (let e = fits.edits in omega (arith, e));
        few = omega (arith, room);
        batch = refl;
      }))
  batch_fits (Some changes) after steps all now fits fine after_is all_is =
      absurd (fine (BadLine 0) (subst (λ b. MatchOption b (IsMisplacedAlone Batch) (λ cells. IsMisplacedIn cells Batch)) (sym fits.batch) tt))

  -- and its end
  end_fits : (opened after : Option EditValue) (steps all : List Step) (now there : Brought) (changes : EditValue)
      → Fits now opened steps → opened ≡ Some changes → after ≡ None → AddsCommand (asks.Put changes) there steps all
      → Fits (with_line now End) after all
  end_fits opened after steps all now there changes fits opened_is after_is adds =
      let counted = count_more (asks.Put changes) there steps all adds in
      let one : open_count opened ≡ 1 = ap open_count opened_is in
      subst (λ o. Fits (with_line now End) o all) (sym after_is) (record {
        each = each_more (asks.Put changes) there steps all adds (subst (λ o. MatchOption o (Unit {0}) (IsFor sheet)) opened_is fits.changes) fits.each;
        changes = tt;
        edits = (let e = fits.edits in omega (arith, counted, e, one));
        few = fits.few;
        batch = refl;
      })

  -- each line
  line_fits : (now there : Brought) (line : LineValue) (opened after : Option EditValue) (steps all : List Step)
      → Fits now opened steps → IsAllowed (ground_of sheet) now line
      → GoesOn sheet.edition sheet.labels there line opened after steps all → Fits (with_line now line) after all
  line_fits now there Skip opened after steps all fits fine (after_is, all_is) = same_fits now now opened after steps all fits refl refl after_is all_is
  line_fits now there (Client name) opened after steps all fits fine (after_is, all_is) =
      same_fits now (with_client now name) opened after steps all fits refl refl after_is all_is
  line_fits now there (Set cell text) opened after steps all fits fine (content, writes, makes) =
      change_fits opened after steps all now there (change_of cell content) fits
      (record {
        inside = stable (is_inside sheet.sizes cell) (fine (OutOfSheet 0));
        label = label_content sheet.edition sheet.labels text content writes;
      }) (fine (TooManyEdits 0)) makes
  line_fits now there (Clear cell) opened after steps all fits fine makes =
      change_fits opened after steps all now there (change_of cell (Constant Empty)) fits
      (record {
        inside = stable (is_inside sheet.sizes cell) (fine (OutOfSheet 0));
        label = (held_empty (length sheet.labels)).label;
      }) (fine (TooManyEdits 0)) makes
  line_fits now there (Look range) opened after steps all fits fine (after_is, adds) =
      told_fits (asks.Look range) now (with_line now (Look range)) there opened after steps all fits refl
      (window_fits now range (λ cell here outside. fine (OutOfSheet 0) (cell, here, outside))
      (λ large. fine (WindowTooLarge 0) (inl large))) refl refl after_is adds
  line_fits now there (Firm range) opened after steps all fits fine (after_is, adds) =
      told_fits (asks.Firm range) now (with_line now (Firm range)) there opened after steps all fits refl
      (window_fits now range (λ cell here outside. fine (OutOfSheet 0) (cell, here, outside))
      (λ large. fine (WindowTooLarge 0) (inl large))) refl refl after_is adds
  line_fits now there (Work turns) opened after steps all fits fine (after_is, adds) =
      told_fits (asks.Work turns) now (with_line now (Work turns)) there opened after steps all fits refl tt refl refl after_is adds
  line_fits now there Batch opened after steps all fits fine (after_is, all_is) = batch_fits opened after steps all now fits fine after_is all_is
  line_fits now there End opened after steps all fits fine (changes, opened_is, after_is, adds) =
      end_fits opened after steps all now there changes fits opened_is after_is adds

  lines_fit : (mode : Mode) (texts : List (List ℕ)) (lines known : List LineValue) (opened : Option EditValue)
      (steps : List Step) → AreLines mode (ground_of sheet) texts lines
      → AreSteps sheet.edition sheet.labels known opened steps → lines ≡ known → Fits (brought_by lines) opened steps
  lines_fit mode _ _ _ _ _ no_lines no_steps same = record {
    each = λ k d below. absurd (omega (arith, below));
    changes = tt;
    edits = refl;
    few = omega arith;
    batch = refl;
  }
  lines_fit mode _ _ _ _ _ no_lines (step_more lines all line before after some whole so_far goes are) same = absurd (none_last lines line (sym are ∙ sym same))
  lines_fit mode texts lines _ _ _ (more_lines front all text before known line said says allowed all_is known_is)
      no_steps same = absurd (none_last before line (sym known_is ∙ same))
  lines_fit mode texts _ _ _ steps (more_lines front all text before known line said says allowed all_is known_is)
      (step_more earlier whole other was after some _ so_far goes are) same =
      let both = one_last before earlier line other (sym known_is ∙ same ∙ are) in
      let rest = lines_fit mode front before earlier was some said so_far both.0 in
      let brought : brought_by known ≡ with_line (brought_by before) line = ap brought_by known_is ∙ fold_last nothing_yet before line in
      let fits = line_fits (brought_by before) (brought_by whole) line was after some steps rest allowed
      (subst (λ l. GoesOn sheet.edition sheet.labels (brought_by whole) l was after some steps) (sym both.1) goes)
      in
      subst (λ b. Fits b after steps) (sym brought) fits

-- the steps of a script fit the sheet with the labels that it brings
pub script_fits : (mode : Mode) (sheet : SheetValue) (labels : List (List ℕ)) (text : List ℕ) (script : ScriptValue)
    → IsScript mode (ground_of sheet) sheet.labels labels text script → AreFit (with_labels sheet labels) script.steps
script_fits mode sheet labels text script is =
    let fits = lines_fit (with_labels sheet labels) mode _ is.lines is.lines None script.steps is.said is.steps refl in
    record { each = fits.each; few = (let e = fits.edits in let f = fits.few in omega (arith, e, f)) }
