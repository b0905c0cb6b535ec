-- What a legal read, or a value after entries that are known, may show of a cell.
use Rattle.std.proofs.Common.{◌≡◌, ◌<◌, ◌≤◌, ◌+◌, ◌⊎◌, ⊎_elim, inl, inr, ℕ, zero, suc, List, [], ◌∷◌, ◌++◌, Some, None}
use Rattle.std.proofs.Common.{IsTrue, map, length, take, slice_get, get_or, Contains, refl, sym, ◌∙◌, ap, subst}
use Rattle.std.proofs.lemmas.Bool.{cases_eq, cases_lt}
use Rattle.std.proofs.lemmas.List.{append-nil}
use Rattle.std.proofs.lemmas.List.Elements.{All-take}
use Rattle.std.proofs.lemmas.Option.{none-some}
use Rattle.edit_log.specs.Kept.{cell_at-place}
use Rattle.edit_log.specs.Touches.{TouchesPlace, place_worth}
use Rattle.formula_syntax.specs.Tree.{Tree}
use Rattle.live_sheet.specs.Closed.{IsLegalOver}
use Rattle.live_sheet.specs.Looks.{ShowsLoads}
use Rattle.live_sheet.specs.Openings.{code_before, opening_codes}
use Rattle.mark_core.specs.Marks.{IsTouched, IsLastMark, IsPrefix}
use Rattle.mark_core.specs.Runs.{IsCodeless}
use Rattle.mark_core.specs.declared.actors.View.{View}
use Rattle.mark_core.specs.declared.answers.Seen.TheVariants as seen
use Rattle.mark_core.specs.declared.words.Finished.{Finished}
use Rattle.mark_core.proofs.Prefixes.{take-prefix}
use Rattle.sheet_refs.specs.Cells.{Position}
use Rattle.sheet_refs.specs.Sizes.{is_inside, place_of}
use Rattle.sheet_model.specs.Edits.{AreHeldBeside}
use Rattle.sheet_model.specs.Logs.{after, AreHeld}
use Rattle.sheet_model.specs.Sheets.{SheetValue, IsSheet, ContentValue, Constant, Computed}
use Rattle.sheet_model.specs.Values.{value_of}
use Rattle.sheet_model.specs.declared.board.Shown.{Shown}
use Rattle.sheet_model.specs.declared.board.Shown.TheVariants.{Stale}
use Rattle.sheet_model.specs.declared.entry.Entry.{Entry}
use Rattle.sheet_model.proofs.LogLemmas.{after-sheet}
use Rattle.sheet_model.proofs.SheetValues.{value_in_range}
use Rattle.value_core.specs.Values.{IsValue, code_of}
use Rattle.value_core.specs.declared.value.Value.TheVariants.{Empty}
use Rattle.live_run.specs.Legal.{HoldsFormula, IsTouchedLater, MayShow}
use Rattle.live_run.specs.Told.{IsKnownBy, IsTold}
use Rattle.live_run.proofs.TouchedLemmas.{touched_by, last_of}

-- a place that opened without a code held a formula
codeless_content : (contents : List ContentValue) (place : ℕ) (d : ContentValue)
    → slice_get (map code_before contents) place ≡ Some None → (formula : Tree)
    × (get_or contents place d ≡ Computed formula)
codeless_content [] place d none = absurd (none-some None none)
codeless_content (Constant value ∷ contents) zero d none = absurd (cc)
codeless_content (Computed formula ∷ contents) zero d none = (formula, refl)
codeless_content (content ∷ contents) (suc place) d none = codeless_content contents place d none

module _ (opening : SheetValue) (log : List Entry) (cell : Position) (inside : IsTrue (is_inside opening.sizes cell)) where
  holds_formula : IsCodeless (opening_codes opening) (place_of opening.sizes cell) → HoldsFormula opening cell
  holds_formula none =
      let (formula, is) = codeless_content opening.contents (place_of opening.sizes cell) (Constant Empty) none in
      record { formula = formula; held = rw (inside, is) refl }

  module _ (is : IsSheet opening) (held : AreHeld (length opening.labels) log) (number : ℕ) where
    in_range : IsValue (value_of (after opening (take number log)) cell)
    in_range = value_in_range (after opening (take number log)) cell
        (after-sheet opening (take number log) is (All-take (λ (entry : Entry). AreHeldBeside (length opening.labels) entry.edit) number log held))

    module _ (read : Finished) (word : ℕ) (legal : IsLegalOver opening (opening_codes opening) log read word)
        (number_is : read.number ≡ number) (place_is : read.place ≡ place_of opening.sizes cell) where
      later : read.number < read.mark → IsTouched (TouchesPlace opening) log read.place read.mark → IsTouchedLater opening log number cell read.mark
      later past touched =
          record {
            later = subst (λ n. n < read.mark) number_is past;
            touched = touched_by opening log cell inside read.mark (subst (λ (p : ℕ). IsTouched (TouchesPlace opening) log p read.mark) place_is touched);
          }

      -- the last mark in so many entries, or a later one
      later_or_last : ((read.mark ≤ read.number) × IsLastMark (TouchesPlace opening) (take read.number log) read.place
          read.mark × (read.mark ≡ 0 → IsCodeless (opening_codes opening) read.place))
          ⊎ ((read.number < read.mark) × IsTouched (TouchesPlace opening) (log ++ []) read.place read.mark)
          → MayShow opening log number cell (Stale read.mark)
      later_or_last (inl (le, last, load)) =
          inl (record {
            last = last_of opening log cell inside number read.mark (subst (λ n. n ≤ length log) number_is legal.within)
                (subst (λ (n : ℕ). IsLastMark (TouchesPlace opening) (take n log) (place_of opening.sizes cell) read.mark) number_is
                (subst (λ (p : ℕ). IsLastMark (TouchesPlace opening) (take read.number log) p read.mark) place_is last));
            load = λ none. holds_formula (subst (IsCodeless (opening_codes opening)) place_is (load none));
          })
      later_or_last (inr (past, touched)) =
          inr (later past (subst (λ (l : List Entry). IsTouched (TouchesPlace opening) l read.place read.mark) (append-nil log) touched))

      -- what the read shows may be shown
      may_show : (shown : Shown) → ShowsLoads number (record { clean = read.clean; word = word; mark = read.mark })
          shown → MayShow opening log number cell shown
      may_show shown shows =
          ⊎_elim
          (λ (computed : read.clean.upto ≡ read.mark + 1).
          ⊎_elim
          (λ (past : number < read.mark).
          let answer = legal.answer (seen.Newer read.mark) (computed, subst (λ n. n < read.mark) (sym number_is) past, refl) in
          subst (λ (s : Shown). MayShow opening log number cell s) (sym (shows.newer computed past)) (later answer.0 answer.1))
          (λ (le : read.mark ≤ number).
          let answer : word ≡ place_worth opening (take read.number log) read.place =
          legal.answer (seen.Value word) (computed, subst (λ n. read.mark ≤ n) (sym number_is) le, refl) in
          let shown_value = shows.current computed le in
          subst (λ (s : Shown). MayShow opening log number cell s) (sym shown_value.1)
          (shown_value.2 (value_of (after opening (take number log)) cell) in_range
          (answer
          ∙ ap (λ n. place_worth opening (take n log) read.place) number_is
          ∙ ap (λ p. place_worth opening (take number log) p) place_is
          ∙ ap (λ c. code_of (value_of (after opening (take number log)) c)) (cell_at-place opening.sizes cell inside))))
          (cases_lt number read.mark))
          (λ stale. subst (λ (s : Shown). MayShow opening log number cell s) (sym (shows.stale stale))
          (later_or_last (legal.answer (seen.Stale read.mark) (stale, refl))))
          (cases_eq read.clean.upto (read.mark + 1))

    module _ (view : View (List Entry)) (known : IsPrefix view.log log)
        (legal : (read : Finished) (word : ℕ) → Contains view.reads read → read.word ≡ Some word
        → IsLegalOver opening (opening_codes opening) log read word) where
      known_may_show : (shown : Shown) → IsKnownBy opening view number cell shown → MayShow opening log number cell shown
      known_may_show shown by =
          subst (λ (s : Shown). MayShow opening log number cell s) (sym by.shown_is)
          (ap (λ l. value_of (after opening l) cell) (sym (take-prefix view.log log number known by.within)))

      -- whatever a report that the view tells of shows may be shown
      pub told_may_show : (shown : Shown) → IsTold opening view number cell shown → MayShow opening log number cell shown
      told_may_show shown (inl by) = may_show by.read by.word (legal by.read by.word by.kept by.word_is) by.number_is by.place_is shown by.shown_is
      told_may_show shown (inr by) = known_may_show shown by
