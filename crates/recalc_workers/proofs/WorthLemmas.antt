-- The worth of a cell after the entries that a seat knows.
use Rattle.std.proofs.Common.{◌≡◌, ℕ, List, refl, sym, ◌∙◌, ap, subst, inl}
use Rattle.std.specs.Prelude.{IsTrue, is_some, slice_get}
use Rattle.sheet_refs.specs.Cells.{Position}
use Rattle.sheet_refs.specs.Sizes.{is_inside, place_of}
use Rattle.sheet_refs.specs.declared.sizes.Sizes.{Sizes}
use Rattle.value_core.specs.declared.value.ErrorKind.TheVariants.{Circ}
use Rattle.value_core.specs.declared.value.Value.TheVariants.{Error}
use Rattle.value_core.specs.declared.value.Value.{Value}
use Rattle.value_core.specs.Values.{IsValue, code_of}
use Rattle.value_core.specs.Decoding.{value_of_its_code}
use Rattle.sheet_model.specs.Logs.{after, IsOfSheet}
use Rattle.sheet_model.specs.Sheets.{SheetValue, ContentValue, IsSheet, content_of}
use Rattle.sheet_model.specs.Values.{value_of, step_content, content_references}
use Rattle.sheet_model.specs.declared.entry.Entry.{Entry}
use Rattle.sheet_model.proofs.SheetValues.{circular_cycle, one_step, value_in_range}
use Rattle.sheet_model.proofs.LogLemmas.{after-sizes}
use Rattle.recalc_workers.specs.declared.inputs.InputList.{InputList}
use Rattle.recalc_workers.specs.Inputs.{AreCodes, AgreeWith, HasListed, HaveWords, IsInParts, word_in}
use Rattle.recalc_workers.proofs.ListedLemmas.{IsCodeOf, codes_of_parts, word_is, word_there}
use Rattle.recalc_workers.proofs.ReadingLemmas.{inside_parts}
use Rattle.recalc_workers.specs.Turns.{IsOnCycle}

module _ (opening : SheetValue) (places : ℕ) (worth : List Entry → ℕ → ℕ) (of : IsOfSheet opening places worth)
    (log : List Entry) (cell : Position) (place : ℕ) (is : place ≡ place_of opening.sizes cell)
    (inside : IsTrue (is_inside opening.sizes cell)) (sheet : IsSheet (after opening log)) where
  -- the worth of a cell on a cycle
  pub circular_worth : IsOnCycle (after opening log) cell → worth log place ≡ code_of (Error Circ)
  circular_worth cycle =
      ap (worth log) is ∙ of.values log cell inside
      ∙ ap code_of ((circular_cycle (after opening log) cell sheet).1 (record { turn = cell; there = inl refl; back = cycle }))

  module _ (sizes : Sizes) (same_sizes : sizes ≡ opening.sizes) (content : ContentValue)
      (content_is : content ≡ content_of (after opening log) cell) (list : InputList)
      (listed : HasListed sizes (content_references content) (λ input. worth log (place_of sizes input)) list) where
    abbrev word_of : Position → ℕ
    word_of input = worth log (place_of sizes input)

    abbrev values : Position → Value
    values = value_of (after opening log)

    -- the word of an input is the code of its value
    right_word : (input : Position) → IsTrue (is_inside sizes input) → word_of input ≡ code_of (values input)
    right_word input within = ap (λ s. worth log (place_of s input)) same_sizes
        ∙ of.values log input (subst (λ s. IsTrue (is_inside s input)) same_sizes within)

    right_value : (input : Position) → IsValue (values input)
    right_value input = value_in_range (after opening log) input sheet

    pub listed_codes : AreCodes list.words.items
    listed_codes =
        subst AreCodes (sym listed.words)
        (codes_of_parts word_of list.parts.items (λ input at.
        let back = value_of_its_code (values input) (right_value input) in
        subst IsCodeOf (sym (right_word input (inside_parts sizes (content_references content) list.parts.items listed.parts input at)))
        (subst IsValue (sym back) (right_value input), ap code_of back)))

    pub listed_words : HaveWords sizes (content_references content) list.parts.items list.words.items
    listed_words input named within =
        let left = listed.parts.complete input named within in
        let at : IsInParts list.parts.items input =
        record {
          place = left.place;
          part = left.at.part;
          listed = ap (λ l. slice_get l left.place) listed.parts.behind
              ∙ left.at.listed;
          within = left.at.inside;
        } in
        ap is_some (ap (λ words. word_in list.parts.items words input) listed.words ∙ word_there word_of list.parts.items input at)

    agree : AgreeWith sizes (content_references content) list.parts.items list.words.items values
    agree input word named within is =
        let same = word_is word_of list.parts.items input word (ap (λ words. word_in list.parts.items words input) (sym listed.words) ∙ is) in
        (right_value input, sym (same ∙ right_word input within))

    -- so what the content gives over the list is the worth of the cell
    pub listed_worth : (word : ℕ)
        → ((values : Position → Value) → AgreeWith sizes (content_references content) list.parts.items list.words.items
        values → word ≡ code_of (step_content sizes values content))
        → worth log place ≡ word
    listed_worth word gives =
        ap (worth log) is ∙ of.values log cell inside ∙ ap code_of (one_step (after opening log) cell sheet)
        ∙ ap (λ s. code_of (step_content s values (content_of (after opening log) cell))) (after-sizes opening log ∙ sym same_sizes)
        ∙ ap (λ k. code_of (step_content sizes values k)) (sym content_is) ∙ sym (gives values agree)
