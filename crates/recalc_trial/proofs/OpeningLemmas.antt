-- The codes with which the words of a sheet open.
use Rattle.std.proofs.Common.{◌≡◌, ◌+◌, ℕ, List, [], ◌∷◌, ◌++◌, Option, Some, None, refl, sym, ◌∙◌, ap, subst, inl, inr, arith, length-append}
use Rattle.std.specs.Prelude.{IfSome, IsTrue}
use Rattle.std.proofs.lemmas.Option.{same_Some, none-some}
use Rattle.sheet_refs.specs.Cells.{Position}
use Rattle.sheet_refs.specs.Sizes.{is_inside, place_of}
use Rattle.value_core.specs.Values.{code_of}
use Rattle.sheet_model.specs.Sheets.{SheetValue, IsSheet, content_of}
use Rattle.sheet_model.specs.Values.{value_of, step_content}
use Rattle.sheet_model.proofs.ListLemmas.{slice_get-pushed}
use Rattle.sheet_model.proofs.SheetValues.{one_step}
use Rattle.edit_log.specs.Kept.{cell_at-place}
use Rattle.edit_log.specs.Touches.{cell_at, place_worth}
use Rattle.recalc_trial.specs.Offices.{AreOpeningCodes, IsCodeOfConstant}

-- the code of a constant is the worth of its place over the empty log
constant_worth : (sheet : SheetValue) (cell : Position) (place word : ℕ) → IsSheet sheet
    → IsTrue (is_inside sheet.sizes cell) → place_of sheet.sizes cell ≡ place
    → IsCodeOfConstant (content_of sheet cell) word → word ≡ place_worth sheet [] place
constant_worth sheet cell place word is inside at constant =
    let there : cell_at sheet.sizes place ≡ cell = ap (cell_at sheet.sizes) (sym at) ∙ cell_at-place sheet.sizes cell inside in
    constant.2 ∙ ap code_of (sym (one_step sheet cell is ∙ ap (step_content sheet.sizes (value_of sheet)) constant.1))
    ∙ ap (λ c. code_of (value_of sheet c)) (sym there)

code_in : (P : ℕ → Type 0) (o : Option ℕ) (word : ℕ) → IfSome o P → o ≡ Some word → P word
code_in P None word given is = absurd (none-some word is)
code_in P (Some other) word given is = subst P (same_Some other word is) given

pub one_code_more : (sheet : SheetValue) (cell : Position) (place : ℕ) (codes : List (Option ℕ)) (code : Option ℕ)
    → IsSheet sheet → IsTrue (is_inside sheet.sizes cell) → place_of sheet.sizes cell ≡ place
    → AreOpeningCodes sheet place codes → IfSome code (IsCodeOfConstant (content_of sheet cell)) → AreOpeningCodes sheet (place + 1) (codes ++ code ∷ [])
one_code_more sheet cell place codes code is inside at so_far given =
    record {
      length_is = omega (arith, length-append codes (code ∷ []), so_far.length_is);
      right = λ k word stands.
          elim (slice_get-pushed codes code k (Some word) stands) [
            | inl before ↦ so_far.right k word before
            | inr last ↦
                constant_worth sheet cell k word is inside (at ∙ sym (last.0 ∙ so_far.length_is))
                (code_in (IsCodeOfConstant (content_of sheet cell)) code word given last.1)
          ];
    }

pub no_codes : (sheet : SheetValue) → AreOpeningCodes sheet 0 []
no_codes sheet = record { length_is = refl; right = λ k word stands. absurd (cc) }
