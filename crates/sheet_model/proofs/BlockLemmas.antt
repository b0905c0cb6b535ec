-- The words of a range's cells, as they lie among those of all cells.
use Rattle.std.proofs.Common.{◌≡◌, ℕ, zero, suc, ◌+◌, ◌-◌, ◌*◌, ◌==◌, List, [], ◌∷◌, length, drop, get_or, slice_get, Some, None}
use Rattle.std.proofs.Common.{Bool, true, false, ◌||◌, cond, IsTrue, refl, ◌∙◌, ap, arith}
use Rattle.std.proofs.lemmas.Option.{slice_get-get_or}
use Rattle.sheet_refs.specs.Cells.{Corners, IsOrdered}
use Rattle.sheet_refs.specs.declared.sizes.Sizes.{Sizes}
use Rattle.sheet_refs.specs.Sizes.{is_inside, cell_count, place_of}
use Rattle.sheet_refs.proofs.Places.{inside_bounds, place-lt}
use Rattle.formula_eval.specs.declared.inputs.Block.{Block}
use Rattle.formula_eval.specs.Blocks.{IsInRectangle, HoldsBlock}
use Rattle.sheet_model.specs.Words.{known_code, known_codes}

dropped : (words : List ℕ) (n k : ℕ) → slice_get (drop n words) k ≡ slice_get words (n + k)
dropped words zero k = let none : 0 + k ≡ k = omega arith in rw none refl
dropped [] (suc n) k = refl
dropped (word ∷ words) (suc n) k = let one : suc n + k ≡ suc (n + k) = omega arith in rw one (dropped words n k)

code_is : (here word : ℕ) → known_code here ≡ Some word → here ≡ word
code_is here word = by_tests (here == 5) (here == 6)
  where
    by_tests : (p q : Bool) → cond (p || q) None (Some here) ≡ Some word → here ≡ word
    by_tests true q is = absurd (cc)
    by_tests false true is = absurd (cc)
    by_tests false false is = cc

pub head_inside : (sizes : Sizes) (range : Corners) → IsOrdered range.head range.tail → IsInRectangle sizes range → IsTrue (is_inside sizes range.head)
head_inside sizes range ordered inside =
    inside range.head (let h = ordered in record { row_from = omega arith; row_to = h.rows; col_from = omega arith; col_to = h.cols })

pub holds_words : (sizes : Sizes) (words : List ℕ) (range : Corners) (head : ℕ) (block : Block) → length words ≡ cell_count sizes
    → IsOrdered range.head range.tail → IsInRectangle sizes range → head ≡ place_of sizes range.head
    → block.words.now ≡ drop head words → block.step ≡ sizes.cols → HoldsBlock (known_codes sizes words) range block
holds_words sizes words range head block count ordered inside is_head are is_step = record {
  held = λ cell word in_range known.
      let at = place_of sizes cell in
      let below = place-lt sizes cell (inside cell in_range) in
      let bounds = inside_bounds sizes range.head (head_inside sizes range ordered inside) in
      let from_row = bounds.row_from in
      let from_col = bounds.col_from in
      let here_row = in_range.row_from in
      let here_col = in_range.col_from in
      let down : cell.row - 1 ≡ (range.head.row - 1) + (cell.row - range.head.row) = omega arith in
      let product : (cell.row - 1) * sizes.cols ≡ ((range.head.row - 1) + (cell.row - range.head.row)) * sizes.cols = ap (λ n. n * sizes.cols) down in
      let place : head + ((cell.row - range.head.row) * sizes.cols + (cell.col - range.head.col)) ≡ at = omega (arith, is_head, product) in
      let stands : slice_get words at ≡ Some word =
      slice_get-get_or words at 0 (omega (arith, below, count)) ∙ ap Some (code_is (get_or words at 0) word known) in
      rw (are, is_step) (dropped words head ((cell.row - range.head.row) * sizes.cols + (cell.col - range.head.col)) ∙ ap (slice_get words) place ∙ stands);
}
