-- A graph to which the references of changes are given, one change after the other.
use Rattle.std.proofs.Common.{◌≡◌, ◌+◌, ◌<◌, ℕ, zero, suc, List, [], ◌∷◌, ◌++◌, length, get_or, take, IsTrue, arith, refl, sym, ap, ◌∙◌, subst}
use Rattle.sheet_refs.specs.Cells.{Corners}
use Rattle.sheet_refs.specs.Sizes.{is_inside}
use Rattle.graph_walk.specs.Graphs.{Pair, Replaces}
use Rattle.sheet_model.specs.Changes.{ChangeValue, after_change}
use Rattle.sheet_model.specs.Edits.{EditValue, AreInSheet, after_edit}
use Rattle.sheet_model.specs.Sheets.{SheetValue}
use Rattle.sheet_model.proofs.ChangeLemmas.{change-filled}
use Rattle.sheet_model.proofs.EditLemmas.{edit-more, edit-sizes}
use Rattle.sheet_model.proofs.ListLemmas.{taken_more}
use Rattle.edit_log.specs.Books.{AreRefsOf, HaveRefs}
use Rattle.edit_log.specs.Pairs.{ArePairsOf, IsFilled}
use Rattle.edit_log.proofs.TouchLemmas.{pairs_after}

-- where the pairs were those of a sheet, they are those of the sheet after the first changes
abbrev pub IsReplaced : EditValue → List Pair → ℕ → List Pair → Type 0
IsReplaced edit old count new =
    (sheet : SheetValue) → IsFilled sheet → AreInSheet sheet edit → ArePairsOf sheet old → ArePairsOf (after_edit sheet (take count edit)) new

-- an edit leaves something in each cell
pub edit-filled : (sheet : SheetValue) (edit : EditValue) → IsFilled sheet → IsFilled (after_edit sheet edit)
edit-filled sheet [] filled = filled
edit-filled sheet (change ∷ changes) filled = edit-filled (after_change sheet change) changes (change-filled sheet change filled)

pub replaced_more : (edit : EditValue) (first old new : List Pair) (k : ℕ) (change : ChangeValue) (refs : List Corners)
    → k < length edit → change ≡ get_or edit k change → AreRefsOf change refs
    → IsReplaced edit first k old → Replaces old new change.cell refs → IsReplaced edit first (k + 1) new
replaced_more edit first old new k change refs below at once so_far replaced sheet filled inside are =
    let before : SheetValue = after_edit sheet (take k edit) in
    let one_in : IsTrue (is_inside sheet.sizes change.cell) =
    subst (λ (c : ChangeValue). IsTrue (is_inside sheet.sizes c.cell)) (sym at) (inside k change below) in
    let now_in : IsTrue (is_inside before.sizes change.cell) = subst (λ s. IsTrue (is_inside s change.cell)) (sym (edit-sizes sheet (take k edit))) one_in in
    let made : after_edit sheet (take (k + 1) edit) ≡ after_change before change =
    ap (after_edit sheet) (taken_more edit k change below at) ∙ edit-more sheet (take k edit) change in
    subst (λ (s : SheetValue). ArePairsOf s new) (sym made)
    (pairs_after before change old new refs (edit-filled sheet (take k edit) filled) now_in once (so_far sheet filled inside are) replaced)

-- the references of one more change
pub refs_push : (edit : EditValue) (refs : List (List Corners)) (change : ChangeValue) (ranges : List Corners)
    → HaveRefs edit refs → AreRefsOf change ranges → HaveRefs (edit ++ change ∷ []) (refs ++ ranges ∷ [])
refs_push [] [] change ranges all one = (one, tt)
refs_push [] (r ∷ rs) change ranges all one = absurd all
refs_push (c ∷ cs) [] change ranges all one = absurd all
refs_push (c ∷ cs) (r ∷ rs) change ranges all one = (all.0, refs_push cs rs change ranges all.1 one)

pub refs_more : (edit : EditValue) (refs : List (List Corners)) (k : ℕ) (change : ChangeValue) (ranges : List Corners)
    → k < length edit → change ≡ get_or edit k change → HaveRefs (take k edit) refs → AreRefsOf change ranges
    → HaveRefs (take (k + 1) edit) (refs ++ ranges ∷ [])
refs_more edit refs k change ranges below at all one =
    subst (λ (cs : EditValue). HaveRefs cs (refs ++ ranges ∷ [])) (sym (taken_more edit k change below at)) (refs_push (take k edit) refs change ranges all one)

-- there are as many as changes, and those at a place are those of the change there
pub refs_length : (edit : EditValue) (refs : List (List Corners)) → HaveRefs edit refs → length refs ≡ length edit
refs_length [] [] all = refl
refs_length [] (r ∷ rs) all = absurd all
refs_length (c ∷ cs) [] all = absurd all
refs_length (c ∷ cs) (r ∷ rs) all = ap suc (refs_length cs rs all.1)

pub refs_at : (edit : EditValue) (refs : List (List Corners)) (k : ℕ) (change : ChangeValue) (ranges : List Corners)
    → HaveRefs edit refs → k < length edit → change ≡ get_or edit k change → ranges ≡ get_or refs k ranges
    → AreRefsOf change ranges
refs_at [] refs k change ranges all below at there = absurd (omega (arith, below))
refs_at (c ∷ cs) [] k change ranges all below at there = absurd all
refs_at (c ∷ cs) (r ∷ rs) zero change ranges all below at there =
    subst (λ (x : ChangeValue). AreRefsOf x ranges) (sym at) (subst (AreRefsOf c) (sym there) all.0)
refs_at (c ∷ cs) (r ∷ rs) (suc k) change ranges all below at there = refs_at cs rs k change ranges all.1 (omega (arith, below)) at there
