-- Tables of labels with a text more.
use Rattle.std.proofs.Common.{◌≡◌, ◌≢◌, ℕ, zero, suc, ◌+◌, ◌-◌, ◌^◌, ◌<◌, ◌≤◌, Bool, true, false, List, [], ◌∷◌, ◌++◌}
use Rattle.std.proofs.Common.{length, get_or, Some, refl, sym, ap, ◌∙◌, arith, true≢false, length-append}
use Rattle.std.specs.Prelude.{slice_get, AllPairs, if◌then◌else◌}
use Rattle.std.specs.List.{list_any}
use Rattle.std.specs.Str.{bytes_eq}
use Rattle.std.proofs.Math.ListN.{get_or-append}
use Rattle.std.proofs.lemmas.List.Folds.{list_any_at}
use Rattle.std.proofs.lemmas.Option.{slice_get-get_or, slice_get_within, get_or_from_slice_get}
use Rattle.std.proofs.lemmas.Slice.Eq.{bytes_eq-Decides}
use Rattle.sheet_refs.proofs.Tiles.{Across, AllPairs-append}
use Rattle.sheet_model.specs.Labels.{IsTable, with_label}

-- a table grows by at most one text
pub length-with_label : (labels : List (List ℕ)) (text : List ℕ) → (length labels ≤ length (with_label labels text))
    × (length (with_label labels text) ≤ length labels + 1)
length-with_label labels text = by (list_any (bytes_eq text) labels)
  where
    by : (b : Bool) → (length labels ≤ length (if b then labels else labels ++ text ∷ []))
        × (length (if b then labels else labels ++ text ∷ []) ≤ length labels + 1)
    by true = (omega arith, omega arith)
    by false = rw (length-append labels (text ∷ [])) (omega arith, omega arith)

-- a text that isn't there is apart from each that is
absent_apart : (text : List ℕ) (labels : List (List ℕ)) → list_any (bytes_eq text) labels ≡ false → (i : ℕ) (d : List ℕ)
    → i < length labels → get_or labels i d ≢ text
absent_apart text labels absent i d within same =
    true≢false
    (sym (list_any_at (bytes_eq text) labels i d within ((bytes_eq-Decides text (get_or labels i d)).1 (sym same)))
    ∙ absent)

-- a table stays one with a text more
pub distinct-with_label : (labels : List (List ℕ)) (text : List ℕ) → AllPairs (λ a b. a ≢ b) labels → AllPairs (λ a b. a ≢ b) (with_label labels text)
distinct-with_label labels text distinct = by (list_any (bytes_eq text) labels) refl
  where
    apart : list_any (bytes_eq text) labels ≡ false → Across (λ x y. x ≢ y) labels (text ∷ [])
    apart e i zero d left right = absent_apart text labels e i d left
    apart e i (suc j) d left right = absurd (omega (arith, right))

    by : (b : Bool) → list_any (bytes_eq text) labels ≡ b → AllPairs (λ x y. x ≢ y) (if b then labels else labels ++ text ∷ [])
    by true e = distinct
    by false e = AllPairs-append (λ x y. x ≢ y) labels (text ∷ []) distinct (λ i j d before within. absurd (omega (arith, before, within))) (apart e)

pub table-with_label : (labels : List (List ℕ)) (text : List ℕ) → IsTable labels → length labels < 2 ^ 32 - 1 → IsTable (with_label labels text)
table-with_label labels text table room =
    let most = (length-with_label labels text).1 in
    record { distinct = distinct-with_label labels text table.distinct; few = omega (arith, most, room) }

-- a text keeps its place in a table with a text more
pub get-with_label : (labels : List (List ℕ)) (more : List ℕ) (place : ℕ) (text : List ℕ)
    → slice_get labels place ≡ Some text → slice_get (with_label labels more) place ≡ Some text
get-with_label labels more place text at = by (list_any (bytes_eq more) labels)
  where
    by : (b : Bool) → slice_get (if b then labels else labels ++ more ∷ []) place ≡ Some text
    by true = at
    by false =
        let within = slice_get_within labels place text at in
        let longer : place < length (labels ++ more ∷ []) = rw (length-append labels (more ∷ [])) (omega (arith, within)) in
        slice_get-get_or (labels ++ more ∷ []) place text longer
        ∙ ap Some (get_or-append labels (more ∷ []) text place within ∙ get_or_from_slice_get labels place text text at)
