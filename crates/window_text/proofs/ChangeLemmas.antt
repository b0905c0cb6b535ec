-- The lines of a list of changes, one after the other.
use Rattle.std.proofs.Common.{◌≡◌, ℕ, ◌+◌, ◌<◌, ◌≤◌, List, [], ◌++◌, length, drop, get_or, sym, ◌∙◌, ap}
use Rattle.std.proofs.Math.ListN.{drop_of_length-le}
use Rattle.std.proofs.lemmas.List.{drop_more}
use Rattle.sheet_model.specs.Changes.{ChangeValue}
use Rattle.window_text.specs.Changes.{change_line, changes_text}

-- the lines of the changes from a place on
abbrev pub changes_rest : List (List ℕ) → List ChangeValue → ℕ → List ℕ
changes_rest labels changes place = changes_text labels (drop place changes)

-- go on with the change at that place
pub changes_go_on : (labels : List (List ℕ)) (changes : List ChangeValue) (place : ℕ) (change : ChangeValue)
    → place < length changes → change ≡ get_or changes place change
    → changes_rest labels changes place ≡ change_line labels change ++ changes_rest labels changes (place + 1)
changes_go_on labels changes place change within here =
    ap (changes_text labels) (drop_more changes place change within) ∙ ap (λ (c : ChangeValue). change_line labels c
    ++ changes_rest labels changes (place + 1)) (sym here)

-- until no change is left
pub changes_end : (labels : List (List ℕ)) (changes : List ChangeValue) (place : ℕ) → length changes ≤ place → changes_rest labels changes place ≡ []
changes_end labels changes place past = ap (changes_text labels) (drop_of_length-le changes past)
