-- Tables of labels that many fields are read into.
use Rattle.std.specs.Prelude.{◌≡◌, ℕ, List, [], ◌∷◌}
use Rattle.sheet_model.specs.Fields.{IsTableAfter}

-- what reading the texts, one after the other, does to the table
pub data AddsLabels : List (List ℕ) → List (List ℕ) → List (List ℕ) → Type 0 where
  done : (texts old new : List (List ℕ)) → texts ≡ [] → new ≡ old → AddsLabels texts old new
  next : (texts : List (List ℕ)) (text : List ℕ) (rest old between new : List (List ℕ))
      → texts ≡ text ∷ rest → IsTableAfter text old between → AddsLabels rest between new → AddsLabels texts old new
