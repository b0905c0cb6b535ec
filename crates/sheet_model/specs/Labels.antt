-- Tables of labels: lists of texts in which none stands twice. A label is named by its place, counted from 0.
use Rattle.std.specs.Prelude.{◌≢◌, ℕ, ◌^◌, ◌<◌, List, [], ◌∷◌, ◌++◌, length, slice_index_or, AllPairs, if◌then◌else◌}
use Rattle.std.specs.List.{list_any}
use Rattle.std.specs.Str.{bytes_eq}

-- no text stands twice, and each place is a number of 32 bits
pub record IsTable (labels : List (List ℕ)) : Type 0 where
  pub distinct : AllPairs (λ a b. a ≢ b) labels
  pub few : length labels < 2 ^ 32

-- the table with a text, which is added at the end where it isn't there
abbrev pub with_label : List (List ℕ) → List ℕ → List (List ℕ)
with_label labels text = if list_any (bytes_eq text) labels then labels else labels ++ text ∷ []

-- the text at a place of the table
abbrev pub label_text : List (List ℕ) → ℕ → List ℕ
label_text labels place = slice_index_or labels place []
