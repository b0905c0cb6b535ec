-- Tables of texts: lists of texts in which none stands twice. A text is named by its place, counted from 0.
use Rattle.std.specs.Prelude.{◌≡◌, ℕ, List, [], ◌∷◌, ◌++◌, Some, slice_get, if◌then◌else◌}
use Rattle.std.specs.List.{list_any}
use Rattle.std.specs.Str.{bytes_eq}

-- a text stands at no place
abbrev pub IsAbsent : List (List ℕ) → List ℕ → Type 0
IsAbsent texts text = (place : ℕ) → slice_get texts place ≡ Some text → ⊥

-- a text stands at one place
abbrev pub AreDistinct : List (List ℕ) → Type 0
AreDistinct texts = (one other : ℕ) (text : List ℕ) → slice_get texts one ≡ Some text → slice_get texts other ≡ Some text → one ≡ other

-- the table with a text, which is added at the end where it isn't there
abbrev pub with_text : List (List ℕ) → List ℕ → List (List ℕ)
with_text texts text = if list_any (bytes_eq text) texts then texts else texts ++ text ∷ []
