-- The first line of a sheet's text, which may name the edition of its functions.
use Rattle.std.specs.Prelude.{ℕ, List, [], ◌∷◌, length, drop, codes, Option, Some, None, if◌then◌else◌, ◌==◌, ◌&&◌, nat_eq}
use Rattle.std.specs.List.{starts_with}
use Rattle.formula_syntax.specs.declared.edition.Edition.{Edition}
use Rattle.formula_syntax.specs.declared.edition.Edition.TheVariants.{One, Two}
use Rattle.csv_sheet.specs.Records.{without_marks}

-- what stands behind a line that ends here: at the end of the text, or by LF or CR LF
abbrev pub behind_end : List ℕ → Option (List ℕ)
behind_end [] = Some []
behind_end (a ∷ []) = if a == 10 then Some [] else None
behind_end (a ∷ b ∷ rest) = if a == 10 then Some (b ∷ rest) else (if a == 13 && b == 10 then Some rest else None)

-- what stands behind the first line of a text, where this is the line
abbrev pub behind_first : List ℕ → List ℕ → Option (List ℕ)
behind_first line text = if starts_with nat_eq text line then behind_end (drop (length line) text) else None

-- an edition, and the text of the records
pub record HeadedText : Type 0 where
  pub edition : Edition
  pub records : List ℕ

abbrev pub if_named : Edition → Option (List ℕ) → Option HeadedText → Option HeadedText
if_named edition (Some rest) other = Some (record { edition = edition; records = without_marks rest })
if_named edition None other = other

-- a text that begins so names an edition by its first line: one that is there, or another; and every other text has
-- edition 1
abbrev pub unnamed : List ℕ → Option HeadedText
unnamed text = if starts_with nat_eq text (codes "#edition ") then None else Some (record { edition = One; records = text })

abbrev pub heading_of : List ℕ → Option HeadedText
heading_of text = if_named One (behind_first (codes "#edition 1") text) (if_named Two (behind_first (codes "#edition 2") text) (unnamed text))
