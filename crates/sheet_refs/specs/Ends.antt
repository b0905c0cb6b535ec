-- References as they are written: ends with fixed parts, one alone or two joined.
use Rattle.std.specs.Prelude.{◌≡◌, ℕ, List, ◌∷◌, [], ◌++◌, Bool, true, false, min, max, nat_le, if◌then◌else◌, ◌==◌, refl}
use Rattle.std.specs.Coded.{Coded, code_by, coded×, coded_ℕ, coded_bool}
use Rattle.std.specs.Fmt.{decimal}
use Rattle.sheet_refs.specs.Cells.{Position, Corners, IsNamed, IsOrdered}
use Rattle.sheet_refs.specs.Names.{IsColumnName, IsRowName, last_letters}

-- an end of a reference: a cell, and which of its parts stand behind a `$`
pub record Anchor : Type 0 where
  pub cell : Position
  pub col_fixed : Bool
  pub row_fixed : Bool

-- a reference: its top left end, its bottom right end, and whether it is written as one end
pub record Reference : Type 0 where
  pub head : Anchor
  pub tail : Anchor
  pub single : Bool

-- what every reference keeps: its ends have names and are in order, and are equal where one is written
pub record IsReference (head tail : Anchor) (single : Bool) : Type 0 where
  pub head_named : IsNamed head.cell.row head.cell.col
  pub tail_named : IsNamed tail.cell.row tail.cell.col
  pub ordered : IsOrdered head.cell tail.cell
  pub one_end : single ≡ true → head ≡ tail

-- the reference that is written as one end
abbrev pub one_end : Anchor → Reference
one_end a = record { head = a; tail = a; single = true }

-- the upper end of two: the smaller row and the smaller column, each with its `$`; of equal ones the first
abbrev pub lesser : Anchor → Anchor → Anchor
lesser a b = record {
  cell = record { row = min a.cell.row b.cell.row; col = min a.cell.col b.cell.col };
  col_fixed = if nat_le a.cell.col b.cell.col then a.col_fixed else b.col_fixed;
  row_fixed = if nat_le a.cell.row b.cell.row then a.row_fixed else b.row_fixed;
}

-- the lower end of two: the greater row and the greater column, each with its `$`; of equal ones the second
abbrev pub greater : Anchor → Anchor → Anchor
greater a b = record {
  cell = record { row = max a.cell.row b.cell.row; col = max a.cell.col b.cell.col };
  col_fixed = if nat_le a.cell.col b.cell.col then b.col_fixed else a.col_fixed;
  row_fixed = if nat_le a.cell.row b.cell.row then b.row_fixed else a.row_fixed;
}

-- the reference that is written as two ends, in any order
abbrev pub two_ends : Anchor → Anchor → Reference
two_ends a b = record { head = lesser a b; tail = greater a b; single = false }

-- the corners of the range that a reference names
abbrev pub corners_of : Reference → Corners
corners_of r = record { head = r.head.cell; tail = r.tail.cell }

-- `$` before a fixed part
abbrev pub dollar : Bool → List ℕ
dollar true = 36 ∷ []
dollar false = []

-- the name of an end: a column and a row, each behind a `$` where it is fixed
pub record IsAnchorName (text : List ℕ) (end : Anchor) : Type 0 where
  pub letters : List ℕ
  pub digits : List ℕ
  pub text_is : text ≡ dollar end.col_fixed ++ (letters ++ (dollar end.row_fixed ++ digits))
  pub column : IsColumnName letters end.cell.col
  pub row : IsRowName digits end.cell.row

-- an end within brackets stands behind a dot
abbrev pub IsEndName : Bool → List ℕ → Anchor → Type 0
IsEndName false text end = IsAnchorName text end
IsEndName true text end = (name : List ℕ) × (text ≡ 46 ∷ name) × IsAnchorName name end

-- the spelling of a reference, plain or within brackets: an end, or two joined by a colon
pub data IsReferenceName : Bool → List ℕ → Reference → Type 0 where
  alone : (dotted : Bool) (text : List ℕ) (a : Anchor) → IsEndName dotted text a → IsReferenceName dotted text (one_end a)
  joined : (dotted : Bool) (text first second : List ℕ) (a b : Anchor) → text ≡ first ++ 58 ∷ second
      → IsEndName dotted first a → IsEndName dotted second b → IsReferenceName dotted text (two_ends a b)

-- the first byte, where it is a `$`, and what stands behind it
abbrev pub has_dollar : List ℕ → Bool
has_dollar [] = false
has_dollar (b ∷ bs) = b == 36

abbrev pub past_dollar : List ℕ → List ℕ
past_dollar [] = []
past_dollar (b ∷ bs) = if b == 36 then bs else (b ∷ bs)

-- how an end is printed
abbrev pub anchor_text : Anchor → List ℕ
anchor_text a = dollar a.col_fixed ++ (last_letters 3 a.cell.col ++ (dollar a.row_fixed ++ decimal a.cell.row))

-- how a reference is printed: one end where it is written as one, else two joined by a colon
abbrev pub reference_text : Reference → List ℕ
reference_text r = if r.single then anchor_text r.head else (anchor_text r.head ++ 58 ∷ anchor_text r.tail)

-- a code of ends, as a tuple
abbrev pub anchor_code : Coded Anchor
anchor_code =
    code_by ((ℕ × ℕ) × (Bool × Bool)) (coded× (coded× coded_ℕ coded_ℕ) (coded× coded_bool coded_bool))
    (λ a. ((a.cell.row, a.cell.col), (a.col_fixed, a.row_fixed)))
    (λ p. record { cell = record { row = p.0.0; col = p.0.1 }; col_fixed = p.1.0; row_fixed = p.1.1 }) (λ _. refl)

-- a code of references, as a tuple
abbrev pub reference_code : Coded Reference
reference_code =
    code_by (Anchor × (Anchor × Bool)) (coded× anchor_code (coded× anchor_code coded_bool))
    (λ r. (r.head, (r.tail, r.single))) (λ p. record { head = p.0; tail = p.1.0; single = p.1.1 }) (λ _. refl)
