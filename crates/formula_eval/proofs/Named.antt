-- Which cells a formula names.
use Rattle.std.proofs.Common.{◌≡◌, ℕ, zero, suc, List, [], ◌∷◌, length, slice_get, Some, refl, sym, arith}
use Rattle.std.specs.List.{Contains}
use Rattle.std.proofs.lemmas.Option.{slice_get_read}
use Rattle.sheet_refs.specs.Cells.{Position, IsIn}
use Rattle.sheet_refs.specs.Ends.{Reference, corners_of}
use Rattle.formula_syntax.specs.Tree.{references_of}
use Rattle.formula_eval.specs.Laws.{ReferencedByRanges, KnownWhereAllAreHeld}
use Rattle.formula_eval.specs.Meaning.{IsNamedBy, IsReferenced}

contained : (references : List Reference) (place : ℕ) (r : Reference) → slice_get references place ≡ Some r → Contains references r
contained [] place r at = absurd (cc)
contained (x ∷ xs) zero r at = let same : x ≡ r = cc in (0, omega arith, same)
contained (x ∷ xs) (suc place) r at = let (k, below, is) = contained xs place r at in (suc k, omega (arith, below), is)

named_in : (references : List Reference) (cell : Position) → ((r : Reference) × Contains references r × IsIn cell (corners_of r)) → IsNamedBy references cell
named_in references cell (r, (k, below, is), inside) = record {
  through = r;
  place = k;
  listed = slice_get_read references (length references) k r refl below (sym is);
  inside = inside;
}

pub referenced_law : ReferencedByRanges
referenced_law tree cell = (
  (λ (named : IsReferenced tree cell). (
    named.through,
    contained (references_of tree) named.place named.through named.listed,
    named.inside,
  )),
  named_in (references_of tree) cell,
)

pub known_law : KnownWhereAllAreHeld
known_law sizes codes tree held cell named inside = held cell inside
