-- What rectangles that have others have in common with a query.
use Rattle.std.proofs.Common.{List, [], ◌∷◌, ◌++◌, inl, inr, subst, arith}
use Rattle.std.proofs.lemmas.List.Elements.{Contains-push_cases}
use Rattle.range_index.specs.Entries.{Entry}
use Rattle.sheet_refs.specs.Cells.{Corners}
use Rattle.sheet_refs.specs.Rectangles.{Overlap}
use Rattle.tree_index.specs.Rectangles.{Covers, CoverAll}

pub covers_self : (a : Corners) → Covers a a
covers_self a = record { top = omega arith; left = omega arith; bottom = omega arith; right = omega arith }

pub covers_more : (a b c : Corners) → Covers a b → Covers b c → Covers a c
covers_more a b c ab bc = record {
  top = omega (arith, ab.top, bc.top);
  left = omega (arith, ab.left, bc.left);
  bottom = omega (arith, ab.bottom, bc.bottom);
  right = omega (arith, ab.right, bc.right);
}

-- where a range overlaps a query, a rectangle that has it does
pub overlaps_more : (outer inner query : Corners) → Covers outer inner → Overlap inner query → Overlap outer query
overlaps_more outer inner query covers shares =
    let first = shares.1.first in (
      shares.0,
      record {
        first = record {
          row_from = omega (arith, covers.top, first.row_from);
          row_to = omega (arith, covers.bottom, first.row_to);
          col_from = omega (arith, covers.left, first.col_from);
          col_to = omega (arith, covers.right, first.col_to);
        };
        second = shares.1.second;
      },
    )

-- a rectangle that has another and one range more
pub covers_pushed : (entries : List Entry) (entry : Entry) (old new : Corners) → Covers new old → Covers new entry.range
    → CoverAll old entries → CoverAll new (entries ++ entry ∷ [])
covers_pushed entries entry old new more has covers e listed = elim (Contains-push_cases entries entry e listed) [
  | inl before ↦ covers_more new old e.range more (covers e before)
  | inr same ↦ subst (λ (x : Entry). Covers new x.range) same has
]
