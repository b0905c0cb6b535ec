-- The mark of a cell before and after marks are set.
use Rattle.std.proofs.Common.{◌≡◌, ◌≢◌, ◌≤◌, ◌⊎◌, inl, inr, ℕ, Bool, true, false, cond, List, [], ◌∷◌, ◌++◌}
use Rattle.std.proofs.Common.{length, get_or, set, IsTrue, IsFalse, Contains, arith, refl, sym, ap, subst, ◌∙◌}
use Rattle.std.specs.Prelude.{nat_lt}
use Rattle.std.proofs.lemmas.Bool.Decides.{nat_tests}
use Rattle.std.proofs.lemmas.List.{get_or-set_same, get_or-set_other, length-set}
use Rattle.std.proofs.lemmas.List.Elements.{Contains-append_left, Contains-append_right, Contains-append_cases}
use Rattle.sheet_refs.specs.Cells.{Position}
use Rattle.sheet_refs.specs.Sizes.{is_inside, cell_count, place_of}
use Rattle.sheet_refs.specs.declared.sizes.Sizes.{Sizes}
use Rattle.sheet_refs.proofs.Places.{place-lt, place_same}
use Rattle.sheet_model.proofs.EditLemmas.{one_or_two}
use Rattle.sheet_model.proofs.ListMembers.{first_member, only_member}
use Rattle.play_machine.specs.Machine.{mark_of}
use Rattle.play_machine.specs.Marking.{SetsMarks}

-- a number as a mark
pub marked_from : (mark : ℕ) → mark ≢ 0 → IsTrue (nat_lt 0 mark)
marked_from mark some = grind (arith, nat_tests, some)

pub mark_some : (mark : ℕ) → IsTrue (nat_lt 0 mark) → 1 ≤ mark
mark_some mark some = grind (arith, nat_tests, some)

pub unmarked_from : (mark : ℕ) → mark ≡ 0 → IsFalse (nat_lt 0 mark)
unmarked_from mark none = grind (arith, nat_tests, none)

pub not_both : (b : Bool) → IsTrue b → IsFalse b → ⊥
not_both b is other = absurd (conflict (sym is ∙ other))
  where
    conflict : true ≡ false → ⊥
    conflict h = cc

-- the mark of a cell of the rectangle is what stands at its place, and that of any other is 0
pub mark_inside : (sizes : Sizes) (marks : List ℕ) (cell : Position) → IsTrue (is_inside sizes cell)
    → mark_of sizes marks cell ≡ get_or marks (place_of sizes cell) 0
mark_inside sizes marks cell inside = ap (λ b. cond b (get_or marks (place_of sizes cell) 0) 0) inside

pub mark_outside : (sizes : Sizes) (marks : List ℕ) (cell : Position) → IsFalse (is_inside sizes cell) → mark_of sizes marks cell ≡ 0
mark_outside sizes marks cell outside = ap (λ b. cond b (get_or marks (place_of sizes cell) 0) 0) outside

-- a mark that is set is that of its cell
pub set_here : (sizes : Sizes) (marks : List ℕ) (cell : Position) (number : ℕ) → length marks ≡ cell_count sizes
    → IsTrue (is_inside sizes cell) → mark_of sizes (set marks (place_of sizes cell) number) cell ≡ number
set_here sizes marks cell number count inside =
    mark_inside sizes (set marks (place_of sizes cell) number) cell inside
    ∙ get_or-set_same marks (place_of sizes cell) number 0 (let below = place-lt sizes cell inside in omega (arith, below, count))

-- and of no other
pub set_elsewhere : (sizes : Sizes) (marks : List ℕ) (cell other : Position) (number : ℕ)
    → IsTrue (is_inside sizes cell) → other ≢ cell
    → mark_of sizes (set marks (place_of sizes cell) number) other ≡ mark_of sizes marks other
set_elsewhere sizes marks cell other number inside differs = go (is_inside sizes other) refl
  where
    go : (b : Bool) → is_inside sizes other ≡ b → mark_of sizes (set marks (place_of sizes cell) number) other ≡ mark_of sizes marks other
    go true there =
        mark_inside sizes (set marks (place_of sizes cell) number) other there
        ∙ get_or-set_other marks (place_of sizes cell) (place_of sizes other) number 0 (λ same. differs (place_same sizes other cell there inside same))
        ∙ sym (mark_inside sizes marks other there)
    go false outside = mark_outside sizes (set marks (place_of sizes cell) number) other outside ∙ sym (mark_outside sizes marks other outside)

-- no cell is marked by none
pub marks_none : (sizes : Sizes) (number : ℕ) (marks : List ℕ) → SetsMarks sizes [] number marks marks
marks_none sizes number marks = record {
  count = refl;
  listed = λ cell inside there. absurd (none cell there);
  others = λ cell none. refl;
}
  where
    none : (cell : Position) → Contains [] cell → ⊥
    none cell there = absurd (omega (arith, there))

-- one cell is marked, where it is in the rectangle
module _ (sizes : Sizes) (cell : Position) (number : ℕ) (old : List ℕ) where
  pub marks_one : length old ≡ cell_count sizes → IsTrue (is_inside sizes cell) → SetsMarks sizes (cell ∷ []) number old (set old (place_of sizes cell) number)
  marks_one count inside = record {
    count = length-set old (place_of sizes cell) number;
    listed = λ c there listed. subst (λ (p : Position). mark_of sizes (set old (place_of sizes cell) number) p ≡ number)
        (sym (only_member cell c listed)) (set_here sizes old cell number count inside);
    others =
        λ c not. set_elsewhere sizes old cell c number inside
        (λ same. not (subst (λ (p : Position). Contains (cell ∷ []) p) (sym same) (first_member cell [])));
  }

  pub marks_skip : IsFalse (is_inside sizes cell) → SetsMarks sizes (cell ∷ []) number old old
  marks_skip outside = record {
    count = refl;
    listed =
        λ c there listed. absurd (not_both (is_inside sizes cell) (subst (λ (p : Position). IsTrue (is_inside sizes p))
        (only_member cell c listed) there) outside);
    others = λ c not. refl;
  }

-- one cell more
pub marks_more : (sizes : Sizes) (done : List Position) (cell : Position) (number : ℕ) (old mid new : List ℕ)
    → SetsMarks sizes done number old mid → SetsMarks sizes (cell ∷ []) number mid new
    → SetsMarks sizes (done ++ cell ∷ []) number old new
marks_more sizes done cell number old mid new first second = record {
  count = second.count ∙ first.count;
  listed = λ c there listed. listed_at c there listed (one_or_two c cell);
  others = λ c not. second.others c (λ last. not (Contains-append_right done (cell ∷ []) c last))
      ∙ first.others c (λ before. not (Contains-append_left done (cell ∷ []) c before));
}
  where
    listed_at : (c : Position) → IsTrue (is_inside sizes c) → Contains (done ++ cell ∷ []) c → (c ≡ cell) ⊎ (c ≢ cell) → mark_of sizes new c ≡ number
    listed_at c there listed (inl same) = second.listed c there (subst (λ (p : Position). Contains (cell ∷ []) p) (sym same) (first_member cell []))
    listed_at c there listed (inr differs) = second.others c (λ last. differs (only_member cell c last))
        ∙ first.listed c there (before (Contains-append_cases done (cell ∷ []) c listed))
      where
        before : Contains done c ⊎ Contains (cell ∷ []) c → Contains done c
        before (inl there) = there
        before (inr last) = absurd (differs (only_member cell c last))
