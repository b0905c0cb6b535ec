-- Only cells that were touched are marked.
use Rattle.std.proofs.Common.{◌≡◌, ◌⊎◌, inl, inr, ℕ, zero, suc, ◌≢◌, List, ◌++◌, length, replicate, Contains, IsTrue, arith, refl, sym}
use Rattle.std.proofs.Common.{ap, subst, ◌∙◌}
use Rattle.std.specs.Prelude.{nat_lt, Option, Some, Vec, IfSome}
use Rattle.std.specs.declared.alloc.Global.{Global}
use Rattle.std.proofs.lemmas.Option.{IfSome_then}
use Rattle.std.proofs.lemmas.List.Elements.{Contains-append_left, Contains-append_right}
use Rattle.sheet_refs.specs.Cells.{Position}
use Rattle.sheet_refs.specs.Sizes.{is_inside, cell_count}
use Rattle.sheet_refs.specs.declared.sizes.Sizes.{Sizes}
use Rattle.sheet_model.specs.Sheets.{SheetValue}
use Rattle.sheet_model.proofs.EditLemmas.{one_or_two}
use Rattle.play_machine.specs.Machine.{AreTurns, IsMarked, IsNowhere, IsTurn, mark_of, without_mark}
use Rattle.play_machine.specs.Machine.AreTurns.{none as no_turns, more as more_turns}
use Rattle.play_machine.specs.Machine.IsTurn.{clears_ready, clears_marked, clears_nothing}
use Rattle.play_machine.specs.Marking.{AddsCells, OnlyThese, SetsMarks}
use Rattle.play_machine.proofs.MarkLemmas.{mark_some, marked_from, set_elsewhere, set_here}
use Rattle.play_machine.proofs.TurnLemmas.{turns_length, zero_marks}

-- a mark that is 0 is none
no_mark : (mark : ℕ) → mark ≡ 0 → IsTrue (nat_lt 0 mark) → ⊥
no_mark mark none marked = (let some = mark_some mark marked in absurd (omega (arith, some, none)))

module _ (sizes : Sizes) where
  -- where no cell is marked, none is but for some of any list
  pub nowhere_only : (marks : List ℕ) (cells : List Position) → IsNowhere sizes (IsMarked sizes marks) → OnlyThese sizes marks cells
  nowhere_only marks cells nowhere cell inside not = unmarked (mark_of sizes marks cell) (nowhere cell inside)
    where
      unmarked : (mark : ℕ) → ¬ IsTrue (nat_lt 0 mark) → mark ≡ 0
      unmarked zero none = refl
      unmarked (suc n) none = absurd (none (marked_from (suc n) (λ is. absurd (omega (arith, is)))))

  -- marks that are set add their cells
  pub more_touched : (cells : List Position) (number : ℕ) (old new : List ℕ) → SetsMarks sizes cells number old new
      → (before : List Position) → OnlyThese sizes old before → OnlyThese sizes new (before ++ cells)
  more_touched cells number old new sets before only cell inside not =
      sets.others cell (λ there. not (Contains-append_right before cells cell there))
      ∙ only cell inside (λ there. not (Contains-append_left before cells cell there))

  pub added : (was is : Option (Vec Position Global)) (cells : List Position) (number : ℕ) (old new : List ℕ)
      → IfSome was (λ list. OnlyThese sizes old list.items) → AddsCells was cells is → SetsMarks sizes cells number old new
      → IfSome is (λ list. OnlyThese sizes new list.items)
  added was is cells number old new only adds sets = IfSome_then is adds more
    where
      more : (list : Vec Position Global) → (before : Vec Position Global) × (was ≡ Some before) × (list.items ≡ before.items ++ cells)
          → OnlyThese sizes new list.items
      more list (before, was_is, items) =
          let these : OnlyThese sizes old before.items = subst (λ o. IfSome o (λ l. OnlyThese sizes old l.items)) was_is only in
          subst (OnlyThese sizes new) (sym items) (more_touched cells number old new sets before.items these)

  -- where the cells that may be marked lose their marks, none is left
  pub all_cleared : (cells : List Position) (old new : List ℕ) → length old ≡ cell_count sizes → SetsMarks sizes cells 0 old new
      → OnlyThese sizes old cells → new ≡ replicate (length old) 0
  all_cleared cells old new count sets only = zero_marks sizes new (sets.count ∙ count) nowhere ∙ ap (λ n. replicate n 0) sets.count
    where
      nowhere : IsNowhere sizes (IsMarked sizes new)
      nowhere cell inside marked =
          let not : ¬ Contains cells cell = λ there. no_mark (mark_of sizes new cell) (sets.listed cell inside there) marked in
          no_mark (mark_of sizes new cell) (sets.others cell not ∙ only cell inside not) marked

  -- a mark that is taken away leaves no other
  pub one_cleared : (marks : List ℕ) (cells : List Position) (cell : Position) → length marks ≡ cell_count sizes → IsTrue (is_inside sizes cell)
      → OnlyThese sizes marks cells → OnlyThese sizes (without_mark sizes marks cell) cells
  one_cleared marks cells cell count there only other inside not = by (one_or_two other cell)
    where
      by : (other ≡ cell) ⊎ (other ≢ cell) → mark_of sizes (without_mark sizes marks cell) other ≡ 0
      by (inl same) = subst (λ (c : Position). mark_of sizes (without_mark sizes marks cell) c ≡ 0) (sym same) (set_here sizes marks cell 0 count there)
      by (inr differs) = set_elsewhere sizes marks cell other 0 there differs ∙ only other inside not

-- turns mark no cell
pub turn_only : (sheet : SheetValue) (cells : List Position) (old new : List ℕ) → length old ≡ cell_count sheet.sizes → IsTurn sheet old new
    → OnlyThese sheet.sizes old cells → OnlyThese sheet.sizes new cells
turn_only sheet cells old new count (clears_ready cell first is) only =
    subst (λ ms. OnlyThese sheet.sizes ms cells) (sym is) (one_cleared sheet.sizes old cells cell count first.inside only)
turn_only sheet cells old new count (clears_marked cell none first is) only =
    subst (λ ms. OnlyThese sheet.sizes ms cells) (sym is) (one_cleared sheet.sizes old cells cell count first.inside only)
turn_only sheet cells old new count (clears_nothing nowhere is) only = subst (λ ms. OnlyThese sheet.sizes ms cells) (sym is) only

pub turns_only : (sheet : SheetValue) (cells : List Position) (turns : ℕ) (old new : List ℕ) → length old ≡ cell_count sheet.sizes
    → AreTurns sheet turns old new → OnlyThese sheet.sizes old cells → OnlyThese sheet.sizes new cells
turns_only sheet cells _ old _ count (no_turns marks) only = only
turns_only sheet cells _ old _ count (more_turns turns next start mid new before turn is) only =
    turn_only sheet cells mid new (turns_length sheet turns start mid before ∙ count) turn (turns_only sheet cells turns start mid count before only)
