-- What is known of cycles: that cells on one are circular, and that an edit whose formulas refer to nothing that it touches
-- puts none onto one.
use Rattle.std.proofs.Common.{◌≡◌, ◌≢◌, ◌⊎◌, inl, inr, ◌+◌, ◌<◌, ◌≤◌, ℕ, suc, Bool, List, [], ◌∷◌, None, Some, length, slice_get}
use Rattle.std.proofs.Common.{All, IsTrue, Contains, arith, refl, sym, ap, subst, ◌∙◌}
use Rattle.std.specs.Prelude.{Option, IfSome}
use Rattle.sheet_refs.specs.Cells.{Position, Corners, IsIn, span_of}
use Rattle.sheet_refs.specs.Rectangles.{IsAmong, IsNew, Joins, Tile}
use Rattle.sheet_refs.specs.Sizes.{is_inside, place_of}
use Rattle.sheet_refs.specs.declared.sizes.Sizes.{Sizes}
use Rattle.sheet_refs.proofs.Places.{place-lt, place_same}
use Rattle.value_core.specs.Values.{code_of}
use Rattle.graph_walk.specs.Graphs.{Pair, Step, IsOnCycle, SamePairs}
use Rattle.graph_walk.specs.Paths.{IsPath, IsReached}
use Rattle.formula_syntax.proofs.Listings.{once_all}
use Rattle.graph_walk.proofs.PathLemmas.{reached_start, reached_step, reached_within}
use Rattle.sheet_model.specs.Changes.{ChangeValue}
use Rattle.sheet_model.specs.Edits.{EditValue, after_edit}
use Rattle.sheet_model.specs.Sheets.{SheetValue, ContentValue, IsSheet, content_of}
use Rattle.sheet_model.specs.Ranges.{ranges_in}
use Rattle.sheet_model.specs.Values.{AreValues, circular_value, value_of}
use Rattle.sheet_model.specs.declared.entry.Entry.{Entry}
use Rattle.sheet_model.proofs.EditLemmas.{changed_or_not, edit-here, first_or_later, of_each}
use Rattle.sheet_model.proofs.ListMembers.{no_member}
use Rattle.sheet_model.specs.declared.kept_values.KeptValues.{KeptValues}
use Rattle.edit_log.specs.Books.{IsBookOf, IsKeptBook, IsPreparedFor, HaveRefs, PreparedValue}
use Rattle.edit_log.specs.Cycles.{AddsWhereCircular, HoldsCircular, HoldsCycles, Misses, MissesAll, RefersToNone}
use Rattle.edit_log.specs.Kept.{Depends, content-kept, depends-same}
use Rattle.edit_log.specs.Pairs.{ArePairsOf, IsPairOf}
use Rattle.edit_log.specs.Touches.{DependsDirectly, IsChangedBy}
use Rattle.edit_log.proofs.InputLemmas.{circular_on_cycle, depends_step, on_cycle_inside}
use Rattle.edit_log.proofs.TouchLemmas.{book_sheet, book_sizes, in_one_cell, same_book}

-- a set that has the circular cells of a sheet has those on cycles
pub circular_held : (sheet : SheetValue) (pairs : List Pair) (set : List Corners) → IsSheet sheet → ArePairsOf sheet pairs
    → HoldsCircular sheet set → HoldsCycles pairs set
circular_held sheet pairs set is are holds cell on =
    let start = reached_start (Step pairs) (λ from. IsIn from (span_of cell cell)) cell (in_one_cell cell) in
    holds cell (on_cycle_inside sheet pairs are cell on) ((circular_on_cycle sheet pairs are cell is).1 (cell, on, start))

-- what is reached from what is reached
abbrev From : (Position → Position → Type 0) → Position → Position → Type 0
From step a b = IsReached step (λ x. x ≡ a) b

from_path : (step : Position → Position → Type 0) (a b : Position) (cells : List Position) → IsPath step a cells b → From step a b
from_path step a b cells path = record { from = a; starts = refl; cells = cells; path = path }

from_both : (step : Position → Position → Type 0) (a b c : Position) → From step a b → From step b c → From step a c
from_both step a b c first = reached_within step (λ x. x ≡ b) (From step a) (λ x is. subst (From step a) (sym is) first)
    (λ from to one so_far. reached_step step (λ x. x ≡ a) from to so_far one) c

-- an edit of a sheet, after which its own formulas stand in the cells that it changes
module _ (before now : SheetValue) (edit : EditValue) (old new : List Pair) (touched : List Position)
    (was : ArePairsOf before old) (are : ArePairsOf now new)
    (same : (cell : Position) → ¬ IsChangedBy edit cell → content_of now cell ≡ content_of before cell)
    (own : (change : ChangeValue) → Contains edit change → content_of now change.cell ≡ change.content)
    (touches : (cell : Position) → Depends before edit cell → Contains touched cell)
    (none : RefersToNone edit touched) where
  -- what follows a changed cell by the new steps is touched
  follows_touched : (a b : Position) → IsChangedBy edit b → From (Step new) b a → Contains touched a
  follows_touched a b changed follows =
      touches a (depends-same now before edit same a
      (reached_within (Step new) (λ x. x ≡ b) (Depends now edit)
      (λ x is. reached_start (DependsDirectly now) (IsChangedBy edit) x (subst (IsChangedBy edit) (sym is) changed))
      (λ from to one so_far. reached_step (DependsDirectly now) (IsChangedBy edit) from to so_far ((depends_step now new from to are).1 one))
      a follows))

  -- a step from a cell back to which its end leads was there before
  step_kept : (a b : Position) → Step new a b → From (Step new) b a → Step old a b
  step_kept a b one closes = by (changed_or_not edit b)
    where
      is_pair : IsPairOf now one.pair
      is_pair = (are one.pair).0 one.listed

      by : ((change : ChangeValue) × Contains edit change × (b ≡ change.cell)) ⊎ ((change : ChangeValue) → Contains edit change → b ≢ change.cell)
          → Step old a b
      by (inl (change, there, at)) =
          let stands : content_of now one.pair.cell ≡ change.content = ap (content_of now) (one.cell_is ∙ at) ∙ own change there in
          let named : Contains (ranges_in change.content) one.pair.range =
          subst (λ (c : ContentValue). Contains (ranges_in c) one.pair.range) stands is_pair in
          absurd (none change one.pair.range a there named (follows_touched a b (change, there, at) closes) one.inside)
      by (inr differs) =
          let kept : content_of now one.pair.cell ≡ content_of before one.pair.cell =
          same one.pair.cell (λ changed. differs changed.0 changed.1 (sym one.cell_is ∙ changed.2)) in
          record {
            pair = one.pair;
            listed = (was one.pair).1 (subst (λ (c : ContentValue). Contains (ranges_in c) one.pair.range) kept is_pair);
            inside = one.inside;
            cell_is = one.cell_is;
          }

  path_kept : (b c : Position) (cells : List Position) → IsPath (Step new) b cells c → From (Step new) c b → IsPath (Step old) b cells c
  path_kept b c [] path closes = path
  path_kept b c (next ∷ cells) path closes =
      let on = from_path (Step new) next c cells path.1 in (
        step_kept b next path.0 (from_both (Step new) next c b on closes),
        path_kept next c cells path.1 (reached_step (Step new) (λ x. x ≡ c) b next closes path.0),
      )

  -- so a cell on a cycle was on one before
  cycle_kept : (cell : Position) → IsOnCycle new cell → IsOnCycle old cell
  cycle_kept cell on =
      let begun = reached_start (Step new) (λ x. x ≡ cell) cell refl in
      record {
        next = on.next;
        first = step_kept cell on.next on.first (from_path (Step new) on.next cell on.cells on.path);
        cells = on.cells;
        path = path_kept on.next cell on.cells on.path (reached_step (Step new) (λ x. x ≡ cell) cell on.next begun on.first);
      }

  pub cycles_still_held : (set : List Corners) → HoldsCycles old set → HoldsCycles new set
  cycles_still_held set holds cell on = holds cell (cycle_kept cell on)

-- what is kept of a known set through an edit that may keep it
cycles_after : (old new : List Pair) (known kept : Option (List Corners)) (keeps : Bool) → IfSome known (HoldsCycles old)
    → IfSome kept (λ set. IsTrue keeps × (known ≡ Some set))
    → (IsTrue keeps → (set : List Corners) → HoldsCycles old set → HoldsCycles new set) → IfSome kept (HoldsCycles new)
cycles_after old new known None keeps was follows go = tt
cycles_after old new known (Some set) keeps was follows go =
    go follows.0 set (subst (λ (k : Option (List Corners)). IfSome k (HoldsCycles old)) follows.1 was)

-- what a book knows of cycles after a prepared edit was made
pub applied_cycles : (opening sheet : SheetValue) (log : List Entry) (pairs new_pairs : List Pair) (prepared : PreparedValue)
    (known kept : Option (List Corners)) (keeps : Bool) → IsBookOf opening sheet log pairs → IsPreparedFor opening log prepared
    → (IsTrue keeps → RefersToNone prepared.entry.edit prepared.touched) → ArePairsOf (after_edit sheet prepared.entry.edit) new_pairs
    → IfSome known (HoldsCycles pairs) → IfSome kept (λ set. IsTrue keeps × (known ≡ Some set)) → IfSome kept (HoldsCycles new_pairs)
applied_cycles opening sheet log pairs new_pairs prepared known kept keeps is ready closes made was follows =
    cycles_after pairs new_pairs known kept keeps was follows (λ yes.
    cycles_still_held sheet (after_edit sheet edit) edit pairs new_pairs prepared.touched is.pairs_are made
    (content-kept sheet edit) own touches (closes yes))
  where
    edit : EditValue
    edit = prepared.entry.edit

    own : (change : ChangeValue) → Contains edit change → content_of (after_edit sheet edit) change.cell ≡ change.content
    own change there =
        let inside = of_each (λ (c : ChangeValue). IsTrue (is_inside opening.sizes c.cell)) edit change ready.inside there in
        edit-here sheet edit change (book_sheet opening sheet log pairs is) ready.edit.distinct there
        (subst (λ (s : Sizes). IsTrue (is_inside s change.cell)) (sym (book_sizes opening sheet log pairs is)) inside)

    touches : (cell : Position) → Depends sheet edit cell → Contains prepared.touched cell
    touches cell depends = (ready.touched.exact cell).1 (subst (λ (s : SheetValue). Depends s edit cell) is.replayed depends)

-- the same pairs have the same cycles
step_of_same : (old new : List Pair) → SamePairs old new → (a b : Position) → Step new a b → Step old a b
step_of_same old new same a b one = record {
  pair = one.pair;
  listed = (same one.pair).0 one.listed;
  inside = one.inside;
  cell_is = one.cell_is;
}

path_of_same : (old new : List Pair) → SamePairs old new → (a b : Position) (cells : List Position) → IsPath (Step new) a cells b → IsPath (Step old) a cells b
path_of_same old new same a b [] path = path
path_of_same old new same a b (next ∷ cells) path = (step_of_same old new same a next path.0, path_of_same old new same next b cells path.1)

cycles_of_same : (old new : List Pair) (known : Option (List Corners)) → SamePairs old new → IfSome known (HoldsCycles old) → IfSome known (HoldsCycles new)
cycles_of_same old new None same was = tt
cycles_of_same old new (Some set) same was = λ cell on. was cell (record {
  next = on.next;
  first = step_of_same old new same cell on.next on.first;
  cells = on.cells;
  path = path_of_same old new same on.next cell on.cells on.path;
})

pub same_kept : (opening sheet : SheetValue) (log same_log : List Entry) (old new : List Pair) (known : Option (List Corners))
    (values : Option KeptValues) → IsKeptBook opening sheet log old known values → SamePairs old new → same_log ≡ log
    → IsKeptBook opening sheet same_log new known values
same_kept opening sheet log same_log old new known values is same logged = record {
  book = same_book opening sheet log same_log old new is.book same logged;
  cycles_held = cycles_of_same old new known same is.cycles_held;
  values_kept = is.values_kept;
}

-- where all of a range is new to a set, the set has none of it
pub misses_part : (set parts : List Corners) (range : Corners) → Tile parts (IsNew set range) → Contains parts range → Misses set range
misses_part set parts range tile there cell inside among =
    let new = (tile.exact cell).0 (record { range = range; listed = there; inside = inside }) in
    new.absent among

-- what holds of all elements holds of each
each_of : {A : Type 0} (P : A → Type 0) (xs : List A) (x : A) → All P xs → Contains xs x → P x
each_of P xs x all (k, below, is) = subst P is (all k x below)

-- no range to which a change refers has a cell of a set
misses_in : (edit : EditValue) (refs : List (List Corners)) (set : List Corners) → HaveRefs edit refs → MissesAll set refs
    → (change : ChangeValue) → Contains edit change → (range : Corners) → Contains (ranges_in change.content) range → Misses set range
misses_in [] refs set have misses change there range named = absurd (no_member change there)
misses_in (first ∷ edit) [] set have misses change there range named = absurd have
misses_in (first ∷ edit) (ranges ∷ refs) set have misses change there range named = elim (first_or_later change first edit there) [
  | inl same ↦ each_of (Misses set) ranges range (misses 0 ranges (omega arith))
      (once_all (ranges_in first.content) ranges range have.0
      (subst (λ (c : ChangeValue). Contains (ranges_in c.content) range) (sym same) named))
  | inr later ↦ misses_in edit refs set have.1 (λ k d below. misses (suc k) d (omega (arith, below))) change later range named
]

pub refers_to_none : (edit : EditValue) (refs : List (List Corners)) (set : List Corners) (cells : List Position)
    → HaveRefs edit refs → MissesAll set refs → ((cell : Position) → Contains cells cell → IsAmong set cell) → RefersToNone edit cells
refers_to_none edit refs set cells have misses in_set change range cell there named touched inside =
    misses_in edit refs set have misses change there range named cell inside (in_set cell touched)

-- a set has each circular cell whose place comes before one
abbrev pub HoldsCircularBefore : SheetValue → ℕ → List Corners → Type 0
HoldsCircularBefore sheet place set =
    (cell : Position) → IsTrue (is_inside sheet.sizes cell) → place_of sheet.sizes cell < place → value_of sheet cell ≡ circular_value
    → IsAmong set cell

pub none_before : (sheet : SheetValue) (set : List Corners) → HoldsCircularBefore sheet 0 set
none_before sheet set cell inside before = absurd (omega (arith, before))

earlier_or_at : (a b : ℕ) → a < b + 1 → (a < b) ⊎ (a ≡ b)
earlier_or_at a b below = grind (arith, below)

same_word : {a b : ℕ} → Some a ≡ Some b → a ≡ b
same_word is = cc

-- a cell is added where it is circular
pub adds_nothing : (cell : Position) (word : ℕ) (set : List Corners) → word ≢ code_of circular_value → AddsWhereCircular cell word set set
adds_nothing cell word set differs = record { kept = λ other among. among; added = λ is. absurd (differs is) }

pub adds_cell : (cell : Position) (word : ℕ) (old new : List Corners) (range : Corners) → range ≡ span_of cell cell → Joins old new range
    → AddsWhereCircular cell word old new
adds_cell cell word old new range one joins = record {
  kept = λ other among. (joins other).1 (inl among);
  added = λ is. (joins cell).1 (inr (subst (IsIn cell) (sym one) (in_one_cell cell)));
}

-- the cell at the next place was added where it is circular
pub next_held : (sheet : SheetValue) (codes : List ℕ) (place : ℕ) (old new : List Corners) (cell : Position) (word : ℕ)
    → AddsWhereCircular cell word old new → AreValues sheet codes → slice_get codes place ≡ Some word
    → IsTrue (is_inside sheet.sizes cell) → place_of sheet.sizes cell ≡ place
    → HoldsCircularBefore sheet place old → HoldsCircularBefore sheet (place + 1) new
next_held sheet codes place old new cell word adds are here inside placed so_far other other_inside before circular =
    by (earlier_or_at (place_of sheet.sizes other) place before)
  where
    by : (place_of sheet.sizes other < place) ⊎ (place_of sheet.sizes other ≡ place) → IsAmong new other
    by (inl earlier) = adds.kept other (so_far other other_inside earlier circular)
    by (inr same) =
        let one : other ≡ cell = place_same sheet.sizes other cell other_inside inside (same ∙ sym placed) in
        let there : slice_get codes place ≡ Some (code_of (value_of sheet other)) =
        subst (λ (n : ℕ). slice_get codes n ≡ Some (code_of (value_of sheet other))) same (are.each other other_inside) in
        let is : word ≡ code_of circular_value = same_word (sym here ∙ there) ∙ ap code_of circular in
        subst (IsAmong new) (sym one) (adds.added is)

-- all places have been gone through
pub all_held : (sheet : SheetValue) (codes : List ℕ) (place : ℕ) (cells : List Corners) → AreValues sheet codes → length codes ≤ place
    → HoldsCircularBefore sheet place cells → HoldsCircular sheet cells
all_held sheet codes place cells are ended so_far cell inside circular =
    let below = place-lt sheet.sizes cell inside in
    let count = are.count in
    so_far cell inside (omega (arith, below, count, ended)) circular

-- what is learned of the cycles of a book's sheet
pub learned : (opening sheet : SheetValue) (log : List Entry) (pairs : List Pair) (known : Option (List Corners)) (set : List Corners)
    (values : Option KeptValues) → IsKeptBook opening sheet log pairs known values → HoldsCircular sheet set
    → IsKeptBook opening sheet log pairs (Some set) values
learned opening sheet log pairs known set values is holds = record {
  book = is.book;
  cycles_held = circular_held sheet pairs set (book_sheet opening sheet log pairs is.book) is.book.pairs_are holds;
  values_kept = is.values_kept;
}

-- a known set has each cell on a cycle
pub held_in : (pairs : List Pair) (known : Option (List Corners)) (set : List Corners) → known ≡ Some set → IfSome known (HoldsCycles pairs)
    → HoldsCycles pairs set
held_in pairs known set is holds = subst (λ (k : Option (List Corners)). IfSome k (HoldsCycles pairs)) is holds
