-- What turns go by, as an edit marks cells.
use Rattle.std.proofs.Common.{◌≡◌, ◌≢◌, ◌⊎◌, inl, inr, ℕ, zero, suc, ◌+◌, ◌<◌, ◌≤◌, false, List, [], ◌∷◌, ◌++◌}
use Rattle.std.proofs.Common.{length, get_or, take}
use Rattle.std.proofs.Common.{Some, IsTrue, IsFalse, All, Contains, arith, refl, sym, ap, subst, ◌∙◌}
use Rattle.std.specs.Prelude.{nat_lt, slice_get}
use Rattle.std.specs.Ordering.{nat_cmp}
use Rattle.std.specs.BTreeMap.{get}
use Rattle.std.specs.BTreeSet.{Updates, contains}
use Rattle.std.proofs.Math.Nat.{eq-or-lt_of_le}
use Rattle.std.proofs.lemmas.Bool.{cases_eq}
use Rattle.std.proofs.lemmas.List.Elements.{Contains-append_left, Contains-append_right, Contains-append_cases}
use Rattle.std.proofs.lemmas.Option.{get_or_from_slice_get, slice_get_within, slice_get-get_or}
use Rattle.sheet_refs.specs.Cells.{Position, Corners, IsIn, cells_of}
use Rattle.sheet_refs.specs.Sizes.{is_inside, cell_count, part_inside, place_of}
use Rattle.sheet_refs.specs.declared.sizes.Sizes.{Sizes}
use Rattle.sheet_refs.proofs.Places.{place_same}
use Rattle.sheet_refs.proofs.RunLemmas.{not_at}
use Rattle.formula_syntax.specs.Listing.{IsOnceEach}
use Rattle.formula_syntax.proofs.Listings.{once_back}
use Rattle.graph_walk.proofs.PathLemmas.{reached_step}
use Rattle.sheet_model.specs.Edits.{after_edit}
use Rattle.sheet_model.specs.Logs.{after}
use Rattle.sheet_model.specs.Ranges.{ranges_in}
use Rattle.sheet_model.specs.Sheets.{ContentValue, SheetValue, content_of}
use Rattle.sheet_model.specs.declared.entry.Entry.{Entry}
use Rattle.sheet_model.proofs.EditLemmas.{edit-sizes, one_or_two}
use Rattle.sheet_model.proofs.ListMembers.{first_member, later_member, no_member, only_member}
use Rattle.graph_walk.proofs.PathLemmas.{reached_start}
use Rattle.edit_log.specs.Kept.{content-kept}
use Rattle.edit_log.specs.Touches.{AreTouched, DependsDirectly, IsChangedBy}
use Rattle.play_machine.specs.Machine.{IsMarked, IsReady, is_marked, mark_of}
use Rattle.play_machine.specs.Marking.{SetsMarks}
use Rattle.play_machine.specs.Waiting.{IsQueue, IsUnplaced, IsWaiter, HasWaiter, MayWait, Places, SetsAside}
use Rattle.play_machine.specs.Waiting.{TouchesAtMost, WaitsOn}
use Rattle.play_machine.specs.Waiting.Unplaced.{listed, nothing}
use Rattle.play_machine.specs.declared.queue.Queue.{Queue}
use Rattle.play_machine.specs.declared.waiter.Waiter.{Waiter}
use Rattle.play_machine.proofs.MarkLemmas.{not_both}
use Rattle.play_machine.proofs.QueueLemmas.{more_unplaced, some_same}

-- whether a cell is in a list
member_or_not : (cells : List Position) (cell : Position) → Contains cells cell ⊎ ¬ Contains cells cell
member_or_not [] cell = inr (no_member cell)
member_or_not (first ∷ cells) cell = by (one_or_two cell first) (member_or_not cells cell)
  where
    by : (cell ≡ first) ⊎ (cell ≢ first) → Contains cells cell ⊎ ¬ Contains cells cell → Contains (first ∷ cells) cell ⊎ ¬ Contains (first ∷ cells) cell
    by (inl same) known = inl (subst (Contains (first ∷ cells)) (sym same) (first_member first cells))
    by (inr differs) (inl there) = inl (later_member first cell cells there)
    by (inr differs) (inr none) = inr neither
      where
        neither : Contains (first ∷ cells) cell → ⊥
        neither (zero, below, is) = differs (sym is)
        neither (suc k, below, is) = none (k, omega (arith, below), is)

-- what is among the first elements, or stands at a place, is in the list
taken_member : {A : Type 0} (n : ℕ) (xs : List A) (x : A) → Contains (take n xs) x → Contains xs x
taken_member zero xs x there = absurd (no_member x there)
taken_member (suc n) [] x there = there
taken_member (suc n) (y ∷ ys) x (zero, below, is) = (zero, omega arith, is)
taken_member (suc n) (y ∷ ys) x (suc k, below, is) =
    let rest = taken_member n ys x (k, omega (arith, below), is) in
    later_member y x ys rest

standing_member : {A : Type 0} (xs : List A) (i : ℕ) (x : A) → slice_get xs i ≡ Some x → Contains xs x
standing_member xs i x at = (i, slice_get_within xs i x at, get_or_from_slice_get xs i x x at)

member_standing : {A : Type 0} (xs : List A) (x : A) → Contains xs x → (k : ℕ) × (slice_get xs k ≡ Some x)
member_standing xs x (k, below, is) = (k, slice_get-get_or xs k x below ∙ ap Some is)

-- what an edit does to the cells that it doesn't touch
pub touches_at_most : (opening sheet edited : SheetValue) (log : List Entry) (entry : Entry) (cells : List Position)
    → sheet ≡ after opening log → AreTouched opening log entry cells → edited ≡ after_edit sheet entry.edit
    → All (λ cell. IsTrue (is_inside edited.sizes cell)) cells → TouchesAtMost sheet edited cells
touches_at_most opening sheet edited log entry cells replayed are edited_is inside = record {
  sizes = ap (λ (s : SheetValue). s.sizes) edited_is ∙ edit-sizes sheet entry.edit;
  inside = inside;
  same = λ cell spared.
      ap (λ s. content_of s cell) edited_is
      ∙ content-kept sheet entry.edit cell (λ changed. spared ((are.exact cell).1
      (reached_start (DependsDirectly (after opening log)) (IsChangedBy entry.edit) cell changed)));
  closed = λ input cell there step.
      (are.exact cell).1 (reached_step (DependsDirectly (after opening log)) (IsChangedBy entry.edit) input cell
      ((are.exact input).0 there) (subst (λ s. DependsDirectly s input cell) replayed step));
}

-- cells that aren't touched, before an edit and after it
module _ (before after_it : SheetValue) (cells : List Position) (touches : TouchesAtMost before after_it cells) (number : ℕ)
    (old new : List ℕ) (sets : SetsMarks after_it.sizes cells number old new) where
  same_number : (cell : Position) → ¬ Contains cells cell → mark_of after_it.sizes new cell ≡ mark_of before.sizes old cell
  same_number cell spared = sets.others cell spared ∙ ap (λ s. mark_of s old cell) touches.sizes

  same_mark : (cell : Position) → ¬ Contains cells cell → is_marked after_it.sizes new cell ≡ is_marked before.sizes old cell
  same_mark cell spared = ap (nat_lt 0) (same_number cell spared)

  listed_inside : (cell : Position) → Contains cells cell → IsTrue (is_inside after_it.sizes cell)
  listed_inside cell (k, below, is) = subst (λ c. IsTrue (is_inside after_it.sizes c)) is (touches.inside k cell below)

  was_inside : (cell : Position) → IsTrue (is_inside after_it.sizes cell) → IsTrue (is_inside before.sizes cell)
  was_inside cell inside = subst (λ s. IsTrue (is_inside s cell)) touches.sizes inside

  same_place : (cell : Position) → place_of after_it.sizes cell ≡ place_of before.sizes cell
  same_place cell = ap (λ s. place_of s cell) touches.sizes

  input_spared : (cell input : Position) → ¬ Contains cells cell → DependsDirectly before input cell → ¬ Contains cells input
  input_spared cell input spared step there = spared (touches.closed input cell there step)

  still_unmarked : (cell input : Position) → ¬ Contains cells cell → DependsDirectly before input cell
      → IsFalse (is_marked before.sizes old input) → IsFalse (is_marked after_it.sizes new input)
  still_unmarked cell input spared step unmarked = same_mark input (input_spared cell input spared step) ∙ unmarked

  -- a cell refers to what it referred to
  pair_spared : (from cell : Position) (a : SheetValue) (step : DependsDirectly a from cell) → ¬ Contains cells cell
      → content_of after_it step.pair.cell ≡ content_of before step.pair.cell
  pair_spared from cell a step spared = touches.same step.pair.cell (λ there. spared (subst (Contains cells) step.cell_is there))

  step_before : (input cell : Position) → ¬ Contains cells cell → DependsDirectly after_it input cell → DependsDirectly before input cell
  step_before input cell spared step = record {
    pair = step.pair;
    of_sheet = subst (λ (content : ContentValue). Contains (ranges_in content) step.pair.range)
        (pair_spared input cell after_it step spared) step.of_sheet;
    inside = step.inside;
    cell_is = step.cell_is;
  }

  step_after : (input cell : Position) → ¬ Contains cells cell → DependsDirectly before input cell → DependsDirectly after_it input cell
  step_after input cell spared step = record {
    pair = step.pair;
    of_sheet = subst (λ (content : ContentValue). Contains (ranges_in content) step.pair.range)
        (sym (pair_spared input cell before step spared)) step.of_sheet;
    inside = step.inside;
    cell_is = step.cell_is;
  }

  -- one that waits has looked at no marked cell still
  waiter_after : (waiter : Waiter) → ¬ Contains cells waiter.cell → IsWaiter before old waiter → IsWaiter after_it new waiter
  waiter_after waiter spared is = record {
    inside = subst (λ s. IsTrue (is_inside s waiter.cell)) (sym touches.sizes) is.inside;
    refs = subst (λ content. IsOnceEach (ranges_in content) waiter.refs) (sym (touches.same waiter.cell spared)) is.refs;
    before = λ range there other in_range.
        still_unmarked waiter.cell other spared (step range other (taken_member waiter.range waiter.refs range there) in_range)
        (is.before range there other in_range);
    part = λ range at k other below in_range here.
        still_unmarked waiter.cell other spared (step range other (standing_member waiter.refs waiter.range range at) in_range)
        (is.part range at k other below in_range (subst (λ s. slice_get (cells_of (part_inside s range)) k ≡ Some other) touches.sizes here));
  }
    where
      step : (range : Corners) (other : Position) → Contains waiter.refs range → IsIn other range → DependsDirectly before other waiter.cell
      step range other there in_range = record {
        pair = record { range = range; cell = waiter.cell };
        of_sheet = once_back (ranges_in (content_of before waiter.cell)) waiter.refs range is.refs there;
        inside = in_range;
        cell_is = refl;
      }

  -- one whose cell is touched waits with another mark than it has
  may_after : (last : ℕ) (waiter : Waiter) → last < number → MayWait before old last waiter → MayWait after_it new number waiter
  may_after last waiter less may = record {
    some = may.some;
    known = let known = may.known in omega (arith, known, less);
    looked = λ current.
        let spared : ¬ Contains cells waiter.cell = (λ there.
        let here = sets.listed waiter.cell (listed_inside waiter.cell there) there in
        let known = may.known in
        absurd (omega (arith, here, current, known, less))) in
        waiter_after waiter spared (may.looked (sym (same_number waiter.cell spared) ∙ current));
  }

  module _ (queue next : Queue) (are : IsQueue before old nothing queue) (aside : SetsAside after_it.sizes cells number queue next)
      (less : queue.last < number) where
    abbrev Held : Position → Type 0
    Held cell = IsTrue (contains nat_cmp next.ready (place_of after_it.sizes cell))

    abbrev On : Position → Type 0
    On cell = WaitsOn after_it new next.waits cell

    ready_after : (cell : Position) → IsTrue (is_inside after_it.sizes cell) → Held cell → IsReady after_it new cell
    ready_after cell inside held =
        let spared : ¬ Contains cells cell = (λ there. not_both (contains nat_cmp next.ready (place_of after_it.sizes cell)) held (aside.gone cell there)) in
        let was = are.ready cell (was_inside cell inside)
        (subst (λ p. IsTrue (contains nat_cmp queue.ready p)) (same_place cell) (aside.kept (place_of after_it.sizes cell) held)) in
        record {
          marked = same_mark cell spared ∙ was.marked;
          inputs = λ input step.
              let earlier = step_before input cell spared step in
              still_unmarked cell input spared earlier (was.inputs input earlier);
        }

    each_after : (cell : Position) → IsTrue (is_inside after_it.sizes cell) → ¬ Contains cells cell
        → IsTrue (contains nat_cmp queue.ready (place_of before.sizes cell)) ⊎ WaitsOn before old queue.waits cell ⊎ ⊥
        → Held cell ⊎ On cell ⊎ IsUnplaced after_it.sizes new (listed cells 0) cell
    each_after cell inside spared (inl held) =
        inl (aside.others (place_of after_it.sizes cell)
        (subst (λ p. IsTrue (contains nat_cmp queue.ready p)) (sym (same_place cell)) held)
        (λ other there same. spared (subst (Contains cells) (place_same after_it.sizes other cell (listed_inside other there) inside same) there)))
    each_after cell inside spared (inr (inr none)) = absurd none
    each_after cell inside spared (inr (inl on)) =
        let input_is = input_spared cell on.input spared on.is.step in
        inr (inl (record {
          input = on.input;
          is = record { marked = same_mark on.input input_is ∙ on.is.marked; step = step_after on.input cell spared on.is.step };
          at = record {
            list = on.at.list;
            kept = ap (λ w. get nat_cmp w (place_of after_it.sizes on.input)) aside.waits
                ∙ ap (get nat_cmp queue.waits) (same_place on.input) ∙ on.at.kept;
            listed = subst (HasWaiter on.at.list.items cell) (sym (same_number cell spared)) on.at.listed;
          };
        }))

    -- the touched cells are to be placed
    pub edited : IsQueue after_it new (listed cells 0) next
    edited = record {
      within = λ place held. subst (λ s. place < cell_count s) (sym touches.sizes) (are.within place (aside.kept place held));
      ready = ready_after;
      waiters = λ place list waiter kept there.
          subst (λ n. MayWait after_it new n waiter) (sym aside.last)
          (may_after queue.last waiter less (are.waiters place list waiter (sym (ap (λ w. get nat_cmp w place) aside.waits) ∙ kept) there));
      each = λ cell inside marked. each cell inside marked (member_or_not cells cell);
      first = λ cell inside below marked.
          let spared : ¬ Contains cells cell = (λ there. (let least = aside.before cell there in absurd (omega (arith, least, below)))) in
          let least = aside.first in
          are.first cell (was_inside cell inside)
          (subst (λ p. p < queue.first) (same_place cell) (omega (arith, below, least)))
          (sym (same_mark cell spared) ∙ marked);
    }
      where
        each : (cell : Position) → IsTrue (is_inside after_it.sizes cell) → IsMarked after_it.sizes new cell
            → Contains cells cell ⊎ ¬ Contains cells cell → Held cell ⊎ On cell ⊎ IsUnplaced after_it.sizes new (listed cells 0) cell
        each cell inside marked (inl there) = (let at = member_standing cells cell there in inr (inr (at.0, omega arith, at.1)))
        each cell inside marked (inr spared) =
            each_after cell inside spared (are.each cell (was_inside cell inside) (sym (same_mark cell spared) ∙ marked))

-- no cell is taken from the ready ones, and one more is
pub aside_none : (sizes : Sizes) (number : ℕ) (old new : Queue) → new.ready ≡ old.ready → new.waits ≡ old.waits
    → new.first ≡ old.first → new.last ≡ number → SetsAside sizes [] number old new
aside_none sizes number old new ready_are waits_are first_is last_is = record {
  gone = λ cell there. absurd (no_member cell there);
  kept = λ place held. subst (λ r. IsTrue (contains nat_cmp r place)) ready_are held;
  others = λ place held apart. subst (λ r. IsTrue (contains nat_cmp r place)) (sym ready_are) held;
  waits = waits_are;
  last = last_is;
  first = omega (arith, first_is);
  before = λ cell there. absurd (no_member cell there);
}

pub aside_more : (sizes : Sizes) (cells : List Position) (number : ℕ) (old mid new : Queue) (cell : Position)
    → SetsAside sizes cells number old mid → Updates nat_cmp mid.ready new.ready (place_of sizes cell) false
    → new.waits ≡ mid.waits → new.last ≡ mid.last → new.first ≤ mid.first → new.first ≤ place_of sizes cell
    → SetsAside sizes (cells ++ cell ∷ []) number old new
aside_more sizes cells number old mid new cell aside updates waits_are last_is below here = record {
  gone = λ other there. gone other (Contains-append_cases cells (cell ∷ []) other there);
  kept = λ place held. aside.kept place (earlier place held (cases_eq place (place_of sizes cell)));
  others = λ place held apart.
      later place (aside.others place held (λ other there. apart other (Contains-append_left cells (cell ∷ []) other there)))
      (λ same. apart cell (Contains-append_right cells (cell ∷ []) cell (first_member cell [])) (sym same));
  waits = waits_are ∙ aside.waits;
  last = last_is ∙ aside.last;
  first = let least = aside.first in omega (arith, below, least);
  before = λ other there. before other (Contains-append_cases cells (cell ∷ []) other there);
}
  where
    apart : (place : ℕ) → (place ≡ place_of sizes cell → ⊥) → contains nat_cmp new.ready place ≡ contains nat_cmp mid.ready place
    apart place differs = updates.2 place (not_at (place_of sizes cell) place differs)

    earlier : (place : ℕ) → IsTrue (contains nat_cmp new.ready place) → (place ≡ place_of sizes cell)
        ⊎ (place ≡ place_of sizes cell → ⊥) → IsTrue (contains nat_cmp mid.ready place)
    earlier place held (inl same) =
        absurd (not_both (contains nat_cmp new.ready (place_of sizes cell))
        (subst (λ p. IsTrue (contains nat_cmp new.ready p)) same held) updates.1)
    earlier place held (inr differs) = sym (apart place differs) ∙ held

    later : (place : ℕ) → IsTrue (contains nat_cmp mid.ready place) → (place ≡ place_of sizes cell → ⊥) → IsTrue (contains nat_cmp new.ready place)
    later place held differs = apart place differs ∙ held

    gone : (other : Position) → Contains cells other ⊎ Contains (cell ∷ []) other → IsFalse (contains nat_cmp new.ready (place_of sizes other))
    gone other (inr last) = ap (λ c. contains nat_cmp new.ready (place_of sizes c)) (only_member cell other last) ∙ updates.1
    gone other (inl there) = by (cases_eq (place_of sizes other) (place_of sizes cell))
      where
        by : (place_of sizes other ≡ place_of sizes cell) ⊎ (place_of sizes other ≡ place_of sizes cell → ⊥)
            → IsFalse (contains nat_cmp new.ready (place_of sizes other))
        by (inl same) = ap (contains nat_cmp new.ready) same ∙ updates.1
        by (inr differs) = apart (place_of sizes other) differs ∙ aside.gone other there

    before : (other : Position) → Contains cells other ⊎ Contains (cell ∷ []) other → new.first ≤ place_of sizes other
    before other (inl there) = (let least = aside.before other there in omega (arith, below, least))
    before other (inr last) = subst (λ c. new.first ≤ place_of sizes c) (sym (only_member cell other last)) here

-- the one at an index is placed; those behind it aren't yet, and behind the last one there is none
module _ (sheet : SheetValue) (marks : List ℕ) (cells : List Position) where
  pub listed_placed : (index : ℕ) (cell : Position) (old new : Queue) → index < length cells → cell ≡ get_or cells index cell
      → Places sheet marks cell old new → IsQueue sheet marks (listed cells index) old → IsQueue sheet marks (listed cells (index + 1)) new
  listed_placed index cell old new below at places are = places (listed cells index) (listed cells (index + 1)) split are
    where
      split : (other : Position) → IsTrue (is_inside sheet.sizes other) → IsUnplaced sheet.sizes marks (listed cells index) other
          → IsUnplaced sheet.sizes marks (listed cells (index + 1)) other ⊎ (other ≡ cell)
      split other inside (k, from, there) = go (eq-or-lt_of_le from)
        where
          go : (index ≡ k) ⊎ (index < k) → IsUnplaced sheet.sizes marks (listed cells (index + 1)) other ⊎ (other ≡ cell)
          go (inl same) = inr (some_same (sym there ∙ ap (slice_get cells) (sym same) ∙ slice_get-get_or cells index cell below ∙ ap Some (sym at)))
          go (inr past) = inl (k, omega (arith, past), there)

  pub all_listed : (index : ℕ) (queue : Queue) → length cells ≤ index → IsQueue sheet marks (listed cells index) queue → IsQueue sheet marks nothing queue
  all_listed index queue past =
      more_unplaced sheet marks (listed cells index) nothing queue
      (λ cell inside marked still. (let within = slice_get_within cells still.0 cell still.2 in
      let from = still.1 in absurd (omega (arith, within, past, from))))
