-- What turns go by, as marks are cleared and cells are placed.
use Rattle.std.proofs.Common.{◌≡◌, ◌≢◌, ◌⊎◌, inl, inr, ℕ, ◌+◌, ◌<◌, ◌≤◌, true, false, List, [], ◌∷◌, ◌++◌, length, None}
use Rattle.std.proofs.Common.{Some, IsTrue, IsFalse, Contains, arith, refl, sym, ap, subst, ◌∙◌}
use Rattle.std.specs.Prelude.{nat_lt, Vec}
use Rattle.std.specs.declared.alloc.Global.{Global}
use Rattle.std.specs.Ordering.{is_gt, nat_cmp}
use Rattle.std.specs.BTreeMap.{Updates as MapUpdates, get}
use Rattle.std.specs.BTreeSet.{BTreeSet, IsEmpty, IsLowerBound, Updates, contains}
use Rattle.std.proofs.Math.Nat.{eq-or-lt_of_le}
use Rattle.std.proofs.lemmas.Bool.{cases_eq}
use Rattle.std.proofs.lemmas.Bool.Decides.{nat_tests}
use Rattle.std.proofs.lemmas.List.Elements.{Contains-append_left, Contains-append_right, Contains-append_cases}
use Rattle.sheet_refs.specs.Cells.{Position}
use Rattle.sheet_refs.specs.Sizes.{is_inside, cell_count, place_of}
use Rattle.sheet_refs.specs.declared.sizes.Sizes.{Sizes}
use Rattle.sheet_refs.proofs.Places.{place-lt, place_same}
use Rattle.sheet_refs.proofs.RunLemmas.{not_at}
use Rattle.sheet_model.specs.Sheets.{SheetValue}
use Rattle.sheet_model.proofs.EditLemmas.{one_or_two}
use Rattle.sheet_model.proofs.ListMembers.{only_member}
use Rattle.play_machine.specs.Machine.{IsFirstCell, IsMarked, IsNowhere, IsReady, is_marked, mark_of, without_mark}
use Rattle.play_machine.specs.Marking.{SetsMarks}
use Rattle.play_machine.specs.Waiting.{AddsWaiter, AreWaiters, HasNoMarkedInput, IsKeptAt, IsMarkedInput, HasWaiter}
use Rattle.play_machine.specs.Waiting.{IsQueue, IsUnplaced, IsWaiter, MayWait, NoneMarked, Places, PlacesWaiter}
use Rattle.play_machine.specs.Waiting.{TakesWaiters, Unplaced}
use Rattle.play_machine.specs.Waiting.{WaitAt, Waits, WaitsOn}
use Rattle.play_machine.specs.Waiting.Unplaced.{nothing, one, waiting, from}
use Rattle.play_machine.specs.declared.queue.Queue.{Queue}
use Rattle.play_machine.specs.declared.waiter.Waiter.{Waiter}
use Rattle.play_machine.proofs.MarkLemmas.{marks_one, not_both, set_here, unmarked_from}
use Rattle.play_machine.proofs.ReadyLemmas.{outside_unmarked}
use Rattle.play_machine.proofs.TurnLemmas.{true_or_false}

-- a set of places that gains or loses one
not_before : (a b : ℕ) → is_gt (nat_cmp a b) ≡ false → b < a → ⊥
not_before a b least below = grind (arith, nat_tests)

nothing_held : (ready : BTreeSet ℕ) (place : ℕ) → IsEmpty ready → IsTrue (contains nat_cmp ready place) → ⊥
nothing_held ready place none held = conflict (rw none at held)
  where
    conflict : false ≡ true → ⊥
    conflict h = cc

-- a marked cell is one of the rectangle
pub marked_inside : (sizes : Sizes) (marks : List ℕ) (cell : Position) → IsMarked sizes marks cell → IsTrue (is_inside sizes cell)
marked_inside sizes marks cell marked = go (true_or_false (is_inside sizes cell))
  where
    go : IsTrue (is_inside sizes cell) ⊎ IsFalse (is_inside sizes cell) → IsTrue (is_inside sizes cell)
    go (inl inside) = inside
    go (inr outside) = absurd (not_both (is_marked sizes marks cell) marked (outside_unmarked sizes marks cell outside))

module _ (sheet : SheetValue) (marks : List ℕ) where
  abbrev Holds : Queue → Position → Type 0
  Holds queue cell = IsTrue (contains nat_cmp queue.ready (place_of sheet.sizes cell))

  -- a cell that waits isn't ready, so each ready one is among the ready ones
  waiting_unready : (waits : Waits) (cell : Position) → WaitsOn sheet marks waits cell → ¬ IsReady sheet marks cell
  waiting_unready waits cell on ready = not_both (is_marked sheet.sizes marks on.input) on.is.marked (ready.inputs on.input on.is.step)

  ready_held : (queue : Queue) → IsQueue sheet marks nothing queue → (cell : Position)
      → IsTrue (is_inside sheet.sizes cell) → IsReady sheet marks cell → Holds queue cell
  ready_held queue are cell inside ready = go (are.each cell inside ready.marked)
    where
      go : Holds queue cell ⊎ WaitsOn sheet marks queue.waits cell ⊎ IsUnplaced sheet.sizes marks nothing cell → Holds queue cell
      go (inl held) = held
      go (inr (inl on)) = absurd (waiting_unready queue.waits cell on ready)
      go (inr (inr none)) = absurd none

  -- the least place is that of the first ready cell
  pub first_held : (queue : Queue) (place : ℕ) (cell : Position) → IsQueue sheet marks nothing queue
      → IsTrue (contains nat_cmp queue.ready place) → IsLowerBound nat_cmp queue.ready place
      → IsTrue (is_inside sheet.sizes cell) → place_of sheet.sizes cell ≡ place
      → IsFirstCell sheet.sizes (IsReady sheet marks) cell
  first_held queue place cell are held least inside here = record {
    inside = inside;
    such = are.ready cell inside (subst (λ p. IsTrue (contains nat_cmp queue.ready p)) (sym here) held);
    first =
        λ other there before ready. not_before place (place_of sheet.sizes other)
        (least (place_of sheet.sizes other) (ready_held queue are other there ready))
        (subst (λ p. place_of sheet.sizes other < p) here before);
  }

  pub none_held : (queue : Queue) → IsQueue sheet marks nothing queue → IsEmpty queue.ready → IsNowhere sheet.sizes (IsReady sheet marks)
  none_held queue are none cell inside ready = nothing_held queue.ready (place_of sheet.sizes cell) none (ready_held queue are cell inside ready)

  -- a cell that is no longer held as a ready one is to be placed
  pub popped : (old new : Queue) (place : ℕ) (cell : Position) → IsQueue sheet marks nothing old
      → Updates nat_cmp old.ready new.ready place false → new.waits ≡ old.waits → new.first ≡ old.first → new.last ≡ old.last
      → IsTrue (is_inside sheet.sizes cell) → place_of sheet.sizes cell ≡ place → IsQueue sheet marks (one cell) new
  popped old new place cell are updates waits_are first_is last_is inside here = record {
    within = λ p held. are.within p (earlier p held);
    ready = λ c there held. are.ready c there (earlier (place_of sheet.sizes c) held);
    waiters = λ p list waiter kept listed. subst (λ n. MayWait sheet marks n waiter) (sym last_is)
        (are.waiters p list waiter (sym (ap (λ w. get nat_cmp w p) waits_are) ∙ kept) listed);
    each = λ c there marked. each c there (are.each c there marked) (cases_eq (place_of sheet.sizes c) place);
    first = subst (NoneMarked sheet.sizes marks) (sym first_is) are.first;
  }
    where
      apart : (p : ℕ) → (p ≡ place → ⊥) → contains nat_cmp new.ready p ≡ contains nat_cmp old.ready p
      apart p differs = updates.2 p (not_at place p differs)

      earlier : (p : ℕ) → IsTrue (contains nat_cmp new.ready p) → IsTrue (contains nat_cmp old.ready p)
      earlier p held = go (cases_eq p place)
        where
          go : (p ≡ place) ⊎ (p ≡ place → ⊥) → IsTrue (contains nat_cmp old.ready p)
          go (inl same) = absurd (not_both (contains nat_cmp new.ready place) (subst (λ q. IsTrue (contains nat_cmp new.ready q)) same held) updates.1)
          go (inr differs) = sym (apart p differs) ∙ held

      each : (c : Position) → IsTrue (is_inside sheet.sizes c) → Holds old c ⊎ WaitsOn sheet marks old.waits c
          ⊎ IsUnplaced sheet.sizes marks nothing c → (place_of sheet.sizes c ≡ place) ⊎ (place_of sheet.sizes c ≡ place → ⊥)
          → Holds new c ⊎ WaitsOn sheet marks new.waits c ⊎ IsUnplaced sheet.sizes marks (one cell) c
      each c there (inl held) (inl same) = inr (inr (place_same sheet.sizes c cell there inside (same ∙ sym here)))
      each c there (inl held) (inr differs) = inl (apart (place_of sheet.sizes c) differs ∙ held)
      each c there (inr (inl on)) known = inr (inl (subst (λ w. WaitsOn sheet marks w c) (sym waits_are) on))
      each c there (inr (inr none)) known = absurd none

  pub taken_out : (old new : Queue) (place : ℕ) (cell : Position) → Updates nat_cmp old.ready new.ready place false
      → place_of sheet.sizes cell ≡ place → contains nat_cmp new.ready (place_of sheet.sizes cell) ≡ false
  taken_out old new place cell updates here = ap (contains nat_cmp new.ready) here ∙ updates.1

  -- what is to be placed, seen otherwise
  pub more_unplaced : (left rest : Unplaced) (queue : Queue) → ((cell : Position) → IsTrue (is_inside sheet.sizes cell)
      → IsMarked sheet.sizes marks cell → IsUnplaced sheet.sizes marks left cell → IsUnplaced sheet.sizes marks rest cell)
      → IsQueue sheet marks left queue → IsQueue sheet marks rest queue
  more_unplaced left rest queue weaker are = record {
    within = are.within;
    ready = are.ready;
    waiters = are.waiters;
    each = λ cell inside marked. go cell inside marked (are.each cell inside marked);
    first = are.first;
  }
    where
      go : (cell : Position) → IsTrue (is_inside sheet.sizes cell) → IsMarked sheet.sizes marks cell → Holds queue cell
          ⊎ WaitsOn sheet marks queue.waits cell ⊎ IsUnplaced sheet.sizes marks left cell → Holds queue cell
          ⊎ WaitsOn sheet marks queue.waits cell ⊎ IsUnplaced sheet.sizes marks rest cell
      go cell inside marked (inl held) = inl held
      go cell inside marked (inr (inl on)) = inr (inl on)
      go cell inside marked (inr (inr open_still)) = inr (inr (weaker cell inside marked open_still))

  -- at first all are to be placed, and in the end none is
  pub empty_queue : (queue : Queue) → IsEmpty queue.ready → ((place : ℕ) → get nat_cmp queue.waits place ≡ None)
      → queue.first ≡ 0 → IsQueue sheet marks (from 0) queue
  empty_queue queue none no_waits first_is = record {
    within = λ place held. absurd (nothing_held queue.ready place none held);
    ready = λ cell inside held. absurd (nothing_held queue.ready (place_of sheet.sizes cell) none held);
    waiters = λ place list waiter kept listed. absurd (conflict (sym (no_waits place) ∙ kept));
    each = λ cell inside marked. inr (inr (omega arith));
    first = subst (NoneMarked sheet.sizes marks) (sym first_is) (λ cell inside below. absurd (omega (arith, below)));
  }
    where
      conflict : {A : Type 0} {a : A} → None ≡ Some a → ⊥
      conflict h = cc

  pub all_placed : (place : ℕ) (queue : Queue) → cell_count sheet.sizes ≤ place → IsQueue sheet marks (from place) queue → IsQueue sheet marks nothing queue
  all_placed place queue past are =
      more_unplaced (from place) nothing queue
      (λ cell inside marked later. (let below = place-lt sheet.sizes cell inside in
      absurd (omega (arith, below, past, later)))) are

  pub list_placed : (list : List Waiter) (queue : Queue) → list ≡ [] → IsQueue sheet marks (waiting list) queue → IsQueue sheet marks nothing queue
  list_placed list queue none are = more_unplaced (waiting list) nothing queue (λ cell inside marked listed. empty cell listed) are
    where
      empty : (cell : Position) → HasWaiter list cell (mark_of sheet.sizes marks cell) → ⊥
      empty cell is = (let there = subst (λ l. Contains l is.waiter) none is.listed in absurd (omega (arith, there)))

  -- the one at the place is placed; those from the next place on aren't yet
  pub next_placed : (place : ℕ) (cell : Position) (old new : Queue) → place_of sheet.sizes cell ≡ place
      → IsTrue (is_inside sheet.sizes cell) → Places sheet marks cell old new → IsQueue sheet marks (from place) old
      → IsQueue sheet marks (from (place + 1)) new
  next_placed place cell old new here inside places are = places (from place) (from (place + 1)) split are
    where
      split : (c : Position) → IsTrue (is_inside sheet.sizes c) → place ≤ place_of sheet.sizes c → (place + 1 ≤ place_of sheet.sizes c) ⊎ (c ≡ cell)
      split c there later = go (eq-or-lt_of_le later)
        where
          go : (place ≡ place_of sheet.sizes c) ⊎ (place < place_of sheet.sizes c) → (place + 1 ≤ place_of sheet.sizes c) ⊎ (c ≡ cell)
          go (inl same) = inr (place_same sheet.sizes c cell there inside (sym same ∙ sym here))
          go (inr past) = inl (omega (arith, past))

  -- the last of the list is placed, if its cell still has the mark
  pub last_placed : (list whole : List Waiter) (waiter : Waiter) (old new : Queue) → whole ≡ list ++ waiter ∷ []
      → PlacesWaiter sheet marks waiter old new → IsQueue sheet marks (waiting whole) old
      → IsQueue sheet marks (waiting list) new
  last_placed list whole waiter old new is places are = places (waiting whole) (waiting list) split are
    where
      Now : List Waiter → Position → Type 0
      Now waiters cell = HasWaiter waiters cell (mark_of sheet.sizes marks cell)

      split : (cell : Position) → IsTrue (is_inside sheet.sizes cell) → Now whole cell
          → Now list cell ⊎ ((cell ≡ waiter.cell) × (mark_of sheet.sizes marks cell ≡ waiter.mark))
      split cell inside there = go (Contains-append_cases list (waiter ∷ []) there.waiter (subst (λ l. Contains l there.waiter) is there.listed))
        where
          go : Contains list there.waiter ⊎ Contains (waiter ∷ []) there.waiter
              → Now list cell ⊎ ((cell ≡ waiter.cell) × (mark_of sheet.sizes marks cell ≡ waiter.mark))
          go (inl before) = inl (record { waiter = there.waiter; listed = before; cell_is = there.cell_is; mark_is = there.mark_is })
          go (inr last) =
              let same = only_member waiter there.waiter last in
              inr (sym there.cell_is ∙ ap (λ (w : Waiter). w.cell) same, sym there.mark_is ∙ ap (λ (w : Waiter). w.mark) same)

  -- a cell that isn't marked needs no place
  pub needs_no_place : (cell : Position) (queue : Queue) → IsFalse (is_marked sheet.sizes marks cell) → Places sheet marks cell queue queue
  needs_no_place cell queue unmarked left rest split are = record {
    within = are.within;
    ready = are.ready;
    waiters = are.waiters;
    each = λ c inside marked. go c inside marked (are.each c inside marked);
    first = are.first;
  }
    where
      go : (c : Position) → IsTrue (is_inside sheet.sizes c) → IsMarked sheet.sizes marks c → Holds queue c
          ⊎ WaitsOn sheet marks queue.waits c ⊎ IsUnplaced sheet.sizes marks left c → Holds queue c
          ⊎ WaitsOn sheet marks queue.waits c ⊎ IsUnplaced sheet.sizes marks rest c
      go c inside marked (inl held) = inl held
      go c inside marked (inr (inl on)) = inr (inl on)
      go c inside marked (inr (inr still)) = at (split c inside still)
        where
          at : IsUnplaced sheet.sizes marks rest c ⊎ (c ≡ cell) → Holds queue c ⊎ WaitsOn sheet marks queue.waits c ⊎ IsUnplaced sheet.sizes marks rest c
          at (inl open_still) = inr (inr open_still)
          at (inr same) = absurd (not_both (is_marked sheet.sizes marks cell) (subst (λ p. IsMarked sheet.sizes marks p) same marked) unmarked)

  -- nor does one that waited with another mark than it has; and what places the cell places the one that waits
  pub waits_no_more : (waiter : Waiter) (queue : Queue) → mark_of sheet.sizes marks waiter.cell ≢ waiter.mark
      → PlacesWaiter sheet marks waiter queue queue
  waits_no_more waiter queue differs left rest split are =
      more_unplaced left rest queue (λ cell inside marked still. elim (split cell inside still) [
        | inl open_still ↦ open_still
        | inr here ↦ absurd (differs (ap (mark_of sheet.sizes marks) (sym here.0) ∙ here.1))
      ]) are

  pub waiter_placed : (waiter : Waiter) (old new : Queue) → Places sheet marks waiter.cell old new → PlacesWaiter sheet marks waiter old new
  waiter_placed waiter old new places left rest split = places left rest (λ cell inside still. elim (split cell inside still) [
    | inl open_still ↦ inl open_still
    | inr here ↦ inr here.0
  ])

  -- a greater last mark changes nothing
  pub later_last : (left : Unplaced) (old new : Queue) → new.ready ≡ old.ready → new.waits ≡ old.waits → new.first ≡ old.first
      → old.last ≤ new.last → IsQueue sheet marks left old → IsQueue sheet marks left new
  later_last left old new ready_are waits_are first_is later are = record {
    within = λ place held. are.within place (subst (λ r. IsTrue (contains nat_cmp r place)) ready_are held);
    ready = λ c there held. are.ready c there (subst (λ r. IsTrue (contains nat_cmp r (place_of sheet.sizes c))) ready_are held);
    waiters = λ p list waiter kept listed.
        let may = are.waiters p list waiter (sym (ap (λ w. get nat_cmp w p) waits_are) ∙ kept) listed in
        let known = may.known in
        record { some = may.some; known = omega (arith, known, later); looked = may.looked };
    each = λ c there marked. each c (are.each c there marked);
    first = subst (NoneMarked sheet.sizes marks) (sym first_is) are.first;
  }
    where
      each : (c : Position) → Holds old c ⊎ WaitsOn sheet marks old.waits c ⊎ IsUnplaced sheet.sizes marks left c
          → Holds new c ⊎ WaitsOn sheet marks new.waits c ⊎ IsUnplaced sheet.sizes marks left c
      each c (inl held) = inl (subst (λ r. IsTrue (contains nat_cmp r (place_of sheet.sizes c))) (sym ready_are) held)
      each c (inr (inl on)) = inr (inl (subst (λ w. WaitsOn sheet marks w c) (sym waits_are) on))
      each c (inr (inr still)) = inr (inr still)

  -- a marked cell that refers to no marked one is put among the ready ones
  pub placed_ready : (cell : Position) (old new : Queue) → IsTrue (is_inside sheet.sizes cell)
      → IsMarked sheet.sizes marks cell → HasNoMarkedInput sheet marks cell
      → Updates nat_cmp old.ready new.ready (place_of sheet.sizes cell) true → new.waits ≡ old.waits
      → new.first ≡ old.first → new.last ≡ old.last → Places sheet marks cell old new
  placed_ready cell old new inside marked no_input updates waits_are first_is last_is left rest split are = record {
    within = λ place held. within place held (cases_eq place (place_of sheet.sizes cell));
    ready = λ c there held. ready c there held (one_or_two c cell);
    waiters = λ p list waiter kept listed. subst (λ n. MayWait sheet marks n waiter) (sym last_is)
        (are.waiters p list waiter (sym (ap (λ w. get nat_cmp w p) waits_are) ∙ kept) listed);
    each = λ c there is. each c there (are.each c there is);
    first = subst (NoneMarked sheet.sizes marks) (sym first_is) are.first;
  }
    where
      apart : (p : ℕ) → (p ≡ place_of sheet.sizes cell → ⊥) → contains nat_cmp new.ready p ≡ contains nat_cmp old.ready p
      apart p differs = updates.2 p (not_at (place_of sheet.sizes cell) p differs)

      within : (place : ℕ) → IsTrue (contains nat_cmp new.ready place) → (place ≡ place_of sheet.sizes cell)
          ⊎ (place ≡ place_of sheet.sizes cell → ⊥) → place < cell_count sheet.sizes
      within place held (inl same) = subst (λ p. p < cell_count sheet.sizes) (sym same) (place-lt sheet.sizes cell inside)
      within place held (inr differs) = are.within place (sym (apart place differs) ∙ held)

      ready : (c : Position) → IsTrue (is_inside sheet.sizes c) → Holds new c → (c ≡ cell) ⊎ (c ≢ cell) → IsReady sheet marks c
      ready c there held (inl same) = subst (λ p. IsReady sheet marks p) (sym same) (record { marked = marked; inputs = no_input })
      ready c there held (inr differs) =
          are.ready c there
          (sym (apart (place_of sheet.sizes c) (λ here. differs (place_same sheet.sizes c cell there inside here)))
          ∙ held)

      kept : (c : Position) → Holds old c → Holds new c
      kept c held = go (cases_eq (place_of sheet.sizes c) (place_of sheet.sizes cell))
        where
          go : (place_of sheet.sizes c ≡ place_of sheet.sizes cell) ⊎ (place_of sheet.sizes c ≡ place_of sheet.sizes cell → ⊥) → Holds new c
          go (inl same) = ap (contains nat_cmp new.ready) same ∙ updates.1
          go (inr differs) = apart (place_of sheet.sizes c) differs ∙ held

      each : (c : Position) → IsTrue (is_inside sheet.sizes c) → Holds old c ⊎ WaitsOn sheet marks old.waits c
          ⊎ IsUnplaced sheet.sizes marks left c → Holds new c ⊎ WaitsOn sheet marks new.waits c
          ⊎ IsUnplaced sheet.sizes marks rest c
      each c there (inl held) = inl (kept c held)
      each c there (inr (inl on)) = inr (inl (subst (λ w. WaitsOn sheet marks w c) (sym waits_are) on))
      each c there (inr (inr still)) = at (split c there still)
        where
          at : IsUnplaced sheet.sizes marks rest c ⊎ (c ≡ cell) → Holds new c ⊎ WaitsOn sheet marks new.waits c ⊎ IsUnplaced sheet.sizes marks rest c
          at (inl open_still) = inr (inr open_still)
          at (inr same) = inl (ap (λ p. contains nat_cmp new.ready (place_of sheet.sizes p)) same ∙ updates.1)

pub some_same : {A : Type 0} {a b : A} → Some a ≡ Some b → a ≡ b
some_same h = cc

-- those that wait on the cell at a place, taken out and put back with one more
pub taken_list : (old new : Waits) (place : ℕ) (list : Vec Waiter Global) → get nat_cmp old place ≡ Some list
    → MapUpdates nat_cmp old new place None → TakesWaiters old new place list.items
taken_list old new place list is updates = record {
  taken = record { all = λ kept at. ap (λ (v : Vec Waiter Global). v.items) (some_same (sym at ∙ is)); each = λ waiter listed. (list, is, listed) };
  gone = updates.1;
  others = λ other differs. updates.2 other (not_at place other differs);
}

pub added_waiter : (old mid new : Waits) (place : ℕ) (before : List Waiter) (list : Vec Waiter Global) (waiter : Waiter)
    → TakesWaiters old mid place before → list.items ≡ before ++ waiter ∷ []
    → MapUpdates nat_cmp mid new place (Some list) → AddsWaiter old new place waiter
added_waiter old mid new place before list waiter takes items updates = record {
  before = before;
  list = list;
  was = takes.taken;
  kept = updates.1;
  items = items;
  others = λ other differs. updates.2 other (not_at place other differs) ∙ takes.others other differs;
}

-- the last of a list, and those before it
pub last_waiter : (sheet : SheetValue) (marks : List ℕ) (last : ℕ) (list whole : List Waiter) (waiter : Waiter) → whole ≡ list
    ++ waiter ∷ [] → AreWaiters sheet marks last whole → MayWait sheet marks last waiter
last_waiter sheet marks last list whole waiter is are =
    are waiter (subst (λ l. Contains l waiter) (sym is) (Contains-append_right list (waiter ∷ []) waiter (
      0,
      omega arith,
      refl,
    )))

pub other_waiters : (sheet : SheetValue) (marks : List ℕ) (last : ℕ) (list whole : List Waiter) (waiter : Waiter) → whole ≡ list
    ++ waiter ∷ [] → AreWaiters sheet marks last whole → AreWaiters sheet marks last list
other_waiters sheet marks last list whole waiter is are other listed =
    are other (subst (λ l. Contains l other) (sym is) (Contains-append_left list (waiter ∷ []) other listed))

-- those that wait on the cell at a place, and one more
module _ (old new : Waits) (place : ℕ) (waiter : Waiter) (adds : AddsWaiter old new place waiter) where
  pub still_waits : (other : ℕ) (cell : Position) (mark : ℕ) → IsKeptAt old other cell mark → IsKeptAt new other cell mark
  still_waits other cell mark at = go (cases_eq other place)
    where
      go : (other ≡ place) ⊎ (other ≡ place → ⊥) → IsKeptAt new other cell mark
      go (inl same) = record {
        list = adds.list;
        kept = ap (get nat_cmp new) same ∙ adds.kept;
        listed = record {
          waiter = at.listed.waiter;
          listed = subst (λ l. Contains l at.listed.waiter) (sym adds.items)
              (Contains-append_left adds.before (waiter ∷ []) at.listed.waiter (subst (λ l. Contains l at.listed.waiter)
              (adds.was.all at.list (sym (ap (get nat_cmp old) same) ∙ at.kept)) at.listed.listed));
          cell_is = at.listed.cell_is;
          mark_is = at.listed.mark_is;
        };
      }
      go (inr differs) = record { list = at.list; kept = adds.others other differs ∙ at.kept; listed = at.listed }

  pub waits_too : IsKeptAt new place waiter.cell waiter.mark
  waits_too = record {
    list = adds.list;
    kept = adds.kept;
    listed =
        record {
          waiter = waiter;
          listed = subst (λ l. Contains l waiter) (sym adds.items) (Contains-append_right adds.before (waiter
              ∷ []) waiter (0, omega arith, refl));
          cell_is = refl;
          mark_is = refl;
        };
  }

  -- each that waits now waited before, or is the one
  pub waited : (Such : Waiter → Type 0) → Such waiter → ((p : ℕ) (list : Vec Waiter Global) (w : Waiter)
      → get nat_cmp old p ≡ Some list → Contains list.items w → Such w)
      → (p : ℕ) (list : Vec Waiter Global) (w : Waiter) → get nat_cmp new p ≡ Some list → Contains list.items w → Such w
  waited Such this others p list w kept listed = go (cases_eq p place)
    where
      go : (p ≡ place) ⊎ (p ≡ place → ⊥) → Such w
      go (inr differs) = others p list w (sym (adds.others p differs) ∙ kept) listed
      go (inl same) =
          at (Contains-append_cases adds.before (waiter
          ∷ []) w (subst (λ l. Contains l w) (ap (λ (v : Vec Waiter Global). v.items) lists ∙ adds.items) listed))
        where
          lists : list ≡ adds.list
          lists = some_same (sym kept ∙ ap (get nat_cmp new) same ∙ adds.kept)

          at : Contains adds.before w ⊎ Contains (waiter ∷ []) w → Such w
          at (inl before) = (let had = adds.was.each w before in others place had.0 w had.1 had.2)
          at (inr last) = subst Such (sym (only_member waiter w last)) this

-- a cell waits on a marked one to which it refers
pub placed_waiting : (sheet : SheetValue) (marks : List ℕ) (input : Position) (waiter : Waiter) (old new : Queue)
    → IsWaiter sheet marks waiter → 1 ≤ waiter.mark → waiter.mark ≤ old.last → mark_of sheet.sizes marks waiter.cell ≡ waiter.mark
    → IsMarkedInput sheet marks waiter.cell input
    → AddsWaiter old.waits new.waits (place_of sheet.sizes input) waiter → new.ready ≡ old.ready → new.first ≡ old.first
    → new.last ≡ old.last → Places sheet marks waiter.cell old new
placed_waiting sheet marks input waiter old new is some known current on adds ready_are first_is last_is left rest split are = record {
  within = λ place held. are.within place (subst (λ r. IsTrue (contains nat_cmp r place)) ready_are held);
  ready = λ c there held. are.ready c there (subst (λ r. IsTrue (contains nat_cmp r (place_of sheet.sizes c))) ready_are held);
  waiters = subst (λ n. (p : ℕ) (list : Vec Waiter Global) (w : Waiter) → get nat_cmp new.waits p ≡ Some list
      → Contains list.items w → MayWait sheet marks n w) (sym last_is)
      (waited old.waits new.waits (place_of sheet.sizes input) waiter adds (MayWait sheet marks old.last)
      (record { some = some; known = known; looked = λ still. is }) are.waiters);
  each = λ c there marked. each c there (are.each c there marked);
  first = subst (NoneMarked sheet.sizes marks) (sym first_is) are.first;
}
  where
    each : (c : Position) → IsTrue (is_inside sheet.sizes c) → Holds sheet marks old c ⊎ WaitsOn sheet marks old.waits c
        ⊎ IsUnplaced sheet.sizes marks left c → Holds sheet marks new c ⊎ WaitsOn sheet marks new.waits c
        ⊎ IsUnplaced sheet.sizes marks rest c
    each c there (inl held) = inl (subst (λ r. IsTrue (contains nat_cmp r (place_of sheet.sizes c))) (sym ready_are) held)
    each c there (inr (inl other)) =
        inr
        (inl (record {
          input = other.input;
          is = other.is;
          at = still_waits old.waits new.waits (place_of sheet.sizes input) waiter adds (place_of sheet.sizes other.input)
              c (mark_of sheet.sizes marks c) other.at;
        }))
    each c there (inr (inr still)) = at (split c there still)
      where
        at : IsUnplaced sheet.sizes marks rest c ⊎ (c ≡ waiter.cell) → Holds sheet marks new c
            ⊎ WaitsOn sheet marks new.waits c ⊎ IsUnplaced sheet.sizes marks rest c
        at (inl open_still) = inr (inr open_still)
        at (inr same) =
            inr
            (inl (subst (WaitsOn sheet marks new.waits) (sym same) (record {
              input = input;
              is = on;
              at = subst (IsKeptAt new.waits (place_of sheet.sizes input) waiter.cell) (sym current)
                  (waits_too old.waits new.waits (place_of sheet.sizes input) waiter adds);
            })))

-- the mark of one cell is taken away
module _ (sheet : SheetValue) (old : List ℕ) (cell : Position) (count : length old ≡ cell_count sheet.sizes)
    (inside : IsTrue (is_inside sheet.sizes cell)) where
  abbrev pub new_marks : List ℕ
  new_marks = without_mark sheet.sizes old cell

  same_number : (other : Position) → other ≢ cell → mark_of sheet.sizes new_marks other ≡ mark_of sheet.sizes old other
  same_number other differs =
      let both : SetsMarks sheet.sizes (cell ∷ []) 0 old new_marks = marks_one sheet.sizes cell 0 old count inside in
      both.others other (λ there. differs (only_member cell other there))

  same_mark : (other : Position) → other ≢ cell → is_marked sheet.sizes new_marks other ≡ is_marked sheet.sizes old other
  same_mark other differs = ap (nat_lt 0) (same_number other differs)

  no_mark : IsFalse (is_marked sheet.sizes new_marks cell)
  no_mark = unmarked_from (mark_of sheet.sizes new_marks cell) (set_here sheet.sizes old cell 0 count inside)

  still_unmarked : (other : Position) → IsFalse (is_marked sheet.sizes old other) → IsFalse (is_marked sheet.sizes new_marks other)
  still_unmarked other unmarked = go (one_or_two other cell)
    where
      go : (other ≡ cell) ⊎ (other ≢ cell) → IsFalse (is_marked sheet.sizes new_marks other)
      go (inl same) = subst (λ p. IsFalse (is_marked sheet.sizes new_marks p)) (sym same) no_mark
      go (inr differs) = same_mark other differs ∙ unmarked

  was_marked : (other : Position) → IsMarked sheet.sizes new_marks other → (other ≢ cell) × IsMarked sheet.sizes old other
  was_marked other marked = go (one_or_two other cell)
    where
      go : (other ≡ cell) ⊎ (other ≢ cell) → (other ≢ cell) × IsMarked sheet.sizes old other
      go (inl same) = absurd (not_both (is_marked sheet.sizes new_marks cell) (subst (λ p. IsMarked sheet.sizes new_marks p) same marked) no_mark)
      go (inr differs) = (differs, sym (same_mark other differs) ∙ marked)

  still_waiter : (waiter : Waiter) → IsWaiter sheet old waiter → IsWaiter sheet new_marks waiter
  still_waiter waiter is = record {
    inside = is.inside;
    refs = is.refs;
    before = λ range listed other there. still_unmarked other (is.before range listed other there);
    part = λ range at k other below there here. still_unmarked other (is.part range at k other below there here);
  }

  -- the cell itself has no mark, and so not that with which it waited
  may_still : (last : ℕ) (waiter : Waiter) → MayWait sheet old last waiter → MayWait sheet new_marks last waiter
  may_still last waiter may = record { some = may.some; known = may.known; looked = λ current. looked current (one_or_two waiter.cell cell) }
    where
      looked : mark_of sheet.sizes new_marks waiter.cell ≡ waiter.mark → (waiter.cell ≡ cell) ⊎ (waiter.cell ≢ cell) → IsWaiter sheet new_marks waiter
      looked current (inl same) =
          let none : mark_of sheet.sizes new_marks waiter.cell ≡ 0 = ap (mark_of sheet.sizes new_marks) same ∙ set_here sheet.sizes old cell 0 count inside in
          let some = may.some in
          absurd (omega (arith, none, current, some))
      looked current (inr differs) = still_waiter waiter (may.looked (sym (same_number waiter.cell differs) ∙ current))

  -- those that waited on it are to be placed
  pub woken : (queue next : Queue) (list : List Waiter) → IsQueue sheet old (one cell) queue
      → contains nat_cmp queue.ready (place_of sheet.sizes cell) ≡ false
      → TakesWaiters queue.waits next.waits (place_of sheet.sizes cell) list → next.ready ≡ queue.ready
      → next.first ≡ queue.first → next.last ≡ queue.last → IsQueue sheet new_marks (waiting list) next
  woken queue next list are taken takes ready_are first_is last_is = record {
    within = λ place held. are.within place (subst (λ r. IsTrue (contains nat_cmp r place)) ready_are held);
    ready = λ c there held. ready c there (subst (λ r. IsTrue (contains nat_cmp r (place_of sheet.sizes c))) ready_are held);
    waiters = λ p kept waiter at listed. waiters p kept waiter at listed (cases_eq p (place_of sheet.sizes cell));
    each = λ c there marked. each c there (was_marked c marked).0 (are.each c there (was_marked c marked).1);
    first = subst (NoneMarked sheet.sizes new_marks) (sym first_is) (λ c there below marked. are.first c there below (was_marked c marked).1);
  }
    where
      ready : (c : Position) → IsTrue (is_inside sheet.sizes c) → Holds sheet old queue c → IsReady sheet new_marks c
      ready c there held =
          let was = are.ready c there held in
          let differs : c ≢ cell =
          (λ same. not_both (contains nat_cmp queue.ready (place_of sheet.sizes cell))
          (subst (λ (p : Position). Holds sheet old queue p) same held) taken) in
          record { marked = same_mark c differs ∙ was.marked; inputs = λ input step. still_unmarked input (was.inputs input step) }

      waiters : (p : ℕ) (kept : Vec Waiter Global) (waiter : Waiter) → get nat_cmp next.waits p ≡ Some kept
          → Contains kept.items waiter → (p ≡ place_of sheet.sizes cell) ⊎ (p ≡ place_of sheet.sizes cell → ⊥)
          → MayWait sheet new_marks next.last waiter
      waiters p kept waiter at listed (inl same) = absurd (conflict (sym takes.gone ∙ sym (ap (get nat_cmp next.waits) same) ∙ at))
        where
          conflict : {A : Type 0} {a : A} → None ≡ Some a → ⊥
          conflict h = cc
      waiters p kept waiter at listed (inr differs) =
          subst (λ n. MayWait sheet new_marks n waiter) (sym last_is)
          (may_still queue.last waiter (are.waiters p kept waiter (sym (takes.others p differs) ∙ at) listed))

      each : (c : Position) → IsTrue (is_inside sheet.sizes c) → c ≢ cell → Holds sheet old queue c
          ⊎ WaitsOn sheet old queue.waits c ⊎ (c ≡ cell) → Holds sheet new_marks next c
          ⊎ WaitsOn sheet new_marks next.waits c ⊎ HasWaiter list c (mark_of sheet.sizes new_marks c)
      each c there differs (inl held) = inl (subst (λ r. IsTrue (contains nat_cmp r (place_of sheet.sizes c))) (sym ready_are) held)
      each c there differs (inr (inr same)) = absurd (differs same)
      each c there differs (inr (inl on)) = go (one_or_two on.input cell)
        where
          go : (on.input ≡ cell) ⊎ (on.input ≢ cell) → Holds sheet new_marks next c ⊎ WaitsOn sheet new_marks next.waits c
              ⊎ HasWaiter list c (mark_of sheet.sizes new_marks c)
          go (inl same) =
              let whole = takes.taken.all on.at.list (sym (ap (λ p. get nat_cmp queue.waits (place_of sheet.sizes p)) same) ∙ on.at.kept) in
              inr
              (inr (record {
                waiter = on.at.listed.waiter;
                listed = subst (λ l. Contains l on.at.listed.waiter) whole on.at.listed.listed;
                cell_is = on.at.listed.cell_is;
                mark_is = on.at.listed.mark_is ∙ sym (same_number c differs);
              }))
          go (inr other) =
              let input_there = marked_inside sheet.sizes old on.input on.is.marked in
              let apart : place_of sheet.sizes on.input ≡ place_of sheet.sizes cell
              → ⊥ = (λ same. other (place_same sheet.sizes on.input cell input_there inside same)) in
              inr (inl (record {
                input = on.input;
                is = record { marked = same_mark on.input other ∙ on.is.marked; step = on.is.step };
                at = record {
                  list = on.at.list;
                  kept = takes.others (place_of sheet.sizes on.input) apart ∙ on.at.kept;
                  listed = subst (HasWaiter on.at.list.items c) (sym (same_number c differs)) on.at.listed;
                };
              }))

  -- and each of them looks as before
  pub woken_waiters : (queue : Queue) (list : List Waiter) (left : Unplaced) → IsQueue sheet old left queue
      → WaitAt queue.waits (place_of sheet.sizes cell) list → AreWaiters sheet new_marks queue.last list
  woken_waiters queue list left are taken waiter listed =
      let had = taken.each waiter listed in
      may_still queue.last waiter (are.waiters (place_of sheet.sizes cell) had.0 waiter had.1 had.2)
