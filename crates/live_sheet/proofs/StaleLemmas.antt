-- What reads with the editor's seat come to, and which cells they leave as stale.
use Rattle.std.proofs.Common.{◌≡◌, ◌≢◌, ◌⊎◌, inl, inr, ℕ, ◌+◌, ◌*◌, ◌/◌, ◌%◌, ◌<◌, ◌≤◌, ◌↔◌, List, [], ◌∷◌, ◌++◌, Some}
use Rattle.std.proofs.Common.{true, length, take, get_or, slice_get, Contains, refl, sym, ◌∙◌, ap, subst, arith}
use Rattle.std.specs.Bool.{OnTrue}
use Rattle.std.specs.Prelude.{Bool, false, IsTrue}
use Rattle.std.proofs.lemmas.Bool.{cases_eq}
use Rattle.std.proofs.lemmas.Nat.{div-add-mod'}
use Rattle.std.proofs.lemmas.List.{append_assoc, append-nil, length-take, get_or-take, get_or_default}
use Rattle.std.proofs.lemmas.List.Elements.{Contains-append_cases, Contains-append_left, Contains-append_right}
use Rattle.std.proofs.lemmas.List.Elements.{Contains-push, Contains-push_cases, Contains-get_or}
use Rattle.std.proofs.lemmas.Option.{slice_get_within, slice_get-get_or, get_or_from_slice_get}
use Rattle.sheet_refs.specs.Cells.{Position, Corners, IsIn, ListsCells, cells_of, width}
use Rattle.sheet_refs.specs.Rectangles.{AreDisjoint, IsAmong}
use Rattle.sheet_refs.specs.Sizes.{cell_of_place, place_of}
use Rattle.sheet_refs.specs.declared.sizes.Sizes.{Sizes}
use Rattle.sheet_refs.proofs.Places.{HasComeTo, range_place}
use Rattle.sheet_refs.proofs.Tiles.{Across, AllPairs-append}
use Rattle.graph_walk.proofs.GatherLemmas.{among_next}
use Rattle.mark_core.specs.declared.actors.Edits.{Edits}
use Rattle.mark_core.specs.declared.actors.View.{View}
use Rattle.mark_core.specs.declared.subjects.Subject.{Ghosts}
use Rattle.mark_core.specs.Knows.{KnowsClean}
use Rattle.mark_words.specs.declared.marks.Marks.{Marks}
use Rattle.mark_words.specs.declared.seats.Seat.{Seat}
use Rattle.mark_words.specs.Tokens.{IsSeatOf, view_of}
use Rattle.recalc_workers.specs.Settling.{KeepsEditor, KnowsPlace}
use Rattle.recalc_workers.proofs.ReadingLemmas.{taken_more}
use Rattle.recalc_workers.proofs.SeatLemmas.{keeps_itself}
use Rattle.recalc_workers.proofs.SettlingLemmas.{knows_still}
use Rattle.recalc_workers.proofs.SharingLemmas.{editor_knows, keeps_editor_on}
use Rattle.live_sheet.specs.Stale.{AddsStale, IsFree, IsListedOr, KnowsAllBut, KnowsCell}

-- two entries that are one
same_entry : {a b : Position} → Some a ≡ Some b → a ≡ b
same_entry is = cc

-- a cell stands at one place of a range
one_place : (range : Corners) (j k : ℕ) (cell : Position) → slice_get (cells_of range) j ≡ Some cell → slice_get (cells_of range) k ≡ Some cell → j ≡ k
one_place range j k cell at_j at_k =
    let w : ℕ = width range in
    let a = range_place range j (slice_get_within (cells_of range) j cell at_j) in
    let b = range_place range k (slice_get_within (cells_of range) k cell at_k) in
    let same : cell_of_place range j ≡ cell_of_place range k = same_entry (sym a.cell ∙ at_j ∙ sym at_k ∙ b.cell) in
    let row : range.head.row + j / w ≡ range.head.row + k / w = ap (λ (c : Position). c.row) same in
    let col : range.head.col + j % w ≡ range.head.col + k % w = ap (λ (c : Position). c.col) same in
    let rows_same : j / w ≡ k / w = omega arith in
    let product : j / w * w ≡ k / w * w = ap (λ n. n * w) rows_same in
    omega (arith, div-add-mod' j w, div-add-mod' k w, product, col)

-- a cell of a range that stands before a place
pub record IsBefore (range : Corners) (place : ℕ) (cell : Position) : Type 0 where
  pub at : ℕ
  pub before : at < place
  pub listed : slice_get (cells_of range) at ≡ Some cell

nothing_listed : (cell : Position) → Contains [] cell → ⊥
nothing_listed cell has = omega (arith, has.1)

-- where a test tells whether a read has shown the place as clean, the place is known where it passes
pub read_knows : {E : Type 0} (touches : List E → E → ℕ → Type 0) (view : View (List E)) (place upto mark : ℕ) (clean : Bool)
    → (upto ≡ mark + 1 → KnowsClean touches view.log view place mark) → (IsTrue clean ↔ (upto ≡ mark + 1)) → OnTrue clean (KnowsPlace touches view place)
read_knows touches view place upto mark true known is = (mark, known (is.0 refl))
read_knows touches view place upto mark false known is = tt

-- a cell of one of the first ranges is in no later one
pub apart_from_first : (ranges : List Corners) (place : ℕ) (range : Corners) (cell : Position) → AreDisjoint ranges
    → place < length ranges → range ≡ get_or ranges place range
    → IsAmong (take place ranges) cell → ¬ IsIn cell range
apart_from_first ranges place range cell disjoint within here among inside =
    let k : ℕ = among.listed.0 in
    let before : k < place = omega (arith, among.listed.1, length-take place ranges) in
    let first : IsIn cell (get_or ranges k range) = subst (λ (r : Corners). IsIn cell r) (sym among.listed.2
    ∙ (get_or-take place ranges k among.range before ∙ get_or_default ranges k among.range range (omega arith)))
    among.inside in
    disjoint k place range before within (cell, record { first = first; second = subst (λ (r : Corners). IsIn cell r) here inside })

module _ (Knows : Position → Type 0) where
  -- where more is known, what is left is left
  pub still_left : (More Set : Position → Type 0) (stale : List Position) → ((cell : Position) → Knows cell → More cell)
      → KnowsAllBut Knows Set stale → KnowsAllBut More Set stale
  still_left More Set stale more left =
      record {
        of_set = left.of_set;
        each = λ cell is. by_case cell (left.each cell is);
        distinct = left.distinct;
      }
    where
      by_case : (cell : Position) → Knows cell ⊎ Contains stale cell → More cell ⊎ Contains stale cell
      by_case cell (inl known) = inl (more cell known)
      by_case cell (inr listed) = inr listed

  pub adds_still : (More Set : Position → Type 0) (old new : List Position)
      → ((cell : Position) → Knows cell → More cell) → AddsStale Knows Set old new → AddsStale More Set old new
  adds_still More Set old new more adds = record { added = adds.added; whole = adds.whole; stale = still_left More Set adds.added more adds.stale }

  -- the same cells by another name
  same_set : (Set Other : Position → Type 0) (stale : List Position) → ((cell : Position) → Set cell ↔ Other cell)
      → KnowsAllBut Knows Set stale → KnowsAllBut Knows Other stale
  same_set Set Other stale same left =
      record {
        of_set = λ cell has. (same cell).0 (left.of_set cell has);
        each = λ cell is. left.each cell ((same cell).1 is);
        distinct = left.distinct;
      }

  -- of no cells none is left
  none_left : (Set : Position → Type 0) → ((cell : Position) → ¬ Set cell) → KnowsAllBut Knows Set []
  none_left Set none =
      record {
        of_set = λ cell has. absurd (nothing_listed cell has);
        each = λ cell is. absurd (none cell is);
        distinct = λ i j d before within. absurd (omega (arith, within));
      }

  -- those of two sets that share no cell
  both_left : (A B : Position → Type 0) (xs ys : List Position) → ((cell : Position) → A cell → ¬ B cell) → KnowsAllBut Knows A xs → KnowsAllBut Knows B ys
      → KnowsAllBut Knows (λ cell. A cell ⊎ B cell) (xs ++ ys)
  both_left A B xs ys apart first second =
      record {
        of_set = λ cell has. from cell (Contains-append_cases xs ys cell has);
        each = λ cell is. to cell is;
        distinct = AllPairs-append (λ a b. a ≢ b) xs ys first.distinct second.distinct across;
      }
    where
      from : (cell : Position) → Contains xs cell ⊎ Contains ys cell → A cell ⊎ B cell
      from cell (inl has) = inl (first.of_set cell has)
      from cell (inr has) = inr (second.of_set cell has)

      to : (cell : Position) → A cell ⊎ B cell → Knows cell ⊎ Contains (xs ++ ys) cell
      to cell (inl is) = elim (first.each cell is) [ inl known ↦ inl known | inr has ↦ inr (Contains-append_left xs ys cell has) ]
      to cell (inr is) = elim (second.each cell is) [ inl known ↦ inl known | inr has ↦ inr (Contains-append_right xs ys cell has) ]

      across : Across (λ a b. a ≢ b) xs ys
      across i j d i_in j_in same =
          apart (get_or ys j d) (subst A same (first.of_set (get_or xs i d) (Contains-get_or xs i d i_in)))
          (second.of_set (get_or ys j d) (Contains-get_or ys j d j_in))

  -- of one cell
  one_known : (cell : Position) → Knows cell → KnowsAllBut Knows (λ c. c ≡ cell) []
  one_known cell known =
      record {
        of_set = λ c has. absurd (nothing_listed c has);
        each = λ c is. inl (subst Knows (sym is) known);
        distinct = λ i j d before within. absurd (omega (arith, within));
      }

  one_stale : (cell : Position) → KnowsAllBut Knows (λ c. c ≡ cell) (cell ∷ [])
  one_stale cell =
      record {
        of_set = λ c has. from c (Contains-push_cases [] cell c has);
        each = λ c is. inr (subst (λ (x : Position). Contains (cell ∷ []) x) (sym is) (Contains-push [] cell));
        distinct = λ i j d before within. absurd (omega (arith, within, before));
      }
    where
      from : (c : Position) → Contains [] c ⊎ (cell ≡ c) → c ≡ cell
      from c (inl has) = absurd (nothing_listed c has)
      from c (inr same) = sym same

  -- the cells before the next place of a range are those before the place and the cell there
  next_place : (range : Corners) (place : ℕ) (cell : Position) → slice_get (cells_of range) place ≡ Some cell
      → (c : Position) → (IsBefore range place c ⊎ (c ≡ cell)) ↔ IsBefore range (place + 1) c
  next_place range place cell here c = (to, from)
    where
      to : IsBefore range place c ⊎ (c ≡ cell) → IsBefore range (place + 1) c
      to (inl is) = record { at = is.at; before = omega (arith, is.before); listed = is.listed }
      to (inr same) = record { at = place; before = omega arith; listed = here ∙ ap Some (sym same) }

      by_place : (is : IsBefore range (place + 1) c) → (is.at ≡ place) ⊎ (is.at ≢ place) → IsBefore range place c ⊎ (c ≡ cell)
      by_place is (inl same) = inr (same_entry (sym is.listed ∙ ap (slice_get (cells_of range)) same ∙ here))
      by_place is (inr other) = inl (record { at = is.at; before = omega (arith, is.before); listed = is.listed })

      from : IsBefore range (place + 1) c → IsBefore range place c ⊎ (c ≡ cell)
      from is = by_place is (cases_eq is.at place)

  -- one cell more of a range
  pub adds_next : (range : Corners) (place : ℕ) (cell : Position) (old now new : List Position) → slice_get (cells_of range) place ≡ Some cell
      → AddsStale Knows (IsBefore range place) old now → IsListedOr Knows cell now new → AddsStale Knows (IsBefore range (place + 1)) old new
  adds_next range place cell old now new here adds listed = by_case listed
    where
      apart : (c : Position) → IsBefore range place c → ¬ (c ≡ cell)
      apart c is same = let at_one = one_place range is.at place c is.listed (here ∙ ap Some (sym same)) in omega (arith, is.before, at_one)

      joined : (ys : List Position) → KnowsAllBut Knows (λ c. c ≡ cell) ys → KnowsAllBut Knows (IsBefore range (place + 1)) (adds.added ++ ys)
      joined ys one =
          same_set (λ c. IsBefore range place c ⊎ (c ≡ cell)) (IsBefore range (place + 1)) (adds.added ++ ys) (next_place range place cell here)
          (both_left (IsBefore range place) (λ c. c ≡ cell) adds.added ys apart adds.stale one)

      by_case : (Knows cell × (new ≡ now)) ⊎ (new ≡ now ++ cell ∷ []) → AddsStale Knows (IsBefore range (place + 1)) old new
      by_case (inl (known, same)) =
          record {
            added = adds.added ++ [];
            whole = same ∙ adds.whole
                ∙ ap (λ l. old ++ l) (sym (append-nil adds.added));
            stale = joined [] (one_known cell known);
          }
      by_case (inr pushed) =
          record {
            added = adds.added ++ cell ∷ [];
            whole = pushed ∙ ap (λ l. l ++ cell ∷ []) adds.whole ∙ append_assoc old adds.added (cell ∷ []);
            stale = joined (cell ∷ []) (one_stale cell);
          }

  pub adds_none : (range : Corners) (old : List Position) → AddsStale Knows (IsBefore range 0) old old
  adds_none range old = record { added = []; whole = sym (append-nil old); stale = none_left (IsBefore range 0) (λ cell is. omega (arith, is.before)) }

  pub adds_all : (range : Corners) (count place : ℕ) (old new : List Position) → count ≡ length (cells_of range)
      → ListsCells (cells_of range) range → count ≤ place
      → AddsStale Knows (IsBefore range place) old new → AddsStale Knows (λ cell. IsIn cell range) old new
  adds_all range count place old new all lists past adds =
      record {
        added = adds.added;
        whole = adds.whole;
        stale = same_set (IsBefore range place) (λ cell. IsIn cell range)
            adds.added (λ cell. (to cell, from cell)) adds.stale;
      }
    where
      to : (cell : Position) → IsBefore range place cell → IsIn cell range
      to cell is =
          (lists cell).0 (is.at, slice_get_within (cells_of range) is.at cell is.listed, get_or_from_slice_get (cells_of range) is.at cell cell is.listed)

      from : (cell : Position) → IsIn cell range → IsBefore range place cell
      from cell inside =
          let has = (lists cell).1 inside in
          record {
            at = has.0;
            before = omega (arith, has.1, all, past);
            listed = slice_get-get_or (cells_of range) has.0 cell has.1 ∙ ap Some has.2;
          }

  -- one range more
  pub next_range : (ranges : List Corners) (place : ℕ) (range : Corners) (old new : List Position) → AreDisjoint ranges
      → place < length ranges → range ≡ get_or ranges place range
      → KnowsAllBut Knows (IsAmong (take place ranges)) old → AddsStale Knows (λ cell. IsIn cell range) old new
      → KnowsAllBut Knows (IsAmong (take (place + 1) ranges)) new
  next_range ranges place range old new disjoint within here left adds =
      let joined = both_left (IsAmong (take place ranges)) (λ cell. IsIn cell range) old adds.added
      (λ cell. apart_from_first ranges place range cell disjoint within here) left adds.stale in
      let more : take (place + 1) ranges ≡ take place ranges ++ range ∷ [] = taken_more ranges place range within here in
      subst (λ (l : List Position). KnowsAllBut Knows (IsAmong (take (place + 1) ranges)) l) (sym adds.whole)
      (subst (λ (rs : List Corners). KnowsAllBut Knows (IsAmong rs) (old ++ adds.added)) (sym more)
      (same_set (λ cell. IsAmong (take place ranges) cell ⊎ IsIn cell range) (IsAmong (take place ranges ++ range ∷ [])) (old ++ adds.added)
      (λ cell. let both = among_next (take place ranges) range cell in (both.1, both.0)) joined))

  pub no_range : (ranges : List Corners) → KnowsAllBut Knows (IsAmong (take 0 ranges)) []
  no_range ranges = none_left (IsAmong (take 0 ranges)) (λ cell is. omega (arith, is.listed.1))

module _ {S E : Type 0} {G : Ghosts S E} where
  pub kept_itself : (a : Seat S E G) → KeepsEditor a a
  kept_itself a = record { keeps = keeps_itself a; idle = record { holds = refl; done = refl; lost = refl }; log = refl; edits = refl; editor = refl }

  -- what the editor's seat knew of a cell it knows still
  pub cell_still : (touches : List E → E → ℕ → Type 0) (sizes : Sizes) (a b : Seat S E G) → KeepsEditor a b → (cell : Position)
      → KnowsCell touches sizes (view_of a) cell → KnowsCell touches sizes (view_of b) cell
  cell_still touches sizes a b kept cell known = knows_still touches (view_of a) (view_of b) (place_of sizes cell) (editor_knows a b kept) known

  -- it is the editor's still, and nothing is pending
  pub free_still : (a b : Seat S E G) → KeepsEditor a b → IsFree a → IsFree b
  free_still a b kept free =
      record { editor = kept.editor ∙ free.editor; idle = ap (λ (e : Edits E). e.pending) kept.edits ∙ free.idle }

  -- the editor's seat and the list while the cells of a range are gone through, row by row
  module _ (marks : Marks S E) (touches : List E → E → ℕ → Type 0) (sizes : Sizes) (range : Corners) (editor₀ : Seat S E G) (old : List Position) where
    pub record RangeSoFar (editor : Seat S E G) (now : List Position) (place : ℕ) (cell : Position) : Type 0 where
      pub table : IsSeatOf marks editor
      pub kept : KeepsEditor editor₀ editor
      pub stale : AddsStale (KnowsCell touches sizes (view_of editor)) (IsBefore range place) old now
      pub at : HasComeTo range place cell

    pub range_begins : IsSeatOf marks editor₀ → (cell : Position) → HasComeTo range 0 cell → RangeSoFar editor₀ old 0 cell
    range_begins table cell at =
        record {
          table = table;
          kept = kept_itself editor₀;
          stale = adds_none (KnowsCell touches sizes (view_of editor₀)) range old;
          at = at;
        }

    pub range_goes_on : (editor next : Seat S E G) (now new : List Position) (place : ℕ) (cell behind : Position) → RangeSoFar editor now place cell
        → slice_get (cells_of range) place ≡ Some cell → IsSeatOf marks next → KeepsEditor editor next
        → IsListedOr (KnowsCell touches sizes (view_of next)) cell now new
        → HasComeTo range (place + 1) behind → RangeSoFar next new (place + 1) behind
    range_goes_on editor next now new place cell behind so here table kept listed at =
        record {
          table = table;
          kept = keeps_editor_on editor₀ editor next so.kept kept;
          stale = adds_next (KnowsCell touches sizes (view_of next)) range place cell old now new here
              (adds_still (KnowsCell touches sizes (view_of editor)) (KnowsCell touches sizes (view_of next))
              (IsBefore range place) old now (cell_still touches sizes editor next kept) so.stale) listed;
          at = at;
        }

  -- and while ranges are gone through
  module _ (marks : Marks S E) (touches : List E → E → ℕ → Type 0) (sizes : Sizes) (ranges : List Corners) (editor₀ : Seat S E G) where
    pub record RangesSoFar (editor : Seat S E G) (stale : List Position) (place : ℕ) : Type 0 where
      pub table : IsSeatOf marks editor
      pub kept : KeepsEditor editor₀ editor
      pub left : KnowsAllBut (KnowsCell touches sizes (view_of editor)) (IsAmong (take place ranges)) stale

    pub ranges_begin : IsSeatOf marks editor₀ → RangesSoFar editor₀ [] 0
    ranges_begin table = record { table = table; kept = kept_itself editor₀; left = no_range (KnowsCell touches sizes (view_of editor₀)) ranges }

    pub ranges_go_on : (editor next : Seat S E G) (old new : List Position) (place : ℕ) (range : Corners)
        → RangesSoFar editor old place → AreDisjoint ranges → place < length ranges
        → range ≡ get_or ranges place range → IsSeatOf marks next → KeepsEditor editor next
        → AddsStale (KnowsCell touches sizes (view_of next)) (λ cell. IsIn cell range) old new
        → RangesSoFar next new (place + 1)
    ranges_go_on editor next old new place range so disjoint within here table kept adds =
        record {
          table = table;
          kept = keeps_editor_on editor₀ editor next so.kept kept;
          left = next_range (KnowsCell touches sizes (view_of next)) ranges place range old new disjoint within here
              (still_left (KnowsCell touches sizes (view_of editor)) (KnowsCell touches sizes (view_of next))
              (IsAmong (take place ranges)) old (cell_still touches sizes editor next kept) so.left) adds;
        }
