-- The cells that depend on a cell by the pairs of a graph are those that an entry touches, and all lie in the sheet.
use Rattle.std.proofs.Common.{◌≡◌, ◌≢◌, ◌↔◌, ◌⊎◌, inl, inr, ℕ, zero, suc, ◌+◌, ◌*◌, ◌<◌, ◌≤◌, length, length-append}
use Rattle.std.proofs.Common.{List, ◌∷◌, [], ◌++◌, All, IsTrue, Contains, arith, refl, sym, ap, subst, ◌∙◌}
use Rattle.std.proofs.lemmas.List.Elements.{All-push}
use Rattle.sheet_refs.specs.Cells.{Position, Corners, IsIn, span_of}
use Rattle.sheet_refs.specs.Rectangles.{IsAmong}
use Rattle.sheet_refs.specs.Sizes.{AreNamed, is_inside}
use Rattle.sheet_refs.specs.declared.sizes.Sizes.{Sizes}
use Rattle.sheet_refs.proofs.Places.{inside_from}
use Rattle.formula_syntax.specs.Listing.{IsOnceEach}
use Rattle.formula_syntax.proofs.Listings.{once_all, once_back}
use Rattle.graph_walk.specs.Graphs.{Pair, Step, Replaces, SamePairs}
use Rattle.graph_walk.specs.Starts.{ReachOfAll, HoldsReachOfAll}
use Rattle.graph_walk.proofs.PathLemmas.{reached_start, reached_step, reached_within}
use Rattle.sheet_model.specs.Changes.{ChangeValue, after_change}
use Rattle.sheet_model.specs.Edits.{EditValue, AreHeldBeside, AreInSheet, AreWritten, HaveLabels, IsEdit, IsFor, after_edit}
use Rattle.sheet_model.specs.Logs.{after, AreHeld}
use Rattle.sheet_model.specs.Sheets.{SheetValue, ContentValue, IsSheet, IsSheetSize, content_of}
use Rattle.sheet_model.specs.declared.entry.Entry.{Entry}
use Rattle.sheet_model.proofs.ChangeLemmas.{change-fills, change-others}
use Rattle.sheet_model.proofs.EditLemmas.{first_or_later, of_each, one_or_two}
use Rattle.sheet_model.proofs.LogLemmas.{after-more, after-sizes, after-labels, after-sheet}
use Rattle.edit_log.specs.Books.{BookValue, IsBookOf, IsPreparedFor, IsUnchanged, PreparedValue}
use Rattle.edit_log.specs.Kept.{Depends}
use Rattle.edit_log.specs.Pairs.{IsPairOf, ArePairsOf, IsFilled}
use Rattle.edit_log.specs.Rows.{LieInside}
use Rattle.sheet_model.specs.Ranges.{ranges_in}
use Rattle.edit_log.specs.Touches.{DependsDirectly, IsChangedBy, IsReachInside, Touches, AreTouched, ListsRowByRow, cell_range, cell_ranges, of_change}
use Rattle.sheet_model.proofs.ListMembers.{all_from, first_member, mapped_from, mapped_to, no_member}
use Rattle.edit_log.proofs.PairLemmas.{pair_inside}

-- the range of one cell has that cell alone
pub one_cell : (cell from : Position) → IsIn from (span_of cell cell) → from ≡ cell
one_cell cell from inside =
    let row : from.row ≡ cell.row = omega (arith, inside.row_from, inside.row_to) in
    let col : from.col ≡ cell.col = omega (arith, inside.col_from, inside.col_to) in
    λ i. record { row = row i; col = col i }

pub in_one_cell : (cell : Position) → IsIn cell (span_of cell cell)
in_one_cell cell = record { row_from = omega arith; row_to = omega arith; col_from = omega arith; col_to = omega arith }

-- a cell is among the ranges of single cells exactly where one of the changes is of it
among_changed : (edit : EditValue) (cell : Position) → IsAmong (cell_ranges edit) cell → IsChangedBy edit cell
among_changed edit cell among =
    let (change, there, is) = mapped_from cell_range edit among.range among.listed in
    (change, there, one_cell change.cell cell (subst (λ (r : Corners). IsIn cell r) (sym is) among.inside))

changed_among : (edit : EditValue) (cell : Position) → IsChangedBy edit cell → IsAmong (cell_ranges edit) cell
changed_among edit cell (change, there, is) = record {
  range = cell_range change;
  listed = mapped_to cell_range edit change there;
  inside = subst (λ (p : Position). IsIn p (cell_range change)) (sym is) (in_one_cell change.cell);
}

-- what a graph reaches from the changed cells are the cells that depend on them
pub reach_depends : (sheet : SheetValue) (pairs : List Pair) (edit : EditValue) → ArePairsOf sheet pairs
    → (cell : Position) → ReachOfAll pairs (cell_ranges edit) cell ↔ Depends sheet edit cell
reach_depends sheet pairs edit are cell = (
  reached_within (Step pairs) (IsAmong (cell_ranges edit)) (Depends sheet edit)
      (λ c among. reached_start (DependsDirectly sheet) (IsChangedBy edit) c (among_changed edit c among))
      (λ from to one depends. reached_step (DependsDirectly sheet) (IsChangedBy edit) from to depends
      (record {
        pair = one.pair;
        of_sheet = (are one.pair).0 one.listed;
        inside = one.inside;
        cell_is = one.cell_is;
      }))
      cell,
  reached_within (DependsDirectly sheet) (IsChangedBy edit) (ReachOfAll pairs (cell_ranges edit))
      (λ c is. reached_start (Step pairs) (IsAmong (cell_ranges edit)) c (changed_among edit c is))
      (λ from to one reached. reached_step (Step pairs) (IsAmong (cell_ranges edit)) from to reached
      (record {
        pair = one.pair;
        listed = (are one.pair).1 one.of_sheet;
        inside = one.inside;
        cell_is = one.cell_is;
      }))
      cell,
)

-- the cells that depend on cells of the sheet lie in it
pub depends_inside : (sheet : SheetValue) (edit : EditValue) → AreInSheet sheet edit → (cell : Position)
    → Depends sheet edit cell → IsTrue (is_inside sheet.sizes cell)
depends_inside sheet edit inside = reached_within (DependsDirectly sheet) (IsChangedBy edit) (λ c. IsTrue (is_inside sheet.sizes c))
    (λ c (change, there, is). subst (λ (p : Position). IsTrue (is_inside sheet.sizes p)) (sym is)
    (of_each (λ (x : ChangeValue). IsTrue (is_inside sheet.sizes x.cell)) edit change inside there))
    (λ from to one from_in.
    let at = pair_inside sheet one.pair one.of_sheet in
    let there : IsTrue (is_inside sheet.sizes one.pair.cell) =
    inside_from sheet.sizes one.pair.cell (record {
      row_from = at.row_from;
      row_to = at.row_to;
      col_from = at.col_from;
      col_to = at.col_to;
    }) in
    subst (λ (p : Position). IsTrue (is_inside sheet.sizes p)) one.cell_is there)

pub reach_inside : (sheet : SheetValue) (pairs : List Pair) (edit : EditValue) → ArePairsOf sheet pairs
    → AreInSheet sheet edit → IsReachInside sheet.sizes pairs (cell_ranges edit)
reach_inside sheet pairs edit are inside cell reached = depends_inside sheet edit inside cell ((reach_depends sheet pairs edit are cell).0 reached)

-- a set of what is reached lies in the sheet
pub lies_inside : (sheet : SheetValue) (pairs : List Pair) (edit : EditValue) (set : List Corners) → ArePairsOf sheet pairs
    → AreInSheet sheet edit → HoldsReachOfAll pairs (cell_ranges edit) set → LieInside sheet.sizes set
lies_inside sheet pairs edit set are inside holds cell among = reach_inside sheet pairs edit are inside cell ((holds cell).0 among)

-- a list of a set that holds what is reached lists this
pub rows_of_reach : (sizes : Sizes) (pairs : List Pair) (ranges set runs : List Corners) (cells : List Position)
    → runs ≡ set → HoldsReachOfAll pairs ranges set → ListsRowByRow sizes cells (IsAmong runs)
    → ListsRowByRow sizes cells (ReachOfAll pairs ranges)
rows_of_reach sizes pairs ranges set runs cells same holds rows = record {
  exact = λ cell. (
    λ there. (holds cell).0 (subst (λ (rs : List Corners). IsAmong rs cell) same ((rows.exact cell).0 there)),
    λ reached. (rows.exact cell).1 (subst (λ (rs : List Corners). IsAmong rs cell) (sym same) ((holds cell).1 reached)),
  );
  order = rows.order;
}

-- what is reached from the cells that an entry changes is what the entry touches
pub touched_cells : (opening sheet : SheetValue) (log : List Entry) (pairs : List Pair) (entry : Entry)
    (cells : List Position) → IsBookOf opening sheet log pairs
    → ListsRowByRow sheet.sizes cells (ReachOfAll pairs (cell_ranges entry.edit)) → AreTouched opening log entry cells
touched_cells opening sheet log pairs entry cells is rows =
    let ranges : List Corners = cell_ranges entry.edit in
    let sizes : sheet.sizes ≡ opening.sizes = ap (λ (s : SheetValue). s.sizes) is.replayed ∙ after-sizes opening log in
    let touches : (cell : Position) → ReachOfAll pairs ranges cell ↔ Touches opening log entry cell = λ cell.
    subst (λ (s : SheetValue). ReachOfAll pairs ranges cell ↔ Depends s entry.edit cell) is.replayed (reach_depends sheet pairs entry.edit is.pairs_are cell) in
    subst (λ (s : Sizes). ListsRowByRow s cells (Touches opening log entry)) sizes (record {
      exact = λ cell. (λ there. (touches cell).0 ((rows.exact cell).0 there), λ reached. (rows.exact cell).1 ((touches cell).1 reached));
      order = rows.order;
    })

-- an entry touches the cells that it changes, and what each of its changes would touch alone
pub changed_touched : (opening : SheetValue) (log : List Entry) (entry : Entry) (change : ChangeValue)
    → Contains entry.edit change → Touches opening log entry change.cell
changed_touched opening log entry change there = reached_start (DependsDirectly (after opening log)) (IsChangedBy entry.edit) change.cell (change, there, refl)

-- an edit of one change changes one cell
pub sole_change : (change : ChangeValue) (cell : Position) → IsChangedBy (change ∷ []) cell → cell ≡ change.cell
sole_change change cell (only, listed, is) = elim (first_or_later only change [] listed) [
  | inl same ↦ is ∙ ap (λ (c : ChangeValue). c.cell) (sym same)
  | inr later ↦ absurd (no_member only later)
]

pub touched_by_one : (opening : SheetValue) (log : List Entry) (entry : Entry) (cell : Position)
    → Touches opening log entry cell ↔ ((change : ChangeValue) × Contains entry.edit change
    × Touches opening log (of_change entry change) cell)
touched_by_one opening log entry cell = (
  λ touches.
      (let (change, there, is) = touches.starts in
      (change, there, record { from = touches.from; starts = (change, first_member change [], is); cells = touches.cells; path = touches.path })),
  λ (change, there, touches). record {
    from = touches.from;
    starts = (change, there, sole_change change touches.from touches.starts);
    cells = touches.cells;
    path = touches.path;
  },
)

-- the pairs after a change, where the graph was given the ranges of the new content
pub pairs_after : (sheet : SheetValue) (change : ChangeValue) (old new : List Pair) (refs : List Corners)
    → IsFilled sheet → IsTrue (is_inside sheet.sizes change.cell) → IsOnceEach (ranges_in change.content) refs
    → ArePairsOf sheet old → Replaces old new change.cell refs → ArePairsOf (after_change sheet change) new
pairs_after sheet change old new refs filled inside once are replaced pair = (
  λ there. from_new ((replaced pair).0 there),
  λ is_pair. (replaced pair).1 (to_new (one_or_two pair.cell change.cell) is_pair),
)
  where
    ranges_at : Position → List Corners
    ranges_at cell = ranges_in (content_of (after_change sheet change) cell)

    own : pair.cell ≡ change.cell → ranges_at pair.cell ≡ ranges_in change.content
    own same = ap ranges_at same ∙ ap ranges_in (change-fills sheet change filled inside)

    from_new : ((pair.cell ≡ change.cell) × Contains refs pair.range) ⊎ ((pair.cell ≢ change.cell) × Contains old pair)
        → IsPairOf (after_change sheet change) pair
    from_new (inl new_one) =
        subst (λ (rs : List Corners). Contains rs pair.range) (sym (own new_one.0))
        (once_back (ranges_in change.content) refs pair.range once new_one.1)
    from_new (inr old_one) =
        subst (λ (content : ContentValue). Contains (ranges_in content) pair.range)
        (sym (change-others sheet change pair.cell old_one.0)) ((are pair).0 old_one.1)

    to_new : (pair.cell ≡ change.cell) ⊎ (pair.cell ≢ change.cell) → IsPairOf (after_change sheet change) pair
        → ((pair.cell ≡ change.cell) × Contains refs pair.range) ⊎ ((pair.cell ≢ change.cell) × Contains old pair)
    to_new (inl same) is_pair =
        inl (
          same,
          once_all (ranges_in change.content) refs pair.range once (subst (λ (rs : List Corners). Contains rs pair.range)
              (own same) is_pair),
        )
    to_new (inr differs) is_pair =
        inr (
          differs,
          (are pair).1 (subst (λ (content : ContentValue). Contains (ranges_in content) pair.range)
              (change-others sheet change pair.cell differs) is_pair),
        )

-- what a book keeps after a prepared edit was made
pub applied_book : (opening sheet new_sheet : SheetValue) (log new_log : List Entry) (pairs new_pairs : List Pair) (entry : Entry) (edit : EditValue)
    → IsBookOf opening sheet log pairs → edit ≡ entry.edit → IsEdit entry.edit → AreHeldBeside (length opening.labels) entry.edit → length log < 1048576
    → new_sheet ≡ after_edit sheet edit → new_log ≡ log ++ entry ∷ [] → ArePairsOf (after_edit sheet edit) new_pairs
    → IsBookOf opening new_sheet new_log new_pairs
applied_book opening sheet new_sheet log new_log pairs new_pairs entry edit is same is_edit held room placed logged made =
    let edited : after_edit sheet edit ≡ after_edit (after opening log) entry.edit =
    ap (λ s. after_edit s edit) is.replayed ∙ ap (after_edit (after opening log)) same in
    let count : length new_log ≡ length log + 1 = ap length logged ∙ length-append log (entry ∷ []) in
    record {
      opened = is.opened;
      held =
          subst (AreHeld (length opening.labels)) (sym logged)
          (All-push (λ (e : Entry). AreHeldBeside (length opening.labels) e.edit) log entry is.held held);
      edits = subst (All (λ (e : Entry). IsEdit e.edit)) (sym logged) (All-push (λ (e : Entry). IsEdit e.edit) log entry is.edits is_edit);
      replayed = placed ∙ edited ∙ sym (after-more opening log entry) ∙ ap (after opening) (sym logged);
      pairs_are = subst (λ (s : SheetValue). ArePairsOf s new_pairs) (sym placed) made;
      few = omega (arith, count, room);
    }

-- what the parts of a book tell of the sizes and labels of the new sheet
pub book_sizes : (opening sheet : SheetValue) (log : List Entry) (pairs : List Pair) → IsBookOf opening sheet log pairs → sheet.sizes ≡ opening.sizes
book_sizes opening sheet log pairs is = ap (λ (s : SheetValue). s.sizes) is.replayed ∙ after-sizes opening log

pub book_labels : (opening sheet : SheetValue) (log : List Entry) (pairs : List Pair) → IsBookOf opening sheet log pairs → sheet.labels ≡ opening.labels
book_labels opening sheet log pairs is = ap (λ (s : SheetValue). s.labels) is.replayed ∙ after-labels opening log

-- the sheet of a book is one
pub book_sheet : (opening sheet : SheetValue) (log : List Entry) (pairs : List Pair) → IsBookOf opening sheet log pairs → IsSheet sheet
book_sheet opening sheet log pairs is = subst IsSheet (sym is.replayed) (after-sheet opening log is.opened is.held)

-- an edit that is ready
pub prepared_for : (opening sheet : SheetValue) (log : List Entry) (pairs : List Pair) (entry : Entry) (number : ℕ) (touched : List Position)
    → IsBookOf opening sheet log pairs → IsEdit entry.edit → AreWritten entry.edit → AreInSheet sheet entry.edit → HaveLabels (length sheet.labels) entry.edit
    → number ≡ length log + 1 → length log < 1048576
    → ListsRowByRow sheet.sizes touched (ReachOfAll pairs (cell_ranges entry.edit))
    → IsPreparedFor opening log (record { entry = entry; number = number; touched = touched })
prepared_for opening sheet log pairs entry number touched is is_edit written inside labelled counted room rows = record {
  number = counted;
  touched = touched_cells opening sheet log pairs entry touched is rows;
  edit = is_edit;
  inside = subst (λ (s : Sizes). All (λ (c : ChangeValue). IsTrue (is_inside s c.cell)) entry.edit) (book_sizes opening sheet log pairs is) inside;
  touched_inside = all_from (λ cell. IsTrue (is_inside opening.sizes cell)) touched
      (λ cell there. subst (λ (s : Sizes). IsTrue (is_inside s cell)) (book_sizes opening sheet log pairs is)
      (reach_inside sheet pairs entry.edit is.pairs_are inside cell ((rows.exact cell).0 there)));
  held = subst (λ (ls : List (List ℕ)). AreHeldBeside (length ls) entry.edit) (book_labels opening sheet log pairs is)
      (λ k d within. record { label = labelled k d within; written = written k d within });
  room = room;
}

-- other ways to keep the same pairs and the same log
pub same_book : (opening sheet : SheetValue) (log same_log : List Entry) (old new : List Pair)
    → IsBookOf opening sheet log old → SamePairs old new → same_log ≡ log → IsBookOf opening sheet same_log new
same_book opening sheet log same_log old new is same logged = record {
  opened = is.opened;
  held = subst (AreHeld (length opening.labels)) (sym logged) is.held;
  edits = subst (All (λ (e : Entry). IsEdit e.edit)) (sym logged) is.edits;
  replayed = subst (λ (l : List Entry). sheet ≡ after opening l) (sym logged) is.replayed;
  pairs_are = λ pair. (λ there. (is.pairs_are pair).0 ((same pair).0 there), λ is_pair. (same pair).1 ((is.pairs_are pair).1 is_pair));
  few = subst (λ (l : List Entry). length l ≤ 1048576) (sym logged) is.few;
}

pub unchanged : {G : Type 0} (pairs_of : G → List Pair) (now : BookValue G) (opening sheet : SheetValue)
    (graph same_graph : G) (log same_log : List Entry) (spare other_spare : ℕ)
    → record { opening = opening; sheet = sheet; graph = graph; log = log; spare = spare } ≡ now
    → SamePairs (pairs_of graph) (pairs_of same_graph) → same_log ≡ log
    → IsUnchanged pairs_of now (record { opening = opening; sheet = sheet; graph = same_graph; log = same_log; spare = other_spare })
unchanged {G} pairs_of now opening sheet graph same_graph log same_log spare other_spare view same logged =
    let after_it : BookValue G = record { opening = opening; sheet = sheet; graph = same_graph; log = same_log; spare = other_spare } in
    subst (λ (b : BookValue G). IsUnchanged pairs_of b after_it) view (record { opening = refl; sheet = refl; log = logged; pairs = same })

-- a prepared edit is for the sheet of its book
pub ready_for : (opening sheet : SheetValue) (log : List Entry) (pairs : List Pair) (prepared : PreparedValue)
    (edit : EditValue) → IsBookOf opening sheet log pairs → IsPreparedFor opening log prepared
    → edit ≡ prepared.entry.edit → IsFor sheet edit
ready_for opening sheet log pairs prepared edit is ready same =
    let inside : AreInSheet sheet prepared.entry.edit =
    subst (λ (s : Sizes). All (λ (c : ChangeValue). IsTrue (is_inside s c.cell)) prepared.entry.edit)
    (sym (book_sizes opening sheet log pairs is)) ready.inside in
    let held : AreHeldBeside (length sheet.labels) prepared.entry.edit =
    subst (λ (ls : List (List ℕ)). AreHeldBeside (length ls) prepared.entry.edit)
    (sym (book_labels opening sheet log pairs is)) ready.held in
    subst (IsFor sheet) (sym same) (λ k d within. record { inside = inside k d within; label = (held k d within).label })

-- the cells of a sheet have names
pub sizes_named : (sizes : Sizes) → IsSheetSize sizes → AreNamed sizes
sizes_named sizes size = record { rows = few sizes.rows sizes.cols size.cells size.no_cols; cols = size.narrow }
  where
    few : (rows cols : ℕ) → rows * cols ≤ 1048576 → (cols ≡ 0 → rows ≡ 0) → rows ≤ 1048576
    few rows zero cells none = let no = none refl in omega (arith, no)
    few rows (suc cols) cells none = grind (arith, cells)
