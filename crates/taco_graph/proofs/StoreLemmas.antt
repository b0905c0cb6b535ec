-- What is stored after an edge has come or gone.
use Rattle.std.proofs.Common.{◌≡◌, ◌≢◌, ◌⊎◌, inl, inr, ℕ, ◌<◌, List, [], length, Option, Some, None, Contains, refl, sym, ◌∙◌, ap, subst, arith}
use Rattle.std.proofs.lemmas.Bool.{cases_eq, cases_lt}
use Rattle.std.proofs.lemmas.List.{get_or_past, get_or-set_other, get_or-set_same}
use Rattle.std.specs.Prelude.{slice_set}
use Rattle.std.proofs.lemmas.Option.{same_Some, none-some}
use Rattle.std.proofs.lemmas.List.Elements.{Contains-append_right}
use Rattle.std.specs.Prelude.{Bool, IsTrue, Result, Ok, Err, OnOk}
use Rattle.sheet_refs.specs.Cells.{Position, Corners}
use Rattle.sheet_refs.specs.Rectangles.{Overlap}
use Rattle.edge_patterns.specs.Edges.{EdgeValue, IsEdge, IsPair}
use Rattle.range_index.specs.Entries.{Entry, entry_of, HasNoId, SameEntries, Inserts, Removes, ChangesRange, AddsOverlapping}
use Rattle.taco_graph.specs.Filing.{Rectangles}
use Rattle.taco_graph.specs.Pairs.{AreApart}
use Rattle.taco_graph.specs.Stores.{edge_at, IsKeptEdge, IsKeptPair, IsApart, IsApartBeside, IsFiled, FilesAll}
use Rattle.taco_graph.specs.Stores.{AreStored, PutsEdge, NamesOverlapping, LeavesApart}

-- an edge that is there after one was taken out was there before, under another key
pub still_here : (old new : List (Option EdgeValue)) (taken key : ℕ) (edge : EdgeValue) → PutsEdge old new taken None
    → edge_at new key ≡ Some edge → (key ≢ taken) × (edge_at old key ≡ Some edge)
still_here old new taken key edge puts here = elim (cases_eq key taken) [
  | inl same ↦ absurd (none-some edge (sym puts.changed ∙ (ap (edge_at new) (sym same) ∙ here)))
  | inr other ↦ (other, sym (puts.others key other) ∙ here)
]

-- an edge that is there after one has come is that one, or was there before under another key
pub here_more : (old new : List (Option EdgeValue)) (came key : ℕ) (one edge : EdgeValue)
    → PutsEdge old new came (Some one) → edge_at new key ≡ Some edge → ((key ≡ came) × (edge ≡ one))
    ⊎ ((key ≢ came) × (edge_at old key ≡ Some edge))
here_more old new came key one edge puts here = elim (cases_eq key came) [
  | inl same ↦ inl (same, same_Some edge one (sym here ∙ (ap (edge_at new) same ∙ puts.changed)))
  | inr other ↦ inr (other, sym (puts.others key other) ∙ here)
]

-- an edge doesn't stand under a key that is free
pub not_free : (slots : List (Option EdgeValue)) (free key : ℕ) (edge : EdgeValue) → edge_at slots free ≡ None → edge_at slots key ≡ Some edge → key ≢ free
not_free slots free key edge none here same = none-some edge (sym none ∙ (ap (edge_at slots) (sym same) ∙ here))

pub same_entry : (entry : Entry) (id : ℕ) (range : Corners) → entry.id ≡ id → entry.range ≡ range → entry ≡ entry_of id range
same_entry entry id range same_id same_range = rw (← same_id, ← same_range) refl

-- ---- whether rectangles are kept stays

pub as_before : {old new : Bool} → new ≡ old → IsTrue new → IsTrue old
as_before same kept = subst IsTrue same kept

-- ---- nothing is stored

pub none_stored : (runs : List Entry) (rectangles : Rectangles) → runs ≡ [] → rectangles.entries ≡ [] → AreStored [] runs rectangles
none_stored runs rectangles no_run no_rectangle = record {
  edges = λ edge kept. absurd (none-some edge kept.here);
  apart = λ key other a b differ here there. absurd (none-some a here);
  runs_filed = rw no_run (none_filed (λ edge. edge.dep));
  rectangles_filed = λ kept. rw no_rectangle (none_filed (λ edge. edge.prec));
}
  where
    none_filed : (side : EdgeValue → Corners) → FilesAll [] side []
    none_filed side entry = (λ listed. absurd (omega (arith, listed.1)), λ filed. absurd (none-some filed.edge filed.here))

-- ---- the same is stored

pub same_stored : (slots : List (Option EdgeValue)) (runs new_runs : List Entry) (rectangles new_rectangles : Rectangles)
    → SameEntries runs new_runs → new_rectangles.kept ≡ rectangles.kept
    → SameEntries rectangles.entries new_rectangles.entries → AreStored slots runs rectangles
    → AreStored slots new_runs new_rectangles
same_stored slots runs new_runs rectangles new_rectangles same_runs same_kept same_rectangles stored = record {
  edges = stored.edges;
  apart = stored.apart;
  runs_filed = same_filed (λ edge. edge.dep) runs new_runs same_runs stored.runs_filed;
  rectangles_filed = λ kept. same_filed (λ edge. edge.prec) rectangles.entries new_rectangles.entries same_rectangles
      (stored.rectangles_filed (as_before same_kept kept));
}
  where
    same_filed : (side : EdgeValue → Corners) (entries more : List Entry) → SameEntries entries more → FilesAll slots side entries → FilesAll slots side more
    same_filed side entries more same files entry = (λ there. (files entry).0 ((same entry).0 there), λ filed. (same entry).1 ((files entry).1 filed))

-- ---- one edge less

filed_less : (old new : List (Option EdgeValue)) (side : EdgeValue → Corners) (entries less : List Entry) (key : ℕ)
    → PutsEdge old new key None → Removes entries less key → FilesAll old side entries → FilesAll new side less
filed_less old new side entries less key puts removes files entry = (to, from)
  where
    to : Contains less entry → IsFiled new side entry
    to there =
        let was = (removes entry).0 there in
        let filed = (files entry).0 was.1 in
        record { edge = filed.edge; here = puts.others entry.id was.0 ∙ filed.here; range_is = filed.range_is }

    from : IsFiled new side entry → Contains less entry
    from filed =
        let was = still_here old new key entry.id filed.edge puts filed.here in
        (removes entry).1 (was.0, (files entry).1 (record { edge = filed.edge; here = was.1; range_is = filed.range_is }))

pub stored_less : (old new : List (Option EdgeValue)) (runs less_runs : List Entry) (rectangles less_rectangles : Rectangles)
    (key : ℕ) → PutsEdge old new key None → Removes runs less_runs key → less_rectangles.kept ≡ rectangles.kept
    → (IsTrue rectangles.kept → Removes rectangles.entries less_rectangles.entries key)
    → AreStored old runs rectangles → AreStored new less_runs less_rectangles
stored_less old new runs less_runs rectangles less_rectangles key puts run_gone same_kept rectangle_gone stored = record {
  edges = λ edge kept. stored.edges edge (record { key = kept.key; here = (still_here old new key kept.key edge puts kept.here).1 });
  apart = λ k other a b differ here there. stored.apart k other a b differ (still_here old new key k a puts here).1
      (still_here old new key other b puts there).1;
  runs_filed = filed_less old new (λ edge. edge.dep) runs less_runs key puts run_gone stored.runs_filed;
  rectangles_filed = λ kept. let was = as_before same_kept kept in filed_less old new (λ edge. edge.prec)
      rectangles.entries less_rectangles.entries key puts (rectangle_gone was) (stored.rectangles_filed was);
}

-- ---- one edge more

filed_more : (old new : List (Option EdgeValue)) (side : EdgeValue → Corners) (entries more : List Entry) (key : ℕ)
    (one : EdgeValue) → edge_at old key ≡ None → PutsEdge old new key (Some one) → Inserts entries more key (side one)
    → FilesAll old side entries → FilesAll new side more
filed_more old new side entries more key one free puts inserts files entry = (to, from)
  where
    to : Contains more entry → IsFiled new side entry
    to there = elim ((inserts entry).0 there) [
      | inl was ↦
          let filed = (files entry).0 was in
          record {
            edge = filed.edge;
            here = puts.others entry.id (not_free old key entry.id filed.edge free filed.here)
                ∙ filed.here;
            range_is = filed.range_is;
          }
      | inr is ↦ subst (IsFiled new side) (sym is) (record { edge = one; here = puts.changed; range_is = refl })
    ]

    from : IsFiled new side entry → Contains more entry
    from filed = (inserts entry).1 (elim (here_more old new key entry.id one filed.edge puts filed.here) [
      | inl (same, is) ↦ inr (same_entry entry key (side one) same (filed.range_is ∙ ap side is))
      | inr (other, was) ↦ inl ((files entry).1 (record { edge = filed.edge; here = was; range_is = filed.range_is }))
    ])

pub stored_more : (old new : List (Option EdgeValue)) (runs more_runs : List Entry) (rectangles more_rectangles : Rectangles)
    (key : ℕ) (one : EdgeValue) → edge_at old key ≡ None → PutsEdge old new key (Some one) → IsEdge one → IsApart old one
    → Inserts runs more_runs key one.dep → more_rectangles.kept ≡ rectangles.kept
    → (IsTrue rectangles.kept → Inserts rectangles.entries more_rectangles.entries key one.prec)
    → AreStored old runs rectangles → AreStored new more_runs more_rectangles
stored_more old new runs more_runs rectangles more_rectangles key one free puts is_edge away run_came same_kept rectangle_came stored = record {
  edges = edges;
  apart = apart;
  runs_filed = filed_more old new (λ edge. edge.dep) runs more_runs key one free puts run_came stored.runs_filed;
  rectangles_filed = λ kept. let was = as_before same_kept kept in filed_more old new (λ edge. edge.prec)
      rectangles.entries more_rectangles.entries key one free puts (rectangle_came was) (stored.rectangles_filed was);
}
  where
    edges : (edge : EdgeValue) → IsKeptEdge new edge → IsEdge edge
    edges edge kept = elim (here_more old new key kept.key one edge puts kept.here) [
      | inl (same, is) ↦ subst IsEdge (sym is) is_edge
      | inr (other, was) ↦ stored.edges edge (record { key = kept.key; here = was })
    ]

    kept_pair : (k : ℕ) (edge : EdgeValue) (range : Corners) (cell : Position) → edge_at old k ≡ Some edge → IsPair edge range cell → IsKeptPair old range cell
    kept_pair k edge range cell here pair = record { edge = edge; kept = record { key = k; here = here }; pair = pair }

    apart : (k other : ℕ) (a b : EdgeValue) → k ≢ other → edge_at new k ≡ Some a → edge_at new other ≡ Some b → AreApart a b
    apart k other a b differ here there range cell of_a of_b = elim (here_more old new key k one a puts here) [
      | inl (same, is) ↦ elim (here_more old new key other one b puts there) [
        | inl (same_other, is_other) ↦ differ (same ∙ sym same_other)
        | inr (not_came, was) ↦ away range cell (subst (λ (e : EdgeValue). IsPair e range cell) is of_a) (kept_pair other b range cell was of_b)
      ]
      | inr (not_came, was) ↦ elim (here_more old new key other one b puts there) [
        | inl (same_other, is_other) ↦ away range cell (subst (λ (e : EdgeValue). IsPair e range cell) is_other of_b) (kept_pair k a range cell was of_a)
        | inr (not_other, was_other) ↦ stored.apart k other a b differ was was_other range cell of_a of_b
      ]
    ]

-- ---- another edge under a key

filed_changed : (old new : List (Option EdgeValue)) (side : EdgeValue → Corners) (entries changed : List Entry)
    (key : ℕ) (one : EdgeValue) → PutsEdge old new key (Some one) → ChangesRange entries changed key (side one)
    → FilesAll old side entries → FilesAll new side changed
filed_changed old new side entries changed key one puts changes files entry = (to, from)
  where
    to : Contains changed entry → IsFiled new side entry
    to there = elim ((changes entry).0 there) [
      | inl (differ, was) ↦
          let filed = (files entry).0 was in
          record { edge = filed.edge; here = puts.others entry.id differ ∙ filed.here; range_is = filed.range_is }
      | inr is ↦ subst (IsFiled new side) (sym is) (record { edge = one; here = puts.changed; range_is = refl })
    ]

    from : IsFiled new side entry → Contains changed entry
    from filed = (changes entry).1 (elim (here_more old new key entry.id one filed.edge puts filed.here) [
      | inl (same, is) ↦ inr (same_entry entry key (side one) same (filed.range_is ∙ ap side is))
      | inr (other, was) ↦ inl (other, (files entry).1 (record { edge = filed.edge; here = was; range_is = filed.range_is }))
    ])

-- what a write under a key does
pub puts_by_write : (slots : List (Option EdgeValue)) (key : ℕ) (was one : EdgeValue) → edge_at slots key ≡ Some was
    → PutsEdge slots (slice_set slots key (Some one)) key (Some one)
puts_by_write slots key was one here = record {
  changed = get_or-set_same slots key (Some one) None within;
  others = λ other differ. get_or-set_other slots key other (Some one) None differ;
}
  where
    within : key < length slots
    within = elim (cases_lt key (length slots)) [
      | inl inside ↦ inside
      | inr past ↦ absurd (none-some was (sym (get_or_past slots key None past) ∙ here))
    ]

pub stored_changed : (old new : List (Option EdgeValue)) (runs changed_runs : List Entry)
    (rectangles changed_rectangles : Rectangles) (key : ℕ) (one : EdgeValue) → PutsEdge old new key (Some one)
    → IsEdge one → IsApartBeside old key one → ChangesRange runs changed_runs key one.dep
    → changed_rectangles.kept ≡ rectangles.kept
    → (IsTrue rectangles.kept → ChangesRange rectangles.entries changed_rectangles.entries key one.prec)
    → AreStored old runs rectangles → AreStored new changed_runs changed_rectangles
stored_changed old new runs changed_runs rectangles changed_rectangles key one puts is_edge away run_changed same_kept rectangle_changed stored = record {
  edges = edges;
  apart = apart;
  runs_filed = filed_changed old new (λ edge. edge.dep) runs changed_runs key one puts run_changed stored.runs_filed;
  rectangles_filed = λ kept. let was = as_before same_kept kept in filed_changed old new (λ edge. edge.prec)
      rectangles.entries changed_rectangles.entries key one puts (rectangle_changed was) (stored.rectangles_filed was);
}
  where
    edges : (edge : EdgeValue) → IsKeptEdge new edge → IsEdge edge
    edges edge kept = elim (here_more old new key kept.key one edge puts kept.here) [
      | inl (same, is) ↦ subst IsEdge (sym is) is_edge
      | inr (other, was) ↦ stored.edges edge (record { key = kept.key; here = was })
    ]

    -- a pair of the new edge is in none that stands under another key
    none_beside : (k : ℕ) (edge : EdgeValue) (range : Corners) (cell : Position) → k ≢ key → edge_at old k ≡ Some edge
        → IsPair edge range cell → ¬ IsPair one range cell
    none_beside k edge range cell other here pair of_one =
        let was = away range cell of_one (record { edge = edge; kept = record { key = k; here = here }; pair = pair }) in
        stored.apart k key edge was.edge other here was.here range cell pair was.pair

    apart : (k other : ℕ) (a b : EdgeValue) → k ≢ other → edge_at new k ≡ Some a → edge_at new other ≡ Some b → AreApart a b
    apart k other a b differ here there range cell of_a of_b = elim (here_more old new key k one a puts here) [
      | inl (same, is) ↦ elim (here_more old new key other one b puts there) [
        | inl (same_other, is_other) ↦ differ (same ∙ sym same_other)
        | inr (not_key, was) ↦ none_beside other b range cell not_key was of_b (subst (λ (e : EdgeValue). IsPair e range cell) is of_a)
      ]
      | inr (not_key, was) ↦ elim (here_more old new key other one b puts there) [
        | inl (same_other, is_other) ↦ none_beside k a range cell not_key was of_a (subst (λ (e : EdgeValue). IsPair e range cell) is_other of_b)
        | inr (not_other, was_other) ↦ stored.apart k other a b differ was was_other range cell of_a of_b
      ]
    ]

-- ---- what the indexes ask and answer

pub is_listed : (slots : List (Option EdgeValue)) (side : EdgeValue → Corners) (entries : List Entry) (key : ℕ)
    (edge : EdgeValue) → FilesAll slots side entries → edge_at slots key ≡ Some edge
    → Contains entries (entry_of key (side edge))
is_listed slots side entries key edge files here = (files (entry_of key (side edge))).1 (record { edge = edge; here = here; range_is = refl })

pub has_no_id : (slots : List (Option EdgeValue)) (side : EdgeValue → Corners) (entries : List Entry) (key : ℕ)
    → FilesAll slots side entries → edge_at slots key ≡ None → HasNoId entries key
has_no_id slots side entries key files free entry there = let filed = (files entry).0 there in not_free slots key entry.id filed.edge free filed.here

pub names : (slots : List (Option EdgeValue)) (side : EdgeValue → Corners) (entries : List Entry) (query : Corners)
    (old new : List ℕ) → FilesAll slots side entries → AddsOverlapping entries query old new
    → (key : ℕ) (edge : EdgeValue) → edge_at slots key ≡ Some edge → Overlap (side edge) query → Contains new key
names slots side entries query old new files adds key edge here overlap =
    subst (λ (keys : List ℕ). Contains keys key) (sym adds.whole)
    (Contains-append_right old adds.added key
    ((adds.exact key).1 (record {
      range = side edge;
      listed = is_listed slots side entries key edge files here;
      overlaps = overlap;
    })))

pub names_runs : {E : Type 0} (result : Result (Unit {0}) E) (slots : List (Option EdgeValue))
    (runs : List Entry) (rectangles : Rectangles) (query : Corners) (old new : List ℕ) → AreStored slots runs rectangles
    → OnOk result (AddsOverlapping runs query old new) → OnOk result (NamesOverlapping slots query new)
names_runs (Ok x) slots runs rectangles query old new stored adds = names slots (λ edge. edge.dep) runs query old new stored.runs_filed adds
names_runs (Err e) slots runs rectangles query old new stored adds = adds

pub leaves_apart : (old new : List (Option EdgeValue)) (runs : List Entry) (rectangles : Rectangles) (key : ℕ)
    → AreStored old runs rectangles → PutsEdge old new key None → LeavesApart old new key
leaves_apart old new runs rectangles key stored puts edge here range cell pair kept =
    let was = still_here old new key kept.kept.key kept.edge puts kept.kept.here in
    stored.apart kept.kept.key key kept.edge edge was.0 was.1 here range cell kept.pair pair

pub same_all : (entries : List Entry) → SameEntries entries entries
same_all entries entry = (λ there. there, λ there. there)
