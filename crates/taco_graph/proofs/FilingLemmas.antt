-- The keys of the edges whose rectangles overlap a query, by an index or by a look at each; and the rectangles of all
-- edges, filed at one go.
use Rattle.std.proofs.Common.{◌≡◌, ◌≢◌, ◌↔◌, inl, inr, ℕ, ◌+◌, ◌<◌, ◌≤◌, List, [], ◌∷◌, ◌++◌, length, take, get_or}
use Rattle.std.proofs.Common.{Option, None, Some, Contains, refl, sym, ◌∙◌, ap, subst, arith}
use Rattle.std.proofs.lemmas.Bool.{cases_eq, cases_lt}
use Rattle.std.proofs.lemmas.List.{get_or_past, get_or_default, get_or-take, take_all, take_more, length-take}
use Rattle.std.proofs.lemmas.List.Sorted.{Contains-permutation, IsPermutation-sym}
use Rattle.std.proofs.lemmas.Option.{none-some, same_Some}
use Rattle.std.proofs.lemmas.List.Elements.{Contains-append_left, Contains-push, Contains-push_cases, Contains-get_or}
use Rattle.std.proofs.lemmas.List.Quantifiers.{all_pairs_push}
use Rattle.std.specs.List.{AllPairs}
use Rattle.std.specs.List.Sorted.{IsPermutation}
use Rattle.sheet_refs.specs.Cells.{Corners}
use Rattle.edge_patterns.specs.Edges.{EdgeValue}
use Rattle.range_index.specs.Entries.{Entry, entry_of, HaveOneRange, HasNoId, SameEntries, Inserts, AddsOverlapping}
use Rattle.taco_graph.specs.Stores.{edge_at, IsFiled, FilesAll, IsMetAt, NamesMet}
use Rattle.taco_graph.proofs.ListLemmas.{AllPairs-IsPermutation}
use Rattle.taco_graph.proofs.StoreLemmas.{names, same_entry}

-- the keys below one that are met are in a list, each once, and no others
pub record ListsMet (slots : List (Option EdgeValue)) (query : Corners) (end : ℕ) (keys : List ℕ) : Type 0 where
  pub below : (key : ℕ) → Contains keys key → key < end
  pub once : AllPairs (λ a b. a ≢ b) keys
  pub all : (key : ℕ) → key < end → IsMetAt slots query key → Contains keys key

module _ (slots : List (Option EdgeValue)) (query : Corners) where
  pub lists_none : ListsMet slots query 0 []
  lists_none = record {
    below = λ key listed. absurd (omega (arith, listed.1));
    once = λ i j d before within. absurd (omega (arith, within));
    all = λ key below met. absurd (omega (arith, below));
  }

  pub lists_more : (end : ℕ) (keys more : List ℕ) → more ≡ keys ++ end ∷ [] → ListsMet slots query end keys → ListsMet slots query (end + 1) more
  lists_more end keys more pushed lists = rw pushed (record {
    below = λ key listed. elim (Contains-push_cases keys end key listed) [
      | inl before ↦ let low = lists.below key before in omega (arith, low)
      | inr is ↦ omega (arith, is)
    ];
    once = all_pairs_push (λ a b. a ≢ b) keys end lists.once
        (λ k d within same. let low = lists.below (get_or keys k d) (Contains-get_or keys k d within) in omega (arith, low, same));
    all = λ key below met. elim (cases_eq key end) [
      | inl is ↦ subst (λ (k : ℕ). Contains (keys ++ end ∷ []) k) (sym is) (Contains-push keys end)
      | inr other ↦ Contains-append_left keys (end ∷ []) key (lists.all key (omega (arith, below, other)) met)
    ];
  })

  pub lists_passed : (end : ℕ) (keys : List ℕ) → ¬ IsMetAt slots query end → ListsMet slots query end keys → ListsMet slots query (end + 1) keys
  lists_passed end keys missed lists = record {
    below = λ key listed. let low = lists.below key listed in omega (arith, low);
    once = lists.once;
    all = λ key below met. elim (cases_eq key end) [
      | inl is ↦ absurd (missed (subst (IsMetAt slots query) is met))
      | inr other ↦ lists.all key (omega (arith, below, other)) met
    ];
  }

  pub lists_all : (end : ℕ) (keys : List ℕ) → length slots ≤ end → ListsMet slots query end keys → NamesMet slots query keys
  lists_all end keys enough lists key met = lists.all key (elim (cases_lt key (length slots)) [
    | inl within ↦ omega (arith, within, enough)
    | inr past ↦ absurd (none-some met.edge (sym (get_or_past slots key None past) ∙ met.here))
  ]) met

  -- an index that keeps all rectangles names them
  pub names_met : (entries : List Entry) (old keys : List ℕ) → FilesAll slots (λ edge. edge.prec) entries
      → AddsOverlapping entries query old keys → NamesMet slots query keys
  names_met entries old keys files adds key met = names slots (λ edge. edge.prec) entries query old keys files adds key met.edge met.here met.overlap

  -- and so do the same keys in another order
  pub names_moved : (keys moved : List ℕ) → IsPermutation keys moved → NamesMet slots query keys → NamesMet slots query moved
  names_moved keys moved moves named key met = Contains-permutation keys moved key moves (named key met)

pub keys_differ : (entries : List Entry) (query : Corners) (old keys moved : List ℕ) → old ≡ [] → AddsOverlapping entries query old keys
    → IsPermutation keys moved → AllPairs (λ a b. a ≢ b) moved
keys_differ entries query old keys moved none adds moves =
    let all : keys ≡ adds.added = adds.whole ∙ ap (λ (ks : List ℕ). ks ++ adds.added) none in
    AllPairs-IsPermutation (λ a b. a ≢ b) (λ a b differ same. differ (sym same)) keys moved moves
    (subst (λ (ks : List ℕ). AllPairs (λ a b. a ≢ b) ks) (sym all) adds.once)

-- ---- all rectangles, as a list

-- the edges under the keys below one are in a list with their rectangles, each once, and nothing else
pub record FilesBelow (slots : List (Option EdgeValue)) (end : ℕ) (items : List Entry) : Type 0 where
  pub below : (entry : Entry) → Contains items entry → entry.id < end
  pub once : HaveOneRange items
  pub exact : (entry : Entry) → entry.id < end → Contains items entry ↔ IsFiled slots (λ edge. edge.prec) entry

module _ (slots : List (Option EdgeValue)) where
  pub files_none : FilesBelow slots 0 []
  files_none = record {
    below = λ entry listed. absurd (omega (arith, listed.1));
    once = λ i j d before within. absurd (omega (arith, within));
    exact = λ entry below. absurd (omega (arith, below));
  }

  pub files_more : (end : ℕ) (items more : List Entry) (edge : EdgeValue) → edge_at slots end ≡ Some edge
      → more ≡ items ++ entry_of end edge.prec ∷ [] → FilesBelow slots end items → FilesBelow slots (end + 1) more
  files_more end items more edge here pushed files = rw pushed (record { below = below; once = once; exact = exact })
    where
      one : Entry
      one = entry_of end edge.prec

      id_is : (entry : Entry) → one ≡ entry → entry.id ≡ end
      id_is entry is = ap (λ (e : Entry). e.id) (sym is)

      below : (entry : Entry) → Contains (items ++ one ∷ []) entry → entry.id < end + 1
      below entry listed = elim (Contains-push_cases items one entry listed) [
        | inl before ↦ let low = files.below entry before in omega (arith, low)
        | inr is ↦ let same = id_is entry is in omega (arith, same)
      ]

      once : HaveOneRange (items ++ one ∷ [])
      once = all_pairs_push (λ a b. a.id ≢ b.id) items one files.once
          (λ k d within same. let low = files.below (get_or items k d) (Contains-get_or items k d within) in omega (arith, low, same))

      filed : (entry : Entry) → one ≡ entry → IsFiled slots (λ e. e.prec) entry
      filed entry is = subst (IsFiled slots (λ e. e.prec)) is (record { edge = edge; here = here; range_is = refl })

      exact : (entry : Entry) → entry.id < end + 1 → Contains (items ++ one ∷ []) entry ↔ IsFiled slots (λ e. e.prec) entry
      exact entry low = elim (cases_eq entry.id end) [
        | inl same ↦ (
          λ listed. elim (Contains-push_cases items one entry listed) [
            | inl before ↦ absurd (let under = files.below entry before in omega (arith, under, same))
            | inr is ↦ filed entry is
          ],
          λ f.
              let is_edge : f.edge ≡ edge = same_Some f.edge edge (sym f.here ∙ (ap (edge_at slots) same ∙ here)) in
              let is : entry ≡ one = same_entry entry end edge.prec same (f.range_is ∙ ap (λ (e : EdgeValue). e.prec) is_edge) in
              subst (λ (e : Entry). Contains (items ++ one ∷ []) e) (sym is) (Contains-push items one),
        )
        | inr other ↦
            let both = files.exact entry (omega (arith, low, other)) in (
              λ listed. both.0 (elim (Contains-push_cases items one entry listed) [
                | inl before ↦ before
                | inr is ↦ absurd (other (id_is entry is))
              ]),
              λ f. Contains-append_left items (one ∷ []) entry (both.1 f),
            )
      ]

  pub files_passed : (end : ℕ) (items : List Entry) → edge_at slots end ≡ None → FilesBelow slots end items → FilesBelow slots (end + 1) items
  files_passed end items free files = record {
    below = λ entry listed. let low = files.below entry listed in omega (arith, low);
    once = files.once;
    exact = λ entry low. elim (cases_eq entry.id end) [
      | inl same ↦ (
        λ listed. absurd (let under = files.below entry listed in omega (arith, under, same)),
        λ f. absurd (none-some f.edge (sym free ∙ (ap (edge_at slots) (sym same) ∙ f.here))),
      )
      | inr other ↦ files.exact entry (omega (arith, low, other))
    ];
  }

  pub files_all : (end : ℕ) (items : List Entry) → length slots ≤ end → FilesBelow slots end items → FilesAll slots (λ edge. edge.prec) items
  files_all end items enough files entry = elim (cases_lt entry.id end) [
    | inl low ↦ files.exact entry low
    | inr past ↦ (
      λ listed. absurd (let under = files.below entry listed in omega (arith, under, past)),
      λ f. absurd (none-some f.edge (sym (get_or_past slots entry.id None (omega (arith, past, enough))) ∙ f.here)),
    )
  ]

  -- in another order they are the same
  pub files_moved : (items moved : List Entry) → IsPermutation items moved → FilesAll slots (λ edge. edge.prec) items → FilesAll slots (λ edge. edge.prec) moved
  files_moved items moved moves files entry = (
    λ listed. (files entry).0 (Contains-permutation moved items entry (IsPermutation-sym items moved moves) listed),
    λ f. Contains-permutation items moved entry moves ((files entry).1 f),
  )

  -- and so are they in an index that has the same entries
  pub files_same : (items entries : List Entry) → SameEntries items entries → FilesAll slots (λ edge. edge.prec) items
      → FilesAll slots (λ edge. edge.prec) entries
  files_same items entries same files entry = (λ there. (files entry).0 ((same entry).0 there), λ f. (same entry).1 ((files entry).1 f))

pub once_moved : (items moved : List Entry) → IsPermutation items moved → HaveOneRange items → HaveOneRange moved
once_moved items moved moves once = AllPairs-IsPermutation (λ a b. a.id ≢ b.id) (λ a b differ same. differ (sym same)) items moved moves once

-- ---- an index that is filled from a list

pub filled_none : (none ready told items : List Entry) → none ≡ [] → SameEntries none ready → SameEntries ready told → SameEntries (take 0 items) told
filled_none none ready told items is more last entry = (
  λ there. subst (λ (es : List Entry). Contains es entry) is ((more entry).0 ((last entry).0 there)),
  λ listed. absurd (omega (arith, listed.1)),
)

-- the id of the next item isn't there
pub filled_lacks : (items entries ready : List Entry) (place : ℕ) (item : Entry) → HaveOneRange items → place < length items
    → item ≡ get_or items place item → SameEntries (take place items) entries → SameEntries entries ready → HasNoId ready item.id
filled_lacks items entries ready place item once within here filled same entry there is =
    let (k, below, at) = (filled entry).0 ((same entry).0 there) in
    let long = length-take place items in
    let less : k < place = omega (arith, below, long) in
    let first : get_or items k item ≡ entry = get_or_default items k item entry (omega (arith, less, within))
    ∙ (sym (get_or-take place items k entry less) ∙ at)
    in
    once k place item less within (ap (λ (e : Entry). e.id) first ∙ (is ∙ ap (λ (e : Entry). e.id) here))

pub filled_more : (items entries ready more : List Entry) (place : ℕ) (item : Entry) → place < length items
    → item ≡ get_or items place item → SameEntries (take place items) entries → SameEntries entries ready
    → Inserts ready more item.id item.range → SameEntries (take (place + 1) items) more
filled_more items entries ready more place item within here filled same inserts =
    subst (λ (es : List Entry). SameEntries es more) (sym next) pushed
  where
    next : take (place + 1) items ≡ take place items ++ item ∷ []
    next = take_more items place item within ∙ ap (λ (e : Entry). take place items ++ e ∷ []) (sym here)

    pushed : SameEntries (take place items ++ item ∷ []) more
    pushed entry = (
      λ there. elim ((inserts entry).0 there) [
        | inl was ↦ Contains-append_left (take place items) (item ∷ []) entry ((filled entry).0 ((same entry).0 was))
        | inr is ↦ subst (λ (e : Entry). Contains (take place items ++ item ∷ []) e) (sym is) (Contains-push (take place items) item)
      ],
      λ listed. (inserts entry).1 (elim (Contains-push_cases (take place items) item entry listed) [
        | inl before ↦ inl ((same entry).1 ((filled entry).1 before))
        | inr is ↦ inr (sym is)
      ]),
    )

pub filled_all : (items entries told : List Entry) (place : ℕ) → length items ≤ place → SameEntries (take place items) entries
    → SameEntries entries told → SameEntries items told
filled_all items entries told place past filled same entry =
    let all : take place items ≡ items = take_all place items past in (
      λ there. subst (λ (es : List Entry). Contains es entry) all ((filled entry).0 ((same entry).0 there)),
      λ listed. (same entry).1 ((filled entry).1 (subst (λ (es : List Entry). Contains es entry) (sym all) listed)),
    )
