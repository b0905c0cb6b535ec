-- How entries come and go.
use Rattle.std.proofs.Common.{◌≡◌, ◌≢◌, ◌⊎◌, inl, inr, ℕ, ◌+◌, ◌-◌, ◌<◌, List, [], ◌∷◌, ◌++◌, length, get_or, take, Some, None, sym, ◌∙◌, ap, subst, arith}
use Rattle.std.specs.List.{Contains, slice_get}
use Rattle.std.proofs.lemmas.Option.{get_or_from_slice_get, slice_get_cases}
use Rattle.std.proofs.lemmas.Bool.{cases_lt, cases_eq}
use Rattle.std.proofs.lemmas.List.{append-nil, append_assoc, get_or_default, length-take, get_or-take, take_more}
use Rattle.std.proofs.lemmas.List.Elements.{Contains-push_cases, Contains-append_left, Contains-push, Contains-get_or}
use Rattle.std.proofs.lemmas.List.Quantifiers.{all_pairs_push}
use Rattle.sheet_refs.specs.Cells.{Corners}
use Rattle.sheet_refs.specs.Rectangles.{Overlap}
use Rattle.range_index.specs.Entries.{Entry, entry_of, HaveOneRange, HasNoId, Inserts, Removes, IsOverlapping, AddsOverlapping, KeepsIds, IsPlaceOf}

-- one entry more

pub one_more : (entries : List Entry) (id : ℕ) (range : Corners) → HasNoId entries id → HaveOneRange entries → HaveOneRange (entries ++ entry_of id range ∷ [])
one_more entries id range absent one =
    all_pairs_push (λ (a b : Entry). a.id ≢ b.id) entries (entry_of id range) one
    (λ k d within. absent (get_or entries k d) (Contains-get_or entries k d within))

pub inserts : (entries : List Entry) (id : ℕ) (range : Corners) → Inserts entries (entries ++ entry_of id range ∷ []) id range
inserts entries id range entry =
    (λ there. elim (Contains-push_cases entries (entry_of id range) entry there) [ inl before ↦ inl before | inr same ↦ inr (sym same) ], back)
  where
    back : Contains entries entry ⊎ (entry ≡ entry_of id range) → Contains (entries ++ entry_of id range ∷ []) entry
    back (inl before) = Contains-append_left entries (entry_of id range ∷ []) entry before
    back (inr same) = subst (λ (e : Entry). Contains (entries ++ entry_of id range ∷ []) e) (sym same) (Contains-push entries (entry_of id range))

-- one entry less, in the place of which the last one goes

-- what has become of the entries
pub record TookOut (old new : List Entry) (place : ℕ) : Type 0 where
  pub length_is : length new + 1 ≡ length old
  pub moved : (d : Entry) → place + 1 < length old → get_or new place d ≡ get_or old (length old - 1) d
  pub stayed : (k : ℕ) (d : Entry) → k ≢ place → k + 1 < length old → get_or new k d ≡ get_or old k d

-- where a new entry stood before
data StoodAt (old new : List Entry) (place k : ℕ) (d : Entry) : ℕ → Type 0 where
  there : k ≢ place → get_or new k d ≡ get_or old k d → StoodAt old new place k d k
  last : k ≡ place → get_or new k d ≡ get_or old (length old - 1) d → StoodAt old new place k d (length old - 1)

stood : (old new : List Entry) (place k : ℕ) (d : Entry) → TookOut old new place → k < length new → (at : ℕ) × StoodAt old new place k d at
stood old new place k d took within = elim (cases_eq k place) [
  | inl same ↦ (length old - 1, last same (ap (λ (i : ℕ). get_or new i d) same ∙ took.moved d (omega (arith, same, within, took.length_is))))
  | inr other ↦ (k, there other (took.stayed k d other (omega (arith, within, took.length_is))))
]

-- so no id stands twice still
pub one_less : (old new : List Entry) (place : ℕ) → place < length old → TookOut old new place → HaveOneRange old → HaveOneRange new
one_less old new place inside took one i j d before within same =
    let (at_i, is_i) = stood old new place i d took (omega (arith, before, within)) in
    let (at_j, is_j) = stood old new place j d took within in
    apart at_i at_j is_i is_j
  where
    distinct : (a b : ℕ) → a < b → b < length old → (get_or old a d).id ≡ (get_or old b d).id → ⊥
    distinct a b less in_old = one a b d less in_old

    apart : (a b : ℕ) → StoodAt old new place i d a → StoodAt old new place j d b → ⊥
    apart _ _ (there _ is_i) (there _ is_j) =
        distinct i j before (omega (arith, within, took.length_is)) (sym (ap (λ (e : Entry). e.id) is_i) ∙ same
        ∙ ap (λ (e : Entry). e.id) is_j)
    apart _ _ (there other is_i) (last at is_j) =
        distinct i (length old - 1) (omega (arith, before, within, took.length_is)) (omega (arith, inside))
        (sym (ap (λ (e : Entry). e.id) is_i) ∙ same ∙ ap (λ (e : Entry). e.id) is_j)
    apart _ _ (last at is_i) (there other is_j) =
        distinct j (length old - 1) (omega (arith, within, took.length_is)) (omega (arith, inside))
        (sym (ap (λ (e : Entry). e.id) is_j) ∙ sym same ∙ ap (λ (e : Entry). e.id) is_i)
    apart _ _ (last at_i is_i) (last at_j is_j) = omega (arith, before, at_i, at_j)

-- the entries but the one that stood there
pub removes : (old new : List Entry) (id place : ℕ) → IsPlaceOf old id place → TookOut old new place → HaveOneRange old → Removes old new id
removes old new id place stands took one entry = (to, from)
  where
    same_id : {a b : Entry} → a ≡ b → a.id ≡ b.id
    same_id is = ap (λ (e : Entry). e.id) is

    other_id : (a : ℕ) → a < length old → a ≢ place → (get_or old a entry).id ≢ id
    other_id a within elsewhere same = elim (cases_lt a place) [
      | inl less ↦ one a place entry less stands.within (same ∙ sym (stands.here entry))
      | inr more ↦ one place a entry (omega (arith, more, elsewhere)) within (stands.here entry ∙ sym same)
    ]

    to : Contains new entry → (entry.id ≢ id) × Contains old entry
    to (k, within, is) = let (at, is_at) = stood old new place k entry took within in by_place k at within is is_at
      where
        by_place : (k at : ℕ) → k < length new → get_or new k entry ≡ entry → StoodAt old new place k entry at → (entry.id ≢ id) × Contains old entry
        by_place k _ within is (there other here) =
            let in_old : k < length old = omega (arith, within, took.length_is) in
            (λ same. other_id k in_old other (same_id (sym here ∙ is) ∙ same), (k, in_old, sym here ∙ is))
        by_place k _ within is (last at here) =
            let in_old : length old - 1 < length old = omega (arith, stands.within) in
            let elsewhere : length old - 1 ≢ place = λ same. omega (arith, same, at, within, took.length_is) in
            (λ same. other_id (length old - 1) in_old elsewhere (same_id (sym here ∙ is) ∙ same), (length old - 1, in_old, sym here ∙ is))

    from : (entry.id ≢ id) × Contains old entry → Contains new entry
    from (other, (k, within, is)) = elim (cases_lt (k + 1) (length old)) [
      | inl before ↦ (k, omega (arith, before, took.length_is), took.stayed k entry not_place before ∙ is)
      | inr at_end ↦
          let k_is : k ≡ length old - 1 = omega (arith, at_end, within) in
          let room : place + 1 < length old = omega (arith, stands.within, k_is, not_place) in
          (place, omega (arith, room, took.length_is), took.moved entry room ∙ ap (λ (i : ℕ). get_or old i entry) (sym k_is) ∙ is)
    ]
      where
        not_place : k ≢ place
        not_place same = other (same_id (sym is) ∙ ap (λ (i : ℕ). (get_or old i entry).id) same ∙ stands.here entry)

-- the ids that are found, entry after entry

pub none_found : (query : Corners) (out : List ℕ) → AddsOverlapping [] query out out
none_found query out = record {
  added = [];
  whole = sym (append-nil out);
  once = λ i j d before within. absurd (omega (arith, within));
  exact = λ id. (λ there. absurd (omega (arith, there.1)), λ is. absurd (omega (arith, is.listed.1)));
}

-- an id of the entries with one more is one of those before, or its id
next_found : (entries : List Entry) (entry : Entry) (query : Corners) (id : ℕ)
    → IsOverlapping (entries ++ entry ∷ []) query id → IsOverlapping entries query id
    ⊎ ((id ≡ entry.id) × Overlap entry.range query)
next_found entries entry query id is = elim (Contains-push_cases entries entry (entry_of id is.range) is.listed) [
  | inl before ↦ inl (record { range = is.range; listed = before; overlaps = is.overlaps })
  | inr same ↦ inr (ap (λ (e : Entry). e.id) (sym same), subst (λ (e : Entry). Overlap e.range query) (sym same) is.overlaps)
]

still_found : (entries : List Entry) (entry : Entry) (query : Corners) (id : ℕ) → IsOverlapping entries query id
    → IsOverlapping (entries ++ entry ∷ []) query id
still_found entries entry query id is =
    record {
      range = is.range;
      listed = Contains-append_left entries (entry ∷ []) (entry_of id is.range) is.listed;
      overlaps = is.overlaps;
    }

pub not_found : (entries : List Entry) (entry : Entry) (query : Corners) (old new : List ℕ)
    → ¬ Overlap entry.range query → AddsOverlapping entries query old new
    → AddsOverlapping (entries ++ entry ∷ []) query old new
not_found entries entry query old new apart adds = record {
  added = adds.added;
  whole = adds.whole;
  once = adds.once;
  exact = λ id. (
    λ there. still_found entries entry query id ((adds.exact id).0 there),
    λ is. (adds.exact id).1 (elim (next_found entries entry query id is) [ inl before ↦ before | inr own ↦ absurd (apart own.1) ]),
  );
}

pub one_found : (entries : List Entry) (entry : Entry) (query : Corners) (old new newer : List ℕ)
    → HasNoId entries entry.id → Overlap entry.range query → newer ≡ new ++ entry.id ∷ []
    → AddsOverlapping entries query old new → AddsOverlapping (entries ++ entry ∷ []) query old newer
one_found entries entry query old new newer absent overlaps pushed adds = record {
  added = adds.added ++ entry.id ∷ [];
  whole = pushed ∙ (ap (λ (l : List ℕ). l ++ entry.id ∷ []) adds.whole ∙ append_assoc old adds.added (entry.id ∷ []));
  once =
      all_pairs_push (λ (a b : ℕ). a ≢ b) adds.added entry.id adds.once (λ k d within. is_other (get_or adds.added k d)
      (Contains-get_or adds.added k d within));
  exact = λ id. (to id, λ is. from id (next_found entries entry query id is));
}
  where
    is_other : (id : ℕ) → Contains adds.added id → id ≢ entry.id
    is_other id listed same = let is = (adds.exact id).0 listed in absent (entry_of id is.range) is.listed same

    to : (id : ℕ) → Contains (adds.added ++ entry.id ∷ []) id → IsOverlapping (entries ++ entry ∷ []) query id
    to id listed = elim (Contains-push_cases adds.added entry.id id listed) [
      | inl before ↦ still_found entries entry query id ((adds.exact id).0 before)
      | inr same ↦
          record {
            range = entry.range;
            listed = subst (λ (i : ℕ). Contains (entries ++ entry ∷ []) (entry_of i entry.range)) same
                (Contains-push entries entry);
            overlaps = overlaps;
          }
    ]

    from : (id : ℕ) → IsOverlapping entries query id ⊎ ((id ≡ entry.id) × Overlap entry.range query) → Contains (adds.added ++ entry.id ∷ []) id
    from id (inl before) = Contains-append_left adds.added (entry.id ∷ []) id ((adds.exact id).1 before)
    from id (inr own) = subst (λ (i : ℕ). Contains (adds.added ++ entry.id ∷ []) i) (sym own.0) (Contains-push adds.added entry.id)

-- of the entries before a place none has the id that stands there
pub absent_before : (entries : List Entry) (place : ℕ) (entry : Entry) → HaveOneRange entries → place < length entries
    → entry ≡ get_or entries place entry → HasNoId (take place entries) entry.id
absent_before entries place entry one within here other (k, below, is) same =
    let before : k < place = omega (arith, below, length-take place entries) in
    one k place other before within (ap (λ (e : Entry). e.id) (sym (get_or-take place entries k other before) ∙ is)
    ∙ same ∙ ap (λ (e : Entry). e.id) (here ∙ get_or_default entries place entry other within))

pub found_keeps : (entries : List Entry) (query : Corners) (old new : List ℕ) → AddsOverlapping entries query old new → KeepsIds old new
found_keeps entries query old new adds = record { added = adds.added; whole = adds.whole }

-- what is kept, one list after another
pub keeps_on : (old mid new : List ℕ) → KeepsIds old mid → KeepsIds mid new → KeepsIds old new
keeps_on old mid new first second = record {
  added = first.added ++ second.added;
  whole = second.whole ∙ (ap (λ (l : List ℕ). l ++ second.added) first.whole ∙ append_assoc old first.added second.added);
}

-- one entry further

within_of : (entries : List Entry) (place : ℕ) (entry : Entry) → slice_get entries place ≡ Some entry → place < length entries
within_of entries place entry here = elim (slice_get_cases entries place).1 [
  | inl inside ↦ inside.1
  | inr past ↦
      absurd (let none : Some entry ≡ None = sym here ∙ past.1 in cc)
]

take_one : (entries : List Entry) (place next : ℕ) (entry : Entry) → next ≡ place + 1
    → slice_get entries place ≡ Some entry → take next entries ≡ take place entries ++ entry ∷ []
take_one entries place next entry is_next here =
    ap (λ n. take n entries) is_next ∙ (take_more entries place entry (within_of entries place entry here)
    ∙ ap (λ (e : Entry). take place entries ++ e ∷ []) (get_or_from_slice_get entries place entry entry here))

pub passes_by : (entries : List Entry) (place next : ℕ) (entry : Entry) (query : Corners) (old new : List ℕ)
    → next ≡ place + 1 → slice_get entries place ≡ Some entry → ¬ Overlap entry.range query
    → AddsOverlapping (take place entries) query old new → AddsOverlapping (take next entries) query old new
passes_by entries place next entry query old new is_next here apart adds =
    subst (λ (l : List Entry). AddsOverlapping l query old new) (sym (take_one entries place next entry is_next here))
    (not_found (take place entries) entry query old new apart adds)

pub adds_next : (entries : List Entry) (place next : ℕ) (entry : Entry) (query : Corners) (old new newer : List ℕ)
    → HaveOneRange entries → next ≡ place + 1 → slice_get entries place ≡ Some entry → Overlap entry.range query
    → newer ≡ new ++ entry.id ∷ [] → AddsOverlapping (take place entries) query old new
    → AddsOverlapping (take next entries) query old newer
adds_next entries place next entry query old new newer one is_next here overlaps pushed adds =
    let absent = absent_before entries place entry one (within_of entries place entry here) (sym (get_or_from_slice_get entries place entry entry here)) in
    subst (λ (l : List Entry). AddsOverlapping l query old newer) (sym (take_one entries place next entry is_next here))
    (one_found (take place entries) entry query old new newer absent overlaps pushed adds)
