-- What is there after a list of calls, and how many ids a query adds.
use Rattle.std.proofs.Common.{◌≡◌, ◌≢◌, ◌↔◌, ◌⊎◌, inl, inr, ℕ, zero, suc, ◌+◌, ◌<◌, ◌≤◌, ◌==◌, cond, Bool, true, false}
use Rattle.std.proofs.Common.{List, [], ◌∷◌, ◌++◌, map, length, get_or, Some, slice_get, refl, sym, ◌∙◌, ap, subst}
use Rattle.std.proofs.Common.{arith}
use Rattle.std.specs.List.{Contains}
use Rattle.std.proofs.lemmas.Bool.{cases_eq, cases_lt}
use Rattle.std.proofs.lemmas.Bool.Decides.{eqb_tells}
use Rattle.std.proofs.lemmas.Option.{none-some, same_Some}
use Rattle.std.proofs.lemmas.List.{get_or_default, get_or-map, length-append, length-map}
use Rattle.sheet_refs.specs.Cells.{Corners}
use Rattle.range_index.specs.Entries.{Entry, entry_of, HaveOneRange, AddsOverlapping}
use Rattle.range_index.specs.Laws.{Call, After, Does, id_of, left_by, last_range}
use Rattle.range_index.specs.Laws.Call.{insertion, removal, change}
use Rattle.range_index.proofs.DistinctLemmas.{no_longer}

-- ---- the last call of an id

-- a call leaves the entries of other ids, and of its own id what it gives
record IsDone (call : Call) (old new : List Entry) : Type 0 where
  others : (id : ℕ) (range : Corners) → id ≢ id_of call → Contains new (entry_of id range) ↔ Contains old (entry_of id range)
  own : (range : Corners) → Contains new (entry_of (id_of call) range) ↔ (left_by call ≡ Some range)

same_id : {entry other : Entry} → entry ≡ other → entry.id ≡ other.id
same_id is = ap (λ (e : Entry). e.id) is

same_range : {entry other : Entry} → entry ≡ other → entry.range ≡ other.range
same_range is = ap (λ (e : Entry). e.range) is

done : (call : Call) (old new : List Entry) → Does call old new → IsDone call old new
done (insertion own given) old new (absent, inserts) = record {
  others = λ id range other. (
    λ there. elim ((inserts (entry_of id range)).0 there) [ inl before ↦ before | inr is ↦ absurd (other (same_id is)) ],
    λ before. (inserts (entry_of id range)).1 (inl before),
  );
  own = λ range. (
    λ there. elim ((inserts (entry_of own range)).0 there) [
      | inl before ↦
          absurd (absent (entry_of own range) before refl)
      | inr is ↦ ap Some (sym (same_range is))
    ],
    λ gives. (inserts (entry_of own range)).1 (inr (ap (entry_of own) (sym (same_Some given range gives)))),
  );
}
done (removal own) old new removes = record {
  others = λ id range other. (λ there. ((removes (entry_of id range)).0 there).1, λ before. (removes (entry_of id range)).1 (other, before));
  own = λ range. (λ there. absurd (((removes (entry_of own range)).0 there).0 refl), λ gives. absurd (none-some range gives));
}
done (change own given) old new changes = record {
  others = λ id range other. (
    λ there. elim ((changes (entry_of id range)).0 there) [ inl before ↦ before.1 | inr is ↦ absurd (other (same_id is)) ],
    λ before. (changes (entry_of id range)).1 (inl (other, before)),
  );
  own = λ range. (
    λ there. elim ((changes (entry_of own range)).0 there) [ inl before ↦ absurd (before.0 refl) | inr is ↦ ap Some (sym (same_range is)) ],
    λ gives. (changes (entry_of own range)).1 (inr (ap (entry_of own) (sym (same_Some given range gives)))),
  );
}

pub entries_last : (calls : List Call) (entries : List Entry) (id : ℕ) (range : Corners) → After calls entries
    → Contains entries (entry_of id range) ↔ (last_range calls id ≡ Some range)
entries_last [] entries id range none = (
  λ there. absurd (let there_then : Contains [] (entry_of id range) = subst (λ (es : List Entry). Contains es
      (entry_of id range)) none there in omega (arith, there_then.1)),
  λ gives. absurd (none-some range gives),
)
entries_last (call ∷ calls) entries id range (before, after, does) =
    by_id (eqb_tells (id_of call) id) (entries_last calls before id range after) (done call before entries does)
  where
    by_id : (((id_of call == id) ≡ true) × (id_of call ≡ id)) ⊎ (((id_of call == id) ≡ false) × (id_of call ≢ id))
        → Contains before (entry_of id range) ↔ (last_range calls id ≡ Some range) → IsDone call before entries
        → Contains entries (entry_of id range) ↔ (last_range (call ∷ calls) id ≡ Some range)
    by_id (inl (equal, same)) known is =
        let last : last_range (call ∷ calls) id ≡ left_by call = ap (λ (b : Bool). cond b (left_by call) (last_range calls id)) equal in (
          λ there. last ∙ (is.own range).0 (subst (λ (i : ℕ). Contains entries (entry_of i range)) (sym same) there),
          λ gives. subst (λ (i : ℕ). Contains entries (entry_of i range)) same ((is.own range).1 (sym last ∙ gives)),
        )
    by_id (inr (unequal, differ)) known is =
        let last : last_range (call ∷ calls) id ≡ last_range calls id = ap (λ (b : Bool). cond b (left_by call) (last_range calls id)) unequal in
        let other : id ≢ id_of call = λ same. differ (sym same) in (
          λ there. last ∙ known.0 ((is.others id range other).0 there),
          λ gives. (is.others id range other).1 (known.1 (sym last ∙ gives)),
        )

-- ---- one range each

pub ids_one : (entries : List Entry) (id : ℕ) (range other : Corners) → HaveOneRange entries
    → Contains entries (entry_of id range) → Contains entries (entry_of id other) → range ≡ other
ids_one entries id range other one (i, i_in, at_i) (j, j_in, at_j) = elim (cases_lt i j) [
  | inl before ↦ absurd (one i j (entry_of id range) before j_in (same_id at_i ∙ sym (same_id (at j j_in at_j))))
  | inr after ↦ elim (cases_eq i j) [
    | inl same ↦ same_range (sym at_i ∙ (ap (λ (k : ℕ). get_or entries k (entry_of id range)) same ∙ at j j_in at_j))
    | inr differ ↦ absurd (one j i (entry_of id range) (omega (arith, after, differ)) i_in (same_id (at j j_in at_j) ∙ sym (same_id at_i)))
  ]
]
  where
    at : (k : ℕ) → k < length entries → get_or entries k (entry_of id other) ≡ entry_of id other → get_or entries k (entry_of id range) ≡ entry_of id other
    at k below is = get_or_default entries k (entry_of id range) (entry_of id other) below ∙ is

-- ---- no more ids than entries

pub found_few : (entries : List Entry) (query : Corners) (old new : List ℕ) → AddsOverlapping entries query old new → length new ≤ length old + length entries
found_few entries query old new adds =
    let fewer = no_longer adds.added (map (λ (e : Entry). e.id) entries) adds.once there in
    omega (arith, fewer, ap length adds.whole, length-append old adds.added, length-map entries (λ (e : Entry). e.id))
  where
    there : (id : ℕ) → Contains adds.added id → Contains (map (λ (e : Entry). e.id) entries) id
    there id listed =
        let found = (adds.exact id).0 listed in
        let (k, below, is) = found.listed in (
          k,
          omega (arith, below, length-map entries (λ (e : Entry). e.id)),
          get_or-map (λ (e : Entry). e.id) entries k (entry_of id found.range) id below ∙ same_id is,
        )

-- ---- what was held

pub still_stands : {A : Type 0} (held added : List A) (place : ℕ) (x : A) → slice_get held place ≡ Some x → slice_get (held ++ added) place ≡ Some x
still_stands [] added place x here = absurd (cc)
still_stands (first ∷ held) added zero x here = here
still_stands (first ∷ held) added (suc place) x here = still_stands held added place x here
