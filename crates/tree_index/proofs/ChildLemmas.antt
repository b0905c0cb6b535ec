-- How a list of entries changes: the last one takes the place of one that goes, or one has another range.
use Rattle.std.proofs.Common.{◌≡◌, ◌≢◌, ◌⊎◌, inl, inr, ℕ, ◌+◌, ◌-◌, ◌<◌, List, [], ◌∷◌, ◌++◌, length, get_or, set}
use Rattle.std.proofs.Common.{Option, Some, None, sym, ◌∙◌, ap, subst, arith}
use Rattle.std.specs.Prelude.{slice_set, swap_remove, IfSome, option_to_list}
use Rattle.std.specs.List.{Contains, slice_get}
use Rattle.std.proofs.lemmas.Option.{get_or_from_slice_get, slice_get_cases}
use Rattle.std.proofs.lemmas.Bool.{cases_eq, cases_lt}
use Rattle.std.proofs.lemmas.List.{get_or_append_left, get_or_default, length-append, length-take, get_or-take, get_or-set_same, get_or-set_other}
use Rattle.std.proofs.Math.ListN.{length-set}
use Rattle.std.proofs.Math.Seq.{get_or-append_seam}
use Rattle.std.proofs.lemmas.List.Elements.{Contains-push_cases, Contains-append_left}
use Rattle.sheet_refs.specs.Cells.{Corners}
use Rattle.range_index.specs.Entries.{Entry, entry_of, HaveOneRange, HasNoId, Inserts, Removes, ChangesRange, IsPlaceOf}
use Rattle.range_index.proofs.EntryLemmas.{TookOut, one_less, one_more, inserts, removes}
use Rattle.tree_index.specs.Rectangles.{Covers, CoverAll}

pub within_of : (entries : List Entry) (place : ℕ) (entry : Entry) → slice_get entries place ≡ Some entry → place < length entries
within_of entries place entry here = elim (slice_get_cases entries place).1 [
  | inl inside ↦ inside.1
  | inr past ↦
      absurd (let none : Some entry ≡ None = sym here ∙ past.1 in cc)
]

pub is_at : (entries : List Entry) (place : ℕ) (entry d : Entry) → slice_get entries place ≡ Some entry → get_or entries place d ≡ entry
is_at entries place entry d here = get_or_from_slice_get entries place entry d here

pub listed_at : (entries : List Entry) (place : ℕ) (entry : Entry) → slice_get entries place ≡ Some entry → Contains entries entry
listed_at entries place entry here = (place, within_of entries place entry here, is_at entries place entry entry here)

pub place_at : (entries : List Entry) (place : ℕ) (entry : Entry) → slice_get entries place ≡ Some entry → IsPlaceOf entries entry.id place
place_at entries place entry here =
    record {
      within = within_of entries place entry here;
      here = λ d. ap (λ (e : Entry). e.id) (is_at entries place entry d here);
    }

-- the one at a place goes
pub took_out : (entries : List Entry) (place : ℕ) (d : Entry) → place < length entries → TookOut entries (swap_remove entries place d) place
took_out entries place d within = record {
  length_is = omega (arith, within, length-take (length entries - 1) moved, length-set entries place last);
  moved = λ e below.
      get_or-take (length entries - 1) moved place e (omega (arith, below))
      ∙ get_or-set_same entries place last e within
      ∙ get_or_default entries (length entries - 1) d e (omega (arith, within));
  stayed = λ k e other below. get_or-take (length entries - 1) moved k e (omega (arith, below)) ∙ get_or-set_other entries place k last e other;
}
  where
    last : Entry
    last = get_or entries (length entries - 1) d

    moved : List Entry
    moved = set entries place last

pub swapped_out : (entries : List Entry) (place : ℕ) (entry d : Entry) → slice_get entries place ≡ Some entry
    → HaveOneRange entries → HaveOneRange (swap_remove entries place d)
swapped_out entries place entry d here one =
    let within = within_of entries place entry here in
    one_less entries (swap_remove entries place d) place within (took_out entries place d within) one

pub removes_at : (entries : List Entry) (place : ℕ) (entry d : Entry) → slice_get entries place ≡ Some entry
    → HaveOneRange entries → Removes entries (swap_remove entries place d) entry.id
removes_at entries place entry d here one =
    removes entries (swap_remove entries place d) entry.id place (place_at entries place entry here)
    (took_out entries place d (within_of entries place entry here)) one

pub one_shorter : (entries : List Entry) (place : ℕ) (entry d : Entry) → slice_get entries place ≡ Some entry
    → length (swap_remove entries place d) + 1 ≡ length entries
one_shorter entries place entry d here = (took_out entries place d (within_of entries place entry here)).length_is

-- one comes
pub pushed_once : (entries : List Entry) (entry : Entry) → HasNoId entries entry.id → HaveOneRange entries → HaveOneRange (entries ++ entry ∷ [])
pushed_once entries entry absent one = one_more entries entry.id entry.range absent one

pub inserts_pushed : (entries : List Entry) (entry : Entry) → Inserts entries (entries ++ entry ∷ []) entry.id entry.range
inserts_pushed entries entry = inserts entries entry.id entry.range

pub changes_pushed : (entries : List Entry) (entry : Entry) → HasNoId entries entry.id → ChangesRange entries (entries ++ entry ∷ []) entry.id entry.range
changes_pushed entries entry absent e = (
  λ listed. elim ((inserts_pushed entries entry e).0 listed) [ inl was ↦ inl (absent e was, was) | inr is ↦ inr is ],
  λ either. (inserts_pushed entries entry e).1 (elim either [ inl kept ↦ inl kept.1 | inr is ↦ inr is ]),
)

-- the one at a place has another range
module _ (entries : List Entry) (place : ℕ) (entry : Entry) (range : Corners) (here : slice_get entries place ≡ Some entry) where
  within : place < length entries
  within = within_of entries place entry here

  same_id : (k : ℕ) (d : Entry) → (get_or (set entries place (entry_of entry.id range)) k d).id ≡ (get_or entries k d).id
  same_id k d = elim (cases_eq k place) [
    | inl same ↦
        ap (λ (i : ℕ). (get_or (set entries place (entry_of entry.id range)) i d).id) same
        ∙ ap (λ (e : Entry). e.id) (get_or-set_same entries place (entry_of entry.id range) d within)
        ∙ sym (ap (λ (e : Entry). e.id) (is_at entries place entry d here))
        ∙ ap (λ (i : ℕ). (get_or entries i d).id) (sym same)
    | inr other ↦ ap (λ (e : Entry). e.id) (get_or-set_other entries place k (entry_of entry.id range) d other)
  ]

  pub set_once : HaveOneRange entries → HaveOneRange (slice_set entries place (entry_of entry.id range))
  set_once one i j d before inside same =
      one i j d before (omega (arith, inside, length-set entries place (entry_of entry.id range))) (sym (same_id i d)
      ∙ same ∙ same_id j d)

  pub set_length : length (slice_set entries place (entry_of entry.id range)) ≡ length entries
  set_length = length-set entries place (entry_of entry.id range)

  pub changes_set : HaveOneRange entries → ChangesRange entries (slice_set entries place (entry_of entry.id range)) entry.id range
  changes_set one e = (to, from)
    where
      differs : (k : ℕ) → k < length entries → k ≢ place → (get_or entries k e).id ≢ entry.id
      differs k inside other same = elim (cases_lt k place) [
        | inl less ↦ one k place e less within (same ∙ sym (ap (λ (x : Entry). x.id) (is_at entries place entry e here)))
        | inr more ↦ one place k e (omega (arith, more, other)) inside (ap (λ (x : Entry). x.id) (is_at entries place entry e here) ∙ sym same)
      ]

      to : Contains (set entries place (entry_of entry.id range)) e → ((e.id ≢ entry.id) × Contains entries e) ⊎ (e ≡ entry_of entry.id range)
      to (k, inside, is) = elim (cases_eq k place) [
        | inl same ↦
            inr (sym is ∙ ap (λ (i : ℕ). get_or (set entries place (entry_of entry.id range)) i e) same
            ∙ get_or-set_same entries place (entry_of entry.id range) e within)
        | inr other ↦
            let was : get_or entries k e ≡ e = sym (get_or-set_other entries place k (entry_of entry.id range) e other) ∙ is in
            let old : k < length entries = omega (arith, inside, set_length) in
            inl ((λ same. differs k old other (ap (λ (x : Entry). x.id) was ∙ same)), (k, old, was))
      ]

      from : ((e.id ≢ entry.id) × Contains entries e) ⊎ (e ≡ entry_of entry.id range) → Contains (set entries place (entry_of entry.id range)) e
      from (inl (other, (k, inside, is))) =
          let elsewhere : k ≢ place =
          λ same. other (ap (λ (x : Entry). x.id) (sym is ∙ ap (λ (i : ℕ). get_or entries i e) same
          ∙ is_at entries place entry e here)) in
          (k, omega (arith, inside, set_length), get_or-set_other entries place k (entry_of entry.id range) e elsewhere ∙ is)
      from (inr is) =
          (place, omega (arith, within, set_length), get_or-set_same entries place (entry_of entry.id range) e within ∙ sym is)

-- what a rectangle has of entries of which one has changed
pub covers_changed : (rectangle : Corners) (old new : List Entry) (id : ℕ) (range : Corners) → CoverAll rectangle old
    → ChangesRange old new id range → Covers rectangle range → CoverAll rectangle new
covers_changed rectangle old new id range covers changes has e listed = elim ((changes e).0 listed) [
  | inl kept ↦ covers e kept.1
  | inr is ↦ subst (λ (x : Entry). Covers rectangle x.range) (sym is) has
]

-- what stands at the place of an id
pub found_at : (entries : List Entry) (place id : ℕ) → IsPlaceOf entries id place → (entry : Entry) × (slice_get entries place ≡ Some entry) × (entry.id ≡ id)
found_at entries place id is = elim (slice_get_cases entries place).1 [
  | inl inside ↦ (inside.0, inside.2, ap (λ (e : Entry). e.id) (sym inside.3) ∙ is.here inside.0)
  | inr past ↦ absurd (omega (arith, is.within, past.0))
]

pub id_at : (entries : List Entry) (place id : ℕ) (entry : Entry) → IsPlaceOf entries id place → slice_get entries place ≡ Some entry → entry.id ≡ id
id_at entries place id entry is here = ap (λ (e : Entry). e.id) (sym (is_at entries place entry entry here)) ∙ is.here entry

pub removes_place : (entries new : List Entry) (place id : ℕ) (d : Entry) → IsPlaceOf entries id place
    → HaveOneRange entries → new ≡ swap_remove entries place d → Removes entries new id × HaveOneRange new
removes_place entries new place id d is one removed =
    let found = found_at entries place id is in (
      subst (λ (l : List Entry). Removes entries l id) (sym removed)
          (subst (λ (i : ℕ). Removes entries (swap_remove entries place d) i) found.2
          (removes_at entries place found.0 d found.1 one)),
      subst (λ (l : List Entry). HaveOneRange l) (sym removed) (swapped_out entries place found.0 d found.1 one),
    )

-- the last one goes
pub removes_last : (entries new : List Entry) (last : Entry) → entries ≡ new ++ last ∷ [] → HaveOneRange entries
    → Removes entries new last.id × HaveOneRange new
removes_last entries new last whole one =
    let joined : HaveOneRange (new ++ last ∷ []) = subst (λ (l : List Entry). HaveOneRange l) whole one in (
      λ e. (
        λ listed. (
          (λ same. joined listed.0 (length new) e listed.1 (omega (arith, length-append new (last ∷ [])))
              (ap (λ (x : Entry). x.id) (get_or_append_left new (last ∷ []) e listed.0 listed.1 ∙ listed.2) ∙ same
              ∙ ap (λ (x : Entry). x.id) (sym (get_or-append_seam new last [] e)))),
          subst (λ (l : List Entry). Contains l e) (sym whole) (Contains-append_left new (last ∷ []) e listed),
        ),
        λ kept. elim (Contains-push_cases new last e (subst (λ (l : List Entry). Contains l e) whole kept.1)) [
          | inl before ↦ before
          | inr same ↦ absurd (kept.0 (ap (λ (x : Entry). x.id) (sym same)))
        ],
      ),
      λ i j d before within. λ same. joined i j d before (omega (arith, within, length-append new (last ∷ [])))
          (ap (λ (x : Entry). x.id) (get_or_append_left new (last ∷ []) d i (omega (arith, before, within))) ∙ same
          ∙ sym (ap (λ (x : Entry). x.id) (get_or_append_left new (last ∷ []) d j within))),
    )

-- what is so of what an option has
pub some_of : {X : Type 0} (r : Option X) (P : X → Type 0) (x : X) → r ≡ Some x → IfSome r P → P x
some_of {X} r P x is has = subst (λ (o : Option X). IfSome o P) is has

pub got_at : (entries : List Entry) (place : ℕ) (entry : Entry) → place < length entries
    → entry ≡ get_or entries place entry → slice_get entries place ≡ Some entry
got_at entries place entry inside is = elim (slice_get_cases entries place).1 [
  | inl has ↦ has.2 ∙ ap Some (sym (is ∙ is_at entries place has.0 entry has.2))
  | inr past ↦ absurd (omega (arith, inside, past.0))
]

-- what is left where the last one has been taken
pub popped : (old new : List Entry) (result : Option Entry) (last : Entry) → old ≡ new ++ option_to_list result
    → ((d : Entry) → 0 < length old → result ≡ Some (get_or old (length old - 1) d))
    → slice_get old (length old - 1) ≡ Some last → old ≡ new ++ last ∷ []
popped old new result last whole value here =
    let within = within_of old (length old - 1) last here in
    let is : result ≡ Some last = value last (omega (arith, within)) ∙ ap Some (is_at old (length old - 1) last last here) in
    whole ∙ ap (λ (o : Option Entry). new ++ option_to_list o) is

-- one id is listed once
pub one_listed : (entries : List Entry) (a b : Entry) → HaveOneRange entries → Contains entries a → Contains entries b → a.id ≡ b.id → a ≡ b
one_listed entries a b one (i, in_i, is_a) (j, in_j, is_b) ids = elim (cases_eq i j) [
  | inl same ↦ sym is_a ∙ get_or_default entries i a b in_i ∙ ap (λ (k : ℕ). get_or entries k b) same ∙ is_b
  | inr other ↦ elim (cases_lt i j) [
    | inl less ↦ absurd (one i j b less in_j same_ids)
    | inr more ↦ absurd (one j i b (omega (arith, more, other)) in_i (sym same_ids))
  ]
]
  where
    same_ids : (get_or entries i b).id ≡ (get_or entries j b).id
    same_ids = ap (λ (e : Entry). e.id) (sym (get_or_default entries i a b in_i) ∙ is_a) ∙ ids ∙ sym (ap (λ (e : Entry). e.id) is_b)
