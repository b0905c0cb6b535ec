-- What is noted of entries, and the entries that are noted.
use Rattle.std.proofs.Common.{◌≡◌, ◌≢◌, ◌↔◌, ◌⊎◌, inl, inr, ℕ, ◌<◌, Bool, true, false, true≢false, cond, List, length}
use Rattle.std.proofs.Common.{get_or, Option, Some, None, refl, sym, ◌∙◌, ap, subst, arith, nat_eq}
use Rattle.std.specs.List.{Contains, IsDistinct}
use Rattle.std.specs.Map.{lookup, keys_of}
use Rattle.std.proofs.lemmas.Bool.{cases_eq}
use Rattle.std.proofs.lemmas.Bool.Decides.{nat_tests}
use Rattle.std.proofs.lemmas.List.{get_or-map, length-map}
use Rattle.std.proofs.lemmas.List.Elements.{Contains-get_or}
use Rattle.std.proofs.lemmas.Map.Keys.{apart_from_distinct}
use Rattle.std.specs.Cmp.{nat_eq_equiv}
use Rattle.std.proofs.lemmas.Map.Entries.{length-keys_of}
use Rattle.std.proofs.lemmas.Map.Views.{lookup-from_Contains, Contains-from_lookup}
use Rattle.sheet_refs.specs.Cells.{Corners}
use Rattle.range_index.specs.Entries.{Entry, entry_of, HasNoId, HaveOneRange, Inserts, Removes, ChangesRange, SameEntries}
use Rattle.tree_index.specs.declared.notes.Place.{Place}
use Rattle.tree_index.specs.declared.notes.Place.TheVariants.{Late}
use Rattle.tree_index.specs.Trees.{Note, note_of, AreNoted}
use Rattle.tree_index.specs.Indexes.{noted_entries}
use Rattle.tree_index.specs.Changes.{SetsKey, place_noted}

pub entry_is : (entry : Entry) (id : ℕ) (range : Corners) → entry.id ≡ id → entry.range ≡ range → entry ≡ entry_of id range
entry_is entry id range ids ranges = ap (λ (i : ℕ). entry_of i entry.range) ids ∙ ap (λ (r : Corners). entry_of id r) ranges

pub one_note : (slot : Option Note) (a b : Note) → slot ≡ Some a → slot ≡ Some b → a ≡ b
one_note slot a b first second = let both : Some a ≡ Some b = sym first ∙ second in cc

pub no_note : (slot : Option Note) (a : Note) → slot ≡ None → slot ≡ Some a → ⊥
no_note slot a first second = let both : None ≡ Some a = sym first ∙ second in cc

-- what is noted of each id
abbrev pub note_in : List (ℕ × Note) → ℕ → Option Note
note_in notes id = lookup (nat_eq id) notes

-- an entry is put at a place, whether it was at another or not
pub put_noted : (S T : Entry → Place → Type 0) (noted new : ℕ → Option Note) (id : ℕ) (range : Corners) (at : Place)
    → AreNoted S noted → SetsKey noted new id (Some (note_of range at))
    → ((e : Entry) (p : Place) → T e p ↔ (((e.id ≢ id) × S e p) ⊎ ((e ≡ entry_of id range) × (p ≡ at))))
    → AreNoted T new
put_noted S T noted new id range at are sets moved e p = (
  λ stands. elim ((moved e p).0 stands) [
    | inl kept ↦ sets.others e.id kept.0 ∙ (are e p).0 kept.1
    | inr is ↦
        ap new (ap (λ (x : Entry). x.id) is.0) ∙ sets.here
        ∙ ap (λ (r : Corners). Some (note_of r at)) (sym (ap (λ (x : Entry). x.range) is.0))
        ∙ ap (λ (q : Place). Some (note_of e.range q)) (sym is.1)
  ],
  λ there. (moved e p).1 (elim (cases_eq e.id id) [
    | inl same ↦
        let note = one_note (new e.id) (note_of range at) (note_of e.range p) (ap new same ∙ sets.here) there in
        inr (entry_is e id range same (ap (λ (n : Note). n.range) (sym note)), ap (λ (n : Note). n.place) (sym note))
    | inr other ↦ inl (other, (are e p).1 (sym (sets.others e.id other) ∙ there))
  ]),
)

-- an entry is nowhere
pub gone_noted : (S T : Entry → Place → Type 0) (noted new : ℕ → Option Note) (id : ℕ) → AreNoted S noted
    → SetsKey noted new id None → ((e : Entry) (p : Place) → T e p ↔ ((e.id ≢ id) × S e p)) → AreNoted T new
gone_noted S T noted new id are sets moved e p = (
  λ stands. let kept = (moved e p).0 stands in sets.others e.id kept.0 ∙ (are e p).0 kept.1,
  λ there. (moved e p).1 (elim (cases_eq e.id id) [
    | inl same ↦ absurd (no_note (new e.id) (note_of e.range p) (ap new same ∙ sets.here) there)
    | inr other ↦ (other, (are e p).1 (sym (sets.others e.id other) ∙ there))
  ]),
)

-- entries stand where they stood
pub same_noted : (S T : Entry → Place → Type 0) (noted : ℕ → Option Note) → AreNoted S noted → ((e : Entry) (p : Place) → T e p ↔ S e p) → AreNoted T noted
same_noted S T noted are moved e p = (λ stands. (are e p).0 ((moved e p).0 stands), λ there. (moved e p).1 ((are e p).1 there))

-- numbers that are equal by their test are the same

number_is : (a b : ℕ) → nat_eq a b ≡ true → a ≡ b
number_is a b e = grind (arith, nat_tests, e)

number_self : (a : ℕ) → nat_eq a a ≡ true
number_self a = grind (arith, nat_tests)

-- one look-up has changed
pub sets_note : (old new : ℕ → Option Note) (key : ℕ) (value : Option Note) → ((q : ℕ) → new q ≡ cond (nat_eq key q) value (old q)) → SetsKey old new key value
sets_note old new key value step = record {
  here = step key ∙ ap (λ v. cond v value (old key)) (number_self key);
  others = λ q other. step q ∙ ap (λ v. cond v value (old q)) (is_false q other (nat_eq key q) refl);
}
  where
    is_false : (q : ℕ) → q ≢ key → (v : Bool) → nat_eq key q ≡ v → nat_eq key q ≡ false
    is_false q other true e = absurd (other (sym (number_is key q e)))
    is_false q other false e = e

-- the entries that are noted

-- an entry is listed exactly where it is noted somewhere
pub listed_noted : (notes : List (ℕ × Note)) → IsDistinct nat_eq (keys_of notes) → (e : Entry)
    → Contains (noted_entries notes) e ↔ ((p : Place) × (lookup (nat_eq e.id) notes ≡ Some (note_of e.range p)))
listed_noted notes unique e = (to, from)
  where
    none : ℕ × Note
    none = (e.id, note_of e.range Late)

    to : Contains (noted_entries notes) e → (p : Place) × (lookup (nat_eq e.id) notes ≡ Some (note_of e.range p))
    to (k, within, is) =
        let inside : k < length notes = omega (arith, within, length-map notes (λ (noted : ℕ × Note). entry_of noted.0 noted.1.range)) in
        let at : ℕ × Note = get_or notes k none in
        let here : entry_of at.0 at.1.range ≡ e = sym (get_or-map (λ (noted : ℕ × Note). entry_of noted.0 noted.1.range) notes k none e inside) ∙ is in
        let id : at.0 ≡ e.id = ap (λ (x : Entry). x.id) here in
        let range : at.1.range ≡ e.range = ap (λ (x : Entry). x.range) here in
        let found : lookup (nat_eq at.0) notes ≡ Some at.1 = lookup-from_Contains nat_eq_equiv at.0 at.1 notes unique (Contains-get_or notes k none inside) in
        (at.1.place, ap (λ (i : ℕ). lookup (nat_eq i) notes) (sym id) ∙ found ∙ ap (λ (r : Corners). Some (note_of r at.1.place)) range)

    from : (p : Place) × (lookup (nat_eq e.id) notes ≡ Some (note_of e.range p)) → Contains (noted_entries notes) e
    from (p, found) =
        let there = Contains-from_lookup number_is e.id (note_of e.range p) notes found in
        let at : ℕ × Note = (e.id, note_of e.range p) in (
          there.0,
          omega (arith, there.1, length-map notes (λ (noted : ℕ × Note). entry_of noted.0 noted.1.range)),
          get_or-map (λ (noted : ℕ × Note). entry_of noted.0 noted.1.range) notes there.0 at e there.1
              ∙ ap (λ (noted : ℕ × Note). entry_of noted.0 noted.1.range) there.2,
        )

-- no id is listed twice
pub one_range : (notes : List (ℕ × Note)) → IsDistinct nat_eq (keys_of notes) → HaveOneRange (noted_entries notes)
one_range notes unique i j d before within same =
    let inside : j < length notes = omega (arith, within, length-map notes (λ (noted : ℕ × Note). entry_of noted.0 noted.1.range)) in
    let first : i < length notes = omega (arith, before, inside) in
    let apart = apart_from_distinct nat_eq (keys_of notes) i j 0 unique before (omega (arith, inside, length-keys_of notes)) in
    let ids : get_or (keys_of notes) i 0 ≡ get_or (keys_of notes) j 0 = key_at i first ∙ same ∙ sym (key_at j inside) in
    true≢false (sym (number_self (get_or (keys_of notes) i 0)) ∙ ap (λ (k : ℕ). nat_eq (get_or (keys_of notes) i 0) k) ids ∙ apart)
  where
    none : ℕ × Note
    none = (d.id, note_of d.range Late)

    key_at : (k : ℕ) → k < length notes → get_or (keys_of notes) k 0 ≡ (get_or (noted_entries notes) k d).id
    key_at k inside =
        get_or-map (λ (noted : ℕ × Note). noted.0) notes k none 0 inside
        ∙ sym (ap (λ (x : Entry). x.id) (get_or-map (λ (noted : ℕ × Note). entry_of noted.0 noted.1.range) notes k
        none d inside))

module _ (notes new : List (ℕ × Note)) (unique : IsDistinct nat_eq (keys_of notes)) (unique_new : IsDistinct nat_eq (keys_of new)) where
  -- the entry of one id has another range or has come
  pub changes_noted : (id : ℕ) (range : Corners) (place : Place)
      → SetsKey (λ i. lookup (nat_eq i) notes) (λ i. lookup (nat_eq i) new) id (Some (note_of range place))
      → ChangesRange (noted_entries notes) (noted_entries new) id range
  changes_noted id range place sets e = (
    λ listed. let now = (listed_noted new unique_new e).0 listed in elim (cases_eq e.id id) [
      | inl same ↦
          let note = one_note (lookup (nat_eq e.id) new) (note_of e.range now.0) (note_of range place) now.1
          (ap (λ (i : ℕ). lookup (nat_eq i) new) same ∙ sets.here) in
          inr (entry_is e id range same (ap (λ (n : Note). n.range) note))
      | inr other ↦ inl (other, (listed_noted notes unique e).1 (now.0, sym (sets.others e.id other) ∙ now.1))
    ],
    λ either. (listed_noted new unique_new e).1 (elim either [
      | inl kept ↦ let was = (listed_noted notes unique e).0 kept.1 in (was.0, sets.others e.id kept.0 ∙ was.1)
      | inr is ↦ (
        place,
        ap (λ (i : ℕ). lookup (nat_eq i) new) (ap (λ (x : Entry). x.id) is) ∙ sets.here
            ∙ ap (λ (r : Corners). Some (note_of r place)) (sym (ap (λ (x : Entry). x.range) is)),
      )
    ]),
  )

  pub inserts_noted : (id : ℕ) (range : Corners) → HasNoId (noted_entries notes) id
      → ChangesRange (noted_entries notes) (noted_entries new) id range
      → Inserts (noted_entries notes) (noted_entries new) id range
  inserts_noted id range absent changes e = (
    λ listed. elim ((changes e).0 listed) [ inl kept ↦ inl kept.1 | inr is ↦ inr is ],
    λ either. (changes e).1 (elim either [ inl was ↦ inl (absent e was, was) | inr is ↦ inr is ]),
  )

  pub same_entries : (id : ℕ) (range : Corners) (place : Place) → lookup (nat_eq id) notes ≡ Some (note_of range place)
      → ChangesRange (noted_entries notes) (noted_entries new) id range
      → SameEntries (noted_entries notes) (noted_entries new)
  same_entries id range place there changes e = (
    λ listed. elim ((changes e).0 listed) [
      | inl kept ↦ kept.1
      | inr is ↦ subst (λ (x : Entry). Contains (noted_entries notes) x) (sym is) ((listed_noted notes unique (entry_of id range)).1 (place, there))
    ],
    λ was. (changes e).1 (elim (cases_eq e.id id) [
      | inl same ↦
          let noted = (listed_noted notes unique e).0 was in
          let note = one_note (lookup (nat_eq e.id) notes) (note_of e.range noted.0) (note_of range place) noted.1
          (ap (λ (i : ℕ). lookup (nat_eq i) notes) same ∙ there) in
          inr (entry_is e id range same (ap (λ (n : Note). n.range) note))
      | inr other ↦ inl (other, was)
    ]),
  )

  pub removes_noted : (id : ℕ) → SetsKey (λ i. lookup (nat_eq i) notes) (λ i. lookup (nat_eq i) new) id None
      → Removes (noted_entries notes) (noted_entries new) id
  removes_noted id sets e = (
    λ listed.
        let now = (listed_noted new unique_new e).0 listed in
        let other : e.id ≢ id = λ same. no_note (lookup (nat_eq e.id) new) (note_of e.range now.0)
        (ap (λ (i : ℕ). lookup (nat_eq i) new) same ∙ sets.here) now.1 in
        (other, (listed_noted notes unique e).1 (now.0, sym (sets.others e.id other) ∙ now.1)),
    λ kept. let was = (listed_noted notes unique e).0 kept.1 in (listed_noted new unique_new e).1 (was.0, sets.others e.id kept.0 ∙ was.1),
  )

-- an id whose place is noted is noted there with a range
pub noted_at : (slot : Option Note) (place : Place) → place_noted slot ≡ Some place → (range : Corners) × (slot ≡ Some (note_of range place))
noted_at None place is = absurd (cc)
noted_at (Some note) place is = let same : note.place ≡ place = cc in (note.range, ap (λ (p : Place). Some (note_of note.range p)) same)
