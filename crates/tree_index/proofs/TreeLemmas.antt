-- What each step leaves of a tree.
use Rattle.std.proofs.Common.{◌≡◌, ◌≢◌, ◌↔◌, ◌⊎◌, inl, inr, ℕ, List, Option, Some, None, refl, sym, ◌∙◌, ap, nat_eq}
use Rattle.std.specs.List.{Contains, IsDistinct}
use Rattle.std.specs.Map.{lookup, keys_of}
use Rattle.sheet_refs.specs.Cells.{Corners}
use Rattle.range_index.specs.Entries.{Entry, entry_of, HaveOneRange, HasNoId, Removes, ChangesRange}
use Rattle.tree_index.specs.declared.notes.Place.{Place}
use Rattle.tree_index.specs.declared.notes.Place.TheVariants.{Leaf, Late}
use Rattle.tree_index.specs.Trees.{Node, Note, note_of, IsInLeaf, IsInTree, IsTree, StandsAt}
use Rattle.tree_index.specs.Indexes.{noted_entries}
use Rattle.tree_index.specs.Changes.{SetsKey, Admits}
use Rattle.tree_index.proofs.ShapeLemmas.{listed_in, leaf_on}
use Rattle.tree_index.proofs.NoteLemmas.{put_noted, gone_noted, one_note, listed_noted}
use Rattle.tree_index.proofs.StandLemmas.{leaf_gets, leaf_loses, late_gets, late_loses}
use Rattle.tree_index.proofs.ChildLemmas.{covers_changed}

-- what is noted of an id is where its entry stands, and there alone
module _ {at : ℕ → Option Node} {root : ℕ} {late : List Entry} {notes : List (ℕ × Note)} (tree : IsTree at root late notes) where
  pub noted_in : (key : ℕ) (e : Entry) → IsInLeaf at key e → lookup (nat_eq e.id) notes ≡ Some (note_of e.range (Leaf key))
  noted_in key e is = (tree.noted e (Leaf key)).0 is

  pub noted_late : (e : Entry) → Contains late e → lookup (nat_eq e.id) notes ≡ Some (note_of e.range Late)
  noted_late e is = (tree.noted e Late).0 is

  -- an id that isn't there stands nowhere
  pub absent_note : (id : ℕ) → HasNoId (noted_entries notes) id → (note : Note) → lookup (nat_eq id) notes ≡ Some note → ⊥
  absent_note id absent note there = absent (entry_of id note.range) ((listed_noted notes tree.unique (entry_of id note.range)).1 (note.place, there)) refl

  pub not_in_leaf : (id : ℕ) → HasNoId (noted_entries notes) id → (key : ℕ) (e : Entry) → IsInLeaf at key e → e.id ≢ id
  not_in_leaf id absent key e is same =
      absent_note id absent (note_of e.range (Leaf key)) (ap (λ (i : ℕ). lookup (nat_eq i) notes) (sym same)
      ∙ noted_in key e is)

  pub not_late : (id : ℕ) → HasNoId (noted_entries notes) id → (e : Entry) → Contains late e → e.id ≢ id
  not_late id absent e is same = absent_note id absent (note_of e.range Late) (ap (λ (i : ℕ). lookup (nat_eq i) notes) (sym same) ∙ noted_late e is)

  -- an id that is noted at a place stands at no other
  pub at_place : (id : ℕ) (range : Corners) (place : Place) → lookup (nat_eq id) notes ≡ Some (note_of range place)
      → (e : Entry) (p : Place) → StandsAt at late e p → e.id ≡ id → p ≡ place
  at_place id range place there e p stands same =
      let note = one_note (lookup (nat_eq e.id) notes) (note_of e.range p) (note_of range place)
      ((tree.noted e p).0 stands) (ap (λ (i : ℕ). lookup (nat_eq i) notes) same ∙ there) in
      ap (λ (n : Note). n.place) note

  pub leaf_alone : (id : ℕ) (range : Corners) (key : ℕ) → lookup (nat_eq id) notes ≡ Some (note_of range (Leaf key))
      → (k : ℕ) (e : Entry) → k ≢ key → IsInLeaf at k e → e.id ≢ id
  leaf_alone id range key there k e other is same =
      let places : Leaf k ≡ Leaf key = at_place id range (Leaf key) there e (Leaf k) is same in
      other (cc)

  pub leaf_not_late : (id : ℕ) (range : Corners) (key : ℕ) → lookup (nat_eq id) notes ≡ Some (note_of range (Leaf key))
      → (e : Entry) → Contains late e → e.id ≢ id
  leaf_not_late id range key there e is same =
      let places : Late ≡ Leaf key = at_place id range (Leaf key) there e Late is same in
      cc

  pub late_not_leaf : (id : ℕ) (range : Corners) → lookup (nat_eq id) notes ≡ Some (note_of range Late) → (k : ℕ) (e : Entry) → IsInLeaf at k e → e.id ≢ id
  late_not_leaf id range there k e is same =
      let places : Leaf k ≡ Late = at_place id range Late there e (Leaf k) is same in
      cc

  -- the list of those that are still to come has no entry of an id
  pub same_without : (id : ℕ) → ((e : Entry) → Contains late e → e.id ≢ id) → Removes late late id
  same_without id none e = ((λ listed. (none e listed, listed)), (λ kept. kept.1))

  -- the entry of an id that is noted in a leaf is in it
  pub stands_in : (id : ℕ) (range : Corners) (key : ℕ) → lookup (nat_eq id) notes ≡ Some (note_of range (Leaf key)) → IsInLeaf at key (entry_of id range)
  stands_in id range key there = (tree.noted (entry_of id range) (Leaf key)).1 there

  pub stands_late : (id : ℕ) (range : Corners) → lookup (nat_eq id) notes ≡ Some (note_of range Late) → Contains late (entry_of id range)
  stands_late id range there = (tree.noted (entry_of id range) Late).1 there

  module _ (new_notes : List (ℕ × Note)) (unique : IsDistinct nat_eq (keys_of new_notes)) where
    -- the list has changed
    pub tree_late_gets : (new_late : List Entry) (id : ℕ) (range : Corners) → ChangesRange late new_late id range
        → HaveOneRange new_late → ((k : ℕ) (e : Entry) → IsInLeaf at k e → e.id ≢ id)
        → SetsKey (λ i. lookup (nat_eq i) notes) (λ i. lookup (nat_eq i) new_notes) id (Some (note_of range Late))
        → IsTree at root new_late new_notes
    tree_late_gets new_late id range changes once elsewhere sets = record {
      shape = tree.shape;
      noted = put_noted (StandsAt at late) (StandsAt at new_late) (λ i. lookup (nat_eq i) notes)
          (λ i. lookup (nat_eq i) new_notes) id range Late tree.noted sets (late_gets at late new_late id range changes
          elsewhere);
      late_once = once;
      unique = unique;
    }

    pub tree_late_loses : (new_late : List Entry) (id : ℕ) → Removes late new_late id → HaveOneRange new_late
        → ((k : ℕ) (e : Entry) → IsInLeaf at k e → e.id ≢ id)
        → SetsKey (λ i. lookup (nat_eq i) notes) (λ i. lookup (nat_eq i) new_notes) id None
        → IsTree at root new_late new_notes
    tree_late_loses new_late id removes once elsewhere sets = record {
      shape = tree.shape;
      noted = gone_noted (StandsAt at late) (StandsAt at new_late) (λ i. lookup (nat_eq i) notes)
          (λ i. lookup (nat_eq i) new_notes) id tree.noted sets (late_loses at late new_late id removes elsewhere);
      late_once = once;
      unique = unique;
    }

    -- a leaf has changed
    module _ (new : ℕ → Option Node) (key : ℕ) (leaf changed : Node) (there : at key ≡ Some leaf)
        (lowest : leaf.level ≡ 0) (sets : SetsKey at new key (Some changed)) (level_is : changed.level ≡ leaf.level)
        (once : HaveOneRange changed.children) where
      pub tree_gets : (new_late : List Entry) (id : ℕ) (range : Corners)
          → ChangesRange leaf.children changed.children id range → Admits at key range → Removes late new_late id
          → HaveOneRange new_late → ((k : ℕ) (e : Entry) → k ≢ key → IsInLeaf at k e → e.id ≢ id)
          → SetsKey (λ i. lookup (nat_eq i) notes) (λ i. lookup (nat_eq i) new_notes) id
          (Some (note_of range (Leaf key))) → IsTree new root new_late new_notes
      tree_gets new_late id range changes admits removes late_once elsewhere noted = record {
        shape = leaf_on tree.shape there sets level_is lowest once (λ parent rectangle link.
            let below = tree.shape.below parent (entry_of key rectangle) link in
            covers_changed rectangle leaf.children changed.children id range
            (λ e listed. below.covers e (listed_in (at key) leaf below.node e there below.there listed)) changes
            (admits parent rectangle link));
        noted = put_noted (StandsAt at late) (StandsAt new new_late) (λ i. lookup (nat_eq i) notes)
            (λ i. lookup (nat_eq i) new_notes) id range (Leaf key) tree.noted noted
            (leaf_gets there lowest sets (level_is ∙ lowest) late new_late id range changes removes elsewhere);
        late_once = late_once;
        unique = unique;
      }

      pub tree_loses : (id : ℕ) → Removes leaf.children changed.children id → Removes late late id
          → ((k : ℕ) (e : Entry) → k ≢ key → IsInLeaf at k e → e.id ≢ id)
          → SetsKey (λ i. lookup (nat_eq i) notes) (λ i. lookup (nat_eq i) new_notes) id None
          → IsTree new root late new_notes
      tree_loses id removes lates elsewhere noted = record {
        shape = leaf_on tree.shape there sets level_is lowest once (λ parent rectangle link e listed.
            let below = tree.shape.below parent (entry_of key rectangle) link in
            below.covers e (listed_in (at key) leaf below.node e there below.there ((removes e).0 listed).1));
        noted = gone_noted (StandsAt at late) (StandsAt new late) (λ i. lookup (nat_eq i) notes) (λ i. lookup (nat_eq i) new_notes) id tree.noted noted
            (leaf_loses there lowest sets (level_is ∙ lowest) late id removes lates elsewhere);
        late_once = tree.late_once;
        unique = unique;
      }

-- an entry is noted exactly where it is still to come or stands in a leaf, and no id is both
module _ {at : ℕ → Option Node} {root : ℕ} {late : List Entry} {notes : List (ℕ × Note)} (tree : IsTree at root late notes) where
  pub standing : (e : Entry) → (Contains late e ⊎ IsInTree at e) ↔ Contains (noted_entries notes) e
  standing e = (
    λ either. (listed_noted notes tree.unique e).1 (elim either [
      | inl is ↦ (Late, (tree.noted e Late).0 is)
      | inr is ↦ (Leaf is.0, (tree.noted e (Leaf is.0)).0 is.1)
    ]),
    λ listed. let noted = (listed_noted notes tree.unique e).0 listed in from noted.0 ((tree.noted e noted.0).1 noted.1),
  )
    where
      from : (p : Place) → StandsAt at late e p → Contains late e ⊎ IsInTree at e
      from (Leaf key) is = inr (key, is)
      from Late is = inl is

  pub late_apart : (a b : Entry) → Contains late a → IsInTree at b → a.id ≡ b.id → ⊥
  late_apart a b is is_too ids =
      let places : Leaf is_too.0 ≡ Late = at_place tree a.id a.range Late (noted_late tree a is) b (Leaf is_too.0) is_too.1 (sym ids) in
      cc
