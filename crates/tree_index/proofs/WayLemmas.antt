-- Trees that have been rearranged, one after another.
use Rattle.std.proofs.Common.{◌≡◌, ◌≢◌, ◌↔◌, inl, inr, ℕ, ◌<◌, List, Option, Some, None, refl, sym, ◌∙◌, ap, subst, arith, nat_eq}
use Rattle.std.specs.List.{IsDistinct}
use Rattle.std.specs.Map.{lookup, keys_of}
use Rattle.sheet_refs.specs.Cells.{Corners}
use Rattle.std.specs.Prelude.{slice_index_or, slice_set}
use Rattle.range_index.specs.Entries.{Entry, entry_of, ChangesRange, HasId, HasNoId, HaveOneRange, Inserts, Removes, SameEntries}
use Rattle.tree_index.specs.declared.notes.Place.{Place}
use Rattle.tree_index.specs.declared.nodes.Tree.{Tree}
use Rattle.tree_index.specs.Rectangles.{CoverAll}
use Rattle.tree_index.specs.Trees.{Node, Note, Links, IsShape, IsTree, StandsAt}
use Rattle.tree_index.specs.Indexes.{HoldTree, entries_in, noted_entries, node_at}
use Rattle.tree_index.specs.Changes.{Rearranges, KeepsNode, Admits, SetsRange, with_children}
use Rattle.tree_index.proofs.ChildLemmas.{changes_set, listed_at, set_once}
use Rattle.tree_index.proofs.NoteLemmas.{listed_noted, same_noted, note_in}
use Rattle.tree_index.proofs.ShapeLemmas.{level_on, link_cases, range_on}
use Rattle.tree_index.proofs.StandLemmas.{inner_no_leaf, no_leaf}

-- nodes have another shape, and entries stand where they stood
pub reshaped : {at new : ℕ → Option Node} {root root_new : ℕ} {late : List Entry} {notes : List (ℕ × Note)}
    → IsTree at root late notes → IsShape new root_new root_new → ((e : Entry) (p : Place) → StandsAt new late e p
    ↔ StandsAt at late e p) → IsTree new root_new late notes
reshaped {at} {new} {root} {root_new} {late} {notes} tree shape stands = record {
  shape = shape;
  noted = same_noted (StandsAt at late) (StandsAt new late) (note_in notes) tree.noted stands;
  late_once = tree.late_once;
  unique = tree.unique;
}

same_listed : (entries : List Entry) → SameEntries entries entries
same_listed entries e = ((λ listed. listed), (λ listed. listed))

pub rearranged : (old new : Tree) → HoldTree new → new.late ≡ old.late → new.notes ≡ old.notes → Rearranges old new
rearranged old new tree late notes = record {
  tree = tree;
  same = rw notes (same_listed (entries_in old));
  late = late;
  room = rw (notes, late) (omega arith);
}

pub rearranged_none : (old new : Tree) → new ≡ old → HoldTree old → Rearranges old new
rearranged_none old new same tree =
    subst (λ (t : Tree). Rearranges old t) (sym same) (record {
      tree = tree;
      same = same_listed (entries_in old);
      late = refl;
      room = omega arith;
    })

pub rearranged_on : (a b c : Tree) → Rearranges a b → Rearranges b c → Rearranges a c
rearranged_on a b c first second = record {
  tree = second.tree;
  same = λ e. ((λ listed. (first.same e).0 ((second.same e).0 listed)), (λ listed. (second.same e).1 ((first.same e).1 listed)));
  late = second.late ∙ first.late;
  room = omega (arith, first.room, second.room);
}

pub kept_none : (old new : Tree) (key : ℕ) → new ≡ old → KeepsNode old new key
kept_none old new key same =
    subst (λ (t : Tree). KeepsNode old t key) (sym same) (record {
      level = λ node there. (node, there, refl);
      admits = λ range has. has;
    })

pub kept_on : (a b c : Tree) (key : ℕ) → KeepsNode a b key → KeepsNode b c key → KeepsNode a c key
kept_on a b c key first second = record {
  level = λ node there.
      let once = first.level node there in
      let twice = second.level once.0 once.1 in
      (twice.0, twice.1, twice.2 ∙ once.2);
  admits = λ range has. second.admits range (first.admits range has);
}

-- a node is kept where it keeps its level, and is a child with a rectangle that it had
pub kept_by : (old new : Tree) (key : ℕ) → ((node : Node) → node_at old key ≡ Some node → (kept : Node)
    × (node_at new key ≡ Some kept) × (kept.level ≡ node.level))
    → ((parent : ℕ) (r : Corners) → Links (node_at new) parent (entry_of key r) → (q : ℕ)
    × Links (node_at old) q (entry_of key r)) → KeepsNode old new key
kept_by old new key level back = record {
  level = level;
  admits = λ range has parent rectangle link. let was = back parent rectangle link in has was.0 rectangle was.1;
}

-- a child has another rectangle
module _ (old new : Tree) (above place : ℕ) (range : Corners) (sets : SetsRange old new above place range)
    (tree : HoldTree old) (inner : 0 < sets.node.level) where
  once : HaveOneRange sets.node.children
  once = tree.shape.once above sets.node sets.there

  changes : ChangesRange sets.node.children (slice_set sets.node.children place (entry_of sets.child.id range)) sets.child.id range
  changes = changes_set sets.node.children place sets.child range sets.here once

  pub range_rest : ((below : Node) → node_at old sets.child.id ≡ Some below → CoverAll range below.children)
      → Admits (node_at old) above range → Rearranges old new
  range_rest covers admits =
      rearranged old new (rw (sets.set.root, sets.set.late, sets.set.notes) (reshaped tree
      (range_on tree.shape sets.there sets.set.nodes refl sets.child.id sets.child.range range inner
      (set_once sets.node.children place sets.child range sets.here once)
      (listed_at sets.node.children place sets.child sets.here) changes covers admits)
      (no_leaf (node_at old) (node_at new) old.late.items above sets.set.nodes.others (inner_no_leaf (node_at old) above sets.node sets.there inner)
      (inner_no_leaf (node_at new) above
      (with_children sets.node (slice_set sets.node.children place (entry_of sets.child.id range)))
      sets.set.nodes.here inner)))) sets.set.late sets.set.notes

  pub range_kept : (key : ℕ) → key ≢ sets.child.id → KeepsNode old new key
  range_kept key other =
      kept_by old new key (level_on sets.there sets.set.nodes refl key)
      (λ parent r link. elim (link_cases sets.there sets.set.nodes refl parent (entry_of key r) link) [
        | inl own ↦ elim ((changes (entry_of key r)).0 own.1) [
          | inl kept ↦ (above, record { node = sets.node; there = sets.there; inner = inner; listed = kept.1 })
          | inr is ↦ absurd (other (ap (λ (e : Entry). e.id) is))
        ]
        | inr elsewhere ↦ (parent, elsewhere.1)
      ])

-- the same entries, one after another
pub same_on : (a b c : List Entry) → SameEntries a b → SameEntries b c → SameEntries a c
same_on a b c first second e = ((λ listed. (first e).0 ((second e).0 listed)), (λ listed. (second e).1 ((first e).1 listed)))

-- notes in another order
pub reordered : {at : ℕ → Option Node} {root : ℕ} {late : List Entry} {notes : List (ℕ × Note)} (new : List (ℕ × Note))
    → IsTree at root late notes → IsDistinct nat_eq (keys_of new)
    → ((id : ℕ) → lookup (nat_eq id) new ≡ lookup (nat_eq id) notes) → IsTree at root late new
reordered {at} {root} {late} {notes} new tree unique same = record {
  shape = tree.shape;
  noted = λ e p. ((λ is. same e.id ∙ (tree.noted e p).0 is), (λ there. (tree.noted e p).1 (sym (same e.id) ∙ there)));
  late_once = tree.late_once;
  unique = unique;
}

pub same_reordered : (notes new : List (ℕ × Note)) → IsDistinct nat_eq (keys_of notes) → IsDistinct nat_eq (keys_of new)
    → ((id : ℕ) → lookup (nat_eq id) new ≡ lookup (nat_eq id) notes)
    → SameEntries (noted_entries notes) (noted_entries new)
same_reordered notes new unique unique_new same e = (
  λ listed. let now = (listed_noted new unique_new e).0 listed in (listed_noted notes unique e).1 (now.0, sym (same e.id) ∙ now.1),
  λ listed. let was = (listed_noted notes unique e).0 listed in (listed_noted new unique_new e).1 (was.0, same e.id ∙ was.1),
)

-- the same nodes and the same list, and notes in another order
pub reserved : (slots new_slots : List (Option Node)) (root : ℕ) (late new_late : List Entry) (notes new_notes : List (ℕ
    × Note)) → IsTree (λ key. slice_index_or slots key None) root late notes → new_slots ≡ slots → new_late ≡ late
    → IsDistinct nat_eq (keys_of new_notes) → ((id : ℕ) → lookup (nat_eq id) new_notes ≡ lookup (nat_eq id) notes)
    → IsTree (λ key. slice_index_or new_slots key None) root new_late new_notes
reserved slots new_slots root late new_late notes new_notes tree same_slots same_late unique same =
    subst (λ (l : List (Option Node)). IsTree (λ key. slice_index_or l key None) root new_late new_notes) (sym same_slots)
    (subst (λ (l : List Entry). IsTree (λ key. slice_index_or slots key None) root l new_notes) (sym same_late) (reordered new_notes tree unique same))

-- what is said of an id in the same entries
pub absent_on : (a b : List Entry) (id : ℕ) → SameEntries a b → HasNoId a id → HasNoId b id
absent_on a b id same absent e listed = absent e ((same e).0 listed)

pub inserts_on : (a b c : List Entry) (id : ℕ) (range : Corners) → SameEntries a b → Inserts b c id range → Inserts a c id range
inserts_on a b c id range same inserts e = (
  λ listed. elim ((inserts e).0 listed) [ inl was ↦ inl ((same e).0 was) | inr is ↦ inr is ],
  λ either. (inserts e).1 (elim either [ inl was ↦ inl ((same e).1 was) | inr is ↦ inr is ]),
)

pub removes_on : (a b c : List Entry) (id : ℕ) → Removes a b id → SameEntries b c → Removes a c id
removes_on a b c id removes same e = ((λ listed. (removes e).0 ((same e).0 listed)), (λ kept. (same e).1 ((removes e).1 kept)))

pub has_on : (a b : List Entry) (id : ℕ) → SameEntries a b → HasId a id → HasId b id
has_on a b id same has = record { range = has.range; listed = (same (entry_of id has.range)).1 has.listed }

pub changes_on : (a b c : List Entry) (id : ℕ) (range : Corners) → SameEntries a b → ChangesRange b c id range → ChangesRange a c id range
changes_on a b c id range same changes e = (
  λ listed. elim ((changes e).0 listed) [ inl kept ↦ inl (kept.0, (same e).0 kept.1) | inr is ↦ inr is ],
  λ either. (changes e).1 (elim either [ inl kept ↦ inl (kept.0, (same e).1 kept.1) | inr is ↦ inr is ]),
)

pub changed_on : (a b c : List Entry) (id : ℕ) (range : Corners) → ChangesRange a b id range → SameEntries b c → ChangesRange a c id range
changed_on a b c id range changes same e = ((λ listed. (changes e).0 ((same e).0 listed)), (λ either. (same e).1 ((changes e).1 either)))
