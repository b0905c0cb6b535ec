-- How a tree changes.
use Rattle.std.specs.Prelude.{◌≡◌, ◌≢◌, ◌↔◌, ◌++◌, ℕ, ◌+◌, ◌-◌, ◌<◌, ◌≤◌, List, [], length, Option, Some, None, Contains, AllPairs, nat_eq, slice_set}
use Rattle.std.specs.HashMap.{get}
use Rattle.std.specs.List.{slice_get}
use Rattle.sheet_refs.specs.Cells.{Corners}
use Rattle.sheet_refs.specs.Rectangles.{Overlap}
use Rattle.range_index.specs.Entries.{Entry, entry_of, SameEntries}
use Rattle.tree_index.specs.Rectangles.{Covers}
use Rattle.tree_index.specs.Trees.{Links, Node, Note, note_of, new_node}
use Rattle.tree_index.specs.declared.notes.Place.{Place}
use Rattle.tree_index.specs.Indexes.{HoldTree, node_at, entries_in, room_of}
use Rattle.tree_index.specs.declared.nodes.Tree.{Tree}

-- what is noted of an id
abbrev pub note_at : Tree → ℕ → Option Note
note_at tree id = get nat_eq tree.notes id

-- one key has another value, and each other key has what it had
pub record SetsKey {V : Type 0} (old new : ℕ → Option V) (key : ℕ) (value : Option V) : Type 0 where
  pub here : new key ≡ value
  pub others : (k : ℕ) → k ≢ key → new k ≡ old k

-- a node comes, goes or has another value, and nothing else has changed
pub record SetsNode (old new : Tree) (key : ℕ) (node : Option Node) : Type 0 where
  pub nodes : SetsKey (node_at old) (node_at new) key node
  pub root : new.root ≡ old.root
  pub late : new.late ≡ old.late
  pub notes : new.notes ≡ old.notes

-- a node with other children
abbrev pub with_children : Node → List Entry → Node
with_children node children = record node { children = children }

-- a tree with the same entries as another, the same list of those that are still to come, and no less room
pub record Rearranges (old new : Tree) : Type 0 where
  pub tree : HoldTree new
  pub same : SameEntries (entries_in old) (entries_in new)
  pub late : new.late ≡ old.late
  pub room : room_of old ≤ room_of new

-- each rectangle of a node, among the children of the one above it, has a range
abbrev pub Admits : (ℕ → Option Node) → ℕ → Corners → Type 0
Admits at key range = (parent : ℕ) (rectangle : Corners) → Links at parent (entry_of key rectangle) → Covers rectangle range

-- a node is still there with its level, and its rectangle has what it had
pub record KeepsNode (old new : Tree) (key : ℕ) : Type 0 where
  pub level : (node : Node) → node_at old key ≡ Some node → (kept : Node) × (node_at new key ≡ Some kept) × (kept.level ≡ node.level)
  pub admits : (range : Corners) → Admits (node_at old) key range → Admits (node_at new) key range

-- the same of all nodes, and of all but one
abbrev pub KeepAllNodes : Tree → Tree → Type 0
KeepAllNodes old new = (key : ℕ) → KeepsNode old new key

abbrev pub KeepNodesBut : Tree → Tree → ℕ → Type 0
KeepNodesBut old new but = (key : ℕ) → key ≢ but → KeepsNode old new key

-- a node is there, and has fewer than sixteen children
pub record HasPlace (tree : Tree) (key : ℕ) : Type 0 where
  pub node : Node
  pub there : node_at tree key ≡ Some node
  pub few : length node.children < 16

-- a leaf is there, and has fewer than sixteen entries
pub record IsOpenLeaf (tree : Tree) (key : ℕ) : Type 0 where
  pub leaf : Node
  pub there : node_at tree key ≡ Some leaf
  pub lowest : leaf.level ≡ 0
  pub few : length leaf.children < 16

-- a leaf that can take an entry of a range in
pub record TakesIn (tree : Tree) (key : ℕ) (range : Corners) : Type 0 where
  pub leaf : Node
  pub there : node_at tree key ≡ Some leaf
  pub lowest : leaf.level ≡ 0
  pub few : length leaf.children < 16
  pub admits : Admits (node_at tree) key range

-- the child at a place of the node under a key
abbrev pub child_in : Option Node → ℕ → Option Entry
child_in None place = None
child_in (Some node) place = slice_get node.children place

abbrev pub child_of : Tree → ℕ → ℕ → Option Entry
child_of tree key place = child_in (node_at tree key) place

-- a node has no children, if it is there
abbrev pub HasNoChild : Tree → ℕ → Type 0
HasNoChild tree key = (node : Node) → node_at tree key ≡ Some node → node.children ≡ []

-- the place of a node among the children of another
pub record IsPlaceAbove (tree : Tree) (key above place : ℕ) : Type 0 where
  pub node : Node
  pub there : node_at tree above ≡ Some node
  pub inner : 0 < node.level
  pub rectangle : Corners
  pub child : slice_get node.children place ≡ Some (entry_of key rectangle)

-- a node has other children, and nothing else has changed
pub record SetsChildren (old new : Tree) (key : ℕ) (children : List Entry → List Entry) : Type 0 where
  pub node : Node
  pub there : node_at old key ≡ Some node
  pub set : SetsNode old new key (Some (with_children node (children node.children)))

-- a child has another rectangle, and nothing else has changed
pub record SetsRange (old new : Tree) (key place : ℕ) (range : Corners) : Type 0 where
  pub node : Node
  pub child : Entry
  pub there : node_at old key ≡ Some node
  pub here : slice_get node.children place ≡ Some child
  pub set : SetsNode old new key (Some (with_children node (slice_set node.children place (entry_of child.id range))))

-- a node without children stands beside the child at a place of a node, on its level and with its rectangle
pub record IsBeside (old new : Tree) (above place key : ℕ) : Type 0 where
  pub over : Node
  pub child : Entry
  pub above_is : node_at old above ≡ Some over
  pub inner : 0 < over.level
  pub here : slice_get over.children place ≡ Some child
  pub fresh : node_at old key ≡ None
  pub made : (level : ℕ) × (node_at new key ≡ Some (new_node level)) × (level + 1 ≡ over.level)
  pub others : (other : ℕ) → other ≢ key → other ≢ above → node_at new other ≡ node_at old other
  pub admits : (range : Corners) → Covers child.range range → Admits (node_at new) key range

-- the children of a node may go to another of its level: they have room there, and its rectangle has them
pub record MayShare (tree : Tree) (level from to : ℕ) : Type 0 where
  pub source : Node
  pub target : Node
  pub from_is : node_at tree from ≡ Some source
  pub to_is : node_at tree to ≡ Some target
  pub differ : from ≢ to
  pub source_level : source.level ≡ level
  pub target_level : target.level ≡ level
  pub few : length source.children + length target.children ≤ 16
  pub admits : (child : Entry) → Contains source.children child → Admits (node_at tree) to child.range

-- an id stands at a place, as is noted
abbrev pub IsNotedAt : Tree → ℕ → Place → Type 0
IsNotedAt tree id place = (range : Corners) × (note_at tree id ≡ Some (note_of range place))

-- where an id stands by what is noted of it
abbrev pub place_noted : Option Note → Option Place
place_noted None = None
place_noted (Some note) = Some note.place

-- a node's child at a place is a node with room for a child
pub record HasPlaceBelow (tree : Tree) (key place : ℕ) : Type 0 where
  pub child : Entry
  pub here : child_of tree key place ≡ Some child
  pub room : HasPlace tree child.id

-- an id is that of one of some entries, whose range overlaps a query
pub record HasOverlapping (Those : Entry → Type 0) (query : Corners) (id : ℕ) : Type 0 where
  pub range : Corners
  pub one_of : Those (entry_of id range)
  pub overlaps : Overlap range query

-- a list has gained exactly the ids of some entries that overlap a query, each once
pub record AddsThose (Those : Entry → Type 0) (query : Corners) (old new : List ℕ) : Type 0 where
  pub added : List ℕ
  pub whole : new ≡ old ++ added
  pub once : AllPairs (λ a b. a ≢ b) added
  pub exact : (id : ℕ) → Contains added id ↔ HasOverlapping Those query id

-- a node is there, above the leaves
pub record IsInner (tree : Tree) (key : ℕ) : Type 0 where
  pub node : Node
  pub there : node_at tree key ≡ Some node
  pub inner : 0 < node.level

-- a list ends with an entry
abbrev pub EndsWith : List Entry → Entry → Type 0
EndsWith entries last = slice_get entries (length entries - 1) ≡ Some last
