-- A tree of rectangles, by the nodes under keys, the list of entries that are still to come, and what is noted of ids.
use Rattle.std.specs.Prelude.{◌≡◌, ◌≢◌, ◌↔◌, ℕ, ◌+◌, ◌<◌, ◌≤◌, zero, suc, List, [], Option, Some, Contains, nat_eq}
use Rattle.std.specs.List.{IsDistinct}
use Rattle.std.specs.Map.{lookup, keys_of}
use Rattle.sheet_refs.specs.Cells.{Corners}
use Rattle.range_index.specs.Entries.{Entry, entry_of, HaveOneRange}
use Rattle.tree_index.specs.declared.notes.Place.{Place}
use Rattle.tree_index.specs.declared.notes.Place.TheVariants.{Leaf, Late}
use Rattle.tree_index.specs.Rectangles.{CoverAll}

-- how many levels are below a node, and its children: entries at level 0, and above it keys of nodes with their
-- rectangles
pub record Node : Type 0 where
  pub level : ℕ
  pub children : List Entry

-- a node without children
abbrev pub new_node : ℕ → Node
new_node level = record { level = level; children = [] }

-- what is noted of an id
pub record Note : Type 0 where
  pub range : Corners
  pub place : Place

abbrev pub note_of : Corners → Place → Note
note_of range place = record { range = range; place = place }

-- a node above the leaves has this child: a key with a rectangle
pub record Links (at : ℕ → Option Node) (key : ℕ) (child : Entry) : Type 0 where
  pub node : Node
  pub there : at key ≡ Some node
  pub inner : 0 < node.level
  pub listed : Contains node.children child

-- a leaf has this entry
pub record IsInLeaf (at : ℕ → Option Node) (key : ℕ) (entry : Entry) : Type 0 where
  pub node : Node
  pub there : at key ≡ Some node
  pub lowest : node.level ≡ 0
  pub listed : Contains node.children entry

-- what a child names: a node one level below another, whose children the child's rectangle has
pub record IsBelow (at : ℕ → Option Node) (level : ℕ) (child : Entry) : Type 0 where
  pub node : Node
  pub there : at child.id ≡ Some node
  pub one_down : node.level + 1 ≡ level
  pub covers : CoverAll child.range node.children

-- a node one level up has a key among its children
pub record HasAbove (at : ℕ → Option Node) (key level : ℕ) : Type 0 where
  pub parent : ℕ
  pub above : Node
  pub range : Corners
  pub there : at parent ≡ Some above
  pub one_up : above.level ≡ level + 1
  pub listed : Contains above.children (entry_of key range)

-- the nodes under keys are trees: each but two, which may be one, is the child of one other node, and rectangles have
-- what is below them
pub record IsShape (at : ℕ → Option Node) (top beside : ℕ) : Type 0 where
  pub low : (key : ℕ) (node : Node) → at key ≡ Some node → node.level ≤ 15
  pub once : (key : ℕ) (node : Node) → at key ≡ Some node → HaveOneRange node.children
  pub below : (key : ℕ) (child : Entry) (link : Links at key child) → IsBelow at link.node.level child
  pub no_top : (key : ℕ) (child : Entry) → Links at key child → (child.id ≢ top) × (child.id ≢ beside)
  pub single : (key other : ℕ) (child sibling : Entry) → Links at key child → Links at other sibling → child.id ≡ sibling.id → key ≡ other
  pub above : (key : ℕ) (node : Node) → at key ≡ Some node → key ≢ top → key ≢ beside → HasAbove at key node.level

-- an entry stands at a place
abbrev pub StandsAt : (ℕ → Option Node) → List Entry → Entry → Place → Type 0
StandsAt at late_ones entry (Leaf key) = IsInLeaf at key entry
StandsAt at late_ones entry Late = Contains late_ones entry

-- whoever stands somewhere is noted there, and whoever is noted stands there
abbrev pub AreNoted : (Entry → Place → Type 0) → (ℕ → Option Note) → Type 0
AreNoted Stands noted = (entry : Entry) (place : Place) → Stands entry place ↔ (noted entry.id ≡ Some (note_of entry.range place))

-- the nodes under keys are one tree below a root, and each entry of it and of the list is noted once
pub record IsTree (at : ℕ → Option Node) (root : ℕ) (late_ones : List Entry) (notes : List (ℕ × Note)) : Type 0 where
  pub shape : IsShape at root root
  pub noted : AreNoted (StandsAt at late_ones) (λ id. lookup (nat_eq id) notes)
  pub late_once : HaveOneRange late_ones
  pub unique : IsDistinct nat_eq (keys_of notes)

-- an entry stands under the node of a level under a key: in the leaf itself, or under one of the node's children
abbrev pub IsUnder : (ℕ → Option Node) → ℕ → ℕ → Entry → Type 0
IsUnder at zero key entry = IsInLeaf at key entry
IsUnder at (suc level) key entry = (child : Entry) × (link : Links at key child) × (link.node.level ≡ suc level) × IsUnder at level child.id entry

-- an entry stands in a leaf
abbrev pub IsInTree : (ℕ → Option Node) → Entry → Type 0
IsInTree at entry = (key : ℕ) × IsInLeaf at key entry
