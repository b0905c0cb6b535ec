-- An index by a tree, as contracts see it.
use Rattle.std.specs.Prelude.{ℕ, ◌-◌, List, Option, min, map, vec_capacity, vec_len}
use Rattle.std.specs.HashMap.{spare}
use Rattle.slab.specs.Slab.{get as slot_at}
use Rattle.range_index.specs.Entries.{Entry, entry_of}
use Rattle.tree_index.specs.Trees.{IsTree, Node, Note}
use Rattle.tree_index.specs.declared.nodes.Tree.{Tree}

-- the entries that are noted
abbrev pub noted_entries : List (ℕ × Note) → List Entry
noted_entries notes = map (λ noted. entry_of noted.0 noted.1.range) notes

-- for how many more entries there is room: in the notes, and among those that are still to come
abbrev pub room_of : Tree → ℕ
room_of tree = min (spare tree.notes) (vec_capacity tree.late - vec_len tree.late)

-- the entries of a tree
abbrev pub entries_in : Tree → List Entry
entries_in tree = noted_entries tree.notes.entries

-- the node under a key
abbrev pub node_at : Tree → ℕ → Option Node
node_at tree key = slot_at tree.nodes key

abbrev pub HoldTree : Tree → Type 0
HoldTree tree = IsTree (node_at tree) tree.root tree.late.items tree.notes.entries

-- an index by a tree, as contracts see it
pub record TreeValue : Type 0 where
  pub entries : List Entry
  pub spare : ℕ

abbrev pub tree_value : Tree → TreeValue
tree_value tree = record { entries = entries_in tree; spare = room_of tree }
