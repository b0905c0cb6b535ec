-- A rectangle that is widened on the way down to a leaf.
use Rattle.std.proofs.Common.{◌≡◌, ◌≢◌, inl, inr, ◌<◌, ℕ, Option, Some, refl, sym, ◌∙◌, ap, subst, arith}
use Rattle.std.specs.Prelude.{slice_set}
use Rattle.std.specs.List.{slice_get}
use Rattle.sheet_refs.specs.Cells.{Corners}
use Rattle.range_index.specs.Entries.{Entry, entry_of, ChangesRange}
use Rattle.range_index.proofs.ChangeLemmas.{some_same}
use Rattle.tree_index.specs.declared.nodes.Tree.{Tree}
use Rattle.tree_index.specs.Rectangles.{Covers, IsSpan}
use Rattle.tree_index.specs.Trees.{Node, IsBelow, Links}
use Rattle.tree_index.specs.Indexes.{HoldTree, node_at}
use Rattle.tree_index.specs.Changes.{Admits, HasPlace, HasPlaceBelow, IsInner, Rearranges, SetsRange, child_in, child_of}
use Rattle.tree_index.proofs.ChildLemmas.{changes_set, listed_at}
use Rattle.tree_index.proofs.RectangleLemmas.{covers_more}
use Rattle.tree_index.proofs.ShapeLemmas.{link_cases, listed_in, one_link, same_level}
use Rattle.tree_index.proofs.WayLemmas.{range_rest}

-- a child whose rectangle has a range takes it in
pub admits_child : (tree : Tree) (key place : ℕ) (range : Corners) (child : Entry) → HoldTree tree → IsInner tree key
    → child_of tree key place ≡ Some child → Covers child.range range → Admits (node_at tree) child.id range
admits_child tree key place range child holds inside child_is covers parent rectangle link =
    let here : slice_get inside.node.children place ≡ Some child =
    ap (λ (o : Option Node). child_in o place) (sym inside.there) ∙ child_is in
    let link_here : Links (node_at tree) key child = record {
      node = inside.node;
      there = inside.there;
      inner = inside.inner;
      listed = listed_at inside.node.children place child here;
    } in
    let same : child ≡ entry_of child.id rectangle =
    one_link (node_at tree) tree.root tree.root key parent child (entry_of child.id rectangle) holds.shape link_here link refl in
    subst (λ (r : Corners). Covers r range) (ap (λ (e : Entry). e.range) same) covers

-- and one that has room still has it
pub room_at : (tree : Tree) (key place : ℕ) (child : Entry) → child_of tree key place ≡ Some child → HasPlaceBelow tree key place → HasPlace tree child.id
room_at tree key place child child_is below =
    subst (λ (e : Entry). HasPlace tree e.id) (some_same below.child child (sym below.here ∙ child_is)) below.room

module _ (old new : Tree) (key place : ℕ) (range wide : Corners) (tree : HoldTree old) (inside : IsInner old key) (has : Admits (node_at old) key range)
    (child : Entry) (child_is : child_of old key place ≡ Some child) (sets : SetsRange old new key place wide)
    (first : Covers wide child.range) (second : Covers wide range) (least : IsSpan child.range range wide) where
  same_child : sets.child ≡ child
  same_child = some_same sets.child child (sym sets.here ∙ ap (λ (o : Option Node). child_in o place) (sym sets.there) ∙ child_is)

  inner : 0 < sets.node.level
  inner = omega (arith, inside.inner, same_level (node_at old key) inside.node sets.node inside.there sets.there)

  here : IsBelow (node_at old) sets.node.level sets.child
  here =
      tree.shape.below key sets.child (record {
        node = sets.node;
        there = sets.there;
        inner = inner;
        listed = listed_at sets.node.children place sets.child sets.here;
      })

  differs : child.id ≢ key
  differs same =
      absurd (omega (
        arith,
        here.one_down,
        same_level (node_at old sets.child.id) here.node sets.node here.there
            (ap (node_at old) (ap (λ (e : Entry). e.id) same_child ∙ same) ∙ sets.there),
      ))

  pub widened : Rearranges old new
  widened = range_rest old new key place wide sets tree inner
      (λ m is e listed. covers_more wide child.range e.range first (subst (λ (c : Entry). Covers c.range e.range)
      same_child (here.covers e (listed_in (node_at old sets.child.id) m here.node e is here.there listed))))
      (λ parent rectangle link. least rectangle
      (let over = tree.shape.below parent (entry_of key rectangle) link in
      subst (λ (c : Entry). Covers rectangle c.range) same_child
      (over.covers sets.child (listed_in (node_at old key) sets.node over.node sets.child sets.there over.there
      (listed_at sets.node.children place sets.child sets.here))))
      (has parent rectangle link))

  pub place_below : HasPlaceBelow old key place → HasPlace new child.id
  place_below below =
      let same : below.child ≡ child = some_same below.child child (sym below.here ∙ child_is) in
      let id : below.child.id ≡ child.id = ap (λ (e : Entry). e.id) same in
      record { node = below.room.node; there = sets.set.nodes.others child.id differs ∙ ap (node_at old) (sym id) ∙ below.room.there; few = below.room.few }

  pub admits_below : Admits (node_at new) child.id range
  admits_below parent rectangle link = elim (link_cases sets.there sets.set.nodes refl parent (entry_of child.id rectangle) link) [
    | inl own ↦
        let changes : ChangesRange sets.node.children (slice_set sets.node.children place (entry_of sets.child.id wide))
        sets.child.id wide =
        changes_set sets.node.children place sets.child wide sets.here (tree.shape.once key sets.node sets.there) in
        elim ((changes (entry_of child.id rectangle)).0 own.1) [
          | inl kept ↦ absurd (kept.0 (ap (λ (e : Entry). e.id) (sym same_child)))
          | inr is ↦ subst (λ (r : Corners). Covers r range) (sym (ap (λ (e : Entry). e.range) is)) second
        ]
    | inr other ↦
        absurd (other.0 (tree.shape.single parent key (entry_of child.id rectangle) sets.child other.1
        (record {
          node = sets.node;
          there = sets.there;
          inner = inner;
          listed = listed_at sets.node.children place sets.child sets.here;
        })
        (ap (λ (e : Entry). e.id) (sym same_child))))
  ]
