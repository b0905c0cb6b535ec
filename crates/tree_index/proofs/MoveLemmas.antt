-- A child that moves from one node to another.
use Rattle.std.proofs.Common.{◌≡◌, inl, inr, ℕ, ◌<◌, Option, Some, sym, ◌∙◌, ap, subst, arith}
use Rattle.std.specs.List.{Contains}
use Rattle.range_index.specs.Entries.{Entry, entry_of, HaveOneRange, HasNoId, Inserts, Removes, ChangesRange}
use Rattle.tree_index.specs.Trees.{Node, Links, IsBelow, IsShape}
use Rattle.tree_index.specs.Changes.{SetsKey, Admits}
use Rattle.tree_index.proofs.ShapeLemmas.{listed_in, same_level, link_cases, leaf_on}
use Rattle.tree_index.proofs.StepLemmas.{taken, given}
use Rattle.tree_index.proofs.ChildLemmas.{covers_changed}

module _ {at mid new : ℕ → Option Node} {from to : ℕ} {source target less more : Node} (child : Entry)
    (from_is : at from ≡ Some source) (took : SetsKey at mid from (Some less)) (less_level : less.level ≡ source.level)
    (removes : Removes source.children less.children child.id)
    (to_is : mid to ≡ Some target) (gave : SetsKey mid new to (Some more)) (more_level : more.level ≡ target.level)
    (inserts : Inserts target.children more.children child.id child.range)
    (listed : Contains source.children child) (levels : target.level ≡ source.level) where
  mid_back : (parent : ℕ) (c : Entry) → Links mid parent c → (q : ℕ) × Links at q c
  mid_back parent c link = elim (link_cases from_is took less_level parent c link) [
    | inl own ↦ (from, record { node = source; there = from_is; inner = own.2; listed = ((removes c).0 own.1).1 })
    | inr other ↦ (parent, other.1)
  ]

  -- each child was one before, with this rectangle
  pub links_back : (parent : ℕ) (c : Entry) → Links new parent c → (q : ℕ) × Links at q c
  links_back parent c link = elim (link_cases to_is gave more_level parent c link) [
    | inl own ↦ elim ((inserts c).0 own.1) [
      | inl was ↦ mid_back to c (record { node = target; there = to_is; inner = own.2; listed = was })
      | inr is ↦ (
        from,
        record {
          node = source;
          there = from_is;
          inner = omega (arith, own.2, levels);
          listed = subst (λ (e : Entry). Contains source.children e) (sym is) listed;
        },
      )
    ]
    | inr other ↦ mid_back parent c other.1
  ]

  -- the shape is kept: of two leaves
  pub moved_entry : {root : ℕ} → IsShape at root root → source.level ≡ 0 → HaveOneRange less.children
      → HaveOneRange more.children → HasNoId target.children child.id → Admits at to child.range → IsShape new root root
  moved_entry {root} shape lowest once once_too absent admits =
      leaf_on middle to_is gave more_level (levels ∙ lowest) once_too (λ parent rectangle link.
      let below = middle.below parent (entry_of to rectangle) link in
      let back = mid_back parent (entry_of to rectangle) link in
      covers_changed rectangle target.children more.children child.id child.range
      (λ e is. below.covers e (listed_in (mid to) target below.node e to_is below.there is)) changes
      (admits back.0 rectangle back.1))
    where
      middle : IsShape mid root root
      middle = leaf_on shape from_is took less_level lowest once (λ parent rectangle link e is.
          let below = shape.below parent (entry_of from rectangle) link in
          below.covers e (listed_in (at from) source below.node e from_is below.there ((removes e).0 is).1))

      changes : ChangesRange target.children more.children child.id child.range
      changes e = (
        λ is. elim ((inserts e).0 is) [ inl was ↦ inl (absent e was, was) | inr now ↦ inr now ],
        λ either. (inserts e).1 (elim either [ inl kept ↦ inl kept.1 | inr now ↦ inr now ]),
      )

  -- of two nodes above the leaves
  pub moved_node : {root : ℕ} → IsShape at root root → 0 < source.level → HaveOneRange less.children
      → HaveOneRange more.children → Admits at to child.range → IsShape new root root
  moved_node {root} shape inner once once_too admits =
      given to_is gave more_level child.id child.range below.node (taken from_is took less_level child.id child.range
      shape inner once listed removes) once_too inserts there (omega (arith, below.one_down, levels)) below.covers
      (λ parent rectangle link. let back = mid_back parent (entry_of to rectangle) link in admits back.0 rectangle back.1) (shape.no_top from child link_old).0
    where
      link_old : Links at from child
      link_old = record { node = source; there = from_is; inner = inner; listed = listed }

      below : IsBelow at source.level child
      below = shape.below from child link_old

      there : mid child.id ≡ Some below.node
      there =
          took.others child.id
          (λ same. absurd (omega (
            arith,
            below.one_down,
            same_level (at child.id) below.node source below.there (ap at same ∙ from_is),
          ))) ∙ below.there

  -- the children that are left may follow
  pub may_on : ((c : Entry) → Contains source.children c → Admits at to c.range) → (c : Entry) → Contains less.children c → Admits new to c.range
  may_on admits c is parent rectangle link =
      let back = links_back parent (entry_of to rectangle) link in
      admits c ((removes c).0 is).1 back.0 rectangle back.1
