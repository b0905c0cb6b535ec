-- What is kept of the shape of trees where a node comes or goes, or a child is taken or given.
use Rattle.std.proofs.Common.{◌≡◌, ◌≢◌, ◌⊎◌, inl, inr, ℕ, zero, suc, ◌+◌, ◌<◌, ◌≤◌, List, [], Option, Some, None, refl, sym, ◌∙◌, ap, subst, arith}
use Rattle.std.specs.List.{Contains}
use Rattle.std.proofs.lemmas.Bool.{cases_eq}
use Rattle.sheet_refs.specs.Cells.{Corners}
use Rattle.range_index.specs.Entries.{Entry, entry_of, HaveOneRange, Inserts, Removes}
use Rattle.tree_index.specs.Rectangles.{Covers, CoverAll}
use Rattle.tree_index.specs.Trees.{Node, new_node, Links, IsBelow, IsShape}
use Rattle.tree_index.specs.Changes.{SetsKey, Admits}
use Rattle.tree_index.proofs.ShapeLemmas.{one_node, no_node, listed_in, same_level, above_on, shape_on, above_of, above_through}

module _ {at new : ℕ → Option Node} {key : ℕ} {node changed : Node}
    (there : at key ≡ Some node) (sets : SetsKey at new key (Some changed)) (level_is : changed.level ≡ node.level) where
  -- a child is taken from a node, and is a top then
  pub taken : {root : ℕ} (id : ℕ) (old : Corners) → IsShape at root root → 0 < node.level
      → HaveOneRange changed.children → Contains node.children (entry_of id old)
      → Removes node.children changed.children id → IsShape new root id
  taken {root} id old shape inner once listed removes = shape_on shape there sets level_is root id once
      (λ child up now.
      let kept = (removes child).0 now in
      let link : Links at key child = record { node = node; there = there; inner = inner; listed = kept.1 } in (
        shape.below key child link,
        ((shape.no_top key child link).0, kept.0),
        λ other sibling link_too ids. shape.single other key sibling child link_too link ids,
      ))
      (λ parent rectangle link entry now.
      let below = shape.below parent (entry_of key rectangle) link in
      below.covers entry (listed_in (at key) node below.node entry there below.there ((removes entry).0 now).1))
      (λ parent child other link. ((shape.no_top parent child link).0, λ is. other (shape.single parent key child (entry_of id old) link link_old is)))
      (λ other m is no_root no_id. above_through {a = root} {b = root} shape there sets level_is other m.level
      (above_of {a = root} {b = root} shape there sets level_is other m is no_root no_root) (λ up range has. (
        range,
        (removes (entry_of other range)).1 (no_id, has),
      )))
    where
      link_old : Links at key (entry_of id old)
      link_old = record { node = node; there = there; inner = inner; listed = listed }

  -- a top is given to a node of the next level, whose rectangle has that of the new child
  pub given : {root : ℕ} (id : ℕ) (range : Corners) (below : Node) → IsShape at root id → HaveOneRange changed.children
      → Inserts node.children changed.children id range → at id ≡ Some below → below.level + 1 ≡ node.level
      → CoverAll range below.children → Admits at key range → id ≢ root → IsShape new root root
  given {root} id range below shape once inserts there_id one_down covers admits no_root = shape_on shape there sets level_is root root once
      (λ child up now. kid up child ((inserts child).0 now))
      (λ parent rectangle link entry now. elim ((inserts entry).0 now) [
        | inl kept ↦
            let under = shape.below parent (entry_of key rectangle) link in
            under.covers entry (listed_in (at key) node under.node entry there under.there kept)
        | inr is ↦ subst (λ (e : Entry). Covers rectangle e.range) (sym is) (admits parent rectangle link)
      ])
      (λ parent child other link. let tops = shape.no_top parent child link in (tops.0, tops.0))
      (λ other m is no_root also. elim (cases_eq other id) [
        | inl same ↦
            let level : m.level + 1 ≡ changed.level = omega (
              arith,
              one_down,
              level_is,
              same_level (new other) m below is (sets.others other (apart other same) ∙ ap at same ∙ there_id),
            ) in
            record {
              parent = key;
              above = changed;
              range = range;
              there = sets.here;
              one_up = sym level;
              listed = (inserts (entry_of other range)).1 (inr (ap (λ (i : ℕ). entry_of i range) same));
            }
        | inr differs ↦
            above_through {a = root} {b = id} shape there sets level_is other m.level
            (above_of {a = root} {b = id} shape there sets level_is other m is no_root differs)
            (λ up kept has. (kept, (inserts (entry_of other kept)).1 (inl has)))
      ])
    where
      apart : (other : ℕ) → other ≡ id → other ≢ key
      apart other same own = absurd (omega (arith, one_down, same_level (at id) below node there_id (ap at (sym same ∙ own) ∙ there)))

      kid : 0 < node.level → (child : Entry) → Contains node.children child ⊎ (child ≡ entry_of id range)
          → IsBelow at node.level child × ((child.id ≢ root) × (child.id ≢ root))
          × ((other : ℕ) (sibling : Entry) → Links at other sibling → sibling.id ≡ child.id → other ≡ key)
      kid up child (inl kept) =
          let link : Links at key child = record { node = node; there = there; inner = up; listed = kept } in
          let tops = shape.no_top key child link in
          (shape.below key child link, (tops.0, tops.0), λ other sibling link_too ids. shape.single other key sibling child link_too link ids)
      kid up child (inr is) =
          let id_is : child.id ≡ id = ap (λ (e : Entry). e.id) is in
          let range_is : child.range ≡ range = ap (λ (e : Entry). e.range) is in (
            record {
              node = below;
              there = ap at id_is ∙ there_id;
              one_down = one_down;
              covers = subst (λ (r : Corners). CoverAll r below.children) (sym range_is) covers;
            },
            ((λ same. no_root (sym id_is ∙ same)), (λ same. no_root (sym id_is ∙ same))),
            λ other sibling link ids. absurd ((shape.no_top other sibling link).1 (ids ∙ id_is)),
          )

-- a node comes, and is a top
pub made : (at new : ℕ → Option Node) (root key level : ℕ) → IsShape at root root → at key ≡ None
    → SetsKey at new key (Some (new_node level)) → level ≤ 15 → IsShape new root key
made at new root key level shape none sets low = record {
  low = λ k m is. elim (cases_eq k key) [
    | inl same ↦ omega (arith, low, same_level (new k) m (new_node level) is (ap new same ∙ sets.here))
    | inr other ↦ shape.low k m (old k m other is)
  ];
  once = λ k m is. elim (cases_eq k key) [
    | inl same ↦ subst (λ (n : Node). HaveOneRange n.children) (one_node (new k) (new_node level) m (ap new same
        ∙ sets.here) is) (λ i j d before within. absurd (omega (arith, within)))
    | inr other ↦ shape.once k m (old k m other is)
  ];
  below = λ k child link.
      let was = link_old k child link in
      let under = shape.below k child was.0 in
      record {
        node = under.node;
        there = sets.others child.id (here child.id under.node under.there) ∙ under.there;
        one_down = omega (arith, under.one_down, was.1);
        covers = under.covers;
      };
  no_top = λ k child link.
      let was = link_old k child link in
      let under = shape.below k child was.0 in
      ((shape.no_top k child was.0).0, here child.id under.node under.there);
  single = λ k other child sibling link link_too ids. shape.single k other child sibling (link_old k child link).0 (link_old other sibling link_too).0 ids;
  above = λ k m is no_root no_key.
      let over = shape.above k m (old k m no_key is) no_root no_root in
      above_on at new key k m.level over (here over.parent over.above over.there) sets.others;
}
  where
    old : (k : ℕ) (m : Node) → k ≢ key → new k ≡ Some m → at k ≡ Some m
    old k m other is = sym (sets.others k other) ∙ is

    here : (k : ℕ) (m : Node) → at k ≡ Some m → k ≢ key
    here k m is same = no_node (at k) m (ap at same ∙ none) is

    link_old : (k : ℕ) (child : Entry) (link : Links new k child) → (was : Links at k child) × (was.node.level ≡ link.node.level)
    link_old k child link = elim (cases_eq k key) [
      | inl same ↦ absurd (let listed = listed_in (new k) link.node (new_node level) child link.there (ap new same
          ∙ sets.here) link.listed in omega (arith, listed.1))
      | inr other ↦ (record { node = link.node; there = old k link.node other link.there; inner = link.inner; listed = link.listed }, refl)
    ]

-- a top without children goes
pub gone : (at new : ℕ → Option Node) (root key : ℕ) → IsShape at root key
    → ((node : Node) → at key ≡ Some node → node.children ≡ []) → SetsKey at new key None → IsShape new root root
gone at new root key shape empty sets = record {
  low = λ k m is. shape.low k m (old k m is);
  once = λ k m is. shape.once k m (old k m is);
  below = λ k child link.
      let was = link_old k child link in
      let under = shape.below k child was in
      record { node = under.node; there = sets.others child.id (shape.no_top k child was).1 ∙ under.there; one_down = under.one_down; covers = under.covers };
  no_top = λ k child link. let tops = shape.no_top k child (link_old k child link) in (tops.0, tops.0);
  single = λ k other child sibling link link_too ids. shape.single k other child sibling (link_old k child link) (link_old other sibling link_too) ids;
  above = λ k m is no_root also.
      let over = shape.above k m (old k m is) no_root (differs k m is) in
      above_on at new key k m.level over
      (λ same. absurd (let listed : Contains [] (entry_of k over.range) = subst (λ (l : List Entry). Contains l
      (entry_of k over.range)) (empty over.above (ap at (sym same) ∙ over.there)) over.listed in
      omega (arith, listed.1))) sets.others;
}
  where
    differs : (k : ℕ) (m : Node) → new k ≡ Some m → k ≢ key
    differs k m is same = no_node (new k) m (ap new same ∙ sets.here) is

    old : (k : ℕ) (m : Node) → new k ≡ Some m → at k ≡ Some m
    old k m is = sym (sets.others k (differs k m is)) ∙ is

    link_old : (k : ℕ) (child : Entry) → Links new k child → Links at k child
    link_old k child link = record { node = link.node; there = old k link.node link.there; inner = link.inner; listed = link.listed }

-- where there is a node, there is a root
pub root_there : (at : ℕ → Option Node) (root steps key : ℕ) (node : Node) → IsShape at root root → at key ≡ Some node
    → node.level + steps ≡ 15 → (top : Node) × (at root ≡ Some top)
root_there at root zero key node shape there levels = elim (cases_eq key root) [
  | inl same ↦ (node, ap at (sym same) ∙ there)
  | inr other ↦ absurd (let over = shape.above key node there other other in omega (arith, levels, over.one_up, shape.low over.parent over.above over.there))
]
root_there at root (suc steps) key node shape there levels = elim (cases_eq key root) [
  | inl same ↦ (node, ap at (sym same) ∙ there)
  | inr other ↦
      let over = shape.above key node there other other in
      root_there at root steps over.parent over.above shape over.there (omega (arith, levels, over.one_up))
]

-- where a node without children has come, each child was one before
pub link_made : (at new : ℕ → Option Node) (key level : ℕ) → SetsKey at new key (Some (new_node level))
    → (parent : ℕ) (child : Entry) → Links new parent child → Links at parent child
link_made at new key level sets parent child link = elim (cases_eq parent key) [
  | inl same ↦ absurd (let listed = listed_in (new parent) link.node (new_node level) child link.there (ap new same
      ∙ sets.here) link.listed in omega (arith, listed.1))
  | inr other ↦ record { node = link.node; there = sym (sets.others parent other) ∙ link.there; inner = link.inner; listed = link.listed }
]
