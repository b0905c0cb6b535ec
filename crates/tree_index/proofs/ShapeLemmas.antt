-- What is kept of the shape of trees where the node under one key changes.
use Rattle.std.proofs.Common.{◌≡◌, ◌≢◌, ◌⊎◌, inl, inr, ℕ, ◌+◌, ◌<◌, Option, Some, None, refl, sym, ◌∙◌, ap, subst, arith}
use Rattle.std.specs.List.{Contains}
use Rattle.std.proofs.lemmas.Bool.{cases_eq}
use Rattle.sheet_refs.specs.Cells.{Corners}
use Rattle.range_index.specs.Entries.{Entry, entry_of, HaveOneRange, ChangesRange}
use Rattle.tree_index.specs.Rectangles.{Covers, CoverAll}
use Rattle.tree_index.specs.Trees.{Node, Links, IsBelow, HasAbove, IsShape}
use Rattle.tree_index.specs.Changes.{SetsKey, Admits}
use Rattle.tree_index.proofs.ChildLemmas.{one_listed}

-- one key has one node
pub one_node : (slot : Option Node) (a b : Node) → slot ≡ Some a → slot ≡ Some b → a ≡ b
one_node slot a b first second = let both : Some a ≡ Some b = sym first ∙ second in cc

pub no_node : (slot : Option Node) (a : Node) → slot ≡ None → slot ≡ Some a → ⊥
no_node slot a first second = let both : None ≡ Some a = sym first ∙ second in cc

-- what is listed in a node is listed in it under another name
pub listed_in : (slot : Option Node) (a b : Node) (entry : Entry) → slot ≡ Some a → slot ≡ Some b → Contains a.children entry → Contains b.children entry
listed_in slot a b entry first second listed = subst (λ (n : Node). Contains n.children entry) (one_node slot a b first second) listed

pub same_level : (slot : Option Node) (a b : Node) → slot ≡ Some a → slot ≡ Some b → a.level ≡ b.level
same_level slot a b first second = ap (λ (n : Node). n.level) (one_node slot a b first second)

-- two trees of which one is the other without a second top
pub swapped : (at : ℕ → Option Node) (a b : ℕ) → IsShape at a b → IsShape at b a
swapped at a b shape = record {
  low = shape.low;
  once = shape.once;
  below = shape.below;
  no_top = λ key child link. let tops = shape.no_top key child link in (tops.1, tops.0);
  single = shape.single;
  above = λ key node there no_b no_a. shape.above key node there no_a no_b;
}

pub alone : (at : ℕ → Option Node) (a b : ℕ) → IsShape at a b → at a ≡ None → IsShape at b b
alone at a b shape none = record {
  low = shape.low;
  once = shape.once;
  below = shape.below;
  no_top = λ key child link. let tops = shape.no_top key child link in (tops.1, tops.1);
  single = shape.single;
  above = λ key node there no_b also. shape.above key node there (λ is. no_node (at key) node (ap at is ∙ none) there) no_b;
}

-- a node one level up that isn't the one that changes
pub above_on : (at new : ℕ → Option Node) (changed key level : ℕ) (above : HasAbove at key level)
    → above.parent ≢ changed → ((k : ℕ) → k ≢ changed → new k ≡ at k) → HasAbove new key level
above_on at new changed key level above other same = record {
  parent = above.parent;
  above = above.above;
  range = above.range;
  there = same above.parent other ∙ above.there;
  one_up = above.one_up;
  listed = above.listed;
}

module _ {at new : ℕ → Option Node} {key : ℕ} {node changed : Node}
    (there : at key ≡ Some node) (sets : SetsKey at new key (Some changed)) (level_is : changed.level ≡ node.level) where
  -- a child is one of the changed node, or of another
  pub link_cases : (parent : ℕ) (child : Entry) → Links new parent child
      → ((parent ≡ key) × Contains changed.children child × (0 < node.level)) ⊎ ((parent ≢ key) × Links at parent child)
  link_cases parent child link = elim (cases_eq parent key) [
    | inl is ↦
        let here : new parent ≡ Some changed = ap new is ∙ sets.here in
        inl (
          is,
          listed_in (new parent) link.node changed child link.there here link.listed,
          omega (arith, link.inner, same_level (new parent) link.node changed link.there here, level_is),
        )
    | inr other ↦ inr (other, record { node = link.node; there = sym (sets.others parent other) ∙ link.there; inner = link.inner; listed = link.listed })
  ]

  -- a child of another node is one still
  pub link_on : (parent : ℕ) (child : Entry) → parent ≢ key → Links at parent child → Links new parent child
  link_on parent child other link = record { node = link.node; there = sets.others parent other ∙ link.there; inner = link.inner; listed = link.listed }

  pub link_here : (child : Entry) → 0 < node.level → Contains changed.children child → Links new key child
  link_here child inner listed = record { node = changed; there = sets.here; inner = omega (arith, inner, level_is); listed = listed }

  -- a leaf that changes has no child before nor after
  pub link_leaf : node.level ≡ 0 → (parent : ℕ) (child : Entry) → Links new parent child → Links at parent child
  link_leaf lowest parent child link = elim (link_cases parent child link) [
    | inl own ↦ absurd (omega (arith, lowest, own.2))
    | inr other ↦ other.1
  ]

  -- each node keeps its level
  pub level_on : (other : ℕ) (m : Node) → at other ≡ Some m → (kept : Node) × (new other ≡ Some kept) × (kept.level ≡ m.level)
  level_on other m is = elim (cases_eq other key) [
    | inl same ↦ (changed, ap new same ∙ sets.here, level_is ∙ same_level (at other) node m (ap at same ∙ there) is)
    | inr differs ↦ (m, sets.others other differs ∙ is, refl)
  ]

module _ {at new : ℕ → Option Node} {key : ℕ} {node changed : Node} {a b : ℕ}
    (shape : IsShape at a b) (there : at key ≡ Some node) (sets : SetsKey at new key (Some changed)) (level_is : changed.level ≡ node.level) where
  -- what stands below a node whose rectangle has what the changed node has now
  below_on : (level : ℕ) (child : Entry) → IsBelow at level child → (child.id ≡ key → CoverAll child.range changed.children) → IsBelow new level child
  below_on level child below covers = elim (cases_eq child.id key) [
    | inl is ↦ record {
      node = changed;
      there = ap new is ∙ sets.here;
      one_down = omega (arith, below.one_down, level_is, same_level (at child.id) below.node node below.there (ap at is ∙ there));
      covers = covers is;
    }
    | inr other ↦ record { node = below.node; there = sets.others child.id other ∙ below.there; one_down = below.one_down; covers = below.covers }
  ]

  -- the shape is kept
  pub shape_on : (c d : ℕ)
      → HaveOneRange changed.children
      → ((child : Entry) → 0 < node.level → Contains changed.children child → IsBelow at node.level child
      × ((child.id ≢ c) × (child.id ≢ d)) × ((other : ℕ) (sibling : Entry) → Links at other sibling
      → sibling.id ≡ child.id → other ≡ key))
      → ((parent : ℕ) (range : Corners) → Links at parent (entry_of key range) → CoverAll range changed.children)
      → ((parent : ℕ) (child : Entry) → parent ≢ key → Links at parent child → (child.id ≢ c) × (child.id ≢ d))
      → ((other : ℕ) (m : Node) → new other ≡ Some m → other ≢ c → other ≢ d → HasAbove new other m.level)
      → IsShape new c d
  shape_on c d once kids covers tops above = record {
    low = λ k m is. elim (cases_eq k key) [
      | inl same ↦ omega (arith, shape.low key node there, level_is, same_level (new k) m changed is (ap new same ∙ sets.here))
      | inr other ↦ shape.low k m (sym (sets.others k other) ∙ is)
    ];
    once = λ k m is. elim (cases_eq k key) [
      | inl same ↦ subst (λ (n : Node). HaveOneRange n.children) (one_node (new k) changed m (ap new same ∙ sets.here) is) once
      | inr other ↦ shape.once k m (sym (sets.others k other) ∙ is)
    ];
    below = λ k child link. elim (link_cases there sets level_is k child link) [
      | inl own ↦
          let level : node.level ≡ link.node.level = omega (arith, level_is, same_level (new k) link.node changed link.there (ap new own.0 ∙ sets.here)) in
          let below = (kids child own.2 own.1).0 in
          subst (λ (l : ℕ). IsBelow new l child) level
          (below_on node.level child below
          (λ is. absurd (omega (
            arith,
            below.one_down,
            same_level (at child.id) below.node node below.there (ap at is ∙ there),
          ))))
      | inr old ↦
          let level : old.1.node.level ≡ link.node.level = same_level (new k) old.1.node link.node (sets.others k old.0 ∙ old.1.there) link.there in
          subst (λ (l : ℕ). IsBelow new l child) level
          (below_on old.1.node.level child (shape.below k child old.1)
          (λ is. covers k child.range (subst (λ (i : ℕ). Links at k (entry_of i child.range)) is old.1)))
    ];
    no_top = λ k child link. elim (link_cases there sets level_is k child link) [
      | inl own ↦ (kids child own.2 own.1).1
      | inr old ↦ tops k child old.0 old.1
    ];
    single = λ k other child sibling link link_too ids. elim (link_cases there sets level_is k child link) [
      | inl own ↦ elim (link_cases there sets level_is other sibling link_too) [
        | inl own_too ↦ own.0 ∙ sym own_too.0
        | inr old_too ↦ own.0 ∙ sym ((kids child own.2 own.1).2 other sibling old_too.1 (sym ids))
      ]
      | inr old ↦ elim (link_cases there sets level_is other sibling link_too) [
        | inl own_too ↦ (kids sibling own_too.2 own_too.1).2 k child old.1 ids ∙ sym own_too.0
        | inr old_too ↦ shape.single k other child sibling old.1 old_too.1 ids
      ]
    ];
    above = above;
  }

-- the node above another, where the one that changes keeps what is among its children or is a leaf
module _ {at new : ℕ → Option Node} {key : ℕ} {node changed : Node} {a b : ℕ}
    (shape : IsShape at a b) (there : at key ≡ Some node) (sets : SetsKey at new key (Some changed)) (level_is : changed.level ≡ node.level) where
  pub above_of : (other : ℕ) (m : Node) → new other ≡ Some m → other ≢ a → other ≢ b → HasAbove at other m.level
  above_of other m is no_a no_b = elim (cases_eq other key) [
    | inl same ↦
        let level : node.level ≡ m.level = omega (arith, level_is, same_level (new other) m changed is (ap new same ∙ sets.here)) in
        subst (λ (l : ℕ). HasAbove at other l) level (shape.above other node (ap at same ∙ there) no_a no_b)
    | inr differs ↦ shape.above other m (sym (sets.others other differs) ∙ is) no_a no_b
  ]

  pub above_through : (other level : ℕ) (above : HasAbove at other level)
      → (0 < node.level → (range : Corners) → Contains node.children (entry_of other range) → (kept : Corners)
      × Contains changed.children (entry_of other kept)) → HasAbove new other level
  above_through other level above keeps = elim (cases_eq above.parent key) [
    | inl same ↦
        let up : node.level ≡ level + 1 = omega (arith, above.one_up, same_level (at above.parent) above.above node above.there (ap at same ∙ there)) in
        let kept =
        keeps (omega (arith, up)) above.range (listed_in (at above.parent) above.above node
        (entry_of other above.range) above.there (ap at same ∙ there) above.listed) in
        record { parent = key; above = changed; range = kept.0; there = sets.here; one_up = omega (arith, up, level_is); listed = kept.1 }
    | inr differs ↦ above_on at new key other level above differs sets.others
  ]

  -- a leaf has other entries, which its rectangle has
  pub leaf_on : node.level ≡ 0 → HaveOneRange changed.children
      → ((parent : ℕ) (range : Corners) → Links at parent (entry_of key range) → CoverAll range changed.children)
      → IsShape new a b
  leaf_on lowest once covers = shape_on shape there sets level_is a b once
      (λ child inner listed. absurd (omega (arith, lowest, inner)))
      covers
      (λ parent child other link. shape.no_top parent child link)
      (λ other m is no_a no_b. above_through other m.level (above_of other m is no_a no_b) (λ inner range listed. absurd (omega (arith, lowest, inner))))

  -- a child has another rectangle, which has what is below it, and lies in that of its node
  pub range_on : (id : ℕ) (old range : Corners) → 0 < node.level → HaveOneRange changed.children
      → Contains node.children (entry_of id old) → ChangesRange node.children changed.children id range
      → ((below : Node) → at id ≡ Some below → CoverAll range below.children) → Admits at key range → IsShape new a b
  range_on id old range inner once listed changes covers admits = shape_on shape there sets level_is a b once
      (λ child up now. kid child (elim ((changes child).0 now) [ inl kept ↦ inl kept | inr is ↦ inr is ]))
      (λ parent rectangle link entry now. elim ((changes entry).0 now) [
        | inl kept ↦ (shape.below parent (entry_of key rectangle) link).covers entry
            (listed_in (at key) node (shape.below parent (entry_of key rectangle) link).node entry there
            (shape.below parent (entry_of key rectangle) link).there kept.1)
        | inr is ↦ subst (λ (e : Entry). Covers rectangle e.range) (sym is) (admits parent rectangle link)
      ])
      (λ parent child other link. shape.no_top parent child link)
      (λ other m is no_a no_b. above_through other m.level (above_of other m is no_a no_b) (λ up kept has. elim (cases_eq other id) [
        | inl same ↦ (range, (changes (entry_of other range)).1 (inr (ap (λ (i : ℕ). entry_of i range) same)))
        | inr differs ↦ (kept, (changes (entry_of other kept)).1 (inl (differs, has)))
      ]))
    where
      link_old : Links at key (entry_of id old)
      link_old = record { node = node; there = there; inner = inner; listed = listed }

      kid : (child : Entry) → ((child.id ≢ id) × Contains node.children child) ⊎ (child ≡ entry_of id range)
          → IsBelow at node.level child × ((child.id ≢ a) × (child.id ≢ b))
          × ((other : ℕ) (sibling : Entry) → Links at other sibling → sibling.id ≡ child.id → other ≡ key)
      kid child (inl kept) =
          let link : Links at key child = record { node = node; there = there; inner = inner; listed = kept.1 } in
          (shape.below key child link, shape.no_top key child link, λ other sibling link_too ids. shape.single other key sibling child link_too link ids)
      kid child (inr is) =
          let id_is : child.id ≡ id = ap (λ (e : Entry). e.id) is in
          let range_is : child.range ≡ range = ap (λ (e : Entry). e.range) is in
          let below = shape.below key (entry_of id old) link_old in
          let tops = shape.no_top key (entry_of id old) link_old in (
            record {
              node = below.node;
              there = ap at id_is ∙ below.there;
              one_down = below.one_down;
              covers = subst (λ (r : Corners). CoverAll r below.node.children) (sym range_is)
                  (covers below.node below.there);
            },
            ((λ same. tops.0 (sym id_is ∙ same)), (λ same. tops.1 (sym id_is ∙ same))),
            λ other sibling link_too ids. shape.single other key sibling (entry_of id old) link_too link_old (ids ∙ id_is),
          )

-- a child is one of one node, with one rectangle
pub one_link : (at : ℕ → Option Node) (a b p q : ℕ) (c d : Entry) → IsShape at a b → Links at p c → Links at q d → c.id ≡ d.id → c ≡ d
one_link at a b p q c d shape link link_too ids =
    let same : p ≡ q = shape.single p q c d link link_too ids in
    let there : at q ≡ Some link.node = ap at (sym same) ∙ link.there in
    one_listed link.node.children c d (shape.once q link.node there) link.listed
    (listed_in (at q) link_too.node link.node d link_too.there there link_too.listed) ids
