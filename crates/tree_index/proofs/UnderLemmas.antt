-- What stands under nodes of a tree: their rectangles have it, it stands under one child alone, and under the root.
use Rattle.std.proofs.Common.{◌≡◌, ◌↔◌, ◌⊎◌, inl, inr, ℕ, zero, suc, ◌+◌, ◌<◌, List, ◌∷◌, [], ◌++◌, length, get_or}
use Rattle.std.proofs.Common.{take, Option, Some, None, sym, ◌∙◌, ap, subst, arith}
use Rattle.std.specs.List.{Contains}
use Rattle.std.proofs.lemmas.Bool.{cases_eq}
use Rattle.std.proofs.lemmas.List.Elements.{Contains-push_cases, Contains-append_left, Contains-push}
use Rattle.sheet_refs.specs.Cells.{Corners}
use Rattle.sheet_refs.specs.Rectangles.{Overlap}
use Rattle.range_index.specs.Entries.{Entry, entry_of, HaveOneRange}
use Rattle.tree_index.specs.Rectangles.{Covers, CoverAll}
use Rattle.tree_index.specs.declared.notes.Place.TheVariants.{Leaf}
use Rattle.tree_index.specs.Trees.{Node, Note, note_of, Links, IsInLeaf, IsShape, IsUnder, IsInTree}
use Rattle.tree_index.specs.Changes.{AddsThose}
use Rattle.tree_index.proofs.RectangleLemmas.{covers_more, overlaps_more}
use Rattle.tree_index.proofs.ShapeLemmas.{one_node, listed_in}
use Rattle.tree_index.proofs.StepLemmas.{root_there}
use Rattle.tree_index.proofs.NoteLemmas.{one_note}
use Rattle.tree_index.proofs.FindLemmas.{adds_same, adds_both}
use Rattle.range_index.proofs.EntryLemmas.{absent_before}

-- an entry stands under one of some children
abbrev pub IsUnderOne : (ℕ → Option Node) → ℕ → List Entry → Entry → Type 0
IsUnderOne at level children entry = (child : Entry) × Contains children child × IsUnder at level child.id entry

-- what stands under one of some children or under another stands under one of all
more : (at : ℕ → Option Node) (level : ℕ) (children : List Entry) (child : Entry) (e : Entry)
    → (IsUnderOne at level children e ⊎ IsUnder at level child.id e) ↔ IsUnderOne at level (children ++ child ∷ []) e
more at level children child e = (to, from)
  where
    to : IsUnderOne at level children e ⊎ IsUnder at level child.id e → IsUnderOne at level (children ++ child ∷ []) e
    to (inl under) = (under.0, Contains-append_left children (child ∷ []) under.0 under.1, under.2)
    to (inr under) = (child, Contains-push children child, under)

    from : IsUnderOne at level (children ++ child ∷ []) e → IsUnderOne at level children e ⊎ IsUnder at level child.id e
    from under = elim (Contains-push_cases children child under.0 under.1) [
      | inl before ↦ inl (under.0, before, under.2)
      | inr same ↦ inr (subst (λ (c : Entry). IsUnder at level c.id e) (sym same) under.2)
    ]

module _ {at : ℕ → Option Node} {root : ℕ} (shape : IsShape at root root) where
  -- a rectangle that has the children of a node has what stands under it
  pub under_covered : (level key : ℕ) (node : Node) → at key ≡ Some node → (range : Corners)
      → CoverAll range node.children → (entry : Entry) → IsUnder at level key entry → Covers range entry.range
  under_covered zero key node there range covers entry under = covers entry (listed_in (at key) under.node node entry under.there there under.listed)
  under_covered (suc level) key node there range covers entry under =
      let child : Entry = under.0 in
      let link : Links at key child = under.1 in
      let below = shape.below key child link in
      covers_more range child.range entry.range (covers child (listed_in (at key) link.node node child link.there there link.listed))
      (under_covered level child.id below.node below.there child.range below.covers entry under.3)

  -- what stands under a node stands in a leaf
  pub under_in : (level key : ℕ) (entry : Entry) → IsUnder at level key entry → IsInTree at entry
  under_in zero key entry under = (key, under)
  under_in (suc level) key entry under = let child : Entry = under.0 in under_in level child.id entry under.3

  -- what stands under any node stands under the root
  pub under_root : (steps key : ℕ) (node : Node) → at key ≡ Some node → node.level + steps ≡ 15 → (entry : Entry)
      → IsUnder at node.level key entry → (top : Node) × (at root ≡ Some top) × IsUnder at top.level root entry
  under_root zero key node there levels entry under = elim (cases_eq key root) [
    | inl same ↦ (node, ap at (sym same) ∙ there, subst (λ (k : ℕ). IsUnder at node.level k entry) same under)
    | inr other ↦ absurd (let over = shape.above key node there other other in omega (arith, levels, over.one_up, shape.low over.parent over.above over.there))
  ]
  under_root (suc steps) key node there levels entry under = elim (cases_eq key root) [
    | inl same ↦ (node, ap at (sym same) ∙ there, subst (λ (k : ℕ). IsUnder at node.level k entry) same under)
    | inr other ↦
        let over = shape.above key node there other other in
        let up : over.above.level ≡ suc node.level = omega (arith, over.one_up) in
        let link : Links at over.parent (entry_of key over.range) = record {
          node = over.above;
          there = over.there;
          inner = omega (arith, up);
          listed = over.listed;
        } in
        let under_it : IsUnder at (suc node.level) over.parent entry = (entry_of key over.range, link, up, under) in
        under_root steps over.parent over.above over.there (omega (arith, levels, up)) entry
        (subst (λ (l : ℕ). IsUnder at l over.parent entry) (sym up) under_it)
  ]

  -- an entry stands in a leaf exactly where it stands under the root
  pub in_tree : (top : Node) → at root ≡ Some top → (entry : Entry) → IsUnder at top.level root entry ↔ IsInTree at entry
  in_tree top there entry = (
    λ under. under_in top.level root entry under,
    λ leaf.
        let low = shape.low leaf.0 leaf.1.node leaf.1.there in
        let under : IsUnder at leaf.1.node.level leaf.0 entry = subst (λ (l : ℕ). IsUnder at l leaf.0 entry) (sym leaf.1.lowest) leaf.1 in
        let found = under_root 15 leaf.0 leaf.1.node leaf.1.there (omega (arith, leaf.1.lowest)) entry under in
        subst (λ (n : Node). IsUnder at n.level root entry) (one_node (at root) found.0 top found.1 there) found.2,
  )

  pub no_tree : at root ≡ None → (entry : Entry) → IsInTree at entry → ⊥
  no_tree none entry leaf =
      let top = root_there at root 15 leaf.0 leaf.1.node shape leaf.1.there (omega (arith, leaf.1.lowest)) in
      let both : None ≡ Some top.0 = sym none ∙ top.1 in
      cc

  module _ (noted : ℕ → Option Note) (leaf_noted : (key : ℕ) (e : Entry) → IsInLeaf at key e → noted e.id ≡ Some (note_of e.range (Leaf key))) where
    -- what stands under two nodes of a level under one id is under one node
    pub under_one : (level key other : ℕ) (a b : Entry) → a.id ≡ b.id → IsUnder at level key a → IsUnder at level other b → key ≡ other
    under_one zero key other a b ids under under_too =
        let note = one_note (noted a.id) (note_of a.range (Leaf key)) (note_of b.range (Leaf other))
        (leaf_noted key a under) (ap noted ids ∙ leaf_noted other b under_too) in
        let places : Leaf key ≡ Leaf other = ap (λ (n : Note). n.place) note in
        cc
    under_one (suc level) key other a b ids under under_too =
        let child : Entry = under.0 in
        let sibling : Entry = under_too.0 in
        shape.single key other child sibling under.1 under_too.1 (under_one level child.id sibling.id a b ids under.3 under_too.3)

    -- the next child, of which what stands under it is found
    pub next_found : (level : ℕ) (children : List Entry) (place : ℕ) (child : Entry) (query : Corners)
        (old mid new : List ℕ) → HaveOneRange children → place < length children → child ≡ get_or children place child
        → AddsThose (IsUnderOne at level (take place children)) query old mid
        → AddsThose (IsUnder at level child.id) query mid new
        → AddsThose (IsUnderOne at level (take place children ++ child ∷ [])) query old new
    next_found level children place child query old mid new one inside here first second =
        adds_same (λ e. IsUnderOne at level (take place children) e ⊎ IsUnder at level child.id e)
        (IsUnderOne at level (take place children ++ child ∷ [])) query old new
        (more at level (take place children) child)
        (adds_both (IsUnderOne at level (take place children)) (IsUnder at level child.id) query old mid new
        (λ a b under under_too ids. absent_before children place child one inside here under.0 under.1
        (under_one level under.0.id child.id a b ids under.2 under_too))
        first second)

  -- the next child, whose rectangle doesn't overlap the query
  pub next_passed : (level key : ℕ) (node : Node) (children : List Entry) (child : Entry) (query : Corners)
      (old new : List ℕ) → at key ≡ Some node → 0 < node.level → Contains node.children child
      → (Overlap child.range query → ⊥) → AddsThose (IsUnderOne at level children) query old new
      → AddsThose (IsUnderOne at level (children ++ child ∷ [])) query old new
  next_passed level key node children child query old new there inner listed apart first = record {
    added = first.added;
    whole = first.whole;
    once = first.once;
    exact = λ id. (
      λ has. let is = (first.exact id).0 has in
          record {
            range = is.range;
            one_of = (more at level children child (entry_of id is.range)).0 (inl is.one_of);
            overlaps = is.overlaps;
          },
      λ is. (first.exact id).1 (record {
        range = is.range;
        one_of = elim ((more at level children child (entry_of id is.range)).1 is.one_of) [
          | inl before ↦ before
          | inr under ↦ absurd (apart (overlaps_more child.range is.range query (covered (entry_of id is.range) under) is.overlaps))
        ];
        overlaps = is.overlaps;
      }),
    );
  }
    where
      link : Links at key child
      link = record { node = node; there = there; inner = inner; listed = listed }

      covered : (e : Entry) → IsUnder at level child.id e → Covers child.range e.range
      covered e under = let below = shape.below key child link in under_covered level child.id below.node below.there child.range below.covers e under

  -- what stands under a node stands under one of its children
  pub under_children : (level key : ℕ) (node : Node) → at key ≡ Some node → node.level ≡ suc level → (e : Entry)
      → IsUnderOne at level node.children e ↔ IsUnder at (suc level) key e
  under_children level key node there is e = (
    λ under. (under.0, record { node = node; there = there; inner = omega (arith, is); listed = under.1 }, is, under.2),
    λ under.
        let link : Links at key under.0 = under.1 in
        (under.0, listed_in (at key) link.node node under.0 link.there there link.listed, under.3),
  )

-- what stands under a key stands under a node of the level
pub under_there : (at : ℕ → Option Node) (level key : ℕ) (entry : Entry) → IsUnder at level key entry → (node : Node)
    × (at key ≡ Some node) × (node.level ≡ level)
under_there at zero key entry under = (under.node, under.there, under.lowest)
under_there at (suc level) key entry under = let link : Links at key under.0 = under.1 in (link.node, link.there, under.2)
