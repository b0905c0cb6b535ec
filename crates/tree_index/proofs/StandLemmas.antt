-- Where entries stand after a leaf, the list of those that are still to come, or a node above the leaves has changed.
use Rattle.std.proofs.Common.{◌≡◌, ◌≢◌, ◌↔◌, ◌⊎◌, inl, inr, ℕ, ◌<◌, List, Option, Some, None, refl, sym, ◌∙◌, ap, subst, arith}
use Rattle.std.specs.List.{Contains}
use Rattle.std.proofs.lemmas.Bool.{cases_eq}
use Rattle.sheet_refs.specs.Cells.{Corners}
use Rattle.range_index.specs.Entries.{Entry, entry_of, Removes, ChangesRange}
use Rattle.tree_index.specs.declared.notes.Place.{Place}
use Rattle.tree_index.specs.declared.notes.Place.TheVariants.{Leaf, Late}
use Rattle.tree_index.specs.Trees.{Node, new_node, IsInLeaf, StandsAt}
use Rattle.tree_index.specs.Changes.{SetsKey}
use Rattle.tree_index.proofs.ShapeLemmas.{no_node, listed_in, same_level}

-- an entry comes to a place, and stands at no other
abbrev pub ComesTo : (S T : Entry → Place → Type 0) → ℕ → Corners → Place → Type 0
ComesTo S T id range at = (e : Entry) (p : Place) → T e p ↔ (((e.id ≢ id) × S e p) ⊎ ((e ≡ entry_of id range) × (p ≡ at)))

-- an entry goes
abbrev pub GoesAway : (S T : Entry → Place → Type 0) → ℕ → Type 0
GoesAway S T id = (e : Entry) (p : Place) → T e p ↔ ((e.id ≢ id) × S e p)

-- what goes away and comes to a place, comes to it
pub moves_to : (S M T : Entry → Place → Type 0) (id : ℕ) (range : Corners) (at : Place) → GoesAway S M id → ComesTo M T id range at → ComesTo S T id range at
moves_to S M T id range at goes comes e p = (
  λ stands. elim ((comes e p).0 stands) [ inl kept ↦ inl ((goes e p).0 kept.1) | inr is ↦ inr is ],
  λ either. (comes e p).1 (elim either [ inl kept ↦ inl (kept.0, (goes e p).1 kept) | inr is ↦ inr is ]),
)

module _ {at new : ℕ → Option Node} {key : ℕ} {leaf changed : Node} (there : at key ≡ Some leaf)
    (lowest : leaf.level ≡ 0) (sets : SetsKey at new key (Some changed)) (lowest_too : changed.level ≡ 0) where
  in_other : (k : ℕ) (e : Entry) → k ≢ key → IsInLeaf new k e → IsInLeaf at k e
  in_other k e other is = record { node = is.node; there = sym (sets.others k other) ∙ is.there; lowest = is.lowest; listed = is.listed }

  in_other_new : (k : ℕ) (e : Entry) → k ≢ key → IsInLeaf at k e → IsInLeaf new k e
  in_other_new k e other is = record { node = is.node; there = sets.others k other ∙ is.there; lowest = is.lowest; listed = is.listed }

  listed_here : (k : ℕ) (e : Entry) → k ≡ key → IsInLeaf new k e → Contains changed.children e
  listed_here k e same is = listed_in (new k) is.node changed e is.there (ap new same ∙ sets.here) is.listed

  listed_old : (k : ℕ) (e : Entry) → k ≡ key → IsInLeaf at k e → Contains leaf.children e
  listed_old k e same is = listed_in (at k) is.node leaf e is.there (ap at same ∙ there) is.listed

  in_here : (k : ℕ) (e : Entry) → k ≡ key → Contains changed.children e → IsInLeaf new k e
  in_here k e same listed = record { node = changed; there = ap new same ∙ sets.here; lowest = lowest_too; listed = listed }

  in_old : (k : ℕ) (e : Entry) → k ≡ key → Contains leaf.children e → IsInLeaf at k e
  in_old k e same listed = record { node = leaf; there = ap at same ∙ there; lowest = lowest; listed = listed }

  -- a leaf has an entry more, or with another range
  pub leaf_gets : (late late_new : List Entry) (id : ℕ) (range : Corners)
      → ChangesRange leaf.children changed.children id range → Removes late late_new id
      → ((k : ℕ) (e : Entry) → k ≢ key → IsInLeaf at k e → e.id ≢ id)
      → ComesTo (StandsAt at late) (StandsAt new late_new) id range (Leaf key)
  leaf_gets late late_new id range changes removes elsewhere e Late = (
    λ listed. inl ((removes e).0 listed),
    λ either. elim either [ inl kept ↦ (removes e).1 kept | inr is ↦ absurd (let places : Late ≡ Leaf key = is.1 in cc) ],
  )
  leaf_gets late late_new id range changes removes elsewhere e (Leaf k) = (
    λ is. elim (cases_eq k key) [
      | inl same ↦ elim ((changes e).0 (listed_here k e same is)) [
        | inl kept ↦ inl (kept.0, in_old k e same kept.1)
        | inr now ↦ inr (now, ap Leaf same)
      ]
      | inr other ↦ let was = in_other k e other is in inl (elsewhere k e other was, was)
    ],
    λ either. elim either [
      | inl kept ↦ elim (cases_eq k key) [
        | inl same ↦ in_here k e same ((changes e).1 (inl (kept.0, listed_old k e same kept.1)))
        | inr other ↦ in_other_new k e other kept.1
      ]
      | inr is ↦ let places : Leaf k ≡ Leaf key = is.1 in let same : k ≡ key = cc in in_here k e same ((changes e).1 (inr is.0))
    ],
  )

  -- a leaf has an entry less
  pub leaf_loses : (late : List Entry) (id : ℕ) → Removes leaf.children changed.children id → Removes late late id
      → ((k : ℕ) (e : Entry) → k ≢ key → IsInLeaf at k e → e.id ≢ id)
      → GoesAway (StandsAt at late) (StandsAt new late) id
  leaf_loses late id removes lates elsewhere e Late = ((λ listed. (lates e).0 listed), (λ kept. (lates e).1 kept))
  leaf_loses late id removes lates elsewhere e (Leaf k) = (
    λ is. elim (cases_eq k key) [
      | inl same ↦ let kept = (removes e).0 (listed_here k e same is) in (kept.0, in_old k e same kept.1)
      | inr other ↦ let was = in_other k e other is in (elsewhere k e other was, was)
    ],
    λ kept. elim (cases_eq k key) [
      | inl same ↦ in_here k e same ((removes e).1 (kept.0, listed_old k e same kept.1))
      | inr other ↦ in_other_new k e other kept.1
    ],
  )

-- an entry comes to the list of those that are still to come, or goes from it
pub late_gets : (at : ℕ → Option Node) (late new : List Entry) (id : ℕ) (range : Corners)
    → ChangesRange late new id range → ((k : ℕ) (e : Entry) → IsInLeaf at k e → e.id ≢ id)
    → ComesTo (StandsAt at late) (StandsAt at new) id range Late
late_gets at late new id range changes elsewhere e Late = (
  λ listed. elim ((changes e).0 listed) [ inl kept ↦ inl kept | inr is ↦ inr (is, refl) ],
  λ either. (changes e).1 (elim either [ inl kept ↦ inl kept | inr is ↦ inr is.0 ]),
)
late_gets at late new id range changes elsewhere e (Leaf k) = (
  λ is. inl (elsewhere k e is, is),
  λ either. elim either [ inl kept ↦ kept.1 | inr is ↦ absurd (let places : Leaf k ≡ Late = is.1 in cc) ],
)

pub late_loses : (at : ℕ → Option Node) (late new : List Entry) (id : ℕ) → Removes late new id
    → ((k : ℕ) (e : Entry) → IsInLeaf at k e → e.id ≢ id) → GoesAway (StandsAt at late) (StandsAt at new) id
late_loses at late new id removes elsewhere e Late = ((λ listed. (removes e).0 listed), (λ kept. (removes e).1 kept))
late_loses at late new id removes elsewhere e (Leaf k) = ((λ is. (elsewhere k e is, is)), (λ kept. kept.1))

-- a node above the leaves has other children, or one without children comes or goes
pub no_leaf : (at new : ℕ → Option Node) (late : List Entry) (key : ℕ) → ((k : ℕ) → k ≢ key → new k ≡ at k)
    → ((e : Entry) → IsInLeaf at key e → ⊥) → ((e : Entry) → IsInLeaf new key e → ⊥) → (e : Entry) (p : Place)
    → StandsAt new late e p ↔ StandsAt at late e p
no_leaf at new late key others old_none new_none e Late = ((λ listed. listed), (λ listed. listed))
no_leaf at new late key others old_none new_none e (Leaf k) = (
  λ is. elim (cases_eq k key) [
    | inl same ↦ absurd (new_none e (subst (λ (i : ℕ). IsInLeaf new i e) same is))
    | inr other ↦ record { node = is.node; there = sym (others k other) ∙ is.there; lowest = is.lowest; listed = is.listed }
  ],
  λ is. elim (cases_eq k key) [
    | inl same ↦ absurd (old_none e (subst (λ (i : ℕ). IsInLeaf at i e) same is))
    | inr other ↦ record { node = is.node; there = others k other ∙ is.there; lowest = is.lowest; listed = is.listed }
  ],
)

-- a node above the leaves is no leaf, nor is one that isn't there or has no children
pub inner_no_leaf : (at : ℕ → Option Node) (key : ℕ) (node : Node) → at key ≡ Some node → 0 < node.level → (e : Entry) → IsInLeaf at key e → ⊥
inner_no_leaf at key node there inner e is = absurd (omega (arith, inner, is.lowest, same_level (at key) is.node node is.there there))

pub none_no_leaf : (at : ℕ → Option Node) (key : ℕ) → at key ≡ None → (e : Entry) → IsInLeaf at key e → ⊥
none_no_leaf at key none e is = no_node (at key) is.node none is.there

pub empty_no_leaf : (at : ℕ → Option Node) (key : ℕ) → ((node : Node) → at key ≡ Some node → (e : Entry)
    → Contains node.children e → ⊥) → (e : Entry) → IsInLeaf at key e → ⊥
empty_no_leaf at key empty e is = empty is.node is.there e is.listed

pub new_no_leaf : (at : ℕ → Option Node) (key level : ℕ) → at key ≡ Some (new_node level) → (e : Entry) → IsInLeaf at key e → ⊥
new_no_leaf at key level there e is = let listed = listed_in (at key) is.node (new_node level) e is.there there is.listed in omega (arith, listed.1)
