-- Which ids are found at the places of homes.
use Rattle.std.proofs.Common.{◌≡◌, ◌≢◌, ◌↔◌, ◌⊎◌, inl, inr, ℕ, ◌+◌, ◌-◌, ◌<◌, ◌≤◌, ◌/◌, List, [], ◌∷◌, ◌++◌, Option}
use Rattle.std.proofs.Common.{Some, length, get_or, refl, sym, ◌∙◌, ap, subst, arith, nat_eq}
use Rattle.std.specs.List.{Contains}
use Rattle.std.specs.Map.{lookup}
use Rattle.std.proofs.lemmas.List.{append-nil, append_assoc}
use Rattle.std.proofs.lemmas.List.Elements.{Contains-push_cases, Contains-append_left, Contains-append_right}
use Rattle.std.proofs.lemmas.List.Elements.{Contains-append_cases, Contains-push, Contains-get_or}
use Rattle.std.proofs.Math.Nat.{eq-or-lt_of_le}
use Rattle.sheet_refs.proofs.Tiles.{AllPairs-append}
use Rattle.sheet_refs.specs.Cells.{Corners}
use Rattle.sheet_refs.specs.Rectangles.{Overlap}
use Rattle.range_index.specs.declared.tiles.Home.{Home}
use Rattle.range_index.specs.declared.tiles.Slot.{Slot}
use Rattle.range_index.specs.Entries.{Entry}
use Rattle.range_index.specs.Grids.{IsGrid, AreGrid, IsFound, AddsFound, IsInRow, IsNear, IsNearAt, slot_of, same_slot, same_home, or_none}

-- no id stands at two places
abbrev pub HasOnePlace : (Slot → Option Entry) → Type 0
HasOnePlace at = (a b : Slot) (e f : Entry) → at a ≡ Some e → at b ≡ Some f → e.id ≡ f.id → a ≡ b

pub one_place : (at : Slot → Option Entry) (count : Home → ℕ) (stands : ℕ → Option Slot) (tallest widest : ℕ)
    → IsGrid at count stands tallest widest → HasOnePlace at
one_place at count stands tallest widest grid a b e f here there same =
    let both : Some a ≡ Some b = sym (grid.noted a e here) ∙ ap stands same ∙ grid.noted b f there in cc

pub places_of : {items : List (Slot × Entry)} {counts : List (Home × ℕ)} {slots : List (ℕ × Slot)} {tallest widest : ℕ}
    → AreGrid items counts slots tallest widest → HasOnePlace (λ slot. lookup (same_slot slot) items)
places_of {items} {counts} {slots} {tallest} {widest} are =
    one_place (λ slot. lookup (same_slot slot) items) (λ home. or_none (lookup (same_home home) counts))
    (λ id. lookup (nat_eq id) slots) tallest widest are.grid

-- ids that are found do not turn on places at which nothing stands
pub found_same : (at : Slot → Option Entry) (V W : Slot → Type 0) (query : Corners) (old new : List ℕ)
    → ((slot : Slot) (entry : Entry) → at slot ≡ Some entry → V slot ↔ W slot) → AddsFound at V query old new
    → AddsFound at W query old new
found_same at V W query old new same adds = record {
  added = adds.added;
  whole = adds.whole;
  once = adds.once;
  exact = λ id. (λ there. to id ((adds.exact id).0 there), λ found. (adds.exact id).1 (from id found));
}
  where
    to : (id : ℕ) → IsFound at V query id → IsFound at W query id
    to id f = record {
      slot = f.slot;
      entry = f.entry;
      visited = (same f.slot f.entry f.here).0 f.visited;
      here = f.here;
      id_is = f.id_is;
      overlaps = f.overlaps;
    }

    from : (id : ℕ) → IsFound at W query id → IsFound at V query id
    from id f = record {
      slot = f.slot;
      entry = f.entry;
      visited = (same f.slot f.entry f.here).1 f.visited;
      here = f.here;
      id_is = f.id_is;
      overlaps = f.overlaps;
    }

-- at no place nothing is found
pub found_nowhere : (at : Slot → Option Entry) (V : Slot → Type 0) (query : Corners) (out : List ℕ)
    → ((slot : Slot) (entry : Entry) → V slot → at slot ≡ Some entry → Overlap entry.range query → ⊥)
    → AddsFound at V query out out
found_nowhere at V query out none = record {
  added = [];
  whole = sym (append-nil out);
  once = λ i j d before within. absurd (omega (arith, within));
  exact = λ id. (λ there. absurd (omega (arith, there.1)), λ found. absurd (none found.slot found.entry found.visited found.here found.overlaps));
}

-- at one place
pub found_here : (at : Slot → Option Entry) (slot : Slot) (entry : Entry) (query : Corners) (old new : List ℕ)
    → at slot ≡ Some entry → Overlap entry.range query → new ≡ old ++ entry.id ∷ []
    → AddsFound at (λ s. s ≡ slot) query old new
found_here at slot entry query old new here overlaps pushed = record {
  added = entry.id ∷ [];
  whole = pushed;
  once = λ i j d before within. absurd (omega (arith, before, within));
  exact = λ id. (λ there. from_one id there, λ found. to_one id found);
}
  where
    from_one : (id : ℕ) → Contains (entry.id ∷ []) id → IsFound at (λ s. s ≡ slot) query id
    from_one id there = elim (Contains-push_cases [] entry.id id there) [
      | inl none ↦ absurd (omega (arith, none.1))
      | inr same ↦ record { slot = slot; entry = entry; visited = refl; here = here; id_is = same; overlaps = overlaps }
    ]

    some_same : (a b : Entry) → Some a ≡ Some b → a ≡ b
    some_same a b is = cc

    to_one : (id : ℕ) → IsFound at (λ s. s ≡ slot) query id → Contains (entry.id ∷ []) id
    to_one id found =
        let same : found.entry ≡ entry = some_same found.entry entry (sym found.here ∙ ap at found.visited ∙ here) in
        subst (λ (i : ℕ). Contains (entry.id ∷ []) i) (sym (ap (λ (e : Entry). e.id) same) ∙ found.id_is) (Contains-push [] entry.id)

-- at two sets of places that share none
pub found_both : (at : Slot → Option Entry) (V W : Slot → Type 0) (query : Corners) (old mid new : List ℕ)
    → HasOnePlace at → ((slot : Slot) → V slot → W slot → ⊥) → AddsFound at V query old mid
    → AddsFound at W query mid new → AddsFound at (λ s. V s ⊎ W s) query old new
found_both at V W query old mid new grid apart first second = record {
  added = first.added ++ second.added;
  whole = second.whole ∙ (ap (λ (l : List ℕ). l ++ second.added) first.whole ∙ append_assoc old first.added second.added);
  once = AllPairs-append (λ (a b : ℕ). a ≢ b) first.added second.added first.once second.once differ;
  exact = λ id. (λ there. to id (Contains-append_cases first.added second.added id there), λ found. from id found found.visited);
}
  where
    clash : (a b : ℕ) → IsFound at V query a → IsFound at W query b → a ≢ b
    clash a b f g same = apart g.slot (subst V (grid f.slot g.slot f.entry g.entry f.here g.here (f.id_is ∙ same ∙ sym g.id_is)) f.visited) g.visited

    differ : (i j : ℕ) (d : ℕ) → i < length first.added → j < length second.added → get_or first.added i d ≢ get_or second.added j d
    differ i j d in_first in_second =
        clash (get_or first.added i d) (get_or second.added j d)
        ((first.exact (get_or first.added i d)).0 (Contains-get_or first.added i d in_first))
        ((second.exact (get_or second.added j d)).0 (Contains-get_or second.added j d in_second))

    to : (id : ℕ) → Contains first.added id ⊎ Contains second.added id → IsFound at (λ s. V s ⊎ W s) query id
    to id (inl listed) =
        let f = (first.exact id).0 listed in record {
          slot = f.slot;
          entry = f.entry;
          visited = inl f.visited;
          here = f.here;
          id_is = f.id_is;
          overlaps = f.overlaps;
        }
    to id (inr listed) =
        let f = (second.exact id).0 listed in record {
          slot = f.slot;
          entry = f.entry;
          visited = inr f.visited;
          here = f.here;
          id_is = f.id_is;
          overlaps = f.overlaps;
        }

    from : (id : ℕ) → (f : IsFound at (λ s. V s ⊎ W s) query id) → V f.slot ⊎ W f.slot → Contains (first.added ++ second.added) id
    from id f (inl visited) =
        Contains-append_left first.added second.added id ((first.exact id).1 (record {
          slot = f.slot;
          entry = f.entry;
          visited = visited;
          here = f.here;
          id_is = f.id_is;
          overlaps = f.overlaps;
        }))
    from id f (inr visited) =
        Contains-append_right first.added second.added id ((second.exact id).1 (record {
          slot = f.slot;
          entry = f.entry;
          visited = visited;
          here = f.here;
          id_is = f.id_is;
          overlaps = f.overlaps;
        }))

-- at two such sets, which are together all places of a third at which something stands
pub found_more : (at : Slot → Option Entry) (V W T : Slot → Type 0) (query : Corners) (old mid new : List ℕ)
    → HasOnePlace at → ((slot : Slot) → V slot → W slot → ⊥) → ((slot : Slot) (entry : Entry) → at slot ≡ Some entry
    → (V slot ⊎ W slot) ↔ T slot) → AddsFound at V query old mid → AddsFound at W query mid new
    → AddsFound at T query old new
found_more at V W T query old mid new grid apart same first second =
    found_same at (λ s. V s ⊎ W s) T query old new same (found_both at V W query old mid new grid apart first second)

-- places of a home

abbrev pub IsBelow : Home → ℕ → Slot → Type 0
IsBelow home place slot = (slot.home ≡ home) × (slot.place < place)

pub slot_is : (slot : Slot) (home : Home) (place : ℕ) → slot.home ≡ home → slot.place ≡ place → slot ≡ slot_of home place
slot_is slot home place h p = ap (λ (x : Home). slot_of x slot.place) h ∙ ap (λ n. slot_of home n) p

pub not_below : (home : Home) (place : ℕ) (slot : Slot) → IsBelow home place slot → slot ≡ slot_of home place → ⊥
not_below home place slot below same = omega (arith, below.1, ap (λ (s : Slot). s.place) same)

pub below_next : (home : Home) (place : ℕ) (slot : Slot) → (IsBelow home place slot ⊎ (slot ≡ slot_of home place)) ↔ IsBelow home (place + 1) slot
below_next home place slot = (to, from)
  where
    to : IsBelow home place slot ⊎ (slot ≡ slot_of home place) → IsBelow home (place + 1) slot
    to (inl below) = (below.0, omega (arith, below.1))
    to (inr same) = (ap (λ (s : Slot). s.home) same, omega (arith, ap (λ (s : Slot). s.place) same))

    from : IsBelow home (place + 1) slot → IsBelow home place slot ⊎ (slot ≡ slot_of home place)
    from below = elim (eq-or-lt_of_le (omega (arith, below.1))) [
      | inl same ↦ inr (slot_is slot home place below.0 same)
      | inr less ↦ inl (below.0, less)
    ]

-- homes of a row

abbrev pub home_at : ℕ → ℕ → ℕ → ℕ → Home
home_at height width row col = record { height = height; width = width; row = row; col = col }

abbrev pub IsLeftOf : Corners → ℕ → ℕ → ℕ → ℕ → Slot → Type 0
IsLeftOf query height width row col slot = IsInRow query height width row slot × (slot.home.col < col)

pub home_is : (home : Home) (height width row col : ℕ) → home.height ≡ height → home.width ≡ width → home.row ≡ row
    → home.col ≡ col → home ≡ home_at height width row col
home_is home height width row col h w r c =
    ap (λ n. home_at n home.width home.row home.col) h ∙ (ap (λ n. home_at height n home.row home.col) w
    ∙ (ap (λ n. home_at height width n home.col) r ∙ ap (λ n. home_at height width row n) c))

pub not_left : (query : Corners) (height width row col : ℕ) (slot : Slot) → IsLeftOf query height width row col slot
    → slot.home ≡ home_at height width row col → ⊥
not_left query height width row col slot left same = omega (arith, left.1, ap (λ (h : Home). h.col) same)

pub left_next : (query : Corners) (height width row col : ℕ) (slot : Slot) → (query.head.col - width) / width ≤ col
    → col ≤ (query.tail.col - 1) / width → (IsLeftOf query height width row col slot
    ⊎ (slot.home ≡ home_at height width row col)) ↔ IsLeftOf query height width row (col + 1) slot
left_next query height width row col slot from_first to_last = (to, from)
  where
    to : IsLeftOf query height width row col slot ⊎ (slot.home ≡ home_at height width row col) → IsLeftOf query height width row (col + 1) slot
    to (inl left) = (left.0, omega (arith, left.1))
    to (inr same) =
        let col_is : slot.home.col ≡ col = ap (λ (h : Home). h.col) same in (
          record {
            height_is = ap (λ (h : Home). h.height) same;
            width_is = ap (λ (h : Home). h.width) same;
            row_is = ap (λ (h : Home). h.row) same;
            col_from = subst (λ n. (query.head.col - width) / width ≤ n) (sym col_is) from_first;
            col_to = subst (λ n. n ≤ (query.tail.col - 1) / width) (sym col_is) to_last;
          },
          omega (arith, col_is),
        )

    from : IsLeftOf query height width row (col + 1) slot → IsLeftOf query height width row col slot ⊎ (slot.home ≡ home_at height width row col)
    from left = elim (eq-or-lt_of_le (omega (arith, left.1))) [
      | inl same ↦ inr (home_is slot.home height width row col left.0.height_is left.0.width_is left.0.row_is same)
      | inr less ↦ inl (left.0, less)
    ]

-- rows of homes

abbrev pub IsAbove : Corners → ℕ → ℕ → ℕ → Slot → Type 0
IsAbove query height width row slot = IsNear query height width slot × (slot.home.row < row)

pub not_above : (query : Corners) (height width row : ℕ) (slot : Slot) → IsAbove query height width row slot → IsInRow query height width row slot → ⊥
not_above query height width row slot above here = omega (arith, above.1, here.row_is)

pub above_next : (query : Corners) (height width row : ℕ) (slot : Slot) → (query.head.row - height) / height ≤ row
    → row ≤ (query.tail.row - 1) / height → (IsAbove query height width row slot ⊎ IsInRow query height width row slot)
    ↔ IsAbove query height width (row + 1) slot
above_next query height width row slot from_first to_last = (to, from)
  where
    to : IsAbove query height width row slot ⊎ IsInRow query height width row slot → IsAbove query height width (row + 1) slot
    to (inl above) = (above.0, omega (arith, above.1))
    to (inr here) = (
      record {
        height_is = here.height_is;
        width_is = here.width_is;
        row_from = subst (λ n. (query.head.row - height) / height ≤ n) (sym here.row_is) from_first;
        row_to = subst (λ n. n ≤ (query.tail.row - 1) / height) (sym here.row_is) to_last;
        col_from = here.col_from;
        col_to = here.col_to;
      },
      omega (arith, here.row_is),
    )

    from : IsAbove query height width (row + 1) slot → IsAbove query height width row slot ⊎ IsInRow query height width row slot
    from above = elim (eq-or-lt_of_le (omega (arith, above.1))) [
      | inl same ↦ inr (record {
        height_is = above.0.height_is;
        width_is = above.0.width_is;
        row_is = same;
        col_from = above.0.col_from;
        col_to = above.0.col_to;
      })
      | inr less ↦ inl (above.0, less)
    ]

-- homes of two kinds

pub widths_apart : (query : Corners) (height a b : ℕ) → a ≢ b → (slot : Slot) → IsNear query height a slot → IsNear query height b slot → ⊥
widths_apart query height a b other slot here there = other (sym here.width_is ∙ there.width_is)

pub heights_apart : (query : Corners) (a b : ℕ) → a ≢ b → (slot : Slot) → IsNearAt query a slot → IsNearAt query b slot → ⊥
heights_apart query a b other slot here there = other (sym (height_of a here) ∙ height_of b there)
  where
    height_of : (h : ℕ) → IsNearAt query h slot → slot.home.height ≡ h
    height_of h (inl near) = near.height_is
    height_of h (inr (inl near)) = near.height_is
    height_of h (inr (inr near)) = near.height_is

-- what is in two of three sets or in the third is in one of three
pub one_of_three : {A B C : Type 0} → ((A ⊎ B) ⊎ C) ↔ (A ⊎ (B ⊎ C))
one_of_three {A} {B} {C} = (to, from)
  where
    to : (A ⊎ B) ⊎ C → A ⊎ (B ⊎ C)
    to (inl (inl a)) = inl a
    to (inl (inr b)) = inr (inl b)
    to (inr c) = inr (inr c)

    from : A ⊎ (B ⊎ C) → (A ⊎ B) ⊎ C
    from (inl a) = inl (inl a)
    from (inr (inl b)) = inl (inr b)
    from (inr (inr c)) = inr c

-- at three sets of places, no two of which share one
pub found_thrice : (at : Slot → Option Entry) (A B C : Slot → Type 0) (query : Corners) (old first second new : List ℕ)
    → HasOnePlace at → ((slot : Slot) → A slot → B slot → ⊥) → ((slot : Slot) → A slot → C slot → ⊥)
    → ((slot : Slot) → B slot → C slot → ⊥) → AddsFound at A query old first → AddsFound at B query first second
    → AddsFound at C query second new → AddsFound at (λ s. A s ⊎ (B s ⊎ C s)) query old new
found_thrice at A B C query old first second new grid ab ac bc one two three =
    found_more at (λ s. A s ⊎ B s) C (λ s. A s ⊎ (B s ⊎ C s)) query old second new grid apart (λ slot entry here. one_of_three)
    (found_both at A B query old first second grid ab one two) three
  where
    apart : (slot : Slot) → A slot ⊎ B slot → C slot → ⊥
    apart slot (inl a) c = ac slot a c
    apart slot (inr b) c = bc slot b c

-- at one set of places and at three others, none of which shares one with it
pub found_once_more : (at : Slot → Option Entry) (A B C D : Slot → Type 0) (query : Corners) (old first new : List ℕ)
    → HasOnePlace at → ((slot : Slot) → A slot → B slot → ⊥) → ((slot : Slot) → A slot → C slot → ⊥)
    → ((slot : Slot) → A slot → D slot → ⊥) → AddsFound at A query old first
    → AddsFound at (λ s. B s ⊎ (C s ⊎ D s)) query first new
    → AddsFound at (λ s. A s ⊎ (B s ⊎ (C s ⊎ D s))) query old new
found_once_more at A B C D query old first new grid ab ac ad one others =
    found_both at A (λ s. B s ⊎ (C s ⊎ D s)) query old first new grid apart one others
  where
    apart : (slot : Slot) → A slot → B slot ⊎ (C slot ⊎ D slot) → ⊥
    apart slot a (inl b) = ab slot a b
    apart slot a (inr (inl c)) = ac slot a c
    apart slot a (inr (inr d)) = ad slot a d

-- at homes that are higher or wider than all at which something stands
pub found_past : (at : Slot → Option Entry) (count : Home → ℕ) (stands : ℕ → Option Slot) (tallest widest : ℕ)
    (query : Corners) (height width : ℕ) (out : List ℕ) → IsGrid at count stands tallest widest → (tallest < height)
    ⊎ (widest < width) → AddsFound at (IsNear query height width) query out out
found_past at count stands tallest widest query height width out grid past =
    found_nowhere at (IsNear query height width) query out (λ slot entry near here overlap. elim past [
      | inl high ↦ omega (arith, high, (grid.reached slot entry here).high, near.height_is)
      | inr wide ↦ omega (arith, wide, (grid.reached slot entry here).wide, near.width_is)
    ])
