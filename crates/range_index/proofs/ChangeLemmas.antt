-- Tables after an entry came or went.
use Rattle.std.proofs.Common.{◌≡◌, ◌≢◌, ◌↔◌, ◌⊎◌, inl, inr, ℕ, ◌+◌, ◌-◌, ◌<◌, ◌≤◌, Bool, true, false, true≢false}
use Rattle.std.proofs.Common.{Option, Some, None, refl, sym, ◌∙◌, ap, subst, arith}
use Rattle.std.specs.Option.{IsSome}
use Rattle.sheet_refs.specs.Cells.{Corners}
use Rattle.range_index.specs.declared.tiles.Home.{Home}
use Rattle.range_index.specs.declared.tiles.Slot.{Slot}
use Rattle.range_index.specs.Entries.{Entry, entry_of}
use Rattle.range_index.specs.Grids.{IsGrid, IsReachedKind, FitsNames, home_of, slot_of, same_home, same_slot}
use Rattle.range_index.specs.Changes.{SetsKey}
use Rattle.range_index.proofs.GridLemmas.{HasOnePlace, one_place, slot_is}
use Rattle.range_index.proofs.SlotLemmas.{home_same, home_self, slot_same, slot_self}

-- two things are the same or not, where a test tells
cases_by : {K : Type 0} (eq : K → K → Bool) → ((a b : K) → eq a b ≡ true → a ≡ b) → ((a : K) → eq a a ≡ true) → (a b : K) → (a ≡ b) ⊎ (a ≢ b)
cases_by {K} eq same self a b = by (eq a b) refl
  where
    by : (v : Bool) → eq a b ≡ v → (a ≡ b) ⊎ (a ≢ b)
    by true e = inl (same a b e)
    by false e = inr (λ is. true≢false (sym (subst (λ (x : K). eq a x ≡ true) is (self a)) ∙ e))

pub home_cases : (a b : Home) → (a ≡ b) ⊎ (a ≢ b)
home_cases = cases_by same_home home_same home_self

pub slot_cases : (a b : Slot) → (a ≡ b) ⊎ (a ≢ b)
slot_cases = cases_by same_slot slot_same slot_self

pub some_same : {X : Type 0} (a b : X) → Some a ≡ Some b → a ≡ b
some_same a b is = cc

pub some_is : {X : Type 0} (o : Option X) (x : X) → o ≡ Some x → IsSome o
some_is {X} o x is = subst (λ (p : Option X). IsSome p) (sym is) refl

none_is_some : {X : Type 0} (x : X) → None ≡ Some x → ⊥
none_is_some x is = cc

-- the parts of a place
own_home : (a : Slot) (home : Home) (place : ℕ) → a ≡ slot_of home place → a.home ≡ home
own_home a home place is = ap (λ (s : Slot). s.home) is

own_place : (a : Slot) (home : Home) (place : ℕ) → a ≡ slot_of home place → a.place ≡ place
own_place a home place is = ap (λ (s : Slot). s.place) is

-- an entry more

pub grid_with : (at new_at : Slot → Option Entry) (count new_count : Home → ℕ) (stands new_stands : ℕ
    → Option Slot) (tallest widest new_tallest new_widest id : ℕ) (range : Corners)
    → IsGrid at count stands tallest widest → FitsNames range → ((s : Slot) (e : Entry) → at s ≡ Some e → e.id ≢ id)
    → SetsKey at new_at (slot_of (home_of range) (count (home_of range))) (Some (entry_of id range))
    → SetsKey count new_count (home_of range) (count (home_of range) + 1)
    → SetsKey stands new_stands id (Some (slot_of (home_of range) (count (home_of range)))) → tallest ≤ new_tallest
    → widest ≤ new_widest → IsReachedKind new_tallest new_widest (home_of range)
    → IsGrid new_at new_count new_stands new_tallest new_widest
grid_with at new_at count new_count stands new_stands tallest widest new_tallest new_widest id range grid fits absent
    items counts slots higher wider reached = record {
      full = full;
      counted = λ s e is. counted s e (stood s e is);
      at_home = λ s e is. at_home s e (stood s e is);
      fits = λ s e is. fits_names s e (stood s e is);
      reached = λ s e is. is_reached s e (stood s e is);
      noted = λ s e is. noted s e (stood s e is);
    }
  where
    home : Home
    home = home_of range

    place : ℕ
    place = count home

    slot : Slot
    slot = slot_of home place

    -- what stands at a place is the entry, or stood there before
    Stood : Slot → Entry → Type 0
    Stood s e = ((s ≡ slot) × (e ≡ entry_of id range)) ⊎ (at s ≡ Some e)

    stood : (s : Slot) (e : Entry) → new_at s ≡ Some e → Stood s e
    stood s e is = elim (slot_cases s slot) [
      | inl same ↦ inl (same, some_same e (entry_of id range) (sym is ∙ ap new_at same ∙ items.here))
      | inr other ↦ inr (sym (items.others s other) ∙ is)
    ]

    grows : (h : Home) → count h ≤ new_count h
    grows h = elim (home_cases h home) [
      | inl same ↦ omega (arith, ap count same, ap new_count same, counts.here)
      | inr other ↦ omega (arith, counts.others h other)
    ]

    full : (h : Home) (p : ℕ) → p < new_count h → IsSome (new_at (slot_of h p))
    full h p below = elim (slot_cases (slot_of h p) slot) [
      | inl same ↦ some_is (new_at (slot_of h p)) (entry_of id range) (ap new_at same ∙ items.here)
      | inr other ↦ subst (λ (o : Option Entry). IsSome o) (sym (items.others (slot_of h p) other)) (grid.full h p (elim (home_cases h home) [
        | inl same ↦
            let apart : p ≢ place = λ at_end. other (ap (λ (x : Home). slot_of x p) same ∙ ap (λ n. slot_of home n) at_end) in
            omega (arith, below, apart, ap count same, ap new_count same, counts.here)
        | inr away ↦ omega (arith, below, counts.others h away)
      ]))
    ]

    counted : (s : Slot) (e : Entry) → Stood s e → s.place < new_count s.home
    counted s e (inl (same, is)) = omega (arith, own_place s home place same, ap new_count (own_home s home place same), counts.here)
    counted s e (inr before) = omega (arith, grid.counted s e before, grows s.home)

    at_home : (s : Slot) (e : Entry) → Stood s e → s.home ≡ home_of e.range
    at_home s e (inl (same, is)) = own_home s home place same ∙ ap (λ (x : Entry). home_of x.range) (sym is)
    at_home s e (inr before) = grid.at_home s e before

    fits_names : (s : Slot) (e : Entry) → Stood s e → FitsNames e.range
    fits_names s e (inl (same, is)) = subst (λ (x : Entry). FitsNames x.range) (sym is) fits
    fits_names s e (inr before) = grid.fits s e before

    is_reached : (s : Slot) (e : Entry) → Stood s e → IsReachedKind new_tallest new_widest s.home
    is_reached s e (inl (same, is)) = subst (λ (x : Slot). IsReachedKind new_tallest new_widest x.home) (sym same) reached
    is_reached s e (inr before) =
        let was = grid.reached s e before in record { high = omega (arith, was.high, higher); wide = omega (arith, was.wide, wider) }

    noted : (s : Slot) (e : Entry) → Stood s e → new_stands e.id ≡ Some s
    noted s e (inl (same, is)) = ap new_stands (ap (λ (x : Entry). x.id) is) ∙ slots.here ∙ ap (λ (x : Slot). Some x) (sym same)
    noted s e (inr before) = slots.others e.id (absent s e before) ∙ grid.noted s e before

-- an entry stands somewhere
abbrev pub Stands : (Slot → Option Entry) → Entry → Type 0
Stands at entry = (slot : Slot) × (at slot ≡ Some entry)

-- what stands after that stood before, or is the entry
pub stands_with : (at new_at : Slot → Option Entry) (slot : Slot) (added entry : Entry) → at slot ≡ None
    → SetsKey at new_at slot (Some added) → Stands new_at entry ↔ (Stands at entry ⊎ (entry ≡ added))
stands_with at new_at slot added entry free items = (to, from)
  where
    to : Stands new_at entry → Stands at entry ⊎ (entry ≡ added)
    to (s, is) = elim (slot_cases s slot) [
      | inl same ↦ inr (some_same entry added (sym is ∙ ap new_at same ∙ items.here))
      | inr other ↦ inl (s, sym (items.others s other) ∙ is)
    ]

    from : Stands at entry ⊎ (entry ≡ added) → Stands new_at entry
    from (inl (s, is)) =
        let other : s ≢ slot = λ same. none_is_some entry (sym free ∙ ap at (sym same) ∙ is) in (s, items.others s other ∙ is)
    from (inr same) = (slot, items.here ∙ ap (λ (e : Entry). Some e) (sym same))

-- nothing stands behind the last place of a home
pub free_place : (at : Slot → Option Entry) (count : Home → ℕ) (stands : ℕ → Option Slot) (tallest widest : ℕ)
    (home : Home) → IsGrid at count stands tallest widest → at (slot_of home (count home)) ≡ None
free_place at count stands tallest widest home grid = by (at (slot_of home (count home))) refl
  where
    by : (o : Option Entry) → at (slot_of home (count home)) ≡ o → o ≡ None
    by None is = refl
    by (Some e) is = absurd (omega (arith, grid.counted (slot_of home (count home)) e is))

-- an entry less: the last one of its home has taken its place
pub record TakesOut (at new_at : Slot → Option Entry) (count new_count : Home → ℕ) (stands new_stands : ℕ
    → Option Slot) (slot last : Slot) (out moved : Entry) : Type 0 where
  pub last_is : last ≡ slot_of slot.home (count slot.home - 1)
  pub there : at slot ≡ Some out
  pub at_last : at last ≡ Some moved
  pub gone : new_at last ≡ None
  pub in_place : slot ≢ last → new_at slot ≡ Some moved
  pub stayed : (s : Slot) → s ≢ last → s ≢ slot → new_at s ≡ at s
  pub counts : SetsKey count new_count slot.home (count slot.home - 1)
  pub renoted : slot ≢ last → new_stands moved.id ≡ Some slot
  pub others : (i : ℕ) → i ≢ out.id → i ≢ moved.id → new_stands i ≡ stands i

-- what stands at a place now
abbrev pub Stays : (Slot → Option Entry) → Slot → Slot → Entry → Slot → Entry → Type 0
Stays at slot last moved s e = ((s ≡ slot) × (slot ≢ last) × (e ≡ moved)) ⊎ ((at s ≡ Some e) × (s ≢ last) × (s ≢ slot))

pub stays : (at new_at : Slot → Option Entry) (count new_count : Home → ℕ) (stands new_stands : ℕ
    → Option Slot) (slot last : Slot) (out moved : Entry) → TakesOut at new_at count new_count stands new_stands slot
    last out moved → (s : Slot) (e : Entry) → new_at s ≡ Some e → Stays at slot last moved s e
stays at new_at count new_count stands new_stands slot last out moved takes s e is = elim (slot_cases s last) [
  | inl at_end ↦ absurd (none_is_some e (sym takes.gone ∙ ap new_at (sym at_end) ∙ is))
  | inr before ↦ elim (slot_cases s slot) [
    | inl same ↦
        let apart : slot ≢ last = λ end. before (same ∙ end) in
        inl (same, apart, some_same e moved (sym is ∙ ap new_at same ∙ takes.in_place apart))
    | inr other ↦ inr (sym (takes.stayed s before other) ∙ is, before, other)
  ]
]

pub grid_without : (at new_at : Slot → Option Entry) (count new_count : Home → ℕ) (stands new_stands : ℕ
    → Option Slot) (tallest widest : ℕ) (slot last : Slot) (out moved : Entry) → IsGrid at count stands tallest widest
    → TakesOut at new_at count new_count stands new_stands slot last out moved
    → IsGrid new_at new_count new_stands tallest widest
grid_without at new_at count new_count stands new_stands tallest widest slot last out moved grid takes = record {
  full = full;
  counted = λ s e is. counted s e (now s e is);
  at_home = λ s e is. at_home s e (now s e is);
  fits = λ s e is. fits_names s e (now s e is);
  reached = λ s e is. is_reached s e (now s e is);
  noted = λ s e is. noted s e (now s e is);
}
  where
    one : HasOnePlace at
    one = one_place at count stands tallest widest grid

    now : (s : Slot) (e : Entry) → new_at s ≡ Some e → Stays at slot last moved s e
    now = stays at new_at count new_count stands new_stands slot last out moved takes

    full : (h : Home) (p : ℕ) → p < new_count h → IsSome (new_at (slot_of h p))
    full h p below = elim (slot_cases (slot_of h p) slot) [
      | inl same ↦ some_is (new_at (slot_of h p)) moved (ap new_at same ∙ takes.in_place (λ end. before_end h p below (same ∙ end)))
      | inr other ↦ subst (λ (o : Option Entry). IsSome o) (sym (takes.stayed (slot_of h p) (before_end h p below) other)) (grid.full h p (lower h p below))
    ]
      where
        lower : (h : Home) (p : ℕ) → p < new_count h → p < count h
        lower h p below = elim (home_cases h slot.home) [
          | inl same ↦ omega (arith, below, ap count same, ap new_count same, takes.counts.here)
          | inr away ↦ omega (arith, below, takes.counts.others h away)
        ]

        before_end : (h : Home) (p : ℕ) → p < new_count h → slot_of h p ≢ last
        before_end h p below end =
            let is = end ∙ takes.last_is in
            let same : h ≡ slot.home = ap (λ (s : Slot). s.home) is in
            omega (arith, below, ap new_count same, takes.counts.here, ap (λ (s : Slot). s.place) is)

    counted : (s : Slot) (e : Entry) → Stays at slot last moved s e → s.place < new_count s.home
    counted s e (inl (same, apart, is)) =
        let not_end : slot.place ≢ count slot.home - 1 = λ end. apart (ap (λ n. slot_of slot.home n) end ∙ sym takes.last_is) in
        omega (arith, not_end, grid.counted slot out takes.there, ap (λ (x : Slot). x.place) same, ap (λ (x : Slot). new_count x.home) same, takes.counts.here)
    counted s e (inr (before, not_last, not_slot)) = elim (home_cases s.home slot.home) [
      | inl same ↦
          let not_end : s.place ≢ count slot.home - 1 = λ end. not_last (slot_is s slot.home (count slot.home - 1) same end ∙ sym takes.last_is) in
          omega (arith, not_end, grid.counted s e before, ap count same, ap new_count same, takes.counts.here)
      | inr away ↦ omega (arith, grid.counted s e before, takes.counts.others s.home away)
    ]

    at_home : (s : Slot) (e : Entry) → Stays at slot last moved s e → s.home ≡ home_of e.range
    at_home s e (inl (same, apart, is)) =
        ap (λ (x : Slot). x.home) same ∙ (sym (ap (λ (x : Slot). x.home) takes.last_is)
        ∙ (grid.at_home last moved takes.at_last ∙ ap (λ (x : Entry). home_of x.range) (sym is)))
    at_home s e (inr (before, _, _)) = grid.at_home s e before

    fits_names : (s : Slot) (e : Entry) → Stays at slot last moved s e → FitsNames e.range
    fits_names s e (inl (same, apart, is)) = subst (λ (x : Entry). FitsNames x.range) (sym is) (grid.fits last moved takes.at_last)
    fits_names s e (inr (before, _, _)) = grid.fits s e before

    is_reached : (s : Slot) (e : Entry) → Stays at slot last moved s e → IsReachedKind tallest widest s.home
    is_reached s e (inl (same, apart, is)) = subst (λ (x : Slot). IsReachedKind tallest widest x.home) (sym same) (grid.reached slot out takes.there)
    is_reached s e (inr (before, _, _)) = grid.reached s e before

    noted : (s : Slot) (e : Entry) → Stays at slot last moved s e → new_stands e.id ≡ Some s
    noted s e (inl (same, apart, is)) = ap new_stands (ap (λ (x : Entry). x.id) is) ∙ (takes.renoted apart ∙ ap (λ (x : Slot). Some x) (sym same))
    noted s e (inr (before, not_last, not_slot)) =
        takes.others e.id (λ same. not_slot (one s slot e out before takes.there same)) (λ same. not_last (one s last e moved before takes.at_last same))
        ∙ grid.noted s e before

-- what stands after that stood before, and isn't the one that was taken out
pub stands_without : (at new_at : Slot → Option Entry) (count new_count : Home → ℕ) (stands new_stands : ℕ
    → Option Slot) (slot last : Slot) (out moved entry : Entry) → HasOnePlace at
    → TakesOut at new_at count new_count stands new_stands slot last out moved → Stands new_at entry
    ↔ ((entry.id ≢ out.id) × Stands at entry)
stands_without at new_at count new_count stands new_stands slot last out moved entry one takes = (
  λ there. to there.0 (stays at new_at count new_count stands new_stands slot last out moved takes there.0 entry
      there.1),
  from,
)
  where
    to : (s : Slot) → Stays at slot last moved s entry → (entry.id ≢ out.id) × Stands at entry
    to s (inl (same, apart, is)) = (
      λ own. apart (one slot last out moved takes.there takes.at_last (sym own ∙ ap (λ (e : Entry). e.id) is)),
      (last, takes.at_last ∙ ap (λ (e : Entry). Some e) (sym is)),
    )
    to s (inr (before, not_last, not_slot)) = (λ own. not_slot (one s slot entry out before takes.there own), (s, before))

    from : (entry.id ≢ out.id) × Stands at entry → Stands new_at entry
    from (other, (s, is)) = elim (slot_cases s last) [
      | inl end ↦
          let own : entry ≡ moved = some_same entry moved (sym is ∙ ap at end ∙ takes.at_last) in
          let apart : slot ≢ last = λ same. not_slot (end ∙ sym same) in
          (slot, takes.in_place apart ∙ ap (λ (e : Entry). Some e) (sym own))
      | inr not_last ↦ (s, takes.stayed s not_last not_slot ∙ is)
    ]
      where
        not_slot : s ≢ slot
        not_slot same = other (ap (λ (e : Entry). e.id) (some_same entry out (sym is ∙ ap at same ∙ takes.there)))
