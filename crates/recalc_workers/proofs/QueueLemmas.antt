-- Each call keeps the rule of the queue.
use Rattle.std.proofs.Common.{◌≡◌, ◌≢◌, ℕ, zero, suc, ◌+◌, ◌<◌, ◌≤◌, nat_le, ◌&&◌, IsTrue, true, true≢false, List, []}
use Rattle.std.proofs.Common.{◌∷◌, ◌++◌, length, drop, set, sym, refl, ap, ◌∙◌, subst, ⊎_elim, append_assoc, arith}
use Rattle.std.proofs.lemmas.List.{length-append}
use mathlib.Core.Option.{some, some-injective, some-ne-none}
use lib.ListN.{get_elem?}
use Rattle.crossbeam_queue.specs.Fifo.{Pushes, Pops, Forks, Learns}
use Rattle.crossbeam_queue.proofs.Lists.{at_set, at_snoc}
use Rattle.sheet_refs.specs.declared.sizes.Sizes.{Sizes}
use Rattle.recalc_workers.specs.declared.rules.Queued.{Queued}
use Rattle.recalc_workers.specs.declared.rules.HandView.{HandView}
use Rattle.recalc_workers.specs.Rule.{FitsSheet, AllFit, AccountsFor, FitsQueue, HoldsJobs, one_cell, sole_view}
use Rattle.recalc_workers.specs.Rule.{first_view, with_put, with_taken, not_sole, further_view, PutsEntry, TakesEntry}
use Rattle.recalc_workers.specs.Rule.{LearnsSizes, KnowsHeld}

-- a list of one has its element at the first place, and no other
only : (u v : HandView) (port : ℕ) → get_elem? (u ∷ []) port ≡ some v → (port ≡ 0) × (u ≡ v)
only u v zero e = (refl, some-injective u v e)
only u v (suc port) e = absurd (some-ne-none v (sym e))

first_place : (views : List HandView) (u v : HandView) (port : ℕ) → views ≡ u ∷ [] → get_elem? views port ≡ some v → port ≡ 0
first_place views u v port one at = (only u v port (ap (λ l. get_elem? l port) (sym one) ∙ at)).0

-- a hand beside another one is no only hand
not_alone : (sizes : Sizes) (entries : List Queued) (views : List HandView) (port j : ℕ) (v u : HandView) → FitsQueue sizes entries views u
    → get_elem? views port ≡ some v → get_elem? views j ≡ some u → j ≢ port → u.sole ≢ true
not_alone sizes entries views port j v u fits at there apart sole =
    let one = (fits.1 sole).0 in apart (first_place views u u j one there ∙ sym (first_place views u v port one at))

-- the one view is changed
one_changed : (views : List HandView) (port : ℕ) (v w : HandView) → views ≡ v ∷ [] → get_elem? views port ≡ some v → set views port w ≡ w ∷ []
one_changed views port v w one at = ap (λ l. set l port w) one ∙ ap (λ i. set (v ∷ []) i w) (first_place views v v port one at)

-- the views of a queue whose entries change with one view of the same sizes
moves : (sizes : Sizes) (entries after : List Queued) (views : List HandView) (port : ℕ) (v w : HandView)
    → ((j : ℕ) (u : HandView) → get_elem? views j ≡ some u → FitsQueue sizes entries views u)
    → get_elem? views port ≡ some v → w.sizes ≡ v.sizes → w.sole ≡ v.sole → (AccountsFor v entries → AccountsFor w after)
    → (j : ℕ) (u : HandView) → get_elem? (set views port w) j ≡ some u → FitsQueue sizes after (set views port w) u
moves sizes entries after views port v w fits at same_sizes same_sole accounts j u e =
    ⊎_elim (λ (x : (j ≡ port) × (w ≡ u)). subst (λ (y : HandView). FitsQueue sizes after (set views port w) y) x.1 mine)
    (λ (x : (j ≢ port) × (get_elem? views j ≡ some u)). (
      (fits j u x.1).0,
      λ sole. absurd (not_alone sizes entries views port j v u (fits j u x.1) at x.1 x.0 sole),
    ))
    (at_set views port j w u e)
  where
    mine : FitsQueue sizes after (set views port w) w
    mine = (same_sizes ∙ (fits port v at).0, λ sole. let p = (fits port v at).1 (sym same_sole ∙ sole) in (one_changed views port v w p.0 at, accounts p.1))

-- an empty queue with one hand
empty : (sizes : Sizes) → HoldsJobs [] (sole_view sizes ∷ [])
empty sizes = (
  sizes,
  (λ place entry at. absurd (some-ne-none entry (sym at))),
  λ port v at. subst (λ (y : HandView). FitsQueue sizes [] (sole_view sizes ∷ []) y) (only (sole_view sizes) v port at).1 (refl, λ _. (refl, refl)),
)

pub begins : HoldsJobs [] (first_view ∷ [])
begins = empty one_cell

all_more : (sizes : Sizes) (entries : List Queued) (x : Queued) → AllFit sizes entries → FitsSheet sizes x.job → AllFit sizes (entries ++ x ∷ [])
all_more sizes entries x all fits place entry e =
    ⊎_elim (λ at. all place entry at) (λ (is : x ≡ entry). subst (λ (y : Queued). FitsSheet sizes y.job) is fits) (at_snoc entries x entry place e)

has_room : (put taken entries : List Queued) (n : ℕ) → put ≡ taken ++ entries → length entries < n → n ≡ 65536 → length put < length taken + 65536
has_room put taken entries n e room full = let l = ap length e ∙ length-append taken entries in omega arith

pub puts : (n port : ℕ) (v : HandView) (x : Queued) → n ≡ 65536 → FitsSheet v.sizes x.job → Pushes HoldsJobs n port v x (PutsEntry v x)
puts n port v x full fits entries views room h at =
    let mine = h.2 port v at in (
      with_put v x,
      (
        h.0,
        all_more h.0 entries x h.1 (subst (λ (s : Sizes). FitsSheet s x.job) mine.0 fits),
        moves h.0 entries (entries ++ x ∷ []) views port v (with_put v x) h.2 at refl refl (λ a. ap (λ l. l ++ x ∷ []) a
            ∙ append_assoc v.taken entries (x ∷ [])),
      ),
      (refl, λ sole. has_room v.put v.taken entries n (mine.1 sole).1 room full),
    )

pub takes : (port : ℕ) (v : HandView) → Pops HoldsJobs port v (TakesEntry v)
takes port v x entries views h at =
    let mine = h.2 port v at in (
      with_taken v x,
      (
        h.0,
        (λ place entry e. h.1 (suc place) entry e),
        moves h.0 (x ∷ entries) entries views port v (with_taken v x) h.2 at refl refl (λ a. a ∙ sym (append_assoc v.taken (x ∷ []) entries)),
      ),
      (refl, subst (λ (s : Sizes). FitsSheet s x.job) (sym mine.0) (h.1 0 x refl), λ sole. (entries, (mine.1 sole).1)),
    )

-- the first entry is taken out, and none is left
learns_first : (port : ℕ) (first : Queued) → Pops HoldsJobs port (with_put first_view first) (LearnsSizes (with_put first_view first))
learns_first port first x entries views h at =
    let v = with_put first_view first in let mine = (h.2 port v at).1 refl in let w = sole_view x.sizes in (
      w,
      subst (λ (y : List Queued × List HandView). HoldsJobs y.0 y.1) (λ i. (
        ap (drop 1) mine.1 i,
        sym (one_changed views port v w mine.0 at) i,
      )) (empty x.sizes),
      (ap (λ (y : Queued). y ∷ []) (some-injective first x (ap (λ l. get_elem? l 0) mine.1)), refl),
    )

pub learns : (port : ℕ) (v : HandView) (first : Queued) → v ≡ with_put first_view first → Pops HoldsJobs port v (LearnsSizes v)
learns port v first is = subst (λ (y : HandView). Pops HoldsJobs port y (LearnsSizes y)) (sym is) (learns_first port first)

-- the first entry's job is one of the sheet of one cell
pub first_fits : (v : HandView) (x : Queued) → v ≡ first_view → x.job.cell.row ≡ 1 → x.job.cell.col ≡ 1 → x.job.tries ≡ 0 → FitsSheet v.sizes x.job
first_fits v x is row col tries =
    subst (λ (y : HandView). FitsSheet y.sizes x.job) (sym is)
    (subst (λ (p : ℕ × (ℕ × ℕ)). IsTrue ((nat_le 1 p.0 && nat_le p.0 1) && (nat_le 1 p.1.0 && nat_le p.1.0 1))
    × (p.1.1 ≤ 16)) (λ i. (sym row i, (sym col i, sym tries i))) (refl, omega arith))

pub forks : (port : ℕ) (v : HandView) → Forks HoldsJobs port v (not_sole v) (further_view v)
forks port v entries views h at = (h.0, h.1, λ j u e. ⊎_elim (old j u) (new u) (at_snoc (set views port (not_sole v)) (further_view v) u j e))
  where
    views₂ : List HandView
    views₂ = set views port (not_sole v) ++ further_view v ∷ []

    new : (u : HandView) → further_view v ≡ u → FitsQueue h.0 entries views₂ u
    new u is = subst (λ (y : HandView). FitsQueue h.0 entries views₂ y) is ((h.2 port v at).0, λ sole. absurd (true≢false (sym sole)))

    old : (j : ℕ) (u : HandView) → get_elem? (set views port (not_sole v)) j ≡ some u → FitsQueue h.0 entries views₂ u
    old j u e =
        ⊎_elim (λ (x : (j ≡ port) × (not_sole v ≡ u)). subst (λ (y : HandView). FitsQueue h.0 entries views₂ y) x.1
        ((h.2 port v at).0, λ sole. absurd (true≢false (sym sole))))
        (λ (x : (j ≢ port) × (get_elem? views j ≡ some u)). (
          (h.2 j u x.1).0,
          λ sole. absurd (not_alone h.0 entries views port j v u (h.2 j u x.1) at x.1 x.0 sole),
        ))
        (at_set views port j (not_sole v) u e)

pub knows : (port : ℕ) (v : HandView) → Learns HoldsJobs port v (KnowsHeld v)
knows port v entries views h at =
    let mine = h.2 port v at in (subst (λ (s : Sizes). AllFit s entries) (sym mine.0) h.1, λ sole. (mine.1 sole).1)
