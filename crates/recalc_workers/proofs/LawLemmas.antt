-- The laws on hands.
use Rattle.std.proofs.Common.{rules, ◌≡◌, List, [], ◌∷◌, ◌++◌, length, sym, ap, ◌∙◌, arith}
use Rattle.std.proofs.lemmas.List.{length-append}
use mathlib.Core.Option.{some-injective}
use lib.ListN.{get_elem?}
use Rattle.recalc_workers.specs.declared.job.Job.{Job}
use Rattle.recalc_workers.specs.Laws.{TakesInOrder, FindsWhatWasPut, IsRefusedAtRoom, CountsHeld, FitsByNumbers, IsRefusedByMany}
use Rattle.recalc_workers.specs.Hands.{put_of, taken_of}
use Rattle.recalc_workers.proofs.HandLemmas.{counts}

-- the first of two lists that are equal
first_same : (a b : Job) (xs ys : List Job) → a ∷ xs ≡ b ∷ ys → a ≡ b
first_same a b xs ys e = some-injective a b (ap (λ l. get_elem? l 0) e)

pub takes_in_order : TakesInOrder
takes_in_order sizes h₀ h₁ h₂ h₃ a b job new sole one two taken =
    let none = two.taken ∙ (one.taken ∙ new.taken) in
    let both = two.put ∙ ap (λ l. l ++ b ∷ []) (one.put ∙ ap (λ l. l ++ a ∷ []) new.put) in
    let next = taken.next sole in
    let same = first_same job a next.0 (b ∷ []) (ap (λ l. l ++ job ∷ next.0) (sym none) ∙ (sym next.1 ∙ both)) in (
      same,
      taken.put ∙ both,
      taken.taken ∙ (ap (λ l. l ++ job ∷ []) none ∙ ap (λ (j : Job). j ∷ []) same),
      taken.refused ∙ (two.refused ∙ (one.refused ∙ new.refused)),
    )

pub finds_what_was_put : FindsWhatWasPut
finds_what_was_put sizes h₀ h₁ h₂ job new sole put none =
    let e = ap length (sym (put.put ∙ ap (λ l. l ++ job ∷ []) new.put) ∙ (none.all_taken sole ∙ (put.taken ∙ new.taken))) in omega arith

pub is_refused_at_room : IsRefusedAtRoom
is_refused_at_room sizes old new job sole nothing =
    let none = ap length nothing in (
      (λ refused. let full = refused.no_room sole in let same = ap length refused.put in omega arith),
      λ put. let room = put.room sole in let more = ap length put.put in omega (arith, length-append (put_of old) (job ∷ [])),
    )

pub counts_held : CountsHeld
counts_held sizes n hand sole h = counts (put_of hand) (taken_of hand) h.held n (h.accounts sole) h.counted

pub fits_by_numbers : FitsByNumbers
fits_by_numbers sizes job = search (rules, arith)

pub is_refused_by_many : IsRefusedByMany
is_refused_by_many sizes old new job refused = (
  refused.refused,
  refused.put,
  refused.taken,
  (
    refused.full.held,
    refused.full.counted,
    λ place other at. (fits_by_numbers sizes other).0 (refused.full.fit place other at),
  ),
)
