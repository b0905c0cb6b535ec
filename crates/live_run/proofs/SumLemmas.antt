-- Sums over clients, of what lists have of each.
use Rattle.std.proofs.Common.{◌≡◌, ◌<◌, ◌≤◌, ◌+◌, ⊎_elim, ℕ, zero, suc, List, [], ◌∷◌, length, slice_get, Some, refl, sym, ap, subst, arith}
use Rattle.std.proofs.lemmas.Bool.{cases_eq}
use Rattle.std.proofs.lemmas.Option.{none-some, same_Some}
use Rattle.live_run.specs.Legal.{edits_asked}
use Rattle.live_run.specs.Parts.{edits_of}
use Rattle.live_run.specs.declared.part.Part.{Part}

-- the sum of what the clients with numbers below this one have
abbrev pub total : (ℕ → ℕ) → ℕ → ℕ
total f zero = 0
total f (suc n) = total f n + f n

pub total_none : (f : ℕ → ℕ) (n : ℕ) → ((i : ℕ) → f i ≡ 0) → total f n ≡ 0
total_none f zero none = refl
total_none f (suc n) none = omega (arith, total_none f n none, none n)

-- where one client has something more, and the others what they had, so it is with the sum of those below it and with all
pub total_more : (f more : ℕ → ℕ) (client extra : ℕ) (n : ℕ) → ((i : ℕ) → i ≡ client → more i ≡ f i + extra) → ((i : ℕ) → (i ≡ client → ⊥) → more i ≡ f i)
    → (client < n → total more n ≡ total f n + extra) × (n ≤ client → total more n ≡ total f n)
total_more f more client extra zero own other = (λ below. absurd (omega (arith, below)), λ above. refl)
total_more f more client extra (suc n) own other =
    let rest = total_more f more client extra n own other in
    ⊎_elim
    (λ (is : n ≡ client). (
      λ below. omega (arith, own n is, rest.1 (omega (arith, is))),
      λ above. absurd (omega (arith, is, above)),
    ))
    (λ not. (
      λ below. omega (arith, other n not, rest.0 (omega (arith, below, not))),
      λ above. omega (arith, other n not, rest.1 (omega (arith, above))),
    ))
    (cases_eq n client)

module _ (f : ℕ → ℕ) where
  -- each part, of the clients from this one on, asks for at least as many edits
  abbrev AskForAll : ℕ → List Part → Type 0
  AskForAll first parts = (i : ℕ) (part : Part) → slice_get parts i ≡ Some part → f (first + i) ≤ length (edits_asked part.commands.items)

  -- or for at most as many
  abbrev AskForNoMore : ℕ → List Part → Type 0
  AskForNoMore first parts = (i : ℕ) (part : Part) → slice_get parts i ≡ Some part → length (edits_asked part.commands.items) ≤ f (first + i)

  along : (first : ℕ) (part : Part) (parts : List Part) → total f (first + length (part ∷ parts)) ≡ total f (suc first + length parts)
  along first part parts = ap (total f) (omega arith)

  at_first : (first : ℕ) → f (first + 0) ≡ f first
  at_first first = ap f (omega arith)

  later : (first i : ℕ) → f (first + suc i) ≡ f (suc first + i)
  later first i = ap f (omega arith)

  no_more_than : (first : ℕ) (parts : List Part) → AskForAll first parts → total f (first + length parts) ≤ total f first + edits_of parts
  no_more_than first [] all = let none : total f (first + 0) ≡ total f first = ap (total f) (omega arith) in omega (arith, none)
  no_more_than first (part ∷ parts) all =
      let rest = no_more_than (suc first) parts (λ i p at. let one = all (suc i) p at in omega (arith, one, later first i)) in
      omega (arith, along first part parts, rest, all 0 part refl, at_first first)

  fewer_than : (first : ℕ) (parts : List Part) (k : ℕ) (short : Part) → AskForAll first parts
      → slice_get parts k ≡ Some short → f (first + k) < length (edits_asked short.commands.items)
      → total f (first + length parts) < total f first + edits_of parts
  fewer_than first [] k short all at fewer = absurd (none-some short at)
  fewer_than first (part ∷ parts) zero short all at fewer =
      let rest = no_more_than (suc first) parts (λ i p there. let one = all (suc i) p there in omega (arith, one, later first i)) in
      let head : f (first + 0) < length (edits_asked part.commands.items) =
      subst (λ (p : Part). f (first + 0) < length (edits_asked p.commands.items)) (sym (same_Some part short at))
      fewer in
      omega (arith, along first part parts, rest, head, at_first first)
  fewer_than first (part ∷ parts) (suc k) short all at fewer =
      let rest = fewer_than (suc first) parts k short (λ i p there. let one = all (suc i) p there in
      omega (arith, one, later first i)) at (omega (arith, fewer, later first k)) in
      omega (arith, along first part parts, rest, all 0 part refl, at_first first)

  no_less_than : (first : ℕ) (parts : List Part) → AskForNoMore first parts → total f first + edits_of parts ≤ total f (first + length parts)
  no_less_than first [] all = let none : total f (first + 0) ≡ total f first = ap (total f) (omega arith) in omega (arith, none)
  no_less_than first (part ∷ parts) all =
      let rest = no_less_than (suc first) parts (λ i p at. let one = all (suc i) p at in omega (arith, one, later first i)) in
      omega (arith, along first part parts, rest, all 0 part refl, at_first first)

  at_zero : (i : ℕ) → f (0 + i) ≡ f i
  at_zero i = ap f (omega arith)

  up_to : (n : ℕ) → total f (0 + n) ≡ total f n
  up_to n = ap (total f) (omega arith)

  -- Where the parts of all clients ask for at least as many edits as each client has, and one of them asks for more, they
  -- ask for more together.
  pub fewer_in_all : (parts : List Part) (k : ℕ) (short : Part) → ((i : ℕ) (part : Part) → slice_get parts i ≡ Some part
      → f i ≤ length (edits_asked part.commands.items))
      → slice_get parts k ≡ Some short → f k < length (edits_asked short.commands.items) → total f (length parts) < edits_of parts
  fewer_in_all parts k short all at fewer =
      let less = fewer_than 0 parts k short (λ i p there. let one = all i p there in omega (arith, one, at_zero i)) at (omega (arith, fewer, at_zero k)) in
      omega (arith, less, up_to (length parts))

  -- where each asks for at most as many, so do all together
  pub no_more_in_all : (parts : List Part) → ((i : ℕ) (part : Part) → slice_get parts i ≡ Some part
      → length (edits_asked part.commands.items) ≤ f i) → edits_of parts ≤ total f (length parts)
  no_more_in_all parts all =
      let most = no_less_than 0 parts (λ i p there. let one = all i p there in omega (arith, one, at_zero i)) in
      omega (arith, most, up_to (length parts))
