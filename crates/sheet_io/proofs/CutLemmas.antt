-- Which puts a list of cuts cuts.
use Rattle.std.proofs.Common.{◌≡◌, ◌≢◌, ℕ, List, [], ◌∷◌, ◌++◌, All, None, Some, refl, arith}
use Rattle.std.proofs.lemmas.Bool.Decides.{nat_tests}
use Rattle.std.proofs.lemmas.List.Elements.{All-head, All-tail}
use Rattle.sheet_io.specs.Cuts.{cut_at}
use Rattle.sheet_io.specs.declared.cuts.Cut.{Cut}

pub uncut : (cuts : List Cut) (call : ℕ) → All (λ cut. cut.call ≢ call) cuts → cut_at cuts call ≡ None
uncut [] call others = refl
uncut (cut ∷ cuts) call others =
    let other : cut.call ≢ call = All-head (λ (c : Cut). c.call ≢ call) cut cuts others in
    let rest = uncut cuts call (All-tail (λ (c : Cut). c.call ≢ call) cut cuts others) in
    grind (arith, nat_tests, other, rest)

pub first : (cuts others : List Cut) (cut : Cut) → All (λ other. other.call ≢ cut.call) cuts → cut_at (cuts ++ cut ∷ others) cut.call ≡ Some cut.taken
first [] others cut before = grind (arith, nat_tests)
first (before ∷ cuts) others cut none =
    let other : before.call ≢ cut.call = All-head (λ (c : Cut). c.call ≢ cut.call) before cuts none in
    let rest = first cuts others cut (All-tail (λ (c : Cut). c.call ≢ cut.call) before cuts none) in
    grind (arith, nat_tests, other, rest)
