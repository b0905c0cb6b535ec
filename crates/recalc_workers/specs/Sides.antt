-- What calls at each place of a list leave.
use Rattle.std.specs.Prelude.{◌≡◌, ℕ, List, length}
use Rattle.std.specs.Fork.{ChangesAt, ChangesEach}
use denote.Ref.{MutBor}
use denote.Param.Members.{Shared}

-- a call of f with this number left this of that
pub record LeavesAt {F T : Type 0} (g : Shared F (ℕ × (MutBor T × Unit {0})) ((Unit {0}) × (MutBor T × Unit {0}))) (f : F)
    (place : ℕ) (old new : T) : Type 0 where
  pub call : ChangesAt g f place old new

-- there are as many as before, and each element is what a call of f left at its place
pub record ChangesAll {F T : Type 0} (g : Shared F (ℕ × (MutBor T × Unit {0})) ((Unit {0}) × (MutBor T × Unit {0}))) (f : F) (old new : List T) : Type 0 where
  pub count : length new ≡ length old
  pub each : ChangesEach g f old new
