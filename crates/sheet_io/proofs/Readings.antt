-- A text read bit by bit.
use Rattle.std.proofs.Common.{◌≡◌, ℕ, ◌+◌, ◌≤◌, List, ◌++◌, length, take, length-append, arith}
use Rattle.std.proofs.KnownBytes.{Consumes-trans}
use Rattle.std.proofs.lemmas.List.{length-take}
use Rattle.std.specs.Io.KnownBytes.{Consumes}
use Rattle.std.specs.declared.option.Option.{Option}
use Rattle.sheet_io.specs.Shelf.{TakesAtMost}

-- a reader that had old left and now has less gave what a vector has gained, which leaves this much room
pub record IsRead (old now : Option (List ℕ)) (before into : List ℕ) (limit room : ℕ) : Type 0 where
  pub given : List ℕ
  pub split : into ≡ before ++ given
  pub count : length given + room ≡ limit
  pub left : Consumes old now given

-- one more read, which asks for at most one byte past the room
pub read_last : (old now new : Option (List ℕ)) (before into buffer : List ℕ) (limit room n : ℕ)
    → IsRead old now before into limit room → Consumes now new (take n buffer) → n ≤ room + 1
    → TakesAtMost old new (limit + 1)
read_last old now new before into buffer limit room n r more asks =
    let size = length-take n buffer in
    let total = length-append r.given (take n buffer) in
    (r.given ++ take n buffer, Consumes-trans old now new r.given (take n buffer) r.left more, omega (arith, size, total, r.count))
