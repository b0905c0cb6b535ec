-- What a buffer before a sink holds, and what it has put.
use Rattle.std.specs.Prelude.{◌≡◌, ℕ, ◌*◌, ◌≤◌, Bool, IsTrue, List, ◌++◌, length, Some, Vec, vec_capacity}
use Rattle.std.specs.Io.KnownBytes.{Appends}
use Rattle.std.specs.declared.alloc.Global.{Global}
use Rattle.std.specs.declared.option.Option.{Option}
use Rattle.sheet_io.specs.Faults.{Rose}
use Rattle.sheet_io.specs.Sink.{AppendsPrefix}

-- a vector holds no more than a full buffer, and has the memory of one
pub record HasRoom (bytes : Vec ℕ Global) : Type 0 where
  pub within : length bytes.items ≤ 65536
  pub reserved : 65536 ≤ vec_capacity bytes

-- of some bytes the front was put, in full buffers, and the rest is held
pub record HasPassed (old new : Option (List ℕ)) (bytes held : List ℕ) : Type 0 where
  pub put : List ℕ
  pub buffers : ℕ
  pub split : bytes ≡ put ++ held
  pub appends : Appends old new put
  pub full : length put ≡ buffers * 65536

-- bytes came to a buffer before a sink whose faults went from a number to another: where all were taken they have passed, and else a
-- prefix of them was put and a fault rose
pub record Passes (old new : Option (List ℕ)) (before after : ℕ) (bytes held : List ℕ) (taken : Bool) : Type 0 where
  pub passed : IsTrue taken → HasPassed old new bytes held
  pub cut : ¬ IsTrue taken → AppendsPrefix old new bytes
  pub cause : ¬ IsTrue taken → Rose before after
  pub counted : before ≤ after

-- what a sink that tells has gained, and then what is held, are the bytes
abbrev pub NothingIsLost : Type 0
NothingIsLost =
    (front after bytes held : List ℕ) → HasPassed (Some front) (Some after) bytes held
    → after ++ held ≡ front ++ bytes

-- it has gained full buffers
abbrev pub PutIsInFullBuffers : Type 0
PutIsInFullBuffers =
    (front after bytes held : List ℕ) → HasPassed (Some front) (Some after) bytes held
    → (put : List ℕ) × (buffers : ℕ) × (after ≡ front ++ put) × (length put ≡ buffers * 65536)
