-- Pieces put one after the other: for loops over a sink, here and above.
use Rattle.std.proofs.Common.{◌≡◌, ℕ, ◌+◌, List, ◌++◌, length, take, sym, subst, arith, min}
use Rattle.std.proofs.KnownBytes.{Appends-nil, Appends-trans}
use Rattle.std.proofs.Math.Seq.{take-append-add, take-length}
use Rattle.std.proofs.lemmas.Grind.{common_steps}
use Rattle.std.specs.Io.KnownBytes.{Appends}
use Rattle.std.specs.declared.option.Option.{Option}
use Rattle.sheet_io.specs.Sink.{AppendsPrefix}

-- nothing was appended
pub prefix_none : (told : Option (List ℕ)) (bytes : List ℕ) → AppendsPrefix told told bytes
prefix_none told bytes = (0, Appends-nil told)

-- all was appended
pub prefix_all : (old new : Option (List ℕ)) (bytes : List ℕ) → Appends old new bytes → AppendsPrefix old new bytes
prefix_all old new bytes all = (length bytes, subst (Appends old new) (sym (take-length bytes)) all)

take_within : (xs ys : List ℕ) (n : ℕ) → take (min n (length xs)) (xs ++ ys) ≡ take n xs
take_within xs ys n = grind (arith, common_steps)

-- a whole piece was appended, and then a prefix of the next
pub prefix_after : (old now new : Option (List ℕ)) (done piece : List ℕ) → Appends old now done
    → AppendsPrefix now new piece → AppendsPrefix old new (done ++ piece)
prefix_after old now new done piece first part =
    (length done + part.0, subst (Appends old new) (sym (take-append-add done piece part.0)) (Appends-trans old now new done (take part.0 piece) first part.1))

-- what is a prefix of some bytes is one of these with more behind them
pub prefix_more : (old new : Option (List ℕ)) (bytes rest : List ℕ) → AppendsPrefix old new bytes → AppendsPrefix old new (bytes ++ rest)
prefix_more old new bytes rest part =
    (min part.0 (length bytes), subst (Appends old new) (sym (take_within bytes rest part.0)) part.1)
