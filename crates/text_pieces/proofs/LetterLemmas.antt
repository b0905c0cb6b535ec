-- The letters of a column, the last one apart.
use Rattle.std.proofs.Common.{◌≡◌, ◌≢◌, ℕ, zero, suc, ◌+◌, ◌-◌, ◌/◌, ◌%◌, Bool, [], ◌∷◌, ◌++◌, refl, ap, arith}
use Rattle.std.specs.Prelude.{if◌then◌else◌}
use Rattle.std.proofs.lemmas.Bool.{ne_eqb}
use Rattle.sheet_refs.specs.Names.{last_letters}

pub no_room : (most column : ℕ) → most ≡ 0 → last_letters most column ≡ []
no_room zero column is = refl
no_room (suc more) column is = absurd (omega (arith, is))

pub no_column : (most column : ℕ) → column ≡ 0 → last_letters most column ≡ []
no_column zero column is = refl
no_column (suc more) column is = rw is refl

pub last_letter : (most column : ℕ) → most ≢ 0 → column ≢ 0
    → last_letters most column ≡ last_letters (most - 1) ((column - 1) / 26) ++ (65 + (column - 1) % 26) ∷ []
last_letter zero column some named = absurd (some refl)
last_letter (suc more) column some named =
    let less : suc more - 1 ≡ more = omega arith in
    rw less (ap (λ (t : Bool). if t then [] else last_letters more ((column - 1) / 26) ++ (65 + (column - 1) % 26) ∷ []) (ne_eqb column 0 named))
