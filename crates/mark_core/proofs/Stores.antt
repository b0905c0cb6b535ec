-- One word is stored, and no other word changes.
use Rattle.std.proofs.Common.{◌≡◌, ◌≢◌, ℕ}
use Rattle.mark_core.specs.declared.words.Clean.{Clean}
use Rattle.mark_core.specs.Places.{Words}

-- one mark word is stored, and no other word changes
pub record StoresMark (before after : Words) (place number : ℕ) : Type 0 where
  pub stored : after.mark place ≡ number
  pub marks : (other : ℕ) → other ≢ place → after.mark other ≡ before.mark other
  pub cleans : (other : ℕ) → after.clean other ≡ before.clean other
  pub values : (other : ℕ) → after.value other ≡ before.value other

-- one clean word is stored, and no other word changes
pub record StoresClean (before after : Words) (place : ℕ) (clean : Clean) : Type 0 where
  pub stored : after.clean place ≡ clean
  pub marks : (other : ℕ) → after.mark other ≡ before.mark other
  pub cleans : (other : ℕ) → other ≢ place → after.clean other ≡ before.clean other
  pub values : (other : ℕ) → after.value other ≡ before.value other

-- one value is stored, and no other word changes
pub record StoresValue (before after : Words) (place word : ℕ) : Type 0 where
  pub stored : after.value place ≡ word
  pub marks : (other : ℕ) → after.mark other ≡ before.mark other
  pub cleans : (other : ℕ) → after.clean other ≡ before.clean other
  pub values : (other : ℕ) → other ≢ place → after.value other ≡ before.value other
