-- Texts that are handed out in pieces, to a function that answers whether it takes more.
use Rattle.std.specs.Prelude.{◌≡◌, ℕ, suc, Bool, true, false, not, List, [], ◌∷◌, ◌++◌, length, slice_get, Some}
use Rattle.std.specs.List.{flat_map, list_any}
use Rattle.std.specs.Borrow.{Bor}
use Rattle.std.specs.Fn.{Mut, CalledAt}

-- such functions, by the states that their calls go from and to
abbrev pub Taker : Type 0 → Type 1
Taker F = Mut F (Bor (List ℕ) × Unit {0}) Bool

-- calls that hand out a text, piece by piece: each but the last was answered true, and the last was answered so; after a false none follows
pub data Sends {F : Type 0} (taker : Taker F) : F → List ℕ → Bool → F → Type 0 where
  nothing : (f : F) → Sends taker f [] true f
  stops : (f last : F) (piece : List ℕ) → CalledAt taker f piece false last → Sends taker f piece false last
  goes_on : (f mid last : F) (text piece rest : List ℕ) (told : Bool) → text ≡ piece ++ rest
      → CalledAt taker f piece true mid → Sends taker mid rest told last → Sends taker f text told last

-- calls that hand out a whole text, or a beginning of it up to the first false, which is then the answer
pub record HandsOut {F : Type 0} (taker : Taker F) (old : F) (text : List ℕ) (told : Bool) (new : F) : Type 0 where
  pub sent : List ℕ
  pub left : List ℕ
  pub sends : Sends taker old sent told new
  pub begins : text ≡ sent ++ left
  pub whole : told ≡ true → left ≡ []

-- a call with a piece, and whether it was answered that more is taken
pub record Handing : Type 0 where
  pub piece : List ℕ
  pub taken : Bool

-- calls, one after the other, from one state of the taker to another
abbrev pub AreCalls : {F : Type 0} → Taker F → F → List Handing → F → Type 0
AreCalls taker old [] new = old ≡ new
AreCalls {F = F} taker old (call ∷ calls) new = (mid : F) × CalledAt taker old call.piece call.taken mid × AreCalls taker mid calls new

-- by all calls together the pieces that join to a text were handed out, or to its beginning where some call was answered false, which then was the last one
pub record ArePieces {F : Type 0} (taker : Taker F) (old : F) (text : List ℕ) (told : Bool) (new : F) : Type 0 where
  pub calls : List Handing
  pub left : List ℕ
  pub made : AreCalls taker old calls new
  pub begins : text ≡ flat_map (λ call. call.piece) calls ++ left
  pub whole : told ≡ true → left ≡ []
  pub taken : told ≡ not (list_any (λ call. not call.taken) calls)
  pub last : (place : ℕ) (call : Handing) → slice_get calls place ≡ Some call → call.taken ≡ false → length calls ≡ suc place

-- whatever is handed out to such a taker, is handed out by such calls
abbrev pub AreHandedOutInPieces : {F : Type 0} → Taker F → Type 0
AreHandedOutInPieces {F = F} taker =
    (old new : F) (text : List ℕ) (told : Bool) → HandsOut taker old text told new → ArePieces taker old text told new
