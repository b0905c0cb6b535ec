-- All calls together by which a text is handed out.
use Rattle.std.proofs.Common.{◌≡◌, ℕ, zero, suc, Bool, true, false, not, List, [], ◌∷◌, ◌++◌, length, Some, slice_get, refl, sym, ◌∙◌, ap}
use Rattle.std.specs.List.{flat_map, list_any}
use Rattle.std.proofs.lemmas.List.{append-nil}
use Rattle.text_pieces.specs.Pieces.{Taker, Sends, HandsOut, Handing, AreCalls, ArePieces}
use Rattle.text_pieces.specs.Pieces.Sends.{nothing, stops, goes_on}

-- the call with a false answer, if there is one, is the last
abbrev EndsAtFalse : List Handing → Type 0
EndsAtFalse calls = (place : ℕ) (call : Handing) → slice_get calls place ≡ Some call → call.taken ≡ false → length calls ≡ suc place

ends_alone : (only : Handing) → EndsAtFalse (only ∷ [])
ends_alone only zero call here told = refl
ends_alone only (suc place) call here told = absurd (cc)

ends_later : (piece : List ℕ) (calls : List Handing) → EndsAtFalse calls → EndsAtFalse (record { piece = piece; taken = true } ∷ calls)
ends_later piece calls ends zero call here told = absurd (cc)
ends_later piece calls ends (suc place) call here told = ap suc (ends place call here told)

module _ {F : Type 0} (taker : Taker F) where
  record AreCallsOf (old : F) (sent : List ℕ) (told : Bool) (new : F) : Type 0 where
    calls : List Handing
    made : AreCalls taker old calls new
    joined : sent ≡ flat_map (λ call. call.piece) calls
    taken : told ≡ not (list_any (λ call. not call.taken) calls)
    last : EndsAtFalse calls

  calls_of : (old new : F) (sent : List ℕ) (told : Bool) → Sends taker old sent told new → AreCallsOf old sent told new
  calls_of _ _ _ _ (nothing f) = record { calls = []; made = refl; joined = refl; taken = refl; last = λ place call here told. absurd (cc) }
  calls_of _ _ _ _ (stops f last piece called) =
      let only : Handing = record { piece = piece; taken = false } in
      record { calls = only ∷ []; made = (last, called, refl); joined = sym (append-nil piece); taken = refl; last = ends_alone only }
  calls_of _ _ _ _ (goes_on f mid last text piece rest told parts called sends) =
      let more = calls_of mid last rest told sends in
      record {
        calls = record { piece = piece; taken = true } ∷ more.calls;
        made = (mid, called, more.made);
        joined = parts ∙ ap (λ t. piece ++ t) more.joined;
        taken = more.taken;
        last = ends_later piece more.calls more.last;
      }

  pub are_pieces : (old new : F) (text : List ℕ) (told : Bool) → HandsOut taker old text told new → ArePieces taker old text told new
  are_pieces old new text told hands =
      let calls = calls_of old new hands.sent told hands.sends in
      record {
        calls = calls.calls;
        left = hands.left;
        made = calls.made;
        begins = hands.begins ∙ ap (λ t. t ++ hands.left) calls.joined;
        whole = hands.whole;
        taken = calls.taken;
        last = calls.last;
      }
