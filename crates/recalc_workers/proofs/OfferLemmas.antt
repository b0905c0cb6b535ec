-- Offers of jobs, one after the other, and the refusal of all that are left.
use Rattle.std.proofs.Common.{◌≡◌, inr, ℕ, ◌<◌, List, [], ◌∷◌, ◌++◌, length, map, take, drop, refl, sym, ◌∙◌, subst, append_assoc, arith}
use Rattle.std.proofs.lemmas.List.{length-drop, take-append-drop}
use Rattle.std.specs.Prelude.{◌⊎◌}
use Rattle.sheet_refs.specs.Cells.{Position}
use Rattle.sheet_refs.specs.declared.sizes.Sizes.{Sizes}
use Rattle.recalc_workers.specs.declared.hands.Hand.{Hand}
use Rattle.recalc_workers.specs.declared.job.Job.{Job}
use Rattle.recalc_workers.specs.Hands.{put_of, refused_of, taken_of, is_sole, HasPut, HasRefused, HasFoundFull}
use Rattle.recalc_workers.specs.Noted.{new_job}
use Rattle.recalc_workers.specs.Offers.{AreOffered}
use Rattle.recalc_workers.proofs.HandLemmas.{found_still, has_refused}

-- one offer more
pub offered_more : (sizes : Sizes) (a b c : Hand) (cells : List Position) (cell : Position) → AreOffered sizes a cells b
    → HasPut b c (new_job cell) ⊎ HasRefused sizes b c (new_job cell) → AreOffered sizes a (cells ++ cell ∷ []) c
offered_more sizes a b c [] cell are one =
    (c, subst (λ (h : Hand). HasPut h c (new_job cell) ⊎ HasRefused sizes h c (new_job cell)) are one, refl)
offered_more sizes a b c (first ∷ cells) cell are one = (are.0, are.1, offered_more sizes are.0 b c cells cell are.2 one)

-- some offers, and then others
pub offered_both : (sizes : Sizes) (a b c : Hand) (first second : List Position) → AreOffered sizes a first b → AreOffered sizes b second c
    → AreOffered sizes a (first ++ second) c
offered_both sizes a b c [] second are others = subst (λ (h : Hand). AreOffered sizes h second c) are others
offered_both sizes a b c (cell ∷ first) second are others = (are.0, are.1, offered_both sizes are.0 b c first second are.2 others)

-- the hand, had it been refused these jobs
abbrev with_refused : Hand → List Job → Hand
with_refused hand jobs = record {
  pass = hand.pass;
  slot = hand.slot;
  note = record hand.note { me = (record hand.note.me.0 { client = jobs }, hand.note.me.1) };
  noting = hand.noting;
}

refused_from : (sizes : Sizes) (old full new : Hand) (cell : Position) (cells : List Position) → HasFoundFull sizes old full
    → is_sole full ≡ is_sole old → put_of new ≡ put_of full → taken_of new ≡ taken_of full
    → refused_of new ≡ refused_of full ++ map new_job (cell ∷ cells) → AreOffered sizes old (cell ∷ cells) new
refused_from sizes old full new cell [] found sole put taken noted =
    (new, inr (has_refused sizes old full new (new_job cell) found put taken noted), refl)
refused_from sizes old full new cell (next ∷ cells) found sole put taken noted =
    let between = with_refused full (refused_of full ++ new_job cell ∷ []) in (
      between,
      inr (has_refused sizes old full between (new_job cell) found refl refl refl),
      refused_from sizes between between new next cells
          (found_still sizes old full between found sole found.same.put found.same.taken) refl put taken
          (noted ∙ sym (append_assoc (refused_of full) (new_job cell ∷ []) (map new_job (next ∷ cells)))),
    )

-- a queue that was found full refuses all that are left
pub refused_rest : (sizes : Sizes) (old full new : Hand) (cells : List Position) → 0 < length cells → HasFoundFull sizes old full
    → is_sole full ≡ is_sole old → put_of new ≡ put_of full → taken_of new ≡ taken_of full
    → refused_of new ≡ refused_of full ++ map new_job cells → AreOffered sizes old cells new
refused_rest sizes old full new [] some found sole put taken noted = absurd (omega (arith, some))
refused_rest sizes old full new (cell ∷ cells) some found sole put taken noted =
    refused_from sizes old full new cell cells found sole put taken noted

-- some jobs were offered, and then the queue was found full: it refuses the rest
pub refused_after : (sizes : Sizes) (a old full new : Hand) (cells : List Position) (k : ℕ) → k < length cells → AreOffered sizes a (take k cells) old
    → HasFoundFull sizes old full → is_sole full ≡ is_sole old → put_of new ≡ put_of full → taken_of new ≡ taken_of full
    → refused_of new ≡ refused_of full ++ map new_job (drop k cells) → AreOffered sizes a cells new
refused_after sizes a old full new cells k below offered found sole put taken noted =
    let left = length-drop k cells in
    subst (λ (all : List Position). AreOffered sizes a all new) (take-append-drop k cells)
    (offered_both sizes a old new (take k cells) (drop k cells) offered
    (refused_rest sizes old full new (drop k cells) (omega (arith, below, left)) found sole put taken noted))
