-- A piece written bit by bit.
use Rattle.std.proofs.Common.{◌≡◌, ℕ, ◌-◌, List, ◌++◌, length, take, drop, None, Some, sym, ap, ◌∙◌, subst, append_assoc, take-append-drop, arith}
use Rattle.std.proofs.KnownBytes.{Appends-trans, Keeps-refl}
use Rattle.std.proofs.lemmas.Grind.{common_steps}
use Rattle.std.specs.Io.KnownBytes.{Appends, Keeps}
use Rattle.std.specs.declared.option.Option.{Option}
use Rattle.sheet_io.specs.Sink.{AppendsPrefix}
use Rattle.sheet_io.proofs.Prefixes.{prefix_all, prefix_more}

-- a writer that held old and holds now has taken these bytes but for the rest
pub record IsWritten (old now : Option (List ℕ)) (bytes rest : List ℕ) : Type 0 where
  pub done : List ℕ
  pub split : bytes ≡ done ++ rest
  pub taken : Appends old now done

-- a write took the first n bytes of the rest
pub written_more : (old now new : Option (List ℕ)) (bytes rest : List ℕ) (n : ℕ) → IsWritten old now bytes rest
    → Appends now new (take n rest) → IsWritten old new bytes (drop n rest)
written_more old now new bytes rest n w more = record {
  done = w.done ++ take n rest;
  split = w.split ∙ ap (λ l. w.done ++ l) (sym (take-append-drop n rest)) ∙ sym (append_assoc w.done (take n rest) (drop n rest));
  taken = Appends-trans old now new w.done (take n rest) w.taken more;
}

appends_kept : (old now new : Option (List ℕ)) (bytes : List ℕ) → Appends old now bytes → Keeps now new → Appends old new bytes
appends_kept None now new bytes p q = tt
appends_kept (Some xs) None new bytes p q = absurd p
appends_kept (Some xs) (Some ys) None bytes p q = absurd q
appends_kept (Some xs) (Some ys) (Some zs) bytes p q = q ∙ p

-- a call failed, which keeps what was written
pub written_part : (old now new : Option (List ℕ)) (bytes rest : List ℕ) → IsWritten old now bytes rest → Keeps now new → AppendsPrefix old new bytes
written_part old now new bytes rest w kept =
    subst (AppendsPrefix old new) (sym w.split) (prefix_more old new w.done rest (prefix_all old new w.done (appends_kept old now new w.done w.taken kept)))

-- a write took the first n bytes of the rest, and then the call gave up
pub written_last : (old now new : Option (List ℕ)) (bytes rest : List ℕ) (n : ℕ) → IsWritten old now bytes rest
    → Appends now new (take n rest) → AppendsPrefix old new bytes
written_last old now new bytes rest n w more =
    written_part old new new bytes (drop n rest) (written_more old now new bytes rest n w more) (Keeps-refl new)

-- what the code takes for the rest after n bytes
pub rest_after : (rest : List ℕ) (n : ℕ) → take (length rest - n) (drop n rest) ≡ drop n rest
rest_after rest n = grind (arith, common_steps)
