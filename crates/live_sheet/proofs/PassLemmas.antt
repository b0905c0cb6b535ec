-- Lists of new passes and of new desks.
use Rattle.std.proofs.Common.{◌≡◌, ◌+◌, ℕ, List, [], ◌∷◌, ◌++◌, length, sym, ◌∙◌, ap, subst, inl, inr, arith, length-append}
use Rattle.std.specs.Prelude.{slice_get}
use Rattle.sheet_model.proofs.ListLemmas.{slice_get-pushed}
use Rattle.live_sheet.specs.declared.naming.Naming.{Ghosts}
use Rattle.live_sheet.specs.declared.pass.Pass.{Pass}
use Rattle.live_sheet.specs.Opened.{IsNewPass, AreNewPasses}

pub new_pass_more : {N : Type 0} {G : Ghosts N} (clients : ℕ) (passes : List (Pass N G)) (pass : Pass N G) (more : List (Pass N G)) → more ≡ passes ++ pass ∷ []
    → AreNewPasses clients passes → IsNewPass clients pass → AreNewPasses (clients + 1) more
new_pass_more clients passes pass more pushed are new =
    record {
      count = omega (arith, ap length pushed, length-append passes (pass ∷ []), are.count);
      each = λ client other stands.
          elim (slice_get-pushed passes pass client other (ap (λ l. slice_get l client) (sym pushed) ∙ stands)) [
            | inl before ↦ are.each client other before
            | inr last ↦ subst (λ p. IsNewPass client p) last.1 (subst (λ n. IsNewPass n pass) (sym (last.0 ∙ are.count)) new)
          ];
    }
