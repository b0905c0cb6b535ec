use Rattle.std.proofs.Common.{◌≡◌, ℕ, zero, suc, List, [], ◌∷◌, ◌++◌, Some, length, sym, ◌∙◌, ap}
use Rattle.std.specs.List.{slice_get}
use Rattle.live_sheet.specs.Passes.{client_of}
use Rattle.live_trial.proofs.undoing.closes_and_undoes.Goals as goal

-- one element is no two
no_two : {P : Type 0} (before others : List P) (x y : P) → length before ≡ 1 → before ≡ x ∷ y ∷ others → ⊥
no_two before others x y one was = let long : length before ≡ suc (suc (length others)) = ap length was in cc

-- the one pass of a list is put back for another one of the same client
one_pass : {P : Type 0} (of : P → ℕ) (before after rest : List P) (popped made : P) → length before ≡ 1 → before ≡ rest
    ++ popped ∷ [] → after ≡ rest ++ made ∷ []
    → of made ≡ of popped → ((k : ℕ) (p : P) → slice_get before k ≡ Some p → of p ≡ k) → (k : ℕ) (p : P) → slice_get after k ≡ Some p → of p ≡ k
one_pass of before after [] popped made one was is same each zero p at =
    let here : Some made ≡ Some p = sym (ap (λ xs. slice_get xs 0) is) ∙ at in
    let made_is : made ≡ p = cc in
    sym (ap of made_is) ∙ same ∙ each 0 popped (ap (λ xs. slice_get xs 0) was)
one_pass of before after [] popped made one was is same each (suc k) p at =
    let none : slice_get (made ∷ []) (suc k) ≡ Some p = sym (ap (λ xs. slice_get xs (suc k)) is) ∙ at in absurd (cc)
one_pass of before after (x ∷ []) popped made one was is same each k p at = absurd (no_two before [] x popped one was)
one_pass of before after (x ∷ y ∷ rest) popped made one was is same each k p at = absurd (no_two before (rest ++ popped ∷ []) x y one was)

pub close-requires-clause-order : goal.close-requires-clause-order
close-requires-clause-order g c κs within = λ client pass at.
    one_pass client_of c.in_ok-live.field-0.passes.items c.push.new.self.items c.pop.new.self.items c.in-Some.pass c.edit-2.new.pass
    (c.in_ok-live.ensures.passes.count ∙ c.requires.alone) c.in-Some.ensures.items c.in_ok-push.ensures.items
    (c.in_ok-edit-2.ensures ∙ c.in_ok-edit.ensures) (λ k p stands. (c.in_ok-live.ensures.passes.each k p stands).whose) client pass at
