use Rattle.std.proofs.Common.{rules, ◌≡◌, ℕ, zero, suc, List, [], ◌∷◌, ◌++◌, Some, None, IfOk, length, sym, ◌∙◌, ap, subst, get_or, set}
use Rattle.std.proofs.Common.{slice_get, arith, length-append, length-set}
use Rattle.std.specs.Option.{option_to_list}
use Rattle.live_sheet.specs.Passes.{client_of}
use Rattle.live_example.proofs.share.Goals as goal

-- of two elements each is of its place
at_its_place : {P : Type 0} (of : P → ℕ) (a b p : P) → of a ≡ 0 → of b ≡ 1 → (k : ℕ) → slice_get (a ∷ b ∷ []) k ≡ Some p → of p ≡ k
at_its_place of a b p first second zero at = let is : a ≡ p = cc in sym (ap of is) ∙ first
at_its_place of a b p first second (suc zero) at = let is : b ≡ p = cc in sym (ap of is) ∙ second
at_its_place of a b p first second (suc (suc k)) at = let none : None ≡ Some p = at in absurd (cc)

-- two elements are taken off a list of two, others of the same are put on it, and the second one is changed for another of the same
two_places : {P : Type 0} (of : P → ℕ) (all one rest more both : List P) (ann bob after later before last : P)
    → length all ≡ 2 → all ≡ one ++ bob ∷ [] → one ≡ rest ++ ann ∷ [] → more ≡ rest ++ after ∷ [] → both ≡ more ++ later ∷ []
    → before ≡ get_or both 1 before → of after ≡ of ann → of later ≡ of bob → of last ≡ of before
    → ((k : ℕ) (p : P) → slice_get all k ≡ Some p → of p ≡ k) → (k : ℕ) (p : P) → slice_get (set both 1 last) k ≡ Some p → of p ≡ k
two_places of all one [] more both ann bob after later before last two whole less again full was first second third each k p at =
    let begin : all ≡ ann ∷ bob ∷ [] = whole ∙ ap (λ l. l ++ bob ∷ []) less in
    let end : both ≡ after ∷ later ∷ [] = full ∙ ap (λ l. l ++ later ∷ []) again in
    let ann_is : of ann ≡ 0 = each 0 ann (ap (λ l. slice_get l 0) begin) in
    let bob_is : of bob ≡ 1 = each 1 bob (ap (λ l. slice_get l 1) begin) in
    let before_is : before ≡ later = was ∙ ap (λ l. get_or l 1 before) end in
    let last_is : of last ≡ 1 = third ∙ ap of before_is ∙ second ∙ bob_is in
    at_its_place of after last p (first ∙ ann_is) last_is k (sym (ap (λ l. slice_get (set l 1 last) k) end) ∙ at)
two_places of all one (x ∷ rest) more both ann bob after later before last two whole less again full was first second third each k p at =
    let long = ap length whole ∙ length-append one (bob ∷ []) in
    let longer = ap length less ∙ length-append (x ∷ rest) (ann ∷ []) in
    absurd (omega (arith, long, longer, two))

-- how many there are then
two_left : {P : Type 0} (all one rest more both : List P) (ann bob after later last : P)
    → all ≡ one ++ bob ∷ [] → one ≡ rest ++ ann ∷ [] → more ≡ rest ++ after ∷ [] → both ≡ more ++ later ∷ [] → length (set both 1 last) ≡ length all
two_left all one rest more both ann bob after later last whole less again full =
    let l1 = ap length whole ∙ length-append one (bob ∷ []) in
    let l2 = ap length less ∙ length-append rest (ann ∷ []) in
    let l3 = ap length again ∙ length-append rest (after ∷ []) in
    let l4 = ap length full ∙ length-append more (later ∷ []) in
    let l5 = length-set both 1 last in
    omega (arith, l1, l2, l3, l4, l5)

pub close-closed-requires-clause-clients : goal.close-closed-requires-clause-clients
close-closed-requires-clause-clients g c κs within =
    let all = c.in_ok-opened.opened.passes.items in
    let one = c.pop.new.self.items in
    let rest = c.pop-2.new.self.items in
    two_left all one rest c.push.new.self.items c.push-2.new.self.items c.in_ok-ann.ann c.in_ok-bob.bob c.in_ok-ann-2.field-0 c.in_ok-bob-2.field-0
    c.firm.new.pass
    (c.pop.ensures.items ∙ ap (λ o. one ++ option_to_list o) c.in_ok-bob.ensures.ok_part)
    (c.pop-2.ensures.items ∙ ap (λ o. rest ++ option_to_list o) c.in_ok-ann.ensures.ok_part)
    c.in_ok-push.ensures.items c.in_ok-push-2.ensures.items ∙ c.in_ok-opened.ensures.passes.count

pub close-closed-requires-clause-order : goal.close-closed-requires-clause-order
close-closed-requires-clause-order g c κs within =
    let all = c.in_ok-opened.opened.passes.items in
    let one = c.pop.new.self.items in
    let rest = c.pop-2.new.self.items in
    let ann : IfOk c.join-ann.result.1.0 (λ after. client_of after ≡ client_of c.in_ok-ann.ann) = search rules in
    let bob : IfOk c.join-ann.result.1.1 (λ after. client_of after ≡ client_of c.in_ok-bob.bob) = search rules in
    two_places client_of all one rest c.push.new.self.items c.push-2.new.self.items c.in_ok-ann.ann c.in_ok-bob.bob c.in_ok-ann-2.field-0
    c.in_ok-bob-2.field-0 c.index_mut.result.now c.firm.new.pass (c.in_ok-opened.ensures.passes.count ∙ c.requires.two.0)
    (c.pop.ensures.items ∙ ap (λ o. one ++ option_to_list o) c.in_ok-bob.ensures.ok_part)
    (c.pop-2.ensures.items ∙ ap (λ o. rest ++ option_to_list o) c.in_ok-ann.ensures.ok_part)
    c.in_ok-push.ensures.items c.in_ok-push-2.ensures.items c.index_mut.ensures.value
    (subst (λ r. IfOk r (λ after. client_of after ≡ client_of c.in_ok-ann.ann)) c.in_ok-ann-2.was ann)
    (subst (λ r. IfOk r (λ after. client_of after ≡ client_of c.in_ok-bob.bob)) c.in_ok-bob-2.was bob)
    c.firm.ensures.keeps.office.client (λ k p stands. (c.in_ok-opened.ensures.passes.each k p stands).whose)

pub invariant_of-bob-in_err-desk-clause-live : goal.invariant_of-bob-in_err-desk-clause-live
invariant_of-bob-in_err-desk-clause-live c = λ c'. search rules
