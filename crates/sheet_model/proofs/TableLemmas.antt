-- Tables of labels that many fields are read into.
use Rattle.std.proofs.Common.{◌≡◌, ℕ, ◌+◌, ◌≤◌, List, [], ◌∷◌, ◌++◌, length, refl, sym, ap, subst, ◌∙◌, arith}
use Rattle.sheet_model.specs.Fields.{IsTableAfter}
use Rattle.sheet_model.specs.Fields.IsTableAfter.{label, other}
use Rattle.sheet_model.proofs.LabelLemmas.{length-with_label}
use Rattle.sheet_model.specs.Tables.{AddsLabels}
use Rattle.sheet_model.specs.Tables.AddsLabels.{done, next}

-- one text more is read
pub adds_one_more : (texts : List (List ℕ)) (text : List ℕ) (old between new : List (List ℕ))
    → AddsLabels texts old between → IsTableAfter text between new → AddsLabels (texts ++ text ∷ []) old new
adds_one_more _ text old between new (done texts _ _ none same) after =
    let first : IsTableAfter text old new = subst (λ t. IsTableAfter text t new) same after in
    next (texts ++ text ∷ []) text [] old new new (ap (λ t. t ++ text ∷ []) none) first (done [] new new refl refl)
adds_one_more _ text old between new (next texts first rest _ middle _ split after_first after_rest) after =
    next (texts ++ text ∷ []) first (rest ++ text ∷ []) old middle new (ap (λ t. t ++ text ∷ []) split) after_first
    (adds_one_more rest text middle between new after_rest after)

-- a text does one thing to a table
one_table : (text : List ℕ) (old a b : List (List ℕ)) → IsTableAfter text old a → IsTableAfter text old b → a ≡ b
one_table text _ a b (label _ old _ field e) (label _ _ _ field' d) = e ∙ sym d
one_table text _ a b (label _ old _ field e) (other _ _ _ none d) = absurd (none field)
one_table text _ a b (other _ old _ none e) (label _ _ _ field d) = absurd (none field)
one_table text _ a b (other _ old _ none e) (other _ _ _ none' d) = e ∙ sym d

nil_cons : (texts rest : List (List ℕ)) (text : List ℕ) → texts ≡ [] → texts ≡ text ∷ rest → ⊥
nil_cons texts rest text none some = cc

-- texts do one thing to a table
pub adds_one : (texts old a b : List (List ℕ)) → AddsLabels texts old a → AddsLabels texts old b → a ≡ b
adds_one _ _ a b (done texts old _ none e) (done _ _ _ none' d) = e ∙ sym d
adds_one _ _ a b (done texts old _ none e) (next _ text rest _ between _ split after more) = absurd (nil_cons texts rest text none split)
adds_one _ _ a b (next texts text rest old between _ split after more) (done _ _ _ none d) = absurd (nil_cons texts rest text none split)
adds_one _ _ a b (next texts text rest old between _ split after more) (next _ text' rest' _ between' _ split' after' more') =
    let first : text' ≡ text = cc in
    let others : rest' ≡ rest = cc in
    let same : between' ≡ between = one_table text old between' between (subst (λ t. IsTableAfter t old between') first after') after in
    let more_too : AddsLabels rest between b = subst (λ t. AddsLabels t between b) others (subst (λ t. AddsLabels rest' t b) same more') in
    adds_one rest between a b more more_too

pub one_more : (text : List ℕ) (old new : List (List ℕ)) → IsTableAfter text old new → length new ≤ length old + 1
one_more text _ _ (label _ old new field e) = let g = length-with_label old text in let most = g.1 in rw e most
one_more text _ _ (other _ old new none e) = rw e (omega arith)

-- a table grows by at most one text for each that is read
pub adds_few : (texts old new : List (List ℕ)) → AddsLabels texts old new → length new ≤ length old + length texts
adds_few _ _ _ (done texts old new none e) = rw e (omega arith)
adds_few _ _ _ (next texts text rest old between new split after more) =
    let rest_few = adds_few rest between new more in
    let one = one_more text old between after in
    rw split (omega (arith, rest_few, one))
