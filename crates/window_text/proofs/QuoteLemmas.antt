-- Texts with each quote doubled.
use Rattle.std.proofs.Common.{◌≡◌, ℕ, false, List, [], ◌∷◌, ◌++◌, refl, sym, ◌∙◌, ap, ap₂, All, append_assoc, take, drop, length, ◌<◌, ◌-◌, arith, zero, suc}
use Rattle.std.specs.Prelude.{Some, slice_get, flat_map, if◌then◌else◌, ◌==◌}
use Rattle.std.proofs.lemmas.Bool.{ne_eqb}
use Rattle.std.proofs.lemmas.List.{take_all}

abbrev pub with_double_quotes : List ℕ → List ℕ
with_double_quotes text = flat_map (λ byte. if byte == 34 then (34 ∷ 34 ∷ []) else (byte ∷ [])) text

-- a text without quotes stays
pub double_quotes_clean : (text : List ℕ) → All (λ b. b ≡ 34 → ⊥) text → with_double_quotes text ≡ text
double_quotes_clean [] clean = refl
double_quotes_clean (b ∷ bs) clean =
    let rest = double_quotes_clean bs (λ k d within. clean (suc k) d (omega (arith, within))) in
    let first : (b == 34) ≡ false = ne_eqb b 34 (clean 0 0 (omega arith)) in
    rw first (ap (λ t. b ∷ t) rest)

-- a text stays up to its first quote, which is doubled
doubled_part : (text : List ℕ) (place : ℕ) → All (λ b. b ≡ 34 → ⊥) (take place text) → slice_get text place ≡ Some 34
    → with_double_quotes text ≡ take place text ++ (34 ∷ 34 ∷ with_double_quotes (drop 1 (drop place text)))
doubled_part [] place clean quote = cc
doubled_part (b ∷ bs) zero clean quote =
    let is : b ≡ 34 = cc in
    rw is refl
doubled_part (b ∷ bs) (suc k) clean quote =
    let first : (b == 34) ≡ false = ne_eqb b 34 (clean 0 0 (omega arith)) in
    let rest = doubled_part bs k (λ j d within. clean (suc j) d (omega (arith, within))) quote in
    rw first (ap (λ t. b ∷ t) rest)

-- the same with the quote at the end
pub parted : (text front back left : List ℕ) (place : ℕ) → front ≡ take place text → back ≡ drop place text
    → left ≡ drop 1 back → All (λ b. b ≡ 34 → ⊥) (take place text) → slice_get text place ≡ Some 34
    → with_double_quotes text ++ 34 ∷ [] ≡ front ++ ((34 ∷ 34 ∷ []) ++ (with_double_quotes left ++ 34 ∷ []))
parted text front back left place front_is back_is left_is clean quote =
    let left_all : left ≡ drop 1 (drop place text) = left_is ∙ ap (drop 1) back_is in
    ap (λ t. t ++ 34 ∷ []) (doubled_part text place clean quote ∙ ap₂ (λ f l. f ++ (34 ∷ 34 ∷ with_double_quotes l)) (sym front_is) (sym left_all))
    ∙ append_assoc front (34 ∷ 34 ∷ with_double_quotes left) (34 ∷ [])

-- what is left of a text from a place on, once its first byte is taken off
pub from_place : (text front back : List ℕ) (place : ℕ) → front ≡ take place text → back ≡ drop place text
    → place < length text → All (λ b. b ≡ 34 → ⊥) (take place text) → slice_get text place ≡ Some 34
    → with_double_quotes text ++ 34 ∷ [] ≡ front ++ ((34 ∷ 34 ∷ []) ++ (with_double_quotes (drop 1 back) ++ 34 ∷ []))
from_place text front back place front_is back_is within clean quote = parted text front back (drop 1 back) place front_is back_is refl clean quote

-- a list from its second item on
pub from_second : (text : List ℕ) → take (length text - 1) (drop 1 text) ≡ drop 1 text
from_second [] = refl
from_second (b ∷ bs) =
    let rest : length (b ∷ bs) - 1 ≡ length bs = omega arith in
    rw rest (take_all (length bs) bs (omega arith))
