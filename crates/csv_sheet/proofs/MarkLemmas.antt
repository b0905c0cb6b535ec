-- Byte order marks at the front of a text.
use Rattle.std.proofs.Common.{◌≡◌, ℕ, ◌≤◌, ◌==◌, Bool, true, false, ◌&&◌, List, [], ◌∷◌, length, take, drop, refl, sym, ◌∙◌, ap, arith, if◌then◌else◌}
use Rattle.std.specs.Cmp.Lexicographic.{pointwise}
use lib.Dec.{eqb}
use Rattle.csv.specs.Reading.{is_bom, strip_bom}
use Rattle.csv_sheet.specs.Records.{without_marks}

tests : (p q r : Bool) → (p && (q && (r && true))) ≡ (p && q && r)
tests true true true = refl
tests true true false = refl
tests true false r = refl
tests false q r = refl

bom_test : (a b c : ℕ) → pointwise eqb (a ∷ b ∷ c ∷ []) (239 ∷ 187 ∷ 191 ∷ []) ≡ is_bom a b c
bom_test a b c = tests (a == 239) (b == 187) (c == 191)

-- a text with a mark at its front
pub past_mark : (text : List ℕ) → pointwise eqb (take 3 text) (239 ∷ 187 ∷ 191 ∷ []) ≡ true → without_marks (drop 3 text) ≡ without_marks text
past_mark [] there = cc there
past_mark (a ∷ []) there = absurd (short (a == 239) there)
  where
    short : (p : Bool) → (p && false) ≡ true → ⊥
    short true e = cc e
    short false e = cc e
past_mark (a ∷ b ∷ []) there = absurd (short (a == 239) (b == 187) there)
  where
    short : (p q : Bool) → (p && (q && false)) ≡ true → ⊥
    short true true e = cc e
    short true false e = cc e
    short false q e = cc e
past_mark (a ∷ b ∷ c ∷ rest) there = sym (ap (λ t. if t then without_marks rest else a ∷ b ∷ c ∷ rest) (sym (bom_test a b c) ∙ there))

-- a text without one
pub no_mark : (text : List ℕ) → pointwise eqb (take 3 text) (239 ∷ 187 ∷ 191 ∷ []) ≡ false → without_marks text ≡ text
no_mark [] none = refl
no_mark (a ∷ []) none = refl
no_mark (a ∷ b ∷ []) none = refl
no_mark (a ∷ b ∷ c ∷ rest) none = ap (λ t. if t then without_marks rest else a ∷ b ∷ c ∷ rest) (sym (bom_test a b c) ∙ none)

pub length-without_marks : (text : List ℕ) → length (without_marks text) ≤ length text
length-without_marks [] = omega arith
length-without_marks (a ∷ []) = omega arith
length-without_marks (a ∷ b ∷ []) = omega arith
length-without_marks (a ∷ b ∷ c ∷ rest) = by (is_bom a b c) (length-without_marks rest)
  where
    by : (t : Bool) → length (without_marks rest) ≤ length rest → length (if t then without_marks rest else a ∷ b ∷ c ∷ rest) ≤ length (a ∷ b ∷ c ∷ rest)
    by true less = omega (arith, less)
    by false less = omega arith

-- taking marks off leaves none
pub without_marks_twice : (text : List ℕ) → without_marks (without_marks text) ≡ without_marks text
without_marks_twice [] = refl
without_marks_twice (a ∷ []) = refl
without_marks_twice (a ∷ b ∷ []) = refl
without_marks_twice (a ∷ b ∷ c ∷ rest) = by (is_bom a b c) refl (without_marks_twice rest)
  where
    by : (t : Bool) → is_bom a b c ≡ t → without_marks (without_marks rest) ≡ without_marks rest
        → without_marks (if t then without_marks rest else a ∷ b ∷ c ∷ rest) ≡ (if t then without_marks rest else a ∷ b
        ∷ c ∷ rest)
    by true is twice = twice
    by false is twice = ap (λ t. if t then without_marks rest else a ∷ b ∷ c ∷ rest) is

pub strip_nothing : (text : List ℕ) → without_marks text ≡ text → strip_bom text ≡ text
unfolding strip_bom
strip_nothing [] same = refl
strip_nothing (a ∷ []) same = refl
strip_nothing (a ∷ b ∷ []) same = refl
strip_nothing (a ∷ b ∷ c ∷ rest) same = by (is_bom a b c) same
  where
    by : (t : Bool) → (if t then without_marks rest else a ∷ b ∷ c ∷ rest) ≡ a ∷ b ∷ c ∷ rest → (if t then rest else a ∷ b ∷ c ∷ rest) ≡ a ∷ b ∷ c ∷ rest
    by true e = (let less = length-without_marks rest in
        let long : length (without_marks rest) ≡ length (a ∷ b ∷ c ∷ rest) = ap length e in
        absurd (omega (arith, less, long)))
    by false e = refl
