-- Words as what they tell of cells.
use Rattle.std.proofs.Common.{◌≡◌, ◌≢◌, ℕ, zero, suc, ◌<◌, ◌==◌, inl, inr, List, [], ◌∷◌, ◌++◌, length, slice_get}
use Rattle.std.proofs.Common.{get_or, set, Option, Some, None, Bool, true, false, not, ◌||◌, cond, option_map, IsTrue, IsFalse}
use Rattle.std.proofs.Common.{refl, sym, ◌∙◌}
use Rattle.std.proofs.Common.{ap, subst, arith}
use Rattle.std.proofs.lemmas.Bool.Decides.{nat_tests}
use Rattle.std.proofs.lemmas.List.{map-set}
use Rattle.std.proofs.lemmas.Option.{slice_get-map, slice_get-get_or, get_or_from_slice_get}
use Rattle.std.proofs.lemmas.List.Elements.{All-cons, All-nil}
use Rattle.sheet_refs.specs.Cells.{Position}
use Rattle.sheet_refs.specs.Ends.{Reference, corners_of}
use Rattle.sheet_refs.specs.Sizes.{is_inside, cell_count, place_of}
use Rattle.sheet_refs.proofs.Places.{place-lt}
use Rattle.sheet_refs.specs.declared.sizes.Sizes.{Sizes}
use Rattle.value_core.specs.declared.value.ErrorKind.TheVariants as error
use Rattle.value_core.specs.declared.value.Value.{Value}
use Rattle.value_core.specs.declared.value.Value.TheVariants.{Empty, Number, Truth, Error, Label}
use Rattle.value_core.specs.Codes.{unseen_word, open_word, is_spare}
use Rattle.value_core.specs.Decoding.{value_of_word, value_of_its_code}
use Rattle.value_core.specs.Values.{IsDecoded, IsValue, code_of}
use Rattle.formula_eval.specs.Inputs.{IsCode, IsKnownPlain, IsPlainRange, ArePlain}
use Rattle.formula_eval.specs.Meaning.{is_circular, formula_value, IsNamedBy, IsFormulaValue}
use Rattle.formula_syntax.specs.Tree.{Tree}
use Rattle.sheet_model.specs.Walks.{IsKnownAt, known_value, known_values}
use Rattle.sheet_model.specs.Words.{Unseen, Open, Known, cell_state, IsCodeWord, AreWords, states_of, known_code, known_codes, is_plain_state, is_plain}
use Rattle.sheet_model.proofs.ListLemmas.{slice_get-pushed}

-- no value has a spare word as its code
code_not_spare : (v : Value) → (code_of v ≢ unseen_word) × (code_of v ≢ open_word)
code_not_spare Empty = (λ e. omega arith, λ e. omega arith)
code_not_spare (Number n) = (λ e. omega arith, λ e. omega arith)
code_not_spare (Truth false) = (λ e. omega arith, λ e. omega arith)
code_not_spare (Truth true) = (λ e. omega arith, λ e. omega arith)
code_not_spare (Error kind) = (λ e. omega arith, λ e. omega arith)
code_not_spare (Label place) = (λ e. omega arith, λ e. omega arith)

-- a word of neither is that of a value
state_known : (word : ℕ) → word ≢ 5 → word ≢ 6 → cell_state word ≡ Known (value_of_word word)
state_known word a b = by_tests (word == 5) (word == 6) refl refl
  where
    by_tests : (p q : Bool) → (word == 5) ≡ p → (word == 6) ≡ q → cond p Unseen (cond q Open (Known (value_of_word word))) ≡ Known (value_of_word word)
    by_tests true q is_p is_q = absurd (a (grind (arith, nat_tests)))
    by_tests false true is_p is_q = absurd (b (grind (arith, nat_tests)))
    by_tests false false is_p is_q = refl

pub state_of_code : (v : Value) → IsValue v → cell_state (code_of v) ≡ Known v
state_of_code v is =
    let free = code_not_spare v in
    state_known (code_of v) free.0 free.1 ∙ ap Known (value_of_its_code v is)

pub code_is_word : (v : Value) → IsValue v → IsCodeWord (code_of v)
code_is_word v is u same =
    let known : v ≡ u = (let e = sym (state_of_code v is) ∙ same in cc) in
    let both : IsValue v × (code_of v ≡ code_of v) = (is, refl) in
    subst (λ (u : Value). IsValue u × (code_of u ≡ code_of v)) known both

-- what the code of a value is decoded to
pub decoded_code : (word : ℕ) (result : Option Value) (v : Value) → IsDecoded word result → IsValue v → word ≡ code_of v → result ≡ Some v
decoded_code word None v is in_range same = absurd (is v in_range (sym same))
decoded_code word (Some u) v is in_range same =
    ap Some (sym (value_of_its_code u is.0) ∙ ap value_of_word (is.1 ∙ same) ∙ value_of_its_code v in_range)

pub unseen_is_word : IsCodeWord 5
unseen_is_word v same = absurd (cc)

pub open_is_word : IsCodeWord 6
open_is_word v same = absurd (cc)

-- a word that is no spare one is neither
pub not_spare : (word : ℕ) → is_spare word ≡ false → (word ≢ unseen_word) × (word ≢ open_word)
not_spare word is = by_tests (word == unseen_word) (word == open_word) refl refl is
  where
    by_tests : (p q : Bool) → (word == unseen_word) ≡ p → (word == open_word) ≡ q → (p || q) ≡ false → (word ≢ unseen_word) × (word ≢ open_word)
    by_tests true q is_p is_q is = absurd (cc)
    by_tests false true is_p is_q is = absurd (cc)
    by_tests false false is_p is_q is = (λ e. absurd (grind (arith, nat_tests)), λ e. absurd (grind (arith, nat_tests)))

-- evaluation can't read past a cell with a spare word
pub spare_stops : (word : ℕ) → is_spare word ≡ true → is_plain_state (cell_state word) ≡ false
spare_stops word is = by_tests (word == unseen_word) (word == open_word) is
  where
    by_tests : (p q : Bool) → (p || q) ≡ true → is_plain_state (cond p Unseen (cond q Open (Known (value_of_word word)))) ≡ false
    by_tests true q is = refl
    by_tests false true is = refl
    by_tests false false is = absurd (cc)

-- a spare word tells no value, and each other one does
pub spare_unknown : (word : ℕ) (v : Value) → is_spare word ≡ true → cell_state word ≢ Known v
spare_unknown word v is = by_tests (word == unseen_word) (word == open_word) is
  where
    by_tests : (p q : Bool) → (p || q) ≡ true → cond p Unseen (cond q Open (Known (value_of_word word))) ≢ Known v
    by_tests true q is same = cc
    by_tests false true is same = cc
    by_tests false false is same = absurd (cc)

pub known_word : (word : ℕ) → is_spare word ≡ false → cell_state word ≡ Known (value_of_word word)
known_word word is = let free = not_spare word is in state_known word free.0 free.1

-- so a word tells whether a value is known of its cell
pub known_at : (words : List ℕ) (place word : ℕ) (spare : Bool) → slice_get words place ≡ Some word → spare ≡ is_spare word
    → IsTrue (not spare) → IsKnownAt (states_of words) place
known_at words place word true at is told = absurd (cc)
known_at words place word false at is told =
    (value_of_word word, slice_get-map cell_state words place ∙ ap (option_map cell_state) at ∙ ap Some (known_word word (sym is)))

pub unknown_at : (words : List ℕ) (place word : ℕ) (spare : Bool) → slice_get words place ≡ Some word → spare ≡ is_spare word
    → IsFalse (not spare) → ¬ IsKnownAt (states_of words) place
unknown_at words place word false at is untold known = absurd (cc)
unknown_at words place word true at is untold known =
    let state : Some (cell_state word) ≡ Some (Known known.0) = sym (slice_get-map cell_state words place ∙ ap (option_map cell_state) at) ∙ known.1 in
    spare_unknown word known.0 (sym is) (cc)

-- a known value other than #CIRC!, by its word
pub plain_known : (word : ℕ) → IsCodeWord word → word ≢ 5 → word ≢ 6 → not (word == 59) ≡ is_plain_state (cell_state word)
plain_known word is a b =
    let known = state_known word a b in
    let code = is (value_of_word word) known in
    rw known (ap not (by_value (value_of_word word) word code.1))
  where
    by_value : (v : Value) (w : ℕ) → code_of v ≡ w → (w == 59) ≡ is_circular v
    by_value Empty w e = grind (arith, nat_tests)
    by_value (Number n) w e = let no : w ≢ 59 = λ same. omega (arith, e, same) in grind (arith, nat_tests)
    by_value (Truth false) w e = grind (arith, nat_tests)
    by_value (Truth true) w e = grind (arith, nat_tests)
    by_value (Error error.Null) w e = grind (arith, nat_tests)
    by_value (Error error.Div0) w e = grind (arith, nat_tests)
    by_value (Error error.Value) w e = grind (arith, nat_tests)
    by_value (Error error.Ref) w e = grind (arith, nat_tests)
    by_value (Error error.Name) w e = grind (arith, nat_tests)
    by_value (Error error.Num) w e = grind (arith, nat_tests)
    by_value (Error error.Na) w e = grind (arith, nat_tests)
    by_value (Error error.Circ) w e = grind (arith, nat_tests)
    by_value (Label place) w e = let no : w ≢ 59 = λ same. omega (arith, e, same) in grind (arith, nat_tests)

-- the word at a place, and the state for which it stands
pub word_at : (words : List ℕ) (place d : ℕ) → AreWords words → place < length words → IsCodeWord (get_or words place d)
word_at words place d are below = are place (get_or words place d) (slice_get-get_or words place d below)

pub states_at : (words : List ℕ) (place d : ℕ) → place < length words → slice_get (states_of words) place ≡ Some (cell_state (get_or words place d))
states_at words place d below = slice_get-map cell_state words place ∙ ap (option_map cell_state) (slice_get-get_or words place d below)

pub plain_at : (sizes : Sizes) (words : List ℕ) (cell : Position) (place d : ℕ) → place ≡ place_of sizes cell
    → place < length words → is_plain_state (cell_state (get_or words place d)) ≡ is_plain sizes (states_of words) cell
plain_at sizes words cell place d is below =
    rw (← is)
    (ap is_plain_state (sym (get_or_from_slice_get (states_of words) place (cell_state (get_or words place d))
    Unseen (states_at words place d below))))

-- a word that is a code
pub known_is_code : (word : ℕ) → IsCodeWord word → word ≢ 5 → word ≢ 6 → IsCode word
known_is_code word is a b = let code = is (value_of_word word) (state_known word a b) in (value_of_word word, code.0, code.1)

-- the code that is held of a cell is that of its known value
pub held_value : (sizes : Sizes) (words : List ℕ) (cell : Position) (word : ℕ) → AreWords words
    → place_of sizes cell < length words → known_codes sizes words cell ≡ Some word
    → IsValue (known_values sizes (states_of words) cell) × (code_of (known_values sizes (states_of words) cell) ≡ word)
held_value sizes words cell word are below held =
    let here = get_or words (place_of sizes cell) 0 in
    let is = word_at words (place_of sizes cell) 0 are below in
    let state = get_or_from_slice_get (states_of words) (place_of sizes cell) (cell_state here) Unseen (states_at words (place_of sizes cell) 0 below) in
    rw state (by_tests here is (here == 5) (here == 6) refl refl held)
  where
    by_tests : (here : ℕ) → IsCodeWord here → (p q : Bool) → (here == 5) ≡ p → (here == 6) ≡ q
        → cond (p || q) None (Some here) ≡ Some word
        → IsValue (known_value (cond p Unseen (cond q Open (Known (value_of_word here)))))
        × (code_of (known_value (cond p Unseen (cond q Open (Known (value_of_word here))))) ≡ word)
    by_tests here is true q is_p is_q held = absurd (cc)
    by_tests here is false true is_p is_q held = absurd (cc)
    by_tests here is false false is_p is_q held =
        let known : cell_state here ≡ Known (value_of_word here) = rw (is_p, is_q) refl in
        let code = is (value_of_word here) known in
        let same : here ≡ word = cc in
        (code.0, code.1 ∙ same)

-- a write of a word
pub words_set : (words : List ℕ) (place word : ℕ) → AreWords words → IsCodeWord word → AreWords (set words place word)
words_set [] place word are is i w at = absurd (cc)
words_set (x ∷ xs) zero word are is zero w at = let same : word ≡ w = cc in subst IsCodeWord same is
words_set (x ∷ xs) zero word are is (suc i) w at = are (suc i) w at
words_set (x ∷ xs) (suc place) word are is zero w at = are zero w at
words_set (x ∷ xs) (suc place) word are is (suc i) w at = words_set xs place word (λ j v at_j. are (suc j) v at_j) is i w at

pub states_set : (words : List ℕ) (place word : ℕ) → states_of (set words place word) ≡ set (states_of words) place (cell_state word)
states_set words place word = map-set cell_state words place word

-- the words of a list, and one more
pub words_none : AreWords []
words_none i w at = absurd (cc)

pub words_push : (words : List ℕ) (word : ℕ) → AreWords words → IsCodeWord word → AreWords (words ++ word ∷ [])
words_push words word are is i w at =
    elim (slice_get-pushed words word i w at) [ inl before ↦ are i w before | inr last ↦ subst IsCodeWord last.1 is ]

pub states_push : (words : List ℕ) (word : ℕ) → states_of (words ++ word ∷ []) ≡ states_of words ++ cell_state word ∷ []
states_push [] word = refl
states_push (x ∷ xs) word = ap (λ states. cell_state x ∷ states) (states_push xs word)

-- whether a word is the one of a cell that wasn't looked at
pub unseen_state : (word : ℕ) → word ≡ 5 → cell_state word ≡ Unseen
unseen_state word is = rw is refl

pub seen_state : (word : ℕ) → word ≢ 5 → cell_state word ≢ Unseen
seen_state word differs = by_tests (word == 5) (word == 6) refl
  where
    by_tests : (p q : Bool) → (word == 5) ≡ p → cond p Unseen (cond q Open (Known (value_of_word word))) ≢ Unseen
    by_tests true q is same = differs (grind (arith, nat_tests))
    by_tests false true is same = cc
    by_tests false false is same = cc

-- what evaluation answers over the words is a step over the values that they tell
pub evaluated : (sizes : Sizes) (words : List ℕ) (tree : Tree) (v : Value) → AreWords words
    → length words ≡ cell_count sizes → IsFormulaValue sizes (known_codes sizes words) tree v
    → v ≡ formula_value sizes tree (known_values sizes (states_of words))
evaluated sizes words tree v are count is =
    is (known_values sizes (states_of words)) (λ cell word named inside held. held_value sizes words cell word are
    (omega (arith, count, place-lt sizes cell inside)) held)

-- evaluation can read past a cell of which the words tell so
pub passes_known : (sizes : Sizes) (words : List ℕ) (cell : Position) → AreWords words
    → place_of sizes cell < length words → IsTrue (is_plain sizes (states_of words) cell)
    → IsKnownPlain (known_codes sizes words) cell
passes_known sizes words cell are below plain =
    let at = plain_at sizes words cell (place_of sizes cell) 0 refl below in
    by_word (get_or words (place_of sizes cell) 0) (word_at words (place_of sizes cell) 0 are below) (at ∙ plain)
  where
    not_circular : (word : ℕ) → not (is_circular (value_of_word word)) ≡ true → word ≢ code_of (Error error.Circ)
    not_circular word plain is =
        let circular = ap (λ v. not (is_circular v)) (ap value_of_word is ∙ value_of_its_code (Error error.Circ) tt) in
        cc

    by_tests : (word : ℕ) → IsCodeWord word → (p q : Bool) → (word == 5) ≡ p → (word == 6) ≡ q
        → is_plain_state (cond p Unseen (cond q Open (Known (value_of_word word)))) ≡ true → (known : ℕ) × IsCode known
        × (cond (p || q) None (Some word) ≡ Some known) × (known ≢ code_of (Error error.Circ))
    by_tests word is true q is_p is_q plain = absurd (cc)
    by_tests word is false true is_p is_q plain = absurd (cc)
    by_tests word is false false is_p is_q plain =
        (word, known_is_code word is (grind (arith, nat_tests)) (grind (arith, nat_tests)), refl, not_circular word plain)

    by_word : (word : ℕ) → IsCodeWord word → is_plain_state (cell_state word) ≡ true → (known : ℕ) × IsCode known
        × (known_code word ≡ Some known) × (known ≢ code_of (Error error.Circ))
    by_word word is plain = by_tests word is (word == 5) (word == 6) refl refl plain

-- and so past the ranges of references of all whose cells in the rectangle they tell so
pub plain_references : (sizes : Sizes) (words : List ℕ) (references : List Reference) → AreWords words
    → length words ≡ cell_count sizes → ((cell : Position) → IsNamedBy references cell → IsTrue (is_inside sizes cell)
    → IsTrue (is_plain sizes (states_of words) cell)) → ArePlain sizes (known_codes sizes words) references
plain_references sizes words [] are count plain = All-nil (λ (r : Reference). IsPlainRange sizes (known_codes sizes words) (corners_of r))
plain_references sizes words (r ∷ rest) are count plain =
    All-cons (λ (r : Reference). IsPlainRange sizes (known_codes sizes words) (corners_of r)) r rest
    (record {
      plain = λ cell inside held. passes_known sizes words cell are (omega (arith, count, place-lt sizes cell held))
          (plain cell (record { through = r; place = 0; listed = refl; inside = inside }) held);
    })
    (plain_references sizes words rest are count (λ cell named held. plain cell (record {
      through = named.through;
      place = suc named.place;
      listed = named.listed;
      inside = named.inside;
    }) held))
