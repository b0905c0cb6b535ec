-- A text spells one tree, and what its reader answers.
use Rattle.std.proofs.Common.{◌≡◌, ◌≢◌, ℕ, ◌+◌, ◌<◌, ◌≤◌, ◌↔◌, ◌==◌, Bool, true, false, List, [], ◌∷◌, ◌++◌, length}
use Rattle.std.proofs.Common.{take, get_or, drop, ◌-◌, refl, sym, ap, ◌∙◌, subst, arith, inl, inr}
use Rattle.std.specs.Prelude.{Some, None, Result, Ok, Err, count_by, codes, cond, nat_eq}
use Rattle.std.specs.List.{starts_with}
use Rattle.std.proofs.lemmas.Bool.{false≢true, cases_lt}
use Rattle.sheet_refs.proofs.NameLemmas.{slice_rest}
use Rattle.formula_syntax.proofs.TokenLemmas.{begins}
use Rattle.std.proofs.lemmas.Option.{none-some, same_Some}
use Rattle.std.proofs.lemmas.List.{append_cancel_left, take_all, length-append}
use Rattle.std.proofs.lemmas.List.Sums.{count_by_more_yes, count_by_more_no}
use Rattle.formula_syntax.specs.declared.tokens.Token.{Token}
use Rattle.formula_syntax.specs.declared.reader.ReadRefused.{ReadRefused}
use Rattle.formula_syntax.specs.declared.reader.ReadRefused.TheVariants.{NotFormula, TooDeep, TooManyRefs, Memory}
use Rattle.formula_syntax.specs.declared.edition.Edition.{Edition}
use Rattle.formula_syntax.specs.Editions.{has_tokens}
use Rattle.formula_syntax.specs.Tree.{Tree, references_of}
use Rattle.formula_syntax.specs.Formula.{IsFormula}
use Rattle.formula_syntax.specs.Grammar.{Derives}
use Rattle.formula_syntax.specs.Lexing.{HasTokens}
use Rattle.formula_syntax.specs.Reading.{read, steps, Answers}
use Rattle.formula_syntax.specs.declared.parser.Unread.{Unread}
use Rattle.formula_syntax.specs.declared.parser.Unread.TheVariants as unread
use Rattle.formula_syntax.specs.Spelling.{IsIntroduced, Spells, SpellsIn, IsTooDeep, IsNoFormula, HasTooManyRefs}
use Rattle.formula_syntax.specs.Spelling.{IsRead, IsAnswer, is_reference_token, refusal_of}
use Rattle.formula_syntax.specs.Spelling.IsIntroduced.{plain, prefixed}
use Rattle.formula_syntax.proofs.Withins.{tokens_within}
use Rattle.formula_syntax.proofs.Lexemes.{tokens_unique}
use Rattle.formula_syntax.proofs.Complete.{derived_unique, read_whole}
use Rattle.formula_syntax.proofs.Sound.{read_derives}
use Rattle.formula_syntax.proofs.Measures.{references_counted, nodes_within, fitting, tokens_written}

apart_heads : (a b : List ℕ) → 61 ∷ a ≡ 111 ∷ b → ⊥
apart_heads a b e = cc

same_tail : {a b : List ℕ} → 61 ∷ a ≡ 61 ∷ b → a ≡ b
same_tail e = cc

introduced_unique : (text other a b : List ℕ) → text ≡ other → IsIntroduced text a → IsIntroduced other b → a ≡ b
introduced_unique text other a b same (plain _ _ e) (plain _ _ f) = same_tail (sym e ∙ (same ∙ f))
introduced_unique text other a b same (plain _ _ e) (prefixed _ _ f) = absurd (apart_heads a _ (sym e ∙ (same ∙ f)))
introduced_unique text other a b same (prefixed _ _ e) (plain _ _ f) = absurd (apart_heads b _ (sym f ∙ (sym same ∙ e)))
introduced_unique text other a b same (prefixed _ _ e) (prefixed _ _ f) = append_cancel_left (codes "of:=") a b (sym e ∙ (same ∙ f))

-- a text that is introduced and has these tokens spells what they derive
pub spelt_derived : (text rest : List ℕ) (ts : List Token) (t : Tree) → IsIntroduced text rest → HasTokens rest ts → Spells text t → Derives 0 ts t
spelt_derived text rest ts t intro tokens spells =
    let same = introduced_unique text text spells.rest rest refl spells.introduced intro in
    let one = tokens_unique spells.rest rest spells.tokens ts same spells.has_tokens tokens in
    subst (λ (l : List Token). Derives 0 l t) one spells.derived

pub spells_unique : (text : List ℕ) (a b : Tree) → Spells text a → Spells text b → a ≡ b
spells_unique text a b one other =
    derived_unique other.tokens a b (spelt_derived text other.rest other.tokens a other.introduced other.has_tokens one)
    other.derived

-- where nothing is introduced, or what is has no tokens, or these derive nothing, no tree is spelt
pub not_introduced : (text : List ℕ) → ((rest : List ℕ) → ¬ IsIntroduced text rest) → (t : Tree) → ¬ Spells text t
not_introduced text none t spells = none spells.rest spells.introduced

pub not_tokens : (text rest : List ℕ) → IsIntroduced text rest → ((ts : List Token) → ¬ HasTokens rest ts) → (t : Tree) → ¬ Spells text t
not_tokens text rest intro none t spells =
    none spells.tokens (subst (λ (l : List ℕ). HasTokens l spells.tokens) (introduced_unique text text spells.rest rest
    refl spells.introduced intro) spells.has_tokens)

pub not_derived : (text rest : List ℕ) (ts : List Token) → IsIntroduced text rest → HasTokens rest ts
    → ((t : Tree) → ¬ Derives 0 ts t) → (t : Tree) → ¬ Spells text t
not_derived text rest ts intro tokens none t spells = none t (spelt_derived text rest ts t intro tokens spells)

-- all tokens, read at the loosest level
pub whole_derives : (ts rest : List Token) (t : Tree) → length rest ≡ 0 → ((n : ℕ) → steps 0 ts ≤ n → read n 0 ts ≡ Some (t, rest)) → Derives 0 ts t
whole_derives ts [] t none reads = read_derives (steps 0 ts) ts t (reads (steps 0 ts) (omega arith))
whole_derives ts (r ∷ rest) t none reads = absurd (omega (arith, none))

pub fail_derives : (ts : List Token) (t : Tree) → ((n : ℕ) → steps 0 ts ≤ n → read n 0 ts ≡ None) → ¬ Derives 0 ts t
fail_derives ts t fails d =
    let (k, whole) = read_whole ts t d in
    none-some (t, []) (sym (fails (k + steps 0 ts) (omega arith)) ∙ whole (k + steps 0 ts) (omega arith))

pub part_derives : (ts rest : List Token) (t u : Tree) → 0 < length rest → ((n : ℕ) → steps 0 ts ≤ n → read n 0 ts ≡ Some (t, rest)) → ¬ Derives 0 ts u
part_derives ts rest t u some reads d =
    let (k, whole) = read_whole ts u d in
    let pair = same_Some (t, rest) (u, []) (sym (reads (k + steps 0 ts) (omega arith)) ∙ whole (k + steps 0 ts) (omega arith)) in
    let empty : rest ≡ [] = ap (λ (q : Tree × List Token). q.1) pair in
    omega (arith, some, ap length empty)

-- what a text spells, and what its tree keeps
pub spelt : (text rest : List ℕ) (ts : List Token) (t : Tree) → IsIntroduced text rest → HasTokens rest ts → Derives 0 ts t → Spells text t
spelt text rest ts t intro tokens derived = record { rest = rest; introduced = intro; tokens = ts; has_tokens = tokens; derived = derived }

pub formula_kept : (rest : List ℕ) (ts : List Token) (t : Tree) → length ts ≤ 8192
    → count_by is_reference_token ts ≤ 255 → HasTokens rest ts → Derives 0 ts t → IsFormula t
formula_kept rest ts t short few tokens d = record {
  few_nodes = omega (arith, nodes_within 0 ts t d, short);
  few_references = omega (arith, references_counted 0 ts t d, few);
  fitting = fitting 0 ts t d (tokens_written rest ts tokens);
}

pub introduction_length : (text rest : List ℕ) → IsIntroduced text rest → length rest ≤ length text
introduction_length text rest (plain _ _ e) = omega (arith, ap length e)
introduction_length text rest (prefixed _ _ e) = omega (arith, ap length e, length-append (codes "of:=") rest)

-- each refusal comes exactly where its cause holds
apart : {A : Type 0} {B : Type 0} → (A → B → ⊥) → B → A → ⊥
apart f b a = f a b

read_in : (edition : Edition) (text : List ℕ) (t : Tree) → IsRead edition text t → SpellsIn edition text t
read_in edition text t is = record { spelt = is.spelt; within = is.within }

pub exactly_deep : (edition : Edition) (text : List ℕ) (r : Result Tree ReadRefused) → r ≢ Err Memory
    → IsAnswer edition text r → (r ≡ Err TooDeep) ↔ IsTooDeep text
exactly_deep edition text (Ok t) m a = (λ e. absurd (cc), λ deep. absurd (a.shallow deep))
exactly_deep edition text (Err NotFormula) m a = (λ e. absurd (cc), λ deep. absurd (a.0 deep))
exactly_deep edition text (Err TooDeep) m a = (λ _. a, λ _. refl)
exactly_deep edition text (Err TooManyRefs) m a = (λ e. absurd (cc), λ deep. absurd (a.0 deep))
exactly_deep edition text (Err Memory) m a = absurd (m refl)

pub exactly_none : (edition : Edition) (text : List ℕ) (r : Result Tree ReadRefused) → r ≢ Err Memory
    → IsAnswer edition text r → (r ≡ Err NotFormula) ↔ IsNoFormula edition text
exactly_none edition text (Ok t) m a = (λ e. absurd (cc), λ none. absurd (none.1 t (read_in edition text t a)))
exactly_none edition text (Err NotFormula) m a = (λ _. a, λ _. refl)
exactly_none edition text (Err TooDeep) m a = (λ e. absurd (cc), λ none. absurd (none.0 a))
exactly_none edition text (Err TooManyRefs) m a = (λ e. absurd (cc), λ none. absurd (none.1 a.1 a.2))
exactly_none edition text (Err Memory) m a = absurd (m refl)

pub exactly_many : (edition : Edition) (text : List ℕ) (r : Result Tree ReadRefused) → r ≢ Err Memory
    → IsAnswer edition text r → (r ≡ Err TooManyRefs) ↔ HasTooManyRefs edition text
exactly_many edition text (Ok t) m a = (λ e. absurd (cc), λ many. absurd (few many.1 many.2 many.3))
  where
    few : (u : Tree) → SpellsIn edition text u → 255 < length (references_of u) → ⊥
    few u spells more = omega (arith, more, a.few, ap (λ (v : Tree). length (references_of v)) (spells_unique text u t spells.spelt a.spelt))
exactly_many edition text (Err NotFormula) m a = (λ e. absurd (cc), λ many. absurd (a.1 many.1 many.2))
exactly_many edition text (Err TooDeep) m a = (λ e. absurd (cc), λ many. absurd (many.0 a))
exactly_many edition text (Err TooManyRefs) m a = (λ _. a, λ _. refl)
exactly_many edition text (Err Memory) m a = absurd (m refl)

pub surely_read : (edition : Edition) (text : List ℕ) (r : Result Tree ReadRefused) → r ≢ Err Memory
    → IsAnswer edition text r → (t : Tree) → IsRead edition text t → r ≡ Ok t
surely_read edition text (Ok u) m a t is = ap Ok (spells_unique text u t a.spelt is.spelt)
surely_read edition text (Err NotFormula) m a t is = absurd (a.1 t (read_in edition text t is))
surely_read edition text (Err TooDeep) m a t is = absurd (is.shallow a)
surely_read edition text (Err TooManyRefs) m (shallow, u, spells, many) t is =
    absurd (omega (
      arith,
      many,
      is.few,
      ap (λ (v : Tree). length (references_of v)) (spells_unique text u t spells.spelt is.spelt),
    ))
surely_read edition text (Err Memory) m a t is = absurd (m refl)

-- counting parentheses byte by byte
pub count_step : (p : ℕ → Bool) (xs : List ℕ) (i x : ℕ) → i < length xs → x ≡ get_or xs i x
    → count_by p (take (i + 1) xs) ≡ count_by p (take i xs) + cond (p x) 1 0
count_step p xs i x below is = by_test (p x) refl
  where
    by_test : (t : Bool) → p x ≡ t → count_by p (take (i + 1) xs) ≡ count_by p (take i xs) + cond (p x) 1 0
    by_test true e = rw e (count_by_more_yes p xs i x below (ap p (sym is) ∙ e))
    by_test false e = rw e (count_by_more_no p xs i x below (ap p (sym is) ∙ e) ∙ sym (omega arith))

-- the two introductions
pub equals_found : (text rest : List ℕ) → text ≡ 61 ∷ rest → IsIntroduced text rest
equals_found text rest split = plain text rest split

pub prefix_found : (text rest : List ℕ) → starts_with nat_eq text (codes "of:=") ≡ true → rest ≡ take (length text - 4) (drop 4 text) → IsIntroduced text rest
prefix_found text rest e is =
    let (r, split) = begins (codes "of:=") text e in
    let same : rest ≡ r = is ∙ (slice_rest text 4 ∙ ap (λ (l : List ℕ). drop 4 l) split) in
    prefixed text rest (split ∙ ap (λ (l : List ℕ). codes "of:=" ++ l) (sym same))

pub not_introduced_by : (text : List ℕ) → ((rest : List ℕ) → text ≢ 61 ∷ rest)
    → starts_with nat_eq text (codes "of:=") ≡ false → (rest : List ℕ) → ¬ IsIntroduced text rest
not_introduced_by text no_equals no_prefix rest (plain _ _ e) = no_equals rest e
not_introduced_by text no_equals no_prefix rest (prefixed _ _ e) = false≢true (sym no_prefix ∙ ap (λ (l : List ℕ). starts_with nat_eq l (codes "of:=")) e)

-- no front is too deep, up to a place
abbrev pub IsShallow : List ℕ → ℕ → Type 0
IsShallow text end = (k : ℕ) → k < end → count_by (λ b. b == 40) (take k text) ≤ count_by (λ b. b == 41) (take k text) + 64

pub all_shallow : (text : List ℕ) → IsShallow text (length text + 1) → ¬ IsTooDeep text
all_shallow text shallow (front, deep) = elim (cases_lt front (length text + 1)) [
  | inl below ↦ omega (arith, shallow front below, deep)
  | inr past ↦
      let whole : take front text ≡ take (length text) text = take_all front text (omega (arith, past)) ∙ sym (take_all (length text) text (omega arith)) in
      omega (
        arith,
        shallow (length text) (omega arith),
        deep,
        ap (λ (l : List ℕ). count_by (λ b. b == 40) l) whole,
        ap (λ (l : List ℕ). count_by (λ b. b == 41) l) whole,
      )
]

-- why tokens are not read, and what a reader of the text answers then
pub err_derives : {A : Type 0} (ts : List Token) (u : Unread) → Answers (λ n. read n 0 ts) (steps 0 ts) (Err u)
    → ◌≡◌ {A = Result A Unread} (Err u) (Err unread.NotFormula) → (t : Tree) → ¬ Derives 0 ts t
err_derives ts unread.NotFormula a e t = fail_derives ts t a
err_derives ts unread.Memory a e t = absurd (cc)

pub root_refused : {A : Type 0} (edition : Edition) (text rest : List ℕ) (ts : List Token) (u : Unread)
    → ¬ IsTooDeep text → IsIntroduced text rest → HasTokens rest ts
    → (◌≡◌ {A = Result A Unread} (Err u) (Err unread.NotFormula) → (t : Tree) → ¬ Derives 0 ts t)
    → IsAnswer edition text (Err (refusal_of u))
root_refused edition text rest ts unread.NotFormula shallow intro tokens none =
    (shallow, λ t spells. not_derived text rest ts intro tokens (none refl) t spells.spelt)
root_refused edition text rest ts unread.Memory shallow intro tokens none = tt

pub tokens_refused : {A : Type 0} (edition : Edition) (text rest : List ℕ) (u : Unread) → ¬ IsTooDeep text
    → IsIntroduced text rest → (◌≡◌ {A = Result A Unread} (Err u) (Err unread.NotFormula) → (ts : List Token)
    → ¬ HasTokens rest ts) → IsAnswer edition text (Err (refusal_of u))
tokens_refused edition text rest unread.NotFormula shallow intro none = (shallow, λ t spells. not_tokens text rest intro (none refl) t spells.spelt)
tokens_refused edition text rest unread.Memory shallow intro none = tt

-- a text without an introduction spells no tree in an edition
pub plainly_none : (edition : Edition) (text : List ℕ) → ((rest : List ℕ) → ¬ IsIntroduced text rest) → (t : Tree) → ¬ SpellsIn edition text t
plainly_none edition text none t spells = not_introduced text none t spells.spelt

-- nor does one whose tokens name a function that the edition lacks
pub lacks_function : (edition : Edition) (text rest : List ℕ) (ts : List Token) → ¬ IsTooDeep text
    → IsIntroduced text rest → HasTokens rest ts → has_tokens edition ts ≡ false → IsNoFormula edition text
lacks_function edition text rest ts shallow intro tokens lacks = (
  shallow,
  λ t spells. absurd (false≢true (sym lacks
      ∙ (tokens_within edition 0 ts t (spelt_derived text rest ts t intro tokens spells.spelt) ∙ spells.within))),
)

pub many_references : (edition : Edition) (text rest : List ℕ) (ts : List Token) (t : Tree) → ¬ IsTooDeep text
    → IsIntroduced text rest → HasTokens rest ts → Derives 0 ts t → has_tokens edition ts ≡ true
    → 255 < count_by is_reference_token ts → HasTooManyRefs edition text
many_references edition text rest ts t shallow intro tokens d within more = (
  shallow,
  t,
  record {
    spelt = spelt text rest ts t intro tokens d;
    within = sym (tokens_within edition 0 ts t d)
        ∙ within;
  },
  omega (arith, more, references_counted 0 ts t d),
)

pub is_read : (edition : Edition) (text rest : List ℕ) (ts : List Token) (t : Tree) → ¬ IsTooDeep text
    → IsIntroduced text rest → HasTokens rest ts → Derives 0 ts t → has_tokens edition ts ≡ true
    → count_by is_reference_token ts ≤ 255 → IsRead edition text t
is_read edition text rest ts t shallow intro tokens d within few = record {
  shallow = shallow;
  spelt = spelt text rest ts t intro tokens d;
  within = sym (tokens_within edition 0 ts t d) ∙ within;
  few = omega (arith, few, references_counted 0 ts t d);
}
