-- What tokens derive is read from the left, whatever looser follows.
use Rattle.std.proofs.Common.{◌≡◌, ◌≢◌, ℕ, zero, suc, ◌+◌, ◌<◌, ◌≤◌, Bool, true, false, List, [], ◌∷◌, ◌++◌, refl, sym}
use Rattle.std.proofs.Common.{ap, ◌∙◌, append_assoc, arith, subst, inl, inr}
use Rattle.std.specs.Prelude.{Some, None, option_and_then, nat_eq, nat_lt}
use Rattle.std.proofs.lemmas.Bool.Decides.{nat_tests}
use Rattle.std.proofs.lemmas.Bool.{cases_lt}
use Rattle.std.proofs.lemmas.Option.{same_Some}
use Rattle.std.proofs.lemmas.List.{append-nil}
use Rattle.value_core.specs.declared.operators.BinaryOp.{BinaryOp}
use Rattle.value_core.specs.declared.operators.BinaryOp.TheVariants.{Add, Sub, Mul, Div, Power, Equal, Unequal, Less, LessEqual, Greater, GreaterEqual}
use Rattle.value_core.specs.declared.operators.PrefixOp.{PrefixOp}
use Rattle.value_core.specs.declared.operators.PrefixOp.TheVariants.{Plus, Minus}
use Rattle.formula_syntax.specs.declared.tokens.Token.{Token}
use Rattle.formula_syntax.specs.declared.tokens.Token.TheVariants as token
use Rattle.formula_syntax.specs.Functions.{shape_of}
use Rattle.formula_syntax.specs.Tree.{Tree, Trees, truth, prefix, binary, call, number, error, reference, tree_list, no_trees, and_trees}
use Rattle.formula_syntax.specs.Grammar.{level_of, sign_written, Derives, AreDerived, AreSome}
use Rattle.formula_syntax.specs.Grammar.Derives.{tighter, operator, sign, a_number, a_truth, an_error, a_reference, parentheses, a_call, a_truth_call}
use Rattle.formula_syntax.specs.Grammar.AreDerived.{none, some}
use Rattle.formula_syntax.specs.Grammar.AreSome.{one, more}
use Rattle.formula_syntax.specs.Reading.{Read, ReadAll, after_signs, with_signs, after_truth, called, parameters_by}
use Rattle.formula_syntax.specs.Reading.{next_by, primary_by, is_fitting, under, HasNone, read, go, several}
use Rattle.formula_syntax.proofs.Fitting.{fits_test, trees_back}

-- what follows doesn't go on with an operand of a level: no operator that binds tighter, and no call
abbrev pub IsLooser : ℕ → List Token → Type 0
IsLooser level [] = Unit {0}
IsLooser level (token.Operator op ∷ ts) = level_of op ≤ level
IsLooser level (token.Open ∷ ts) = ⊥
IsLooser level (t ∷ ts) = Unit {0}

looser_more : (level : ℕ) (rest : List Token) → IsLooser level rest → IsLooser (suc level) rest
looser_more level [] h = tt
looser_more level (token.Operator op ∷ ts) h = omega (arith, h)
looser_more level (token.Open ∷ ts) h = h
looser_more level (token.Number n ∷ ts) h = tt
looser_more level (token.Truth b ∷ ts) h = tt
looser_more level (token.Error k ∷ ts) h = tt
looser_more level (token.Reference r ∷ ts) h = tt
looser_more level (token.Function f ∷ ts) h = tt
looser_more level (token.Close ∷ ts) h = tt
looser_more level (token.Separator ∷ ts) h = tt

pub level_small : (op : BinaryOp) → level_of op < 4
level_small Add = omega arith
level_small Sub = omega arith
level_small Mul = omega arith
level_small Div = omega arith
level_small Power = omega arith
level_small Equal = omega arith
level_small Unequal = omega arith
level_small Less = omega arith
level_small LessEqual = omega arith
level_small Greater = omega arith
level_small GreaterEqual = omega arith

pub looser_none : (level : ℕ) (ts : List Token) → IsLooser level ts → HasNone (suc level) ts
looser_none level [] h op rest e = absurd (cc)
looser_none level (token.Operator o ∷ ts) h op rest e = λ same. let eq : o ≡ op = cc in absurd (omega (arith, h, same, ap level_of eq))
looser_none level (token.Open ∷ ts) h op rest e = absurd h
looser_none level (token.Number n ∷ ts) h op rest e = absurd (cc)
looser_none level (token.Truth b ∷ ts) h op rest e = absurd (cc)
looser_none level (token.Error k ∷ ts) h op rest e = absurd (cc)
looser_none level (token.Reference r ∷ ts) h op rest e = absurd (cc)
looser_none level (token.Function f ∷ ts) h op rest e = absurd (cc)
looser_none level (token.Close ∷ ts) h op rest e = absurd (cc)
looser_none level (token.Separator ∷ ts) h op rest e = absurd (cc)

pub tight_none : (level : ℕ) (ts : List Token) → 4 ≤ level → HasNone level ts
tight_none level ts h op rest e = λ same. absurd (omega (arith, h, same, level_small op))

-- where no operator of the level stands at the front, going on stops
pub go_stops : (m level : ℕ) (t : Tree) (rest : List Token) → HasNone level rest → go (suc m) level t rest ≡ Some (t, rest)
unfolding read go several
go_stops m level t [] h = refl
go_stops m level t (token.Operator op ∷ ts) h =
    let differs : level_of op ≢ level = h op ts refl in
    let test : nat_eq (level_of op) level ≡ false = grind (arith, nat_tests) in
    rw test refl
go_stops m level t (token.Open ∷ ts) h = refl
go_stops m level t (token.Number n ∷ ts) h = refl
go_stops m level t (token.Truth b ∷ ts) h = refl
go_stops m level t (token.Error k ∷ ts) h = refl
go_stops m level t (token.Reference r ∷ ts) h = refl
go_stops m level t (token.Function f ∷ ts) h = refl
go_stops m level t (token.Close ∷ ts) h = refl
go_stops m level t (token.Separator ∷ ts) h = refl

-- an operator of the level at the front, and the operand behind it
pub go_on : (m : ℕ) (op : BinaryOp) (left right : Tree) (ts rest : List Token)
    → read m (suc (level_of op)) ts ≡ Some (right, rest) → go (suc m) (level_of op) left (token.Operator op
    ∷ ts) ≡ go m (level_of op) (binary op left right) rest
unfolding read go several
go_on m op left right ts rest e =
    let test : nat_eq (level_of op) (level_of op) ≡ true = grind (arith, nat_tests) in
    rw test (rw e refl)

-- the steps of reading
pub read_chain : (n level : ℕ) (ts rest : List Token) (t : Tree) → level < 4 → read n (suc level) ts ≡ Some (t, rest)
    → read (suc n) level ts ≡ go n level t rest
unfolding read go several
read_chain n level ts rest t h e =
    let test : nat_lt level 4 ≡ true = grind (arith, nat_tests) in
    rw test (rw e refl)

pub read_signed : (n : ℕ) (ts : List Token) → read (suc n) 4 ts ≡ option_and_then (under (with_signs ts)) (read n 5 (after_signs ts))
unfolding read go several
read_signed n ts = refl

pub read_primary : (n : ℕ) (ts : List Token) → read (suc n) 5 ts ≡ primary_by (λ rest. read n 0 rest) (λ rest. several n [] rest) ts
unfolding read go several
read_primary n ts = refl

pub read_several : (n : ℕ) (done : List Tree) (ts : List Token)
    → several (suc n) done ts ≡ option_and_then (λ p. next_by (λ all rest. several n all rest) (done ++ p.0 ∷ []) p.1)
    (read n 0 ts)
unfolding read go several
read_several n done ts = refl

-- reading comes from tokens, with a rest behind them, to a tree: for each number of steps that are to be left there is one to begin with
abbrev Comes : ℕ → List Token → Tree → List Token → ℕ → Type 0
Comes level ts t rest left = (k : ℕ) × ((n : ℕ) → k ≤ n → (m : ℕ) × (left ≤ m) × (read n level (ts ++ rest) ≡ go m level t rest))

-- the same where no operator of the level follows
abbrev Ends : ℕ → List Token → Tree → List Token → Type 0
Ends level ts t rest = (k : ℕ) × ((n : ℕ) → k ≤ n → read n level (ts ++ rest) ≡ Some (t, rest))

ends_from : (level : ℕ) (ts : List Token) (t : Tree) (rest : List Token) → HasNone level rest → Comes level ts t rest 1 → Ends level ts t rest
ends_from level ts t rest stop (k, f) = (k, λ n h. last n (f n h))
  where
    last : (n : ℕ) → (m : ℕ) × (1 ≤ m) × (read n level (ts ++ rest) ≡ go m level t rest) → read n level (ts ++ rest) ≡ Some (t, rest)
    last n (zero, small, e) = absurd (omega (arith, small))
    last n (suc m, small, e) = e ∙ go_stops m level t rest stop

-- a level is left for the looser one
chained : (level : ℕ) (ts : List Token) (t : Tree) (rest : List Token) (left : ℕ) → level < 4 → Ends (suc level) ts t rest → Comes level ts t rest left
chained level ts t rest left small (k, f) = (suc (k + left), step)
  where
    step : (n : ℕ) → suc (k + left) ≤ n → (m : ℕ) × (left ≤ m) × (read n level (ts ++ rest) ≡ go m level t rest)
    step zero h = absurd (omega (arith, h))
    step (suc n) h = (n, omega (arith, h), read_chain n level (ts ++ rest) rest t small (f n (omega (arith, h))))

-- a result that comes after one step of reading at a level where nothing goes on
settled : (level : ℕ) (ts : List Token) (t : Tree) (rest : List Token) (left : ℕ) → 4 ≤ level → Ends level ts t rest → Comes level ts t rest left
settled level ts t rest left high (k, f) = (k, λ n h. (suc left, omega arith, f n h ∙ sym (go_stops left level t rest (tight_none level rest high))))

-- where nothing that derives begins with a sign
no_sign : (level : ℕ) (ts : List Token) (t : Tree) → 5 ≤ level → Derives level ts t → (rest : List Token)
    → (after_signs (ts ++ rest) ≡ ts ++ rest) × (with_signs (ts ++ rest) t ≡ t)
no_sign _ _ _ high (tighter level ts t small d) rest = absurd (omega (arith, high, small))
no_sign _ _ _ high (operator op front last left right d e) rest = absurd (omega (arith, high, level_small op))
no_sign _ _ _ high (sign op ts t d) rest = absurd (omega (arith, high))
no_sign _ _ _ high (a_number n) rest = (refl, refl)
no_sign _ _ _ high (a_truth b) rest = (refl, refl)
no_sign _ _ _ high (an_error kind) rest = (refl, refl)
no_sign _ _ _ high (a_reference r) rest = (refl, refl)
no_sign _ _ _ high (parentheses ts t d) rest = (refl, refl)
no_sign _ _ _ high (a_call f ts parameters d fits) rest = (refl, refl)
no_sign _ _ _ high (a_truth_call b) rest = (refl, refl)

unsigned : (ts : List Token) (t : Tree) (rest : List Token) → Derives 5 ts t → Ends 5 ts t rest → Ends 4 ts t rest
unsigned ts t rest d (k, f) = (suc k, step)
  where
    step : (n : ℕ) → suc k ≤ n → read n 4 (ts ++ rest) ≡ Some (t, rest)
    step zero h = absurd (omega (arith, h))
    step (suc n) h =
        let (after, with) = no_sign 5 ts t (omega arith) d rest in
        let e : read n 5 (after_signs (ts ++ rest)) ≡ Some (t, rest) = rw after (f n (omega (arith, h))) in
        read_signed n (ts ++ rest) ∙ (rw e (rw with refl))

-- a tree under one more sign
one_more : (o : Read) (f g : Tree → Tree) (t : Tree) (rest : List Token) → option_and_then (under f) o ≡ Some (t, rest)
    → option_and_then (under (λ u. g (f u))) o ≡ Some (g t, rest)
one_more None f g t rest e = absurd (cc)
one_more (Some p) f g t rest e =
    let pair = same_Some (f p.0, p.1) (t, rest) e in
    let a : f p.0 ≡ t = ap (λ (q : Tree × List Token). q.0) pair in
    let b : p.1 ≡ rest = ap (λ (q : Tree × List Token). q.1) pair in
    rw (a, b) refl

signed : (op : PrefixOp) (ts : List Token) (t : Tree) (rest : List Token) → Ends 4 ts t rest → Ends 4 (token.Operator (sign_written op) ∷ ts) (prefix op t) rest
signed op ts t rest (k, f) = (suc k, step)
  where
    by_op : (o : PrefixOp) (n : ℕ) → read (suc n) 4 (ts ++ rest) ≡ Some (t, rest)
        → read (suc n) 4 (token.Operator (sign_written o) ∷ (ts ++ rest)) ≡ Some (prefix o t, rest)
    by_op Plus n e = read_signed n (token.Operator Add ∷ (ts ++ rest))
        ∙ one_more (read n 5 (after_signs (ts ++ rest))) (with_signs (ts ++ rest)) (prefix Plus) t rest
        (sym (read_signed n (ts ++ rest)) ∙ e)
    by_op Minus n e = read_signed n (token.Operator Sub ∷ (ts ++ rest))
        ∙ one_more (read n 5 (after_signs (ts ++ rest))) (with_signs (ts ++ rest)) (prefix Minus) t rest
        (sym (read_signed n (ts ++ rest)) ∙ e)

    step : (n : ℕ) → suc k ≤ n → read n 4 (token.Operator (sign_written op) ∷ (ts ++ rest)) ≡ Some (prefix op t, rest)
    step zero h = absurd (omega (arith, h))
    step (suc n) h = by_op op n (f (suc n) (omega (arith, h)))

-- one step of reading what has no operator outside parentheses
primary : (ts : List Token) (t : Tree) (rest : List Token) (k : ℕ)
    → ((n : ℕ) → k ≤ n → primary_by (λ more. read n 0 more) (λ more. several n [] more) (ts ++ rest) ≡ Some (t, rest))
    → Ends 5 ts t rest
primary ts t rest k f = (suc k, step)
  where
    step : (n : ℕ) → suc k ≤ n → read n 5 (ts ++ rest) ≡ Some (t, rest)
    step zero h = absurd (omega (arith, h))
    step (suc n) h = read_primary n (ts ++ rest) ∙ f n (omega (arith, h))

truth_alone : (level : ℕ) (b : Bool) (rest : List Token) → IsLooser level rest → after_truth b rest ≡ Some (truth b, rest)
truth_alone level b [] h = refl
truth_alone level b (token.Operator op ∷ ts) h = refl
truth_alone level b (token.Open ∷ ts) h = absurd h
truth_alone level b (token.Number n ∷ ts) h = refl
truth_alone level b (token.Truth c ∷ ts) h = refl
truth_alone level b (token.Error k ∷ ts) h = refl
truth_alone level b (token.Reference r ∷ ts) h = refl
truth_alone level b (token.Function f ∷ ts) h = refl
truth_alone level b (token.Close ∷ ts) h = refl
truth_alone level b (token.Separator ∷ ts) h = refl

-- what derives has a first token, and it closes nothing
opens : (s : List Token → ReadAll) (level : ℕ) (ts : List Token) (t : Tree) → Derives level ts t → (rest : List Token)
    → parameters_by s (ts ++ rest) ≡ s (ts ++ rest)
opens s _ _ _ (tighter level ts t small d) rest = opens s (suc level) ts t d rest
opens s _ _ _ (operator op front last left right d e) rest =
    rw (append_assoc front (token.Operator op ∷ last) rest) (opens s (level_of op) front left d (token.Operator op ∷ (last ++ rest)))
opens s _ _ _ (sign op ts t d) rest = refl
opens s _ _ _ (a_number n) rest = refl
opens s _ _ _ (a_truth b) rest = refl
opens s _ _ _ (an_error kind) rest = refl
opens s _ _ _ (a_reference r) rest = refl
opens s _ _ _ (parentheses ts t d) rest = refl
opens s _ _ _ (a_call f ts parameters d fits) rest = refl
opens s _ _ _ (a_truth_call b) rest = refl

opens_some : (s : List Token → ReadAll) (ts : List Token) (all : Trees) → AreSome ts all → (rest : List Token) → parameters_by s (ts ++ rest) ≡ s (ts ++ rest)
opens_some s _ _ (one ts t d) rest = opens s 0 ts t d rest
opens_some s _ _ (more first others t all d e) rest =
    rw (append_assoc first (token.Separator ∷ others) rest) (opens s 0 first t d (token.Separator ∷ (others ++ rest)))

-- the parameters of a call, up to its end
abbrev EndsAll : List Token → Trees → List Token → Type 0
EndsAll ts all rest = (done : List Tree) → (k : ℕ) × ((n : ℕ) → k ≤ n → several n done (ts ++ token.Close ∷ rest) ≡ Some (done ++ tree_list all, rest))

last_parameter : (ts : List Token) (t : Tree) (rest : List Token) → Ends 0 ts t (token.Close ∷ rest) → EndsAll ts (and_trees t no_trees) rest
last_parameter ts t rest (k, f) done = (suc k, step)
  where
    step : (n : ℕ) → suc k ≤ n → several n done (ts ++ token.Close ∷ rest) ≡ Some (done ++ t ∷ [], rest)
    step zero h = absurd (omega (arith, h))
    step (suc n) h = read_several n done (ts ++ token.Close ∷ rest) ∙ rw (f n (omega (arith, h))) refl

one_more_parameter : (first others : List Token) (t : Tree) (all : Trees) (rest : List Token)
    → Ends 0 first t (token.Separator ∷ (others ++ token.Close ∷ rest)) → EndsAll others all rest
    → EndsAll (first ++ token.Separator ∷ others) (and_trees t all) rest
one_more_parameter first others t all rest (k, f) next done = (suc (k + j.0), step)
  where
    j : (k : ℕ) × ((n : ℕ) → k ≤ n → several n (done ++ t ∷ []) (others ++ token.Close ∷ rest) ≡ Some ((done ++ t ∷ []) ++ tree_list all, rest))
    j = next (done ++ t ∷ [])

    step : (n : ℕ) → suc (k + j.0) ≤ n → several n done ((first ++ token.Separator ∷ others) ++ token.Close ∷ rest) ≡ Some (done ++ (t ∷ tree_list all), rest)
    step zero h = absurd (omega (arith, h))
    step (suc n) h =
        let shape = append_assoc first (token.Separator ∷ others) (token.Close ∷ rest) in
        let now : read n 0 ((first ++ token.Separator ∷ others) ++ token.Close ∷ rest) ≡ Some (
          t,
          token.Separator
              ∷ (others ++ token.Close ∷ rest),
        ) = rw shape (f n (omega (arith, h))) in
        let behind = j.1 n (omega (arith, h)) in
        read_several n done ((first ++ token.Separator ∷ others) ++ token.Close ∷ rest)
        ∙ (rw now (behind ∙ rw (append_assoc done (t ∷ []) (tree_list all)) refl))

called_back : (f : _) (all : Trees) (rest : List Token) → is_fitting (shape_of f) (tree_list all) ≡ true
    → called f (tree_list all, rest) ≡ Some (call f all, rest)
called_back f all rest fits = rw fits (rw (trees_back all) refl)

closing : (ts : List Token) (t : Tree) (rest : List Token) → Ends 0 ts t (token.Close ∷ rest) → Ends 5 (token.Open ∷ (ts ++ token.Close ∷ [])) t rest
closing ts t rest (k, f) = primary (token.Open ∷ (ts ++ token.Close ∷ [])) t rest k (λ n h. rw (append_assoc ts (token.Close ∷ []) rest) (rw (f n h) refl))

operated : (op : BinaryOp) (front last : List Token) (l r : Tree) (rest : List Token) (left : ℕ)
    → Ends (suc (level_of op)) last r rest
    → ((j : ℕ) → Comes (level_of op) front l (token.Operator op ∷ (last ++ rest)) j)
    → Comes (level_of op) (front ++ token.Operator op ∷ last) (binary op l r) rest left
operated op front last l r rest left (k, f) from = (c.0, step)
  where
    c : Comes (level_of op) front l (token.Operator op ∷ (last ++ rest)) (suc (k + left))
    c = from (suc (k + left))

    on : (n : ℕ) → (m : ℕ) × (suc (k + left) ≤ m)
        × (read n (level_of op) (front ++ (token.Operator op ∷ (last ++ rest))) ≡ go m (level_of op) l
        (token.Operator op ∷ (last ++ rest))) → (m : ℕ) × (left ≤ m)
        × (read n (level_of op) (front ++ (token.Operator op ∷ (last ++ rest))) ≡ go m (level_of op) (binary op l r)
        rest)
    on n (zero, small, e) = absurd (omega (arith, small))
    on n (suc m, small, e) = (m, omega (arith, small), e ∙ go_on m op l r (last ++ rest) rest (f m (omega (arith, small))))

    step : (n : ℕ) → c.0 ≤ n → (m : ℕ) × (left ≤ m)
        × (read n (level_of op) ((front ++ token.Operator op ∷ last) ++ rest) ≡ go m (level_of op) (binary op l r) rest)
    step n h = rw (append_assoc front (token.Operator op ∷ last) rest) (on n (c.1 n h))

by_level : (level : ℕ) (ts : List Token) (t : Tree) → level < 5 → Derives (suc level) ts t → (rest : List Token)
    → IsLooser level rest → (left : ℕ) → Comes (suc level) ts t rest 1 → Comes level ts t rest left
by_level level ts t small d rest loose left c = elim (cases_lt level 4) [
  | inl below ↦ chained level ts t rest left below (ends_from (suc level) ts t rest (looser_none level rest loose) c)
  | inr from ↦ subst (λ (l : ℕ). Derives (suc l) ts t → Comes (suc l) ts t rest 1 → Comes l ts t rest left) (same from) at_four d c
]
  where
    same : 4 ≤ level → 4 ≡ level
    same h = omega (arith, h, small)

    at_four : Derives 5 ts t → Comes 5 ts t rest 1 → Comes 4 ts t rest left
    at_four d c = settled 4 ts t rest left (omega arith) (unsigned ts t rest d (ends_from 5 ts t rest (tight_none 5 rest (omega arith)) c))

simple : (ts : List Token) (t : Tree) (rest : List Token) (left : ℕ)
    → ((n : ℕ) → 0 ≤ n → primary_by (λ more. read n 0 more) (λ more. several n [] more) (ts ++ rest) ≡ Some (t, rest))
    → Comes 5 ts t rest left
simple ts t rest left f = settled 5 ts t rest left (omega arith) (primary ts t rest 0 f)

no_close : (level : ℕ) (rest : List Token) → HasNone level (token.Close ∷ rest)
no_close level rest op ts e = absurd (cc)

no_separator : (level : ℕ) (rest : List Token) → HasNone level (token.Separator ∷ rest)
no_separator level rest op ts e = absurd (cc)

calling : (f : _) (ts : List Token) (all : Trees) (rest : List Token) → is_fitting (shape_of f) (tree_list all) ≡ true
    → (k : ℕ) × ((n : ℕ) → k ≤ n → parameters_by (λ more. several n [] more) (ts ++ token.Close
    ∷ rest) ≡ Some (tree_list all, rest)) → Ends 5 (token.Function f ∷ token.Open ∷ (ts ++ token.Close ∷ []))
    (call f all) rest
calling f ts all rest fits (k, g) = primary (token.Function f ∷ token.Open ∷ (ts ++ token.Close ∷ [])) (call f all) rest
    k (λ n h. rw (append_assoc ts (token.Close ∷ []) rest) (rw (g n h) (called_back f all rest fits)))

mutual
  pub comes : (level : ℕ) (ts : List Token) (t : Tree) → Derives level ts t → (rest : List Token) → IsLooser level rest
      → (left : ℕ) → Comes level ts t rest left
  comes _ _ _ (tighter level ts t small d) rest loose left =
      by_level level ts t small d rest loose left (comes (suc level) ts t d rest (looser_more level rest loose) 1)
  comes _ _ _ (operator op front last l r d e) rest loose left =
      operated op front last l r rest left
      (ends_from (suc (level_of op)) last r rest (looser_none (level_of op) rest loose)
      (comes (suc (level_of op)) last r e rest (looser_more (level_of op) rest loose) 1))
      (λ j. comes (level_of op) front l d (token.Operator op ∷ (last ++ rest)) (omega arith) j)
  comes _ _ _ (sign op ts t d) rest loose left =
      settled 4 (token.Operator (sign_written op) ∷ ts) (prefix op t) rest left (omega arith)
      (signed op ts t rest (ends_from 4 ts t rest (tight_none 4 rest (omega arith)) (comes 4 ts t d rest loose 1)))
  comes _ _ _ (a_number n) rest loose left = simple (token.Number n ∷ []) (number n) rest left (λ n h. refl)
  comes _ _ _ (a_truth b) rest loose left = simple (token.Truth b ∷ []) (truth b) rest left (λ n h. truth_alone 5 b rest loose)
  comes _ _ _ (an_error kind) rest loose left = simple (token.Error kind ∷ []) (error kind) rest left (λ n h. refl)
  comes _ _ _ (a_reference r) rest loose left = simple (token.Reference r ∷ []) (reference r) rest left (λ n h. refl)
  comes _ _ _ (parentheses ts t d) rest loose left =
      settled 5 (token.Open ∷ (ts ++ token.Close ∷ [])) t rest left (omega arith)
      (closing ts t rest (ends_from 0 ts t (token.Close ∷ rest) (no_close 0 rest) (comes 0 ts t d (token.Close
      ∷ rest) tt 1)))
  comes _ _ _ (a_call f ts parameters d fits) rest loose left =
      settled 5 (token.Function f ∷ token.Open ∷ (ts ++ token.Close ∷ [])) (call f parameters) rest left (omega arith)
      (calling f ts parameters rest (fits_test (shape_of f) (tree_list parameters) fits)
      (all_come ts parameters d rest))
  comes _ _ _ (a_truth_call b) rest loose left = simple (token.Truth b ∷ token.Open ∷ token.Close ∷ []) (truth b) rest left (λ n h. refl)

  all_come : (ts : List Token) (all : Trees) → AreDerived ts all → (rest : List Token) → (k : ℕ)
      × ((n : ℕ) → k ≤ n → parameters_by (λ more. several n [] more) (ts ++ token.Close ∷ rest) ≡ Some (
        tree_list all,
        rest,
      ))
  all_come _ _ none rest = (0, λ n h. refl)
  all_come _ _ (some ts all d) rest =
      let c = some_come ts all d rest [] in
      (c.0, λ n h. opens_some (λ more. several n [] more) ts all d (token.Close ∷ rest) ∙ c.1 n h)

  some_come : (ts : List Token) (all : Trees) → AreSome ts all → (rest : List Token) → EndsAll ts all rest
  some_come _ _ (one ts t d) rest =
      last_parameter ts t rest (ends_from 0 ts t (token.Close ∷ rest) (no_close 0 rest) (comes 0 ts t d (token.Close
      ∷ rest) tt 1))
  some_come _ _ (more first others t all d e) rest =
      let behind = token.Separator ∷ (others ++ token.Close ∷ rest) in
      one_more_parameter first others t all rest (ends_from 0 first t behind (no_separator 0 (others ++ token.Close
      ∷ rest)) (comes 0 first t d behind tt 1)) (some_come others all e rest)

-- what tokens derive is read of them whole
pub read_whole : (ts : List Token) (t : Tree) → Derives 0 ts t → (k : ℕ) × ((n : ℕ) → k ≤ n → read n 0 ts ≡ Some (t, []))
read_whole ts t d =
    let nothing : HasNone 0 [] = λ op rest e. absurd (cc) in
    let c = ends_from 0 ts t [] nothing (comes 0 ts t d [] tt 1) in
    (c.0, λ n h. rw (append-nil ts) at (c.1 n h))

-- tokens derive one tree
pub derived_unique : (ts : List Token) (a b : Tree) → Derives 0 ts a → Derives 0 ts b → a ≡ b
derived_unique ts a b d e =
    let c = read_whole ts a d in
    let o = read_whole ts b e in
    let first : read (c.0 + o.0) 0 ts ≡ Some (a, []) = c.1 (c.0 + o.0) (omega arith) in
    let second : read (c.0 + o.0) 0 ts ≡ Some (b, []) = o.1 (c.0 + o.0) (omega arith) in
    ap (λ (q : Tree × List Token). q.0) (same_Some (a, []) (b, []) (sym first ∙ second))
