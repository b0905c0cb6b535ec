-- What is read is derived by the tokens that were taken.
use Rattle.std.proofs.Common.{◌≡◌, ℕ, zero, suc, ◌<◌, ◌≤◌, inl, inr, Bool, true, false, List, [], ◌∷◌, ◌++◌, refl, sym, ap, ◌∙◌, append_assoc, arith, subst}
use Rattle.std.specs.Prelude.{Option, Some, None, option_and_then, nat_eq, nat_lt}
use Rattle.std.proofs.lemmas.Bool.Decides.{nat_tests}
use Rattle.std.proofs.lemmas.Bool.{cases_lt}
use Rattle.std.proofs.lemmas.Option.{same_Some, none-some}
use Rattle.std.proofs.lemmas.List.{append-nil}
use Rattle.value_core.specs.declared.operators.BinaryOp.{BinaryOp}
use Rattle.value_core.specs.declared.operators.BinaryOp.TheVariants.{Add, Sub, Mul, Div, Power, Equal, Unequal, Less, LessEqual, Greater, GreaterEqual}
use Rattle.value_core.specs.declared.operators.PrefixOp.TheVariants.{Plus, Minus}
use Rattle.formula_syntax.specs.declared.functions.Function.{Function}
use Rattle.formula_syntax.specs.declared.tokens.Token.{Token}
use Rattle.formula_syntax.specs.declared.tokens.Token.TheVariants as token
use Rattle.formula_syntax.specs.Functions.{shape_of}
use Rattle.formula_syntax.specs.Tree.{Tree, Trees, truth, binary, call, number, error, reference, tree_list, trees_from, no_trees, and_trees, Fits}
use Rattle.formula_syntax.specs.Grammar.{level_of, Derives, AreDerived, AreSome}
use Rattle.formula_syntax.specs.Grammar.Derives.{tighter, operator, sign, a_number, a_truth, an_error, a_reference, parentheses, a_call, a_truth_call}
use Rattle.formula_syntax.specs.Grammar.AreDerived.{none, some}
use Rattle.formula_syntax.specs.Grammar.AreSome.{one, more}
use Rattle.formula_syntax.specs.Reading.{after_signs, with_signs, closed, after_truth, called, parameters_by, call_by}
use Rattle.formula_syntax.specs.Reading.{next_by, primary_by, is_fitting, under, read, go, several}
use Rattle.formula_syntax.proofs.Fitting.{test_fits}
use Rattle.formula_syntax.proofs.Complete.{read_signed, read_primary, read_several}

-- tokens that derive a tree, and the rest behind them
pub record Taken (level : ℕ) (ts : List Token) (t : Tree) (rest : List Token) : Type 0 where
  pub taken : List Token
  pub split : ts ≡ taken ++ rest
  pub derived : Derives level taken t

-- tokens that go on from others
record Gone (level : ℕ) (front ts : List Token) (t : Tree) (rest : List Token) : Type 0 where
  taken : List Token
  split : ts ≡ taken ++ rest
  derived : Derives level (front ++ taken) t

-- tokens that are further parameters up to the end of a call
record Given (done : List Tree) (ts : List Token) (all : List Tree) (rest : List Token) : Type 0 where
  taken : List Token
  trees : Trees
  split : ts ≡ taken ++ token.Close ∷ rest
  derived : AreSome taken trees
  all_is : all ≡ done ++ tree_list trees

abbrev ReadSound : ℕ → Type 0
ReadSound n = (level : ℕ) → level ≤ 5 → (ts : List Token) (t : Tree) (rest : List Token) → read n level ts ≡ Some (t, rest) → Taken level ts t rest

abbrev GoSound : ℕ → Type 0
GoSound n = (level : ℕ) → level < 4 → (left : Tree) (front ts : List Token) (t : Tree) (rest : List Token)
    → Derives level front left → go n level left ts ≡ Some (t, rest) → Gone level front ts t rest

abbrev SeveralSound : ℕ → Type 0
SeveralSound n = (done : List Tree) (ts : List Token) (all : List Tree) (rest : List Token) → several n done ts ≡ Some (all, rest) → Given done ts all rest

bind_some : {A B : Type 0} (f : A → Option B) (o : Option A) (y : B) → option_and_then f o ≡ Some y → (x : A) × (o ≡ Some x) × (f x ≡ Some y)
bind_some f None y e = absurd (none-some y e)
bind_some f (Some x) y e = (x, refl, e)

-- an Ok pair, part by part
abbrev with_rest : {A : Type 0} → A → List Token → Option (A × List Token)
with_rest a x = Some (a, x)

pair_of : {A : Type 0} (a b : A) (x y : List Token) → with_rest a x ≡ with_rest b y → (a ≡ b) × (x ≡ y)
pair_of {A} a b x y e =
    let pair : ◌≡◌ {A = A × List Token} (a, x) (b, y) = same_Some (a, x) (b, y) e in
    (ap (λ (q : A × List Token). q.0) pair, ap (λ (q : A × List Token). q.1) pair)

at_taken : (level : ℕ) (ts taken : List Token) (t u : Tree) (rest more : List Token) → u ≡ t → more ≡ rest → ts ≡ taken
    ++ more → Derives level taken u → Taken level ts t rest
at_taken level ts taken t u rest back same still split d =
    record {
      taken = taken;
      split = split ∙ ap (λ r. taken ++ r) still;
      derived = subst (λ v. Derives level taken v) same d;
    }

pub chain_is : (n level : ℕ) (ts : List Token) → level < 4 → read (suc n) level ts ≡ option_and_then (λ p. go n level p.0 p.1) (read n (suc level) ts)
unfolding read go several
chain_is n level ts h =
    let test : nat_lt level 4 ≡ true = grind (arith, nat_tests) in
    rw test refl

chain_sound : (n : ℕ) → ReadSound n → GoSound n → (level : ℕ) → level < 4
    → (ts : List Token) (t : Tree) (rest : List Token) → read (suc n) level ts ≡ Some (t, rest) → Taken level ts t rest
chain_sound n reads goes level below ts t rest e =
    let (p, e1, e2) = bind_some (λ p. go n level p.0 p.1) (read n (suc level) ts) (t, rest) (sym (chain_is n level ts below) ∙ e) in
    let first = reads (suc level) (omega arith) ts p.0 p.1 e1 in
    let then' = goes level below p.0 first.taken p.1 t rest (tighter level first.taken p.0 (omega arith) first.derived) e2 in
    record {
      taken = first.taken ++ then'.taken;
      split = first.split ∙ (ap (λ r. first.taken ++ r) then'.split ∙ sym (append_assoc first.taken then'.taken rest));
      derived = then'.derived;
    }

-- signs before what is taken
signs_sound : (ts : List Token) (u : Tree) (rest : List Token) → Taken 4 (after_signs ts) u rest → Taken 4 ts (with_signs ts u) rest
signs_sound [] u rest k = k
signs_sound (token.Operator Add ∷ ts) u rest k =
    let s = signs_sound ts u rest k in
    record { taken = token.Operator Add ∷ s.taken; split = ap (λ r. token.Operator Add ∷ r) s.split; derived = sign Plus s.taken (with_signs ts u) s.derived }
signs_sound (token.Operator Sub ∷ ts) u rest k =
    let s = signs_sound ts u rest k in
    record { taken = token.Operator Sub ∷ s.taken; split = ap (λ r. token.Operator Sub ∷ r) s.split; derived = sign Minus s.taken (with_signs ts u) s.derived }
signs_sound (token.Operator Mul ∷ ts) u rest k = k
signs_sound (token.Operator Div ∷ ts) u rest k = k
signs_sound (token.Operator Power ∷ ts) u rest k = k
signs_sound (token.Operator Equal ∷ ts) u rest k = k
signs_sound (token.Operator Unequal ∷ ts) u rest k = k
signs_sound (token.Operator Less ∷ ts) u rest k = k
signs_sound (token.Operator LessEqual ∷ ts) u rest k = k
signs_sound (token.Operator Greater ∷ ts) u rest k = k
signs_sound (token.Operator GreaterEqual ∷ ts) u rest k = k
signs_sound (token.Open ∷ ts) u rest k = k
signs_sound (token.Number n ∷ ts) u rest k = k
signs_sound (token.Truth b ∷ ts) u rest k = k
signs_sound (token.Error e ∷ ts) u rest k = k
signs_sound (token.Reference r ∷ ts) u rest k = k
signs_sound (token.Function f ∷ ts) u rest k = k
signs_sound (token.Close ∷ ts) u rest k = k
signs_sound (token.Separator ∷ ts) u rest k = k

signed_sound : (n : ℕ) → ReadSound n → (ts : List Token) (t : Tree) (rest : List Token) → read (suc n) 4 ts ≡ Some (t, rest) → Taken 4 ts t rest
signed_sound n reads ts t rest e =
    let (p, e1, e2) = bind_some (under (with_signs ts)) (read n 5 (after_signs ts)) (t, rest) (sym (read_signed n ts) ∙ e) in
    let (same, still) = pair_of (with_signs ts p.0) t p.1 rest e2 in
    let k = reads 5 (omega arith) (after_signs ts) p.0 p.1 e1 in
    let four : Taken 4 (after_signs ts) p.0 p.1 = record { taken = k.taken; split = k.split; derived = tighter 4 k.taken p.0 (omega arith) k.derived } in
    let s = signs_sound ts p.0 p.1 four in
    at_taken 4 ts s.taken t (with_signs ts p.0) rest p.1 same still s.split s.derived

-- the closing parenthesis behind a tree
closed_is : (u t : Tree) (more rest : List Token) → closed u more ≡ Some (t, rest) → (u ≡ t) × (more ≡ token.Close ∷ rest)
closed_is u t [] rest e = absurd (none-some (t, rest) e)
closed_is u t (token.Close ∷ ts) rest e = let (a, b) = pair_of u t ts rest e in (a, ap (λ r. token.Close ∷ r) b)
closed_is u t (token.Open ∷ ts) rest e = absurd (none-some (t, rest) e)
closed_is u t (token.Separator ∷ ts) rest e = absurd (none-some (t, rest) e)
closed_is u t (token.Operator op ∷ ts) rest e = absurd (none-some (t, rest) e)
closed_is u t (token.Number n ∷ ts) rest e = absurd (none-some (t, rest) e)
closed_is u t (token.Truth b ∷ ts) rest e = absurd (none-some (t, rest) e)
closed_is u t (token.Error k ∷ ts) rest e = absurd (none-some (t, rest) e)
closed_is u t (token.Reference r ∷ ts) rest e = absurd (none-some (t, rest) e)
closed_is u t (token.Function f ∷ ts) rest e = absurd (none-some (t, rest) e)

truth_sound : (b : Bool) (ts : List Token) (t : Tree) (rest : List Token) → after_truth b ts ≡ Some (t, rest) → Taken 5 (token.Truth b ∷ ts) t rest
truth_sound b (token.Open ∷ ts) t rest e =
    let (same, still) = closed_is (truth b) t ts rest e in
    record {
      taken = token.Truth b ∷ token.Open ∷ token.Close ∷ [];
      split = ap (λ r. token.Truth b ∷ token.Open
          ∷ r) still;
      derived = subst (λ v. Derives 5 (token.Truth b ∷ token.Open ∷ token.Close ∷ []) v) same
          (a_truth_call b);
    }
truth_sound b [] t rest e =
    let (same, still) = pair_of (truth b) t [] rest e in at_taken 5 (token.Truth b ∷ []) (token.Truth b
    ∷ []) t (truth b) rest [] same still refl (a_truth b)
truth_sound b (token.Close ∷ ts) t rest e =
    let (same, still) = pair_of (truth b) t (token.Close ∷ ts) rest e in
    at_taken 5 _ (token.Truth b ∷ []) t (truth b) rest (token.Close ∷ ts) same still refl (a_truth b)
truth_sound b (token.Separator ∷ ts) t rest e = let (same, still) = pair_of (truth b) t (token.Separator ∷ ts) rest e in
    at_taken 5 _ (token.Truth b ∷ []) t (truth b) rest (token.Separator ∷ ts) same still refl (a_truth b)
truth_sound b (token.Operator op ∷ ts) t rest e =
    let (same, still) = pair_of (truth b) t (token.Operator op ∷ ts) rest e in
    at_taken 5 _ (token.Truth b ∷ []) t (truth b) rest (token.Operator op ∷ ts) same still refl (a_truth b)
truth_sound b (token.Number n ∷ ts) t rest e =
    let (same, still) = pair_of (truth b) t (token.Number n ∷ ts) rest e in
    at_taken 5 _ (token.Truth b ∷ []) t (truth b) rest (token.Number n ∷ ts) same still refl (a_truth b)
truth_sound b (token.Truth c ∷ ts) t rest e =
    let (same, still) = pair_of (truth b) t (token.Truth c ∷ ts) rest e in
    at_taken 5 _ (token.Truth b ∷ []) t (truth b) rest (token.Truth c ∷ ts) same still refl (a_truth b)
truth_sound b (token.Error k ∷ ts) t rest e =
    let (same, still) = pair_of (truth b) t (token.Error k ∷ ts) rest e in
    at_taken 5 _ (token.Truth b ∷ []) t (truth b) rest (token.Error k ∷ ts) same still refl (a_truth b)
truth_sound b (token.Reference r ∷ ts) t rest e =
    let (same, still) = pair_of (truth b) t (token.Reference r ∷ ts) rest e in
    at_taken 5 _ (token.Truth b ∷ []) t (truth b) rest (token.Reference r ∷ ts) same still refl (a_truth b)
truth_sound b (token.Function f ∷ ts) t rest e =
    let (same, still) = pair_of (truth b) t (token.Function f ∷ ts) rest e in
    at_taken 5 _ (token.Truth b ∷ []) t (truth b) rest (token.Function f ∷ ts) same still refl (a_truth b)

-- a list of parameters that is read as a call's
record Parameters (ts : List Token) (all : List Tree) (rest : List Token) : Type 0 where
  taken : List Token
  trees : Trees
  split : ts ≡ taken ++ token.Close ∷ rest
  derived : AreDerived taken trees
  all_is : all ≡ tree_list trees

by_several : (n : ℕ) → SeveralSound n → (ts : List Token) (all : List Tree) (rest : List Token) → several n [] ts ≡ Some (all, rest) → Parameters ts all rest
by_several n severals ts all rest e =
    let g = severals [] ts all rest e in
    record { taken = g.taken; trees = g.trees; split = g.split; derived = some g.taken g.trees g.derived; all_is = g.all_is }

parameters_sound : (n : ℕ) → SeveralSound n → (ts : List Token) (all : List Tree) (rest : List Token)
    → parameters_by (λ more. several n [] more) ts ≡ Some (all, rest) → Parameters ts all rest
parameters_sound n severals (token.Close ∷ ts) all rest e =
    let (same, still) = pair_of [] all ts rest e in
    record { taken = []; trees = no_trees; split = ap (λ r. token.Close ∷ r) still; derived = none; all_is = sym same }
parameters_sound n severals [] all rest e = by_several n severals _ all rest e
parameters_sound n severals (token.Open ∷ ts) all rest e = by_several n severals _ all rest e
parameters_sound n severals (token.Separator ∷ ts) all rest e = by_several n severals _ all rest e
parameters_sound n severals (token.Operator op ∷ ts) all rest e = by_several n severals _ all rest e
parameters_sound n severals (token.Number x ∷ ts) all rest e = by_several n severals _ all rest e
parameters_sound n severals (token.Truth b ∷ ts) all rest e = by_several n severals _ all rest e
parameters_sound n severals (token.Error k ∷ ts) all rest e = by_several n severals _ all rest e
parameters_sound n severals (token.Reference r ∷ ts) all rest e = by_several n severals _ all rest e
parameters_sound n severals (token.Function f ∷ ts) all rest e = by_several n severals _ all rest e

fitted : (f : Function) (p : List Tree × List Token) (t : Tree) (rest : List Token) → called f p ≡ Some (t, rest)
    → Fits (shape_of f) p.0 × (call f (trees_from p.0) ≡ t) × (p.1 ≡ rest)
fitted f p t rest e = by_test (is_fitting (shape_of f) p.0) refl
  where
    by_test : (b : Bool) → is_fitting (shape_of f) p.0 ≡ b → Fits (shape_of f) p.0 × (call f (trees_from p.0) ≡ t) × (p.1 ≡ rest)
    by_test true holds =
        let (same, still) = pair_of (call f (trees_from p.0)) t p.1 rest (rw holds at e) in
        (test_fits (shape_of f) p.0 holds, same, still)
    by_test false fails = absurd (none-some (t, rest) (rw fails at e))

trees_same : (trees : Trees) → trees_from (tree_list trees) ≡ trees
trees_same no_trees = refl
trees_same (and_trees t rest) = ap (λ r. and_trees t r) (trees_same rest)

call_sound : (n : ℕ) → SeveralSound n → (f : Function) (ts : List Token) (t : Tree) (rest : List Token)
    → option_and_then (called f) (parameters_by (λ more. several n [] more) ts) ≡ Some (t, rest)
    → Taken 5 (token.Function f ∷ token.Open ∷ ts) t rest
call_sound n severals f ts t rest e =
    let (p, e1, e2) = bind_some (called f) (parameters_by (λ more. several n [] more) ts) (t, rest) e in
    let (fits, same, still) = fitted f p t rest e2 in
    let ps = parameters_sound n severals ts p.0 p.1 e1 in
    let fits_trees : Fits (shape_of f) (tree_list ps.trees) = subst (λ (l : List Tree). Fits (shape_of f) l) ps.all_is fits in
    let same_call : call f ps.trees ≡ t = sym (ap (λ (l : Trees). call f l) (ap trees_from ps.all_is ∙ trees_same ps.trees)) ∙ same in
    record {
      taken = token.Function f ∷ token.Open ∷ (ps.taken ++ token.Close ∷ []);
      split = ap (λ r. token.Function f ∷ token.Open ∷ r) (ps.split ∙ (ap (λ r. ps.taken ++ token.Close ∷ r) still
          ∙ sym (append_assoc ps.taken (token.Close ∷ []) rest)));
      derived = subst (λ v. Derives 5 (token.Function f ∷ token.Open ∷ (ps.taken ++ token.Close ∷ [])) v) same_call
          (a_call f ps.taken ps.trees ps.derived fits_trees);
    }

open_sound : (n : ℕ) → ReadSound n → (ts : List Token) (t : Tree) (rest : List Token)
    → option_and_then (λ p. closed p.0 p.1) (read n 0 ts) ≡ Some (t, rest) → Taken 5 (token.Open ∷ ts) t rest
open_sound n reads ts t rest e =
    let (p, e1, e2) = bind_some (λ p. closed p.0 p.1) (read n 0 ts) (t, rest) e in
    let (same, still) = closed_is p.0 t p.1 rest e2 in
    let k = reads 0 (omega arith) ts p.0 p.1 e1 in
    record {
      taken = token.Open ∷ (k.taken ++ token.Close ∷ []);
      split = ap (λ r. token.Open ∷ r) (k.split ∙ (ap (λ r. k.taken ++ r) still ∙ sym (append_assoc k.taken (token.Close ∷ []) rest)));
      derived = subst (λ v. Derives 5 (token.Open ∷ (k.taken ++ token.Close ∷ [])) v) same (parentheses k.taken p.0 k.derived);
    }

call_by_sound : (n : ℕ) → SeveralSound n → (f : Function) (ts : List Token) (t : Tree) (rest : List Token)
    → call_by (λ more. several n [] more) f ts ≡ Some (t, rest) → Taken 5 (token.Function f ∷ ts) t rest
call_by_sound n severals f (token.Open ∷ ts) t rest e = call_sound n severals f ts t rest e
call_by_sound n severals f [] t rest e = absurd (none-some (t, rest) e)
call_by_sound n severals f (token.Close ∷ ts) t rest e = absurd (none-some (t, rest) e)
call_by_sound n severals f (token.Separator ∷ ts) t rest e = absurd (none-some (t, rest) e)
call_by_sound n severals f (token.Operator op ∷ ts) t rest e = absurd (none-some (t, rest) e)
call_by_sound n severals f (token.Number x ∷ ts) t rest e = absurd (none-some (t, rest) e)
call_by_sound n severals f (token.Truth b ∷ ts) t rest e = absurd (none-some (t, rest) e)
call_by_sound n severals f (token.Error k ∷ ts) t rest e = absurd (none-some (t, rest) e)
call_by_sound n severals f (token.Reference r ∷ ts) t rest e = absurd (none-some (t, rest) e)
call_by_sound n severals f (token.Function g ∷ ts) t rest e = absurd (none-some (t, rest) e)

primary_sound : (n : ℕ) → ReadSound n → SeveralSound n → (ts : List Token) (t : Tree) (rest : List Token)
    → primary_by (λ more. read n 0 more) (λ more. several n [] more) ts ≡ Some (t, rest) → Taken 5 ts t rest
primary_sound n reads severals [] t rest e = absurd (none-some (t, rest) e)
primary_sound n reads severals (token.Close ∷ ts) t rest e = absurd (none-some (t, rest) e)
primary_sound n reads severals (token.Separator ∷ ts) t rest e = absurd (none-some (t, rest) e)
primary_sound n reads severals (token.Operator op ∷ ts) t rest e = absurd (none-some (t, rest) e)
primary_sound n reads severals (token.Number x ∷ ts) t rest e =
    let (same, still) = pair_of (number x) t ts rest e in at_taken 5 (token.Number x ∷ ts) (token.Number x
    ∷ []) t (number x) rest ts same still refl (a_number x)
primary_sound n reads severals (token.Truth b ∷ ts) t rest e = truth_sound b ts t rest e
primary_sound n reads severals (token.Error k ∷ ts) t rest e =
    let (same, still) = pair_of (error k) t ts rest e in at_taken 5 (token.Error k ∷ ts) (token.Error k
    ∷ []) t (error k) rest ts same still refl (an_error k)
primary_sound n reads severals (token.Reference r ∷ ts) t rest e =
    let (same, still) = pair_of (reference r) t ts rest e in at_taken 5 (token.Reference r ∷ ts) (token.Reference r
    ∷ []) t (reference r) rest ts same still refl (a_reference r)
primary_sound n reads severals (token.Function f ∷ ts) t rest e = call_by_sound n severals f ts t rest e
primary_sound n reads severals (token.Open ∷ ts) t rest e = open_sound n reads ts t rest e

read_step : (n : ℕ) → ReadSound n → GoSound n → SeveralSound n → ReadSound (suc n)
read_step n reads goes severals level small ts t rest e = elim (cases_lt level 4) [
  | inl below ↦ chain_sound n reads goes level below ts t rest e
  | inr from ↦ elim (cases_lt level 5) [
    | inl four ↦ subst (λ (l : ℕ). read (suc n) l ts ≡ Some (t, rest) → Taken l ts t rest) (is_four from four) (λ f. signed_sound n reads ts t rest f) e
    | inr five ↦ subst (λ (l : ℕ). read (suc n) l ts ≡ Some (t, rest) → Taken l ts t rest) (is_five five)
        (λ f. primary_sound n reads severals ts t rest (sym (read_primary n ts) ∙ f)) e
  ]
]
  where
    is_four : 4 ≤ level → level < 5 → 4 ≡ level
    is_four h k = omega (arith, h, k)

    is_five : 5 ≤ level → 5 ≡ level
    is_five h = omega (arith, h, small)

stays : (level : ℕ) (front ts : List Token) (left t : Tree) (rest : List Token) → Derives level front left → (left ≡ t)
    × (ts ≡ rest) → Gone level front ts t rest
stays level front ts left t rest d (same, still) =
    record { taken = []; split = still; derived = rw append-nil (subst (λ v. Derives level front v) same d) }

goes_on : (n : ℕ) → ReadSound n → GoSound n → (level : ℕ) → level < 4 → (op : BinaryOp) → level_of op ≡ level
    → (left : Tree) (front ts : List Token) (t : Tree) (rest : List Token) → Derives level front left
    → option_and_then (λ p. go n level (binary op left p.0) p.1) (read n (suc level) ts) ≡ Some (t, rest)
    → Gone level front (token.Operator op ∷ ts) t rest
goes_on n reads goes level below op at left front ts t rest d e =
    let (p, e1, e2) = bind_some (λ p. go n level (binary op left p.0) p.1) (read n (suc level) ts) (t, rest) e in
    let k = reads (suc level) (omega arith) ts p.0 p.1 e1 in
    let both : Derives level (front ++ token.Operator op ∷ k.taken) (binary op left p.0) =
    subst (λ (l : ℕ). Derives l front left → Derives (suc l) k.taken p.0 → Derives l (front ++ token.Operator op
    ∷ k.taken) (binary op left p.0)) at (λ a b. operator op front k.taken left p.0 a b) d k.derived in
    let g = goes level below (binary op left p.0) (front ++ token.Operator op ∷ k.taken) p.1 t rest both e2 in
    record {
      taken = token.Operator op ∷ (k.taken ++ g.taken);
      split = ap (λ r. token.Operator op ∷ r) (k.split ∙ (ap (λ r. k.taken ++ r) g.split ∙ sym (append_assoc k.taken g.taken rest)));
      derived = subst (λ (l : List Token). Derives level l t) (append_assoc front (token.Operator op ∷ k.taken) g.taken) g.derived;
    }

go_step : (n : ℕ) → ReadSound n → GoSound n → GoSound (suc n)
unfolding read go several
go_step n reads goes level below left front [] t rest d e = stays level front [] left t rest d (pair_of left t [] rest e)
go_step n reads goes level below left front (token.Operator op ∷ ts) t rest d e = by_test (nat_eq (level_of op) level) refl
  where
    by_test : (b : Bool) → nat_eq (level_of op) level ≡ b → Gone level front (token.Operator op ∷ ts) t rest
    by_test true holds = goes_on n reads goes level below op (grind (arith, nat_tests)) left front ts t rest d (rw holds at e)
    by_test false fails = stays level front (token.Operator op ∷ ts) left t rest d (pair_of left t (token.Operator op ∷ ts) rest (rw fails at e))
go_step n reads goes level below left front (token.Open ∷ ts) t rest d e =
    stays level front (token.Open ∷ ts) left t rest d (pair_of left t (token.Open ∷ ts) rest e)
go_step n reads goes level below left front (token.Close ∷ ts) t rest d e =
    stays level front (token.Close ∷ ts) left t rest d (pair_of left t (token.Close ∷ ts) rest e)
go_step n reads goes level below left front (token.Separator ∷ ts) t rest d e =
    stays level front (token.Separator ∷ ts) left t rest d (pair_of left t (token.Separator ∷ ts) rest e)
go_step n reads goes level below left front (token.Number x ∷ ts) t rest d e =
    stays level front (token.Number x ∷ ts) left t rest d (pair_of left t (token.Number x ∷ ts) rest e)
go_step n reads goes level below left front (token.Truth b ∷ ts) t rest d e =
    stays level front (token.Truth b ∷ ts) left t rest d (pair_of left t (token.Truth b ∷ ts) rest e)
go_step n reads goes level below left front (token.Error k ∷ ts) t rest d e =
    stays level front (token.Error k ∷ ts) left t rest d (pair_of left t (token.Error k ∷ ts) rest e)
go_step n reads goes level below left front (token.Reference r ∷ ts) t rest d e =
    stays level front (token.Reference r ∷ ts) left t rest d (pair_of left t (token.Reference r ∷ ts) rest e)
go_step n reads goes level below left front (token.Function f ∷ ts) t rest d e =
    stays level front (token.Function f ∷ ts) left t rest d (pair_of left t (token.Function f ∷ ts) rest e)

next_sound : (n : ℕ) → SeveralSound n → (done : List Tree) (first : Tree) (ts taken behind : List Token) → ts ≡ taken
    ++ behind → Derives 0 taken first → (all : List Tree) (rest : List Token)
    → next_by (λ all rest. several n all rest) (done ++ first ∷ []) behind ≡ Some (all, rest) → Given done ts all rest
next_sound n severals done first ts taken (token.Close ∷ r) split d all rest e =
    let (same, still) = pair_of (done ++ first ∷ []) all r rest e in
    record {
      taken = taken;
      trees = and_trees first no_trees;
      split = split ∙ ap (λ u. taken ++ token.Close ∷ u) still;
      derived = one taken first d;
      all_is = sym same;
    }
next_sound n severals done first ts taken (token.Separator ∷ r) split d all rest e =
    let g = severals (done ++ first ∷ []) r all rest e in
    record {
      taken = taken ++ token.Separator ∷ g.taken;
      trees = and_trees first g.trees;
      split = split ∙ (ap (λ u. taken ++ token.Separator ∷ u) g.split ∙ sym (append_assoc taken (token.Separator ∷ g.taken) (token.Close ∷ rest)));
      derived = more taken g.taken first g.trees d g.derived;
      all_is = g.all_is ∙ append_assoc done (first ∷ []) (tree_list g.trees);
    }
next_sound n severals done first ts taken [] split d all rest e = absurd (none-some (all, rest) e)
next_sound n severals done first ts taken (token.Open ∷ r) split d all rest e = absurd (none-some (all, rest) e)
next_sound n severals done first ts taken (token.Operator op ∷ r) split d all rest e = absurd (none-some (all, rest) e)
next_sound n severals done first ts taken (token.Number x ∷ r) split d all rest e = absurd (none-some (all, rest) e)
next_sound n severals done first ts taken (token.Truth b ∷ r) split d all rest e = absurd (none-some (all, rest) e)
next_sound n severals done first ts taken (token.Error k ∷ r) split d all rest e = absurd (none-some (all, rest) e)
next_sound n severals done first ts taken (token.Reference x ∷ r) split d all rest e = absurd (none-some (all, rest) e)
next_sound n severals done first ts taken (token.Function f ∷ r) split d all rest e = absurd (none-some (all, rest) e)

several_step : (n : ℕ) → ReadSound n → SeveralSound n → SeveralSound (suc n)
several_step n reads severals done ts all rest e =
    let (p, e1, e2) = bind_some (λ p. next_by (λ all rest. several n all rest) (done ++ p.0 ∷ []) p.1) (read n 0 ts)
    (all, rest) (sym (read_several n done ts) ∙ e) in
    let k = reads 0 (omega arith) ts p.0 p.1 e1 in
    next_sound n severals done p.0 ts k.taken p.1 k.split k.derived all rest e2

-- every number of steps reads what is derived
record Sound (n : ℕ) : Type 0 where
  reads : ReadSound n
  goes : GoSound n
  severals : SeveralSound n

sound : (n : ℕ) → Sound n
unfolding read go several
sound zero = record {
  reads = λ level small ts t rest e. absurd (none-some (t, rest) e);
  goes = λ level below left front ts t rest d e. absurd (none-some (t, rest) e);
  severals = λ done ts all rest e. absurd (none-some (all, rest) e);
}
sound (suc n) = let s = sound n in record {
  reads = read_step n s.reads s.goes s.severals;
  goes = go_step n s.reads s.goes;
  severals = several_step n s.reads s.severals;
}

-- what is read of all tokens, they derive
pub read_derives : (n : ℕ) (ts : List Token) (t : Tree) → read n 0 ts ≡ Some (t, []) → Derives 0 ts t
read_derives n ts t e =
    let k = (sound n).reads 0 (omega arith) ts t [] e in
    subst (λ (l : List Token). Derives 0 l t) (sym (k.split ∙ append-nil k.taken)) k.derived
