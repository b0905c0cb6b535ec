-- Reading step by step, as the reader goes: with enough steps, whatever their number is.
use Rattle.std.proofs.Common.{◌≡◌, ℕ, zero, suc, ◌+◌, ◌*◌, ◌-◌, ◌<◌, ◌≤◌, true, false, List, [], ◌∷◌, ◌++◌, length, refl, sym, ap, ◌∙◌, arith, subst}
use Rattle.std.specs.Prelude.{Some, None, nat_eq, Result, Ok, Err, Vec}
use Rattle.std.specs.Borrow.{Bor}
use Rattle.std.specs.declared.alloc.Global.{Global}
use Rattle.formula_syntax.specs.declared.tree.Node.{Node}
use Rattle.formula_syntax.specs.declared.functions.Function.{Function}
use Rattle.formula_syntax.specs.Functions.{shape_of}
use Rattle.std.proofs.lemmas.Bool.Decides.{nat_tests}
use Rattle.formula_syntax.specs.declared.parser.Unread.{Unread}
use Rattle.formula_syntax.specs.declared.parser.Unread.TheVariants.{NotFormula, Memory}
use Rattle.value_core.specs.declared.operators.BinaryOp.{BinaryOp}
use Rattle.formula_syntax.specs.declared.tokens.Token.{Token}
use Rattle.formula_syntax.specs.declared.tokens.Token.TheVariants as token
use Rattle.formula_syntax.specs.Tree.{Tree, binary, call, trees_from, tree_of}
use Rattle.formula_syntax.specs.Grammar.{level_of}
use Rattle.formula_syntax.specs.Reading.{Read, ReadAll, after_signs, with_signs, under, closed, parameters_by, next_by}
use Rattle.formula_syntax.specs.Reading.{read, go, several, is_fitting, HasNone, HasNoneFrom, HasNoClose}
use Rattle.formula_syntax.specs.Reading.{HasNoSeparator, Answers, AnswersAll, steps, primary_at, grouped_at}
use Rattle.formula_syntax.specs.Reading.{parameters_at, call_at}
use Rattle.formula_syntax.proofs.Complete.{level_small, go_stops, go_on, read_chain, read_signed, read_primary, read_several}
use Rattle.formula_syntax.proofs.Sound.{chain_is}

-- reading at a level has come to a tree and a rest, with steps left for the rest
abbrev pub Leads : ℕ → List Token → Tree → List Token → Type 0
Leads at ts left rest = (n : ℕ) → steps at ts ≤ n → (m : ℕ) × (8 * length rest + 2 ≤ m) × (read n at ts ≡ go m at left rest)

abbrev pub LeadsAll : List Token → List Tree → List Token → Type 0
LeadsAll ts done rest = (n : ℕ) → steps 0 ts + 1 ≤ n → (m : ℕ) × (8 * length rest + 7 ≤ m) × (several n [] ts ≡ several m done rest)

-- where a reader of the next level has read, and where it has not
abbrev pub Reads : ℕ → List Token → Tree → List Token → Type 0
Reads at ts t rest = (n : ℕ) → steps at ts ≤ n → read n at ts ≡ Some (t, rest)

abbrev pub Fails : ℕ → List Token → Type 0
Fails at ts = (n : ℕ) → steps at ts ≤ n → read n at ts ≡ None

chain_starts : (at next : ℕ) (ts rest : List Token) (t : Tree) → next ≡ suc at → at < 4 → length rest < length ts → Reads next ts t rest → Leads at ts t rest
chain_starts at next ts rest t is small shorter reads zero h = absurd (omega (arith, h, small))
chain_starts at next ts rest t is small shorter reads (suc n) h = (
  n,
  omega (arith, h, small, shorter),
  read_chain n at ts rest t small (subst (λ (l : ℕ). read n l ts ≡ Some (t, rest)) is
      (reads n (omega (arith, h, small, is)))),
)

chain_fails : (at next : ℕ) (ts : List Token) (e : Unread) → next ≡ suc at → at < 4
    → Answers (λ n. read n next ts) (steps next ts) (Err e) → Answers (λ n. read n at ts) (steps at ts) (Err e)
chain_fails at next ts Memory is small h = tt
chain_fails at next ts NotFormula is small h = fails
  where
    fails : Fails at ts
    fails zero k = absurd (omega (arith, k, small))
    fails (suc n) k = chain_is n at ts small ∙ (rw (subst (λ (l : ℕ). read n l ts ≡ None) is (h n (omega (arith, k, small, is)))) refl)

chain_ends : (at : ℕ) (ts rest : List Token) (t : Tree) → HasNone at rest → Leads at ts t rest → Reads at ts t rest
chain_ends at ts rest t stop leads n h = last (leads n h)
  where
    last : (m : ℕ) × (8 * length rest + 2 ≤ m) × (read n at ts ≡ go m at t rest) → read n at ts ≡ Some (t, rest)
    last (zero, some, e) = absurd (omega (arith, some))
    last (suc m, some, e) = e ∙ go_stops m at t rest stop

chain_more : (at next : ℕ) (op : BinaryOp) (ts rest behind after : List Token) (left right joined : Tree)
    → next ≡ suc at → at < 4 → level_of op ≡ at → rest ≡ token.Operator op ∷ behind → joined ≡ binary op left right
    → length after < length behind → Reads next behind right after → Leads at ts left rest → Leads at ts joined after
chain_more at next op ts rest behind after left right joined is small level split join shorter reads leads n h = step (leads n h)
  where
    step : (m : ℕ) × (8 * length rest + 2 ≤ m) × (read n at ts ≡ go m at left rest) → (m : ℕ)
        × (8 * length after + 2 ≤ m) × (read n at ts ≡ go m at joined after)
    step (zero, some, e) = absurd (omega (arith, some))
    step (suc m, some, e) =
        let longer = ap length split in
        let read_right : read m (suc (level_of op)) behind ≡ Some (right, after) =
        subst (λ (l : ℕ). read m l behind ≡ Some (right, after)) (is ∙ ap suc (sym level))
        (reads m (omega (arith, some, longer, is, small))) in
        let on : go (suc m) at left rest ≡ go m at (binary op left right) after =
        subst (λ (l : ℕ). go (suc m) l left rest ≡ go m l (binary op left right) after) level (rw split (go_on m op left right behind after read_right)) in
        (m, omega (arith, some, longer, shorter), e ∙ (on ∙ ap (λ v. go m at v after) (sym join)))

go_fails : (m : ℕ) (op : BinaryOp) (left : Tree) (ts : List Token) → read m (suc (level_of op)) ts ≡ None
    → go (suc m) (level_of op) left (token.Operator op ∷ ts) ≡ None
unfolding read go several
go_fails m op left ts e =
    let test : nat_eq (level_of op) (level_of op) ≡ true = grind (arith, nat_tests) in
    rw test (rw e refl)

chain_breaks : (at next : ℕ) (op : BinaryOp) (ts rest behind : List Token) (left : Tree) (e : Unread) → next ≡ suc at
    → at < 4 → level_of op ≡ at → rest ≡ token.Operator op ∷ behind
    → Answers (λ n. read n next behind) (steps next behind) (Err e) → Leads at ts left rest
    → Answers (λ n. read n at ts) (steps at ts) (Err e)
chain_breaks at next op ts rest behind left Memory is small level split h leads = tt
chain_breaks at next op ts rest behind left NotFormula is small level split h leads = fails
  where
    fails : Fails at ts
    fails n k = last (leads n k)
      where
        last : (m : ℕ) × (8 * length rest + 2 ≤ m) × (read n at ts ≡ go m at left rest) → read n at ts ≡ None
        last (zero, some, e) = absurd (omega (arith, some))
        last (suc m, some, e) =
            let longer = ap length split in
            let no_right : read m (suc (level_of op)) behind ≡ None = subst (λ (l : ℕ). read m l behind ≡ None) (is
            ∙ ap suc (sym level)) (h m (omega (arith, some, longer, is, small))) in
            e ∙ subst (λ (l : ℕ). go (suc m) l left rest ≡ None) level (rw split (go_fails m op left behind no_right))

-- reading goes down from a level to a looser one where no operator between them stands at the front
lower : (k at level : ℕ) (ts rest : List Token) (t : Tree) → at + k ≡ level → level < 4 → length rest < length ts
    → ((j : ℕ) → at < j → HasNone j rest) → Leads level ts t rest → Leads at ts t rest
lower zero at level ts rest t sum small shorter none leads = let same : level ≡ at = omega (arith, sum) in subst (λ (l : ℕ). Leads l ts t rest) same leads
lower (suc k) at level ts rest t sum small shorter none leads =
    lower k at (at + k) ts rest t refl (omega (arith, sum, small)) shorter none
    (chain_starts (at + k) level ts rest t (omega (arith, sum)) (omega (arith, sum, small)) shorter
    (chain_ends level ts rest t (none level (omega (arith, sum))) leads))

lower_fails : (k at level : ℕ) (ts : List Token) (e : Unread) → at + k ≡ level → level ≤ 4
    → Answers (λ n. read n level ts) (steps level ts) (Err e) → Answers (λ n. read n at ts) (steps at ts) (Err e)
lower_fails zero at level ts e sum small h =
    let same : level ≡ at = omega (arith, sum) in subst (λ (l : ℕ). Answers (λ n. read n l ts) (steps l ts) (Err e))
    same h
lower_fails (suc k) at level ts e sum small h =
    lower_fails k at (at + k) ts e refl (omega (arith, sum, small)) (chain_fails (at + k) level ts e (omega (arith, sum)) (omega (arith, sum, small)) h)

-- a reader's place among operators: some level, no looser than the wanted one, leads on, and no tighter operator is left
pub record Climbs (at : ℕ) (ts : List Token) (left : Tree) (rest : List Token) : Type 0 where
  pub level : ℕ
  pub from : at ≤ level
  pub small : level < 4
  pub leads : Leads level ts left rest
  pub done : HasNoneFrom (suc level) rest

front_none : (op : BinaryOp) (rest behind : List Token) → rest ≡ token.Operator op ∷ behind → (j : ℕ) → level_of op < j → HasNone j rest
front_none op rest behind split j more o r e = λ same. let eq : o ≡ op = cc in absurd (omega (arith, more, same, ap level_of eq))

none_from : (at : ℕ) (rest : List Token) → HasNoneFrom at rest → (j : ℕ) → at ≤ j → HasNone j rest
none_from at rest stop j more o r e = λ same. absurd (omega (arith, stop o r e, same, more))

-- at the level of the operator at the front
at_operator : (at : ℕ) (op : BinaryOp) (ts rest behind : List Token) (left : Tree) → rest ≡ token.Operator op ∷ behind
    → length rest < length ts → Climbs at ts left rest → Leads (level_of op) ts left rest
at_operator at op ts rest behind left split shorter c =
    let below : level_of op < suc c.level = c.done op behind split in
    lower (c.level - level_of op) (level_of op) c.level ts rest left (omega (arith, below)) c.small shorter (front_none op rest behind split) c.leads

pub climb_starts : (at : ℕ) (ts rest : List Token) (t : Tree) → at < 4 → length rest < length ts → Reads 4 ts t rest → Climbs at ts t rest
climb_starts at ts rest t small shorter reads = record {
  level = 3;
  from = omega (arith, small);
  small = omega arith;
  leads = chain_starts 3 4 ts rest t (omega arith) (omega arith) shorter reads;
  done = λ op r e. omega (arith, level_small op);
}

pub climb_fails : (at : ℕ) (ts : List Token) (e : Unread) → at < 4 → Answers (λ n. read n 4 ts) (steps 4 ts) (Err e)
    → Answers (λ n. read n at ts) (steps at ts) (Err e)
climb_fails at ts e small h = lower_fails (4 - at) at 4 ts e (omega (arith, small)) (omega arith) h

pub climb_more : (at next : ℕ) (op : BinaryOp) (ts rest behind after : List Token) (left right joined : Tree)
    → next ≡ suc (level_of op) → at ≤ level_of op → length rest < length ts → rest ≡ token.Operator op ∷ behind
    → joined ≡ binary op left right → length after < length behind → Reads next behind right after
    → HasNoneFrom next after → Climbs at ts left rest → Climbs at ts joined after
climb_more at next op ts rest behind after left right joined is from within split join shorter reads done c = record {
  level = level_of op;
  from = from;
  small = level_small op;
  leads = chain_more (level_of op) next op ts rest behind after left right joined is (level_small op) refl split join
      shorter reads (at_operator at op ts rest behind left split within c);
  done = subst (λ (l : ℕ). HasNoneFrom l after) is done;
}

pub climb_breaks : (at next : ℕ) (op : BinaryOp) (ts rest behind : List Token) (left : Tree) (e : Unread)
    → next ≡ suc (level_of op) → at ≤ level_of op → length rest < length ts → rest ≡ token.Operator op ∷ behind
    → Answers (λ n. read n next behind) (steps next behind) (Err e) → Climbs at ts left rest
    → Answers (λ n. read n at ts) (steps at ts) (Err e)
climb_breaks at next op ts rest behind left e is from within split h c =
    lower_fails (level_of op - at) at (level_of op) ts e (omega (arith, from)) (omega (arith, level_small op))
    (chain_breaks (level_of op) next op ts rest behind left e is (level_small op) refl split h (at_operator at op ts rest behind left split within c))

pub climb_ends : (at : ℕ) (ts rest : List Token) (t : Tree) → length rest < length ts → HasNoneFrom at rest → Climbs at ts t rest → Reads at ts t rest
climb_ends at ts rest t shorter stop c =
    chain_ends at ts rest t (none_from at rest stop at (omega arith))
    (lower (c.level - at) at c.level ts rest t (omega (arith, c.from)) c.small shorter (λ j more. none_from at rest stop j (omega (arith, more))) c.leads)

pub none_tighter : (rest : List Token) → HasNoneFrom 4 rest
none_tighter rest op r e = level_small op

-- signs, and what stands behind them
pub signs_read : (ts operand rest : List Token) (t signed : Tree) → operand ≡ after_signs ts → signed ≡ with_signs ts t
    → length operand ≤ length ts → Reads 5 operand t rest → Reads 4 ts signed rest
signs_read ts operand rest t signed is under short reads zero h = absurd (omega (arith, h))
signs_read ts operand rest t signed is under short reads (suc n) h =
    let e : read n 5 (after_signs ts) ≡ Some (t, rest) = subst (λ (l : List Token). read n 5 l ≡ Some (t, rest)) is (reads n (omega (arith, h, short))) in
    read_signed n ts ∙ (rw e (rw under refl))

pub signs_fail : (ts operand : List Token) (e : Unread) → operand ≡ after_signs ts → length operand ≤ length ts
    → Answers (λ n. read n 5 operand) (steps 5 operand) (Err e) → Answers (λ n. read n 4 ts) (steps 4 ts) (Err e)
signs_fail ts operand Memory is short h = tt
signs_fail ts operand NotFormula is short h = fails
  where
    fails : Fails 4 ts
    fails zero k = absurd (omega (arith, k))
    fails (suc n) k =
        let e : read n 5 (after_signs ts) ≡ None = subst (λ (l : List Token). read n 5 l ≡ None) is (h n (omega (arith, k, short))) in
        read_signed n ts ∙ (rw e refl)

-- what has no operator, by what its first token asks for

pub primary_reads : (ts rest : List Token) (t : Tree) → 0 < length ts → ((n : ℕ) → 8 * length ts ≤ n → primary_at n ts ≡ Some (t, rest)) → Reads 5 ts t rest
primary_reads ts rest t some f zero h = absurd (omega (arith, h, some))
primary_reads ts rest t some f (suc n) h = read_primary n ts ∙ f n (omega (arith, h))

pub primary_fails : (ts : List Token) → ((n : ℕ) → 8 * length ts ≤ n → primary_at n ts ≡ None) → Fails 5 ts
primary_fails ts f zero h = absurd (omega (arith, h))
primary_fails ts f (suc n) h = read_primary n ts ∙ f n (omega (arith, h))

pub nothing_reads : (ts : List Token) → length ts ≡ 0 → Fails 5 ts
nothing_reads [] none = primary_fails [] (λ n h. refl)
nothing_reads (t ∷ ts) none = absurd (omega (arith, none))

primary_whole : (ts : List Token) (r : Result (Node × Bor (List Token)) Unread) → 0 < length ts
    → Answers (λ n. primary_at n ts) (8 * length ts) r → Answers (λ n. read n 5 ts) (steps 5 ts) r
primary_whole ts (Ok found) some a = primary_reads ts found.1.now (tree_of found.0) some a
primary_whole ts (Err NotFormula) some a = primary_fails ts a
primary_whole ts (Err Memory) some a = tt

pub primary_answers : (ts rest : List Token) (first : Token) (r : Result (Node × Bor (List Token)) Unread) → ts ≡ first
    ∷ rest → Answers (λ n. primary_at n (first ∷ rest)) (8 * length rest + 8) r
    → Answers (λ n. read n 5 ts) (steps 5 ts) r
primary_answers ts rest first r split a =
    subst (λ (l : List Token). Answers (λ n. read n 5 l) (steps 5 l) r) (sym split) (primary_whole (first
    ∷ rest) r (omega arith) (weaker (λ n. primary_at n (first ∷ rest)) _ _ r (omega arith) a))
  where
    weaker : (by : ℕ → Read) (least further : ℕ) (r : Result (Node × Bor (List Token)) Unread) → least ≤ further → Answers by least r → Answers by further r
    weaker by least further (Ok found) h a = λ n k. a n (omega (arith, h, k))
    weaker by least further (Err NotFormula) h a = λ n k. a n (omega (arith, h, k))
    weaker by least further (Err Memory) h a = tt

-- what no closing parenthesis and no separator begins
pub not_closed : (t : Tree) (ts : List Token) → HasNoClose ts → closed t ts ≡ None
not_closed t [] h = refl
not_closed t (token.Close ∷ ts) h = absurd (h ts refl)
not_closed t (token.Separator ∷ ts) h = refl
not_closed t (token.Open ∷ ts) h = refl
not_closed t (token.Operator op ∷ ts) h = refl
not_closed t (token.Number n ∷ ts) h = refl
not_closed t (token.Truth b ∷ ts) h = refl
not_closed t (token.Error k ∷ ts) h = refl
not_closed t (token.Reference r ∷ ts) h = refl
not_closed t (token.Function f ∷ ts) h = refl

pub not_empty : (s : List Token → ReadAll) (ts : List Token) → HasNoClose ts → parameters_by s ts ≡ s ts
not_empty s [] h = refl
not_empty s (token.Close ∷ ts) h = absurd (h ts refl)
not_empty s (token.Separator ∷ ts) h = refl
not_empty s (token.Open ∷ ts) h = refl
not_empty s (token.Operator op ∷ ts) h = refl
not_empty s (token.Number n ∷ ts) h = refl
not_empty s (token.Truth b ∷ ts) h = refl
not_empty s (token.Error k ∷ ts) h = refl
not_empty s (token.Reference r ∷ ts) h = refl
not_empty s (token.Function f ∷ ts) h = refl

not_next : (s : List Tree → List Token → ReadAll) (done : List Tree) (ts : List Token) → HasNoClose ts → HasNoSeparator ts → next_by s done ts ≡ None
not_next s done [] h k = refl
not_next s done (token.Close ∷ ts) h k = absurd (h ts refl)
not_next s done (token.Separator ∷ ts) h k = absurd (k ts refl)
not_next s done (token.Open ∷ ts) h k = refl
not_next s done (token.Operator op ∷ ts) h k = refl
not_next s done (token.Number n ∷ ts) h k = refl
not_next s done (token.Truth b ∷ ts) h k = refl
not_next s done (token.Error e ∷ ts) h k = refl
not_next s done (token.Reference r ∷ ts) h k = refl
not_next s done (token.Function f ∷ ts) h k = refl

-- an expression in parentheses

pub group_closes : (ts behind rest : List Token) (t : Tree) → behind ≡ token.Close ∷ rest → Reads 0 ts t behind
    → (n : ℕ) → steps 0 ts ≤ n → grouped_at n ts ≡ Some (t, rest)
group_closes ts behind rest t split reads n h = rw (reads n h) (rw split refl)

pub group_stays_open : (ts behind : List Token) (t : Tree) → HasNoClose behind → Reads 0 ts t behind → (n : ℕ) → steps 0 ts ≤ n → grouped_at n ts ≡ None
group_stays_open ts behind t unclosed reads n h = rw (reads n h) (not_closed t behind unclosed)

pub group_fails : (ts : List Token) (e : Unread) → Answers (λ n. read n 0 ts) (steps 0 ts) (Err e) → Answers (λ n. grouped_at n ts) (steps 0 ts) (Err e)
group_fails ts Memory a = tt
group_fails ts NotFormula a = λ n h. rw (a n h) refl

-- a call's parameters

abbrev pub ReadsAll : List Token → List Tree → List Token → Type 0
ReadsAll ts all rest = (n : ℕ) → steps 0 ts + 1 ≤ n → several n [] ts ≡ Some (all, rest)

pub call_reads : (f : Function) (ts inner rest : List Token) (all : List Tree) (t : Tree) → ts ≡ token.Open ∷ inner
    → is_fitting (shape_of f) all ≡ true → t ≡ call f (trees_from all)
    → ((n : ℕ) → steps 0 inner + 1 ≤ n → parameters_at n inner ≡ Some (all, rest)) → (n : ℕ) → steps 0 ts ≤ n
    → call_at n f ts ≡ Some (t, rest)
call_reads f ts inner rest all t split fits is reads n h =
    let e : parameters_at n inner ≡ Some (all, rest) = reads n (omega (arith, h, ap length split)) in
    rw split (rw e (rw fits (rw is refl)))

pub call_misfits : (f : Function) (ts inner rest : List Token) (all : List Tree) → ts ≡ token.Open ∷ inner
    → is_fitting (shape_of f) all ≡ false → ((n : ℕ) → steps 0 inner + 1 ≤ n → parameters_at n inner ≡ Some (all, rest))
    → (n : ℕ) → steps 0 ts ≤ n → call_at n f ts ≡ None
call_misfits f ts inner rest all split misfits reads n h =
    let e : parameters_at n inner ≡ Some (all, rest) = reads n (omega (arith, h, ap length split)) in
    rw split (rw e (rw misfits refl))

pub call_fails : (f : Function) (ts inner : List Token) (e : Unread) → ts ≡ token.Open ∷ inner
    → AnswersAll (λ n. parameters_at n inner) (steps 0 inner + 1) (Err e)
    → Answers (λ n. call_at n f ts) (steps 0 ts) (Err e)
call_fails f ts inner Memory split a = tt
call_fails f ts inner NotFormula split a = λ n h. rw split (rw (a n (omega (arith, h, ap length split))) refl)

pub no_parameters : (ts rest : List Token) (all : List Tree) → ts ≡ token.Close ∷ rest → all ≡ [] → (n : ℕ)
    → steps 0 ts + 1 ≤ n → parameters_at n ts ≡ Some (all, rest)
no_parameters ts rest all split is n h = rw split (rw is refl)

pub parameters_answer : (ts : List Token) (r : Result (Vec Node Global × Bor (List Token)) Unread) → HasNoClose ts
    → AnswersAll (λ n. several n [] ts) (steps 0 ts + 1) r → AnswersAll (λ n. parameters_at n ts) (steps 0 ts + 1) r
parameters_answer ts (Ok found) unclosed a = λ n h. not_empty (λ rest. several n [] rest) ts unclosed ∙ a n h
parameters_answer ts (Err NotFormula) unclosed a = λ n h. not_empty (λ rest. several n [] rest) ts unclosed ∙ a n h
parameters_answer ts (Err Memory) unclosed a = tt

-- one or more parameters, one by one
pub all_start : (ts : List Token) (done : List Tree) → done ≡ [] → LeadsAll ts done ts
all_start ts done is n h = (n, omega (arith, h), ap (λ (d : List Tree). several n d ts) (sym is))

-- a parameter that is read, whatever stands behind it
all_one : (ts left behind : List Token) (done : List Tree) (t : Tree) (n : ℕ) → Reads 0 left t behind → (m : ℕ)
    × (8 * length left + 7 ≤ m) × (several n [] ts ≡ several m done left) → (m : ℕ) × (8 * length left + 6 ≤ m)
    × (several n [] ts ≡ next_by (λ all rest. several m all rest) (done ++ t ∷ []) behind)
all_one ts left behind done t n reads (zero, some, e) = absurd (omega (arith, some))
all_one ts left behind done t n reads (suc m, some, e) =
    (m, omega (arith, some), e ∙ (read_several m done left ∙ rw (reads m (omega (arith, some))) refl))

pub all_more : (ts left behind rest : List Token) (done further : List Tree) (t : Tree) → further ≡ done ++ t ∷ []
    → behind ≡ token.Separator ∷ rest → length behind < length left → Reads 0 left t behind → LeadsAll ts done left
    → LeadsAll ts further rest
all_more ts left behind rest done further t is split shorter reads leads n h = step (all_one ts left behind done t n reads (leads n h))
  where
    step : (m : ℕ) × (8 * length left + 6 ≤ m)
        × (several n [] ts ≡ next_by (λ all rest. several m all rest) (done ++ t ∷ []) behind) → (m : ℕ)
        × (8 * length rest + 7 ≤ m) × (several n [] ts ≡ several m further rest)
    step (m, some, e) = (
      m,
      omega (arith, some, shorter, ap length split),
      (e ∙ ap (λ (l : List Token). next_by (λ all rest. several m all rest) (done ++ t ∷ []) l) split)
          ∙ ap (λ (d : List Tree). several m d rest) (sym is),
    )

pub all_end : (ts left behind rest : List Token) (done all : List Tree) (t : Tree) → all ≡ done ++ t ∷ []
    → behind ≡ token.Close ∷ rest → Reads 0 left t behind → LeadsAll ts done left → ReadsAll ts all rest
all_end ts left behind rest done all t is split reads leads n h = step (all_one ts left behind done t n reads (leads n h))
  where
    step : (m : ℕ) × (8 * length left + 6 ≤ m)
        × (several n [] ts ≡ next_by (λ all rest. several m all rest) (done ++ t ∷ []) behind)
        → several n [] ts ≡ Some (all, rest)
    step (m, some, e) = (e ∙ ap (λ (l : List Token). next_by (λ all rest. several m all rest) (done ++ t ∷ []) l) split)
        ∙ ap (λ (d : List Tree). whole d) (sym is)
      where
        whole : List Tree → ReadAll
        whole d = Some (d, rest)

pub all_stop : (ts left behind : List Token) (done : List Tree) (t : Tree) → HasNoClose behind → HasNoSeparator behind
    → Reads 0 left t behind → LeadsAll ts done left → (n : ℕ) → steps 0 ts + 1 ≤ n → several n [] ts ≡ None
all_stop ts left behind done t unclosed alone reads leads n h =
    let (m, some, e) = all_one ts left behind done t n reads (leads n h) in
    e ∙ not_next (λ all rest. several m all rest) (done ++ t ∷ []) behind unclosed alone

pub all_fail : (ts left : List Token) (done : List Tree) (e : Unread)
    → Answers (λ n. read n 0 left) (steps 0 left) (Err e) → LeadsAll ts done left
    → AnswersAll (λ n. several n [] ts) (steps 0 ts + 1) (Err e)
all_fail ts left done Memory a leads = tt
all_fail ts left done NotFormula a leads = λ n h. last n (leads n h)
  where
    last : (n : ℕ) → (m : ℕ) × (8 * length left + 7 ≤ m) × (several n [] ts ≡ several m done left) → several n [] ts ≡ None
    last n (zero, some, e) = absurd (omega (arith, some))
    last n (suc m, some, e) = e ∙ (read_several m done left ∙ rw (a m (omega (arith, some))) refl)
