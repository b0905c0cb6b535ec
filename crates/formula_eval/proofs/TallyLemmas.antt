-- Sequences of items, joined.
use Rattle.std.proofs.Common.{◌≡◌, ℤ, pos, ◌+◌, List, [], ◌∷◌, ◌++◌, length, Some, None, Result, Ok, Err, OnOk, IfErr}
use Rattle.std.proofs.Common.{refl, ◌∙◌, ap, arith, append_assoc, length-append}
use Rattle.std.proofs.lemmas.List.{append-nil}
use Rattle.value_core.specs.declared.value.ErrorKind.{ErrorKind}
use Rattle.formula_syntax.specs.declared.functions.Function.{Function}
use Rattle.formula_syntax.specs.declared.functions.Function.TheVariants.{Counta}
use Rattle.formula_eval.specs.declared.items.Item.{Item}
use Rattle.formula_eval.specs.declared.tally.Tally.{Tally}
use Rattle.formula_eval.specs.Functions.{Contribution, contribution, contributions, add_contribution}
use Rattle.formula_eval.specs.Tallies.{Tallies, AddsItems, IsBounded}

added_ok : (c : Contribution) (r t : Result (List ℤ) ErrorKind) (ms ns : List ℤ) → add_contribution c r ≡ Ok ms
    → ((front : List ℤ) → r ≡ Ok front → t ≡ Ok (front ++ ns)) → add_contribution c t ≡ Ok (ms ++ ns)
added_ok (Err kind) r t ms ns is go = absurd (cc)
added_ok (Ok None) (Err kind) t ms ns is go = absurd (cc)
added_ok (Ok (Some n)) (Err kind) t ms ns is go = absurd (cc)
added_ok (Ok None) (Ok front) t ms ns is go =
    let same : front ≡ ms = cc in
    rw (go front refl) (ap (λ xs. Ok (xs ++ ns)) same)
added_ok (Ok (Some n)) (Ok front) t ms ns is go =
    let same : n ∷ front ≡ ms = cc in
    rw (go front refl) (ap (λ xs. Ok (xs ++ ns)) same)

added_err : (c : Contribution) (r t : Result (List ℤ) ErrorKind) (ms : List ℤ) (kind : ErrorKind)
    → add_contribution c r ≡ Ok ms → ((front : List ℤ) → r ≡ Ok front → t ≡ Err kind) → add_contribution c t ≡ Err kind
added_err (Err k) r t ms kind is go = absurd (cc)
added_err (Ok None) (Err k) t ms kind is go = absurd (cc)
added_err (Ok (Some n)) (Err k) t ms kind is go = absurd (cc)
added_err (Ok None) (Ok front) t ms kind is go = rw (go front refl) refl
added_err (Ok (Some n)) (Ok front) t ms kind is go = rw (go front refl) refl

added_first : (c : Contribution) (r t : Result (List ℤ) ErrorKind) (kind : ErrorKind) → add_contribution c r ≡ Err kind
    → (r ≡ Err kind → t ≡ Err kind) → add_contribution c t ≡ Err kind
added_first (Err k) r t kind is go = is
added_first (Ok None) (Err k) t kind is go = rw (go is) refl
added_first (Ok (Some n)) (Err k) t kind is go = rw (go is) refl
added_first (Ok None) (Ok front) t kind is go = absurd (cc)
added_first (Ok (Some n)) (Ok front) t kind is go = absurd (cc)

-- what two sequences add, one after the other
pub append_ok : (f : Function) (xs ys : List Item) (ms ns : List ℤ) → contributions f xs ≡ Ok ms
    → contributions f ys ≡ Ok ns → contributions f (xs ++ ys) ≡ Ok (ms ++ ns)
append_ok f [] ys ms ns first second = let none : [] ≡ ms = cc in rw (← none) second
append_ok f (x ∷ xs) ys ms ns first second =
    added_ok (contribution f x) (contributions f xs) (contributions f (xs ++ ys)) ms ns first (λ front is. append_ok f xs ys front ns is second)

pub append_err : (f : Function) (xs ys : List Item) (ms : List ℤ) (kind : ErrorKind) → contributions f xs ≡ Ok ms
    → contributions f ys ≡ Err kind → contributions f (xs ++ ys) ≡ Err kind
append_err f [] ys ms kind first second = second
append_err f (x ∷ xs) ys ms kind first second =
    added_err (contribution f x) (contributions f xs) (contributions f (xs ++ ys)) ms kind first (λ front is. append_err f xs ys front kind is second)

pub first_err : (f : Function) (xs ys : List Item) (kind : ErrorKind) → contributions f xs ≡ Err kind → contributions f (xs ++ ys) ≡ Err kind
first_err f [] ys kind is = absurd (cc)
first_err f (x ∷ xs) ys kind is = added_first (contribution f x) (contributions f xs) (contributions f (xs ++ ys)) kind is (λ rest. first_err f xs ys kind rest)

pub adds_nothing : (f : Function) (tally : Tally) → IsBounded tally → AddsItems f tally tally []
adds_nothing f tally bounded = record {
  numbers = [];
  given = refl;
  tallied = λ before tallies. rw append-nil tallies;
  bounded = bounded;
  count = omega arith;
}

pub adds_both : (f : Function) (a b c : Tally) (xs ys : List Item) → AddsItems f a b xs → AddsItems f b c ys → AddsItems f a c (xs ++ ys)
adds_both f a b c xs ys first second = record {
  numbers = first.numbers ++ second.numbers;
  given = append_ok f xs ys first.numbers second.numbers first.given second.given;
  tallied = λ before tallies. rw (← append_assoc) (second.tallied (before ++ first.numbers) (first.tallied before tallies));
  bounded = second.bounded;
  count = omega (arith, first.count, second.count, length-append xs ys);
}

pub adds_one : (f : Function) (old new : Tally) (item : Item) (number : ℤ) → contribution f item ≡ Ok (Some number)
    → ((before : List ℤ) → Tallies f old before → Tallies f new (before ++ number ∷ [])) → IsBounded new
    → new.count ≡ old.count + 1 → AddsItems f old new (item ∷ [])
adds_one f old new item number is tallied bounded count = record {
  numbers = number ∷ [];
  given = rw is refl;
  tallied = tallied;
  bounded = bounded;
  count = omega arith;
}

-- a range that shows nothing adds nothing, and one that shows the same adds the same
pub adds_same : (f : Function) (old new : Tally) (xs ys : List Item) → ys ≡ xs → AddsItems f old new xs → AddsItems f old new ys
adds_same f old new xs ys same adds = rw same adds

-- every item counts for COUNTA, and none is an error
pub counta_ok : (items : List Item) → (numbers : List ℤ) × (contributions Counta items ≡ Ok numbers) × (length numbers ≡ length items)
counta_ok [] = ([], refl, refl)
counta_ok (item ∷ items) =
    let rest = counta_ok items in
    (pos 1 ∷ rest.0, ap (add_contribution (Ok (Some (pos 1)))) rest.1, omega (arith, rest.2))

pub counta_err : (items : List Item) (kind : ErrorKind) → contributions Counta items ≡ Err kind → ⊥
counta_err items kind is = let ok = counta_ok items in cc (ok.1, is)

-- COUNTA's tally has as many numbers as there were items
pub counta_count : (old new : Tally) (items : List Item) → Tallies Counta old [] → AddsItems Counta old new items → new.count ≡ length items
counta_count old new items start adds =
    let all = adds.tallied [] start in
    let ok = counta_ok items in
    let same : adds.numbers ≡ ok.0 = cc (adds.given, ok.1) in
    all.count ∙ ap length same ∙ ok.2

pub when_ok : {T E P : Type 0} {Q : E → Type 0} (r : Result T E) → OnOk r P → IfErr r Q → ((e : E) → Q e → ⊥) → P
when_ok (Ok x) ok err never = ok
when_ok (Err e) ok err never = absurd (never e err)

pub counta_here : (old new : Tally) (items : List Item) (r : Result (Unit {0}) ErrorKind)
    → OnOk r (AddsItems Counta old new items) → IfErr r (λ kind. contributions Counta items ≡ Err kind)
    → Tallies Counta old [] → new.count ≡ length items
counta_here old new items r ok err start =
    counta_count old new items start (when_ok {Q = λ kind. contributions Counta items ≡ Err kind} r ok err
    (λ kind is. counta_err items kind is))
