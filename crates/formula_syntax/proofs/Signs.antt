-- Signs at the front of tokens, one by one.
use Rattle.std.proofs.Common.{◌≡◌, List, [], ◌∷◌, ◌++◌, refl, sym, ap, ◌∙◌}
use Rattle.std.specs.Prelude.{Some, None}
use Rattle.std.proofs.lemmas.Option.{none-some}
use Rattle.value_core.specs.declared.operators.BinaryOp.TheVariants.{Add, Sub, Mul, Div, Power, Equal, Unequal, Less, LessEqual, Greater, GreaterEqual}
use Rattle.value_core.specs.declared.operators.PrefixOp.{PrefixOp}
use Rattle.value_core.specs.declared.operators.PrefixOp.TheVariants.{Plus, Minus}
use Rattle.formula_syntax.specs.declared.tokens.Token.{Token}
use Rattle.formula_syntax.specs.declared.tokens.Token.TheVariants as token
use Rattle.formula_syntax.specs.Tree.{Tree, prefix}
use Rattle.formula_syntax.specs.Grammar.{sign_written}
use Rattle.formula_syntax.specs.Reading.{after_signs, with_signs, under_all, HasNoSign}

pub after_sign : (op : PrefixOp) (ts : List Token) → after_signs (token.Operator (sign_written op) ∷ ts) ≡ after_signs ts
after_sign Plus ts = refl
after_sign Minus ts = refl

pub with_sign : (op : PrefixOp) (ts : List Token) (t : Tree) → with_signs (token.Operator (sign_written op) ∷ ts) t ≡ prefix op (with_signs ts t)
with_sign Plus ts t = refl
with_sign Minus ts t = refl

pub under_more : (ops : List PrefixOp) (op : PrefixOp) (t : Tree) → under_all (ops ++ op ∷ []) t ≡ under_all ops (prefix op t)
under_more [] op t = refl
under_more (o ∷ ops) op t = ap (prefix o) (under_more ops op t)

some-none : {A : Type 0} (x : A) → Some x ≡ None → ⊥
some-none x e = none-some x (sym e)

-- without a sign at the front nothing is passed
pub no_sign_after : (ts : List Token) → HasNoSign ts → after_signs ts ≡ ts
no_sign_after [] h = refl
no_sign_after (token.Operator Add ∷ ts) h = absurd (some-none Plus (h Add ts refl))
no_sign_after (token.Operator Sub ∷ ts) h = absurd (some-none Minus (h Sub ts refl))
no_sign_after (token.Operator Mul ∷ ts) h = refl
no_sign_after (token.Operator Div ∷ ts) h = refl
no_sign_after (token.Operator Power ∷ ts) h = refl
no_sign_after (token.Operator Equal ∷ ts) h = refl
no_sign_after (token.Operator Unequal ∷ ts) h = refl
no_sign_after (token.Operator Less ∷ ts) h = refl
no_sign_after (token.Operator LessEqual ∷ ts) h = refl
no_sign_after (token.Operator Greater ∷ ts) h = refl
no_sign_after (token.Operator GreaterEqual ∷ ts) h = refl
no_sign_after (token.Open ∷ ts) h = refl
no_sign_after (token.Number n ∷ ts) h = refl
no_sign_after (token.Truth b ∷ ts) h = refl
no_sign_after (token.Error e ∷ ts) h = refl
no_sign_after (token.Reference r ∷ ts) h = refl
no_sign_after (token.Function f ∷ ts) h = refl
no_sign_after (token.Close ∷ ts) h = refl
no_sign_after (token.Separator ∷ ts) h = refl

pub no_sign_with : (ts : List Token) (t : Tree) → HasNoSign ts → with_signs ts t ≡ t
no_sign_with [] t h = refl
no_sign_with (token.Operator Add ∷ ts) t h = absurd (some-none Plus (h Add ts refl))
no_sign_with (token.Operator Sub ∷ ts) t h = absurd (some-none Minus (h Sub ts refl))
no_sign_with (token.Operator Mul ∷ ts) t h = refl
no_sign_with (token.Operator Div ∷ ts) t h = refl
no_sign_with (token.Operator Power ∷ ts) t h = refl
no_sign_with (token.Operator Equal ∷ ts) t h = refl
no_sign_with (token.Operator Unequal ∷ ts) t h = refl
no_sign_with (token.Operator Less ∷ ts) t h = refl
no_sign_with (token.Operator LessEqual ∷ ts) t h = refl
no_sign_with (token.Operator Greater ∷ ts) t h = refl
no_sign_with (token.Operator GreaterEqual ∷ ts) t h = refl
no_sign_with (token.Open ∷ ts) t h = refl
no_sign_with (token.Number n ∷ ts) t h = refl
no_sign_with (token.Truth b ∷ ts) t h = refl
no_sign_with (token.Error e ∷ ts) t h = refl
no_sign_with (token.Reference r ∷ ts) t h = refl
no_sign_with (token.Function f ∷ ts) t h = refl
no_sign_with (token.Close ∷ ts) t h = refl
no_sign_with (token.Separator ∷ ts) t h = refl

-- one more sign is passed
pub signs_step : (tokens rest behind : List Token) (op : PrefixOp) (signs more : List PrefixOp)
    → rest ≡ token.Operator (sign_written op) ∷ behind → more ≡ signs ++ op ∷ []
    → ((t : Tree) → with_signs tokens t ≡ under_all signs (with_signs rest t)) → (t : Tree)
    → with_signs tokens t ≡ under_all more (with_signs behind t)
signs_step tokens rest behind op signs more is items inv t =
    inv t ∙ (ap (λ (r : List Token). under_all signs (with_signs r t)) is
    ∙ (ap (under_all signs) (with_sign op behind t) ∙ (sym (under_more signs op (with_signs behind t))
    ∙ ap (λ (s : List PrefixOp). under_all s (with_signs behind t)) (sym items))))

pub after_step : (tokens rest behind : List Token) (op : PrefixOp) → rest ≡ token.Operator (sign_written op) ∷ behind
    → after_signs tokens ≡ after_signs rest → after_signs tokens ≡ after_signs behind
after_step tokens rest behind op is inv = inv ∙ (ap after_signs is ∙ after_sign op behind)

-- one sign fewer is left
pub under_step : (signs fewer : List PrefixOp) (op : PrefixOp) (t u : Tree) → signs ≡ fewer ++ op ∷ []
    → under_all signs t ≡ u → under_all fewer (prefix op t) ≡ u
under_step signs fewer op t u is inv = sym (under_more fewer op t) ∙ (ap (λ (s : List PrefixOp). under_all s t) (sym is) ∙ inv)
