-- A text has one list of tokens, and how it is read piece by piece.
use Rattle.std.proofs.Common.{◌≡◌, ℕ, ◌+◌, ◌<◌, ◌≤◌, Bool, true, false, List, [], ◌∷◌, ◌++◌, length, take, drop, refl, sym, ◌∙◌, ap, subst, arith}
use Rattle.std.proofs.lemmas.Bool.{false≢true}
use Rattle.std.proofs.lemmas.List.{length-append, take-append-drop, append-nil, append_assoc, length-drop}
use Rattle.formula_syntax.specs.declared.tokens.Token.{Token}
use Rattle.formula_syntax.specs.Lexing.{is_blank, IsToken, IsFront, HasNoToken, HasTokens, past_blanks}
use Rattle.formula_syntax.specs.Lexing.HasTokens.{nothing, blank, next}
use Rattle.formula_syntax.proofs.TokenLemmas.{token_some, token_unique, blank_no_token}

no_piece : (piece rest : List ℕ) (t : Token) → [] ≡ piece ++ rest → IsToken piece rest t → ⊥
no_piece piece rest t split is = omega (arith, token_some piece rest t is, ap length split, length-append piece rest)

-- a text has one list of tokens
pub tokens_unique : (text other : List ℕ) (ts us : List Token) → text ≡ other → HasTokens text ts → HasTokens other us → ts ≡ us
tokens_unique text other _ _ same (nothing _ e) (nothing _ f) = refl
tokens_unique text other _ us same (nothing _ e) (blank _ b rest _ split is more) = absurd (cc)
tokens_unique text other _ _ same (nothing _ e) (next _ piece rest t us split is more) = absurd (no_piece piece rest t (sym e ∙ (same ∙ split)) is)
tokens_unique text other ts _ same (blank _ b rest _ split is more) (nothing _ f) = absurd (cc)
tokens_unique text other ts us same (blank _ b rest _ split is more) (blank _ c others _ apart also further) =
    let tails : rest ≡ others = cc in tokens_unique rest others ts us tails more further
tokens_unique text other ts _ same (blank _ b rest _ split is more) (next _ piece after t us apart also further) =
    absurd (blank_no_token b rest is piece after t (sym split ∙ (same ∙ apart)) also)
tokens_unique text other _ _ same (next _ piece rest t ts split is more) (nothing _ f) = absurd (no_piece piece rest t (sym f ∙ (sym same ∙ split)) is)
tokens_unique text other _ us same (next _ piece rest t ts split is more) (blank _ c others _ apart also further) =
    absurd (blank_no_token c others also piece rest t (sym apart ∙ (sym same ∙ split)) is)
tokens_unique text other _ _ same (next _ piece rest t ts split is more) (next _ before after u us apart also further) =
    let one = token_unique text piece rest before after t u split (same ∙ apart) is also in
    let tails = tokens_unique rest after ts us one.rests more further in
    both one.tokens tails
  where
    both : {a b : Token} {xs ys : List Token} → a ≡ b → xs ≡ ys → a ∷ xs ≡ b ∷ ys
    both e f = cc

-- white space at the front makes no difference
pub with_blanks : (text : List ℕ) (ts : List Token) → HasTokens (past_blanks text) ts → HasTokens text ts
with_blanks [] ts h = h
with_blanks (b ∷ bs) ts h = by_test (is_blank b) refl (with_blanks bs ts) h
  where
    by_test : (t : Bool) → is_blank b ≡ t → (HasTokens (past_blanks bs) ts → HasTokens bs ts) → HasTokens (past_blanks (b ∷ bs)) ts → HasTokens (b ∷ bs) ts
    by_test true e rest h = blank (b ∷ bs) b bs ts refl e (rest (rw e at h))
    by_test false e rest h = rw e at h

pub without_blanks : (text : List ℕ) (ts : List Token) → HasTokens text ts → HasTokens (past_blanks text) ts
without_blanks text _ (nothing _ e) = rw e (nothing [] refl)
without_blanks text ts (blank _ b rest _ split is more) = rw split (rw is (without_blanks rest ts more))
without_blanks text _ (next _ piece rest t ts split is more) = by_text text split
  where
    by_text : (text : List ℕ) → text ≡ piece ++ rest → HasTokens (past_blanks text) (t ∷ ts)
    by_text [] e = absurd (no_piece piece rest t e is)
    by_text (b ∷ bs) e = by_test (is_blank b) refl
      where
        by_test : (v : Bool) → is_blank b ≡ v → HasTokens (past_blanks (b ∷ bs)) (t ∷ ts)
        by_test true f = absurd (blank_no_token b bs f piece rest t e is)
        by_test false f = rw f (next (b ∷ bs) piece rest t ts e is more)

within_by : (b : ℕ) (bs : List ℕ) (t : Bool) → is_blank b ≡ t → length (past_blanks bs) ≤ length bs → length (past_blanks (b ∷ bs)) ≤ length (b ∷ bs)
within_by b bs true e rest = rw e (omega (arith, rest))
within_by b bs false e rest = rw e (omega arith)

pub past_within : (text : List ℕ) → length (past_blanks text) ≤ length text
past_within [] = omega arith
past_within (b ∷ bs) = within_by b bs (is_blank b) refl (past_within bs)

-- a text begins with no white space
abbrev pub HasNoBlank : List ℕ → Type 0
HasNoBlank text = (b : ℕ) (bs : List ℕ) → text ≡ b ∷ bs → is_blank b ≡ false

plain_by : (c : ℕ) (cs : List ℕ) (t : Bool) → is_blank c ≡ t → HasNoBlank (past_blanks cs) → HasNoBlank (past_blanks (c ∷ cs))
plain_by c cs true f rest b bs e = rest b bs (rw f at e)
plain_by c cs false f rest b bs e = let split : c ∷ cs ≡ b ∷ bs = rw f at e in let same : c ≡ b = cc in ap is_blank (sym same) ∙ f

pub past_no_blank : (text : List ℕ) → HasNoBlank (past_blanks text)
past_no_blank [] b bs e = absurd (cc)
past_no_blank (c ∷ cs) b bs e = plain_by c cs (is_blank c) refl (past_no_blank cs) b bs e

-- what follows the token at the front
pub with_token : (text : List ℕ) (t : Token) (n : ℕ) (us : List Token) → IsFront text (t, n) → HasTokens (drop n text) us → HasTokens text (t ∷ us)
with_token text t n us front rest = next text (take n text) (drop n text) t us (sym (take-append-drop n text)) front.token rest

pub without_token : (text : List ℕ) (t : Token) (n : ℕ) (us : List Token) → HasNoBlank text → IsFront text (t, n)
    → HasTokens text us → (vs : List Token) × HasTokens (drop n text) vs
without_token text t n _ plain front (nothing _ e) = absurd (omega (arith, ap length e, front.some, front.within))
without_token text t n us plain front (blank _ b rest _ split is more) = absurd (false≢true (sym (plain b rest split) ∙ is))
without_token text t n _ plain front (next _ piece rest u us split is more) =
    let one = token_unique text (take n text) (drop n text) piece rest t u (sym (take-append-drop n text)) split front.token is in
    (us, subst (λ (l : List ℕ). HasTokens l us) (sym one.rests) more)

pub without_tokens : (text : List ℕ) (us : List Token) → HasNoBlank text → 0 < length text → HasNoToken text → ¬ HasTokens text us
without_tokens text _ plain some none (nothing _ e) = absurd (omega (arith, ap length e, some))
without_tokens text us plain some none (blank _ b rest _ split is more) = absurd (false≢true (sym (plain b rest split) ∙ is))
without_tokens text _ plain some none (next _ piece rest u us split is more) = none piece rest u split is

-- a reader's place: what is left has tokens exactly where the text has, those that were read before it
pub record IsAt (text : List ℕ) (read : List Token) (rest : List ℕ) : Type 0 where
  pub there : (us : List Token) → HasTokens rest us → HasTokens text (read ++ us)
  pub back : (ts : List Token) → HasTokens text ts → (us : List Token) × HasTokens rest us
  pub few : length read + length rest ≤ length text

pub starts_at : (text rest : List ℕ) (read : List Token) → read ≡ [] → rest ≡ past_blanks text → IsAt text read rest
starts_at text rest read is past = record {
  there = λ us h. rw is (with_blanks text us (subst (λ (l : List ℕ). HasTokens l us) past h));
  back = λ ts h. (ts, subst (λ (l : List ℕ). HasTokens l ts) (sym past) (without_blanks text ts h));
  few = omega (arith, ap length is, ap length past, past_within text);
}

pub goes_on : (text rest after : List ℕ) (read longer : List Token) (t : Token) (n : ℕ) → longer ≡ read ++ t ∷ []
    → after ≡ past_blanks (drop n rest) → HasNoBlank rest → IsFront rest (t, n) → IsAt text read rest
    → IsAt text longer after
goes_on text rest after read longer t n is past plain front at = record {
  there =
      λ us h. rw (is, append_assoc read (t ∷ []) us)
      (at.there (t
      ∷ us)
      (with_token rest t n us front (with_blanks (drop n rest) us (subst (λ (l : List ℕ). HasTokens l us) past h))));
  back = λ ts h.
      let (us, left) = at.back ts h in
      let (vs, behind) = without_token rest t n us plain front left in
      (vs, subst (λ (l : List ℕ). HasTokens l vs) (sym past) (without_blanks (drop n rest) vs behind));
  few = omega (
    arith,
    ap length is,
    length-append read (t ∷ []),
    ap length past,
    past_within (drop n rest),
    length-drop n rest,
    at.few,
    front.some,
    front.within,
  );
}

pub ends_at : (text rest : List ℕ) (read : List Token) → length rest ≡ 0 → IsAt text read rest → HasTokens text read
ends_at text [] read none at = subst (λ (l : List Token). HasTokens text l) (append-nil read) (at.there [] (nothing [] refl))
ends_at text (b ∷ bs) read none at = absurd (omega (arith, none))

pub stops_at : (text rest : List ℕ) (read : List Token) → HasNoBlank rest → 0 < length rest → HasNoToken rest
    → IsAt text read rest → (ts : List Token) → ¬ HasTokens text ts
stops_at text rest read plain some none at ts h =
    let (us, left) = at.back ts h in
    without_tokens rest us plain some none left
