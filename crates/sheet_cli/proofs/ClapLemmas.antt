-- What clap makes of words that are no options, for a command of two positions: each word goes to the
-- next position, and a third one is refused.
use Rattle.std.proofs.Common.{refl, ap, ap₂, codes, true, false, List, Option, Some, None, All, length, arith, ◌<◌, []}
use Rattle.std.proofs.Common.{◌∷◌, ◌≡◌, ◌≢◌, ◌∙◌, ℕ, Bool, inl, inr, sym, subst}
use Rattle.std.specs.Prelude.{IsSome, slice_get, slice_index_or, if◌then◌else◌, option_map, is_some}
use Rattle.std.specs.Option.{option_map_or}
use Rattle.std.specs.Str.{bytes_eq}
use Rattle.std.proofs.lemmas.Bool.{ne_eqb}
use Rattle.std.proofs.lemmas.Slice.Eq.{bytes_eq-Decides}
use Rattle.clap.specs.Lexer.{long_of, short_of, strip_byte, long_of_rest, short_of_rest}
use Rattle.std.specs.Prelude.{option_and_then}
use Rattle.clap.specs.Walk.{Rule, Held, Walk, walked, walk_from, walk, nothing_held, to_positional, arg_by_index}
use Rattle.clap.specs.Walk.{word_met, after_step, long_or_other, short_or_plain, trailing, value, idle, settled}
use Rattle.clap.specs.Walk.{finished}
use Rattle.clap.specs.Faults.{word_fault, turn_fault, step_fault, walk_fault, flag_word_fault, bundle_fault}
use Rattle.clap.specs.Faults.{settle_fault, defaults_fault, check_fault, entered_fault, fault_of, is_simple_and_free}
use Rattle.clap.specs.Simple.{App, Shape, HasMatchesOf, built, entered, is_simple, matches_of}
use Rattle.clap.specs.Walk.{first_of, rows_of}
use Rattle.clap.specs.Kinds.{Kinds, or_else, HasKind}
use Rattle.clap.specs.Values.{kind_of}
use Rattle.clap.specs.Matches.{found_of, first_value}
use Rattle.clap.proofs.WalkLemmas.{first_value-rows}
use Rattle.clap.specs.declared.parser.matches.ArgMatches.{ArgMatches}
use Rattle.clap.specs.declared.error.Error.{Error}
use Rattle.clap.specs.declared.error.kind.ErrorKind.{ErrorKind}
use Rattle.clap.specs.declared.error.kind.ErrorKind.TheVariants.{MissingRequiredArgument, UnknownArgument, OutOfMemory}
use Rattle.clap.proofs.OnLiterals.{clap_on_literals}
use Rattle.sheet_cli.specs.Clap.{two_positions}
use Rattle.sheet_cli.specs.Words.{IsOption}

-- clap sees no option in the word
pub record IsPlain (word : List ℕ) : Type 0 where
  pub dashes : bytes_eq word (45 ∷ 45 ∷ []) ≡ false
  pub long : long_of word ≡ None
  pub short : short_of word ≡ None

not_dashes : (word : List ℕ) → ¬ IsOption word → bytes_eq word (45 ∷ 45 ∷ []) ≡ false
not_dashes word plain = go (bytes_eq word (45 ∷ 45 ∷ [])) refl
  where
    go : (t : Bool) → bytes_eq word (45 ∷ 45 ∷ []) ≡ t → bytes_eq word (45 ∷ 45 ∷ []) ≡ false
    go true is = absurd (plain (ap (λ w. slice_get w 0) ((bytes_eq-Decides word (45 ∷ 45 ∷ [])).0 is)))
    go false is = is

no_dash : (word : List ℕ) → ¬ IsOption word → strip_byte 45 word ≡ None
no_dash [] plain = refl
no_dash (b ∷ bs) plain = ap (λ (t : Bool). if t then Some bs else None) (ne_eqb b 45 (λ same. plain (ap Some same)))

pub plain_word : (word : List ℕ) → ¬ IsOption word → IsPlain word
plain_word word plain = record {
  dashes = not_dashes word plain;
  long = ap (λ s. option_and_then long_of_rest (option_and_then (strip_byte 45) s)) (no_dash word plain);
  short = ap (λ s. option_and_then short_of_rest s) (no_dash word plain);
}

module _ (c : List Rule) where
  met : (at : ℕ) (h : Held) (w : List ℕ) → IsPlain w → word_met c [] false idle at w h ≡ (h, value)
  met at h w plain =
      ap (λ (t : Bool). if t then (h, trailing at) else long_or_other c idle w (long_of w) h) plain.dashes
      ∙ (ap (λ l. long_or_other c idle w l h) plain.long
      ∙ ap (λ s. short_or_plain c idle w s h) plain.short)

  -- where the walk stands before the word at this position, where all before it were plain
  abbrev pub before : ℕ → Held → Walk
  before at h = record { held = h; waiting = idle; position = at; is_trailing = false; stopped = None }

  pub goes_on : (at : ℕ) (h : Held) (w : List ℕ) → IsPlain w → walked c [] (before at h) w ≡ to_positional c (arg_by_index c at) w (before at h) h
  unfolding walked
  goes_on at h w plain = ap (λ m. after_step c w (before at h) m.0 m.1) (met at h w plain)

module _ (s : Shape) where
  no_fault : (at : ℕ) (h : Held) (w : List ℕ) → IsPlain w → word_fault s [] false idle w h ≡ []
  no_fault at h w plain =
      ap (λ (t : Bool). if t then [] else flag_word_fault s.rules s.args_override_self (long_of w) w h) plain.dashes
      ∙ (ap (λ l. flag_word_fault s.rules s.args_override_self l w h) plain.long
      ∙ ap (λ o. option_map_or (λ flags. bundle_fault s.rules s.args_override_self flags h) o []) plain.short)

  pub turn : (at : ℕ) (h : Held) (w : List ℕ) → IsPlain w → turn_fault s [] (before s.rules at h) w ≡ step_fault s at h value
  turn at h w plain = ap₂ or_else (no_fault at h w plain) (ap (λ m. step_fault s at m.0 m.1) (met s.rules at h w plain))

abbrev shape : Shape
shape = (built two_positions).top

abbrev rules_two : List Rule
rules_two = shape.rules

pub two_simple : is_simple two_positions ≡ true
unfolding clap_on_literals
two_simple = refl

pub two_free : is_simple_and_free two_positions ≡ true
unfolding clap_on_literals
two_free = refl

-- what is held before any word, after one, and after two
abbrev pub start : Walk
start = walk_from nothing_held

abbrev one_held : List ℕ → Held
one_held u = record { rows = []; pending = Some (codes "first", u ∷ []); skip = 0 }

abbrev two_held : List ℕ → List ℕ → Held
two_held u v = (to_positional rules_two (arg_by_index rules_two 2) v (before rules_two 2 (one_held u)) (one_held u)).held

walked_one : (u : List ℕ) → IsPlain u → walked rules_two [] start u ≡ before rules_two 2 (one_held u)
unfolding clap_on_literals
walked_one u plain = goes_on rules_two 1 nothing_held u plain ∙ refl

walked_two : (u v : List ℕ) → IsPlain u → IsPlain v → walk rules_two [] nothing_held (u ∷ v ∷ []) ≡ before rules_two 3 (two_held u v)
unfolding clap_on_literals
walked_two u v plain plain2 = ap (λ w. walked rules_two [] w v) (walked_one u plain) ∙ goes_on rules_two 2 (one_held u) v plain2

-- the fault of a parse, by the faults of its walk and where that ends
abbrev after_walk : Kinds → Walk → Kinds
after_walk faults end =
    let below = entered (built two_positions) end.stopped in
    or_else faults (or_else (entered_fault (built two_positions) end.stopped)
    (or_else (settle_fault rules_two shape.args_override_self end.held)
    (or_else (defaults_fault (settled rules_two end.held).rows rules_two)
    (check_fault shape (finished rules_two end.held) (is_some below)))))

by_walk : (words : List (List ℕ)) → fault_of two_positions words ≡ after_walk (walk_fault shape [] start words) (walk rules_two [] nothing_held words)
by_walk words = refl

-- one word goes to the first position
first_turn : (u : List ℕ) → IsPlain u → turn_fault shape [] start u ≡ []
unfolding clap_on_literals
first_turn u plain = turn shape 1 nothing_held u plain

-- and a second one to the second
second_turn : (u v : List ℕ) → IsPlain u → IsPlain v → turn_fault shape [] (walked rules_two [] start u) v ≡ []
unfolding clap_on_literals
second_turn u v plain plain2 = ap (λ w. turn_fault shape [] w v) (walked_one u plain) ∙ turn shape 2 (one_held u) v plain2

third_turn : (u v w : List ℕ) → IsPlain u → IsPlain v → IsPlain w → turn_fault shape [] (walk rules_two [] nothing_held (u ∷ v ∷ [])) w ≡ UnknownArgument ∷ []
unfolding clap_on_literals
third_turn u v w plain plain2 plain3 = ap (λ t. turn_fault shape [] t w) (walked_two u v plain plain2) ∙ turn shape 3 (two_held u v) w plain3

pub no_words : fault_of two_positions [] ≡ MissingRequiredArgument ∷ []
unfolding clap_on_literals
no_words = refl

pub one_word : (u : List ℕ) → IsPlain u → fault_of two_positions (u ∷ []) ≡ MissingRequiredArgument ∷ []
unfolding clap_on_literals
one_word u plain = ap₂ after_walk (ap (λ k. or_else k []) (first_turn u plain)) (walked_one u plain)

pub two_words : (u v : List ℕ) → IsPlain u → IsPlain v → fault_of two_positions (u ∷ v ∷ []) ≡ []
unfolding clap_on_literals
two_words u v plain plain2 =
    ap₂ after_walk (ap₂ (λ k j. or_else k (or_else j [])) (first_turn u plain) (second_turn u v plain plain2)) (walked_two u v plain plain2)

pub more_words : (u v w : List ℕ) (ws : List (List ℕ)) → IsPlain u → IsPlain v → IsPlain w → fault_of two_positions (u ∷ v ∷ w ∷ ws) ≡ UnknownArgument ∷ []
unfolding clap_on_literals
more_words u v w ws plain plain2 plain3 =
    let rest = walk_fault shape [] (walked rules_two [] (walk rules_two [] nothing_held (u ∷ v ∷ [])) w) ws in
    ap (λ k. after_walk k (walk rules_two [] nothing_held (u ∷ v ∷ w ∷ ws)))
    (ap₂
    (λ k j. or_else k (or_else j (or_else (turn_fault shape [] (walk rules_two [] nothing_held (u ∷ v ∷ [])) w)
    rest))) (first_turn u plain) (second_turn u v plain plain2)
    ∙ ap (λ k. or_else k rest) (third_turn u v w plain plain2 plain3))

pub first_found : (u v : List ℕ) → IsPlain u → IsPlain v → first_of (codes "first") (matches_of two_positions (u ∷ v ∷ [])) ≡ Some u
unfolding clap_on_literals
first_found u v plain plain2 = ap (λ (w : Walk). first_of (codes "first") (finished rules_two w.held)) (walked_two u v plain plain2)

pub second_found : (u v : List ℕ) → IsPlain u → IsPlain v → first_of (codes "second") (matches_of two_positions (u ∷ v ∷ [])) ≡ Some v
unfolding clap_on_literals
second_found u v plain plain2 = ap (λ (w : Walk). first_of (codes "second") (finished rules_two w.held)) (walked_two u v plain plain2)

pub some_fault : {k : ErrorKind} {ks : Kinds} → k ∷ ks ≡ [] → ⊥
some_fault h = cc

pub plain_at : (words : List (List ℕ)) (k : ℕ) → All (λ w. ¬ IsOption w) words → k < length words → IsPlain (slice_index_or words k [])
plain_at words k plain within = plain_word _ (plain k [] within)

-- words that are taken are two
pub are_two : (words : List (List ℕ)) → All (λ w. ¬ IsOption w) words → fault_of two_positions words ≡ [] → length words ≡ 2
are_two [] plain taken = absurd (some_fault (sym no_words ∙ taken))
are_two (u ∷ []) plain taken = absurd (some_fault (sym (one_word u (plain_at (u ∷ []) 0 plain (omega arith))) ∙ taken))
are_two (u ∷ v ∷ []) plain taken = refl
are_two (u ∷ v ∷ w ∷ ws) plain taken =
    let words = u ∷ v ∷ w ∷ ws in
    absurd
    (some_fault
    (sym (more_words u v w ws (plain_at words 0 plain (omega arith)) (plain_at words 1 plain (omega arith))
    (plain_at words 2 plain (omega arith))) ∙ taken))

-- and two are taken
pub two_taken : (words : List (List ℕ)) → All (λ w. ¬ IsOption w) words → length words ≡ 2 → fault_of two_positions words ≡ []
two_taken [] plain two = absurd (omega (arith, two))
two_taken (u ∷ []) plain two = absurd (omega (arith, two))
two_taken (u ∷ v ∷ []) plain two = two_words u v (plain_at (u ∷ v ∷ []) 0 plain (omega arith)) (plain_at (u ∷ v ∷ []) 1 plain (omega arith))
two_taken (u ∷ v ∷ w ∷ ws) plain two = absurd (omega (arith, two))

-- the matches of words that are two
pub found : (words : List (List ℕ)) → All (λ w. ¬ IsOption w) words → length words ≡ 2 → (u v : List ℕ)
    × (words ≡ u ∷ v ∷ []) × (first_of (codes "first") (matches_of two_positions words) ≡ Some u)
    × (first_of (codes "second") (matches_of two_positions words) ≡ Some v)
found [] plain two = absurd (omega (arith, two))
found (u ∷ []) plain two = absurd (omega (arith, two))
found (u ∷ v ∷ []) plain two =
    let one = plain_at (u ∷ v ∷ []) 0 plain (omega arith) in
    let other = plain_at (u ∷ v ∷ []) 1 plain (omega arith) in
    (u, v, refl, first_found u v one other, second_found u v one other)
found (u ∷ v ∷ w ∷ ws) plain two = absurd (omega (arith, two))

-- a value that is found under a map
pub some_of : {A B : Type 0} (f : A → B) (o : Option A) (u : B) → option_map f o ≡ Some u → IsSome o
some_of f None u is = cc
some_of f (Some x) u is = refl

-- what the command's matches say of both positions
pub record HasBoth (words : List (List ℕ)) (m : ArgMatches) : Type 0 where
  pub first : List ℕ
  pub second : List ℕ
  pub words_are : words ≡ first ∷ second ∷ []
  pub first_is : first_value (found_of m) (codes "first") ≡ Some first
  pub second_is : first_value (found_of m) (codes "second") ≡ Some second

-- a parse that is Ok has both positions
pub both : (words : List (List ℕ)) (a : App) (m : ArgMatches) → All (λ w. ¬ IsOption w) words → a ≡ two_positions
    → HasMatchesOf a words m → (is_simple_and_free a ≡ true → fault_of a words ≡ []) → HasBoth words m
both words a m plain is matches taken =
    let passes : fault_of two_positions words ≡ [] = subst (λ x. fault_of x words ≡ []) is (taken (ap is_simple_and_free is ∙ two_free)) in
    let (u, v, words_are, one, other) = found words plain (are_two words plain passes) in
    let rows : rows_of (found_of m) ≡ matches_of two_positions words = (matches (ap is_simple is ∙ two_simple)).0 ∙ ap (λ x. matches_of x words) is in
    record {
      first = u;
      second = v;
      words_are = words_are;
      first_is = first_value-rows (found_of m) (codes "first") ∙ (ap (first_of (codes "first")) rows ∙ one);
      second_is = first_value-rows (found_of m) (codes "second") ∙ (ap (first_of (codes "second")) rows ∙ other);
    }

-- a parse that is an error, but not for want of memory, was not given two words
pub not_two : (words : List (List ℕ)) (a : App) (e : Error) → All (λ w. ¬ IsOption w) words → a ≡ two_positions
    → (is_simple_and_free a ≡ true → HasKind (fault_of a words) e) → kind_of e ≢ OutOfMemory → length words ≢ 2
not_two words a e plain is fails other two =
    none (subst (λ k. HasKind k e) (ap (λ x. fault_of x words) is ∙ two_taken words plain two) (fails (ap is_simple_and_free is ∙ two_free)))
  where
    none : HasKind [] e → ⊥
    none (inl memory) = other memory
    none (inr among) = among

-- a value under a map, taken out
pub taken_of : {A B : Type 0} (f : A → B) (o : Option A) (x : A) (u : B) → o ≡ Some x → option_map f o ≡ Some u → f x ≡ u
taken_of f None x u here is = cc
taken_of f (Some y) x u here is = cc
