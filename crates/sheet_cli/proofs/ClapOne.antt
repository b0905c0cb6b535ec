-- What clap makes of words that are no options, for a command of one position: a second word is refused.
use Rattle.std.proofs.Common.{refl, ap, ap₂, codes, true, List, Some, All, length, arith, [], ◌∷◌, ◌≡◌, ◌≢◌, ◌∙◌, ℕ, inl, inr, sym, subst}
use Rattle.std.specs.Prelude.{is_some}
use Rattle.clap.specs.Walk.{Rule, Held, Walk, walked, walk, nothing_held, rows_of, first_of, settled, finished}
use Rattle.clap.specs.Faults.{turn_fault, walk_fault, settle_fault, defaults_fault, check_fault, entered_fault, fault_of, is_simple_and_free}
use Rattle.clap.specs.Simple.{App, Shape, HasMatchesOf, built, entered, is_simple, matches_of}
use Rattle.clap.specs.Kinds.{Kinds, or_else, HasKind}
use Rattle.clap.specs.Values.{kind_of}
use Rattle.clap.specs.Matches.{found_of, first_value}
use Rattle.clap.proofs.WalkLemmas.{first_value-rows}
use Rattle.clap.specs.declared.parser.matches.ArgMatches.{ArgMatches}
use Rattle.clap.specs.declared.error.Error.{Error}
use Rattle.clap.specs.declared.error.kind.ErrorKind.TheVariants.{MissingRequiredArgument, UnknownArgument, OutOfMemory}
use Rattle.clap.proofs.OnLiterals.{clap_on_literals}
use Rattle.sheet_cli.specs.Clap.{one_position}
use Rattle.sheet_cli.specs.Words.{IsOption}
use Rattle.sheet_cli.proofs.ClapLemmas.{IsPlain, before, goes_on, turn, plain_at, some_fault, start}

abbrev shape : Shape
shape = (built one_position).top

abbrev rules : List Rule
rules = shape.rules

one_simple : is_simple one_position ≡ true
unfolding clap_on_literals
one_simple = refl

one_free : is_simple_and_free one_position ≡ true
unfolding clap_on_literals
one_free = refl

-- what is held after one word
abbrev one_held : List ℕ → Held
one_held u = record { rows = []; pending = Some (codes "first", u ∷ []); skip = 0 }

walked_one : (u : List ℕ) → IsPlain u → walked rules [] start u ≡ before rules 2 (one_held u)
unfolding clap_on_literals
walked_one u plain = goes_on rules 1 nothing_held u plain ∙ refl

-- the fault of a parse, by the faults of its walk and where that ends
abbrev after_walk : Kinds → Walk → Kinds
after_walk faults end =
    let below = entered (built one_position) end.stopped in
    or_else faults (or_else (entered_fault (built one_position) end.stopped)
    (or_else (settle_fault rules shape.args_override_self end.held)
    (or_else (defaults_fault (settled rules end.held).rows rules)
    (check_fault shape (finished rules end.held) (is_some below)))))

first_turn : (u : List ℕ) → IsPlain u → turn_fault shape [] start u ≡ []
unfolding clap_on_literals
first_turn u plain = turn shape 1 nothing_held u plain

second_turn : (u v : List ℕ) → IsPlain u → IsPlain v → turn_fault shape [] (walked rules [] start u) v ≡ UnknownArgument ∷ []
unfolding clap_on_literals
second_turn u v plain plain2 = ap (λ w. turn_fault shape [] w v) (walked_one u plain) ∙ turn shape 2 (one_held u) v plain2

no_words : fault_of one_position [] ≡ MissingRequiredArgument ∷ []
unfolding clap_on_literals
no_words = refl

one_word : (u : List ℕ) → IsPlain u → fault_of one_position (u ∷ []) ≡ []
unfolding clap_on_literals
one_word u plain = ap₂ after_walk (ap (λ k. or_else k []) (first_turn u plain)) (walked_one u plain)

more_words : (u v : List ℕ) (ws : List (List ℕ)) → IsPlain u → IsPlain v → fault_of one_position (u ∷ v ∷ ws) ≡ UnknownArgument ∷ []
unfolding clap_on_literals
more_words u v ws plain plain2 =
    let rest = walk_fault shape [] (walked rules [] (walked rules [] start u) v) ws in
    ap (λ k. after_walk k (walk rules [] nothing_held (u ∷ v ∷ ws)))
    (ap₂ (λ k j. or_else k (or_else j rest)) (first_turn u plain) (second_turn u v plain plain2))

-- words that are taken are one
are_one : (words : List (List ℕ)) → All (λ w. ¬ IsOption w) words → fault_of one_position words ≡ [] → length words ≡ 1
are_one [] plain taken = absurd (some_fault (sym no_words ∙ taken))
are_one (u ∷ []) plain taken = refl
are_one (u ∷ v ∷ ws) plain taken =
    let words = u ∷ v ∷ ws in
    absurd (some_fault (sym (more_words u v ws (plain_at words 0 plain (omega arith)) (plain_at words 1 plain (omega arith))) ∙ taken))

-- and one is taken
one_taken : (words : List (List ℕ)) → All (λ w. ¬ IsOption w) words → length words ≡ 1 → fault_of one_position words ≡ []
one_taken [] plain one = absurd (omega (arith, one))
one_taken (u ∷ []) plain one = one_word u (plain_at (u ∷ []) 0 plain (omega arith))
one_taken (u ∷ v ∷ ws) plain one = absurd (omega (arith, one))

first_found : (u : List ℕ) → IsPlain u → first_of (codes "first") (matches_of one_position (u ∷ [])) ≡ Some u
unfolding clap_on_literals
first_found u plain = ap (λ (w : Walk). first_of (codes "first") (finished rules w.held)) (walked_one u plain)

found : (words : List (List ℕ)) → All (λ w. ¬ IsOption w) words → length words ≡ 1 → (u : List ℕ) × (words ≡ u ∷ [])
    × (first_of (codes "first") (matches_of one_position words) ≡ Some u)
found [] plain one = absurd (omega (arith, one))
found (u ∷ []) plain one = (u, refl, first_found u (plain_at (u ∷ []) 0 plain (omega arith)))
found (u ∷ v ∷ ws) plain one = absurd (omega (arith, one))

-- what the command's matches say of the position
pub record HasFirst (words : List (List ℕ)) (m : ArgMatches) : Type 0 where
  pub first : List ℕ
  pub words_are : words ≡ first ∷ []
  pub first_is : first_value (found_of m) (codes "first") ≡ Some first

-- a parse that is Ok has it
pub has_first : (words : List (List ℕ)) (a : App) (m : ArgMatches) → All (λ w. ¬ IsOption w) words → a ≡ one_position
    → HasMatchesOf a words m → (is_simple_and_free a ≡ true → fault_of a words ≡ []) → HasFirst words m
has_first words a m plain is matches taken =
    let passes : fault_of one_position words ≡ [] = subst (λ x. fault_of x words ≡ []) is (taken (ap is_simple_and_free is ∙ one_free)) in
    let (u, words_are, one) = found words plain (are_one words plain passes) in
    let rows : rows_of (found_of m) ≡ matches_of one_position words = (matches (ap is_simple is ∙ one_simple)).0 ∙ ap (λ x. matches_of x words) is in
    record { first = u; words_are = words_are; first_is = first_value-rows (found_of m) (codes "first") ∙ (ap (first_of (codes "first")) rows ∙ one) }

-- a parse that is an error, but not for want of memory, was not given one word
pub not_one : (words : List (List ℕ)) (a : App) (e : Error) → All (λ w. ¬ IsOption w) words → a ≡ one_position
    → (is_simple_and_free a ≡ true → HasKind (fault_of a words) e) → kind_of e ≢ OutOfMemory → length words ≢ 1
not_one words a e plain is fails other one =
    none (subst (λ k. HasKind k e) (ap (λ x. fault_of x words) is ∙ one_taken words plain one) (fails (ap is_simple_and_free is ∙ one_free)))
  where
    none : HasKind [] e → ⊥
    none (inl memory) = other memory
    none (inr among) = among
