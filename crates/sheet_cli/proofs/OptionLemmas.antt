-- Words without the option for the number of workers: there is one way to take it out.
use Rattle.std.proofs.Common.{◌≡◌, ◌≢◌, ℕ, suc, List, [], ◌∷◌, ◌++◌, length, length-append, codes, refl, sym, ◌∙◌, ap, subst, arith, All}
use Rattle.std.specs.Prelude.{Err, IfOk, MatchOption, None, Ok, Option, Result, Some}
use Rattle.sheet_refs.specs.Names.{decimal_number}
use Rattle.sheet_cli.specs.Options.{HasTaken}
use Rattle.sheet_cli.specs.Words.{IsOption, IsWorkers, TakesWorkers, bytes_of}
use Rattle.sheet_cli.specs.Words.TakesWorkers.{without, in_two_words, in_one_word}
use Rattle.sheet_cli.specs.declared.options.Taken.{Taken}

abbrev ArePlain : List (List ℕ) → Type 0
ArePlain words = All (λ word. ¬ IsOption word) words

plain_first : (word : List ℕ) (words : List (List ℕ)) → ArePlain (word ∷ words) → ¬ IsOption word
plain_first word words plain = plain 0 [] (omega arith)

plain_rest : (word : List ℕ) (words : List (List ℕ)) → ArePlain (word ∷ words) → ArePlain words
plain_rest word words plain k d within = plain (suc k) d (omega (arith, within))

-- words in which one is written as an option aren't all plain
not_plain : (before after : List (List ℕ)) (option : List ℕ) → IsOption option → ¬ ArePlain (before ++ option ∷ after)
not_plain [] after option is plain = plain_first option after plain is
not_plain (word ∷ before) after option is plain = not_plain before after option is (plain_rest word (before ++ option ∷ after) plain)

pub record IsOneSplit (before others after behind : List (List ℕ)) (option other : List ℕ) : Type 0 where
  pub front : before ≡ others
  pub word : option ≡ other
  pub rest : after ≡ behind

-- where one word is the first that is written as an option, no other is
pub one_split : (before others after behind : List (List ℕ)) (option other : List ℕ) → before ++ option ∷ after ≡ others ++ other ∷ behind
    → ArePlain before → ArePlain others → IsOption option → IsOption other → IsOneSplit before others after behind option other
one_split [] [] after behind option other same plain also is re = record { front = refl; word = cc; rest = cc }
one_split [] (first ∷ others) after behind option other same plain also is re =
    let word : option ≡ first = cc same in
    absurd (plain_first first others also (subst IsOption word is))
one_split (first ∷ before) [] after behind option other same plain also is re =
    let word : other ≡ first = cc same in
    absurd (plain_first first before plain (subst IsOption word re))
one_split (first ∷ before) (word ∷ others) after behind option other same plain also is re =
    let heads : first ≡ word = cc same in
    let tails : before ++ option ∷ after ≡ others ++ other ∷ behind = cc same in
    let split = one_split before others after behind option other tails (plain_rest first before plain) (plain_rest word others also) is re in
    record { front = (λ i. heads i ∷ split.front i); word = split.word; rest = split.rest }

-- the two forms of the option are options, and differ
pub long_option : IsOption (codes "--workers")
long_option = refl

pub joined_option : (digits : List ℕ) → IsOption (codes "--workers=" ++ digits)
joined_option digits = refl

two_forms : (digits : List ℕ) → codes "--workers" ≢ codes "--workers=" ++ digits
two_forms digits same = (let long = ap length same in let joined = length-append (codes "--workers=") digits in omega (arith, long, joined))

same_digits : (digits others : List ℕ) → codes "--workers=" ++ digits ≡ codes "--workers=" ++ others → digits ≡ others
same_digits digits others same = cc same

one_number : (digits others : List ℕ) (m n : ℕ) → digits ≡ others → IsWorkers digits m → IsWorkers others n → m ≡ n
one_number digits others m n same one other = one.number.value ∙ sym (subst (λ ds. n ≡ decimal_number ds) (sym same) other.number.value)

-- what a word gives, which is the first that is written as an option
gives_two : (before after : List (List ℕ)) (option digits : List ℕ) → ArePlain before → option ≡ codes "--workers"
    → (left : List (List ℕ)) (workers : ℕ) → TakesWorkers (before ++ option ∷ digits ∷ after) left workers → IsWorkers digits workers
gives_two before after option digits front is left workers (without plain _ _) =
    absurd (not_plain before (digits ∷ after) option (subst IsOption (sym is) long_option) plain)
gives_two before after option digits front is left workers (in_two_words others behind more also words_are number _) =
    let split = one_split before others (digits ∷ after) (more ∷ behind) option (codes "--workers") words_are front also
    (subst IsOption (sym is) long_option) long_option in
    let same : digits ≡ more = cc split.rest in
    subst (λ ds. IsWorkers ds workers) (sym same) number
gives_two before after option digits front is left workers (in_one_word others behind more also words_are number _) =
    let split = one_split before others (digits ∷ after) behind option (codes "--workers=" ++ more) words_are front also
    (subst IsOption (sym is) long_option) (joined_option more) in
    absurd (two_forms more (sym is ∙ split.word))

gives_one : (before after : List (List ℕ)) (option digits : List ℕ) → ArePlain before → option ≡ codes "--workers=" ++ digits
    → (left : List (List ℕ)) (workers : ℕ) → TakesWorkers (before ++ option ∷ after) left workers → IsWorkers digits workers
gives_one before after option digits front is left workers (without plain _ _) =
    absurd (not_plain before after option (subst IsOption (sym is) (joined_option digits)) plain)
gives_one before after option digits front is left workers (in_two_words others behind more also words_are number _) =
    let split = one_split before others after (more ∷ behind) option (codes "--workers") words_are front also
    (subst IsOption (sym is) (joined_option digits)) long_option in
    absurd (two_forms digits (sym split.word ∙ is))
gives_one before after option digits front is left workers (in_one_word others behind more also words_are number _) =
    let split = one_split before others after behind option (codes "--workers=" ++ more) words_are front also
    (subst IsOption (sym is) (joined_option digits)) (joined_option more) in
    subst (λ ds. IsWorkers ds workers) (sym (same_digits digits more (sym is ∙ split.word))) number

-- `--workers` without a word behind it gives nothing, and nor does another option
pub no_digits : (before : List (List ℕ)) (option : List ℕ) → ArePlain before → option ≡ codes "--workers"
    → (left : List (List ℕ)) (workers : ℕ) → ¬ TakesWorkers (before ++ option ∷ []) left workers
no_digits before option front is left workers (without plain _ _) = not_plain before [] option (subst IsOption (sym is) long_option) plain
no_digits before option front is left workers (in_two_words others behind more also words_are number _) =
    let split = one_split before others [] (more ∷ behind) option (codes "--workers") words_are front also (subst IsOption (sym is) long_option) long_option in
    (let long = ap length split.rest in omega (arith, long))
no_digits before option front is left workers (in_one_word others behind more also words_are number _) =
    let split = one_split before others [] behind option (codes "--workers=" ++ more) words_are front also
    (subst IsOption (sym is) long_option) (joined_option more) in
    two_forms more (sym is ∙ split.word)

pub no_workers : (before after : List (List ℕ)) (option : List ℕ) → ArePlain before → IsOption option
    → option ≢ codes "--workers" → ((digits : List ℕ) → option ≢ codes "--workers=" ++ digits)
    → (left : List (List ℕ)) (workers : ℕ) → ¬ TakesWorkers (before ++ option ∷ after) left workers
no_workers before after option front is alone joined left workers (without plain _ _) = not_plain before after option is plain
no_workers before after option front is alone joined left workers (in_two_words others behind more also words_are number _) =
    alone (one_split before others after (more ∷ behind) option (codes "--workers") words_are front also is long_option).word
no_workers before after option front is alone joined left workers (in_one_word others behind more also words_are number _) =
    joined more (one_split before others after behind option (codes "--workers=" ++ more) words_are front also is (joined_option more)).word

-- what is left on both sides of an option, with the number that its digits write
abbrev LeavesBoth : List (List ℕ) → List ℕ → Option Taken → Type 0
LeavesBoth both digits found =
    MatchOption found ((workers : ℕ) → ¬ IsWorkers digits workers) (λ taken. IsWorkers digits taken.workers × (bytes_of taken.words.items ≡ both))

has_taken : (words both : List (List ℕ)) (digits : List ℕ) → ((left : List (List ℕ)) (workers : ℕ) → TakesWorkers words left workers → IsWorkers digits workers)
    → ((left : List (List ℕ)) (workers : ℕ) → IsWorkers digits workers → left ≡ both → TakesWorkers words left workers)
    → {E : Type 0} → (result : Result (Option Taken) E) → IfOk result (LeavesBoth both digits) → IfOk result (HasTaken words)
has_taken words both digits gives takes (Ok (Some taken)) (number, left) = takes (bytes_of taken.words.items) taken.workers number left
has_taken words both digits gives takes (Ok None) none = λ left workers given. none workers (gives left workers given)
has_taken words both digits gives takes (Err e) none = tt

pub two_taken : (before after : List (List ℕ)) (option digits : List ℕ) → ArePlain before → option ≡ codes "--workers"
    → {E : Type 0} → (result : Result (Option Taken) E) → IfOk result (LeavesBoth (before ++ after) digits)
    → IfOk result (HasTaken (before ++ option ∷ digits ∷ after))
two_taken before after option digits front is =
    has_taken (before ++ option ∷ digits ∷ after) (before ++ after) digits (gives_two before after option digits front is)
    (λ left workers number both. in_two_words before after digits front (ap (λ o. before ++ o ∷ digits ∷ after) is) number both)

pub one_taken : (before after : List (List ℕ)) (option digits : List ℕ) → ArePlain before → option ≡ codes "--workers=" ++ digits
    → {E : Type 0} → (result : Result (Option Taken) E) → IfOk result (LeavesBoth (before ++ after) digits) → IfOk result (HasTaken (before ++ option ∷ after))
one_taken before after option digits front is =
    has_taken (before ++ option ∷ after) (before ++ after) digits (gives_one before after option digits front is)
    (λ left workers number both. in_one_word before after digits front (ap (λ o. before ++ o ∷ after) is) number both)

-- what is left, and the number of workers, are determined
pub one_left : (words left rest : List (List ℕ)) (m n : ℕ) → TakesWorkers words left m → TakesWorkers words rest n → (left ≡ rest) × (m ≡ n)
one_left words left rest m n (without plain is four) (without also re again) = (is ∙ sym re, four ∙ sym again)
one_left words left rest m n (without plain is four) (in_two_words before after digits front words_are number re) =
    absurd (not_plain before (digits ∷ after) (codes "--workers") long_option (subst ArePlain words_are plain))
one_left words left rest m n (without plain is four) (in_one_word before after digits front words_are number re) =
    absurd (not_plain before after (codes "--workers=" ++ digits) (joined_option digits) (subst ArePlain words_are plain))
one_left words left rest m n (in_two_words before after digits front words_are number is) (without plain re four) =
    absurd (not_plain before (digits ∷ after) (codes "--workers") long_option (subst ArePlain words_are plain))
one_left words left rest m n (in_one_word before after digits front words_are number is) (without plain re four) =
    absurd (not_plain before after (codes "--workers=" ++ digits) (joined_option digits) (subst ArePlain words_are plain))
one_left words left rest m n (in_two_words before after digits front words_are number is) (in_two_words others behind more also words_too again re) =
    let split = one_split before others (digits ∷ after) (more ∷ behind) (codes "--workers") (codes "--workers")
    (sym words_are ∙ words_too) front also long_option long_option in
    let tails : after ≡ behind = cc split.rest in
    let same : digits ≡ more = cc split.rest in
    (is ∙ (λ i. split.front i ++ tails i) ∙ sym re, one_number digits more m n same number again)
one_left words left rest m n (in_two_words before after digits front words_are number is) (in_one_word others behind more also words_too again re) =
    let split = one_split before others (digits ∷ after) behind (codes "--workers") (codes "--workers="
    ++ more) (sym words_are ∙ words_too) front also long_option (joined_option more) in
    absurd (two_forms more split.word)
one_left words left rest m n (in_one_word before after digits front words_are number is) (in_two_words others behind more also words_too again re) =
    let split = one_split before others after (more ∷ behind) (codes "--workers=" ++ digits) (codes "--workers")
    (sym words_are ∙ words_too) front also (joined_option digits) long_option in
    absurd (two_forms digits (sym split.word))
one_left words left rest m n (in_one_word before after digits front words_are number is) (in_one_word others behind more also words_too again re) =
    let split = one_split before others after behind (codes "--workers=" ++ digits) (codes "--workers="
    ++ more) (sym words_are ∙ words_too) front also (joined_option digits) (joined_option more) in
    (is ∙ (λ i. split.front i ++ split.rest i) ∙ sym re, one_number digits more m n (same_digits digits more split.word) number again)
