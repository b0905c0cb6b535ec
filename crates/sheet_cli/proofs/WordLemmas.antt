-- The words of a command line, by what they ask for.
use Rattle.std.proofs.Common.{◌≡◌, ◌≢◌, ℕ, List, [], ◌∷◌, length, codes, refl, sym, ◌∙◌, ap, subst, arith, All, zero, suc}
use Rattle.std.proofs.lemmas.List.Elements.{All-map}
use Rattle.std.specs.Prelude.{Bool, true, false, if◌then◌else◌, IfOk, IsTrue, MatchOption, None, Ok, Err, Option, Result, Some, ◌↔◌, String, string_bytes}
use Rattle.std.specs.Str.{bytes_eq}
use Rattle.std.specs.declared.alloc.Global.{Global}
use Rattle.sheet_refs.specs.Names.{IsRangeName, IsCellName, decimal_number}
use Rattle.sheet_refs.proofs.NameLemmas.{one_cell, one_range}
use Rattle.sheet_cli.specs.Answers.{WordsAskForOne}
use Rattle.sheet_cli.specs.Requests.{Request}
use Rattle.sheet_cli.specs.Requests.Request.{of_window, of_check, of_script, of_path, of_fill, of_generated}
use Rattle.sheet_cli.specs.Words.{AreThreePositions, AreTwoPositions, Asks, AsksBehind, AsksNothing, CommandWord}
use Rattle.sheet_cli.specs.Words.{IsNoWindowWord, IsOnePosition, IsOption, bytes_of, spelled}
use Rattle.sheet_cli.specs.Words.CommandWord.{window_word, check_word, play_word, live_word, path_word, fill_word, gen_word, undo_word}
use Rattle.sheet_cli.specs.declared.script.ScriptCommand.TheVariants.{Live, Play, Undo}
use Rattle.sheet_cli.specs.declared.window.WindowCommand.TheVariants.{Show, Deps, Precs}
use Rattle.sheet_cli.proofs.OptionLemmas.{one_left}

-- words of which none is an option, as bytes
pub as_bytes : (words : List (String Global)) → All (λ w. ¬ IsOption (string_bytes w)) words → All (λ w. ¬ IsOption w) (bytes_of words)
as_bytes words plain = All-map (λ w. ¬ IsOption w) string_bytes words plain

two_plain : (rest : List (String Global)) (sheet name : List ℕ) → bytes_of rest ≡ sheet ∷ name ∷ [] → ¬ IsOption sheet
    → ¬ IsOption name → All (λ w. ¬ IsOption (string_bytes w)) rest
two_plain [] sheet name is plain named k d within = absurd (omega (arith, within))
two_plain (a ∷ []) sheet name is plain named k d within = absurd (omega (arith, ap length is))
two_plain (a ∷ b ∷ []) sheet name is plain named zero d within = λ option. let same : string_bytes a ≡ sheet = cc is in plain (rw same at option)
two_plain (a ∷ b ∷ []) sheet name is plain named (suc zero) d within = λ option. let same : string_bytes b ≡ name = cc is in named (rw same at option)
two_plain (a ∷ b ∷ []) sheet name is plain named (suc (suc k)) d within = absurd (omega (arith, within))
two_plain (a ∷ b ∷ x ∷ xs) sheet name is plain named k d within = absurd (omega (arith, ap length is))

one_plain : (rest : List (String Global)) (sheet : List ℕ) → bytes_of rest ≡ sheet ∷ [] → ¬ IsOption sheet → All (λ w. ¬ IsOption (string_bytes w)) rest
one_plain [] sheet is plain k d within = absurd (omega (arith, within))
one_plain (a ∷ []) sheet is plain zero d within = λ option. let same : string_bytes a ≡ sheet = cc is in plain (rw same at option)
one_plain (a ∷ []) sheet is plain (suc k) d within = absurd (omega (arith, within))
one_plain (a ∷ b ∷ xs) sheet is plain k d within = absurd (omega (arith, ap length is))

pub not_one : (rest : List (String Global)) → ¬ All (λ w. ¬ IsOption (string_bytes w)) rest → (word : List ℕ) → ¬ IsOnePosition (bytes_of rest) word
not_one rest none word is = none (one_plain rest word is.words_are is.first_plain)

pub not_two : (rest : List (String Global)) → ¬ All (λ w. ¬ IsOption (string_bytes w)) rest → (first second : List ℕ)
    → ¬ AreTwoPositions (bytes_of rest) first second
not_two rest none first second are = none (two_plain rest first second are.words_are are.first_plain are.second_plain)

first_plain : (words : List (List ℕ)) (first : List ℕ) (rest : List (List ℕ)) → words ≡ first ∷ rest → All (λ w. ¬ IsOption w) words → ¬ IsOption first
first_plain words first rest is plain = (rw is at plain) 0 [] (omega arith)

second_plain : (words : List (List ℕ)) (first second : List ℕ) (rest : List (List ℕ)) → words ≡ first ∷ second ∷ rest
    → All (λ w. ¬ IsOption w) words → ¬ IsOption second
second_plain words first second rest is plain = (rw is at plain) 1 [] (omega arith)

-- what is read of words without options
pub one_found : {V E : Type 0} (now : V → List ℕ) (words : List (List ℕ)) (result : Result (Option V) E)
    → All (λ w. ¬ IsOption w) words → IfOk result (λ found. MatchOption found (length words ≢ 1) (λ v. words ≡ now v
    ∷ []))
    → IfOk result (λ found. MatchOption found ((word : List ℕ) → ¬ IsOnePosition words word)
    (λ v. IsOnePosition words (now v)))
one_found now words (Ok (Some v)) plain is = record { words_are = is; first_plain = first_plain words (now v) [] is plain }
one_found now words (Ok None) plain fails = λ word is. fails (ap length is.words_are)
one_found now words (Err e) plain is = tt

pub two_found : {V E : Type 0} (first second : V → List ℕ) (words : List (List ℕ)) (result : Result (Option V) E)
    → All (λ w. ¬ IsOption w) words → IfOk result (λ found. MatchOption found (length words ≢ 2) (λ v. words ≡ first v
    ∷ second v ∷ []))
    → IfOk result (λ found. MatchOption found ((a b : List ℕ) → ¬ AreTwoPositions words a b)
    (λ v. AreTwoPositions words (first v) (second v)))
two_found first second words (Ok (Some v)) plain is = record {
  words_are = is;
  first_plain = first_plain words (first v) (second v ∷ []) is plain;
  second_plain = second_plain words (first v) (second v) [] is plain;
}
two_found first second words (Ok None) plain fails = λ a b are. fails (ap length are.words_are)
two_found first second words (Err e) plain is = tt

-- three positions are one and two others
pub three_of : (word : List ℕ) (words : List (List ℕ)) (first second third : List ℕ)
    → AreThreePositions (word ∷ words) first second third → (word ≡ first) × AreTwoPositions words second third
three_of word words first second third are = (
  cc are.words_are,
  record {
    words_are = cc are.words_are;
    first_plain = are.second_plain;
    second_plain = are.third_plain;
  },
)

-- ---- a word spells one command at most

-- the command that a word spells, if it isn't another
abbrev command_of : List ℕ → CommandWord
command_of word =
    if bytes_eq word (codes "show") then window_word Show else
    if bytes_eq word (codes "deps") then window_word Deps else
    if bytes_eq word (codes "precs") then window_word Precs else
    if bytes_eq word (codes "check") then check_word else
    if bytes_eq word (codes "play") then play_word else
    if bytes_eq word (codes "live") then live_word else
    if bytes_eq word (codes "undo") then undo_word else
    if bytes_eq word (codes "path") then path_word else
    if bytes_eq word (codes "fill") then fill_word else gen_word

spells : (command : CommandWord) → command_of (spelled command) ≡ command
spells (window_word Show) = refl
spells (window_word Deps) = refl
spells (window_word Precs) = refl
spells check_word = refl
spells play_word = refl
spells live_word = refl
spells undo_word = refl
spells path_word = refl
spells fill_word = refl
spells gen_word = refl

one_spelled : (a b : CommandWord) → spelled a ≡ spelled b → a ≡ b
one_spelled a b same = sym (spells a) ∙ (ap command_of same ∙ spells b)

-- what the words behind a command's ask for
pub behind : (command : CommandWord) (rest : List (List ℕ)) (request : Request) → Asks (spelled command ∷ rest) request → AsksBehind command rest request
behind command rest request asked =
    let word : spelled asked.command ≡ spelled command = cc asked.words_are in
    let tail : asked.rest ≡ rest = cc asked.words_are in
    subst (λ c. AsksBehind c rest request) (one_spelled asked.command command word) (subst (λ words. AsksBehind asked.command words request) tail asked.behind)

-- the command whose words ask for a request
abbrev pub command_for : Request → CommandWord
command_for (of_window command sheet window) = window_word command
command_for (of_check sheet) = check_word
command_for (of_script Play sheet script) = play_word
command_for (of_script (Live workers) sheet script) = live_word
command_for (of_script (Undo number) sheet script) = undo_word
command_for (of_path sheet from to) = path_word
command_for (of_fill sheet from to) = fill_word
command_for (of_generated number workers) = gen_word

is_for : (command : CommandWord) (rest : List (List ℕ)) (request : Request) → AsksBehind command rest request → command ≡ command_for request
is_for (window_word command) rest request asked = sym (ap command_for asked.request_is)
is_for check_word rest request asked = sym (ap command_for asked.request_is)
is_for play_word rest request asked = sym (ap command_for asked.request_is)
is_for live_word rest request asked = sym (ap command_for asked.request_is)
is_for undo_word rest request asked = sym (ap command_for asked.request_is)
is_for path_word rest request asked = sym (ap command_for asked.request_is)
is_for fill_word rest request asked = sym (ap command_for asked.request_is)
is_for gen_word rest request asked = sym (ap command_for asked.request_is)

pub asked_for : (words : List (List ℕ)) (request : Request) → Asks words request → (rest : List (List ℕ))
    × (words ≡ spelled (command_for request) ∷ rest) × AsksBehind (command_for request) rest request
asked_for words request asked =
    let same = is_for asked.command asked.rest request asked.behind in
    (asked.rest, subst (λ c. words ≡ spelled c ∷ asked.rest) same asked.words_are, subst (λ c. AsksBehind c asked.rest request) same asked.behind)

-- other words are no command
unspelled : (word : List ℕ) → IsNoWindowWord word → word ≢ codes "check" → word ≢ codes "play" → word ≢ codes "live" → word ≢ codes "undo" → word ≢ codes "path"
    → word ≢ codes "fill" → word ≢ codes "gen" → (command : CommandWord) → word ≢ spelled command
unspelled word window check play live undo path fill gen (window_word command) = window command
unspelled word window check play live undo path fill gen check_word = check
unspelled word window check play live undo path fill gen play_word = play
unspelled word window check play live undo path fill gen live_word = live
unspelled word window check play live undo path fill gen undo_word = undo
unspelled word window check play live undo path fill gen path_word = path
unspelled word window check play live undo path fill gen fill_word = fill
unspelled word window check play live undo path fill gen gen_word = gen

pub no_other : (word : List ℕ) (rest : List (List ℕ)) → IsNoWindowWord word → word ≢ codes "check" → word ≢ codes "play"
    → word ≢ codes "live" → word ≢ codes "undo"
    → word ≢ codes "path" → word ≢ codes "fill" → word ≢ codes "gen" → AsksNothing (word ∷ rest)
no_other word rest window check play live undo path fill gen request asked =
    let same : word ≡ spelled asked.command = cc asked.words_are in
    unspelled word window check play live undo path fill gen asked.command same

-- ---- words ask for one thing

one_behind : (command : CommandWord) (rest : List (List ℕ)) (a b : Request) → AsksBehind command rest a → AsksBehind command rest b → a ≡ b
one_behind (window_word command) rest a b one other =
    let two : one.sheet ∷ one.name ∷ [] ≡ other.sheet ∷ other.name ∷ [] = sym one.positions.words_are ∙ other.positions.words_are in
    let sheets : one.sheet ≡ other.sheet = cc two in
    let names : one.name ≡ other.name = cc two in
    let windows = one_range other.name one.window other.window (subst (λ n. IsRangeName n one.window) names one.named) other.named in
    one.request_is ∙ ((λ i. of_window command (sheets i) (windows i)) ∙ sym other.request_is)
one_behind check_word rest a b one other =
    let sheets : one.sheet ≡ other.sheet = cc (sym one.position.words_are ∙ other.position.words_are) in
    one.request_is ∙ (ap of_check sheets ∙ sym other.request_is)
one_behind play_word rest a b one other =
    let two : one.sheet ∷ one.script ∷ [] ≡ other.sheet ∷ other.script ∷ [] = sym one.positions.words_are ∙ other.positions.words_are in
    let sheets : one.sheet ≡ other.sheet = cc two in
    let scripts : one.script ≡ other.script = cc two in
    one.request_is ∙ ((λ i. of_script Play (sheets i) (scripts i)) ∙ sym other.request_is)
one_behind live_word rest a b one other =
    let same = one_left rest one.left other.left one.workers other.workers one.takes other.takes in
    let two : one.sheet ∷ one.script ∷ [] ≡ other.sheet ∷ other.script ∷ [] = sym one.positions.words_are ∙ same.0 ∙ other.positions.words_are in
    let sheets : one.sheet ≡ other.sheet = cc two in
    let scripts : one.script ≡ other.script = cc two in
    one.request_is ∙ ((λ i. of_script (Live (same.1 i)) (sheets i) (scripts i)) ∙ sym other.request_is)
one_behind undo_word rest a b one other =
    let three : one.sheet ∷ one.script ∷ one.digits ∷ [] ≡ other.sheet ∷ other.script ∷ other.digits
    ∷ [] = sym one.positions.words_are ∙ other.positions.words_are in
    let sheets : one.sheet ≡ other.sheet = cc three in
    let scripts : one.script ≡ other.script = cc three in
    let digits : one.digits ≡ other.digits = cc three in
    let numbers : one.number ≡ other.number = one.numbered.number_is.value ∙ ap decimal_number digits ∙ sym other.numbered.number_is.value in
    one.request_is ∙ ((λ i. of_script (Undo (numbers i)) (sheets i) (scripts i)) ∙ sym other.request_is)
one_behind path_word rest a b one other =
    let three : one.sheet ∷ one.first ∷ one.second ∷ [] ≡ other.sheet ∷ other.first ∷ other.second
    ∷ [] = sym one.positions.words_are ∙ other.positions.words_are in
    let sheets : one.sheet ≡ other.sheet = cc three in
    let firsts : one.first ≡ other.first = cc three in
    let seconds : one.second ≡ other.second = cc three in
    let froms = one_cell other.first one.from other.from (subst (λ n. IsCellName n one.from) firsts one.first_named) other.first_named in
    let tos = one_cell other.second one.to other.to (subst (λ n. IsCellName n one.to) seconds one.second_named) other.second_named in
    one.request_is ∙ ((λ i. of_path (sheets i) (froms i) (tos i)) ∙ sym other.request_is)
one_behind fill_word rest a b one other =
    let three : one.sheet ∷ one.first ∷ one.second ∷ [] ≡ other.sheet ∷ other.first ∷ other.second
    ∷ [] = sym one.positions.words_are ∙ other.positions.words_are in
    let sheets : one.sheet ≡ other.sheet = cc three in
    let firsts : one.first ≡ other.first = cc three in
    let seconds : one.second ≡ other.second = cc three in
    let froms = one_cell other.first one.from other.from (subst (λ n. IsCellName n one.from) firsts one.cell_named) other.cell_named in
    let tos = one_range other.second one.to other.to (subst (λ n. IsRangeName n one.to) seconds one.range_named) other.range_named in
    one.request_is ∙ ((λ i. of_fill (sheets i) (froms i) (tos i)) ∙ sym other.request_is)
one_behind gen_word rest a b one other =
    let same = one_left rest one.left other.left one.workers other.workers one.takes other.takes in
    let digits : one.digits ≡ other.digits = cc (sym one.position.words_are ∙ same.0 ∙ other.position.words_are) in
    let numbers : one.number ≡ other.number = one.writes.number_is.value ∙ (ap decimal_number digits ∙ sym other.writes.number_is.value) in
    one.request_is ∙ ((λ i. of_generated (numbers i) (same.1 i)) ∙ sym other.request_is)

pub one_request : WordsAskForOne
one_request words a b one other =
    one_behind one.command one.rest a b one.behind (behind one.command one.rest b (subst (λ ws. Asks ws b) one.words_are other))

-- what a test that failed has told
pub refuted : {P : Type 0} (b : Bool) → IsTrue b ↔ P → b ≡ false → ¬ P
refuted b told failed holds =
    let absurd_test : false ≡ true = rw failed at (told.1 holds) in
    cc
