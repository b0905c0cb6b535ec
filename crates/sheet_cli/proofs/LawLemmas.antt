-- The words of the clauses of `run`, in plain numbers, lists of bytes and names.
use Rattle.std.proofs.Common.{◌≡◌, ℕ, zero, suc, ◌⊎◌, inl, inr, All, Contains, List, [], ◌∷◌, ◌++◌, length, take}
use Rattle.std.proofs.Common.{length-append, append_assoc, codes, refl, sym, ◌∙◌, ap, subst, arith}
use Rattle.std.proofs.Math.Seq.{get_or-append_seam, take-length}
use Rattle.std.specs.Prelude.{Option, Some, None, flat_map}
use Rattle.std.specs.Fmt.{decimal}
use Rattle.std.specs.Io.KnownBytes.{Appends}
use Rattle.window_text.specs.Texts.{check_text, count_line, edge_line}
use Rattle.edge_patterns.specs.Edges.{EdgeValue}
use Rattle.sheet_cli.specs.Answers.{AreAlternatives, HasGivenSheet, IsLived, status_of}
use Rattle.sheet_cli.specs.Answers.AreAlternatives.{either_check, either_live, either_path}
use Rattle.sheet_cli.specs.Answers.Answer.{output, refusal}
use Rattle.sheet_cli.specs.Laws.{AreChecks, AreLives, AreOtherTexts, ArePaths, CalmLineIsWhole, ChecksHaveOneCount}
use Rattle.sheet_cli.specs.Laws.{DueIsNamed, LineIsTakenFromItsFront, LivesHaveOneScript, NoOutputAndRefusal, OneOutput}
use Rattle.sheet_cli.specs.Laws.{OneRefusal, PathsHaveOneLength, TellsOfCheck, TellsOfFill, TellsOfLive, TellsOfPath}
use Rattle.sheet_cli.specs.Laws.{TellsOfPlay, TellsOfUndo, TellsOfWindow, UnfetchedOfCheck, UnfetchedOfFill}
use Rattle.sheet_cli.specs.Laws.{UnfetchedOfLive, UnfetchedOfPath, UnfetchedOfPlay, UnfetchedOfUndo, UnfetchedOfWindow}
use Rattle.sheet_cli.specs.Laws.AreOtherTexts.{checks as plain_checks, lives as plain_lives, paths as plain_paths}
use Rattle.sheet_cli.specs.Lines.{read_failed_line}
use Rattle.sheet_cli.specs.Requests.{Request, texts_named}
use Rattle.sheet_cli.specs.Runs.{IsUnfetched}
use Rattle.sheet_cli.specs.Requests.Request.{of_check, of_script, of_path}
use Rattle.sheet_cli.specs.Words.{Asks, command_word}
use Rattle.sheet_cli.specs.Words.CommandWord.{window_word, check_word, fill_word, play_word, undo_word, path_word}
use Rattle.sheet_cli.specs.declared.script.ScriptCommand.TheVariants.{Live}
use Rattle.sheet_cli.specs.declared.window.WindowCommand.{WindowCommand}
use Rattle.sheet_cli.proofs.OneAnswer.{are_texts, not_refused, one_answer}
use Rattle.sheet_cli.proofs.PathLemmas.{as_long}
use Rattle.sheet_cli.proofs.WordLemmas.{asked_for, behind, one_request}

-- ---- what words name

pub window_names : (command : WindowCommand) (sheet range : List ℕ) (request : Request)
    → Asks (command_word command ∷ sheet ∷ range ∷ []) request → texts_named request ≡ sheet ∷ []
window_names command sheet range request asked =
    let asks = behind (window_word command) (sheet ∷ range ∷ []) request asked in
    let same : asks.sheet ≡ sheet = cc asks.positions.words_are in
    ap texts_named asks.request_is ∙ ap (λ s. s ∷ []) same

pub check_names : (sheet : List ℕ) (request : Request) → Asks (codes "check" ∷ sheet ∷ []) request → texts_named request ≡ sheet ∷ []
check_names sheet request asked =
    let asks = behind check_word (sheet ∷ []) request asked in
    let same : asks.sheet ≡ sheet = cc asks.position.words_are in
    ap texts_named asks.request_is ∙ ap (λ s. s ∷ []) same

pub path_names : (sheet first second : List ℕ) (request : Request) → Asks (codes "path" ∷ sheet ∷ first ∷ second
    ∷ []) request → texts_named request ≡ sheet ∷ []
path_names sheet first second request asked =
    let asks = behind path_word (sheet ∷ first ∷ second ∷ []) request asked in
    let same : asks.sheet ≡ sheet = cc asks.positions.words_are in
    ap texts_named asks.request_is ∙ ap (λ s. s ∷ []) same

pub fill_names : (sheet first second : List ℕ) (request : Request) → Asks (codes "fill" ∷ sheet ∷ first ∷ second
    ∷ []) request → texts_named request ≡ sheet ∷ []
fill_names sheet first second request asked =
    let asks = behind fill_word (sheet ∷ first ∷ second ∷ []) request asked in
    let same : asks.sheet ≡ sheet = cc asks.positions.words_are in
    ap texts_named asks.request_is ∙ ap (λ s. s ∷ []) same

pub play_names : (sheet script : List ℕ) (request : Request) → Asks (codes "play" ∷ sheet ∷ script ∷ []) request → texts_named request ≡ sheet ∷ script ∷ []
play_names sheet script request asked =
    let asks = behind play_word (sheet ∷ script ∷ []) request asked in
    let same : asks.sheet ≡ sheet = cc asks.positions.words_are in
    let also : asks.script ≡ script = cc asks.positions.words_are in
    ap texts_named asks.request_is ∙ (λ i. same i ∷ also i ∷ [])

pub undo_names : (sheet script digits : List ℕ) (request : Request) → Asks (codes "undo" ∷ sheet ∷ script ∷ digits
    ∷ []) request → texts_named request ≡ sheet ∷ script ∷ []
undo_names sheet script digits request asked =
    let asks = behind undo_word (sheet ∷ script ∷ digits ∷ []) request asked in
    let same : asks.sheet ≡ sheet = cc asks.positions.words_are in
    let also : asks.script ≡ script = cc asks.positions.words_are in
    ap texts_named asks.request_is ∙ (λ i. same i ∷ also i ∷ [])

pub live_names : (words : List (List ℕ)) (workers : ℕ) (sheet script : List ℕ) (request : Request)
    → Asks words (of_script (Live workers) sheet script) → Asks words request → texts_named request ≡ sheet ∷ script
    ∷ []
live_names words workers sheet script request asked other = ap texts_named (one_request words request (of_script (Live workers) sheet script) other asked)

abbrev IsTold : (List ℕ → Option (List ℕ)) → List ℕ → Type 0
IsTold holds name = (text : List ℕ) × (holds name ≡ Some text)

one_told : (holds : List ℕ → Option (List ℕ)) (sheet text : List ℕ) → holds sheet ≡ Some text → All (IsTold holds) (sheet ∷ [])
one_told holds sheet text here zero d within = (text, here)
one_told holds sheet text here (suc k) d within = absurd (omega (arith, within))

two_told : (holds : List ℕ → Option (List ℕ)) (sheet script text steps : List ℕ) → holds sheet ≡ Some text
    → holds script ≡ Some steps → All (IsTold holds) (sheet ∷ script ∷ [])
two_told holds sheet script text steps here there zero d within = (text, here)
two_told holds sheet script text steps here there (suc zero) d within = (steps, there)
two_told holds sheet script text steps here there (suc (suc k)) d within = absurd (omega (arith, within))

pub tells_window : TellsOfWindow
tells_window command sheet range text holds here request asked =
    subst (All (IsTold holds)) (sym (window_names command sheet range request asked)) (one_told holds sheet text here)

pub tells_check : TellsOfCheck
tells_check sheet text holds here request asked = subst (All (IsTold holds)) (sym (check_names sheet request asked)) (one_told holds sheet text here)

pub tells_path : TellsOfPath
tells_path sheet first second text holds here request asked =
    subst (All (IsTold holds)) (sym (path_names sheet first second request asked)) (one_told holds sheet text here)

pub tells_fill : TellsOfFill
tells_fill sheet first second text holds here request asked =
    subst (All (IsTold holds)) (sym (fill_names sheet first second request asked)) (one_told holds sheet text here)

pub tells_play : TellsOfPlay
tells_play sheet script text steps holds here there request asked =
    subst (All (IsTold holds)) (sym (play_names sheet script request asked)) (two_told holds sheet script text steps here there)

pub tells_undo : TellsOfUndo
tells_undo sheet script digits text steps holds here there request asked =
    subst (All (IsTold holds)) (sym (undo_names sheet script digits request asked)) (two_told holds sheet script text steps here there)

pub tells_live : TellsOfLive
tells_live words workers sheet script text steps holds asked here there request other =
    subst (All (IsTold holds)) (sym (live_names words workers sheet script request asked other)) (two_told holds sheet script text steps here there)

-- ---- what is due

pub due_named : DueIsNamed
due_named holds request name due =
    let joined = length-append due.before (name ∷ due.after) in
    subst (λ names. Contains names name) (sym due.named) (length due.before, omega (arith, joined), get_or-append_seam due.before name due.after name)

only_name : (before after : List (List ℕ)) (name sheet : List ℕ) → sheet ∷ [] ≡ before ++ name ∷ after → name ≡ sheet
only_name [] after name sheet is = cc
only_name (first ∷ before) after name sheet is = let joined = length-append before (name ∷ after) in absurd (omega (arith, ap length is, joined))

either_name : (before after : List (List ℕ)) (name sheet script : List ℕ) → sheet ∷ script ∷ [] ≡ before ++ name ∷ after
    → (name ≡ sheet) ⊎ ((name ≡ script) × (before ≡ sheet ∷ []))
either_name [] after name sheet script is = let same : name ≡ sheet = cc is in inl same
either_name (first ∷ []) after name sheet script is = let same : name ≡ script = cc is in
    let front : first ≡ sheet = cc is in inr (same, ap (λ s. s ∷ []) front)
either_name (first ∷ second ∷ before) after name sheet script is =
    let joined = length-append before (name ∷ after) in absurd (omega (arith, ap length is, joined))

pub unfetched_window : UnfetchedOfWindow
unfetched_window command sheet range holds line missed =
    sym missed.noted
    ∙ ap read_failed_line (only_name missed.due.before missed.due.after missed.name sheet
    (sym (window_names command sheet range missed.request missed.asked) ∙ missed.due.named))

pub unfetched_check : UnfetchedOfCheck
unfetched_check sheet holds line missed =
    sym missed.noted
    ∙ ap read_failed_line (only_name missed.due.before missed.due.after missed.name sheet
    (sym (check_names sheet missed.request missed.asked) ∙ missed.due.named))

pub unfetched_path : UnfetchedOfPath
unfetched_path sheet first second holds line missed =
    sym missed.noted
    ∙ ap read_failed_line (only_name missed.due.before missed.due.after missed.name sheet
    (sym (path_names sheet first second missed.request missed.asked) ∙ missed.due.named))

pub unfetched_fill : UnfetchedOfFill
unfetched_fill sheet first second holds line missed =
    sym missed.noted
    ∙ ap read_failed_line (only_name missed.due.before missed.due.after missed.name sheet
    (sym (fill_names sheet first second missed.request missed.asked) ∙ missed.due.named))

-- of two texts
unfetched_two : (words : List (List ℕ)) (sheet script : List ℕ) (holds : List ℕ → Option (List ℕ)) (line : List ℕ)
    → (missed : IsUnfetched words holds (λ noted. noted ≡ line)) → texts_named missed.request ≡ sheet ∷ script ∷ []
    → (line ≡ read_failed_line sheet) ⊎ ((line ≡ read_failed_line script) × HasGivenSheet holds sheet)
unfetched_two words sheet script holds line missed names =
    elim (either_name missed.due.before missed.due.after missed.name sheet script (sym names ∙ missed.due.named)) [
      | inl same ↦ inl (sym missed.noted ∙ ap read_failed_line same)
      | inr both ↦ inr (sym missed.noted ∙ ap read_failed_line both.0, subst (All (HasGivenSheet holds)) both.1 missed.due.there 0 [] (omega arith))
    ]

pub unfetched_play : UnfetchedOfPlay
unfetched_play sheet script holds line missed = unfetched_two _ sheet script holds line missed (play_names sheet script missed.request missed.asked)

pub unfetched_undo : UnfetchedOfUndo
unfetched_undo sheet script digits holds line missed =
    unfetched_two _ sheet script holds line missed (undo_names sheet script digits missed.request missed.asked)

pub unfetched_live : UnfetchedOfLive
unfetched_live words workers sheet script holds line asked missed =
    unfetched_two words sheet script holds line missed (live_names words workers sheet script missed.request asked
    missed.asked)

-- ---- lines

none_some : (o : Option (List ℕ)) (x : List ℕ) → o ≡ None → o ≡ Some x → ⊥
none_some o x none some = cc

appended : (old new : Option (List ℕ)) (before after line : List ℕ) → old ≡ Some before → new ≡ Some after → Appends old new line → after ≡ before ++ line
appended None new before after line is re gained = absurd (none_some None before refl is)
appended (Some xs) None before after line is re gained = absurd gained
appended (Some xs) (Some ys) before after line is re gained =
    let first : xs ≡ before = cc is in
    let last : ys ≡ after = cc re in
    sym last ∙ (gained ∙ ap (λ l. l ++ line) first)

pub line_front : LineIsTakenFromItsFront
line_front old new before after line is re (inl whole) = (
  length line,
  appended old.told new.told before after line is re whole
      ∙ ap (λ l. before ++ l) (sym (take-length line)),
)
line_front old new before after line is re (inr (rose, part)) = (part.0, appended old.told new.told before after (take part.0 line) is re part.1)

pub line_whole : CalmLineIsWhole
line_whole old new before after line is re calm (inl whole) = appended old.told new.told before after line is re whole
line_whole old new before after line is re calm (inr (rose, part)) = absurd (calm rose)

-- ---- endings

pub same_text : {a b : List ℕ} → output a ≡ output b → a ≡ b
same_text h = cc

same_line : {s t : ℕ} {l m : List ℕ} → refusal s l ≡ refusal t m → l ≡ m
same_line h = cc

pub no_refusal : {s : ℕ} {l t : List ℕ} → refusal s l ≡ output t → ⊥
no_refusal h = cc

-- what stands behind the number of pairs
abbrev pub behind_count : List EdgeValue → List ℕ
behind_count edges = count_line (codes "edges") (length edges) ++ flat_map edge_line edges

pub in_front : (pairs : ℕ) (edges : List EdgeValue) → check_text pairs edges ≡ codes "pairs " ++ (decimal pairs ++ 10 ∷ behind_count edges)
in_front pairs edges = ap (λ t. codes "pairs " ++ t) (append_assoc (decimal pairs) (10 ∷ []) (behind_count edges))

pub one_count : ChecksHaveOneCount
one_count words a b checks =
    let (rest, words_are, asks) = asked_for words (of_check checks.name) checks.asked in
    let same : asks.sheet ≡ checks.name = cc asks.request_is in
    record {
      name = checks.name;
      words_are = words_are ∙ ap (λ ws. codes "check" ∷ ws) (asks.position.words_are ∙ ap (λ n. n ∷ []) same);
      pairs = checks.pairs;
      rest = behind_count checks.edges;
      others = behind_count checks.others;
      one = same_text checks.one ∙ in_front checks.pairs checks.edges;
      other = same_text checks.other ∙ in_front checks.pairs checks.others;
    }

pub one_script_lives : LivesHaveOneScript
one_script_lives words a b lives =
    let (rest, words_are, asks) = asked_for words (of_script (Live lives.workers) lives.name lives.script_name) lives.asked in
    record {
      rest = rest;
      words_are = words_are;
      sheet = lives.sheet;
      script = lives.script;
      one = subst (IsLived lives.sheet lives.script) (sym (same_text lives.one)) lives.lived;
      other = subst (IsLived lives.sheet lives.script) (sym (same_text lives.other)) lives.again;
    }

pub one_length : PathsHaveOneLength
one_length words a b paths =
    let (rest, words_are, asks) = asked_for words (of_path paths.name paths.from paths.to) paths.asked in
    let same : asks.sheet ≡ paths.name = cc asks.request_is in
    record {
      name = paths.name;
      first = asks.first;
      second = asks.second;
      words_are = words_are ∙ ap (λ ws. codes "path" ∷ ws) (asks.positions.words_are ∙ ap (λ n. n ∷ asks.first ∷ asks.second ∷ []) same);
      cells = paths.cells;
      others = paths.others;
      long = as_long paths.pairs paths.from paths.to paths.cells paths.others paths.shortest paths.again;
      one = same_text paths.one;
      other = same_text paths.other;
    }

two_lives : (words : List (List ℕ)) (a b text said : List ℕ) → a ≡ text → b ≡ said → AreLives words text said → AreLives words a b
two_lives words a b text said is re lives = record {
  rest = lives.rest;
  words_are = lives.words_are;
  sheet = lives.sheet;
  script = lives.script;
  one = subst (IsLived lives.sheet lives.script) (sym is) lives.one;
  other = subst (IsLived lives.sheet lives.script) (sym re) lives.other;
}

two_checks : (words : List (List ℕ)) (a b text said : List ℕ) → a ≡ text → b ≡ said → AreChecks words text said → AreChecks words a b
two_checks words a b text said is re checks = record {
  name = checks.name;
  words_are = checks.words_are;
  pairs = checks.pairs;
  rest = checks.rest;
  others = checks.others;
  one = is ∙ checks.one;
  other = re ∙ checks.other;
}

two_paths : (words : List (List ℕ)) (a b text said : List ℕ) → a ≡ text → b ≡ said → ArePaths words text said → ArePaths words a b
two_paths words a b text said is re paths = record {
  name = paths.name;
  first = paths.first;
  second = paths.second;
  words_are = paths.words_are;
  cells = paths.cells;
  others = paths.others;
  long = paths.long;
  one = is ∙ paths.one;
  other = re ∙ paths.other;
}

-- two texts of which a run may write either, in plain words
either_text : (words : List (List ℕ)) (a b text said : List ℕ) → a ≡ text → b ≡ said
    → AreAlternatives words (output text) (output said) → AreOtherTexts words a b
either_text words a b text said is re (either_check both) = plain_checks (two_checks words a b text said is re (one_count words text said both))
either_text words a b text said is re (either_live both) = plain_lives (two_lives words a b text said is re (one_script_lives words text said both))
either_text words a b text said is re (either_path both) = plain_paths (two_paths words a b text said is re (one_length words text said both))

pub one_output : OneOutput
one_output words holds a b tells x y = elim (one_answer words holds (output x.text) (output y.text) tells x.owed y.owed) [
  | inl same ↦ inl (x.gained ∙ same_text same ∙ sym y.gained)
  | inr either ↦ inr (either_text words a b x.text y.text x.gained y.gained either)
]

pub one_refusal : OneRefusal
one_refusal words holds status given line other tells x y = elim (one_answer words holds (refusal status x.line) (refusal given y.line) tells x.owed y.owed) [
  | inl same ↦ (ap status_of same, sym x.noted ∙ same_line same ∙ y.noted)
  | inr either ↦ absurd (no_refusal (are_texts words (refusal status x.line) (refusal given y.line) either).one)
]

pub not_both : NoOutputAndRefusal
not_both words holds text status line tells x y = not_refused words holds x.text y.line status tells x.owed y.owed
