-- Words and the texts that they name are answered in one way.
use Rattle.std.proofs.Common.{◌≡◌, ℕ, ◌<◌, ◌≤◌, ◌⊎◌, inl, inr, All, Contains, List, [], length, refl, sym, ◌∙◌, ap, subst, arith}
use Rattle.std.specs.Prelude.{Option, Some, IfSome, Result, Ok, Err}
use Rattle.std.proofs.lemmas.Option.{MatchOption-at_some}
use Rattle.sheet_refs.specs.Cells.{Corners, Position}
use Rattle.sheet_model.specs.Sheets.{SheetValue, with_labels}
use Rattle.edit_script.specs.Scripts.{ScriptValue, IsScriptResult, ground_of}
use Rattle.edit_script.specs.declared.refused.ScriptRefused.{ScriptRefused}
use Rattle.edit_script.specs.declared.script.Mode.{Mode}
use Rattle.edit_script.specs.declared.script.Step.{Step}
use Rattle.edit_script.proofs.OneResult.{one_result as one_script_result}
use Rattle.live_gen.specs.Laws.{closing_of}
use Rattle.live_gen.specs.Rows.{IsGeneratedSheet}
use Rattle.live_gen.specs.Sums.{sheet_sum}
use Rattle.live_gen.proofs.FillLemmas.{one_sheet as one_generated}
use Rattle.live_gen.proofs.RunLemmas.{comes_to_one}
use Rattle.play_machine.proofs.OnePlay.{one_list}
use Rattle.window_text.specs.Reports.{play_text}
use Rattle.csv_sheet.specs.declared.refused.SheetRefused.{SheetRefused}
use Rattle.csv_sheet.specs.Results.{IsSheetResult}
use Rattle.csv_sheet.proofs.ResultLemmas.{one_result}
use Rattle.graph_walk.specs.Graphs.{Pair, SamePairs}
use Rattle.taco_graph.specs.Pairs.{pairs_of}
use Rattle.range_index.proofs.DistinctLemmas.{no_longer}
use Rattle.window_text.specs.Texts.{check_text, generated_text, runs_text}
use Rattle.sheet_cli.specs.Graphs.{ListsEdges, cells_text}
use Rattle.sheet_cli.specs.Answers.{Answer, AnswersRequest, AnswersWindow, AnswersCheck, AnswersFill, AnswersGenerated}
use Rattle.sheet_cli.specs.Answers.{AnswersPath, AnswersScript, AreAlternatives, GivesSheet, GivesScript, HasNoScript}
use Rattle.sheet_cli.specs.Answers.{HasNoSheet, IsPlayed, IsSummed, IsTextOf, OverScript, OverSheet, Owes, TellsTexts}
use Rattle.sheet_cli.specs.Answers.{Writes, OneAnswer, mode_of, status_of, IsLived, IsText}
use Rattle.sheet_cli.specs.Answers.Answer.{output, refusal}
use Rattle.sheet_cli.specs.Answers.AnswersWindow.{written, outside}
use Rattle.sheet_cli.specs.Answers.AnswersCheck.{listed}
use Rattle.sheet_cli.specs.Answers.AnswersPath.{shown, beyond}
use Rattle.sheet_cli.specs.Answers.IsText.{written_text}
use Rattle.sheet_cli.specs.Answers.AreAlternatives.{either_check, either_live, either_path}
use Rattle.sheet_cli.specs.Answers.OverSheet.{over_sheet, no_sheet}
use Rattle.sheet_cli.specs.Answers.OverScript.{over_script, no_script}
use Rattle.sheet_cli.specs.Answers.HasNoScript.{long_script, refused_script}
use Rattle.sheet_cli.specs.Answers.Writes.{values, dependents, precedents}
use Rattle.sheet_cli.specs.Answers.HasNoSheet.{too_long, refused}
use Rattle.sheet_cli.specs.Answers.AnswersGenerated.{summed}
use Rattle.sheet_cli.specs.Answers.Owes.{usage, answers}
use Rattle.sheet_cli.specs.Lines.{refused_line, script_line}
use Rattle.sheet_cli.specs.Requests.{Request, texts_named}
use Rattle.sheet_cli.specs.Requests.Request.{of_window, of_check, of_script, of_path, of_fill, of_generated}
use Rattle.sheet_cli.specs.Words.{Asks}
use Rattle.sheet_cli.specs.declared.script.ScriptCommand.{ScriptCommand}
use Rattle.sheet_cli.specs.declared.script.ScriptCommand.TheVariants.{Live, Play, Undo}
use Rattle.sheet_cli.specs.declared.window.WindowCommand.{WindowCommand}
use Rattle.sheet_cli.specs.declared.window.WindowCommand.TheVariants.{Show, Deps, Precs}
use Rattle.sheet_cli.proofs.FillingLemmas.{one_fill}
use Rattle.sheet_cli.proofs.GraphLemmas.{one_ahead, one_behind}
use Rattle.sheet_cli.proofs.PathLemmas.{one_shown}
use Rattle.sheet_cli.proofs.UndoLemmas.{one_undo}
use Rattle.sheet_cli.proofs.WordLemmas.{one_request}

abbrev no_script_for : ScriptRefused → Result ScriptValue ScriptRefused
no_script_for cause = Err cause

-- lists of edges that stand for one sheet's pairs have the same pairs
same_pair : (sheet : SheetValue) (text said : List ℕ) → (one : ListsEdges sheet text) → (other : ListsEdges sheet said)
    → (pair : Pair) → Contains (pairs_of one.edges) pair → Contains (pairs_of other.edges) pair
same_pair sheet text said one other pair there = (other.stand.same pair).1 ((other.of_sheet pair).1 ((one.of_sheet pair).0 ((one.stand.same pair).0 there)))

alike : (sheet : SheetValue) (text said : List ℕ) → (one : ListsEdges sheet text) → (other : ListsEdges sheet said)
    → SamePairs (pairs_of one.edges) (pairs_of other.edges)
alike sheet text said one other pair = (same_pair sheet said text other one pair, same_pair sheet text said one other pair)

-- and equally many
no_more : (sheet : SheetValue) (text said : List ℕ) → (one : ListsEdges sheet text) → (other : ListsEdges sheet said)
    → length (pairs_of one.edges) ≤ length (pairs_of other.edges)
no_more sheet text said one other =
    no_longer (pairs_of one.edges) (pairs_of other.edges) one.stand.once (λ pair there. same_pair sheet text said one other pair there)

pub as_many : (sheet : SheetValue) (text said : List ℕ) → (one : ListsEdges sheet text)
    → (other : ListsEdges sheet said) → length (pairs_of one.edges) ≡ length (pairs_of other.edges)
as_many sheet text said one other = omega (arith, no_more sheet text said one other, no_more sheet said text other one)

-- a command writes one text of a window of a sheet
one_text : (sheet : SheetValue) (window : Corners) (a b : WindowCommand) (text other : List ℕ) → a ≡ b
    → Writes sheet window a text → Writes sheet window b other → text ≡ other
one_text sheet window _ _ _ _ same values values = refl
one_text sheet window _ _ _ _ same values (dependents _ _) = absurd (no same)
  where
    no : Show ≡ Deps → ⊥
    no h = cc
one_text sheet window _ _ _ _ same values (precedents _ _) = absurd (no same)
  where
    no : Show ≡ Precs → ⊥
    no h = cc
one_text sheet window _ _ _ _ same (dependents _ _) values = absurd (no same)
  where
    no : Deps ≡ Show → ⊥
    no h = cc
one_text sheet window _ _ _ _ same (dependents runs one) (dependents other again) = ap runs_text (one_ahead sheet window runs other one again)
one_text sheet window _ _ _ _ same (dependents _ _) (precedents _ _) = absurd (no same)
  where
    no : Deps ≡ Precs → ⊥
    no h = cc
one_text sheet window _ _ _ _ same (precedents _ _) values = absurd (no same)
  where
    no : Precs ≡ Show → ⊥
    no h = cc
one_text sheet window _ _ _ _ same (precedents _ _) (dependents _ _) = absurd (no same)
  where
    no : Precs ≡ Deps → ⊥
    no h = cc
one_text sheet window _ _ _ _ same (precedents runs one) (precedents other again) = ap runs_text (one_behind sheet window runs other one again)

-- where the text under a name is told, it gives one thing
module _ (holds : List ℕ → Option (List ℕ)) (name told : List ℕ) (here : holds name ≡ Some told) where
  is_told : (text : List ℕ) → IsTextOf holds name text → text ≡ told
  is_told text stands = MatchOption-at_some _ _ told here stands.told

  gives_one : (a b : Result SheetValue SheetRefused) → GivesSheet holds name a → GivesSheet holds name b → a ≡ b
  gives_one a b one other =
      one_result other.text a b (subst (λ t. IsSheetResult t a) (is_told one.text one.stands ∙ sym (is_told other.text other.stands)) one.gives) other.gives

  short_or_long : (a : Result SheetValue SheetRefused) → GivesSheet holds name a → IfSome (holds name) (λ t. 16777216 < length t) → ⊥
  short_or_long a given long =
      let short = MatchOption-at_some _ _ told here given.stands.short in
      let past = MatchOption-at_some _ _ told here long in
      omega (arith, short, past)

  pub sheet_or_none : (sheet : SheetValue) (status : ℕ) (line : List ℕ) → GivesSheet holds name (Ok sheet) → HasNoSheet holds name status line → ⊥
  sheet_or_none sheet _ _ given (too_long long) = short_or_long (Ok sheet) given long
  sheet_or_none sheet _ _ given (refused why gives) =
      let both : Ok sheet ≡ Err why = gives_one (Ok sheet) (Err why) given gives in
      cc

  one_cause : (status other : ℕ) (line again : List ℕ) → HasNoSheet holds name status line
      → HasNoSheet holds name other again → refusal status line ≡ refusal other again
  one_cause _ _ _ _ (too_long _) (too_long _) = refl
  one_cause _ _ _ _ (too_long long) (refused why gives) = absurd (short_or_long (Err why) gives long)
  one_cause _ _ _ _ (refused why gives) (too_long long) = absurd (short_or_long (Err why) gives long)
  one_cause _ _ _ _ (refused why gives) (refused also regives) =
      let same : why ≡ also = cc (gives_one (Err why) (Err also) gives regives) in
      ap (λ w. refusal 3 (refused_line w)) same

  pub one_sheet : (sheet other : SheetValue) → GivesSheet holds name (Ok sheet) → GivesSheet holds name (Ok other) → sheet ≡ other
  one_sheet sheet other one again = cc (gives_one (Ok sheet) (Ok other) one again)

  -- so what is answered of it agrees where what is answered of one sheet does
  pub one_over : (P : SheetValue → Answer → Type 0) (Agree : Answer → Answer → Type 0)
      → ((a b : Answer) → a ≡ b → Agree a b) → ((sheet : SheetValue) (a b : Answer) → P sheet a → P sheet b → Agree a b)
      → (a b : Answer) → OverSheet holds name P a → OverSheet holds name P b → Agree a b
  one_over P Agree equal one _ _ (over_sheet sheet a gives given) (over_sheet other b regives regiven) =
      one sheet a b given (subst (λ s. P s b) (one_sheet other sheet regives gives) regiven)
  one_over P Agree equal one _ _ (over_sheet sheet a gives given) (no_sheet status line none) = absurd (sheet_or_none sheet status line gives none)
  one_over P Agree equal one _ _ (no_sheet status line none) (over_sheet sheet b gives given) = absurd (sheet_or_none sheet status line gives none)
  one_over P Agree equal one _ _ (no_sheet status line none) (no_sheet other reline renone) =
      equal (refusal status line) (refusal other reline) (one_cause status other line reline none renone)

-- where the text under a name is told, it gives one thing as a script over a sheet
module _ (holds : List ℕ → Option (List ℕ)) (name told : List ℕ) (here : holds name ≡ Some told) (mode : Mode) (sheet : SheetValue) where
  pub script_one : (labels others : List (List ℕ)) (a b : Result ScriptValue ScriptRefused)
      → GivesScript holds mode name sheet labels a → GivesScript holds mode name sheet others b → (a ≡ b)
      × (labels ≡ others)
  script_one labels others a b one other =
      one_script_result mode (ground_of sheet) sheet.labels labels others other.text a b one.table
      (subst (λ t. IsScriptResult mode (ground_of sheet) sheet.labels labels t a)
      (is_told holds name told here one.text one.stands
      ∙ sym (is_told holds name told here other.text other.stands)) one.gives) other.gives

  no_long_script : (labels : List (List ℕ)) (a : Result ScriptValue ScriptRefused)
      → GivesScript holds mode name sheet labels a → IfSome (holds name) (λ t. 16777216 < length t) → ⊥
  no_long_script labels a given long =
      let short = MatchOption-at_some _ _ told here given.stands.short in
      let past = MatchOption-at_some _ _ told here long in
      omega (arith, short, past)

  pub script_or_none : (labels : List (List ℕ)) (script : ScriptValue) (status : ℕ) (line : List ℕ)
      → GivesScript holds mode name sheet labels (Ok script) → HasNoScript holds mode name sheet status line → ⊥
  script_or_none labels script _ _ given (long_script long) = no_long_script labels (Ok script) given long
  script_or_none labels script _ _ given (refused_script why others gives) =
      let both : Ok script ≡ Err why = (script_one labels others (Ok script) (Err why) given gives).0 in
      cc

  one_script_cause : (status other : ℕ) (line again : List ℕ) → HasNoScript holds mode name sheet status line
      → HasNoScript holds mode name sheet other again → refusal status line ≡ refusal other again
  one_script_cause _ _ _ _ (long_script _) (long_script _) = refl
  one_script_cause _ _ _ _ (long_script long) (refused_script why labels gives) = absurd (no_long_script labels (Err why) gives long)
  one_script_cause _ _ _ _ (refused_script why labels gives) (long_script long) = absurd (no_long_script labels (Err why) gives long)
  one_script_cause _ _ _ _ (refused_script why labels gives) (refused_script also others regives) =
      let both : no_script_for why ≡ no_script_for also = (script_one labels others (Err why) (Err also) gives regives).0 in
      let same : why ≡ also = cc both in
      ap (λ w. refusal 4 (script_line w)) same

  -- so what is answered of it agrees where what is answered of one script does
  pub one_over_script : (P : SheetValue → ScriptValue → Answer → Type 0) (Agree : Answer → Answer → Type 0)
      → ((a b : Answer) → a ≡ b → Agree a b) → ((given : SheetValue) (script : ScriptValue) (a b : Answer)
      → P given script a → P given script b → Agree a b)
      → (a b : Answer) → OverScript holds mode name P sheet a → OverScript holds mode name P sheet b → Agree a b
  one_over_script P Agree equal one _ _ (over_script labels script a gives given) (over_script others another b regives regiven) =
      let both = script_one labels others (Ok script) (Ok another) gives regives in
      let scripts : another ≡ script = sym (cc both.0) in
      let again : P (with_labels sheet labels) another b = subst (λ ls. P (with_labels sheet ls) another b) (sym both.1) regiven in
      one (with_labels sheet labels) script a b given (subst (λ (s : ScriptValue). P (with_labels sheet labels) s b) scripts again)
  one_over_script P Agree equal one _ _ (over_script labels script a gives given) (no_script status line none) =
      absurd (script_or_none labels script status line gives none)
  one_over_script P Agree equal one _ _ (no_script status line none) (over_script labels script b gives given) =
      absurd (script_or_none labels script status line gives none)
  one_over_script P Agree equal one _ _ (no_script status line none) (no_script other reline renone) =
      equal (refusal status line) (refusal other reline) (one_script_cause status other line reline none renone)

-- `play` writes one text of a script over a sheet
one_played : (sheet : SheetValue) (steps : List Step) (text said : List ℕ) → IsPlayed sheet steps text → IsPlayed sheet steps said → text ≡ said
one_played sheet steps text said plays again =
    plays.text_is ∙ ap (play_text sheet.labels) (one_list sheet steps plays.reports again.reports plays.played again.played) ∙ sym again.text_is

-- ---- what is answered of one sheet, and of one script over it

-- answers agree where they are equal, or a run may give either
abbrev pub Agree : List (List ℕ) → Answer → Answer → Type 0
Agree words a b = (a ≡ b) ⊎ AreAlternatives words a b

one_window : (words : List (List ℕ)) (command : WindowCommand) (window : Corners) (sheet : SheetValue) (a b : Answer)
    → AnswersWindow command window sheet a → AnswersWindow command window sheet b → Agree words a b
one_window words command window sheet _ _ (written text within writes) (written said rewithin rewrites) =
    inl (ap output (one_text sheet window command command text said refl writes rewrites))
one_window words command window sheet _ _ (written text within writes) (outside past) = absurd (past within)
one_window words command window sheet _ _ (outside past) (written said within writes) = absurd (past within)
one_window words command window sheet _ _ (outside _) (outside _) = inl refl

one_check : (words : List (List ℕ)) (name : List ℕ) (sheet : SheetValue) (a b : Answer) → Asks words (of_check name)
    → AnswersCheck sheet a → AnswersCheck sheet b → Agree words a b
one_check words name sheet _ _ asked (listed text lists) (listed said again) = inr (either_check (record {
  name = name;
  asked = asked;
  edges = lists.edges;
  others = again.edges;
  alike = alike sheet text said lists again;
  pairs = length (pairs_of lists.edges);
  count = refl;
  one = ap output lists.text_is;
  other = ap output (again.text_is ∙ ap (λ n. check_text n again.edges) (as_many sheet said text again lists));
}))

one_path : (words : List (List ℕ)) (name : List ℕ) (from to : Position) (sheet : SheetValue) (a b : Answer)
    → Asks words (of_path name from to) → AnswersPath from to sheet a → AnswersPath from to sheet b → Agree words a b
one_path words name from to sheet _ _ asked (shown text inside shows) (shown said again reshows) =
    one_shown words name from to sheet text said asked shows reshows
one_path words name from to sheet _ _ asked (shown text inside shows) (beyond past) = absurd (past inside)
one_path words name from to sheet _ _ asked (beyond past) (shown said inside shows) = absurd (past inside)
one_path words name from to sheet _ _ asked (beyond _) (beyond _) = inl refl

played_script : (words : List (List ℕ)) (sheet : SheetValue) (steps : List Step) (a b : Answer)
    → IsText (IsPlayed sheet steps) a → IsText (IsPlayed sheet steps) b → Agree words a b
played_script words sheet steps _ _ (written_text text plays) (written_text said again) = inl (ap output (one_played sheet steps text said plays again))

lived_script : (words : List (List ℕ)) (workers : ℕ) (name script_name : List ℕ) (sheet : SheetValue)
    (script : ScriptValue) (a b : Answer) → Asks words (of_script (Live workers) name script_name)
    → IsText (IsLived sheet script) a → IsText (IsLived sheet script) b → Agree words a b
lived_script words workers name script_name sheet script _ _ asked (written_text text runs) (written_text said again) = inr (either_live (record {
  workers = workers;
  name = name;
  script_name = script_name;
  asked = asked;
  sheet = sheet;
  script = script;
  text = text;
  said = said;
  lived = runs;
  again = again;
  one = refl;
  other = refl;
}))

-- `gen` writes one text of a number
pub summed_text : (number : ℕ) (sheet : SheetValue) (text : List ℕ) → IsGeneratedSheet number sheet → IsSummed number text
    → text ≡ generated_text number 100 (sheet_sum (closing_of number sheet))
summed_text number sheet text drawn sums =
    let comes = comes_to_one number sums.sheet sums.transcript sums.legal in
    let same : sums.sheet ≡ sheet = one_generated number sums.sheet sheet sums.drawn drawn in
    sums.text_is
    ∙ (λ i. generated_text number (comes.entries i) (sheet_sum (comes.closing i)))
    ∙ ap (λ (s : SheetValue). generated_text number 100 (sheet_sum (closing_of number s))) same

one_summed : (number : ℕ) (a b : Answer) → AnswersGenerated number a → AnswersGenerated number b → a ≡ b
one_summed number _ _ (summed text sums) (summed said again) =
    ap output (summed_text number sums.sheet text sums.drawn sums ∙ sym (summed_text number sums.sheet said sums.drawn again))

one_script : (words : List (List ℕ)) (command : ScriptCommand) (name script_name : List ℕ) (sheet : SheetValue)
    (script : ScriptValue) (a b : Answer) → Asks words (of_script command name script_name)
    → AnswersScript command sheet script a → AnswersScript command sheet script b → Agree words a b
one_script words Play name script_name sheet script a b asked given again = played_script words sheet script.steps a b given again
one_script words (Live workers) name script_name sheet script a b asked given again =
    lived_script words workers name script_name sheet script a b asked given again
one_script words (Undo number) name script_name sheet script a b asked given again = inl (one_undo number sheet script a b given again)

-- a request is answered in one way, where the shelf tells the texts that it names
one_reply : (words : List (List ℕ)) (holds : List ℕ → Option (List ℕ)) (request : Request) (a b : Answer)
    → Asks words request → All (λ name. (text : List ℕ) × (holds name ≡ Some text)) (texts_named request)
    → AnswersRequest holds request a → AnswersRequest holds request b → Agree words a b
one_reply words holds (of_window command name window) a b asked tells given regiven =
    let (told, here) = tells 0 [] (omega arith) in
    one_over holds name told here (AnswersWindow command window) (Agree words) (λ x y. inl) (one_window words command window) a b given regiven
one_reply words holds (of_check name) a b asked tells given regiven =
    let (told, here) = tells 0 [] (omega arith) in
    one_over holds name told here AnswersCheck (Agree words) (λ x y. inl) (λ sheet x y. one_check words name sheet x y asked) a b given regiven
one_reply words holds (of_script command name script) a b asked tells given regiven =
    let (told, here) = tells 0 [] (omega arith) in
    let (spoken, there) = tells 1 [] (omega arith) in
    one_over holds name told here (OverScript holds (mode_of command) script (AnswersScript command)) (Agree words) (λ x y. inl)
    (λ sheet. one_over_script holds script spoken there (mode_of command) sheet (AnswersScript command) (Agree words)
    (λ x y. inl) (λ given read x y. one_script words command name script given read x y asked)) a b given regiven
one_reply words holds (of_path name from to) a b asked tells given regiven =
    let (told, here) = tells 0 [] (omega arith) in
    one_over holds name told here (AnswersPath from to) (Agree words) (λ x y. inl) (λ sheet x y. one_path words name from to sheet x y asked) a b given regiven
one_reply words holds (of_fill name from to) a b asked tells given regiven =
    let (told, here) = tells 0 [] (omega arith) in
    one_over holds name told here (AnswersFill from to) (Agree words) (λ x y. inl)
    (λ sheet x y one other. inl (one_fill from to sheet x y one other)) a b given regiven
one_reply words holds (of_generated number workers) a b asked tells given regiven = inl (one_summed number a b given regiven)

pub one_answer : OneAnswer
one_answer words holds _ _ tells (usage none) (usage _) = inl refl
one_answer words holds _ _ tells (usage none) (answers request answer asked _) = absurd (none request asked)
one_answer words holds _ _ tells (answers request answer asked _) (usage none) = absurd (none request asked)
one_answer words holds _ _ tells (answers request a asked given) (answers other b re regiven) =
    one_reply words holds request a b asked (tells request asked) given
    (subst (λ r. AnswersRequest holds r b) (one_request words other request re asked) regiven)

-- what a run may give either of are two texts
pub record AreTexts (a b : Answer) : Type 0 where
  pub text : List ℕ
  pub said : List ℕ
  pub one : a ≡ output text
  pub other : b ≡ output said

pub are_texts : (words : List (List ℕ)) (a b : Answer) → AreAlternatives words a b → AreTexts a b
are_texts words a b (either_check both) =
    record {
      text = check_text both.pairs both.edges;
      said = check_text both.pairs both.others;
      one = both.one;
      other = both.other;
    }
are_texts words a b (either_live both) = record { text = both.text; said = both.said; one = both.one; other = both.other }
are_texts words a b (either_path both) = record { text = cells_text both.cells; said = cells_text both.others; one = both.one; other = both.other }

-- so words are answered with one status
pub one_status : (words : List (List ℕ)) (holds : List ℕ → Option (List ℕ)) (a b : Answer) → TellsTexts words holds
    → Owes words holds a → Owes words holds b → status_of a ≡ status_of b
one_status words holds a b tells owed again = elim (one_answer words holds a b tells owed again) [
  | inl same ↦ ap status_of same
  | inr either ↦ ap status_of (are_texts words a b either).one ∙ sym (ap status_of (are_texts words a b either).other)
]

-- a text isn't refused
pub not_refused : (words : List (List ℕ)) (holds : List ℕ → Option (List ℕ)) (text line : List ℕ) (status : ℕ)
    → TellsTexts words holds → Owes words holds (output text) → Owes words holds (refusal status line) → ⊥
not_refused words holds text line status tells owed again = elim (one_answer words holds (output text) (refusal status line) tells owed again) [
  | inl same ↦ no same
  | inr either ↦ no (sym (are_texts words (output text) (refusal status line) either).other)
]
  where
    no : {t l : List ℕ} {s : ℕ} → output t ≡ refusal s l → ⊥
    no h = cc
