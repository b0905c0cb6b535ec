-- Lines are taken in one way, and give one list of steps.
use Rattle.std.proofs.Common.{◌≡◌, ◌≢◌, ◌∙◌, ◌⊎◌, inl, inr, ℕ, zero, suc, List, [], ◌∷◌, ◌++◌, length, Option, Some}
use Rattle.std.proofs.Common.{None, ◌+◌, Contains, refl, sym, ap, subst, arith, append_assoc, length-append}
use Rattle.std.specs.Prelude.{slice_get, fold, AllPairs}
use Rattle.std.proofs.lemmas.Bool.{cases_order}
use Rattle.std.proofs.lemmas.List.Elements.{Contains-append_left, Contains-append_right}
use Rattle.std.proofs.lemmas.Option.{none-some, same_Some, slice_get_within, get_or_from_slice_get}
use Rattle.sheet_refs.specs.Cells.{Position}
use Rattle.value_core.specs.declared.value.Value.TheVariants.{Empty}
use Rattle.sheet_model.specs.Labels.{IsTable}
use Rattle.sheet_model.specs.Changes.{ChangeValue}
use Rattle.sheet_model.specs.Edits.{EditValue}
use Rattle.sheet_model.specs.Sheets.{Constant}
use Rattle.sheet_model.proofs.ContentLemmas.{one_content}
use Rattle.sheet_model.proofs.LabelLemmas.{distinct-with_label}
use Rattle.sheet_model.proofs.ListMembers.{first_member}
use Rattle.formula_syntax.specs.declared.edition.Edition.{Edition}
use Rattle.edit_script.specs.Lines.{LineValue, Skip, Client, Set, Clear, Look, Firm, Work, Batch, End, Says}
use Rattle.edit_script.specs.Scripts.{Ground, AddsCommand, AreLines, AreSteps, Brought, GoesOn, IsAllowed, IsBegun}
use Rattle.edit_script.specs.Scripts.{IsFault, MakesChange, brought_by, change_of, nothing_yet, with_change, with_line}
use Rattle.edit_script.specs.Scripts.AreLines.{none as no_lines, more}
use Rattle.edit_script.specs.Scripts.AreSteps.{none as no_steps, more as step_more}
use Rattle.edit_script.specs.declared.refused.ScriptRefused.{ScriptRefused}
use Rattle.edit_script.specs.declared.script.Command.{Command}
use Rattle.edit_script.specs.declared.script.Command.TheVariants as asks
use Rattle.edit_script.specs.declared.script.Mode.{Mode}
use Rattle.edit_script.specs.declared.script.Step.{Step}
use Rattle.edit_script.proofs.OneFault.{none_wrong}
use Rattle.edit_script.proofs.OneLine.{one_saying}

module _ {A : Type 0} where
  -- a list with a last element has one
  pub one_last : (a b : List A) (x y : A) → a ++ x ∷ [] ≡ b ++ y ∷ [] → (a ≡ b) × (x ≡ y)
  one_last [] [] x y same = (refl, cc)
  one_last [] (z ∷ b) x y same = (let long : suc zero ≡ suc (length (b ++ y ∷ [])) = ap length same in
      let end = length-append b (y ∷ []) in absurd (omega (arith, long, end)))
  one_last (z ∷ a) [] x y same = (let long : suc (length (a ++ x ∷ [])) ≡ suc zero = ap length same in
      let end = length-append a (x ∷ []) in absurd (omega (arith, long, end)))
  one_last (z ∷ a) (w ∷ b) x y same =
      let first : z ≡ w = cc in
      let others : a ++ x ∷ [] ≡ b ++ y ∷ [] = cc in
      let rest = one_last a b x y others in
      ((λ i. first i ∷ rest.0 i), rest.1)

  pub none_last : (a : List A) (x : A) → a ++ x ∷ [] ≢ []
  none_last a x none = (let end = length-append a (x ∷ []) in let long : length (a ++ x ∷ []) ≡ 0 = ap length none in omega (arith, end, long))

  -- a list is empty, or has a last element
  pub by_last : (a : List A) → (a ≡ []) ⊎ ((front : List A) × (last : A) × (a ≡ front ++ last ∷ []))
  by_last [] = inl refl
  by_last (x ∷ a) = elim (by_last a) [
    | inl none ↦ inr ([], x, ap (λ l. x ∷ l) none)
    | inr some ↦ inr (x ∷ some.0, some.1, ap (λ l. x ∷ l) some.2)
  ]

  -- lists that begin alike end alike
  same_tail : (front a b : List A) → front ++ a ≡ front ++ b → a ≡ b
  same_tail [] a b same = same
  same_tail (x ∷ front) a b same = (let rest : front ++ a ≡ front ++ b = cc in same_tail front a b rest)

  -- of two places in a list one is before the other, or they are the same
  abbrev IsBefore : List A → List A → A → Type 0
  IsBefore a b x = (rest : List A) × (b ≡ a ++ x ∷ rest)

  pub in_order : (a b : List A) (x y : A) (c d : List A) → a ++ x ∷ c ≡ b ++ y ∷ d → ((a ≡ b) × (x ≡ y)) ⊎ (IsBefore a b x ⊎ IsBefore b a y)
  in_order [] [] x y c d same = inl (refl, cc)
  in_order [] (z ∷ b) x y c d same = (let first : z ≡ x = cc in inr (inl (b, ap (λ w. w ∷ b) first)))
  in_order (z ∷ a) [] x y c d same = (let first : z ≡ y = cc in inr (inr (a, ap (λ w. w ∷ a) first)))
  in_order (z ∷ a) (w ∷ b) x y c d same =
      let first : z ≡ w = cc in
      let others : a ++ x ∷ c ≡ b ++ y ∷ d = cc in
      elim (in_order a b x y c d others) [
        | inl here ↦ inl ((λ i. first i ∷ here.0 i), here.1)
        | inr apart ↦ elim apart [
          | inl before ↦ inr (inl (before.0, λ i. sym first i ∷ before.1 i))
          | inr after ↦ inr (inr (after.0, λ i. first i ∷ after.1 i))
        ]
      ]

module _ (mode : Mode) (ground : Ground) where
  -- texts say one list of lines
  pub one_lines : (texts : List (List ℕ)) (a b : List LineValue) → AreLines mode ground texts a → AreLines mode ground texts b → a ≡ b
  one_lines _ _ _ no_lines no_lines = refl
  one_lines _ _ _ no_lines (more texts _ text lines _ line are says allowed split is) = absurd (none_last texts text (sym split))
  one_lines _ _ _ (more texts _ text lines _ line are says allowed split is) no_lines = absurd (none_last texts text (sym split))
  one_lines _ a b (more texts _ text lines _ line are says allowed split is) (more texts' _ text' lines' _ line' are' says' allowed' split' is') =
      let ends = one_last texts' texts text' text (sym split' ∙ split) in
      let before : lines ≡ lines' = one_lines texts lines lines' are (subst (λ t. AreLines mode ground t lines') ends.0 are') in
      let last : line ≡ line' = one_saying mode text line line' says (subst (λ t. Says mode t line') ends.1 says') in
      is ∙ (λ i. before i ++ last i ∷ []) ∙ sym is'

  -- no line is refused among those that are taken
  pub none_refused : (all before rest : List (List ℕ)) (text : List ℕ) (some known : List LineValue) (why : ScriptRefused)
      → AreLines mode ground all known → AreLines mode ground before some → IsFault mode ground (brought_by some) text why → all ≢ before ++ text ∷ rest
  none_refused _ before rest text some _ why no_lines front fault split =
      (let end = length-append before (text ∷ rest) in
      let long : 0 ≡ length (before ++ text ∷ rest) = ap length split in omega (arith, end, long))
  none_refused _ before rest text some _ why (more texts _ last lines _ line are says allowed split is) front fault place = elim (by_last rest) [
    | inl none ↦ (
        let ends = one_last texts before last text (sym split ∙ place ∙ ap (λ r. before ++ text ∷ r) none) in
        let same : lines ≡ some = one_lines before lines some (subst (λ t. AreLines mode ground t lines) ends.0 are) front in
        none_wrong mode ground (brought_by some) text line why (subst (λ t. Says mode t line) ends.1 says)
        (subst (λ l. IsAllowed ground (brought_by l) line) same allowed) fault)
    | inr behind ↦ (
        let longer : before ++ text ∷ (behind.0 ++ behind.1 ∷ []) ≡ (before ++ text ∷ behind.0) ++ behind.1
        ∷ [] = sym (append_assoc before (text ∷ behind.0) (behind.1 ∷ [])) in
        let ends = one_last texts (before ++ text ∷ behind.0) last behind.1 (sym split ∙ place ∙ ap (λ r. before ++ text ∷ r) behind.2 ∙ longer) in
        none_refused texts before behind.0 text some lines why are front fault ends.0)
  ]

-- the clients of lines have names apart
change_apart : (batch : Option (List Position)) (now : Brought) (cell : Position) → AllPairs (λ a b. a ≢ b) now.names
    → AllPairs (λ a b. a ≢ b) (with_change batch now cell).names
change_apart None now cell apart = distinct-with_label now.names now.client apart
change_apart (Some cells) now cell apart = apart

names_apart : (now : Brought) (lines : List LineValue) → AllPairs (λ a b. a ≢ b) now.names → AllPairs (λ a b. a ≢ b) (fold with_line now lines).names
names_apart now [] apart = apart
names_apart now (Skip ∷ rest) apart = names_apart now rest apart
names_apart now (Client name ∷ rest) apart = names_apart (with_line now (Client name)) rest (distinct-with_label now.names name apart)
names_apart now (Set cell text ∷ rest) apart = names_apart (with_line now (Set cell text)) rest (change_apart now.batch now cell apart)
names_apart now (Clear cell ∷ rest) apart = names_apart (with_line now (Clear cell)) rest (change_apart now.batch now cell apart)
names_apart now (Look range ∷ rest) apart = names_apart (with_line now (Look range)) rest (distinct-with_label now.names now.client apart)
names_apart now (Firm range ∷ rest) apart = names_apart (with_line now (Firm range)) rest (distinct-with_label now.names now.client apart)
names_apart now (Work turns ∷ rest) apart = names_apart (with_line now (Work turns)) rest (distinct-with_label now.names now.client apart)
names_apart now (Batch ∷ rest) apart = names_apart (with_line now Batch) rest apart
names_apart now (End ∷ rest) apart = names_apart (with_line now End) rest (distinct-with_label now.names now.client apart)

-- a name stands at one place
one_place : (names : List (List ℕ)) (name : List ℕ) (a b : ℕ) → AllPairs (λ x y. x ≢ y) names
    → slice_get names a ≡ Some name → slice_get names b ≡ Some name → a ≡ b
one_place names name a b apart x y = elim (cases_order a b) [
  | inl same ↦ same
  | inr other ↦ elim other [
    | inl before ↦
        absurd (apart a b name before (slice_get_within names b name y) (get_or_from_slice_get names a name name x
        ∙ sym (get_or_from_slice_get names b name name y)))
    | inr after ↦
        absurd (apart b a name after (slice_get_within names a name x) (get_or_from_slice_get names b name name y
        ∙ sym (get_or_from_slice_get names a name name x)))
  ]
]

-- a command of the client whose commands follow is one step
one_added : (now : Brought) (command : Command) (old a b : List Step) → AllPairs (λ x y. x ≢ y) now.names
    → AddsCommand command now old a → AddsCommand command now old b → a ≡ b
one_added now command old a b apart x y =
    let client = one_place now.names now.client x.client y.client apart x.place y.place in
    x.added ∙ ap (λ c. old ++ record { client = c; command = command } ∷ []) client ∙ sym y.added

-- what a change does is one thing
one_made : (now : Brought) (change other : ChangeValue) (before a b : Option EditValue) (old x y : List Step)
    → AllPairs (λ x y. x ≢ y) now.names → change ≡ other → MakesChange now change before a old x
    → MakesChange now other before b old y → (a ≡ b) × (x ≡ y)
one_made now change other None a b old x y apart same (a_is, adds) (b_is, adds') =
    (a_is ∙ sym b_is, one_added now (asks.Put (change ∷ [])) old x y apart adds (subst (λ c. AddsCommand (asks.Put (c ∷ [])) now old y) (sym same) adds'))
one_made now change other (Some changes) a b old x y apart same (a_is, x_is) (b_is, y_is) =
    (a_is ∙ ap (λ c. Some (changes ++ c ∷ [])) same ∙ sym b_is, x_is ∙ sym y_is)

module _ (edition : Edition) (labels : List (List ℕ)) (table : IsTable labels) where
  -- what a line does is one thing
  one_going : (now : Brought) (line : LineValue) (before a b : Option EditValue) (old x y : List Step)
      → AllPairs (λ x y. x ≢ y) now.names → GoesOn edition labels now line before a old x
      → GoesOn edition labels now line before b old y → (a ≡ b) × (x ≡ y)
  one_going now Skip before a b old x y apart (a_is, x_is) (b_is, y_is) = (a_is ∙ sym b_is, x_is ∙ sym y_is)
  one_going now (Client name) before a b old x y apart (a_is, x_is) (b_is, y_is) = (a_is ∙ sym b_is, x_is ∙ sym y_is)
  one_going now (Set cell text) before a b old x y apart (content, writes, makes) (other, writes', makes') =
      one_made now (change_of cell content) (change_of cell other) before a b old x y apart
      (ap (change_of cell) (one_content edition labels text content other table writes writes')) makes makes'
  one_going now (Clear cell) before a b old x y apart makes makes' =
      one_made now (change_of cell (Constant Empty)) (change_of cell (Constant Empty)) before a b old x y apart refl
      makes makes'
  one_going now (Look range) before a b old x y apart (a_is, adds) (b_is, adds') = (a_is ∙ sym b_is, one_added now (asks.Look range) old x y apart adds adds')
  one_going now (Firm range) before a b old x y apart (a_is, adds) (b_is, adds') = (a_is ∙ sym b_is, one_added now (asks.Firm range) old x y apart adds adds')
  one_going now (Work turns) before a b old x y apart (a_is, adds) (b_is, adds') = (a_is ∙ sym b_is, one_added now (asks.Work turns) old x y apart adds adds')
  one_going now Batch before a b old x y apart (a_is, x_is) (b_is, y_is) = (a_is ∙ sym b_is, x_is ∙ sym y_is)
  one_going now End before a b old x y apart (changes, opened, a_is, adds) (others, opened', b_is, adds') =
      let some : Some changes ≡ Some others = sym opened ∙ opened' in
      let same : changes ≡ others = same_Some changes others some in
      (a_is ∙ sym b_is, one_added now (asks.Put changes) old x y apart adds (subst (λ c. AddsCommand (asks.Put c) now old y) (sym same) adds'))

  -- and lines give one list of steps
  pub one_steps : (lines : List LineValue) (p q : Option EditValue) (a b : List Step)
      → AreSteps edition labels lines p a → AreSteps edition labels lines q b → (p ≡ q) × (a ≡ b)
  one_steps _ _ _ _ _ no_steps no_steps = (refl, refl)
  one_steps _ _ _ _ _ no_steps (step_more lines _ line before after some all are goes split) = absurd (none_last lines line (sym split))
  one_steps _ _ _ _ _ (step_more lines _ line before after some all are goes split) no_steps = absurd (none_last lines line (sym split))
  one_steps known _ _ _ _ (step_more lines _ line before after some all are goes split) (step_more lines' _ line' before' after' some' all' are' goes' split') =
      let ends = one_last lines' lines line' line (sym split' ∙ split) in
      let first = one_steps lines before before' some some' are (subst (λ l. AreSteps edition labels l before' some') ends.0 are') in
      let again : GoesOn edition labels (brought_by known) line before after' some all' =
      subst (λ b. GoesOn edition labels (brought_by known) line b after' some all') (sym first.0)
      (subst (λ s. GoesOn edition labels (brought_by known) line before' after' s all') (sym first.1)
      (subst (λ l. GoesOn edition labels (brought_by known) l before' after' some' all') ends.1 goes')) in
      one_going (brought_by known) line before after after' some all all'
      (names_apart nothing_yet known (λ i j d less within same. omega (arith, within, less))) goes again

-- a line closes no batch but by its end
closes_change : (now : Brought) (change : ChangeValue) (before after : Option EditValue) (some all : List Step)
    → MakesChange now change before after some all → after ≡ None → before ≡ None
closes_change now change None after some all makes closed = refl
closes_change now change (Some changes) after some all (is, same) closed = absurd (none-some (changes ++ change ∷ []) (sym closed ∙ is))

closes : (edition : Edition) (labels : List (List ℕ)) (now : Brought) (line : LineValue)
    (before after : Option EditValue) (some all : List Step) → GoesOn edition labels now line before after some all
    → after ≡ None → line ≢ End → before ≡ None
closes edition labels now Skip before after some all goes closed other = sym goes.0 ∙ closed
closes edition labels now (Client name) before after some all goes closed other = sym goes.0 ∙ closed
closes edition labels now (Set cell text) before after some all (content, writes, makes) closed other =
    closes_change now (change_of cell content) before after some all makes closed
closes edition labels now (Clear cell) before after some all makes closed other =
    closes_change now (change_of cell (Constant Empty)) before after some all makes closed
closes edition labels now (Look range) before after some all goes closed other = sym goes.0 ∙ closed
closes edition labels now (Firm range) before after some all goes closed other = sym goes.0 ∙ closed
closes edition labels now (Work turns) before after some all goes closed other = sym goes.0 ∙ closed
closes edition labels now Batch before after some all goes closed other = absurd (none-some [] (sym closed ∙ goes.0))
closes edition labels now End before after some all goes closed other = absurd (other refl)

-- so where none is open, none has begun that isn't ended
none_open : (edition : Edition) (labels : List (List ℕ)) (lines : List LineValue) (after : Option EditValue)
    (all : List Step) (before behind : List LineValue) → AreSteps edition labels lines after all → lines ≡ before
    ++ Batch ∷ behind → ¬ Contains behind End → after ≡ None → ⊥
none_open edition labels _ _ _ before behind no_steps split no_end closed =
    (let end = length-append before (Batch ∷ behind) in
    let long : 0 ≡ length (before ++ Batch ∷ behind) = ap length split in omega (arith, end, long))
none_open edition labels _ after all before behind (step_more lines known line was _ some _ are goes is) split no_end closed = elim (by_last behind) [
  | inl none ↦ (
      let ends = one_last lines before line Batch (sym is ∙ split ∙ ap (λ b. before ++ Batch ∷ b) none) in
      let begins : GoesOn edition labels (brought_by known) Batch was after some all =
      subst (λ l. GoesOn edition labels (brought_by known) l was after some all) ends.1 goes in
      none-some [] (sym closed ∙ begins.0))
  | inr last ↦ (
      let longer : before ++ Batch ∷ (last.0 ++ last.1 ∷ []) ≡ (before ++ Batch ∷ last.0) ++ last.1
      ∷ [] = sym (append_assoc before (Batch ∷ last.0) (last.1 ∷ [])) in
      let ends = one_last lines (before ++ Batch ∷ last.0) line last.1 (sym is ∙ split ∙ ap (λ b. before ++ Batch ∷ b) last.2 ∙ longer) in
      let other : line ≢ End =
      λ same. no_end (subst (λ b. Contains b End) (sym last.2) (Contains-append_right last.0 (last.1
      ∷ []) End (subst (λ l. Contains (last.1 ∷ []) l) (sym ends.1 ∙ same) (first_member last.1 [])))) in
      let earlier : ¬ Contains last.0 End = λ there. no_end (subst (λ b. Contains b End) (sym last.2) (Contains-append_left last.0 (last.1 ∷ []) End there)) in
      none_open edition labels lines was some before last.0 are ends.0 earlier (closes edition labels (brought_by known)
      line was after some all goes closed other))
]

pub none_begun : (edition : Edition) (labels : List (List ℕ)) (lines : List LineValue) (all : List Step) (number : ℕ)
    → AreSteps edition labels lines None all → ¬ IsBegun lines number
none_begun edition labels lines all number are begun = none_open edition labels lines None all begun.before begun.behind are begun.split begun.no_end refl

-- a batch begins at one line
pub one_begun : (lines : List LineValue) (a b : ℕ) → IsBegun lines a → IsBegun lines b → a ≡ b
one_begun lines a b x y = elim (in_order x.before y.before Batch Batch x.behind y.behind (sym x.split ∙ y.split)) [
  | inl same ↦ x.count ∙ ap (λ l. length l + 1) same.0 ∙ sym y.count
  | inr apart ↦ elim apart [
    | inl before ↦ absurd (later x.before y.before x.behind y.behind before.0 x.no_batch before.1 (sym x.split ∙ y.split))
    | inr after ↦ absurd (later y.before x.before y.behind x.behind after.0 y.no_batch after.1 (sym y.split ∙ x.split))
  ]
]
  where
    -- a batch behind the last one
    later : (front back behind rest between : List LineValue) → ¬ Contains behind Batch → back ≡ front ++ Batch
        ∷ between → front ++ Batch ∷ behind ≡ back ++ Batch ∷ rest → ⊥
    later front back behind rest between none back_is same =
        let whole : front ++ Batch ∷ behind ≡ front ++ Batch ∷ (between ++ Batch ∷ rest) = same
        ∙ ap (λ l. l ++ Batch ∷ rest) back_is ∙ append_assoc front (Batch ∷ between) (Batch ∷ rest) in
        let tails : Batch ∷ behind ≡ Batch ∷ (between ++ Batch ∷ rest) = same_tail front (Batch ∷ behind) (Batch ∷ (between ++ Batch ∷ rest)) whole in
        let behind_is : behind ≡ between ++ Batch ∷ rest = cc in
        none (subst (λ l. Contains l Batch) (sym behind_is) (Contains-append_right between (Batch ∷ rest) Batch (first_member Batch rest)))
