-- Taking lines one after the other.
use Rattle.std.proofs.Common.{◌≡◌, ◌≢◌, ◌+◌, inl, inr, ℕ, List, [], ◌∷◌, ◌++◌, Option, Some, None, length}
use Rattle.std.proofs.Common.{length-append, Contains, refl, sym, ap, subst, ◌∙◌, append-nil, append_assoc}
use Rattle.std.specs.Prelude.{MatchOption}
use Rattle.std.proofs.lemmas.List.Elements.{Contains-append_cases}
use Rattle.std.proofs.lemmas.List.Sums.{fold-append}
use Rattle.std.proofs.lemmas.List.Concat.{flat_map-append}
use Rattle.value_core.specs.declared.value.Value.TheVariants.{Empty}
use Rattle.sheet_model.specs.Changes.{ChangeValue}
use Rattle.sheet_model.specs.Edits.{EditValue}
use Rattle.sheet_model.specs.Sheets.{ContentValue, Constant}
use Rattle.sheet_model.specs.Fields.{IsContent}
use Rattle.sheet_model.specs.Tables.{AddsLabels}
use Rattle.sheet_model.specs.Tables.AddsLabels.{done, next}
use Rattle.sheet_model.proofs.EditLemmas.{first_or_later}
use Rattle.sheet_model.proofs.ListMembers.{no_member}
use Rattle.sheet_model.proofs.SheetLemmas.{IsContent-after}
use Rattle.formula_syntax.specs.declared.edition.Edition.{Edition}
use Rattle.edit_script.specs.Lines.{LineValue, Skip, Client, Set, Clear, Look, Firm, Work, Batch, End, Says}
use Rattle.edit_script.specs.Scripts.{Ground, Brought, AreSteps, GoesOn, IsAllowed, IsBegun, MakesChange, brought_by}
use Rattle.edit_script.specs.Scripts.{change_of, nothing_yet, with_line, set_text, set_texts}
use Rattle.edit_script.specs.Scripts.AreLines.{none as no_lines, more}
use Rattle.edit_script.specs.Scripts.AreSteps.{none as no_steps, more as step_more}
use Rattle.edit_script.specs.Progress.{BeginsAt, IsWithinLimits, HasTakenLines, Takes, brought}
use Rattle.edit_script.specs.declared.progress.Progress.{Progress}
use Rattle.edit_script.specs.declared.script.Mode.{Mode}
use Rattle.edit_script.specs.declared.script.Step.{Step}

-- texts that are read behind others
adds_both : (first second old between new : List (List ℕ)) → AddsLabels first old between → AddsLabels second between new → AddsLabels (first ++ second) old new
adds_both _ second old between new (done texts _ _ none same) after =
    subst (λ t. AddsLabels (t ++ second) old new) (sym none) (subst (λ t. AddsLabels second t new) same after)
adds_both _ second old between new (next texts text rest _ middle _ split after_first after_rest) after =
    next (texts ++ second) text (rest ++ second) old middle new (ap (λ t. t ++ second) split) after_first
    (adds_both rest second middle between new after_rest after)

-- what a text writes over a table, it writes over the table with further texts
content_grows : (edition : Edition) (texts old new : List (List ℕ)) (text : List ℕ) (content : ContentValue)
    → AddsLabels texts old new → IsContent edition old text content → IsContent edition new text content
content_grows edition _ old new text content (done texts _ _ none same) writes = subst (λ t. IsContent edition t text content) (sym same) writes
content_grows edition _ old new text content (next texts first rest _ middle _ split after_first after_rest) writes =
    content_grows edition rest middle new text content after_rest (IsContent-after edition first old middle text content after_first writes)

-- what a line does beside a table, it does beside the table with further texts
going_grows : (edition : Edition) (texts old new : List (List ℕ)) (now : Brought) (line : LineValue)
    (before after : Option EditValue) (some all : List Step) → AddsLabels texts old new
    → GoesOn edition old now line before after some all → GoesOn edition new now line before after some all
going_grows edition texts old new now Skip before after some all table goes = goes
going_grows edition texts old new now (Client name) before after some all table goes = goes
going_grows edition texts old new now (Set cell text) before after some all table (content, writes, makes) =
    (content, content_grows edition texts old new text content table writes, makes)
going_grows edition texts old new now (Clear cell) before after some all table goes = goes
going_grows edition texts old new now (Look range) before after some all table goes = goes
going_grows edition texts old new now (Firm range) before after some all table goes = goes
going_grows edition texts old new now (Work turns) before after some all table goes = goes
going_grows edition texts old new now Batch before after some all table goes = goes
going_grows edition texts old new now End before after some all table goes = goes

steps_grow : (edition : Edition) (texts old new : List (List ℕ)) (known : List LineValue) (changes : Option EditValue)
    (all : List Step) → AddsLabels texts old new → AreSteps edition old known changes all
    → AreSteps edition new known changes all
steps_grow edition texts old new _ _ _ table no_steps = no_steps
steps_grow edition texts old new _ _ _ table (step_more lines known line before after some all are goes split) =
    step_more lines known line before after some all (steps_grow edition texts old new lines before some table are)
    (going_grows edition texts old new (brought_by known) line before after some all table goes) split

brought_more : (before : List LineValue) (line : LineValue) → brought_by (before ++ line ∷ []) ≡ with_line (brought_by before) line
brought_more before line = fold-append with_line nothing_yet before (line ∷ [])

set_texts_more : (before : List LineValue) (line : LineValue) → set_texts (before ++ line ∷ []) ≡ set_texts before ++ set_text line
set_texts_more before line = flat_map-append set_text before (line ∷ []) ∙ ap (λ t. set_texts before ++ t) (append-nil (set_text line))

-- a batch that began before a line, which isn't its end, and no further one
begun_on : (lines : List LineValue) (line : LineValue) (number : ℕ) → line ≢ End → line ≢ Batch → IsBegun lines number → IsBegun (lines ++ line ∷ []) number
begun_on lines line number other another begun = record {
  before = begun.before;
  behind = begun.behind ++ line ∷ [];
  split = ap (λ l. l ++ line ∷ []) begun.split ∙ append_assoc begun.before (Batch ∷ begun.behind) (line ∷ []);
  count = begun.count;
  no_end = λ there. elim (Contains-append_cases begun.behind (line ∷ []) End there) [ inl before ↦ begun.no_end before | inr last ↦ other (sole last) ];
  no_batch = λ there. elim (Contains-append_cases begun.behind (line ∷ []) Batch there) [ inl before ↦ begun.no_batch before | inr last ↦ another (sole last) ];
}
  where
    sole : {l : LineValue} → Contains (line ∷ []) l → line ≡ l
    sole {l} there = elim (first_or_later l line [] there) [ inl same ↦ same | inr later ↦ absurd (no_member l later) ]

-- where the batch that is open began
abbrev OpenSince : Option EditValue → List LineValue → ℕ → Type 0
OpenSince changes lines number = MatchOption changes (Unit {0}) (λ _. IsBegun lines number)

-- no change of an open batch opens or closes it
open_alike : (now : Brought) (change : ChangeValue) (before after : Option EditValue) (some all : List Step)
    (lines later : List LineValue) (number : ℕ) → MakesChange now change before after some all
    → (IsBegun lines number → IsBegun later number) → OpenSince before lines number → OpenSince after later number
open_alike now change None after some all lines later number (after_is, adds) on since = subst (λ b. OpenSince b later number) (sym after_is) tt
open_alike now change (Some changes) after some all lines later number (after_is, same) on since =
    subst (λ b. OpenSince b later number) (sym after_is) (on since)

open_same : (before after : Option EditValue) (lines later : List LineValue) (number : ℕ) → after ≡ before
    → (IsBegun lines number → IsBegun later number) → OpenSince before lines number → OpenSince after later number
open_same None after lines later number same on since = subst (λ b. OpenSince b later number) (sym same) tt
open_same (Some changes) after lines later number same on since = subst (λ b. OpenSince b later number) (sym same) (on since)

open_goes : (edition : Edition) (labels : List (List ℕ)) (now : Brought) (lines : List LineValue) (line : LineValue)
    (count was is : ℕ) (before after : Option EditValue) (some all : List Step)
    → count ≡ length lines → GoesOn edition labels now line before after some all → BeginsAt line (count + 1) was is
    → OpenSince before lines was → OpenSince after (lines ++ line ∷ []) is
open_goes edition labels now lines Skip count was is before after some all long goes at since =
    subst (OpenSince after (lines ++ Skip ∷ [])) (sym at) (open_same before after lines (lines ++ Skip
    ∷ []) was goes.0 (begun_on lines Skip was (λ e. cc) (λ e. cc)) since)
open_goes edition labels now lines (Client name) count was is before after some all long goes at since =
    subst (OpenSince after (lines ++ Client name ∷ [])) (sym at) (open_same before after lines (lines ++ Client name
    ∷ []) was goes.0 (begun_on lines (Client name) was (λ e. cc) (λ e. cc)) since)
open_goes edition labels now lines (Set cell text) count was is before after some all long (content, writes, makes) at since =
    subst (OpenSince after (lines ++ Set cell text ∷ [])) (sym at) (open_alike now (change_of cell content) before after
    some all lines (lines ++ Set cell text ∷ []) was makes (begun_on lines (Set cell text) was (λ e. cc) (λ e. cc))
    since)
open_goes edition labels now lines (Clear cell) count was is before after some all long makes at since =
    subst (OpenSince after (lines ++ Clear cell ∷ [])) (sym at) (open_alike now (change_of cell (Constant Empty)) before
    after some all lines (lines ++ Clear cell ∷ []) was makes (begun_on lines (Clear cell) was (λ e. cc) (λ e. cc))
    since)
open_goes edition labels now lines (Look range) count was is before after some all long goes at since =
    subst (OpenSince after (lines ++ Look range ∷ [])) (sym at) (open_same before after lines (lines ++ Look range
    ∷ []) was goes.0 (begun_on lines (Look range) was (λ e. cc) (λ e. cc)) since)
open_goes edition labels now lines (Firm range) count was is before after some all long goes at since =
    subst (OpenSince after (lines ++ Firm range ∷ [])) (sym at) (open_same before after lines (lines ++ Firm range
    ∷ []) was goes.0 (begun_on lines (Firm range) was (λ e. cc) (λ e. cc)) since)
open_goes edition labels now lines (Work turns) count was is before after some all long goes at since =
    subst (OpenSince after (lines ++ Work turns ∷ [])) (sym at) (open_same before after lines (lines ++ Work turns
    ∷ []) was goes.0 (begun_on lines (Work turns) was (λ e. cc) (λ e. cc)) since)
open_goes edition labels now lines Batch count was is before after some all long goes at since =
    subst (λ b. OpenSince b (lines ++ Batch ∷ []) is) (sym goes.0) (record {
      before = lines;
      behind = [];
      split = refl;
      count = at ∙ ap (λ n. n + 1) long;
      no_end = λ there. no_member End there;
      no_batch = λ there. no_member Batch there;
    })
open_goes edition labels now lines End count was is before after some all long (changes, opened, closed, adds) at since =
    subst (λ b. OpenSince b (lines ++ End ∷ []) is) (sym closed) tt

-- before the first line
pub way_begins : (mode : Mode) (ground : Ground) (old : List (List ℕ)) (progress : Progress)
    → brought progress ≡ nothing_yet → progress.steps.items ≡ [] → progress.batch ≡ None → IsWithinLimits progress
    → HasTakenLines mode ground old old [] progress
way_begins mode ground old progress nothing none closed sound = record {
  lines = [];
  said = no_lines;
  brought_is = nothing;
  steps = subst (AreSteps ground.edition old [] progress.batch) (sym none) (subst (λ b. AreSteps ground.edition old [] b []) (sym closed) no_steps);
  begun = subst (λ b. OpenSince b [] progress.begun) (sym closed) tt;
  count = refl;
  labels = done [] old old refl refl;
  sound = sound;
}

-- and behind each
pub way_goes : (mode : Mode) (ground : Ground) (old between new texts : List (List ℕ)) (text : List ℕ)
    (line : LineValue) (number : ℕ) (progress after : Progress)
    → HasTakenLines mode ground old between texts progress → number ≡ length texts → Says mode text line
    → Takes ground line (number + 1) between progress new after
    → HasTakenLines mode ground old new (texts ++ text ∷ []) after
way_goes mode ground old between new texts text line number progress after way counted says takes =
    let now_is : brought after ≡ brought_by (way.lines ++ line ∷ []) = takes.brought_is
    ∙ ap (λ k. with_line k line) way.brought_is ∙ sym (brought_more way.lines line) in
    let goes : GoesOn ground.edition new (brought_by (way.lines ++ line ∷ [])) line progress.batch after.batch progress.steps.items after.steps.items =
    subst (λ k. GoesOn ground.edition new k line progress.batch after.batch progress.steps.items after.steps.items) now_is takes.goes in
    record {
      lines = way.lines ++ line ∷ [];
      said = more texts (texts ++ text ∷ []) text way.lines (way.lines ++ line ∷ []) line way.said says
          (subst (λ k. IsAllowed ground k line) way.brought_is takes.allowed) refl refl;
      brought_is = now_is;
      steps = step_more way.lines (way.lines ++ line ∷ []) line progress.batch after.batch progress.steps.items after.steps.items
          (steps_grow ground.edition (set_text line) between new way.lines progress.batch progress.steps.items takes.labels way.steps) goes refl;
      begun = open_goes ground.edition new (brought_by (way.lines ++ line ∷ [])) way.lines line number progress.begun
          after.begun progress.batch after.batch progress.steps.items after.steps.items (counted ∙ sym way.count) goes
          takes.begun way.begun;
      count = length-append way.lines (line ∷ []) ∙ ap (λ n. n + 1) way.count ∙ sym (length-append texts (text ∷ []));
      labels =
          subst (λ t. AddsLabels t old new) (sym (set_texts_more way.lines line))
          (adds_both (set_texts way.lines) (set_text line) old between new way.labels takes.labels);
      sound = takes.sound;
    }
