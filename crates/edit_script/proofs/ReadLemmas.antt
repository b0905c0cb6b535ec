-- Reading a text line by line.
use Rattle.std.proofs.Common.{◌≡◌, ◌∙◌, ◌+◌, ◌≤◌, ℕ, List, [], ◌∷◌, ◌++◌, length, length-append, Option, Some, None, refl, sym, ap, subst, arith}
use Rattle.std.specs.Prelude.{IsSome, MatchOption}
use Rattle.std.proofs.lemmas.List.{append-nil, append_assoc}
use Rattle.sheet_model.specs.Edits.{EditValue}
use Rattle.sheet_model.proofs.TableLemmas.{adds_few}
use Rattle.edit_script.specs.declared.progress.Progress.{Progress}
use Rattle.edit_script.specs.declared.script.Mode.{Mode}
use Rattle.edit_script.specs.Lines.{LineValue, Skip, Client, Set, Clear, Look, Firm, Work, Batch, End, IsLineOf, IsOrder, Says, script_lines}
use Rattle.edit_script.specs.Lines.IsLineOf.{empty, comment, begins, ends, order}
use Rattle.edit_script.specs.Lines.IsOrder.{client, set, clear, look, firm, work}
use Rattle.edit_script.specs.Progress.{brought, Extends, HoldsShortText, IsReading, IsWithinLimits, Takes, names_of}
use Rattle.edit_script.specs.Scripts.{Ground, AreLines, AreSteps, Brought, IsBegun, IsFault, IsFirstFault, IsScript}
use Rattle.edit_script.specs.Scripts.{IsUnended, ScriptValue, line_number, nothing_yet, set_text}
use Rattle.edit_script.specs.declared.refused.ScriptRefused.{ScriptRefused}
use Rattle.edit_script.proofs.OneScript.{none_begun}
use Rattle.edit_script.proofs.WayLemmas.{way_begins, way_goes}

-- what is said wants a cell to hold no long text
order_fit : (word behind : List ℕ) (line : LineValue) → IsOrder word behind line → HoldsShortText line
order_fit word _ _ (client _ name w is_name) = tt
order_fit word _ _ (set _ text content cell w sets) = sets.short
order_fit word _ _ (clear _ name cell w is_name) = tt
order_fit word _ _ (look _ name range w is_name) = tt
order_fit word _ _ (firm _ name range w is_name) = tt
order_fit word _ _ (work _ digits turns w is_turns) = tt

line_fit : (text : List ℕ) (line : LineValue) → IsLineOf text line → HoldsShortText line
line_fit text _ (empty _ none) = tt
line_fit text _ (comment _ rest is) = tt
line_fit text _ (begins _ is) = tt
line_fit text _ (ends _ is) = tt
line_fit text line (order _ word behind _ text_is is) = order_fit word behind line is

pub says_fit : (mode : Mode) (text : List ℕ) (line : LineValue) → Says mode text line → HoldsShortText line
says_fit mode text line says = line_fit text line says.0

module _ (mode : Mode) (ground : Ground) (old : List (List ℕ)) (text : List ℕ) where
  -- before the first line
  pub reading_begins : (left : List (List ℕ)) (progress : Progress) → left ≡ script_lines text → brought progress ≡ nothing_yet → IsWithinLimits progress
      → progress.steps.items ≡ [] → progress.batch ≡ None → IsReading mode ground old old text 0 left progress
  reading_begins left progress all nothing sound none closed = record {
    taken = [];
    all = sym all;
    count = refl;
    way = way_begins mode ground old progress nothing none closed sound;
    few = omega arith;
  }

  -- and behind each
  pub reading_goes : (between new : List (List ℕ)) (number : ℕ) (left rest : List (List ℕ)) (one : List ℕ) (line : LineValue) (progress after : Progress)
      → IsReading mode ground old between text number left progress → left ≡ one ∷ rest → Says mode one line
      → Takes ground line (number + 1) between progress new after
      → IsReading mode ground old new text (number + 1) rest after
  reading_goes between new number left rest one line progress after reading left_is says takes =
      let grows = adds_few (set_text line) between new takes.labels in
      let one_text : length (set_text line) ≤ 1 = few_texts line in
      let some = reading.few in
      let more = length-append reading.taken (one ∷ []) in
      let count = reading.count in
      record {
        taken = reading.taken ++ one ∷ [];
        all = reading.all ∙ ap (λ l. reading.taken ++ l) left_is ∙ sym (append_assoc reading.taken (one ∷ []) rest);
        count = omega (arith, more, count);
        way = way_goes mode ground old between new reading.taken one line number progress after reading.way count says takes;
        few = omega (arith, grows, one_text, some);
      }
    where
      few_texts : (line : LineValue) → length (set_text line) ≤ 1
      few_texts Skip = omega arith
      few_texts (Client name) = omega arith
      few_texts (Set cell content) = omega arith
      few_texts (Clear cell) = omega arith
      few_texts (Look range) = omega arith
      few_texts (Firm range) = omega arith
      few_texts (Work turns) = omega arith
      few_texts Batch = omega arith
      few_texts End = omega arith

-- a table that grew twice
pub grows_twice : (old between new : List (List ℕ)) → Extends old between → Extends between new → Extends old new
grows_twice old between new first second = (first.0 ++ second.0, second.1 ∙ ap (λ t. t ++ second.0) first.1 ∙ append_assoc old first.0 second.0)

module _ (mode : Mode) (ground : Ground) (old new : List (List ℕ)) (text : List ℕ) (number : ℕ) (left : List (List ℕ))
    (progress : Progress) (reading : IsReading mode ground old new text number left progress) where
  -- the next line is refused: it says nothing, or something with a fault
  pub reading_stops : (one : List ℕ) (rest : List (List ℕ)) (why : ScriptRefused) → left ≡ one ∷ rest
      → line_number why ≡ number + 1 → IsFault mode ground (brought progress) one why
      → IsFirstFault mode ground old new text why
  reading_stops one rest why left_is at fault = record {
    before = reading.taken;
    line = one;
    behind = rest;
    lines = reading.way.lines;
    all = reading.all ∙ ap (λ l. reading.taken ++ l) left_is;
    said = reading.way.said;
    number = at ∙ ap (λ n. n + 1) reading.count;
    fault = subst (λ b. IsFault mode ground b one why) reading.way.brought_is fault;
    labels = reading.way.labels;
  }

  all_taken : left ≡ [] → reading.taken ≡ script_lines text
  all_taken none = sym (append-nil reading.taken) ∙ ap (λ l. reading.taken ++ l) (sym none) ∙ sym reading.all

  -- no line is left, and a batch is open
  pub reading_unended : left ≡ [] → IsSome progress.batch → IsUnended mode ground old new text progress.begun
  reading_unended none some = record {
    lines = reading.way.lines;
    said = subst (λ texts. AreLines mode ground texts reading.way.lines) (all_taken none) reading.way.said;
    begun = is_open progress.batch some reading.way.begun;
    labels = reading.way.labels;
  }
    where
      is_open : (batch : Option EditValue) → IsSome batch
          → MatchOption batch (Unit {0}) (λ _. IsBegun reading.way.lines progress.begun)
          → IsBegun reading.way.lines progress.begun
      is_open None has since = absurd (cc)
      is_open (Some changes) has since = since

  -- or none is
  pub reading_ends : (script : ScriptValue) → left ≡ [] → progress.batch ≡ None → script.names ≡ names_of progress
      → script.steps ≡ progress.steps.items → IsScript mode ground old new text script
  reading_ends script none closed names steps =
      let are : AreSteps ground.edition new reading.way.lines None script.steps =
      subst (λ s. AreSteps ground.edition new reading.way.lines None s) (sym steps)
      (subst (λ b. AreSteps ground.edition new reading.way.lines b progress.steps.items) closed reading.way.steps)
      in
      record {
        lines = reading.way.lines;
        said = subst (λ texts. AreLines mode ground texts reading.way.lines) (all_taken none) reading.way.said;
        names = names ∙ ap (λ (b : Brought). b.names) reading.way.brought_is;
        ended = λ n. none_begun ground.edition new reading.way.lines script.steps n are;
        steps = are;
        labels = reading.way.labels;
      }
