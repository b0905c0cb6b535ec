-- A text gives one thing.
use Rattle.std.proofs.Common.{◌≡◌, ◌∙◌, ◌+◌, inl, inr, ℕ, List, None, length, sym, ap, subst}
use Rattle.std.specs.Prelude.{Ok, Err}
use Rattle.sheet_model.specs.Labels.{IsTable}
use Rattle.sheet_model.specs.Tables.{AddsLabels}
use Rattle.sheet_model.proofs.TableLemmas.{adds_one}
use Rattle.edit_script.specs.Lines.{script_lines}
use Rattle.edit_script.specs.Scripts.{Ground, AreLines, AreSteps, IsBegun, IsFault, IsFirstFault, IsRefused, IsScript}
use Rattle.edit_script.specs.Scripts.{IsUnended, OneScriptResult, ScriptValue, brought_by, line_number, set_texts}
use Rattle.edit_script.specs.Scripts.IsRefused.{at_line, unended}
use Rattle.edit_script.specs.declared.refused.ScriptRefused.TheVariants.{BadLine}
use Rattle.edit_script.specs.declared.refused.ScriptRefused.{ScriptRefused}
use Rattle.edit_script.specs.declared.script.Mode.{Mode}
use Rattle.edit_script.proofs.OneFault.{one_fault}
use Rattle.edit_script.proofs.OneScript.{in_order, none_refused, one_begun, one_lines, one_steps}

module _ (mode : Mode) (ground : Ground) (old new other : List (List ℕ)) (text : List ℕ) where
  one_script : (a b : ScriptValue) → IsTable new → IsScript mode ground old new text a → IsScript mode ground old other text b → (a ≡ b) × (new ≡ other)
  one_script a b table x y =
      let lines : y.lines ≡ x.lines = one_lines mode ground (script_lines text) y.lines x.lines y.said x.said in
      let labels : new ≡ other = adds_one (set_texts x.lines) old new other x.labels (subst (λ l. AddsLabels (set_texts l) old other) lines y.labels) in
      let names : a.names ≡ b.names = x.names ∙ ap (λ l. (brought_by l).names) (sym lines) ∙ sym y.names in
      let over : AreSteps ground.edition new x.lines None b.steps =
      subst (λ l. AreSteps ground.edition new l None b.steps) lines
      (subst (λ t. AreSteps ground.edition t y.lines None b.steps) (sym labels) y.steps) in
      let steps : a.steps ≡ b.steps = (one_steps ground.edition new table x.lines None None a.steps b.steps x.steps over).1 in
      ((λ i. record { names = names i; steps = steps i }), labels)

  -- no line of a script is refused
  script_or_fault : (a : ScriptValue) (why : ScriptRefused) (new other : List (List ℕ))
      → IsScript mode ground old new text a → IsFirstFault mode ground old other text why → ⊥
  script_or_fault a why new other x y = none_refused mode ground (script_lines text) y.before y.behind y.line y.lines x.lines why x.said y.said y.fault y.all

  same_place : (a b : ScriptRefused)
      → (x : IsFirstFault mode ground old new text a) (y : IsFirstFault mode ground old other text b)
      → y.before ≡ x.before → y.line ≡ x.line → (a ≡ b) × (new ≡ other)
  same_place a b x y before line =
      let lines : y.lines ≡ x.lines = one_lines mode ground x.before y.lines x.lines (subst (λ t. AreLines mode ground t y.lines) before y.said) x.said in
      let fault : IsFault mode ground (brought_by x.lines) x.line b =
      subst (λ l. IsFault mode ground (brought_by l) x.line b) lines
      (subst (λ t. IsFault mode ground (brought_by y.lines) t b) line y.fault) in
      let number : line_number a ≡ line_number b = x.number ∙ ap (λ l. length l + 1) (sym before) ∙ sym y.number in (
        one_fault mode ground (brought_by x.lines) x.line a b x.fault fault number,
        adds_one (set_texts x.lines) old new other x.labels (subst (λ l. AddsLabels (set_texts l) old other) lines y.labels),
      )

  one_first : (a b : ScriptRefused) → IsFirstFault mode ground old new text a → IsFirstFault mode ground old other text b → (a ≡ b) × (new ≡ other)
  one_first a b x y = elim (in_order y.before x.before y.line x.line y.behind x.behind (sym y.all ∙ x.all)) [
    | inl same ↦ same_place a b x y same.0 same.1
    | inr apart ↦ elim apart [
      | inl before ↦ absurd (none_refused mode ground x.before y.before before.0 y.line y.lines x.lines b x.said y.said y.fault before.1)
      | inr after ↦ absurd (none_refused mode ground y.before x.before after.0 x.line x.lines y.lines a y.said x.said x.fault after.1)
    ]
  ]

  -- nor is one unended
  fault_or_unended : (why : ScriptRefused) (number : ℕ) (new other : List (List ℕ))
      → IsFirstFault mode ground old new text why → IsUnended mode ground old other text number → ⊥
  fault_or_unended why number new other x y =
      none_refused mode ground (script_lines text) x.before x.behind x.line x.lines y.lines why y.said x.said x.fault
      x.all

  script_or_unended : (a : ScriptValue) (number : ℕ) (new other : List (List ℕ)) → IsScript mode ground old new text a
      → IsUnended mode ground old other text number → ⊥
  script_or_unended a number new other x y =
      let lines : y.lines ≡ x.lines = one_lines mode ground (script_lines text) y.lines x.lines y.said x.said in
      x.ended number (subst (λ l. IsBegun l number) lines y.begun)

  one_unended : (a b : ℕ) → IsUnended mode ground old new text a → IsUnended mode ground old other text b → (a ≡ b) × (new ≡ other)
  one_unended a b x y =
      let lines : y.lines ≡ x.lines = one_lines mode ground (script_lines text) y.lines x.lines y.said x.said in (
        one_begun x.lines a b x.begun (subst (λ l. IsBegun l b) lines y.begun),
        adds_one (set_texts x.lines) old new other x.labels (subst (λ l. AddsLabels (set_texts l) old other) lines y.labels),
      )

  one_refusal : (a b : ScriptRefused) → IsRefused mode ground old new text a → IsRefused mode ground old other text b → (a ≡ b) × (new ≡ other)
  one_refusal a b (at_line x) (at_line y) = one_first a b x y
  one_refusal a b (at_line x) (unended number is y) = absurd (fault_or_unended a number new other x y)
  one_refusal a b (unended number is x) (at_line y) = absurd (fault_or_unended b number other new y x)
  one_refusal a b (unended number is x) (unended number' is' y) = (let same = one_unended number number' x y in (is ∙ ap BadLine same.0 ∙ sym is', same.1))

  -- no script is refused
  script_or_refused : (a : ScriptValue) (why : ScriptRefused) (new other : List (List ℕ))
      → IsScript mode ground old new text a → IsRefused mode ground old other text why → ⊥
  script_or_refused a why new other x (at_line y) = script_or_fault a why new other x y
  script_or_refused a why new other x (unended number is y) = script_or_unended a number new other x y

pub one_result : OneScriptResult
one_result mode ground old new other text (Ok a) (Ok b) table x y =
    (let same = one_script mode ground old new other text a b table x y in (ap Ok same.0, same.1))
one_result mode ground old new other text (Ok a) (Err why) table x y = absurd (script_or_refused mode ground old new other text a why new other x y)
one_result mode ground old new other text (Err why) (Ok b) table x y = absurd (script_or_refused mode ground old new other text b why other new y x)
one_result mode ground old new other text (Err a) (Err b) table x y = (let same = one_refusal mode ground old new other text a b x y in (ap Err same.0, same.1))
