-- A line behind others is refused for one cause.
use Rattle.std.proofs.Common.{◌≡◌, ◌∙◌, ◌⊎◌, inl, inr, ℕ, ◌<◌, ◌==◌, refl, sym, ap, subst, arith, List}
use Rattle.std.specs.Prelude.{if◌then◌else◌}
use Rattle.std.proofs.lemmas.Bool.{cases_order}
use Rattle.edit_script.specs.Lines.{LineValue, Says}
use Rattle.edit_script.specs.Progress.{IsPlainlyAllowed}
use Rattle.edit_script.specs.Scripts.{Ground, Brought, HasCause, HasManyRefs, IsAllowed, IsCellTwice, IsChangeTooMany}
use Rattle.edit_script.specs.Scripts.{IsClientTooMany, IsDeepEdit, IsEditTooMany, IsFault, IsFaultyLine, IsLineFault}
use Rattle.edit_script.specs.Scripts.{IsMisplaced, IsWindowTooLarge, LeavesSheet, line_number, place_in_order}
use Rattle.edit_script.specs.declared.refused.ScriptRefused.{ScriptRefused}
use Rattle.edit_script.specs.declared.refused.ScriptRefused.TheVariants.{BadLine, OutOfSheet, CellTwice, BatchTooLarge}
use Rattle.edit_script.specs.declared.refused.ScriptRefused.TheVariants.{TooManyClients, WindowTooLarge, TooManyEdits}
use Rattle.edit_script.specs.declared.refused.ScriptRefused.TheVariants.{FormulaTooDeep, TooManyRefs, Memory}
use Rattle.edit_script.specs.declared.script.Mode.{Mode}
use Rattle.edit_script.proofs.OneLine.{one_saying}

-- the refusal at a place of the order, at a line
abbrev refusal_at : ℕ → ℕ → ScriptRefused
refusal_at place number =
    if place == 0 then BadLine number else (
    if place == 1 then OutOfSheet number else (
    if place == 2 then CellTwice number else (
    if place == 3 then BatchTooLarge number else (
    if place == 4 then TooManyClients number else (
    if place == 5 then WindowTooLarge number else (
    if place == 6 then TooManyEdits number else (
    if place == 7 then FormulaTooDeep number else (
    if place == 8 then TooManyRefs number else Memory))))))))

rebuilt : (why : ScriptRefused) → refusal_at (place_in_order why) (line_number why) ≡ why
rebuilt (BadLine number) = refl
rebuilt (OutOfSheet number) = refl
rebuilt (CellTwice number) = refl
rebuilt (BatchTooLarge number) = refl
rebuilt (TooManyClients number) = refl
rebuilt (WindowTooLarge number) = refl
rebuilt (TooManyEdits number) = refl
rebuilt (FormulaTooDeep number) = refl
rebuilt (TooManyRefs number) = refl
rebuilt Memory = refl

-- so a refusal is told by its place in the order and its line
told_by : (a b : ScriptRefused) → place_in_order a ≡ place_in_order b → line_number a ≡ line_number b → a ≡ b
told_by a b place number = sym (rebuilt a) ∙ (λ i. refusal_at (place i) (number i)) ∙ rebuilt b

module _ (ground : Ground) (now : Brought) (line : LineValue) where
  -- of two causes of one line the first alone is told
  one_cause : (a b : ScriptRefused) → IsLineFault ground now line a → IsLineFault ground now line b → line_number a ≡ line_number b → a ≡ b
  one_cause a b x y number = elim (cases_order (place_in_order a) (place_in_order b)) [
    | inl same ↦ told_by a b same number
    | inr other ↦ elim other [
      | inl before ↦ absurd (y.first a before x.cause)
      | inr after ↦ absurd (x.first b after y.cause)
    ]
  ]

  -- no earlier cause holds
  pub none_before : (place : ℕ) → (0 < place → ¬ IsMisplaced now line) → (1 < place → ¬ LeavesSheet ground.sizes line)
      → (2 < place → ¬ IsCellTwice now line) → (3 < place → ¬ IsChangeTooMany now line)
      → (4 < place → ¬ IsClientTooMany now line) → (5 < place → ¬ IsWindowTooLarge now line)
      → (6 < place → ¬ IsEditTooMany now line) → (7 < place → ¬ IsDeepEdit line)
      → (8 < place → ¬ HasManyRefs ground.edition line) → (earlier : ScriptRefused) → place_in_order earlier < place
      → ¬ HasCause ground now line earlier
  none_before place m o t l c w e d r (BadLine number) before = m before
  none_before place m o t l c w e d r (OutOfSheet number) before = o before
  none_before place m o t l c w e d r (CellTwice number) before = t before
  none_before place m o t l c w e d r (BatchTooLarge number) before = l before
  none_before place m o t l c w e d r (TooManyClients number) before = c before
  none_before place m o t l c w e d r (WindowTooLarge number) before = w before
  none_before place m o t l c w e d r (TooManyEdits number) before = e before
  none_before place m o t l c w e d r (FormulaTooDeep number) before = d before
  none_before place m o t l c w e d r (TooManyRefs number) before = r before
  none_before place m o t l c w e d r Memory before = λ never. never

  -- no cause holds but those of formulas
  pub plainly : ¬ IsMisplaced now line → ¬ LeavesSheet ground.sizes line → ¬ IsCellTwice now line
      → ¬ IsChangeTooMany now line → ¬ IsClientTooMany now line → ¬ IsWindowTooLarge now line → ¬ IsEditTooMany now line
      → IsPlainlyAllowed ground now line
  plainly m o t l c w e why early =
      none_before 7 (λ _. m) (λ _. o) (λ _. t) (λ _. l) (λ _. c) (λ _. w) (λ _. e)
      (λ late. absurd (omega (arith, late))) (λ late. absurd (omega (arith, late))) why (omega (arith, early))

  -- nor those
  pub allowed : IsPlainlyAllowed ground now line → ¬ IsDeepEdit line → ¬ HasManyRefs ground.edition line → IsAllowed ground now line
  allowed plain shallow few (BadLine number) = plain (BadLine number) (omega arith)
  allowed plain shallow few (OutOfSheet number) = plain (OutOfSheet number) (omega arith)
  allowed plain shallow few (CellTwice number) = plain (CellTwice number) (omega arith)
  allowed plain shallow few (BatchTooLarge number) = plain (BatchTooLarge number) (omega arith)
  allowed plain shallow few (TooManyClients number) = plain (TooManyClients number) (omega arith)
  allowed plain shallow few (WindowTooLarge number) = plain (WindowTooLarge number) (omega arith)
  allowed plain shallow few (TooManyEdits number) = plain (TooManyEdits number) (omega arith)
  allowed plain shallow few (FormulaTooDeep number) = shallow
  allowed plain shallow few (TooManyRefs number) = few
  allowed plain shallow few Memory = λ never. never

module _ (mode : Mode) (ground : Ground) (now : Brought) (text : List ℕ) where
  abbrev IsBad : ScriptRefused → Type 0
  IsBad why = (number : ℕ) × (why ≡ BadLine number) × ((line : LineValue) → ¬ Says mode text line)

  -- a line that is refused says nothing, or something with a fault
  by_kind : (why : ScriptRefused) → IsFault mode ground now text why → IsBad why ⊎ IsFaultyLine mode ground now text why
  by_kind (BadLine number) (inl none) = inl (number, refl, none)
  by_kind (BadLine number) (inr fault) = inr fault
  by_kind (OutOfSheet number) fault = inr fault
  by_kind (CellTwice number) fault = inr fault
  by_kind (BatchTooLarge number) fault = inr fault
  by_kind (TooManyClients number) fault = inr fault
  by_kind (WindowTooLarge number) fault = inr fault
  by_kind (TooManyEdits number) fault = inr fault
  by_kind (FormulaTooDeep number) fault = inr fault
  by_kind (TooManyRefs number) fault = inr fault
  by_kind Memory fault = inr fault

  pub one_fault : (a b : ScriptRefused) → IsFault mode ground now text a → IsFault mode ground now text b → line_number a ≡ line_number b → a ≡ b
  one_fault a b x y number = elim (by_kind a x) [
    | inl bad ↦ elim (by_kind b y) [
      | inl other ↦ (let first : bad.0 ≡ other.0 = sym (ap line_number bad.1) ∙ number ∙ ap line_number other.1 in bad.1 ∙ ap BadLine first ∙ sym other.1)
      | inr faulty ↦ absurd (bad.2 faulty.line faulty.says)
    ]
    | inr faulty ↦ elim (by_kind b y) [
      | inl bad ↦ absurd (bad.2 faulty.line faulty.says)
      | inr other ↦ (let said : other.line ≡ faulty.line = one_saying mode text other.line faulty.line other.says faulty.says in
          one_cause ground now faulty.line a b faulty.fault (subst (λ l. IsLineFault ground now l b) said other.fault) number)
    ]
  ]

  -- a line with which nothing is wrong isn't refused
  pub none_wrong : (line : LineValue) (why : ScriptRefused) → Says mode text line → IsAllowed ground now line → IsFault mode ground now text why → ⊥
  none_wrong line why says allowed fault = elim (by_kind why fault) [
    | inl bad ↦ bad.2 line says
    | inr faulty ↦ (let said : faulty.line ≡ line = one_saying mode text faulty.line line faulty.says says in
        allowed why (subst (λ l. HasCause ground now l why) said faulty.fault.cause))
  ]

  -- a line that says something with a fault is refused so
  pub faulty_line : (line : LineValue) (why : ScriptRefused) → Says mode text line → IsLineFault ground now line why → IsFault mode ground now text why
  faulty_line line (BadLine number) says fault = inr (record { line = line; says = says; fault = fault })
  faulty_line line (OutOfSheet number) says fault = record { line = line; says = says; fault = fault }
  faulty_line line (CellTwice number) says fault = record { line = line; says = says; fault = fault }
  faulty_line line (BatchTooLarge number) says fault = record { line = line; says = says; fault = fault }
  faulty_line line (TooManyClients number) says fault = record { line = line; says = says; fault = fault }
  faulty_line line (WindowTooLarge number) says fault = record { line = line; says = says; fault = fault }
  faulty_line line (TooManyEdits number) says fault = record { line = line; says = says; fault = fault }
  faulty_line line (FormulaTooDeep number) says fault = record { line = line; says = says; fault = fault }
  faulty_line line (TooManyRefs number) says fault = record { line = line; says = says; fault = fault }
  faulty_line line Memory says fault = record { line = line; says = says; fault = fault }
