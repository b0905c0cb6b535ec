-- The text of an edit, taken as a script.
use Rattle.std.proofs.Common.{◌≡◌, inl, inr, ℕ, ℤ, pos, negsuc, zero, suc, List, [], ◌∷◌, ◌++◌, length, map, fold, get_or, All}
use Rattle.std.proofs.Common.{slice_get, Option, None, Some, IsSome, decimal, arith, refl, sym, ap, ◌∙◌, subst}
use Rattle.std.specs.Prelude.{codes}
use Rattle.std.specs.Fmt.{signed_decimal}
use Rattle.std.proofs.Math.Seq.{get_or-append_seam}
use Rattle.std.proofs.lemmas.List.{length-append, map-append}
use Rattle.std.proofs.lemmas.List.Elements.{All-append, All-push}
use Rattle.std.proofs.lemmas.List.Sums.{fold-append}
use Rattle.std.proofs.lemmas.Option.{same_Some, slice_get_within}
use Rattle.sheet_refs.specs.Cells.{Position, IsNamed}
use Rattle.sheet_refs.specs.Names.{IsCellName, cell_text}
use Rattle.sheet_refs.proofs.NameLemmas.{one_cell}
use Rattle.sheet_refs.proofs.PrintLemmas.{cell_printed, decimal_printed}
use Rattle.value_core.specs.Wholes.{IsWhole}
use Rattle.value_core.specs.declared.value.Value.{Value}
use Rattle.value_core.specs.declared.value.Value.TheVariants as value
use Rattle.value_core.proofs.ArithmeticLemmas.{size_of_whole}
use Rattle.formula_syntax.specs.Printing.{plain}
use Rattle.formula_syntax.specs.Spelling.{HasTooManyRefs, IsTooDeep, Spells}
use Rattle.formula_syntax.specs.Tree.{Tree}
use Rattle.formula_syntax.specs.declared.edition.Edition.{Edition}
use Rattle.formula_syntax.proofs.Printed.{plain_spells}
use Rattle.sheet_model.specs.Changes.{ChangeValue}
use Rattle.sheet_model.specs.Edits.{EditValue}
use Rattle.sheet_model.specs.Fields.{IsContent, IsDeepFormula, IsLabelField, IsNumberField, IsTableAfter}
use Rattle.sheet_model.specs.Fields.IsNumberField.{minus, unsigned}
use Rattle.sheet_model.specs.Fields.IsTableAfter.{label, other}
use Rattle.sheet_model.specs.Labels.{IsTable, with_label}
use Rattle.sheet_model.specs.Sheets.{Computed, Constant, ContentValue, IsWritten, SheetValue}
use Rattle.sheet_model.specs.Tables.{AddsLabels}
use Rattle.sheet_model.specs.Tables.AddsLabels.{done, next}
use Rattle.sheet_model.proofs.ContentLemmas.{one_content}
use Rattle.edit_script.specs.Lines.{LineValue, Batch, Clear, End, Set, Says, script_lines}
use Rattle.edit_script.specs.Lines.IsLineOf.{begins, ends, order}
use Rattle.edit_script.specs.Lines.IsOrder.{clear}
use Rattle.edit_script.specs.Scripts.{AddsCommand, AreLines, AreSteps, Brought, GoesOn, Ground, IsAllowed, IsScript}
use Rattle.edit_script.specs.Scripts.{MakesChange, ScriptValue, brought_by, change_of}
use Rattle.edit_script.specs.Scripts.{ground_of, nothing_yet, set_text, set_texts, with_change, with_line}
use Rattle.edit_script.specs.Scripts.AreLines.{none as no_lines, more as more_lines}
use Rattle.edit_script.specs.Scripts.AreSteps.{none as no_steps, more as more_steps}
use Rattle.edit_script.specs.declared.refused.ScriptRefused.TheVariants.{FormulaTooDeep, TooManyRefs}
use Rattle.edit_script.specs.declared.script.Command.TheVariants as asks
use Rattle.edit_script.specs.declared.script.Mode.{Mode}
use Rattle.edit_script.specs.declared.script.Step.{Step}
use Rattle.edit_script.proofs.LineLemmas.{order_line}
use Rattle.edit_script.proofs.OneLine.{one_saying}
use Rattle.edit_script.proofs.OneScript.{by_last, none_last, one_last}
use Rattle.edit_script.proofs.OrderLemmas.{says_set}
use Rattle.edit_script.proofs.SpaceLemmas.{HasNoSpace, cell_name_space}
use Rattle.window_text.specs.Changes.{batch_text, content_text}
use Rattle.sheet_fill.specs.FilledTexts.{IsWritable, SaysEdit, WritesItself}
use Rattle.sheet_fill.proofs.LineTexts.{batch_lines, filling_said, line_text, said, text_said}

-- the text of a content writes it, whatever labels there are
abbrev pub WritesBack : Edition → List (List ℕ) → ContentValue → Type 0
WritesBack edition texts content = (labels : List (List ℕ)) → IsContent edition labels (content_text texts content) content

number_back : (z : ℤ) → IsWhole z → IsNumberField (signed_decimal z) z
number_back (pos n) whole =
    let size = size_of_whole (pos n) whole in
    unsigned (decimal n) n (decimal_printed 9007199254740991 n size (omega (arith, size)))
number_back (negsuc n) whole =
    let size = size_of_whole (negsuc n) whole in
    minus (45 ∷ decimal (suc n)) (decimal (suc n)) (suc n) refl (decimal_printed 9007199254740991 (suc n) size (omega (arith, size)))

pub constant_back : (edition : Edition) (texts : List (List ℕ)) (v : Value) → IsWritten (Constant v) → WritesItself edition (Constant v)
    → WritesBack edition texts (Constant v)
constant_back edition texts value.Empty written itself = λ labels. refl
constant_back edition texts (value.Number number) written itself = λ labels. number_back number written.in_range
constant_back edition texts (value.Truth truth) written itself = λ labels. refl
constant_back edition texts (value.Error kind) written itself = λ labels. inl (record {
  written = λ same. written.not_circular (ap value.Error same);
  name = refl;
})
constant_back edition texts (value.Label place) written itself = absurd itself

-- nothing is wrong with what a cell is to hold
pub record IsSound (edition : Edition) (text : List ℕ) : Type 0 where
  pub shallow : ¬ IsDeepFormula text
  pub few : ¬ HasTooManyRefs edition text

formula_back : (edition : Edition) (texts : List (List ℕ)) (t : Tree) → IsWritten (Computed t) → WritesItself edition (Computed t)
    → IsSound edition (plain t) → WritesBack edition texts (Computed t)
formula_back edition texts t written itself sound = λ labels.
    record { shallow = shallow; spelt = spelt; within = itself; few = written.few_references }
  where
    spelt : Spells (plain t) t
    spelt = plain_spells t written.fitting

    shallow : ¬ IsTooDeep (plain t)
    shallow deep = sound.shallow (record { begins = (spelt.rest, spelt.introduced); deep = deep })

-- a text that writes a content other than a label is no label
pub no_label_text : (edition : Edition) (texts : List (List ℕ)) (content : ContentValue) → WritesBack edition texts content → WritesItself edition content
    → ¬ IsLabelField (content_text texts content)
no_label_text edition texts content back itself field =
    let text : List ℕ = content_text texts content in
    let table : IsTable (text ∷ []) = record { distinct = λ i j d before within same. omega (arith, before, within); few = omega arith } in
    let same : content ≡ Constant (value.Label 0) =
    one_content edition (text ∷ []) text content (Constant (value.Label 0)) table (back (text ∷ [])) (field, refl) in
    subst (WritesItself edition) same itself

-- of a list
all_front : {A : Type 0} (P : A → Type 0) (xs ys : List A) → All P (xs ++ ys) → All P xs
all_front P [] ys all k d within = absurd (omega (arith, within))
all_front P (x ∷ xs) ys all zero d within = all 0 d (omega arith)
all_front P (x ∷ xs) ys all (suc k) d within = all_front P xs ys (λ i e below. all (suc i) e (omega (arith, below))) k d (omega (arith, within))

all_last : {A : Type 0} (P : A → Type 0) (front : List A) (last : A) → All P (front ++ last ∷ []) → P last
all_last P front last all =
    let long = length-append front (last ∷ []) in
    subst P (get_or-append_seam front last [] last) (all (length front) last (omega (arith, long)))

-- a text has one first space
one_split : (a b c d : List ℕ) → HasNoSpace a → HasNoSpace c → a ++ 32 ∷ b ≡ c ++ 32 ∷ d → (a ≡ c) × (b ≡ d)
one_split [] b [] d none_a none_c same = (refl, cc)
one_split [] b (y ∷ c) d none_a none_c same = absurd (none_c 0 (omega arith) (let first : y ≡ 32 = cc in first))
one_split (x ∷ a) b [] d none_a none_c same = absurd (none_a 0 (omega arith) (let first : x ≡ 32 = cc in first))
one_split (x ∷ a) b (y ∷ c) d none_a none_c same =
    let first : x ≡ y = cc in
    let others : a ++ 32 ∷ b ≡ c ++ 32 ∷ d = cc in
    let rest = one_split a b c d (λ i within. none_a (suc i) (omega (arith, within))) (λ i within. none_c (suc i) (omega (arith, within))) others in
    ((λ i. first i ∷ rest.0 i), rest.1)

set_space : HasNoSpace (codes "set")
set_space zero within same = omega (arith, same)
set_space (suc zero) within same = omega (arith, same)
set_space (suc (suc zero)) within same = omega (arith, same)
set_space (suc (suc (suc k))) within same = omega (arith, within)

-- what the line of a change says
clear_said : (mode : Mode) (cell : Position) (line : LineValue) → IsNamed cell.row cell.col → Says mode (codes "clear " ++ cell_text cell) line
    → line ≡ Clear cell
clear_said mode cell line named says =
    let text : List ℕ = codes "clear " ++ cell_text cell in
    let here : Says mode text (Clear cell) =
    (order text (codes "clear") (cell_text cell) (Clear cell) refl (clear (codes "clear") (cell_text cell) cell refl (cell_printed cell named)), tt) in
    one_saying mode text line (Clear cell) says here

set_said : (mode : Mode) (cell : Position) (content : List ℕ) (line : LineValue) → IsNamed cell.row cell.col
    → Says mode (codes "set " ++ (cell_text cell ++ 32 ∷ content)) line → line ≡ Set cell content
set_said mode cell content line named says =
    let text : List ℕ = codes "set " ++ (cell_text cell ++ 32 ∷ content) in
    let ordered = order_line text line (λ same. omega (arith, ap (λ l. get_or l 0 0) same)) (λ rest same. omega (arith, ap (λ l. get_or l 0 0) same))
    (λ same. omega (arith, ap (λ l. get_or l 0 0) same)) (λ same. omega (arith, ap (λ l. get_or l 0 0) same)) says.0 in
    let words = one_split ordered.word ordered.behind (codes "set") (cell_text cell ++ 32 ∷ content) ordered.space set_space (sym ordered.text_is) in
    let (there, held, is, sets) = says_set ordered.word ordered.behind line words.0 ordered.order in
    let parts = one_split sets.name held (cell_text cell) content (cell_name_space sets.name there sets.names)
    (cell_name_space (cell_text cell) cell (cell_printed cell named)) (sym sets.text_is ∙ words.1) in
    let cell_is : there ≡ cell = one_cell (cell_text cell) there cell (subst (λ n. IsCellName n there) parts.0 sets.names) (cell_printed cell named) in
    is ∙ (λ i. Set (cell_is i) (parts.1 i))

-- of a change whose line was taken
pub record IsTaken (edition : Edition) (labels : List (List ℕ)) (change : ChangeValue) (line : LineValue) : Type 0 where
  pub line_is : line ≡ said labels change
  pub back : WritesBack edition labels change.content

sound_set : (ground : Ground) (now : Brought) (cell : Position) (text : List ℕ) (line : LineValue) → IsAllowed ground now line → line ≡ Set cell text
    → IsSound ground.edition text
sound_set ground now cell text line allowed is =
    let fine : IsAllowed ground now (Set cell text) = subst (IsAllowed ground now) is allowed in
    record { shallow = fine (FormulaTooDeep 0); few = fine (TooManyRefs 0) }

filling_taken : (mode : Mode) (ground : Ground) (now : Brought) (labels : List (List ℕ)) (cell : Position) (content : ContentValue) (line : LineValue)
    → IsNamed cell.row cell.col → IsWritten content → WritesItself ground.edition content
    → Says mode (text_said (filling_said labels cell content)) line → IsAllowed ground now line
    → IsTaken ground.edition labels (record { cell = cell; content = content }) line
filling_taken mode ground now labels cell (Constant value.Empty) line named written itself says allowed =
    record { line_is = clear_said mode cell line named says; back = constant_back ground.edition labels value.Empty written itself }
filling_taken mode ground now labels cell (Constant (value.Number n)) line named written itself says allowed =
    record { line_is = set_said mode cell _ line named says; back = constant_back ground.edition labels (value.Number n) written itself }
filling_taken mode ground now labels cell (Constant (value.Truth b)) line named written itself says allowed =
    record { line_is = set_said mode cell _ line named says; back = constant_back ground.edition labels (value.Truth b) written itself }
filling_taken mode ground now labels cell (Constant (value.Error kind)) line named written itself says allowed =
    record { line_is = set_said mode cell _ line named says; back = constant_back ground.edition labels (value.Error kind) written itself }
filling_taken mode ground now labels cell (Constant (value.Label place)) line named written itself says allowed = absurd itself
filling_taken mode ground now labels cell (Computed t) line named written itself says allowed =
    let is : line ≡ Set cell (plain t) = set_said mode cell (plain t) line named says in
    record { line_is = is; back = formula_back ground.edition labels t written itself (sound_set ground now cell (plain t) line allowed is) }

-- what the lines before the last one say
pub record AreTaken (edition : Edition) (labels : List (List ℕ)) (edit : EditValue) (lines : List LineValue) : Type 0 where
  pub lines_are : lines ≡ Batch ∷ map (said labels) edit
  pub back : All (λ (change : ChangeValue). WritesBack edition labels change.content) edit

module _ (mode : Mode) (ground : Ground) (labels : List (List ℕ)) where
  none_said : (texts : List (List ℕ)) (lines : List LineValue) → AreLines mode ground texts lines → texts ≡ [] → lines ≡ []
  none_said _ _ no_lines none = refl
  none_said _ _ (more_lines texts all text lines known line are says allowed split is) none = absurd (none_last texts text (sym split ∙ none))

  batch_said : (line : LineValue) → Says mode (codes "batch") line → line ≡ Batch
  batch_said line says = one_saying mode (codes "batch") line Batch says (begins (codes "batch") refl, tt)

  end_said : (line : LineValue) → Says mode (codes "end") line → line ≡ End
  end_said line says = one_saying mode (codes "end") line End says (ends (codes "end") refl, tt)

  changes_said : (edit : EditValue) (texts : List (List ℕ)) (lines : List LineValue) → All (IsWritable ground.edition) edit
      → AreLines mode ground texts lines → texts ≡ codes "batch" ∷ map (line_text labels) edit → AreTaken ground.edition labels edit lines
  changes_said edit _ _ all no_lines are = absurd (omega (arith, ap length are))
  changes_said edit _ _ all (more_lines texts whole text lines known line said_before says allowed split is) are = elim (by_last edit) [
    | inl none ↦ (
        let ended = one_last texts [] text (codes "batch") (sym split ∙ are ∙ ap (λ l. codes "batch" ∷ map (line_text labels) l) none) in
        let line_is : line ≡ Batch = batch_said line (subst (λ t. Says mode t line) ended.1 says) in
        let before : lines ≡ [] = none_said texts lines said_before ended.0 in
        record {
          lines_are = is ∙ (λ i. before i ++ line_is i ∷ []) ∙ sym (ap (λ l. Batch ∷ map (said labels) l) none);
          back = subst (λ (l : EditValue). All (λ (change : ChangeValue). WritesBack ground.edition labels change.content) l) (sym none)
              (λ k d within. absurd (omega (arith, within)));
        })
    | inr (front, change, edit_is) ↦ (
        let ended = one_last texts (codes "batch" ∷ map (line_text labels) front) text (line_text labels change)
        (sym split ∙ are ∙ ap (λ l. codes "batch" ∷ map (line_text labels) l) edit_is
        ∙ ap (λ l. codes "batch" ∷ l) (map-append (line_text labels) front (change ∷ []))) in
        let both : All (IsWritable ground.edition) (front ++ change ∷ []) = subst (All (IsWritable ground.edition)) edit_is all in
        let writable : IsWritable ground.edition change = all_last (IsWritable ground.edition) front change both in
        let earlier = changes_said front texts lines (all_front (IsWritable ground.edition) front (change ∷ []) both) said_before ended.0 in
        let taken : IsTaken ground.edition labels change line =
        filling_taken mode ground (brought_by lines) labels change.cell change.content line writable.named writable.written writable.itself
        (subst (λ t. Says mode t line) ended.1 says) allowed in
        record {
          lines_are = is ∙ (λ i. earlier.lines_are i ++ taken.line_is i ∷ [])
              ∙ sym (ap (λ l. Batch ∷ l) (ap (map (said labels)) edit_is ∙ map-append (said labels) front (change ∷ [])));
          back = subst (λ (l : EditValue). All (λ (c : ChangeValue). WritesBack ground.edition labels c.content) l) (sym edit_is)
              (All-push (λ (c : ChangeValue). WritesBack ground.edition labels c.content) front change earlier.back taken.back);
        })
  ]

  all_said : (edit : EditValue) (texts : List (List ℕ)) (lines : List LineValue) → All (IsWritable ground.edition) edit
      → AreLines mode ground texts lines → texts ≡ (codes "batch" ∷ map (line_text labels) edit) ++ codes "end" ∷ []
      → (front : List LineValue) × AreTaken ground.edition labels edit front × (lines ≡ front ++ End ∷ [])
  all_said edit _ _ all no_lines are = absurd (omega (arith, ap length are))
  all_said edit _ _ all (more_lines texts whole text lines known line said_before says allowed split is) are =
      let ended = one_last texts (codes "batch" ∷ map (line_text labels) edit) text (codes "end") (sym split ∙ are) in
      let line_is : line ≡ End = end_said line (subst (λ t. Says mode t line) ended.1 says) in
      (lines, changes_said edit texts lines all said_before ended.0, is ∙ ap (λ l. lines ++ l ∷ []) line_is)

alone : (text : List ℕ) → ¬ IsLabelField text → All (λ t. ¬ IsLabelField t) (text ∷ [])
alone text not zero d within = not
alone text not (suc k) d within = absurd (omega (arith, within))

-- what these lines do to the labels
adds_none : (texts old new : List (List ℕ)) → All (λ text. ¬ IsLabelField text) texts → AddsLabels texts old new → new ≡ old
adds_none _ _ _ none (done texts old new is same) = same
adds_none _ _ _ none (next texts text rest old between new is after more) =
    let all : All (λ t. ¬ IsLabelField t) (text ∷ rest) = subst (All (λ t. ¬ IsLabelField t)) is none in
    adds_none rest between new (λ k d within. all (suc k) d (omega (arith, within))) more ∙ same_after text old between (all 0 text (omega arith)) after
  where
    same_after : (t : List ℕ) (a b : List (List ℕ)) → ¬ IsLabelField t → IsTableAfter t a b → b ≡ a
    same_after t _ _ not (label _ a b field e) = absurd (not field)
    same_after t _ _ not (other _ a b field e) = e

filling_texts : (edition : Edition) (labels : List (List ℕ)) (cell : Position) (content : ContentValue) → WritesBack edition labels content
    → WritesItself edition content → All (λ t. ¬ IsLabelField t) (set_text (filling_said labels cell content))
filling_texts edition labels cell (Constant value.Empty) back itself = λ k d within. absurd (omega (arith, within))
filling_texts edition labels cell (Constant (value.Number n)) back itself = alone _ (no_label_text edition labels (Constant (value.Number n)) back itself)
filling_texts edition labels cell (Constant (value.Truth b)) back itself = alone _ (no_label_text edition labels (Constant (value.Truth b)) back itself)
filling_texts edition labels cell (Constant (value.Error kind)) back itself = alone _ (no_label_text edition labels (Constant (value.Error kind)) back itself)
filling_texts edition labels cell (Constant (value.Label place)) back itself = absurd itself
filling_texts edition labels cell (Computed t) back itself = alone _ (no_label_text edition labels (Computed t) back itself)

change_texts : (edition : Edition) (labels : List (List ℕ)) (edit : EditValue) → All (IsWritable edition) edit
    → All (λ (change : ChangeValue). WritesBack edition labels change.content) edit
    → All (λ t. ¬ IsLabelField t) (set_texts (map (said labels) edit ++ End ∷ []))
change_texts edition labels [] all back = λ k d within. absurd (omega (arith, within))
change_texts edition labels (change ∷ edit) all back =
    let first = all 0 change (omega arith) in
    All-append (λ t. ¬ IsLabelField t) (set_text (said labels change)) (set_texts (map (said labels) edit ++ End ∷ []))
    (filling_texts edition labels change.cell change.content (back 0 change (omega arith)) first.itself)
    (change_texts edition labels edit (λ k d within. all (suc k) d (omega (arith, within))) (λ k d within. back (suc k) d (omega (arith, within))))

-- to the clients
changes_bring : (labels : List (List ℕ)) (edit : EditValue) (now : Brought) → IsSome now.batch
    → ((fold with_line now (map (said labels) edit)).names ≡ now.names) × ((fold with_line now (map (said labels) edit)).client ≡ now.client)
changes_bring labels [] now some = (refl, refl)
changes_bring labels (change ∷ edit) now some =
    let one = brings_one labels change.cell change.content now some in
    let rest = changes_bring labels edit (with_line now (said labels change)) one.2 in
    (rest.0 ∙ one.0, rest.1 ∙ one.1)
  where
    changed : (batch : Option (List Position)) (now : Brought) (cell : Position) → IsSome batch
        → ((with_change batch now cell).names ≡ now.names) × ((with_change batch now cell).client ≡ now.client) × IsSome (with_change batch now cell).batch
    changed None now cell some = absurd cc
    changed (Some cells) now cell some = (refl, refl, refl)

    brings_one : (labels : List (List ℕ)) (cell : Position) (content : ContentValue) (now : Brought) → IsSome now.batch
        → ((with_line now (filling_said labels cell content)).names ≡ now.names) × ((with_line now (filling_said labels cell content)).client ≡ now.client)
        × IsSome (with_line now (filling_said labels cell content)).batch
    brings_one labels cell (Constant value.Empty) now some = changed now.batch now cell some
    brings_one labels cell (Constant (value.Number n)) now some = changed now.batch now cell some
    brings_one labels cell (Constant (value.Truth b)) now some = changed now.batch now cell some
    brings_one labels cell (Constant (value.Error kind)) now some = changed now.batch now cell some
    brings_one labels cell (Constant (value.Label place)) now some = changed now.batch now cell some
    brings_one labels cell (Computed t) now some = changed now.batch now cell some

all_bring : (labels : List (List ℕ)) (edit : EditValue) (lines : List LineValue) → lines ≡ (Batch ∷ map (said labels) edit) ++ End ∷ []
    → ((brought_by lines).names ≡ codes "main" ∷ []) × ((brought_by lines).client ≡ codes "main")
all_bring labels edit lines are =
    let opened : Brought = with_line nothing_yet Batch in
    let brings = changes_bring labels edit opened refl in
    let last : brought_by lines ≡ with_line (fold with_line opened (map (said labels) edit)) End =
    ap brought_by are ∙ fold-append with_line nothing_yet (Batch ∷ map (said labels) edit) (End ∷ []) in (
      ap (λ (b : Brought). b.names) last ∙ (λ i. with_label (brings.0 i) (brings.1 i)),
      ap (λ (b : Brought). b.client) last ∙ brings.1,
    )

-- and to the steps
module _ (edition : Edition) (texts labels : List (List ℕ)) (table : IsTable labels) where
  set_goes : (now : Brought) (cell : Position) (content : ContentValue) (front : EditValue) (before after : Option EditValue) (old new : List Step)
      → before ≡ Some front → WritesBack edition texts content → GoesOn edition labels now (Set cell (content_text texts content)) before after old new
      → (after ≡ Some (front ++ record { cell = cell; content = content } ∷ [])) × (new ≡ old)
  set_goes now cell content front before after old new opened back (held, writes, makes) =
      let same : held ≡ content = one_content edition labels (content_text texts content) held content table writes (back labels) in
      let made : MakesChange now (change_of cell content) before after old new =
      subst (λ (c : ContentValue). MakesChange now (change_of cell c) before after old new) same makes in
      subst (λ (b : Option EditValue). MakesChange now (change_of cell content) b after old new) opened made

  change_goes : (now : Brought) (cell : Position) (content : ContentValue) (front : EditValue) (before after : Option EditValue) (old new : List Step)
      → before ≡ Some front → WritesBack edition texts content → WritesItself edition content
      → GoesOn edition labels now (filling_said texts cell content) before after old new
      → (after ≡ Some (front ++ record { cell = cell; content = content } ∷ [])) × (new ≡ old)
  change_goes now cell (Constant value.Empty) front before after old new opened back itself goes =
      subst (λ (b : Option EditValue). MakesChange now (change_of cell (Constant value.Empty)) b after old new) opened goes
  change_goes now cell (Constant (value.Number n)) front before after old new opened back itself goes =
      set_goes now cell (Constant (value.Number n)) front before after old new opened back goes
  change_goes now cell (Constant (value.Truth b)) front before after old new opened back itself goes =
      set_goes now cell (Constant (value.Truth b)) front before after old new opened back goes
  change_goes now cell (Constant (value.Error kind)) front before after old new opened back itself goes =
      set_goes now cell (Constant (value.Error kind)) front before after old new opened back goes
  change_goes now cell (Constant (value.Label place)) front before after old new opened back itself goes = absurd itself
  change_goes now cell (Computed t) front before after old new opened back itself goes =
      set_goes now cell (Computed t) front before after old new opened back goes

  no_steps_said : (lines : List LineValue) (after : Option EditValue) (steps : List Step) → AreSteps edition labels lines after steps → lines ≡ [] → steps ≡ []
  no_steps_said _ _ _ no_steps none = refl
  no_steps_said _ _ _ (more_steps lines known line before after steps all are goes is) none = absurd (none_last lines line (sym is ∙ none))

  changes_step : (edit : EditValue) (lines : List LineValue) (after : Option EditValue) (steps : List Step) → All (IsWritable edition) edit
      → All (λ (change : ChangeValue). WritesBack edition texts change.content) edit
      → AreSteps edition labels lines after steps → lines ≡ Batch ∷ map (said texts) edit → (after ≡ Some edit) × (steps ≡ [])
  changes_step edit _ _ _ all back no_steps are = absurd (omega (arith, ap length are))
  changes_step edit _ _ _ all back (more_steps lines known line before after steps whole stepped goes is) are = elim (by_last edit) [
    | inl none ↦ (
        let ended = one_last lines [] line Batch (sym is ∙ are ∙ ap (λ l. Batch ∷ map (said texts) l) none) in
        let begun : (after ≡ Some []) × (whole ≡ steps) = subst (λ l. GoesOn edition labels (brought_by known) l before after steps whole) ended.1 goes in
        (begun.0 ∙ ap Some (sym none), begun.1 ∙ no_steps_said lines before steps stepped ended.0))
    | inr (front, change, edit_is) ↦ (
        let ended = one_last lines (Batch ∷ map (said texts) front) line (said texts change)
        (sym is ∙ are ∙ ap (λ l. Batch ∷ map (said texts) l) edit_is ∙ ap (λ l. Batch ∷ l) (map-append (said texts) front (change ∷ []))) in
        let both : All (IsWritable edition) (front ++ change ∷ []) = subst (All (IsWritable edition)) edit_is all in
        let backs : All (λ (c : ChangeValue). WritesBack edition texts c.content) (front ++ change ∷ []) =
        subst (λ (l : EditValue). All (λ (c : ChangeValue). WritesBack edition texts c.content) l) edit_is back in
        let writable : IsWritable edition change = all_last (IsWritable edition) front change both in
        let earlier = changes_step front lines before steps (all_front (IsWritable edition) front (change ∷ []) both)
        (all_front (λ (c : ChangeValue). WritesBack edition texts c.content) front (change ∷ []) backs) stepped ended.0 in
        let made = change_goes (brought_by known) change.cell change.content front before after steps whole earlier.0
        (all_last (λ (c : ChangeValue). WritesBack edition texts c.content) front change backs) writable.itself
        (subst (λ l. GoesOn edition labels (brought_by known) l before after steps whole) ended.1 goes) in
        (made.0 ∙ ap Some (sym edit_is), made.1 ∙ earlier.1))
  ]

  all_step : (edit : EditValue) (lines : List LineValue) (after : Option EditValue) (steps : List Step) → All (IsWritable edition) edit
      → All (λ (change : ChangeValue). WritesBack edition texts change.content) edit
      → AreSteps edition labels lines after steps → lines ≡ (Batch ∷ map (said texts) edit) ++ End ∷ []
      → steps ≡ record { client = 0; command = asks.Put edit } ∷ []
  all_step edit _ _ _ all back no_steps are = absurd (omega (arith, ap length are))
  all_step edit known_lines _ _ all back (more_steps lines known line before after steps whole stepped goes is) are =
      let ended = one_last lines (Batch ∷ map (said texts) edit) line End (sym is ∙ are) in
      let made : (changes : EditValue) × (before ≡ Some changes) × (after ≡ None) × AddsCommand (asks.Put changes) (brought_by known) steps whole =
      subst (λ l. GoesOn edition labels (brought_by known) l before after steps whole) ended.1 goes in
      let adds = made.3 in
      let front = changes_step edit lines before steps all back stepped ended.0 in
      let same : made.0 ≡ edit = same_Some made.0 edit (sym made.1 ∙ front.0) in
      let brought = all_bring texts edit known are in
      let place : slice_get (codes "main" ∷ []) adds.client ≡ Some (codes "main") =
      (λ i. slice_get (sym brought.0 i) adds.client) ∙ adds.place ∙ ap Some brought.1 in
      let within = slice_get_within (codes "main" ∷ []) adds.client (codes "main") place in
      let first : adds.client ≡ 0 = omega (arith, within) in
      adds.added ∙ (λ i. front.1 i ++ record { client = first i; command = asks.Put (same i) } ∷ [])

-- so the text is one edit
pub says_edit : (mode : Mode) (sheet : SheetValue) (edit : EditValue) (labels : List (List ℕ)) (script : ScriptValue) → IsTable sheet.labels
    → All (IsWritable sheet.edition) edit → IsScript mode (ground_of sheet) sheet.labels labels (batch_text sheet.labels edit) script
    → SaysEdit sheet edit labels script
says_edit mode sheet edit labels script table all is =
    let texts : script_lines (batch_text sheet.labels edit) ≡ (codes "batch" ∷ map (line_text sheet.labels) edit) ++ codes "end" ∷ [] =
    batch_lines sheet.edition sheet.labels edit all in
    let (front, taken, lines_are) =
    all_said mode (ground_of sheet) sheet.labels edit (script_lines (batch_text sheet.labels edit)) is.lines all
    is.said texts in
    let lines : is.lines ≡ (Batch ∷ map (said sheet.labels) edit) ++ End ∷ [] = lines_are ∙ ap (λ l. l ++ End ∷ []) taken.lines_are in
    let none : All (λ t. ¬ IsLabelField t) (set_texts is.lines) =
    subst (λ l. All (λ t. ¬ IsLabelField t) (set_texts l)) (sym lines) (change_texts sheet.edition sheet.labels edit all taken.back) in
    let same : labels ≡ sheet.labels = adds_none (set_texts is.lines) sheet.labels labels none is.labels in
    let brought = all_bring sheet.labels edit is.lines lines in
    let names : script.names ≡ codes "main" ∷ [] = is.names ∙ brought.0 in
    let steps : script.steps ≡ record { client = 0; command = asks.Put edit } ∷ [] =
    all_step sheet.edition sheet.labels labels (subst IsTable (sym same) table) edit is.lines None script.steps all taken.back is.steps lines in
    record { script_is = λ i. record { names = names i; steps = steps i }; labels_are = same }
