-- Each kind of line that is taken.
use Rattle.std.proofs.Common.{◌≡◌, ◌≢◌, ◌∙◌, ◌⊎◌, ◌<◌, ◌≤◌, ◌+◌, ℕ, Bool, true, false, Option, Some, None, List, []}
use Rattle.std.proofs.Common.{◌∷◌, length, refl, sym, subst, inl, inr, ⊎_elim, nat_lt, get_or, arith, true≢false}
use Rattle.std.specs.Prelude.{Contains, MatchOption, Result, Ok, Err, IfErr, OnOk, option_map}
use Rattle.std.specs.List.{list_any}
use Rattle.std.specs.Str.{bytes_eq}
use Rattle.std.proofs.lemmas.Bool.{ltb-true, ltb-false}
use Rattle.std.proofs.lemmas.List.Folds.{list_any_at}
use Rattle.std.proofs.lemmas.Map.Views.{Contains-from_any}
use Rattle.std.proofs.lemmas.Slice.Eq.{bytes_eq-Decides}
use Rattle.sheet_refs.specs.Cells.{Corners, Position}
use Rattle.sheet_model.specs.Edits.{EditValue}
use Rattle.formula_syntax.specs.Spelling.{HasTooManyRefs}
use Rattle.sheet_model.specs.Fields.{IsTableAfter}
use Rattle.sheet_model.proofs.ContentLemmas.{refused_none}
use Rattle.sheet_model.specs.Tables.AddsLabels.{done, next}
use Rattle.edit_script.specs.declared.progress.Progress.{Progress}
use Rattle.edit_script.specs.declared.refused.ScriptRefused.{ScriptRefused}
use Rattle.edit_script.specs.declared.refused.ScriptRefused.TheVariants.{BadLine, OutOfSheet, CellTwice, BatchTooLarge}
use Rattle.edit_script.specs.declared.refused.ScriptRefused.TheVariants.{TooManyClients, WindowTooLarge, TooManyEdits}
use Rattle.edit_script.specs.declared.refused.ScriptRefused.TheVariants.{FormulaTooDeep, TooManyRefs, Memory}
use Rattle.edit_script.specs.declared.script.Command.TheVariants as asks
use Rattle.edit_script.specs.declared.script.Step.{Step}
use Rattle.edit_script.specs.Batches.{changed_cells}
use Rattle.edit_script.specs.Lines.{LineValue, Clear, Client, Set}
use Rattle.edit_script.specs.Progress.{BeginsAt, IsPlainlyAllowed, IsTextFault, IsWithinLimits, MayChange, Takes, brought}
use Rattle.edit_script.specs.Scripts.{Ground, AddsCommand, Brought, GoesOn, HasCause, HasManyRefs, IsDeepEdit}
use Rattle.edit_script.specs.Scripts.{IsLargeWindow, IsLineFault, line_number, place_in_order, set_text, window_cells}
use Rattle.edit_script.specs.Scripts.{with_line}
use Rattle.edit_script.proofs.OneFault.{allowed}

module _ (ground : Ground) (labels : List (List ℕ)) (number : ℕ) (old new : Progress) where
  -- a line that is no text of a cell
  pub line_takes : (line : LineValue) → IsPlainlyAllowed ground (brought old) line → ¬ IsDeepEdit line → ¬ HasManyRefs ground.edition line → set_text line ≡ []
      → IsWithinLimits new → brought new ≡ with_line (brought old) line
      → GoesOn ground.edition labels (brought new) line old.batch new.batch old.steps.items new.steps.items → BeginsAt line number old.begun new.begun
      → Takes ground line number labels old labels new
  line_takes line plain shallow few none sound brought_is goes begun = record {
    allowed = allowed ground (brought old) line plain shallow few;
    brought_is = brought_is;
    sound = sound;
    goes = goes;
    begun = begun;
    labels = done (set_text line) labels labels none refl;
  }

module _ {T E : Type 0} (ground : Ground) (labels : List (List ℕ)) (number : ℕ) (old new : Progress) where
  pub line_taken : (r : Result T E) (line : LineValue) → IsPlainlyAllowed ground (brought old) line → ¬ IsDeepEdit line
      → ¬ HasManyRefs ground.edition line → set_text line ≡ []
      → OnOk r (IsWithinLimits new) → OnOk r (brought new ≡ with_line (brought old) line)
      → OnOk r (GoesOn ground.edition labels (brought new) line old.batch new.batch old.steps.items new.steps.items)
      → OnOk r (BeginsAt line number old.begun new.begun)
      → OnOk r (Takes ground line number labels old labels new)
  line_taken (Ok x) line plain shallow few none sound brought_is goes begun =
      line_takes ground labels number old new line plain shallow few none sound brought_is goes begun
  line_taken (Err e) line plain shallow few none sound brought_is goes begun = tt

  -- and one by which a cell is to hold what a text writes
  pub set_taken : (r : Result T E) (after : List (List ℕ)) (cell : Position) (text : List ℕ) → IsPlainlyAllowed ground (brought old) (Set cell text)
      → OnOk r (IsWithinLimits new) → OnOk r (brought new ≡ with_line (brought old) (Set cell text))
      → OnOk r (GoesOn ground.edition after (brought new) (Set cell text) old.batch new.batch old.steps.items
      new.steps.items) → OnOk r (IsTableAfter text labels after)
      → OnOk r (new.begun ≡ old.begun) → OnOk r (Takes ground (Set cell text) number labels old after new)
  set_taken (Ok x) after cell text plain sound brought_is goes table begun = record {
    allowed = allowed ground (brought old) (Set cell text) plain
        (λ deep. refused_none ground.edition after text goes.0 (inl deep) goes.1)
        (λ many. refused_none ground.edition after text goes.0 (inr many) goes.1);
    brought_is = brought_is;
    sound = sound;
    goes = goes;
    begun = begun;
    labels = next (text ∷ []) text [] labels after after refl table (done [] after after refl refl);
  }
  set_taken (Err e) after cell text plain sound brought_is goes table begun = tt

-- a text that is refused refuses the line
pub set_fault : {T : Type 0} (r : Result T ScriptRefused) (ground : Ground) (now : Brought) (cell : Position)
    (text : List ℕ) (number : ℕ) → IsPlainlyAllowed ground now (Set cell text)
    → IfErr r (λ why. why ≢ Memory → IsTextFault ground.edition text number why)
    → IfErr r (λ why. why ≢ Memory → (line_number why ≡ number) × IsLineFault ground now (Set cell text) why)
set_fault (Ok x) ground now cell text number plain fault = tt
set_fault (Err why) ground now cell text number plain fault = λ other. ⊎_elim
    (λ deep. subst (λ w. (line_number w ≡ number) × IsLineFault ground now (Set cell text) w) (sym deep.0)
    (refl, record { cause = deep.1; first = λ earlier before. plain earlier (omega (arith, before)) }))
    (λ many. subst (λ w. (line_number w ≡ number) × IsLineFault ground now (Set cell text) w) (sym many.0)
    (refl, record { cause = many.1; first = by_kind many.1 }))
    (fault other)
  where
    -- a formula that is too deep has no number of references
    by_kind : HasTooManyRefs ground.edition text → (earlier : ScriptRefused) → place_in_order earlier < 8 → ¬ HasCause ground now (Set cell text) earlier
    by_kind many (BadLine n) before = plain (BadLine n) (omega arith)
    by_kind many (OutOfSheet n) before = plain (OutOfSheet n) (omega arith)
    by_kind many (CellTwice n) before = plain (CellTwice n) (omega arith)
    by_kind many (BatchTooLarge n) before = plain (BatchTooLarge n) (omega arith)
    by_kind many (TooManyClients n) before = plain (TooManyClients n) (omega arith)
    by_kind many (WindowTooLarge n) before = plain (WindowTooLarge n) (omega arith)
    by_kind many (TooManyEdits n) before = plain (TooManyEdits n) (omega arith)
    by_kind many (FormulaTooDeep n) before = λ deep. many.0 deep.deep
    by_kind many (TooManyRefs n) before = absurd (omega (arith, before))
    by_kind many Memory before = absurd (omega (arith, before))

list_any_there : (name : List ℕ) (names : List (List ℕ)) → Contains names name → list_any (bytes_eq name) names ≡ true
list_any_there name names there = list_any_at (bytes_eq name) names there.0 name there.1 ((bytes_eq-Decides name (get_or names there.0 name)).1 (sym there.2))

-- a client for whom there is room, or who is there
pub client_room : (ground : Ground) (now : Brought) (name : List ℕ) → IsPlainlyAllowed ground now (Client name)
    → (length now.names < 32) ⊎ Contains now.names name
client_room ground now name plain = by_length (nat_lt (length now.names) 32) refl
  where
    by_any : (b : Bool) → list_any (bytes_eq name) now.names ≡ b → (32 ≤ length now.names) → (length now.names < 32) ⊎ Contains now.names name
    by_any true e full = inr (Contains-from_any (λ x y. (bytes_eq-Decides x y).0) name now.names e)
    by_any false e full = absurd (plain (TooManyClients 0) (omega arith) (full, λ there. true≢false (sym (list_any_there name now.names there) ∙ e)))

    by_length : (b : Bool) → nat_lt (length now.names) 32 ≡ b → (length now.names < 32) ⊎ Contains now.names name
    by_length true e = inl (ltb-true (length now.names) 32 e)
    by_length false e = by_any (list_any (bytes_eq name) now.names) refl (ltb-false (length now.names) 32 e)

-- what may be done where nothing is wrong with a line but for a formula
pub may_set : (ground : Ground) (now : Brought) (cell : Position) (text : List ℕ) → IsPlainlyAllowed ground now (Set cell text) → MayChange now cell
may_set ground now cell text plain =
    record {
      once = plain (CellTwice 0) (omega arith);
      room = plain (BatchTooLarge 0) (omega arith);
      edits = plain (TooManyEdits 0) (omega arith);
    }

pub may_clear : (ground : Ground) (now : Brought) (cell : Position) → IsPlainlyAllowed ground now (Clear cell) → MayChange now cell
may_clear ground now cell plain =
    record {
      once = plain (CellTwice 0) (omega arith);
      room = plain (BatchTooLarge 0) (omega arith);
      edits = plain (TooManyEdits 0) (omega arith);
    }

pub window_room : (now : Brought) (range : Corners) → ¬ IsLargeWindow now range → now.cells + window_cells range ≤ 4194304
window_room now range small = let fits : (4194304 < now.cells + window_cells range) → ⊥ = λ many. small (inr many) in omega (arith, fits)

pub edit_room : (edits : ℕ) → ¬ (1048576 ≤ edits) → edits < 1048576
edit_room edits few = omega (arith, few)

pub end_some : (batch : Option EditValue) → ¬ MatchOption (option_map changed_cells batch) (Unit {0})
    (λ cells. cells ≡ []) → MatchOption batch ⊥ (λ (changes : EditValue). 1 ≤ length changes)
end_some None placed = placed tt
end_some (Some []) placed = absurd (placed refl)
end_some (Some (change ∷ changes)) placed = omega arith

-- the end of a batch
pub end_goes : {T E : Type 0} (r : Result T E) (now : Brought) (batch after : Option EditValue) (old new : List Step)
    → OnOk r (MatchOption batch ⊥ (λ changes. AddsCommand (asks.Put changes) now old new)) → OnOk r (after ≡ None)
    → OnOk r ((changes : EditValue) × (batch ≡ Some changes) × (after ≡ None) × AddsCommand (asks.Put changes) now old new)
end_goes (Ok x) now None after old new adds closed = absurd adds
end_goes (Ok x) now (Some changes) after old new adds closed = (changes, refl, closed, adds)
end_goes (Err e) now batch after old new adds closed = tt
