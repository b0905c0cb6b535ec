-- What the edit that undoes an entry does, where no later entry overtook it; and which refusal comes else.
use Rattle.std.proofs.Common.{◌≡◌, ◌↔◌, ℕ, ◌+◌, ◌-◌, ◌≤◌, List, ◌∷◌, length, take, drop, get_or, Option, None, Some, IsSome, MatchOption, Result, Err}
use Rattle.std.proofs.Common.{arith, refl, sym, ap, ◌∙◌, subst}
use Rattle.std.proofs.lemmas.List.{length-map, take_rest}
use Rattle.std.proofs.lemmas.List.Elements.{All-append, All-cons}
use Rattle.std.proofs.lemmas.Option.{slice_get_read}
use Rattle.sheet_refs.specs.Cells.{Position}
use Rattle.sheet_model.specs.Edits.{EditValue, IsEdit, IsFor, IsWholeEdit, held_in, replaced_by}
use Rattle.sheet_model.specs.Sheets.{IsSheet, SheetValue}
use Rattle.sheet_model.specs.declared.entry.Entry.{Entry}
use Rattle.sheet_model.proofs.EditLemmas.{replaced_distinct}
use Rattle.sheet_undo.specs.Found.{SharesNone}
use Rattle.sheet_undo.specs.Undoing.{AreFor, AreWhole, IsNumbered, IsOvertaken, IsRedone, Restores, Undoes, before}
use Rattle.sheet_undo.specs.declared.refused.UndoRefused.{UndoRefused}
use Rattle.sheet_undo.specs.declared.refused.UndoRefused.TheVariants.{Overtaken}
use Rattle.sheet_undo.proofs.UndoLemmas.{not_overtaken_from, numbered_at, one_overtaker, redone, restores, split_log, undoing_for}

-- the entry that is read at a place
pub numbered_read : (log : List Entry) (number : ℕ) (entry : Entry) → 1 ≤ number → number ≤ length log → entry ≡ get_or log (number - 1) entry
    → IsNumbered log number entry
numbered_read log number entry some within at =
    numbered_at log (number - 1) number entry (omega (arith, some))
    (slice_get_read log (length log) (number - 1) entry refl (omega (arith, some, within)) at)

-- the entries behind it, as they are lent
abbrev pub lent : List Entry → ℕ → List Entry
lent log number = take (length log - (number - 1 + 1)) (drop (number - 1 + 1) log)

pub behind_it : (log : List Entry) (number : ℕ) → 1 ≤ number → lent log number ≡ drop number log
behind_it log number some = let next : number - 1 + 1 ≡ number = omega (arith, some) in take_rest log (number - 1 + 1) ∙ ap (λ n. drop n log) next

-- an edit replaces as many changes of as many cells as it has
pub replaced_edit : (sheet : SheetValue) (edit : EditValue) → IsEdit edit → IsEdit (replaced_by sheet edit)
replaced_edit sheet edit is =
    let lengths = length-map edit (held_in sheet) in
    let some = is.some in
    let few = is.few in
    record { some = omega (arith, some, lengths); few = omega (arith, few, lengths); distinct = replaced_distinct sheet edit is.distinct }

-- the entries of a log are whole where those before one, that one, and those behind it are
pub whole_log : (log : List Entry) (number : ℕ) (entry : Entry) → IsNumbered log number entry → AreWhole (take (number - 1) log) → IsWholeEdit entry.edit
    → AreWhole (drop number log) → AreWhole log
whole_log log number entry is front one rear =
    subst AreWhole (sym (split_log log number entry is))
    (All-append (λ (e : Entry). IsWholeEdit e.edit) (take (number - 1) log) (entry ∷ drop number log) front
    (All-cons (λ (e : Entry). IsWholeEdit e.edit) entry (drop number log) one rear))

-- what an undoing edit is
pub record IsUndone (opening : SheetValue) (log : List Entry) (number : ℕ) (edit : EditValue) : Type 0 where
  pub undoes : Undoes opening log number edit
  pub restores : Restores opening log number edit
  pub redone : IsRedone opening log number edit
  pub fits : IsFor opening edit

pub is_undone : (opening : SheetValue) (log : List Entry) (number : ℕ) (entry : Entry) (edit : EditValue) → IsSheet opening → AreFor opening log
    → AreWhole log → IsNumbered log number entry
    → SharesNone entry.edit (drop number log) → edit ≡ replaced_by (before opening log number) entry.edit → IsUndone opening log number edit
is_undone opening log number entry edit is for whole numbered none contents =
    let undoes : Undoes opening log number edit = record { entry = entry; numbered = numbered; contents = contents } in
    record {
      undoes = undoes;
      restores = restores opening log is for whole number edit undoes;
      redone = redone opening log is for whole number entry edit numbered (not_overtaken_from log number entry none) undoes;
      fits = subst (IsFor opening) (sym contents) (undoing_for opening log is for whole number entry numbered);
    }

-- the refusal names the one entry that overtakes, and the one cell
pub overtaken_exactly : {T : Type 0} (log : List Entry) (number a : ℕ) (x : Position) → IsOvertaken log number a x → (b : ℕ) (y : Position)
    → (◌≡◌ {A = Result T UndoRefused} (Err (Overtaken a x)) (Err (Overtaken b y))) ↔ IsOvertaken log number b y
overtaken_exactly log number a x is b y = (
  λ same. (let by_same : a ≡ b = cc in let cell_same : x ≡ y = cc in
      subst (λ n. IsOvertaken log number n y) by_same (subst (IsOvertaken log number a) cell_same is)),
  λ other. (let both = one_overtaker log number a b x y is other in ap (λ n. Err (Overtaken n x)) both.0 ∙ ap (λ c. Err (Overtaken b c)) both.1),
)

-- an answer that is Some, where the cause of None doesn't hold
pub some_answer : {T : Type 0} (P : Type 0) (o : Option T) (Q : T → Type 0) → MatchOption o (¬ P) Q → P → IsSome o
some_answer P None Q told p = absurd (told p)
some_answer P (Some x) Q told p = refl

pub told_of : {T : Type 0} (P : Type 0) (o : Option T) (x : T) (Q : T → Type 0) → o ≡ Some x → MatchOption o P Q → Q x
told_of P o x Q is told = subst (λ a. MatchOption a P Q) is told
