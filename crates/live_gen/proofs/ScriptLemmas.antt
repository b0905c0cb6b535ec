-- The steps of a generated script, one by one.
use Rattle.std.proofs.Common.{◌≡◌, ◌≢◌, ⊎_elim, ◌⊎◌, inl, inr, ℕ, zero, suc, ◌+◌, ◌*◌, ◌%◌, ◌<◌, ◌≤◌}
use Rattle.std.proofs.Common.{List, [], ◌∷◌, ◌++◌, Contains, All, length, IsTrue, refl, sym, ◌∙◌, ap, subst, append_assoc, arith}
use Rattle.std.specs.Prelude.{pos, ℤ, Option, Some, IfSome}
use Rattle.std.proofs.lemmas.Bool.{cases_eq, eq-eqb, ne_eqb}
use Rattle.std.proofs.lemmas.Grind.{flat_map-append}
use Rattle.std.proofs.lemmas.List.{append-nil, length-append}
use Rattle.std.proofs.lemmas.List.Sums.{count_by-le-length}
use Rattle.std.proofs.lemmas.Option.{MatchOption-at_some}
use Rattle.value_core.specs.declared.value.Value.TheVariants.{Number}
use Rattle.sheet_refs.specs.Cells.{Position, Corners, cells_of}
use Rattle.sheet_refs.specs.Sizes.{is_inside}
use Rattle.sheet_refs.specs.declared.sizes.Sizes.{Sizes}
use Rattle.sheet_refs.proofs.Grid.{rows_length}
use Rattle.sheet_refs.proofs.Places.{inside_from}
use Rattle.sheet_model.specs.Changes.{ChangeValue}
use Rattle.sheet_model.specs.Edits.{EditValue, IsChangeFor}
use Rattle.sheet_model.specs.Sheets.{SheetValue, Constant}
use Rattle.sheet_model.proofs.ListMembers.{all_from, no_member, first_member, later_member, joined_from}
use Rattle.sheet_model.proofs.EditLemmas.{first_or_later}
use Rattle.edit_script.specs.declared.script.Command.{Command}
use Rattle.edit_script.specs.declared.script.Command.TheVariants as asks
use Rattle.edit_script.specs.declared.script.Step.{Step}
use Rattle.play_machine.specs.Playing.{is_put}
use Rattle.live_run.specs.Legal.{commands_by, edit_asked, edits_asked}
use Rattle.live_run.specs.Runs.{IsCommandFor, IsRunnable, IsWindowFor}
use Rattle.live_gen.specs.Apart.{ScriptIsApart, entry_asked, script_log}
use Rattle.live_gen.specs.Draws.{DrawsValue, draw_of, draws_after}
use Rattle.live_gen.specs.Generated.{drawn_before, drawn_change, drawn_edit, edit_step, edit_steps, firm_step, firm_window, generated_script, steps_of}
use Rattle.live_gen.specs.Rows.{IsGeneratedSheet, generated_sizes}

-- an element of two lists joined is in one of them
pub in_either : {A : Type 0} (xs ys : List A) (x : A) → Contains (xs ++ ys) x → Contains xs x ⊎ Contains ys x
in_either [] ys x there = inr there
in_either (a ∷ xs) ys x there =
    ⊎_elim
    (λ (same : a ≡ x). inl (subst (λ z. Contains (a ∷ xs) z) same (first_member a xs)))
    (λ later. ⊎_elim (λ (front : Contains xs x). inl (later_member a x xs front)) (λ back. inr back) (in_either xs ys x later))
    (first_or_later x a (xs ++ ys) there)

only_one : {A : Type 0} (a x : A) → Contains (a ∷ []) x → a ≡ x
only_one a x there = ⊎_elim (λ (same : a ≡ x). same) (λ none. absurd (no_member x none)) (first_or_later x a [] there)

-- what a step of a generated script asks for
pub data AsksFor (number : ℕ) (client : ℕ) (command : Command) : Type 0 where
  edit : (k : ℕ) → k < 25 → command ≡ asks.Put (drawn_edit number (drawn_before client k) client) → AsksFor number client command
  look : command ≡ asks.Firm firm_window → AsksFor number client command

-- a step of one of the first so many clients
pub record IsStepOf (number clients : ℕ) (step : Step) : Type 0 where
  pub client : step.client < clients
  pub asks_for : AsksFor number step.client step.command

edit_of : (number client edits : ℕ) (step : Step) → Contains (edit_steps number client edits) step → (k : ℕ) × (k < edits) × (step ≡ edit_step number client k)
unfolding edit_steps
edit_of number client zero step there = absurd (no_member step there)
edit_of number client (suc edits) step there =
    ⊎_elim
    (λ (before : Contains (edit_steps number client edits) step). let (k, less, is) = edit_of number client edits step before in (k, omega (arith, less), is))
    (λ last. (edits, omega arith, sym (only_one (edit_step number client edits) step last)))
    (in_either (edit_steps number client edits) (edit_step number client edits ∷ []) step there)

pub step_of : (number clients : ℕ) (step : Step) → Contains (steps_of number clients) step → IsStepOf number clients step
unfolding steps_of
step_of number zero step there = absurd (no_member step there)
step_of number (suc clients) step there =
    ⊎_elim
    (λ (front : Contains (steps_of number clients ++ edit_steps number clients 25) step).
    ⊎_elim
    (λ (before : Contains (steps_of number clients) step). let is = step_of number clients step
    before in record { client = (let less = is.client in omega (arith, less)); asks_for = is.asks_for })
    (λ own.
    let (k, less, is) = edit_of number clients 25 step own in
    subst (IsStepOf number (suc clients)) (sym is) (record { client = omega arith; asks_for = edit k less refl }))
    (in_either (steps_of number clients) (edit_steps number clients 25) step front))
    (λ last. subst (IsStepOf number (suc clients)) (only_one (firm_step clients) step last) (record { client = omega arith; asks_for = look refl }))
    (in_either (steps_of number clients ++ edit_steps number clients 25) (firm_step clients ∷ []) step there)

-- how many steps there are, and how many edits among them
edits_count : (number client edits : ℕ) → length (edit_steps number client edits) ≡ edits
unfolding edit_steps
edits_count number client zero = refl
edits_count number client (suc edits) = omega
    (arith, edits_count number client edits, length-append (edit_steps number client edits) (edit_step number client edits ∷ []))

pub steps_count : (number clients : ℕ) → length (steps_of number clients) ≡ 26 * clients
unfolding steps_of
steps_count number zero = refl
steps_count number (suc clients) =
    omega (
      arith,
      steps_count number clients,
      edits_count number clients 25,
      length-append (steps_of number clients) (edit_steps number clients 25),
      length-append (steps_of number clients ++ edit_steps number clients 25) (firm_step clients ∷ []),
    )

log_append : (xs ys : List Step) → script_log (xs ++ ys) ≡ script_log xs ++ script_log ys
log_append xs ys = flat_map-append (λ (step : Step). entry_asked step.client step.command) xs ys

edits_logged : (number client edits : ℕ) → length (script_log (edit_steps number client edits)) ≡ edits
unfolding edit_steps
edits_logged number client zero = refl
edits_logged number client (suc edits) =
    let last = edit_step number client edits ∷ [] in
    omega (
      arith,
      edits_logged number client edits,
      ap length (log_append (edit_steps number client edits) last),
      length-append
          (script_log (edit_steps number client edits)) (script_log last),
    )

pub steps_logged : (number clients : ℕ) → length (script_log (steps_of number clients)) ≡ 25 * clients
unfolding steps_of
steps_logged number zero = refl
steps_logged number (suc clients) =
    let own = edit_steps number clients 25 in
    let front = steps_of number clients ++ own in
    let last = firm_step clients ∷ [] in
    omega (
      arith,
      steps_logged number clients,
      edits_logged number clients 25,
      ap length (log_append (steps_of number clients) own),
      length-append (script_log (steps_of number clients)) (script_log own),
      ap length (log_append front last),
      length-append (script_log front) (script_log last),
    )

-- an edit of a client is asked for by one of its steps
asked_alone : (command : Command) (x : EditValue) → Contains (edit_asked command) x → command ≡ asks.Put x
asked_alone (asks.Put put) x there = ap asks.Put (only_one put x there)
asked_alone (asks.Look window) x there = absurd (no_member x there)
asked_alone (asks.Firm window) x there = absurd (no_member x there)
asked_alone (asks.Work turns) x there = absurd (no_member x there)

pub commands_own : (client : ℕ) (step : Step) (steps : List Step) → step.client ≡ client
    → commands_by client (step ∷ steps) ≡ step.command ∷ commands_by client steps
commands_own client step steps is = rw (eq-eqb step.client client is) refl

pub commands_other : (client : ℕ) (step : Step) (steps : List Step) → step.client ≢ client → commands_by client (step ∷ steps) ≡ commands_by client steps
commands_other client step steps not = rw (ne_eqb step.client client not) refl

command_from : (client : ℕ) (steps : List Step) (command : Command) → Contains (commands_by client steps) command
    → (step : Step) × Contains steps step × (step.client ≡ client) × (step.command ≡ command)
command_from client [] command there = absurd (no_member command there)
command_from client (first ∷ steps) command there =
    ⊎_elim
    (λ (own : first.client ≡ client).
    ⊎_elim
    (λ (same : first.command ≡ command). (first, first_member first steps, own, same))
    (λ later. let (step, in_steps, whose, is) = command_from client steps command later in (step, later_member first step steps in_steps, whose, is))
    (first_or_later command first.command (commands_by client steps)
    (subst (λ (l : List Command). Contains l command) (commands_own client first steps own) there)))
    (λ other.
    let (step, in_steps, whose, is) = command_from client steps command
    (subst (λ (l : List Command). Contains l command) (commands_other client first steps other) there) in
    (step, later_member first step steps in_steps, whose, is))
    (cases_eq first.client client)

-- so it is one of the drawn ones, of one of the four clients
pub record IsDrawnOf (number client : ℕ) (x : EditValue) : Type 0 where
  pub few : client < 4
  pub made : ℕ
  pub is : x ≡ drawn_edit number made client

put_drawn : (number client : ℕ) (command : Command) (x : EditValue) → AsksFor number client command → command ≡ asks.Put x
    → (made : ℕ) × (x ≡ drawn_edit number made client)
put_drawn number client command x (edit k less is) put = (drawn_before client k, cc)
put_drawn number client command x (look is) put = absurd (cc)

pub drawn_of : (number client : ℕ) (x : EditValue) → Contains (edits_asked (commands_by client (steps_of number 4))) x → IsDrawnOf number client x
drawn_of number client x there =
    let (command, in_commands, in_edits) = joined_from edit_asked (commands_by client (steps_of number 4)) x there in
    let (step, in_steps, own, same) = command_from client (steps_of number 4) command in_commands in
    let is = step_of number 4 step in_steps in
    let (made, drawn) = put_drawn number step.client step.command x is.asks_for (same ∙ asked_alone command x in_edits) in
    record { few = (let less = is.client in omega (arith, less, own)); made = made; is = subst (λ (c : ℕ). x ≡ drawn_edit number made c) own drawn }

-- rows of two clients differ
rows_differ : (a b m n : ℕ) → a < 4 → b < 4 → a ≢ b → 4 * m + a + 1 ≢ 4 * n + b + 1
rows_differ a b m n a_few b_few differ same = omega (arith, a_few, b_few, differ, same)

pub generated_apart : (number : ℕ) → ScriptIsApart (generated_script number)
generated_apart number a b x y p q differ in_a in_b in_p in_q same =
    let drawn_a = drawn_of number a x in_a in
    let drawn_b = drawn_of number b y in_b in
    let p_is : drawn_change number drawn_a.made a ≡ p = only_one (drawn_change number drawn_a.made a) p
    (subst (λ (e : EditValue). Contains e p) drawn_a.is in_p) in
    let q_is : drawn_change number drawn_b.made b ≡ q = only_one (drawn_change number drawn_b.made b) q
    (subst (λ (e : EditValue). Contains e q) drawn_b.is in_q) in
    let cells : (drawn_change number drawn_a.made a).cell ≡ (drawn_change number drawn_b.made b).cell =
    ap (λ (c : ChangeValue). c.cell) p_is ∙ same ∙ sym (ap (λ (c : ChangeValue). c.cell) q_is) in
    rows_differ a b (draw_of number (drawn_a.made + 1) 250) (draw_of number (drawn_b.made + 1) 250) drawn_a.few drawn_b.few differ
    (ap (λ (cell : Position). cell.row) cells)

-- each step is for a generated sheet
small_row : (n client : ℕ) → client < 4 → 4 * (n % 250) + client + 1 ≤ 1000
small_row n client few = omega (arith, few)

change_for : (number made client : ℕ) (sheet : SheetValue) → sheet.sizes ≡ generated_sizes → client < 4 → IsChangeFor sheet (drawn_change number made client)
change_for number made client sheet sizes few = record {
  inside =
      subst (λ (s : Sizes). IsTrue (is_inside s (drawn_change number made client).cell)) (sym sizes)
      (inside_from generated_sizes (drawn_change number made client).cell
      (record { row_from = omega arith; row_to = small_row _ client few; col_from = omega arith; col_to = omega arith }));
  label = tt;
}

window_for : (sheet : SheetValue) → sheet.sizes ≡ generated_sizes → IsWindowFor sheet firm_window
window_for sheet sizes = record {
  inside = λ cell is.
      subst (λ (s : Sizes). IsTrue (is_inside s cell)) (sym sizes)
      (inside_from generated_sizes cell
      (record { row_from = is.row_from; row_to = (let most = is.row_to in omega (arith, most)); col_from = is.col_from; col_to = is.col_to }));
  small = (let cells : length (cells_of firm_window) ≡ 70 = rows_length firm_window 1 10 in omega (arith, cells));
}

command_for : (number client : ℕ) (sheet : SheetValue) (command : Command) → sheet.sizes ≡ generated_sizes → client < 4 → AsksFor number client command
    → IsCommandFor sheet command
command_for number client sheet command sizes few (edit k less is) =
    subst (IsCommandFor sheet) (sym is)
    (all_from (IsChangeFor sheet) (drawn_edit number (drawn_before client k) client) (λ change there.
    subst (IsChangeFor sheet) (only_one (drawn_change number (drawn_before client k) client) change there)
    (change_for number (drawn_before client k) client sheet sizes few)))
command_for number client sheet command sizes few (look is) = subst (IsCommandFor sheet) (sym is) (window_for sheet sizes)

pub generated_runnable : (number : ℕ) (sheet : SheetValue) → IsGeneratedSheet number sheet → IsRunnable sheet (generated_script number)
generated_runnable number sheet is = record {
  few = omega arith;
  short = omega (arith, steps_count number 4);
  commands = all_from (λ (step : Step). IsCommandFor sheet step.command) (steps_of number 4) (λ step there.
      let one = step_of number 4 step there in
      command_for number step.client sheet step.command is.sizes_are one.client one.asks_for);
  edits = (let most = count_by-le-length (λ (step : Step). is_put step.command) (steps_of number 4) in omega (arith, most, steps_count number 4));
}

-- and its client is one of the four
pub clients_few : (number : ℕ) → All (λ (step : Step). step.client < 4) (steps_of number 4)
clients_few number = all_from (λ (step : Step). step.client < 4) (steps_of number 4) (λ step there. (step_of number 4 step there).client)

-- an edit that was drawn behind so many draws
pub is_drawn : (number made client : ℕ) (found : Option Position) (cell : Position) (row drawn : ℕ) (whole : ℤ)
    → IfSome found (λ c. (c.row ≡ row) × (c.col ≡ 1)) → found ≡ Some cell → row ≡ 4 * draw_of number (made + 1) 250 + client + 1
    → whole ≡ pos drawn → drawn ≡ draw_of number (made + 1 + 1) 1000
    → record { cell = cell; content = Constant (Number whole) } ∷ [] ≡ drawn_edit number made client
is_drawn number made client found cell row drawn whole position is row_is whole_is drawn_is =
    let parts = MatchOption-at_some _ _ cell is position in
    let next : made + 1 + 1 ≡ made + 2 = omega arith in
    let at_row : cell.row ≡ 4 * draw_of number (made + 1) 250 + client + 1 = parts.0 ∙ row_is in
    let value : whole ≡ pos (draw_of number (made + 2) 1000) = whole_is ∙ ap pos (drawn_is ∙ ap (λ n. draw_of number n 1000) next) in
    λ i. record { cell = record { row = at_row i; col = parts.1 i }; content = Constant (Number (value i)) } ∷ []

-- the draws that stand before a client's next edit, and before the next client's first one
pub next_edit : (number client k : ℕ) → draws_after number (drawn_before client k + 2) ≡ draws_after number (drawn_before client (k + 1))
next_edit number client k = let same : drawn_before client k + 2 ≡ drawn_before client (k + 1) = omega arith in ap (draws_after number) same

pub next_client : (client : ℕ) → drawn_before client 25 ≡ drawn_before (client + 1) 0
next_client client = omega arith

-- one more edit, and one more client
edit_added : (number client k : ℕ) (before : List Step)
    → (before ++ edit_steps number client k) ++ edit_step number client k ∷ [] ≡ before ++ edit_steps number client (k + 1)
unfolding edit_steps
edit_added number client k before =
    let step : suc k ≡ k + 1 = omega arith in
    append_assoc before (edit_steps number client k) (edit_step number client k ∷ []) ∙ ap (λ n. before ++ edit_steps number client n) step

pub edit_pushed : (number client k : ℕ) (before old new : List Step) (draws : DrawsValue) (put : EditValue) → old ≡ before ++ edit_steps number client k
    → draws ≡ draws_after number (drawn_before client k) → put ≡ drawn_edit draws.number draws.made client
    → new ≡ old ++ record { client = client; command = asks.Put put } ∷ [] → new ≡ before ++ edit_steps number client (k + 1)
edit_pushed number client k before old new draws put old_is drawn put_is new_is =
    let made : put ≡ drawn_edit number (drawn_before client k) client = put_is ∙ ap (λ (v : DrawsValue). drawn_edit v.number v.made client) drawn in
    new_is
    ∙ ap (λ (steps : List Step). steps ++ record { client = client; command = asks.Put put } ∷ []) old_is
    ∙ ap (λ (e : EditValue). (before ++ edit_steps number client k) ++ record { client = client; command = asks.Put e } ∷ []) made
    ∙ edit_added number client k before

pub none_added : (number client : ℕ) (before : List Step) → before ≡ before ++ edit_steps number client 0
unfolding edit_steps
none_added number client before = sym (append-nil before)

pub no_steps : (number : ℕ) → [] ≡ steps_of number 0
unfolding steps_of
no_steps number = refl

client_added : (number client : ℕ) → (steps_of number client ++ edit_steps number client 25) ++ firm_step client ∷ [] ≡ steps_of number (client + 1)
unfolding steps_of
client_added number client = let step : suc client ≡ client + 1 = omega arith in ap (steps_of number) step

pub client_pushed : (number client : ℕ) (old between new : List Step) (draws : DrawsValue) (window : Corners) → old ≡ steps_of number client
    → draws ≡ draws_after number (drawn_before client 0) → between ≡ old ++ edit_steps draws.number client 25 → window ≡ firm_window
    → new ≡ between ++ record { client = client; command = asks.Firm window } ∷ [] → new ≡ steps_of number (client + 1)
client_pushed number client old between new draws window old_is drawn between_is window_is new_is =
    let made : between ≡ steps_of number client ++ edit_steps number client 25 =
    between_is ∙ ap (λ (steps : List Step). steps ++ edit_steps draws.number client 25) old_is
    ∙ ap (λ (v : DrawsValue). steps_of number client ++ edit_steps v.number client 25) drawn in
    new_is
    ∙ ap (λ (steps : List Step). steps ++ record { client = client; command = asks.Firm window } ∷ []) made
    ∙ ap (λ (w : Corners). (steps_of number client ++ edit_steps number client 25) ++ record { client = client; command = asks.Firm w } ∷ []) window_is
    ∙ client_added number client
