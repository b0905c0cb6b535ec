-- What is kept of the lines so far, and what a line does to it.
use Rattle.std.proofs.Common.{◌≡◌, ◌≢◌, ◌⊎◌, ◌<◌, ◌≤◌, ℕ, List, length, All, AllPairs, Some, refl, sym, ap, subst, arith}
use Rattle.std.specs.Prelude.{string_bytes, slice_get, Contains, option_map}
use Rattle.std.proofs.lemmas.List.{length-map}
use Rattle.std.proofs.lemmas.List.Elements.{All-weaker}
use Rattle.std.proofs.lemmas.Option.{slice_get_within}
use Rattle.sheet_model.specs.Labels.{with_label}
use Rattle.sheet_model.proofs.LabelLemmas.{length-with_label, distinct-with_label}
use Rattle.edit_script.specs.declared.progress.Progress.{Progress}
use Rattle.edit_script.specs.declared.script.Step.{Step}
use Rattle.edit_script.specs.Progress.{names_of, brought, client_named, IsPlace, IsWithinLimits}
use Rattle.edit_script.specs.Batches.{changed_cells}
use Rattle.edit_script.specs.Scripts.{with_client}
use Rattle.edit_script.proofs.NameLemmas.{client_at, client_there, few_names}

pub follow_brought : (old new : Progress) (name : List ℕ) (place : ℕ) → names_of new ≡ with_label (names_of old) name
    → slice_get (names_of new) place ≡ Some name
    → new ≡ record old { names = new.names } → brought (record new { client = Some place }) ≡ with_client (brought old) name
follow_brought old new name place names at rest =
    let who : client_named (names_of new) (Some place) ≡ name = client_at (names_of new) place name at in
    let cells : new.cells ≡ old.cells = ap (λ (p : Progress). p.cells) rest in
    let edits : new.edits ≡ old.edits = ap (λ (p : Progress). p.edits) rest in
    let batch : new.batch ≡ old.batch = ap (λ (p : Progress). p.batch) rest in
    rw (who, names, cells, edits, batch) refl

pub follow_sound : (old new : Progress) (name : List ℕ) (place : ℕ) → IsWithinLimits old → (length (names_of old) < 32) ⊎ Contains (names_of old) name
    → names_of new ≡ with_label (names_of old) name → slice_get (names_of new) place ≡ Some name
    → new ≡ record old { names = new.names } → IsWithinLimits (record new { client = Some place })
follow_sound old new name place sound room names at rest =
    let long = length-map new.names.items string_bytes in
    let was = length-map old.names.items string_bytes in
    let old_few : length (names_of old) ≤ 32 = rw was sound.few in
    let few : length (names_of new) ≤ 32 = subst (λ l. length l ≤ 32) (sym names) (few_names (names_of old) name old_few room) in
    let grows : length (names_of old) ≤ length (names_of new) =
    subst (λ l. length (names_of old) ≤ length l) (sym names) (length-with_label (names_of old) name).0 in
    let steps : new.steps ≡ old.steps = ap (λ (p : Progress). p.steps) rest in
    let cells : new.cells ≡ old.cells = ap (λ (p : Progress). p.cells) rest in
    let edits : new.edits ≡ old.edits = ap (λ (p : Progress). p.edits) rest in
    let within : place < length (names_of new) = slice_get_within (names_of new) place name at in
    record {
      few = omega (arith, long, few);
      distinct = subst (AllPairs (λ a b. a ≢ b)) (sym names) (distinct-with_label (names_of old) name sound.distinct);
      client = omega (arith, long, within);
      cells = (let c = sound.cells in omega (arith, cells, c));
      edits = (let e = sound.edits in omega (arith, edits, e));
      clients =
          subst (λ s. All (λ (step : Step). step.client < length new.names.items) s.items) (sym steps)
          (All-weaker (λ (step : Step). step.client < length old.names.items) (λ (step : Step). step.client < length new.names.items)
          (λ step less. omega (arith, less, was, long, grows)) old.steps.items sound.clients);
    }

-- the client whose commands follow stays the one, where there is one
pub stays_brought : (old : Progress) (place : ℕ) → old.client ≡ Some place → IsWithinLimits old → brought old ≡ with_client (brought old) (brought old).client
stays_brought old place is sound =
    let inside : place < length old.names.items = subst (IsPlace (length old.names.items)) is sound.client in
    let long = length-map old.names.items string_bytes in
    let there : with_label (names_of old) (client_named (names_of old) (Some place)) ≡ names_of old =
    client_there (names_of old) place (omega (arith, inside, long)) in
    let names : names_of old ≡ with_label (names_of old) (client_named (names_of old) old.client) =
    subst (λ who. names_of old ≡ with_label (names_of old) (client_named (names_of old) who)) (sym is) (sym there)
    in
    ap (λ (n : List (List ℕ)). record {
      client = client_named (names_of old) old.client;
      names = n;
      cells = old.cells;
      edits = old.edits;
      batch = option_map changed_cells old.batch;
    }) names
