-- What seats know after they met under the lock.
use Rattle.std.proofs.Common.{◌≡◌, ◌≤◌, ⊎_elim, List, [], ◌∷◌, ◌++◌, length, sym, ◌∙◌, ap, subst, arith}
use Rattle.std.specs.Prelude.{◌↔◌, Bool, Contains, Err, IfOk, IsTrue, Ok, Result}
use Rattle.std.proofs.lemmas.List.{append-nil, length-append}
use Rattle.std.proofs.lemmas.List.Elements.{Contains-append_right}
use Rattle.sheet_refs.specs.Cells.{Position}
use Rattle.sheet_refs.specs.Sizes.{is_inside, place_of}
use Rattle.sheet_refs.specs.declared.sizes.Sizes.{Sizes}
use Rattle.graph_walk.specs.Graphs.{IsOnCycle, Pair}
use Rattle.edit_log.specs.Inputs.{CyclesOfPairsAreThoseOfInputs}
use Rattle.edit_log.specs.Pairs.{ArePairsOf}
use Rattle.mark_core.specs.declared.subjects.Subject.{Ghosts}
use Rattle.mark_core.specs.declared.words.Known.{Known}
use Rattle.mark_core.specs.Marks.{IsPrefix}
use Rattle.mark_core.proofs.Prefixes.{prefix_length}
use Rattle.mark_words.specs.declared.seats.Seat.{Seat}
use Rattle.mark_words.specs.declared.tables.Doing.{Doing}
use Rattle.mark_words.specs.Meets.{HasMet}
use Rattle.mark_words.specs.Tokens.{view_of, log_of, seen_of}
use Rattle.recalc_workers.specs.Settling.{KeepsEditor, KnowsNoLess}
use Rattle.recalc_workers.specs.Offices.{TellsCycle}
use Rattle.sheet_model.specs.Budget.{Leads}
use Rattle.sheet_model.specs.Logs.{after}
use Rattle.sheet_model.specs.Sheets.{IsSheet, SheetValue}
use Rattle.sheet_model.specs.Values.{IsInput}
use Rattle.sheet_model.specs.declared.entry.Entry.{Entry}
use Rattle.edit_log.specs.Touches.{TouchesPlace}
use Rattle.recalc_workers.proofs.SettlingLemmas.{knows_still}
use Rattle.live_sheet.specs.Firm.{HasSettled}
use Rattle.live_sheet.specs.Ranges.{KnowsAll}
use Rattle.live_sheet.specs.Stale.{KnowsCell}

-- two lists, each a prefix of the other, are one
pub no_more : {X : Type 0} (xs ys rest : List X) → ys ≡ xs ++ rest → length ys ≤ length xs → ys ≡ xs
no_more xs ys [] is short = is ∙ append-nil xs
no_more xs ys (x ∷ rest) is short = absurd (let e = ap length is ∙ length-append xs (x ∷ rest) in omega arith)

one_list : {X : Type 0} (xs ys : List X) → IsPrefix xs ys → IsPrefix ys xs → ys ≡ xs
one_list xs ys p q = no_more xs ys p.rest p.whole (prefix_length ys xs q)

-- a seat that met one whose log goes on from its own knows what that one knows
pub knows_the_longer : {S E : Type 0} (seat other after : Doing S E) → HasMet seat other after
    → IsPrefix seat.view.log other.view.log → KnowsNoLess other.view after.view
knows_the_longer {S} {E} seat other after met shorter =
    record {
      log =
          ⊎_elim (λ (own : after.view.log ≡ seat.view.log). own
          ∙ sym (one_list seat.view.log other.view.log shorter (subst (λ (l : List E). IsPrefix other.view.log l)
          own met.other_log)))
          (λ (longer : after.view.log ≡ other.view.log). longer)
          met.one_log;
      known = λ pair has. subst (λ (l : List Known). Contains l pair) (sym met.known) (Contains-append_right seat.view.known other.view.known pair has);
    }

-- what a walk over the pairs of the sheet tells of a cycle, it tells of the sheet after the log that the seat knows
pub tells_cycle : {F : Type 0} {G : Ghosts SheetValue Entry} (opening sheet : SheetValue) (cell : Position)
    (seat : Seat SheetValue Entry G) (pairs : List Pair) (r : Result Bool F)
    → CyclesOfPairsAreThoseOfInputs → ArePairsOf sheet pairs → IsSheet sheet → sheet ≡ after opening (log_of seat)
    → IfOk r (λ on. IsTrue on ↔ IsOnCycle pairs cell)
    → IfOk r (TellsCycle opening cell seat)
tells_cycle opening sheet cell seat pairs (Ok on) law are whole is given =
    let both = law sheet pairs cell are in
    record {
      on_cycle = subst (λ (s : SheetValue). IsTrue on ↔ Leads (IsInput s) cell cell) is ((λ yes. both.0 (given.0 yes)), (λ leads. given.1 (both.1 leads)));
      sheet = subst IsSheet is whole;
    }
tells_cycle opening sheet cell seat pairs (Err e) law are whole is given = tt

-- once all cells are known to the editor's seat, one that it told has settled the sheet
pub has_settled : {G : Ghosts SheetValue Entry} (opening : SheetValue) (sizes : Sizes)
    (old heard settled new : Seat SheetValue Entry G) → sizes ≡ opening.sizes → seen_of old ≤ seen_of heard
    → seen_of heard ≡ length (log_of heard) → KeepsEditor heard settled → KnowsNoLess (view_of settled) (view_of new)
    → KnowsAll (TouchesPlace opening) sizes (view_of settled)
    → HasSettled opening old new
has_settled opening sizes old heard settled new same covers seen kept less known =
    record {
      covers = subst (λ (l : List Entry). seen_of old ≤ length l) (sym (less.log ∙ kept.log)) (omega (arith, covers, seen));
      known = λ cell inside.
          knows_still (TouchesPlace opening) (view_of settled) (view_of new) (place_of opening.sizes cell) less
          (subst (λ (s : Sizes). KnowsCell (TouchesPlace opening) s (view_of settled) cell) same
          (known cell (subst (λ (s : Sizes). IsTrue (is_inside s cell)) (sym same) inside)));
    }
