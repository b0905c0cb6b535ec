-- What is stored of cells stays so, and what it tells.
use Rattle.std.proofs.Common.{◌≡◌, ◌≤◌, ◌<◌, ⊎_elim, ℕ, List, Option, Some, None, length, take, get_or, sym, ◌∙◌, ap, subst, arith, false}
use Rattle.std.specs.Prelude.{IfSome, IsTrue, slice_set}
use Rattle.std.proofs.lemmas.Bool.{false≢true}
use Rattle.std.proofs.lemmas.List.Elements.{All-set}
use Rattle.std.proofs.Math.Seq.{take-length}
use Rattle.sheet_refs.specs.Cells.{Position}
use Rattle.graph_walk.specs.Graphs.{Pair, IsOnCycle as IsOnPairsCycle}
use Rattle.edit_log.specs.Inputs.{CyclesOfPairsAreThoseOfInputs}
use Rattle.edit_log.specs.Pairs.{ArePairsOf}
use Rattle.mark_core.specs.declared.subjects.Subject.{Ghosts}
use Rattle.mark_core.specs.Marks.{IsPrefix}
use Rattle.mark_core.proofs.Prefixes.{prefix_length, take-prefix}
use Rattle.mark_words.specs.declared.seats.Seat.{Seat}
use Rattle.mark_words.specs.declared.tables.Doing.{Doing}
use Rattle.mark_words.specs.Doing.{with_see}
use Rattle.mark_words.specs.Meets.{HasMet}
use Rattle.mark_words.specs.declared.marks.Marks.{Marks}
use Rattle.mark_words.specs.Tokens.{IsSeatOf, TableId, table_of, doing_of, own_steps, log_of, seen_of, seat_table}
use Rattle.recalc_workers.specs.Offices.{IsTaskFor, TellsCycle}
use Rattle.recalc_workers.specs.Seats.{HasDoneNothing, Keeps}
use Rattle.recalc_workers.specs.Turns.{IsOnCycle}
use Rattle.recalc_workers.proofs.SeatLemmas.{prefix_of_more, prefix_of_same}
use Rattle.sheet_model.specs.Logs.{after}
use Rattle.sheet_model.specs.Sheets.{SheetValue, IsSheet, content_of, content_value}
use Rattle.sheet_model.specs.declared.content.Content.{Content}
use Rattle.sheet_model.specs.declared.entry.Entry.{Entry}
use Rattle.live_sheet.specs.Stored.{AreEmpty, AreStored, HasCaughtUp, IsFound, IsInSlot, IsStore, IsStored, sheet_at}
use Rattle.live_sheet.specs.declared.stored.Stored.{Stored}
use Rattle.live_sheet.proofs.MeetingLemmas.{no_more}

-- a seat that met one whose log is no shorter has that log
pub longer_log : {S E : Type 0} (seat other after : Doing S E) → length seat.view.log ≤ length other.view.log → HasMet seat other after
    → after.view.log ≡ other.view.log
longer_log {S} {E} seat other after shorter met =
    ⊎_elim (λ (own : after.view.log ≡ seat.view.log).
    no_more other.view.log after.view.log met.other_log.rest met.other_log.whole (omega (arith, ap length own, shorter)))
    (λ (longer : after.view.log ≡ other.view.log). longer)
    met.one_log

module _ (opening : SheetValue) where
  slot_on : (xs ys : List Entry) (slot : Option Stored) → IsPrefix xs ys → IfSome slot (IsStored opening xs) → IfSome slot (IsStored opening ys)
  slot_on xs ys None p is = tt
  slot_on xs ys (Some stored) p is =
      let same : sheet_at opening ys stored.count ≡ sheet_at opening xs stored.count = ap (after opening) (take-prefix xs ys stored.count p is.within) in
      record {
        within = omega (arith, is.within, prefix_length xs ys p);
        sheet = subst IsSheet (sym same) is.sheet;
        content_is = is.content_is ∙ ap (λ (s : SheetValue). content_of s stored.cell) (sym same);
        circular = λ on. is.circular (subst (λ (s : SheetValue). IsOnCycle s stored.cell) same on);
      }

  -- what is stored is so for a log that goes on
  pub stored_on : (xs ys : List Entry) (slots : List (Option Stored)) → IsPrefix xs ys → AreStored opening xs slots → AreStored opening ys slots
  stored_on xs ys slots p all = λ k d below. slot_on xs ys (get_or slots k d) p (all k d below)

  slot_empty : (log : List Entry) (slot : Option Stored) → slot ≡ None → IfSome slot (IsStored opening log)
  slot_empty log slot is = subst (λ (s : Option Stored). IfSome s (IsStored opening log)) (sym is) tt

  -- empty slots have nothing that isn't so
  pub stored_none : (log : List Entry) (slots : List (Option Stored)) → AreEmpty slots → AreStored opening log slots
  stored_none log slots all = λ k d below. slot_empty log (get_or slots k d) (all k d below)

  -- one slot more has what is so
  pub stored_one : (log : List Entry) (slots : List (Option Stored)) (at : ℕ) (stored : Stored) → AreStored opening log slots
      → IsStored opening log stored → AreStored opening log (slice_set slots at (Some stored))
  stored_one log slots at stored all is = All-set (λ (slot : Option Stored). IfSome slot (IsStored opening log)) slots at (Some stored) is all

  -- what is found in a slot is so
  pub found_there : (log : List Entry) (slot : Option Stored) (stored : Stored) → slot ≡ Some stored → IfSome slot (IsStored opening log)
      → IsStored opening log stored
  found_there log slot stored is has = subst (λ (s : Option Stored). IfSome s (IsStored opening log)) is has

  -- what is stored for the whole of a log is so after it
  pub whole_sheet : (log : List Entry) (count : ℕ) → count ≡ length log → sheet_at opening log count ≡ after opening log
  whole_sheet log count is = ap (after opening) (ap (λ (n : ℕ). take n log) is ∙ take-length log)

  -- what stands in a cell after a log is stored as such
  pub is_stored : (log : List Entry) (sheet : SheetValue) (pairs : List Pair) (stored : Stored) → stored.count ≡ length log
      → sheet ≡ after opening log → IsSheet sheet → content_value stored.content ≡ content_of sheet stored.cell
      → CyclesOfPairsAreThoseOfInputs → ArePairsOf sheet pairs
      → (IsOnPairsCycle pairs stored.cell → IsTrue stored.may_be_on_cycle) → IsStored opening log stored
  is_stored log sheet pairs stored counted is whole content law are may =
      let same : sheet ≡ sheet_at opening log stored.count = is ∙ sym (whole_sheet log stored.count counted) in
      record {
        within = omega (arith, counted);
        sheet = subst IsSheet same whole;
        content_is = content ∙ ap (λ (s : SheetValue). content_of s stored.cell) same;
        circular = λ on. may ((law sheet pairs stored.cell are).1 (subst (λ (s : SheetValue). IsOnCycle s stored.cell) (sym same) on));
      }

-- a store is one still where its seat knows what it knew
pub store_kept : {G : Ghosts SheetValue Entry} (words : TableId) (opening : SheetValue) (marks : Marks SheetValue Entry)
    (a b : Seat SheetValue Entry G) (count : ℕ) (slots : List (Option Stored)) → table_of marks ≡ words → IsStore words opening a count slots
    → IsSeatOf marks b → doing_of b ≡ doing_of a → IsStore words opening b count slots
store_kept words opening marks a b count slots named is table kept =
    record {
      belongs = record {
        table = table.same_table ∙ named;
        about = ap (λ (d : Doing SheetValue Entry). d.subject) kept ∙ is.belongs.about;
      };
      counted = is.counted ∙ ap (λ (d : Doing SheetValue Entry). length d.view.log) (sym kept);
      each = subst (λ (l : List Entry). AreStored opening l slots) (ap (λ (d : Doing SheetValue Entry). d.view.log) (sym kept)) is.each;
    }

found_in_slot : (slots : List (Option Stored)) (at : ℕ) (slot : Option Stored) (cell : Position) (count : ℕ) (stored : Stored)
    → at < length slots → slot ≡ get_or slots at slot → IsInSlot slot cell count stored → IsFound slots cell count stored
found_in_slot slots at slot cell count stored within there is =
    record {
      of_cell = is.of_cell;
      of_count = is.of_count;
      among = λ opening log all.
          found_there opening log (get_or slots at slot) stored (sym there ∙ is.is) (all at slot within);
    }

-- what is found in one of the slots is found
pub found_in : (slots : List (Option Stored)) (at : ℕ) (slot : Option Stored) (cell : Position) (count : ℕ) (found : Option Stored)
    → at < length slots → slot ≡ get_or slots at slot
    → IfSome found (IsInSlot slot cell count) → IfSome found (IsFound slots cell count)
found_in slots at slot cell count None within there is = tt
found_in slots at slot cell count (Some stored) within there is = found_in_slot slots at slot cell count stored within there is

module _ {S E : Type 0} {G : Ghosts S E} where
  -- a seat that saw the count of commits has lost nothing
  pub see_keeps : (old new : Seat S E G) (count : ℕ) → seat_table new ≡ seat_table old → doing_of new ≡ with_see (doing_of old) count
      → IsPrefix (own_steps old) (own_steps new) → seen_of old ≤ count → Keeps old new
  see_keeps old new count table doing steps covers =
      record {
        table = table;
        subject = ap (λ (d : Doing S E). d.subject) doing;
        log = prefix_of_same _ _ (ap (λ (d : Doing S E). d.view.log) doing);
        seen = omega (arith, ap (λ (d : Doing S E). d.view.seen) doing, covers);
        known = prefix_of_same _ _ (ap (λ (d : Doing S E). d.view.known) doing);
        reads = prefix_of_same _ _ (ap (λ (d : Doing S E). d.view.reads) doing);
        sees = prefix_of_more _ _ _ (ap (λ (d : Doing S E). d.view.sees) doing);
        steps = steps;
      }

  pub see_idle : (old new : Seat S E G) (count : ℕ) → doing_of new ≡ with_see (doing_of old) count → HasDoneNothing old new
  see_idle old new count doing =
      record {
        holds = ap (λ (d : Doing S E). d.view.holds) doing;
        done = ap (λ (d : Doing S E). d.view.done) doing;
        lost = ap (λ (d : Doing S E). d.view.lost) doing;
      }

module _ {F : Type 0} {G : Ghosts F Entry} (opening : SheetValue) (old other new : Seat F Entry G) (slots : List (Option Stored))
    (cell : Position) (count : ℕ) (stored : Stored) (counted : count ≡ length (log_of other)) (all : AreStored opening (log_of other) slots)
    (found : IsFound slots cell count stored) (caught : HasCaughtUp old other new) where
  same_sheet : sheet_at opening (log_of other) stored.count ≡ after opening (log_of new)
  same_sheet = whole_sheet opening (log_of other) stored.count (found.of_count ∙ counted) ∙ ap (after opening) (sym caught.log)

  is : IsStored opening (log_of other) stored
  is = found.among opening (log_of other) all

  -- what is stored is the task, where the seat caught up
  pub task_of : (content : Content) → content_value content ≡ content_value stored.content
      → IsTaskFor opening old cell new (record { content = content; length = count })
  task_of content copied =
      record {
        at = record {
          length_is = counted ∙ ap length (sym caught.log);
          content_is = copied ∙ is.content_is ∙ ap (λ (s : SheetValue). content_of s stored.cell) same_sheet
              ∙ ap (content_of (after opening (log_of new))) found.of_cell;
          sheet = subst IsSheet same_sheet is.sheet;
        };
        covers = subst (λ (n : ℕ). seen_of old ≤ n) (sym counted) caught.covers;
      }

  -- and where it says that the cell can't be on a cycle, it isn't on one
  pub no_cycle : stored.may_be_on_cycle ≡ false → TellsCycle opening cell new false
  no_cycle cannot =
      record {
        on_cycle = (
          (λ yes. absurd (false≢true yes)),
          (λ on. subst IsTrue cannot (is.circular (subst (λ (s : SheetValue). IsOnCycle s stored.cell) (sym same_sheet)
              (subst (λ (c : Position). IsOnCycle (after opening (log_of new)) c) (sym found.of_cell) on)))),
        );
        sheet = subst IsSheet same_sheet is.sheet;
      }
