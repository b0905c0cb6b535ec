-- What is so of a desk while it looks round, and from one part of a slice to the next.
use Rattle.std.proofs.Common.{◌≡◌, ◌≢◌, ◌⊎◌, inl, inr, ◌<◌, ◌≤◌, ◌+◌, ℕ, List, length, Result, Ok, Err, refl, sym, ◌∙◌, subst, arith}
use Rattle.std.specs.Prelude.{IfOk}
use Rattle.std.proofs.lemmas.Bool.{cases_eq, cases_lt}
use Rattle.sheet_refs.specs.Sizes.{cell_count, place_of}
use Rattle.sheet_refs.specs.declared.sizes.Sizes.{Sizes}
use Rattle.sheet_refs.proofs.Places.{place-lt}
use Rattle.mark_core.specs.declared.subjects.Subject.{Ghosts}
use Rattle.mark_words.specs.declared.marks.Marks.{Marks}
use Rattle.mark_words.specs.Tokens.{IsSeatOf, view_of, log_of}
use Rattle.recalc_workers.specs.declared.desk.Desk.{Desk}
use Rattle.recalc_workers.specs.Desks.{seat_of}
use Rattle.recalc_workers.specs.Settling.{AreInside, KnowsNoLess, KnowsPlace, WorksAt}
use Rattle.recalc_workers.specs.Visits.{HasVisited, KnowsFinished}
use Rattle.recalc_workers.proofs.LevelLemmas.{keeps_desk_on}
use Rattle.recalc_workers.proofs.PartLemmas.{works_on, worker_knows}
use Rattle.recalc_workers.proofs.ReadingLemmas.{read_nothing, read_on}
use Rattle.recalc_workers.proofs.SeatLemmas.{nothing_done, prefix_of_same}
use Rattle.recalc_workers.proofs.SettlingLemmas.{knows_still, no_less, worked_not}
use Rattle.recalc_workers.proofs.VisitLemmas.{finished_none, finished_on}
use Rattle.edit_log.specs.Touches.{TouchesPlace}
use Rattle.mark_words.specs.Tokens.{seen_of}
use Rattle.recalc_workers.proofs.SeatLemmas.{keeps_on}
use Rattle.recalc_workers.proofs.VisitLemmas.{finished_since}
use Rattle.sheet_model.specs.Sheets.{SheetValue}
use Rattle.sheet_model.specs.declared.entry.Entry.{Entry}
use Rattle.std.specs.declared.sync.ledger.Ledger.{Ghosts as LedgerGhosts}
use Rattle.live_sheet.specs.declared.desk.Desk.{Desk as LiveDesk}
use Rattle.live_sheet.specs.declared.naming.Naming.{Ghosts as NamingGhosts}
use Rattle.live_sheet.specs.declared.round.Seen.{Seen}
use Rattle.live_sheet.specs.Firm.{HasSettled}
use Rattle.live_sheet.specs.Slices.{HasLookedOn, HasSliced, IsClear, KnowsFrom}
use Rattle.live_sheet.specs.Worked.{KeepsSeat}

module _ {S E : Type 0} {G : Ghosts S E} where
  pub visited_not : (a : Desk S E G) → HasVisited a a
  visited_not a = record { seat = read_nothing (seat_of a); hand = refl }

  pub visited_on : (a b c : Desk S E G) → HasVisited a b → HasVisited b c → HasVisited a c
  visited_on a b c p q = record { seat = read_on (seat_of a) (seat_of b) (seat_of c) p.seat q.seat; hand = q.hand ∙ p.hand }

  -- a desk that has visited cells knows no less
  pub visitor_knows : (a b : Desk S E G) → HasVisited a b → KnowsNoLess (view_of (seat_of a)) (view_of (seat_of b))
  visitor_knows a b visited = no_less (view_of (seat_of a)) (view_of (seat_of b)) visited.seat.log visited.seat.keeps.known

  -- its log has as many entries
  pub count_still : (count : ℕ) (a b : Desk S E G) → HasVisited a b → count ≡ length (log_of (seat_of a)) → count ≡ length (log_of (seat_of b))
  count_still count a b visited is = subst (λ (l : List E). count ≡ length l) (sym visited.seat.log) is

  -- it has lost nothing
  pub visited_keeps : (a b : Desk S E G) → HasVisited a b → HasLookedOn a b
  visited_keeps a b visited =
      record {
        kept = record {
          seat = visited.seat.keeps;
          free = visited.seat.idle.holds ∙ a.free;
          done = prefix_of_same _ _ visited.seat.idle.done;
          lost = prefix_of_same _ _ visited.seat.idle.lost;
          hand = visited.hand;
        };
        idle = visited.seat.idle;
      }

  pub looked_on : (a b c : Desk S E G) → HasLookedOn a b → HasLookedOn b c → HasLookedOn a c
  looked_on a b c p q =
      record { kept = keeps_desk_on a b c p.kept q.kept; idle = nothing_done (seat_of a) (seat_of b) (seat_of c) p.idle q.idle }

  module _ (marks : Marks S E) (touches : List E → E → ℕ → Type 0) (sizes : Sizes) (desk₀ : Desk S E G) (seen₀ : Seen) (start : ℕ) where
    -- the desk and what was seen while the places are gone through
    pub record RoundSoFar (desk : Desk S E G) (seen : Seen) (place : ℕ) : Type 0 where
      pub table : IsSeatOf marks (seat_of desk)
      pub visited : HasVisited desk₀ desk
      pub inside : AreInside sizes seen.stale.items
      pub clear : IsClear seen → IsClear seen₀ × KnowsFrom touches (view_of (seat_of desk)) start place

    pub round_begins : IsSeatOf marks (seat_of desk₀) → AreInside sizes seen₀.stale.items → RoundSoFar desk₀ seen₀ start
    round_begins table inside =
        record {
          table = table;
          visited = visited_not desk₀;
          inside = inside;
          clear = λ clear. (clear, λ place from below. absurd (omega (arith, from, below)));
        }

    pub round_goes_on : (desk next : Desk S E G) (seen now : Seen) (place : ℕ) → RoundSoFar desk seen place → IsSeatOf marks (seat_of next)
        → HasVisited desk next → AreInside sizes now.stale.items
        → (IsClear now → IsClear seen × KnowsPlace touches (view_of (seat_of next)) place) → RoundSoFar next now (place + 1)
    round_goes_on desk next seen now place so table visited inside one =
        record {
          table = table;
          visited = visited_on desk₀ desk next so.visited visited;
          inside = inside;
          clear = λ clear. let here = one clear in let before = so.clear here.0 in (before.0, all here.1 before.1);
        }
      where
        all : KnowsPlace touches (view_of (seat_of next)) place → KnowsFrom touches (view_of (seat_of desk)) start place
            → KnowsFrom touches (view_of (seat_of next)) start (place + 1)
        all here before p from below = by_place (cases_eq p place)
          where
            by_place : (p ≡ place) ⊎ (p ≢ place) → KnowsPlace touches (view_of (seat_of next)) p
            by_place (inl same) = subst (KnowsPlace touches (view_of (seat_of next))) (sym same) here
            by_place (inr other) = knows_still touches _ _ p (visitor_knows desk next visited) (before p from (omega (arith, below, other)))

  -- the places from a later one on were known, and then those before it
  pub known_round : (touches : List E → E → ℕ → Type 0) (a b : Desk S E G) (start end : ℕ) → HasVisited a b
      → KnowsFrom touches (view_of (seat_of a)) start end → KnowsFrom touches (view_of (seat_of b)) 0 start
      → KnowsFrom touches (view_of (seat_of b)) 0 end
  known_round touches a b start end visited later first = λ place from below. by_place place below (cases_lt place start)
    where
      by_place : (place : ℕ) → place < end → (place < start) ⊎ (start ≤ place) → KnowsPlace touches (view_of (seat_of b)) place
      by_place place below (inl before) = first place (omega arith) before
      by_place place below (inr from) = knows_still touches _ _ place (visitor_knows a b visited) (later place from below)

  -- the desk after some cells were put
  pub record PutSoFar (marks : Marks S E) (touches : List E → E → ℕ → Type 0) (desk₀ desk : Desk S E G) : Type 0 where
    pub table : IsSeatOf marks (seat_of desk)
    pub works : WorksAt desk₀ desk
    pub finished : KnowsFinished touches (seat_of desk₀) (seat_of desk)

  pub puts_begin : (marks : Marks S E) (touches : List E → E → ℕ → Type 0) (desk : Desk S E G) → IsSeatOf marks (seat_of desk)
      → PutSoFar marks touches desk desk
  puts_begin marks touches desk table =
      record {
        table = table;
        works = record { seat = worked_not (seat_of desk) desk.free; hand = refl };
        finished = finished_none touches (seat_of desk) (seat_of desk) refl;
      }

  pub puts_go_on : (marks : Marks S E) (touches : List E → E → ℕ → Type 0) (desk₀ desk next : Desk S E G) → PutSoFar marks touches desk₀ desk
      → IsSeatOf marks (seat_of next) → WorksAt desk next → KnowsFinished touches (seat_of desk) (seat_of next) → PutSoFar marks touches desk₀ next
  puts_go_on marks touches desk₀ desk next so table works finished =
      record {
        table = table;
        works = works_on desk₀ desk next so.works works;
        finished = finished_on touches (seat_of desk₀) (seat_of desk) (seat_of next) so.finished (worker_knows desk next works) finished;
      }

-- a desk that was told a log, looked round and found nothing has settled the sheet
pub settled_round : {G : Ghosts SheetValue Entry} (opening : SheetValue) (old told new : Desk SheetValue Entry G) (log : List Entry)
    → seen_of (seat_of old) ≤ length log → log_of (seat_of told) ≡ log → HasVisited told new
    → KnowsFrom (TouchesPlace opening) (view_of (seat_of new)) 0 (cell_count opening.sizes) → HasSettled opening (seat_of old) (seat_of new)
settled_round opening old told new log covers is visited all =
    record {
      covers = subst (λ (l : List Entry). seen_of (seat_of old) ≤ length l) (sym (visited.seat.log ∙ is)) covers;
      known = λ cell inside. all (place_of opening.sizes cell) (omega arith) (place-lt opening.sizes cell inside);
    }

module _ {N : Type 0} {G : NamingGhosts N} {L : LedgerGhosts N} (opening : SheetValue) where
  -- a desk that has looked has lost nothing, and has finished nothing
  pub looked_keeps : (a b : LiveDesk N G L) → HasLookedOn a.desk b.desk → KeepsSeat a b
  looked_keeps a b looked = record { seat = looked.kept.seat; free = looked.kept.free }

  pub looked_slices : (a b : LiveDesk N G L) → HasLookedOn a.desk b.desk → HasSliced opening a b
  looked_slices a b looked =
      record {
        hand = looked.kept.hand;
        finished = finished_none (TouchesPlace opening) (seat_of a.desk) (seat_of b.desk) looked.idle.done;
      }

  -- a desk that has looked, and then has done a slice
  pub keeps_then : (a b c : LiveDesk N G L) → HasLookedOn a.desk b.desk → KeepsSeat b c → KeepsSeat a c
  keeps_then a b c looked then =
      record { seat = keeps_on (seat_of a.desk) (seat_of b.desk) (seat_of c.desk) looked.kept.seat then.seat; free = then.free }

  pub slices_then : (a b c : LiveDesk N G L) → HasLookedOn a.desk b.desk → HasSliced opening b c → HasSliced opening a c
  slices_then a b c looked then =
      record {
        hand = then.hand ∙ looked.kept.hand;
        finished = finished_since (TouchesPlace opening) (seat_of a.desk) (seat_of b.desk) (seat_of c.desk) looked.idle.done then.finished;
      }

-- what follows from a fact of what an Ok has is so of it
pub if_ok_then : {T F : Type 0} (P C : T → Type 0) (r : Result T F) → ((x : T) → P x → C x) → IfOk r P → IfOk r C
if_ok_then P C (Ok x) then given = then x given
if_ok_then P C (Err e) then given = tt
