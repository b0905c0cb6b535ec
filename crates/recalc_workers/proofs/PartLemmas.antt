-- What is so of a desk while it settles its part of a level, cell by cell.
use Rattle.std.proofs.Common.{◌≡◌, ◌≢◌, ◌⊎◌, inl, inr, ◌<◌, ◌≤◌, ◌+◌, ℕ, List, length, get_or, refl, sym, ◌∙◌, subst, arith}
use Rattle.std.proofs.lemmas.Bool.{cases_eq}
use Rattle.std.proofs.lemmas.List.{get_or_default}
use Rattle.std.proofs.lemmas.List.Elements.{All-get_or}
use Rattle.sheet_refs.specs.Cells.{Position}
use Rattle.sheet_refs.specs.Sizes.{place_of}
use Rattle.sheet_refs.specs.declared.sizes.Sizes.{Sizes}
use Rattle.mark_core.specs.declared.actors.View.{View}
use Rattle.mark_core.specs.declared.subjects.Subject.{Ghosts}
use Rattle.mark_words.specs.declared.marks.Marks.{Marks}
use Rattle.mark_words.specs.Tokens.{IsSeatOf, view_of, log_of}
use Rattle.recalc_workers.specs.declared.desk.Desk.{Desk}
use Rattle.recalc_workers.specs.Desks.{seat_of}
use Rattle.recalc_workers.specs.Seats.{HoldsNothing}
use Rattle.recalc_workers.specs.Settling.{KnowsNoLess, KnowsPart, KnowsPlace, MaySettle, WorksAt}
use Rattle.recalc_workers.proofs.SettlingLemmas.{knows_still, no_less, worked_not, worked_on}

module _ {S E : Type 0} {G : Ghosts S E} where
  -- a seat that has worked knows no less
  pub worker_knows : (a b : Desk S E G) → WorksAt a b → KnowsNoLess (view_of (seat_of a)) (view_of (seat_of b))
  worker_knows a b works = no_less (view_of (seat_of a)) (view_of (seat_of b)) works.seat.log works.seat.keeps.known

  pub works_on : (a b c : Desk S E G) → WorksAt a b → WorksAt b c → WorksAt a c
  works_on a b c p q = record { seat = worked_on (seat_of a) (seat_of b) (seat_of c) p.seat q.seat; hand = q.hand ∙ p.hand }

  -- the desk has worked, and knows the cells from one place up to another
  pub record PartSoFar (marks : Marks S E) (touches : List E → E → ℕ → Type 0) (sizes : Sizes) (cells : List Position)
      (old desk : Desk S E G) (start place : ℕ) : Type 0 where
    pub table : IsSeatOf marks (seat_of desk)
    pub works : WorksAt old desk
    pub known : KnowsPart touches sizes (view_of (seat_of desk)) cells start place

  module _ (marks : Marks S E) (touches : List E → E → ℕ → Type 0) (sizes : Sizes) (cells : List Position) (old : Desk S E G) (start : ℕ) where
    pub part_begins : IsSeatOf marks (seat_of old) → HoldsNothing (seat_of old) → PartSoFar marks touches sizes cells old old start start
    part_begins table free =
        record {
          table = table;
          works = record { seat = worked_not (seat_of old) free; hand = refl };
          known = λ k cell from below. absurd (omega arith);
        }

    pub entries_now : (count : ℕ) (Covers : View (List E) → Position → Type 0) (desk : Desk S E G) (place : ℕ) → MaySettle marks cells count Covers old
        → PartSoFar marks touches sizes cells old desk start place → count ≡ length (log_of (seat_of desk))
    entries_now count Covers desk place may so = subst (λ (l : List E). count ≡ length l) (sym so.works.seat.log) may.entries

    -- what it had to know of a cell it still knows
    pub covered_now : (count : ℕ) (Covers : View (List E) → Position → Type 0) (desk : Desk S E G) (place : ℕ)
        → ((view other : View (List E)) (cell : Position) → KnowsNoLess view other → Covers view cell → Covers other cell)
        → MaySettle marks cells count Covers old → PartSoFar marks touches sizes cells old desk start place
        → (d : Position) → place < length cells → Covers (view_of (seat_of desk)) (get_or cells place d)
    covered_now count Covers desk place stays may so d inside =
        stays (view_of (seat_of old)) (view_of (seat_of desk)) (get_or cells place d) (worker_knows old desk so.works)
        (All-get_or (Covers (view_of (seat_of old))) cells place d inside may.covered)

    -- one cell more
    pub part_goes_on : (desk next : Desk S E G) (place : ℕ) (d : Position) → PartSoFar marks touches sizes cells old desk start place
        → IsSeatOf marks (seat_of next) → WorksAt desk next → KnowsPlace touches (view_of (seat_of next)) (place_of sizes (get_or cells place d))
        → PartSoFar marks touches sizes cells old next start (place + 1)
    part_goes_on desk next place d so table works known =
        record {
          table = table;
          works = works_on old desk next so.works works;
          known = λ k cell from below within. by_place k cell from below within (cases_eq k place);
        }
      where
        by_place : (k : ℕ) (cell : Position) → start ≤ k → k < place + 1 → k < length cells → (k ≡ place) ⊎ (k ≢ place)
            → KnowsPlace touches (view_of (seat_of next)) (place_of sizes (get_or cells k cell))
        by_place k cell from below within (inl same) =
            subst (λ (x : Position). KnowsPlace touches (view_of (seat_of next)) (place_of sizes x))
            (subst (λ (j : ℕ). get_or cells place d ≡ get_or cells j cell) (sym same) (get_or_default cells place d cell (omega arith))) known
        by_place k cell from below within (inr other) =
            knows_still touches (view_of (seat_of desk)) (view_of (seat_of next)) (place_of sizes (get_or cells k cell)) (worker_knows desk next works)
            (so.known k cell from (omega arith) within)
