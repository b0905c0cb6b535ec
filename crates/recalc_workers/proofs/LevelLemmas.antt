-- From what each desk knows to what the editor's seat knows of a level.
use Rattle.std.proofs.Common.{◌≡◌, ◌⊎◌, inl, inr, ◌<◌, ◌≤◌, ◌+◌, ◌-◌, ◌*◌, ◌/◌, ℕ, zero, suc, List, [], ◌∷◌, ◌++◌}
use Rattle.std.proofs.Common.{length, get_or, take, drop, refl, sym, ◌∙◌, ap, subst, arith}
use Rattle.std.specs.Prelude.{All}
use Rattle.std.proofs.Math.Nat.{mod-lt, lt_of_mul-lt-mul_right, mul_comm}
use Rattle.std.proofs.lemmas.Nat.{div-add-mod'}
use Rattle.std.proofs.lemmas.Bool.{cases_lt}
use Rattle.std.proofs.lemmas.List.{length-append, length-drop, length-take-le, get_or-take, get_or-drop, get_or_append_left, get_or-append_right}
use Rattle.sheet_refs.specs.Cells.{Position}
use Rattle.sheet_refs.specs.Sizes.{place_of}
use Rattle.sheet_refs.specs.declared.sizes.Sizes.{Sizes}
use Rattle.mark_core.specs.declared.actors.View.{View}
use Rattle.mark_core.specs.declared.subjects.Subject.{Ghosts}
use Rattle.mark_core.proofs.Prefixes.{prefix_of_prefix}
use Rattle.mark_words.specs.declared.marks.Marks.{Marks}
use Rattle.mark_words.specs.Tokens.{IsSeatOf, view_of}
use Rattle.sheet_model.specs.declared.entry.Entry.{Entry}
use Rattle.sheet_model.specs.Logs.{after}
use Rattle.sheet_model.specs.Sheets.{SheetValue}
use Rattle.recalc_workers.specs.declared.desk.Desk.{Desk}
use Rattle.recalc_workers.specs.Desks.{seat_of}
use Rattle.recalc_workers.specs.Settling.{AllSettledShares, Each, IsCovered, IsDeskAfter, IsLent, KeepsDesk, KnowsCells}
use Rattle.recalc_workers.specs.Settling.{KnowsNoLess, KnowsOfAll, MaySettle, NoneWantsMemory, WorksAt}
use Rattle.recalc_workers.proofs.SeatLemmas.{keeps_on}
use Rattle.recalc_workers.proofs.SettlingLemmas.{knows_still, worked_not}

-- the share in which a place is, of shares of one size
pub positive : (size desks cells k : ℕ) → cells ≤ size * desks → k < cells → 0 < size
positive zero desks cells k enough inside = absurd (omega arith)
positive (suc size) desks cells k enough inside = omega arith

pub share_of : (size desks cells k : ℕ) → cells ≤ size * desks → k < cells → (k / size < desks) × (k / size * size ≤ k) × (k < k / size * size + size)
share_of size desks cells k enough inside =
    let some = positive size desks cells k enough inside in
    let whole = div-add-mod' k size in
    let rest = mod-lt k some in
    let same = mul_comm size desks in
    (lt_of_mul-lt-mul_right size (omega (arith, whole, same)), omega (arith, whole), omega (arith, whole, rest))

-- the first of a list have changed, and the others stand as they are to themselves
pub some_changed : {X : Type 0} (Change : X → X → Type 0) (xs ys : List X) (n : ℕ) → n ≤ length xs → Each Change (take n xs) ys
    → ((place : ℕ) (x : X) → place < length xs → Change (get_or xs place x) (get_or xs place x))
    → Each Change xs (ys ++ drop n xs)
some_changed {X} Change xs ys n few first same = (
  length-append ys (drop n xs) ∙ omega (arith, first.0, long, length-drop n xs),
  λ place x inside. by_place place x inside (cases_lt place n),
)
  where
    long : length (take n xs) ≡ n
    long = length-take-le n xs few

    many : length ys ≡ n
    many = first.0 ∙ long

    by_place : (place : ℕ) (x : X) → place < length xs → (place < n) ⊎ (n ≤ place) → Change (get_or xs place x) (get_or (ys ++ drop n xs) place x)
    by_place place x inside (inl below) =
        subst (λ (y : X × X). Change y.0 y.1) (λ i. (get_or-take n xs place x below i, sym (get_or_append_left ys (drop n xs) x place (omega (arith, many))) i))
        (first.1 place x (omega (arith, long)))
    by_place place x inside (inr from) =
        subst (λ (y : X). Change (get_or xs place x) y)
        (sym (get_or-append_right ys (drop n xs) n place x many from ∙ get_or-drop n xs (place - n) x ∙ ap (λ (j : ℕ). get_or xs j x) (omega arith)))
        (same place x inside)

-- what has to be known of a cell is so after more is known
pub covered_stays : (opening sheet : SheetValue) (Covers : Position → Type 0) (view other : View (List Entry)) (cell : Position) → KnowsNoLess view other
    → IsCovered opening sheet Covers view cell → IsCovered opening sheet Covers other cell
covered_stays opening sheet Covers view other cell less is =
    record { is_sheet = is.is_sheet; sheet_is = is.sheet_is ∙ ap (after opening) (sym less.log); covered = is.covered }

-- an element of a list that has some
some_of : {X : Type 0} (xs : List X) → 0 < length xs → X
some_of [] some = absurd (omega arith)
some_of (x ∷ xs) some = x

module _ {S E : Type 0} {G : Ghosts S E} where
  kept_by_work : (a b : Desk S E G) → WorksAt a b → KeepsDesk a b
  kept_by_work a b works = record { seat = works.seat.keeps; free = works.seat.free; done = works.seat.done; lost = works.seat.lost; hand = works.hand }

  pub keeps_desk_on : (a b c : Desk S E G) → KeepsDesk a b → KeepsDesk b c → KeepsDesk a c
  keeps_desk_on a b c p q =
      record {
        seat = keeps_on (seat_of a) (seat_of b) (seat_of c) p.seat q.seat;
        free = q.free;
        done = prefix_of_prefix _ _ _ p.done q.done;
        lost = prefix_of_prefix _ _ _ p.lost q.lost;
        hand = q.hand ∙ p.hand;
      }

  -- desks that were lent what the view knows may settle what it covers
  pub ready : (marks : Marks S E) (cells : List Position) (count : ℕ) (Covers : View (List E) → Position
      → Type 0) (view : View (List E)) (old new : List (Desk S E G))
      → ((a b : View (List E)) (cell : Position) → KnowsNoLess a b → Covers a cell → Covers b cell)
      → count ≡ length view.log → All (Covers view) cells → Each (IsLent marks view) old new
      → (k : ℕ) (d : Desk S E G) → k < length new → MaySettle marks cells count Covers (get_or new k d)
  ready marks cells count Covers view old new stays entries covered lent k d inside =
      let is = lent.1 k d (omega (arith, lent.0)) in
      record {
        table = is.table;
        entries = subst (λ (l : List E). count ≡ length l) (sym is.knows.log) entries;
        covered = λ j cell below. stays view (view_of (seat_of (get_or new k d))) (get_or cells j cell) is.knows (covered j cell below);
      }

  module _ (marks : Marks S E) (touches : List E → E → ℕ → Type 0) (sizes : Sizes) (cells : List Position) (size : ℕ)
      (view : View (List E)) (d₀ d₁ d₂ d₃ : List (Desk S E G)) (lent : Each (IsLent marks view) d₀ d₁)
      (count : length d₂ ≡ length d₁) (shares : AllSettledShares marks touches sizes cells size d₁ d₂) where
    -- what settling leaves of the desks
    pub desks_after : Each (IsDeskAfter marks) d₂ d₃ → Each (IsDeskAfter marks) d₀ d₃
    desks_after gathered = (
      gathered.0 ∙ count ∙ lent.0,
      λ place d inside.
          let one = lent.1 place d inside in
          let two = shares place d (omega (arith, lent.0)) in
          let three = gathered.1 place d (omega (arith, lent.0, count)) in
          record {
            table = three.table;
            kept = keeps_desk_on (get_or d₀ place d) (get_or d₁ place d) (get_or d₃ place d) one.kept
                (keeps_desk_on (get_or d₁ place d) (get_or d₂ place d) (get_or d₃ place d)
                (kept_by_work (get_or d₁ place d) (get_or d₂ place d) two.works) three.kept);
          },
    )

    -- and what the editor's seat knows then
    pub all_clean : (after : View (List E)) → after.log ≡ view.log → length cells ≤ size * length d₀
        → KnowsOfAll d₂ after → NoneWantsMemory d₂ → KnowsCells touches sizes after cells
    all_clean after log enough knows none k cell inside =
        let at = share_of size (length d₀) (length cells) k enough inside in
        let within₁ : k / size < length d₁ = omega (arith, lent.0, at.0) in
        let within : k / size < length d₂ = omega (arith, count, within₁) in
        let d = some_of d₂ (omega (arith, within)) in
        let one = lent.1 (k / size) d at.0 in
        let two = shares (k / size) d within₁ in
        let known = two.known (none (k / size) d within) k cell at.1 at.2 inside in
        knows_still touches (view_of (seat_of (get_or d₂ (k / size) d))) after (place_of sizes (get_or cells k cell))
        (record {
          log = log ∙ sym (two.works.seat.log ∙ one.knows.log);
          known = knows (k / size) d within;
        }) known

  -- a desk that nobody worked at
  pub desk_itself : (marks : Marks S E) (desk : Desk S E G) → IsSeatOf marks (seat_of desk) → IsDeskAfter marks desk desk
  desk_itself marks desk table =
      record {
        table = table;
        kept = kept_by_work desk desk (record { seat = worked_not (seat_of desk) desk.free; hand = refl });
      }
