-- What a look's reads leave in a view.
use Rattle.std.proofs.Common.{◌≡◌, ◌≢◌, ◌<◌, ◌≤◌, ◌+◌, ◌==◌, ⊎_elim, ℕ, zero, suc, List, [], ◌∷◌, ◌++◌, Bool, true}
use Rattle.std.proofs.Common.{false, max, Contains, map, refl, sym, ap, subst, arith}
use Rattle.std.specs.List.{AllZip}
use Rattle.std.specs.Prelude.{if◌then◌else◌}
use Rattle.std.proofs.lemmas.Bool.{cases_eq, cases_lt, cond_both, cond-true, eq-eqb}
use Rattle.std.proofs.lemmas.List.Elements.{Contains-append_left, Contains-append_right, Contains-push}
use Rattle.live_sheet.specs.Looks.{AreShown, ShowsLoads, after_read, after_reads, learned, read_made}
use Rattle.live_sheet.specs.declared.loads.Loads.{Loads}
use Rattle.mark_core.specs.Views.{floor_of}
use Rattle.mark_core.specs.declared.actors.View.{View}
use Rattle.mark_core.specs.declared.words.Finished.{Finished}
use Rattle.mark_core.specs.declared.words.Known.{Known}
use Rattle.sheet_model.specs.Sheets.{SheetValue}
use Rattle.sheet_model.specs.declared.board.Shown.{Shown}
use Rattle.sheet_model.specs.declared.board.Shown.TheVariants.{Value, Stale}
use Rattle.sheet_model.specs.declared.entry.Entry.{Entry}
use Rattle.sheet_model.proofs.ListMembers.{first_member}
use Rattle.sheet_refs.specs.Cells.{Position}
use Rattle.sheet_refs.specs.Sizes.{place_of}
use Rattle.sheet_refs.specs.declared.sizes.Sizes.{Sizes}
use Rattle.value_core.specs.declared.value.Value.{Value as CellValue}
use Rattle.live_run.specs.Told.{IsReadBy}

-- a known pair is below the floor of its place
pub floor_above : (known : List Known) (place mark : ℕ) → Contains known (record { place = place; mark = mark }) → mark + 1 ≤ floor_of known place
floor_above [] place mark (k, lt, is) = absurd (omega arith)
floor_above (pair ∷ known) place mark (zero, lt, is) =
    cond_both (pair.place == place) (max (pair.mark + 1) (floor_of known place)) (floor_of known place) (λ floor. mark + 1 ≤ floor)
    (λ e. let m : pair.mark ≡ mark = ap (λ (p : Known). p.mark) is in omega arith)
    (λ e. absurd (let t : (pair.place == place) ≡ true = eq-eqb pair.place place (ap (λ (p : Known). p.place) is) in cc))
floor_above (pair ∷ known) place mark (suc k, lt, is) =
    let rest : mark + 1 ≤ floor_of known place = floor_above known place mark (k, omega arith, is) in
    cond_both (pair.place == place) (max (pair.mark + 1) (floor_of known place)) (floor_of known place) (λ floor. mark + 1 ≤ floor)
    (λ e. omega arith) (λ e. rest)

-- more known pairs have no lower floor
floor_more : (known more : List Known) (place : ℕ) → floor_of known place ≤ floor_of (known ++ more) place
floor_more [] more place = omega arith
floor_more (pair ∷ known) more place =
    let rest : floor_of known place ≤ floor_of (known ++ more) place = floor_more known more place in
    by_case (pair.place == place) (floor_of known place) (floor_of (known ++ more) place) rest
  where
    by_case : (b : Bool) (low high : ℕ) → low ≤ high → (if b then max (pair.mark + 1) low else low) ≤ (if b then max (pair.mark + 1) high else high)
    by_case true low high le = omega arith
    by_case false low high le = le

module _ {L : Type 0} (sizes : Sizes) where
  pub reads_keep_seen : (view : View L) (reads : List (Position × Loads)) → (after_reads sizes view reads).seen ≡ view.seen
  reads_keep_seen view [] = refl
  reads_keep_seen view (read ∷ reads) = reads_keep_seen (after_read view (place_of sizes read.0) read.1) reads

  pub reads_keep_log : (view : View L) (reads : List (Position × Loads)) → (after_reads sizes view reads).log ≡ view.log
  reads_keep_log view [] = refl
  reads_keep_log view (read ∷ reads) = reads_keep_log (after_read view (place_of sizes read.0) read.1) reads

  pub reads_keep_reads : (view : View L) (reads : List (Position × Loads)) (read : Finished) → Contains view.reads read
      → Contains (after_reads sizes view reads).reads read
  reads_keep_reads view [] read has = has
  reads_keep_reads view (one ∷ reads) read has =
      reads_keep_reads (after_read view (place_of sizes one.0) one.1) reads read
      (Contains-append_left view.reads (read_made view (place_of sizes one.0) one.1 ∷ []) read has)

  pub reads_keep_known : (view : View L) (reads : List (Position × Loads)) (pair : Known) → Contains view.known pair
      → Contains (after_reads sizes view reads).known pair
  reads_keep_known view [] pair has = has
  reads_keep_known view (one ∷ reads) pair has =
      reads_keep_known (after_read view (place_of sizes one.0) one.1) reads pair
      (Contains-append_left view.known (learned (place_of sizes one.0) one.1) pair has)

-- the read that a look at a number made of a cell stands among those that a view has, with a floor of no less than these
-- known pairs give
pub record IsLooked (opening : SheetValue) (base : List Known) (view : View (List Entry)) (number : ℕ) (cell : Position) (shown : Shown) : Type 0 where
  pub by : IsReadBy opening view number cell shown
  pub floor : floor_of base (place_of opening.sizes cell) ≤ by.read.floor

learns : (place : ℕ) (loads : Loads) → loads.clean.upto ≡ loads.mark + 1 → Contains (learned place loads) (record { place = place; mark = loads.mark })
learns place loads computed =
    let one : List Known = record { place = place; mark = loads.mark } ∷ [] in
    subst (λ (l : List Known). Contains l (record { place = place; mark = loads.mark }))
    (sym (cond-true (loads.clean.upto == loads.mark + 1) one [] (eq-eqb loads.clean.upto (loads.mark + 1) computed)))
    (first_member (record { place = place; mark = loads.mark }) [])

module _ (opening : SheetValue) (base : List Known) (number : ℕ) where
  one_looked : (view : View (List Entry)) (cell : Position) (loads : Loads) (reads : List (Position × Loads)) (shown : Shown) → view.seen ≡ number
      → ((place : ℕ) → floor_of base place ≤ floor_of view.known place) → ShowsLoads number loads shown
      → IsLooked opening base (after_reads opening.sizes (after_read view (place_of opening.sizes cell) loads) reads) number cell shown
  one_looked view cell loads reads shown seen above shows =
      let place : ℕ = place_of opening.sizes cell in
      let next : View (List Entry) = after_read view (place_of opening.sizes cell) loads in
      record {
        by =
            record {
              read = read_made view (place_of opening.sizes cell) loads;
              word = loads.word;
              kept = reads_keep_reads opening.sizes next reads (read_made view (place_of opening.sizes cell) loads)
                  (Contains-push view.reads (read_made view (place_of opening.sizes cell) loads));
              word_is = refl;
              number_is = seen;
              place_is = refl;
              shown_is = shows;
              known = λ computed.
                  reads_keep_known opening.sizes next reads (record { place = place_of opening.sizes cell; mark = loads.mark })
                  (Contains-append_right view.known (learned (place_of opening.sizes cell) loads)
                  (record { place = place_of opening.sizes cell; mark = loads.mark })
                  (learns (place_of opening.sizes cell) loads computed));
            };
        floor = above (place_of opening.sizes cell);
      }

  -- each cell of a look is read so
  pub all_looked : (view : View (List Entry)) (reads : List (Position × Loads)) (cells : List Shown)
      → view.seen ≡ number → ((place : ℕ) → floor_of base place ≤ floor_of view.known place)
      → AreShown number reads cells → AllZip (IsLooked opening base (after_reads opening.sizes view reads) number) (map (λ read. read.0) reads) cells
  all_looked view [] [] seen above shown = tt
  all_looked view [] (s ∷ cells) seen above shown = absurd shown
  all_looked view (read ∷ reads) [] seen above shown = absurd shown
  all_looked view (read ∷ reads) (s ∷ cells) seen above shown = (
    one_looked view read.0 read.1 reads s seen above shown.0,
    all_looked (after_read view (place_of opening.sizes read.0) read.1) reads cells seen
        (λ place.
        let a : floor_of base place ≤ floor_of view.known place = above place in
        let b : floor_of view.known place ≤ floor_of (view.known ++ learned (place_of opening.sizes read.0) read.1)
        place = floor_more view.known (learned (place_of opening.sizes read.0) read.1) place in
        omega arith) shown.1,
  )

-- where a value is shown, the place was computed for the mark, and the mark is within the number
pub value_means : (number : ℕ) (loads : Loads) (value : CellValue) → ShowsLoads number loads (Value value)
    → (loads.clean.upto ≡ loads.mark + 1) × (loads.mark ≤ number)
value_means number loads value shows =
    ⊎_elim
    (λ (computed : loads.clean.upto ≡ loads.mark + 1).
    ⊎_elim (λ (past : number < loads.mark). absurd (let e = shows.newer computed past in cc)) (λ le. (computed, le)) (cases_lt number loads.mark))
    (λ stale. absurd (let e = shows.stale stale in cc))
    (cases_eq loads.clean.upto (loads.mark + 1))

-- where a mark is shown as stale, it is that of the read, for which the place wasn't computed
pub stale_means : (number : ℕ) (loads : Loads) (mark : ℕ) → ShowsLoads number loads (Stale mark) → (loads.mark ≡ mark) × (loads.clean.upto ≢ loads.mark + 1)
stale_means number loads mark shows =
    ⊎_elim
    (λ (computed : loads.clean.upto ≡ loads.mark + 1).
    ⊎_elim (λ (past : number < loads.mark). absurd (let e = shows.newer computed past in cc))
    (λ le. absurd (let e = (shows.current computed le).1 in cc)) (cases_lt number loads.mark))
    (λ stale. (let e = shows.stale stale in cc, stale))
    (cases_eq loads.clean.upto (loads.mark + 1))
