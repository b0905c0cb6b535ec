-- What reads of cells come to.
use Rattle.std.proofs.Common.{◌≡◌, ℕ, List, [], ◌∷◌, ◌++◌, refl, sym, ◌∙◌, ap, subst}
use Rattle.std.proofs.lemmas.List.{append-nil, map-append}
use Rattle.std.proofs.lemmas.Grind.{flat_map-append}
use Rattle.sheet_refs.specs.Cells.{Position, Corners}
use Rattle.sheet_refs.specs.Sizes.{place_of}
use Rattle.sheet_refs.specs.declared.sizes.Sizes.{Sizes}
use Rattle.mark_core.specs.declared.actors.View.{View}
use Rattle.mark_core.specs.declared.subjects.Subject.{Ghosts}
use Rattle.mark_words.specs.declared.seats.Seat.{Seat}
use Rattle.mark_words.specs.declared.tables.Doing.{Doing}
use Rattle.mark_words.specs.declared.tables.OwnStep.{OwnStep}
use Rattle.mark_core.specs.Views.{with_count}
use Rattle.mark_words.specs.Tokens.{doing_of, view_of, log_of, own_steps}
use Rattle.sheet_model.specs.Boards.{BoardValue}
use Rattle.sheet_model.specs.declared.board.Shown.{Shown}
use Rattle.live_sheet.specs.declared.loads.Loads.{Loads}
use Rattle.live_sheet.specs.Looks.{after_read, after_reads, all_loads, loads_made, AreShown, ShowsLoads, HasReadCells, HasLooked}
use Rattle.live_sheet.specs.Steps.{Act, StepsAre}

-- steps after steps
pub steps_on : {E : Type 0} (a b c : List (OwnStep E)) (first second : List (Act E)) → StepsAre a first b → StepsAre b second c → StepsAre a (first ++ second) c
steps_on {E} a b c [] second f s = subst (λ (x : List (OwnStep E)). StepsAre x second c) f s
steps_on a b c (act ∷ acts) second f s = (f.0, f.1, steps_on f.0 b c acts second f.2 s)

pub reads_on : {L : Type 0} (sizes : Sizes) (view : View L) (reads : List (Position × Loads)) (cell : Position)
    (loads : Loads) → after_reads sizes view (reads ++ (cell, loads) ∷ []) ≡ after_read (after_reads sizes view reads)
    (place_of sizes cell) loads
reads_on sizes view [] cell loads = refl
reads_on sizes view (read ∷ reads) cell loads = reads_on sizes (after_read view (place_of sizes read.0) read.1) reads cell loads

pub shown_on : (number : ℕ) (reads : List (Position × Loads)) (cells : List Shown) (read : Position
    × Loads) (shown : Shown) → AreShown number reads cells → ShowsLoads number read.1 shown
    → AreShown number (reads ++ read ∷ []) (cells ++ shown ∷ [])
shown_on number [] [] read shown are one = (one, tt)
shown_on number [] (other ∷ cells) read shown are one = absurd are
shown_on number (first ∷ reads) [] read shown are one = absurd are
shown_on number (first ∷ reads) (other ∷ cells) read shown are one = (are.0, shown_on number reads cells read shown are.1 one)

-- reads leave what a view holds and which entries it knows
reads_keep_holds : {L : Type 0} (sizes : Sizes) (view : View L) (reads : List (Position × Loads)) → (after_reads sizes view reads).holds ≡ view.holds
reads_keep_holds sizes view [] = refl
reads_keep_holds sizes view (read ∷ reads) = reads_keep_holds sizes (after_read view (place_of sizes read.0) read.1) reads

reads_keep_log : {L : Type 0} (sizes : Sizes) (view : View L) (reads : List (Position × Loads)) → (after_reads sizes view reads).log ≡ view.log
reads_keep_log sizes view [] = refl
reads_keep_log sizes view (read ∷ reads) = reads_keep_log sizes (after_read view (place_of sizes read.0) read.1) reads

module _ {S E : Type 0} {G : Ghosts S E} where
  pub look_keeps_holds : (sizes : Sizes) (window : Corners) (old new : Seat S E G) (board : BoardValue)
      → HasLooked sizes window old new board → (view_of new).holds ≡ (view_of old).holds
  look_keeps_holds sizes window old new board looked =
      ap (λ (d : Doing S E). d.view.holds) looked.doing ∙ reads_keep_holds sizes (with_count (view_of old) board.number) looked.reads

  pub look_keeps_log : (sizes : Sizes) (window : Corners) (old new : Seat S E G) (board : BoardValue)
      → HasLooked sizes window old new board → log_of new ≡ log_of old
  look_keeps_log sizes window old new board looked =
      ap (λ (d : Doing S E). d.view.log) looked.doing ∙ reads_keep_log sizes (with_count (view_of old) board.number) looked.reads

  pub read_none : (sizes : Sizes) (number : ℕ) (seat : Seat S E G) → HasReadCells sizes number [] seat seat []
  read_none sizes number seat = record { reads = []; of_cells = refl; doing = refl; steps = refl; are_shown = tt }

  pub read_one_more : (sizes : Sizes) (number : ℕ) (cells more : List Position) (cell : Position) (loads : Loads)
      (shown : Shown) (a b c : Seat S E G) (board board' : List Shown)
      → more ≡ cells ++ cell ∷ [] → board' ≡ board ++ shown ∷ []
      → HasReadCells sizes number cells a b board
      → doing_of c ≡ record (doing_of b) { view = after_read (view_of b) (place_of sizes cell) loads }
      → StepsAre (own_steps b) (loads_made (place_of sizes cell) loads) (own_steps c)
      → ShowsLoads number loads shown
      → HasReadCells sizes number more a c board'
  read_one_more sizes number cells more cell loads shown a b c board board' is board_is has doing steps shows =
      record {
        reads = has.reads ++ (cell, loads) ∷ [];
        of_cells = map-append (λ (read : Position × Loads). read.0) has.reads ((cell, loads) ∷ []) ∙ ap (λ l. l ++ cell ∷ []) has.of_cells ∙ sym is;
        doing =
            doing
            ∙ ap (λ (d : Doing S E). record d { view = after_read d.view (place_of sizes cell) loads }) has.doing
            ∙ ap (λ (v : View (List E)). record (doing_of a) { view = v }) (sym (reads_on sizes (view_of a) has.reads cell loads));
        steps = subst (λ (acts : List (Act E)). StepsAre (own_steps a) acts (own_steps c))
            (sym (flat_map-append (λ (read : Position × Loads). loads_made (place_of sizes read.0) read.1) has.reads
            ((cell, loads) ∷ [])
            ∙ ap (λ l. all_loads sizes has.reads ++ l) (append-nil (loads_made (place_of sizes cell) loads))))
            (steps_on (own_steps a) (own_steps b) (own_steps c) (all_loads sizes has.reads) (loads_made (place_of sizes cell) loads) has.steps steps);
        are_shown =
            subst (AreShown number (has.reads ++ (cell, loads) ∷ [])) (sym board_is)
            (shown_on number has.reads board (cell, loads) shown has.are_shown shows);
      }
