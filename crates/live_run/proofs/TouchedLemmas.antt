-- Which entries of a log touch a cell, in words of the marks and in plain ones.
use Rattle.std.proofs.Common.{◌≡◌, ◌<◌, ◌≤◌, ◌-◌, ℕ, List, IsTrue, length, take, arith}
use Rattle.std.proofs.lemmas.List.{length-take-le}
use Rattle.sheet_refs.specs.Cells.{Position}
use Rattle.sheet_refs.specs.Sizes.{is_inside, place_of}
use Rattle.edit_log.specs.Touches.{TouchesPlace}
use Rattle.edit_log.proofs.PlaceLemmas.{touched_place}
use Rattle.mark_core.specs.Marks.{IsTouched, IsLastMark}
use Rattle.mark_core.proofs.Prefixes.{take_is_prefix, touched_in_prefix, touched_in_longer}
use Rattle.sheet_model.specs.Sheets.{SheetValue}
use Rattle.sheet_model.specs.declared.entry.Entry.{Entry}
use Rattle.live_run.specs.Legal.{IsTouchedBy, IsLastOf}

module _ (opening : SheetValue) (log : List Entry) (cell : Position) (inside : IsTrue (is_inside opening.sizes cell)) where
  pub touched_by : (number : ℕ) → IsTouched (TouchesPlace opening) log (place_of opening.sizes cell) number → IsTouchedBy opening log cell number
  touched_by number t =
      record {
        counted = let c : 0 < number = t.counted in omega arith;
        entry = t.entry;
        stands = t.stands;
        touched = (touched_place opening (take (number - 1) log) t.entry cell inside).0 t.touched;
      }

  pub touched_mark : (number : ℕ) → IsTouchedBy opening log cell number → IsTouched (TouchesPlace opening) log (place_of opening.sizes cell) number
  touched_mark number t =
      record {
        counted = let c : 1 ≤ number = t.counted in omega arith;
        entry = t.entry;
        stands = t.stands;
        touched = (touched_place opening (take (number - 1) log) t.entry cell inside).1 t.touched;
      }

  -- the last mark in the first so many entries is that of the last of them that touches the cell
  pub last_of : (count number : ℕ) → count ≤ length log
      → IsLastMark (TouchesPlace opening) (take count log) (place_of opening.sizes cell) number
      → IsLastOf opening log count cell number
  last_of count number within last =
      let long : length (take count log) ≡ count = length-take-le count log within in
      let front = take_is_prefix count log in
      record {
        within = let w : number ≤ length (take count log) = last.within in omega arith;
        touched =
            λ (some : 1 ≤ number). touched_by number (touched_in_longer (TouchesPlace opening) (take count log) log
            (place_of opening.sizes cell) number front (last.touched (omega arith)));
        none_later = λ later past le t.
            let le' : later ≤ length (take count log) = omega (arith, le) in
            last.none_later later past le'
            (touched_in_prefix (TouchesPlace opening) (take count log) log (place_of opening.sizes cell) later front le' (touched_mark later t));
      }
