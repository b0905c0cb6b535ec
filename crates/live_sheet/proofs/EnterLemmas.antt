-- When all that an edit touches is marked, and what its commit comes to.
use Rattle.std.proofs.Common.{◌≡◌, ◌<◌, ◌+◌, ℕ, List, [], ◌∷◌, ◌++◌, Some, length, map, sym, ◌∙◌, ap, subst, arith, All, get_or, length-append}
use Rattle.std.specs.Prelude.{Contains}
use Rattle.std.proofs.lemmas.List.Elements.{Contains-append_right, Contains-get_or}
use Rattle.sheet_refs.specs.Cells.{Position}
use Rattle.sheet_refs.specs.Sizes.{place_of}
use Rattle.sheet_refs.specs.declared.sizes.Sizes.{Sizes}
use Rattle.sheet_model.specs.Changes.{ChangeValue}
use Rattle.sheet_model.specs.Sheets.{SheetValue, Constant}
use Rattle.value_core.specs.declared.value.Value.TheVariants.{Empty}
use Rattle.sheet_model.specs.declared.entry.Entry.{Entry}
use Rattle.edit_log.specs.Books.{PreparedValue, IsPreparedFor}
use Rattle.edit_log.specs.Touches.{TouchesPlace}
use Rattle.edit_log.proofs.PlaceLemmas.{touched_place, touched_places}
use Rattle.edit_log.proofs.TouchLemmas.{changed_touched}
use Rattle.mark_core.specs.declared.actors.View.{View}
use Rattle.mark_core.specs.declared.subjects.Subject.{Ghosts}
use Rattle.mark_words.specs.declared.tables.Doing.{Doing}
use Rattle.mark_words.specs.declared.seats.Seat.{Seat}
use Rattle.mark_words.specs.Tokens.{doing_of, log_of, own_steps}
use Rattle.live_sheet.specs.Edits.{CommitsPending, HasEntered, HasMarked, IsReady, marks_of}
use Rattle.live_sheet.specs.Steps.{StepsAre, committed}
use Rattle.live_sheet.proofs.LookLemmas.{steps_on}

-- a list that contains something is not empty
some_in : {X : Type 0} (xs : List X) (x : X) → Contains xs x → 0 < length xs
some_in xs x member = omega (arith, member.1)

pub touched_all : (opening : SheetValue) (log : List Entry) (prepared : PreparedValue) → IsPreparedFor opening log prepared
    → All (λ cell. TouchesPlace opening log prepared.entry (place_of opening.sizes cell)) prepared.touched
touched_all opening log prepared is k d below =
    let cell = get_or prepared.touched k d in
    (touched_place opening log prepared.entry cell (is.touched_inside k d below)).1 ((is.touched.exact cell).0 (Contains-get_or prepared.touched k d below))

-- an edit touches a cell
some_touched : (opening : SheetValue) (log : List Entry) (prepared : PreparedValue) → IsPreparedFor opening log prepared → 0 < length prepared.touched
some_touched opening log prepared is =
    let d : ChangeValue = record { cell = record { row = 0; col = 0 }; content = Constant Empty } in
    let change = get_or prepared.entry.edit 0 d in
    some_in prepared.touched change.cell
    ((is.touched.exact change.cell).1 (changed_touched opening log prepared.entry change
    (Contains-get_or prepared.entry.edit 0 d (omega (arith, is.edit.some)))))

pub is_ready : (opening : SheetValue) (log : List Entry) (prepared : PreparedValue) (places : ℕ)
    (old new : Doing SheetValue Entry) → IsPreparedFor opening log prepared
    → old.view.log ≡ log → HasMarked opening.sizes prepared.entry prepared.touched old new → IsReady places (TouchesPlace opening) prepared.entry new
is_ready opening log prepared places old new is at has =
    record {
      pending = has.pending (some_touched opening log prepared is);
      all = λ place below touches.
          subst (λ l. Contains l place) (sym has.marked_are)
          (Contains-append_right old.edits.marked (map (place_of opening.sizes) prepared.touched) place
          ((touched_places opening log prepared.entry prepared.touched is.inside is.touched place).0.0
          (subst (λ l. TouchesPlace opening l prepared.entry place) (ap (λ (v : View (List Entry)). v.log) has.view ∙ at) touches)));
    }

module _ {S E : Type 0} {G : Ghosts S E} where
  pub has_entered : (sizes : Sizes) (entry : E) (number : ℕ) (cells : List Position) (places : ℕ) (touches : List E → E → ℕ → Type 0) (a b c : Seat S E G)
      → number ≡ length (log_of a) + 1
      → HasMarked sizes entry cells (doing_of a) (doing_of b) → IsReady places touches entry (doing_of b)
      → StepsAre (own_steps a) (marks_of sizes entry number cells) (own_steps b)
      → CommitsPending (doing_of b) (doing_of c)
      → ((e : E) → (doing_of b).edits.pending ≡ Some e → StepsAre (own_steps b) (committed e (length (log_of b) + 1) ∷ []) (own_steps c))
      → HasEntered sizes entry number cells a c
  has_entered sizes entry number cells places touches a b c counted has ready marks commits steps =
      let made = commits entry ready.pending in
      let log : log_of b ≡ log_of a = ap (λ (v : View (List E)). v.log) has.view in
      let now : log_of c ≡ log_of b ++ entry ∷ [] = ap (λ (d : Doing S E). d.view.log) made in
      record {
        editor = ap (λ (d : Doing S E). d.editor) made ∙ has.editor;
        log = now ∙ ap (λ l. l ++ entry ∷ []) log;
        seen = omega (arith, ap (λ (d : Doing S E). d.view.seen) made, ap length now, length-append (log_of b) (entry ∷ []));
        idle = ap (λ (d : Doing S E). d.edits.pending) made;
        holds = ap (λ (d : Doing S E). d.view.holds) made ∙ ap (λ (v : View (List E)). v.holds) has.view;
        steps = steps_on (own_steps a) (own_steps b) (own_steps c) (marks_of sizes entry number cells) (committed entry number ∷ []) marks
            (subst (λ n. StepsAre (own_steps b) (committed entry n ∷ []) (own_steps c)) (omega (arith, counted, ap length log)) (steps entry ready.pending));
      }
