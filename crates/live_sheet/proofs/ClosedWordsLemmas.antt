-- Values of closed words.
use Rattle.std.proofs.Common.{◌≡◌, ◌<◌, ◌+◌, ◌⊎◌, inl, inr, ℕ, List, None, length, refl, sym, ◌∙◌, ap, subst, arith}
use Rattle.std.proofs.lemmas.List.Elements.{All-contains}
use Rattle.std.proofs.lemmas.Option.{none-some}
use Rattle.mark_core.specs.declared.subjects.Subject.{Ghosts}
use Rattle.mark_core.specs.declared.actors.Edits.{Edits}
use Rattle.mark_core.specs.Honest.{IsHonest, IsPendingMark, IsSettledMark, IsRightKnown, IsComputed}
use Rattle.mark_core.specs.Marks.{IsLastMark}
use Rattle.mark_core.specs.Places.{Words, words_of, place_at}
use Rattle.mark_core.specs.States.{State, view_at}
use Rattle.mark_core.proofs.Prefixes.{last_mark_unique}
use Rattle.mark_words.specs.Closed.{HasClosed}
use Rattle.mark_words.specs.Tokens.{subject_of, view_of, log_of, edits_of, closed_place, places_of}
use Rattle.mark_words.specs.declared.marks.Marks.{Marks}
use Rattle.mark_words.specs.declared.seats.Seat.{Seat}
use Rattle.mark_words.specs.declared.closing.Words.{Words as ClosedWords}
use Rattle.recalc_workers.specs.Settling.{KnowsPlace}

-- where nothing is pending, the mark of a place is its last one
mark_is_last : {E : Type 0} (touches : List E → E → ℕ → Type 0) (edits : Edits E) (place mark : ℕ)
    → edits.pending ≡ None → IsPendingMark touches edits place mark ⊎ IsSettledMark touches edits place mark
    → IsLastMark touches edits.log place mark
mark_is_last touches edits place mark none (inl pending) = absurd (none-some pending.entry (sym none ∙ pending.pending))
mark_is_last touches edits place mark none (inr settled) = settled.last

-- a place that was known with the mark that it has is as it was known
is_computed : (words : Words) (place known mark : ℕ) → known ≡ mark → words.mark place ≡ mark
    → (known < words.mark place) ⊎ IsComputed words place known → (words.clean place).upto ≡ mark + 1
is_computed words place known mark same is (inl later) = absurd (omega (arith, later, same, is))
is_computed words place known mark same is (inr computed) = computed.upto ∙ ap (λ n. n + 1) same

-- in an honest state with nothing pending a place that the editor's view knows as clean has its worth as its value
worth_of_known : {E : Type 0} (places : ℕ) (worth : List E → ℕ → ℕ) (touches : List E → E → ℕ → Type 0) (codeless : ℕ → Type 0) (core : State E) (place : ℕ)
    → IsHonest places worth touches codeless core → core.edits.pending ≡ None → KnowsPlace touches (view_at core 0) place → place < places
    → (place_at core.places place).value ≡ worth core.edits.log place
worth_of_known {E} places worth touches codeless core place honest none knows below =
    let pair : IsRightKnown (length core.edits.log) (words_of core.places) (record { place = place; mark = knows.0 }) =
    All-contains (IsRightKnown (length core.edits.log) (words_of core.places)) (view_at core 0).known
    (record { place = place; mark = knows.0 }) (honest.views 0).known knows.1.known in
    let same : knows.0 ≡ (place_at core.places place).mark =
    last_mark_unique touches core.edits.log place knows.0 (place_at core.places place).mark
    (subst (λ (l : List E). IsLastMark touches l place knows.0) honest.editor_log knows.1.last)
    (mark_is_last touches core.edits place (place_at core.places place).mark none (honest.marks place below)) in
    (honest.values place below).current (is_computed (words_of core.places) place knows.0 (place_at core.places place).mark same refl pair.since)

-- so it is with the words of a closed table of which the editor's seat knows the place
pub closed_worth : {S E : Type 0} {G : Ghosts S E} (places : S → ℕ) (worth : S → List E → ℕ → ℕ) (touches : S → List E
    → E → ℕ → Type 0) (marks : Marks S E) (editor : Seat S E G)
    (others : List (Seat S E G)) (words : ClosedWords S E G) (place : ℕ)
    → HasClosed places worth touches marks editor others words → (edits_of editor).pending ≡ None
    → KnowsPlace (touches (subject_of marks)) (view_of editor) place → places_of marks ≡ places (subject_of marks) → place < places_of marks
    → (closed_place words place).value ≡ worth (subject_of marks) (log_of editor) place
closed_worth places worth touches marks editor others words place has none knows sized below =
    ap (λ p. p.value) (has.same_places place (omega (arith, below, has.same_count)))
    ∙ worth_of_known (places (subject_of marks)) (worth (subject_of marks)) (touches (subject_of marks)) _ has.core
    place has.honest (ap (λ e. e.pending) has.edits ∙ none)
    (subst (λ v. KnowsPlace (touches (subject_of marks)) v place) (sym has.editor_view) knows) (omega (arith, below, sized))
    ∙ ap (λ l. worth (subject_of marks) l place) (has.log ∙ has.same_log)
