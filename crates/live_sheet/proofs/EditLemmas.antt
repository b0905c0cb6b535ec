-- What marks, meets and a commit come to.
use Rattle.std.proofs.Common.{◌≡◌, ◌≤◌, ℕ, List, [], ◌∷◌, ◌++◌, true, length, map, refl, sym, ◌∙◌, ap, subst, inl, inr, arith, append_assoc, length-append}
use Rattle.std.specs.Prelude.{◌⊎◌}
use Rattle.std.proofs.lemmas.List.{append-nil, map-append}
use Rattle.sheet_refs.specs.Cells.{Position}
use Rattle.sheet_refs.specs.Sizes.{place_of}
use Rattle.sheet_refs.specs.declared.sizes.Sizes.{Sizes}
use Rattle.mark_core.specs.declared.events.Event.{Event}
use Rattle.mark_core.specs.declared.events.Event.TheVariants.{See}
use Rattle.mark_core.specs.declared.subjects.Subject.{Ghosts}
use Rattle.mark_core.specs.Marks.{IsPrefix}
use Rattle.mark_core.proofs.Prefixes.{prefix_length}
use Rattle.mark_words.specs.declared.tables.Doing.{Doing}
use Rattle.mark_words.specs.declared.tables.OwnStep.{OwnStep}
use Rattle.mark_words.specs.declared.seats.Seat.{Seat}
use Rattle.mark_words.specs.Doing.{with_mark}
use Rattle.mark_words.specs.Editing.{IsIdleFor}
use Rattle.mark_words.specs.Meets.{HasMet}
use Rattle.mark_words.specs.Steps.{OneMore}
use Rattle.mark_words.specs.Tokens.{doing_of, log_of, seen_of, own_steps, is_editor}
use Rattle.live_sheet.specs.Edits.{HasMarked, HasHeard, HasLearned, marks_of}
use Rattle.live_sheet.specs.Steps.{Act, StepsAre, marked}
use Rattle.live_sheet.proofs.LookLemmas.{steps_on}

module _ {S E : Type 0} (sizes : Sizes) (entry : E) where
  pub none_marked : (old : Doing S E) → IsIdleFor old entry → HasMarked sizes entry [] old old
  none_marked old idle =
      record {
        subject = refl;
        editor = refl;
        view = refl;
        log = refl;
        idle = idle;
        pending = λ some. absurd (omega arith);
        marked_are = sym (append-nil old.edits.marked);
      }

  pub one_marked : (number : ℕ) (cells more : List Position) (cell : Position) (old now new : Doing S E) → more ≡ cells ++ cell ∷ []
      → HasMarked sizes entry cells old now → new ≡ with_mark now entry (place_of sizes cell) number → HasMarked sizes entry more old new
  one_marked number cells more cell old now new is has made =
      record {
        subject = ap (λ (d : Doing S E). d.subject) made ∙ has.subject;
        editor = ap (λ (d : Doing S E). d.editor) made ∙ has.editor;
        view = ap (λ (d : Doing S E). d.view) made ∙ has.view;
        log = ap (λ (d : Doing S E). d.edits.log) made ∙ has.log;
        idle = inr (ap (λ (d : Doing S E). d.edits.pending) made);
        pending = λ some. ap (λ (d : Doing S E). d.edits.pending) made;
        marked_are =
            ap (λ (d : Doing S E). d.edits.marked) made ∙ ap (λ l. l ++ place_of sizes cell ∷ []) has.marked_are
            ∙ append_assoc old.edits.marked (map (place_of sizes) cells) (place_of sizes cell ∷ [])
            ∙ ap (λ l. old.edits.marked ++ l) (sym (ap (map (place_of sizes)) is ∙ map-append (place_of sizes) cells (cell ∷ [])));
      }

pub one_mark_more : {E : Type 0} (sizes : Sizes) (entry : E) (number : ℕ) (cells more : List Position) (cell : Position)
    (a b c : List (OwnStep E)) → more ≡ cells ++ cell ∷ []
    → StepsAre a (marks_of sizes entry number cells) b → StepsAre b (marked entry number (place_of sizes cell) ∷ []) c
    → StepsAre a (marks_of sizes entry number more) c
one_mark_more {E} sizes entry number cells more cell a b c is first second =
    subst (λ (acts : List (Act E)). StepsAre a acts c) (sym (ap (marks_of sizes entry number) is
    ∙ map-append (λ (p : Position). marked entry number (place_of sizes p)) cells (cell ∷ [])))
    (steps_on a b c (marks_of sizes entry number cells) (marked entry number (place_of sizes cell) ∷ []) first second)

-- two lists each of which goes on from the other are one
no_more : {X : Type 0} (rest : List X) → length rest ≡ 0 → rest ≡ []
no_more [] none = refl
no_more (x ∷ rest) none = absurd (omega arith)

pub prefix_of_each_other : {X : Type 0} (xs ys : List X) → IsPrefix xs ys → IsPrefix ys xs → xs ≡ ys
prefix_of_each_other xs ys p q =
    let short : length p.rest ≡ 0 = omega (arith, ap length p.whole, length-append xs p.rest, prefix_length ys xs q) in
    sym (p.whole ∙ ap (λ l. xs ++ l) (no_more p.rest short) ∙ append-nil xs)

prefix_of_more : {X : Type 0} (xs more ys : List X) → ys ≡ xs ++ more → IsPrefix xs ys
prefix_of_more xs more ys is = record { rest = more; whole = is }

-- one step
pub one_step : {E : Type 0} {event : ℕ → Event E} (word : ℕ) (a b : List (OwnStep E)) → OneMore a b event word → StepsAre a ((event, word) ∷ []) b
one_step word a b one = (b, one, refl)

-- of two lists, where each is told to be one or the other, and both go on from both
longer_is : {E : Type 0} (own other after : List E) → IsPrefix own other → IsPrefix other after → ((after ≡ own) ⊎ (after ≡ other)) → after ≡ other
longer_is own other after behind other_log (inl is) =
    is ∙ prefix_of_each_other own other behind (subst (λ l. IsPrefix other l) is other_log)
longer_is own other after behind other_log (inr is) = is

module _ {S E : Type 0} {G : Ghosts S E} where
  pub has_learned : (old editor new : Seat S E G) → IsPrefix (log_of old) (log_of editor) → HasMet (doing_of old) (doing_of editor) (doing_of new)
      → OneMore (own_steps old) (own_steps new) See (seen_of new) → HasLearned old editor new
  has_learned old editor new behind met one =
      record {
        log = longer_is (log_of old) (log_of editor) (log_of new) behind met.other_log met.one_log;
        seen = met.own_seen;
        known_seen = met.known_seen;
        sees = met.sees;
        known = prefix_of_more _ _ _ met.known;
        half = met.half;
        reads = met.reads;
        holds = met.holds;
        done = met.done;
        lost = met.lost;
        steps = one_step (seen_of new) (own_steps old) (own_steps new) one;
      }

  pub has_heard : (old other new : Seat S E G) → is_editor old ≡ true → HasMet (doing_of old) (doing_of other) (doing_of new)
      → OneMore (own_steps old) (own_steps new) See (seen_of new) → HasHeard old other new
  has_heard old other new on met one =
      let log = met.log_stays on in
      let seen = met.seen_stays on in
      record {
        editor = met.editor;
        log = log;
        seen = seen;
        edits = met.edits;
        holds = met.holds;
        other_log = subst (λ l. IsPrefix (log_of other) l) log met.other_log;
        other_seen = subst (λ n. seen_of other ≤ n) seen met.other_seen;
        steps = subst (λ n. StepsAre (own_steps old) ((See, n) ∷ []) (own_steps new)) seen (one_step (seen_of new) (own_steps old) (own_steps new) one);
      }
