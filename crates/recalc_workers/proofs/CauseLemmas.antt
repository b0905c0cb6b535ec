-- Why each answer of a turn comes.
use Rattle.std.proofs.Common.{◌≡◌, ◌≢◌, ◌≤◌, ◌+◌, ℕ, [], ◌∷◌, ◌++◌, length, take, refl, sym, ◌∙◌, ap, subst, inl, inr, arith}
use Rattle.std.specs.Prelude.{Contains, IsTrue}
use Rattle.std.proofs.lemmas.Bool.{cases_lt}
use Rattle.std.proofs.lemmas.List.{take_all}
use Rattle.std.proofs.lemmas.List.Elements.{Contains-push, Contains-append_right}
use Rattle.sheet_refs.specs.Cells.{Position}
use Rattle.sheet_refs.specs.Sizes.{is_inside, place_of}
use Rattle.sheet_refs.specs.declared.sizes.Sizes.{Sizes}
use Rattle.mark_core.specs.declared.words.Clean.{Clean}
use Rattle.mark_core.specs.declared.subjects.Subject.{Ghosts}
use Rattle.mark_core.specs.Permissions.{MayClaim}
use Rattle.mark_core.proofs.Prefixes.{prefix_length, take-prefix}
use Rattle.mark_words.specs.declared.seats.Seat.{Seat}
use Rattle.mark_core.specs.declared.events.Event.TheVariants.{See}
use Rattle.mark_words.specs.declared.tables.Doing.{Doing}
use Rattle.mark_words.specs.Doing.{with_see}
use Rattle.mark_words.specs.Steps.{OneMore}
use Rattle.mark_words.specs.Tokens.{seat_table, doing_of, own_steps, view_of, log_of, seen_of}
use Rattle.sheet_model.specs.Logs.{after}
use Rattle.sheet_model.specs.Sheets.{SheetValue, ContentValue, content_of}
use Rattle.sheet_model.specs.Values.{IsInput, content_references}
use Rattle.formula_eval.specs.Meaning.{IsNamedBy}
use Rattle.recalc_workers.specs.declared.inputs.Unread.{Unread}
use Rattle.recalc_workers.specs.declared.inputs.Unread.TheVariants.{Outdated}
use Rattle.recalc_workers.specs.declared.inputs.Unread.TheVariants as unread
use Rattle.sheet_model.specs.declared.entry.Entry.{Entry}
use Rattle.recalc_workers.specs.declared.reading.Reading.{Reading}
use Rattle.recalc_workers.specs.declared.turns.Turn.{Turn}
use Rattle.recalc_workers.specs.declared.turns.Turn.TheVariants.{Done, Idle, Nothing, Later, Stale, Busy, Memory}
use Rattle.recalc_workers.specs.Inputs.{IsInputUnread, IsOutdated, StopsReading, WasUnread}
use Rattle.recalc_workers.specs.Seats.{Keeps, HasDoneNothing, HoldsNothing, HasRead}
use Rattle.recalc_workers.specs.Turns.{WasAdded, HasMetAt, IsDone, IsNothing, IsLater, IsOnCycle, IsBusy, HasCause}
use Rattle.recalc_workers.specs.Turns.{IsStillIdle, HasReadAs, IsAbout, IsAnswerAt, IsDue, ComesTo}
use Rattle.recalc_workers.specs.Work.{ClaimsPutsFinishes, HasFinished, HasLost}
use Rattle.recalc_workers.proofs.SeatLemmas.{keeps_on, nothing_done, one_step_more, prefix_of_more, prefix_of_same}
use Rattle.recalc_workers.proofs.ReadingLemmas.{added_since, added_still, outdated_later, read_later, read_still}

below : (a b : ℕ) → a ≤ b + 1 → a ≢ b + 1 → a ≤ b
below a b most differs = elim (cases_lt b a) [ inl gt ↦ absurd (differs (omega (arith, most, gt))) | inr le ↦ le ]

module _ {S E : Type 0} {G : Ghosts S E} where
  pub still_idle : (start old new : Seat S E G) → IsStillIdle start old → Keeps old new → HasDoneNothing old new → IsStillIdle start new
  still_idle start old new p keeps idle = record { keeps = keeps_on start old new p.keeps keeps; idle = nothing_done start old new p.idle idle }

  -- the read that is made now was made since the start
  pub read_as : (start old new : Seat S E G) (place : ℕ) (reading : Reading) → Keeps start old
      → HasRead old place reading new → HasReadAs start new place reading
  read_as start old new place reading keeps r =
      record {
        of =
            read_later start old new place keeps (record {
              read = r.read;
              added = record { added = r.read ∷ []; all = r.one; among = Contains-push [] r.read };
              place_is = r.is.place_is;
            });
        clean = r.is.clean;
        mark = r.is.mark;
      }

  pub still_read_as : (start old new : Seat S E G) (place : ℕ) (reading : Reading) → HasReadAs start old place reading
      → Keeps old new → HasReadAs start new place reading
  still_read_as start old new place reading rd keeps = record { of = read_still start old new place rd.of keeps; clean = rd.clean; mark = rd.mark }

  pub met_still : (start old new : Seat S E G) (met : ℕ) → HasMetAt start old met → Keeps old new → HasMetAt start new met
  met_still start old new met h keeps =
      record {
        count = h.count;
        added = added_still (view_of start).sees (view_of old).sees (view_of new).sees h.count h.added keeps.sees;
        most = h.most;
        known = omega (arith, h.known, prefix_length (log_of old) (log_of new) keeps.log);
      }

  -- a place that was read as due may be claimed
  pub may_claim : (start now : Seat S E G) (place met : ℕ) (reading : Reading) → HasReadAs start now place reading
      → reading.clean.upto ≤ reading.mark + 1 → IsDue reading met → MayClaim (view_of now) place reading.clean
  may_claim start now place met reading rd upto due =
      record {
        free = due.free;
        read = rd.of.read;
        among =
            subst (λ reads. Contains reads rd.of.read) (sym rd.of.added.all)
            (Contains-append_right (view_of start).reads rd.of.added.added rd.of.read rd.of.added.among);
        ground = record {
          same_place = rd.of.place_is;
          same_clean = rd.clean;
          stale = below reading.clean.upto (rd.of.read.mark) (omega (arith, upto, rd.mark))
              (λ e. due.stale (e ∙ ap (λ n. n + 1) rd.mark));
        };
      }

-- an answer to a read of the cell is about it
answer_about : (cell : Position) (reading : Reading) (met : ℕ) (turn : Turn) → IsAnswerAt cell reading met turn → IsAbout cell turn
answer_about cell reading met (Done other) a = absurd a
answer_about cell reading met Idle a = absurd a
answer_about cell reading met (Nothing other) a = a.0
answer_about cell reading met (Later other mark bound) a = a.0
answer_about cell reading met (Stale other input bound) a = absurd a
answer_about cell reading met (Busy other seen found) a = a.0
answer_about cell reading met (Memory other) a = absurd a

module _ {S : Type 0} {G : Ghosts S Entry} (opening : SheetValue) (cell : Position) where
  pub done_comes : (old new : Seat S Entry G) (place : ℕ) (reading : Reading) (word : ℕ)
      → place ≡ place_of opening.sizes cell → HoldsNothing old → reading.clean.upto ≢ reading.mark + 1
      → HasFinished old place reading.clean word reading.mark new → ComesTo opening old cell (λ start. HasReadAs start old place reading) new (Done cell)
  done_comes old new place reading word is free stale f =
      record {
        keeps = f.keeps;
        free = f.holds;
        about = refl;
        cause = λ start idle rd.
            subst (λ p. IsDone start new p) is
            (record {
              of = read_still start old new place rd.of f.keeps;
              stale = λ e. stale (ap (λ (k : Clean). k.upto) (sym rd.clean) ∙ e ∙ ap (λ n. n + 1) rd.mark);
              word = word;
              before = own_steps old;
              earlier = idle.keeps.steps;
              steps =
                  subst (λ m. ClaimsPutsFinishes (own_steps old) (own_steps new) place rd.of.read.clean word m) (sym rd.mark)
                  (subst (λ k. ClaimsPutsFinishes (own_steps old) (own_steps new) place k word reading.mark) (sym rd.clean) f.steps);
              holds = f.holds ∙ sym free ∙ idle.idle.holds;
              done = f.done ∙ ap (λ l. l ++ record { place = place; mark = reading.mark } ∷ []) idle.idle.done
                  ∙ ap (λ m. (view_of start).done ++ record { place = place; mark = m } ∷ []) (sym rd.mark);
              lost = f.lost ∙ idle.idle.lost;
            });
      }

  pub lost_comes : (old new : Seat S Entry G) (place : ℕ) (reading : Reading) (found : Clean) → place ≡ place_of opening.sizes cell → HoldsNothing old
      → HasLost old place reading.clean found new → ComesTo opening old cell (λ start. HasReadAs start old place reading) new (Busy cell reading.clean found)
  lost_comes old new place reading found is free f =
      record {
        keeps = f.keeps;
        free = f.holds;
        about = refl;
        cause = λ start idle rd.
            subst (λ p. IsBusy start new p reading.clean found) is
            (record {
              of = read_still start old new place rd.of f.keeps;
              clean = rd.clean;
              why = inr (record {
                another = f.another;
                holds = f.holds ∙ sym free ∙ idle.idle.holds;
                done = f.done ∙ idle.idle.done;
                lost = f.lost ∙ ap (λ l. l ++ record { place = place; found = found } ∷ []) idle.idle.lost;
              });
            });
      }

  -- want of memory
  pub memory_comes : (old new : Seat S Entry G) (Given : Seat S Entry G → Type 0) → HoldsNothing old → Keeps old new
      → HasDoneNothing old new → ComesTo opening old cell Given new (Memory cell)
  memory_comes old new Given free keeps idle =
      record {
        keeps = keeps;
        free = idle.holds ∙ free;
        about = refl;
        cause = λ start still given. nothing_done start old new still.idle idle;
      }

  -- the rest of a turn from a later moment on
  pub comes_before : (old mid new : Seat S Entry G) (Given Then : Seat S Entry G → Type 0) (turn : Turn) → Keeps old mid → HasDoneNothing old mid
      → ((start : Seat S Entry G) → IsStillIdle start old → Given start → Then start)
      → ComesTo opening mid cell Then new turn → ComesTo opening old cell Given new turn
  comes_before old mid new Given Then turn keeps idle given comes =
      record {
        keeps = keeps_on old mid new keeps comes.keeps;
        free = comes.free;
        about = comes.about;
        cause = λ start still has. comes.cause start (still_idle start old mid still keeps idle) (given start still has);
      }

  answer_cause : (start new : Seat S Entry G) (reading : Reading) (met : ℕ) (turn : Turn)
      → IsAnswerAt cell reading met turn → HasReadAs start new (place_of opening.sizes cell) reading
      → HasMetAt start new met → HasDoneNothing start new → HasCause opening start new turn
  answer_cause start new reading met (Done other) a rd bound idle = absurd a
  answer_cause start new reading met Idle a rd bound idle = absurd a
  answer_cause start new reading met (Nothing other) a rd bound idle =
      subst (λ c. IsNothing start new (place_of opening.sizes c)) (sym a.0)
      (record { of = rd.of; clean = ap (λ (k : Clean). k.upto) rd.clean ∙ a.1 ∙ ap (λ n. n + 1) (sym rd.mark); idle = idle })
  answer_cause start new reading met (Later other mark bound_is) a rd bound idle =
      subst (λ c. IsLater start new (place_of opening.sizes c) mark bound_is) (sym a.0)
      (subst (λ n. IsLater start new (place_of opening.sizes cell) mark n) (sym a.2)
      (record { of = rd.of; mark_is = rd.mark ∙ sym a.1; past = omega (arith, a.1, a.3); bound = bound; idle = idle }))
  answer_cause start new reading met (Stale other input bound_is) a rd bound idle = absurd a
  answer_cause start new reading met (Busy other seen found) a rd bound idle =
      subst (λ c. IsBusy start new (place_of opening.sizes c) seen found) (sym a.0)
      (record {
        of = rd.of;
        clean = rd.clean ∙ sym a.1;
        why = inl (record { held = ap (λ (k : Clean). k.held) a.1 ∙ a.3; same = a.2 ∙ sym a.1; idle = idle });
      })
  answer_cause start new reading met (Memory other) a rd bound idle = absurd a

  pub answer_comes : (old new : Seat S Entry G) (place : ℕ) (reading : Reading) (met : ℕ) (turn : Turn)
      → place ≡ place_of opening.sizes cell → HoldsNothing old → HasRead old place reading new
      → IsAnswerAt cell reading met turn → ComesTo opening old cell (λ start. HasMetAt start old met) new turn
  answer_comes old new place reading met turn is free r a =
      record {
        keeps = r.keeps;
        free = r.idle.holds ∙ free;
        about = answer_about cell reading met turn a;
        cause = λ start still bound.
            answer_cause start new reading met turn a (subst (λ p. HasReadAs start new p reading) is (read_as start old new place reading still.keeps r))
            (met_still start old new met bound r.keeps) (nothing_done start old new still.idle r.idle);
      }

  -- an input that is out of date, of a cell that isn't on a cycle
  pub stale_comes : (old new : Seat S Entry G) (input : Position) (met : ℕ) → HoldsNothing old
      → met ≡ length (log_of old) → IsInput (after opening (log_of old)) cell input → Keeps old new
      → HasDoneNothing old new
      → ¬ IsOnCycle (after opening (log_of new)) cell
      → ComesTo opening old cell (λ start. HasMetAt start old met × IsOutdated start old (place_of opening.sizes input) met) new (Stale cell input met)
  stale_comes old new input met free met_is named keeps idle on_none =
      let first : take met (log_of new) ≡ log_of old = take-prefix (log_of old) (log_of new) met keeps.log
      (omega (arith, met_is)) ∙ take_all met (log_of old) (omega (arith, met_is)) in
      record {
        keeps = keeps;
        free = idle.holds ∙ free;
        about = refl;
        cause = λ start still given.
            record {
              input_is = subst (λ l. IsInput (after opening l) cell input) (sym first) named;
              of = read_still start old new (place_of opening.sizes input) given.1.of keeps;
              outdated = given.1.why;
              bound = met_still start old new met given.0 keeps;
              on_no_cycle = on_none;
              idle = nothing_done start old new still.idle idle;
            };
      }

-- what ended the reading of a cell's inputs is an input of the cell,
pub unread_input : {S E : Type 0} {G : Ghosts S E} (sheet : SheetValue) (sizes : Sizes) (content : ContentValue)
    (cell : Position) (old new : Seat S E G) (met : ℕ) (unread : Unread) → sheet.sizes ≡ sizes
    → content ≡ content_of sheet cell
    → StopsReading sizes (λ input. IsNamedBy (content_references content) input) old new met unread → IsInputUnread sheet cell unread
unread_input sheet sizes content cell old new met (Outdated input) same_sizes is s =
    record {
      named = subst (λ k. IsNamedBy (content_references k) input) is s.0;
      inside = subst (λ z. IsTrue (is_inside z input)) (sym same_sizes) s.1;
    }
unread_input sheet sizes content cell old new met unread.Memory same_sizes is s = s

-- and was read since the start of the turn
pub unread_since : {S E : Type 0} {G : Ghosts S E} (sizes : Sizes) (Named : Position
    → Type 0) (start old new : Seat S E G) (met : ℕ) (unread : Unread) → Keeps start old
    → StopsReading sizes Named old new met unread → WasUnread sizes start new met unread
unread_since sizes Named start old new met (Outdated input) keeps s = outdated_later start old new (place_of sizes input) met keeps s.2
unread_since sizes Named start old new met unread.Memory keeps s = s

-- a load of the count, after which the seat knows a log that is no shorter
module _ {S E : Type 0} {G : Ghosts S E} (s0 s1 : Seat S E G) (count : ℕ) (saw : doing_of s1 ≡ with_see (doing_of s0) count) where
  pub see_keeps : seat_table s1 ≡ seat_table s0 → OneMore (own_steps s0) (own_steps s1) See count → seen_of s0 ≤ count → Keeps s0 s1
  see_keeps table step more =
      record {
        table = table;
        subject = ap (λ (d : Doing S E). d.subject) saw;
        log = prefix_of_same _ _ (ap (λ (d : Doing S E). d.view.log) saw);
        seen = omega (arith, more, ap (λ (d : Doing S E). d.view.seen) saw);
        known = prefix_of_same _ _ (ap (λ (d : Doing S E). d.view.known) saw);
        reads = prefix_of_same _ _ (ap (λ (d : Doing S E). d.view.reads) saw);
        sees = prefix_of_more _ _ _ (ap (λ (d : Doing S E). d.view.sees) saw);
        steps = one_step_more _ _ step;
      }

  pub see_idle : HasDoneNothing s0 s1
  see_idle = record {
    holds = ap (λ (d : Doing S E). d.view.holds) saw;
    done = ap (λ (d : Doing S E). d.view.done) saw;
    lost = ap (λ (d : Doing S E). d.view.lost) saw;
  }

  pub met_by : (start s2 : Seat S E G) (met : ℕ) → Keeps start s0 → Keeps s1 s2 → seen_of s1 ≤ met → met ≡ length (log_of s2) → HasMetAt start s2 met
  met_by start s2 met before later most is =
      let one : WasAdded (view_of s0).sees (view_of s1).sees count =
      record { added = count ∷ []; all = ap (λ (d : Doing S E). d.view.sees) saw; among = Contains-push [] count }
      in
      record {
        count = count;
        added =
            added_still (view_of start).sees (view_of s1).sees (view_of s2).sees count
            (added_since (view_of start).sees (view_of s0).sees (view_of s1).sees count before.sees one) later.sees;
        most = omega (arith, most, ap (λ (d : Doing S E). d.view.seen) saw);
        known = omega (arith, is);
      }
