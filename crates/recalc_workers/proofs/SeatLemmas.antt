-- What the steps of a seat come to.
use Rattle.std.proofs.Common.{◌≡◌, ◌≤◌, ℕ, List, [], ◌∷◌, ◌++◌, Some, length, refl, sym, ◌∙◌, ap, subst, arith}
use Rattle.mark_core.specs.declared.words.Half.{Half}
use Rattle.mark_core.specs.declared.words.Finished.{Finished}
use Rattle.mark_core.specs.declared.actors.View.{View}
use Rattle.mark_core.specs.declared.events.Event.{Event}
use Rattle.mark_core.specs.declared.subjects.Subject.{Ghosts}
use Rattle.mark_core.specs.Marks.{IsPrefix, IsLastMark}
use Rattle.mark_core.specs.Knows.{KnowsClean}
use Rattle.mark_core.specs.Views.{with_half, new_half, with_read, read_of, known_from}
use Rattle.mark_core.proofs.Prefixes.{prefix_itself, prefix_of_prefix}
use Rattle.mark_words.specs.declared.tables.Doing.{Doing}
use Rattle.mark_words.specs.declared.tables.OwnStep.{OwnStep}
use Rattle.mark_words.specs.declared.seats.Seat.{Seat}
use Rattle.mark_words.specs.Doing.{with_clean_read, with_value_read, with_mark_read}
use Rattle.mark_words.specs.Reads.{TellsOfRead, Ends, LearnsClean}
use Rattle.mark_words.specs.Steps.{OneMore}
use Rattle.mark_words.specs.Tokens.{seat_table, doing_of, own_steps, view_of, log_of}
use Rattle.mark_words.proofs.ReadSteps.{read_end_of, goes_on}
use Rattle.recalc_workers.specs.declared.reading.Reading.{Reading}
use Rattle.recalc_workers.specs.Seats.{Keeps, HasDoneNothing, HasRead, TellsOver}

-- a list to which something was added goes on from the list
pub prefix_of_more : {X : Type 0} (xs more ys : List X) → ys ≡ xs ++ more → IsPrefix xs ys
prefix_of_more xs more ys is = record { rest = more; whole = is }

pub prefix_of_same : {X : Type 0} (xs ys : List X) → ys ≡ xs → IsPrefix xs ys
prefix_of_same xs ys is = subst (λ (l : List _). IsPrefix xs l) (sym is) (prefix_itself xs)

module _ {S E : Type 0} {G : Ghosts S E} where
  pub keeps_itself : (a : Seat S E G) → Keeps a a
  keeps_itself a =
      record {
        table = refl;
        subject = refl;
        log = prefix_itself _;
        seen = omega arith;
        known = prefix_itself _;
        reads = prefix_itself _;
        sees = prefix_itself _;
        steps = prefix_itself _;
      }

  pub keeps_on : (a b c : Seat S E G) → Keeps a b → Keeps b c → Keeps a c
  keeps_on a b c p q =
      record {
        table = q.table ∙ p.table;
        subject = q.subject ∙ p.subject;
        log = prefix_of_prefix _ _ _ p.log q.log;
        seen = omega (arith, p.seen, q.seen);
        known = prefix_of_prefix _ _ _ p.known q.known;
        reads = prefix_of_prefix _ _ _ p.reads q.reads;
        sees = prefix_of_prefix _ _ _ p.sees q.sees;
        steps = prefix_of_prefix _ _ _ p.steps q.steps;
      }

  pub nothing_done : (a b c : Seat S E G) → HasDoneNothing a b → HasDoneNothing b c → HasDoneNothing a c
  nothing_done a b c p q = record { holds = q.holds ∙ p.holds; done = q.done ∙ p.done; lost = q.lost ∙ p.lost }

-- one step more goes on from the steps before
pub one_step_more : {E : Type 0} {event : ℕ → Event E} {word : ℕ} (before after : List (OwnStep E)) → OneMore before after event word → IsPrefix before after
one_step_more before after one = prefix_of_more before _ after one.is

-- the three loads of a read
module _ {S E : Type 0} {G : Ghosts S E} (s0 s1 s2 s3 : Seat S E G) (place : ℕ) (reading : Reading)
    (d1 : doing_of s1 ≡ with_clean_read (doing_of s0) place reading.clean)
    (d2 : doing_of s2 ≡ with_value_read (doing_of s1) place reading.word)
    (d3 : doing_of s3 ≡ with_mark_read (doing_of s2) place reading.mark) where
  abbrev half : Half
  half = record (new_half (view_of s0) place reading.clean) { word = Some reading.word }

  begun : (view_of s2).half ≡ Some half
  begun = goes_on (doing_of s1) (doing_of s2) place reading.word d2 (new_half (view_of s0) place reading.clean) (ap (λ (d : Doing S E). d.view.half) d1) refl

  ended : view_of s3 ≡ with_read (view_of s2) half reading.mark
  ended = ap (λ (d : Doing S E). d.view) d3 ∙ read_end_of (view_of s2) half place reading.mark begun refl

  -- a part of the view that no load changes
  stays : {X : Type 0} (part : View (List E) → X) → ((v : View (List E)) → part (with_read v half reading.mark) ≡ part v)
      → part (with_value_read (doing_of s1) place reading.word).view ≡ part (view_of s1) → part (with_half (view_of s0) place reading.clean) ≡ part (view_of s0)
      → part (view_of s3) ≡ part (view_of s0)
  stays part last second first =
      ap part ended ∙ last (view_of s2) ∙ ap (λ (d : Doing S E). part d.view) d2 ∙ second ∙ ap (λ (d : Doing S E). part d.view) d1 ∙ first

  same_log : log_of s3 ≡ log_of s0
  same_log = stays (λ v. v.log) (λ v. refl) refl refl

  abbrev read : Finished
  read = read_of (view_of s2).seen half reading.mark

  all_reads : (view_of s3).reads ≡ (view_of s0).reads ++ read ∷ []
  all_reads =
      ap (λ (v : View (List E)). v.reads) ended
      ∙ ap (λ reads. reads ++ read ∷ []) (ap (λ (d : Doing S E). d.view.reads) d2 ∙ ap (λ (d : Doing S E). d.view.reads) d1)

  all_known : (view_of s3).known ≡ (view_of s0).known ++ known_from half reading.mark
  all_known =
      ap (λ (v : View (List E)). v.known) ended
      ∙ ap (λ known. known ++ known_from half reading.mark) (ap (λ (d : Doing S E). d.view.known) d2 ∙ ap (λ (d : Doing S E). d.view.known) d1)

  module _ (table : seat_table s3 ≡ seat_table s0) {e1 e2 e3 : ℕ → Event E} {w1 w2 w3 : ℕ}
      (step1 : OneMore (own_steps s0) (own_steps s1) e1 w1) (step2 : OneMore (own_steps s1) (own_steps s2) e2 w2)
      (step3 : OneMore (own_steps s2) (own_steps s3) e3 w3) (ends : Ends (doing_of s2) place reading.mark (doing_of s3))
    where
      pub has_read : HasRead s0 place reading s3
      has_read =
          record {
            keeps = record {
              table = table;
              subject = ap (λ (d : Doing S E). d.subject) d3 ∙ ap (λ (d : Doing S E). d.subject) d2 ∙ ap (λ (d : Doing S E). d.subject) d1;
              log = prefix_of_same _ _ same_log;
              seen = omega (arith, stays (λ v. v.seen) (λ v. refl) refl refl);
              known = prefix_of_more _ _ _ all_known;
              reads = prefix_of_more _ _ _ all_reads;
              sees = prefix_of_same _ _ (stays (λ v. v.sees) (λ v. refl) refl refl);
              steps = prefix_of_prefix _ _ _ (one_step_more _ _ step1) (prefix_of_prefix _ _ _ (one_step_more _ _ step2) (one_step_more _ _ step3));
            };
            idle = record {
              holds = stays (λ v. v.holds) (λ v. refl) refl refl;
              done = stays (λ v. v.done) (λ v. refl) refl refl;
              lost = stays (λ v. v.lost) (λ v. refl) refl refl;
            };
            log = same_log;
            sees = stays (λ v. v.sees) (λ v. refl) refl refl;
            read = read;
            is = record { place_is = refl; clean = refl; word = refl; mark = refl };
            one = all_reads;
            number = subst (λ (l : List E). length l ≤ read.number) (ap (λ (d : Doing S E). d.view.log) d2
                ∙ ap (λ (d : Doing S E). d.view.log) d1) (ends half begun refl).past_log;
          }

  pub tells_over : (worth : List E → ℕ → ℕ) (touches : List E → E → ℕ → Type 0)
      → TellsOfRead worth touches (doing_of s2) place reading.mark
      → LearnsClean touches (doing_of s2) place reading.mark (doing_of s3)
      → TellsOver worth touches place reading s3
  tells_over worth touches tells learns =
      let told = tells half begun refl in
      let log : log_of s2 ≡ log_of s3 = sym (ap (λ (v : View (List E)). v.log) ended) in
      record {
        upto = told.upto;
        last = subst (λ (l : List E). reading.mark ≤ length l → IsLastMark touches l place reading.mark) log told.last;
        worth_is = λ is. subst (λ (l : List E). reading.mark ≤ length l → worth l place ≡ reading.word) log (told.known reading.word refl is);
        known =
            λ is. subst (λ (l : List E). reading.mark ≤ length l → KnowsClean touches l (view_of s3) place reading.mark)
            log (learns half begun refl reading.word refl is);
      }
