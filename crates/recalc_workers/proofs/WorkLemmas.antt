-- A claim, a put and a finish, as seats know them.
use Rattle.std.proofs.Common.{◌≡◌, ◌+◌, ◌*◌, ◌==◌, ℕ, List, [], ◌∷◌, ◌++◌, Some, None, Bool, length, refl, sym, ◌∙◌, ap, subst, arith}
use Rattle.std.specs.Prelude.{Contains, map, filter, not, if◌then◌else◌}
use Rattle.std.proofs.lemmas.Bool.{eq-eqb}
use Rattle.std.proofs.lemmas.List.{take_all}
use Rattle.std.proofs.lemmas.List.Elements.{Contains-push}
use Rattle.mark_core.specs.declared.words.Clean.{Clean}
use Rattle.mark_core.specs.declared.words.Held.{Held}
use Rattle.mark_core.specs.declared.events.Event.TheVariants.{Claim, Put, Finish}
use Rattle.mark_core.specs.declared.actors.View.{View}
use Rattle.mark_core.specs.declared.subjects.Subject.{Ghosts}
use Rattle.mark_core.specs.Marks.{IsLastMark}
use Rattle.mark_core.specs.Permissions.{IsWorthKnown, MayPut, MayFinish}
use Rattle.mark_core.specs.Views.{hold_with}
use Rattle.mark_core.proofs.Prefixes.{prefix_of_prefix}
use Rattle.mark_words.specs.declared.tables.Doing.{Doing}
use Rattle.mark_words.specs.declared.seats.Seat.{Seat}
use Rattle.mark_words.specs.Doing.{with_claim, with_word_put, with_finish}
use Rattle.mark_words.specs.Steps.{OneMore}
use Rattle.mark_words.specs.Tokens.{seat_table, doing_of, own_steps, view_of, log_of}
use Rattle.mark_words.specs.Words.{word_of_clean}
use Rattle.recalc_workers.specs.Seats.{HoldsNothing}
use Rattle.recalc_workers.specs.Work.{HasFinished}
use Rattle.recalc_workers.proofs.SeatLemmas.{prefix_of_more, prefix_of_same, one_step_more}

abbrev claimed_hold : ℕ → Held
claimed_hold place = record { place = place; word = None }

abbrev filled_hold : ℕ → ℕ → Held
filled_hold place word = record { place = place; word = Some word }

-- a put fills the hold of its place
fills : (place word : ℕ) → hold_with place word (claimed_hold place) ≡ filled_hold place word
fills place word = ap (λ (b : Bool). if b then filled_hold place word else claimed_hold place) (eq-eqb place place refl)

-- a finish takes the hold of its place away
frees : (place word : ℕ) → filter (λ (hold : Held). not (hold.place == place)) (filled_hold place word ∷ []) ≡ []
frees place word = ap (λ (b : Bool). if not b then (filled_hold place word ∷ []) else []) (eq-eqb place place refl)

abbrev all_known : {E : Type 0} (worth : List E → ℕ → ℕ) (log : List E) (place word : ℕ) → worth log place ≡ word → IsWorthKnown worth log place word
all_known worth log place word is =
    record {
      count = length log;
      within = omega arith;
      worth_is = ap (λ l. worth l place) (take_all (length log) log (omega arith)) ∙ is;
    }

module _ {S E : Type 0} {G : Ghosts S E} (s0 s1 : Seat S E G) (place : ℕ) (free : HoldsNothing s0) (d1 : doing_of s1 ≡ with_claim (doing_of s0) place) where
  claimed : (view_of s1).holds ≡ claimed_hold place ∷ []
  claimed = ap (λ (d : Doing S E). d.view.holds) d1 ∙ ap (λ holds. holds ++ claimed_hold place ∷ []) free

  pub may_put : (worth : List E → ℕ → ℕ) (word : ℕ) → worth (log_of s0) place ≡ word → MayPut worth (view_of s1) place word
  may_put worth word is =
      record {
        hold = claimed_hold place;
        among = subst (λ holds. Contains holds (claimed_hold place)) (sym claimed) (Contains-push [] (claimed_hold place));
        same_place = refl;
        known = all_known worth (log_of s1) place word (ap (λ (d : Doing S E). worth d.view.log place) d1 ∙ is);
      }

  module _ (s2 : Seat S E G) (word : ℕ) (d2 : doing_of s2 ≡ with_word_put (doing_of s1) place word) where
    filled : (view_of s2).holds ≡ filled_hold place word ∷ []
    filled = ap (λ (d : Doing S E). d.view.holds) d2 ∙ ap (map (hold_with place word)) claimed ∙ ap (λ hold. hold ∷ []) (fills place word)

    same_log : log_of s2 ≡ log_of s0
    same_log = ap (λ (d : Doing S E). d.view.log) d2 ∙ ap (λ (d : Doing S E). d.view.log) d1

    pub may_finish : (worth : List E → ℕ → ℕ) (touches : List E → E → ℕ → Type 0) (mark : ℕ)
        → worth (log_of s0) place ≡ word → IsLastMark touches (log_of s0) place mark
        → MayFinish worth touches (view_of s2) place mark
    may_finish worth touches mark is last =
        record {
          hold = filled_hold place word;
          among = subst (λ holds. Contains holds (filled_hold place word)) (sym filled) (Contains-push [] (filled_hold place word));
          marked = record {
            same_place = refl;
            word = word;
            put = refl;
            computed = record {
              known = all_known worth (log_of s2) place word (ap (λ l. worth l place) same_log ∙ is);
              last = subst (λ l. IsLastMark touches l place mark) (sym (take_all (length (log_of s2)) (log_of s2) (omega arith) ∙ same_log)) last;
            };
          };
        }

    module _ (s3 : Seat S E G) (mark : ℕ) (d3 : doing_of s3 ≡ with_finish (doing_of s2) place mark) where
      stays : {X : Type 0} (part : View (List E) → X) → part (with_finish (doing_of s2) place mark).view ≡ part (view_of s2)
          → part (with_word_put (doing_of s1) place word).view ≡ part (view_of s1) → part (with_claim (doing_of s0) place).view ≡ part (view_of s0)
          → part (view_of s3) ≡ part (view_of s0)
      stays part third second first =
          ap (λ (d : Doing S E). part d.view) d3 ∙ third ∙ ap (λ (d : Doing S E). part d.view) d2 ∙ second ∙ ap (λ (d : Doing S E). part d.view) d1 ∙ first

      pub has_finished : (clean : Clean) → seat_table s3 ≡ seat_table s0
          → OneMore (own_steps s0) (own_steps s1) (λ view. Claim view place clean) (word_of_clean clean)
          → OneMore (own_steps s1) (own_steps s2) (λ view. Put view place word) word
          → OneMore (own_steps s2) (own_steps s3) (λ view. Finish view place mark) (2 * (mark + 1))
          → HasFinished s0 place clean word mark s3
      has_finished clean table claim put finish =
          record {
            keeps = record {
              table = table;
              subject = ap (λ (d : Doing S E). d.subject) d3 ∙ ap (λ (d : Doing S E). d.subject) d2 ∙ ap (λ (d : Doing S E). d.subject) d1;
              log = prefix_of_same _ _ (stays (λ v. v.log) refl refl refl);
              seen = omega (arith, stays (λ v. v.seen) refl refl refl);
              known = prefix_of_more _ _ _ (ap (λ (d : Doing S E). d.view.known) d3
                  ∙ ap (λ known. known ++ record { place = place; mark = mark }
                  ∷ []) (ap (λ (d : Doing S E). d.view.known) d2 ∙ ap (λ (d : Doing S E). d.view.known) d1));
              reads = prefix_of_same _ _ (stays (λ v. v.reads) refl refl refl);
              sees = prefix_of_same _ _ (stays (λ v. v.sees) refl refl refl);
              steps = prefix_of_prefix _ _ _ (one_step_more _ _ claim) (prefix_of_prefix _ _ _ (one_step_more _ _ put) (one_step_more _ _ finish));
            };
            log = stays (λ v. v.log) refl refl refl;
            holds = ap (λ (d : Doing S E). d.view.holds) d3 ∙ ap (filter (λ (hold : Held). not (hold.place == place))) filled ∙ frees place word;
            reads = stays (λ v. v.reads) refl refl refl;
            sees = stays (λ v. v.sees) refl refl refl;
            done = ap (λ (d : Doing S E). d.view.done) d3 ∙ ap (λ done. done ++ record { place = place; mark = mark }
                ∷ []) (ap (λ (d : Doing S E). d.view.done) d2 ∙ ap (λ (d : Doing S E). d.view.done) d1);
            lost = stays (λ v. v.lost) refl refl refl;
            steps = record { claimed = own_steps s1; claim = claim; filled = own_steps s2; put = put; finish = finish };
          }
