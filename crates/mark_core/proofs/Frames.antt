-- What no event of another view can take away: how the edits and the words may move, and that what a view
-- knows, has begun to read and has read stays right through such a move.
use Rattle.std.proofs.Common.{◌≡◌, ◌<◌, ◌≤◌, ◌+◌, ◌⊎◌, ℕ, List, length, take, sym, ◌∙◌, ap, subst, inl, inr, arith}
use Rattle.mark_core.specs.declared.words.Known.{Known}
use Rattle.mark_core.specs.declared.words.Half.{Half}
use Rattle.mark_core.specs.declared.words.Finished.{Finished}
use Rattle.mark_core.specs.declared.words.Clean.{Clean}
use Rattle.mark_core.specs.declared.answers.Seen.{Seen}
use Rattle.mark_core.specs.declared.answers.Seen.TheVariants.{Value, Stale, Newer}
use Rattle.mark_core.specs.Places.{Words}
use Rattle.mark_core.specs.Marks.{IsPrefix, IsLastMark}
use Rattle.mark_core.specs.declared.actors.Edits.{Edits}
use Rattle.mark_core.specs.declared.actors.View.{View}
use Rattle.mark_core.specs.States.{entries_of}
use Rattle.mark_core.specs.Legal.{MeetsFloor, IsLegalAnswer}
use Rattle.mark_core.specs.Honest.{IsRightLog, IsComputed, IsRightKnown, IsStillThere, IsRightHalf, IsRightRead}
use Rattle.mark_core.proofs.Prefixes.{prefix_length, prefix_of_prefix, take-prefix, touched_in_longer}

-- the words of the place stay
pub record Stays (before after : Words) (place : ℕ) : Type 0 where
  pub mark : after.mark place ≡ before.mark place
  pub clean : after.clean place ≡ before.clean place
  pub value : after.value place ≡ before.value place

-- the place is marked for an edit that comes after all entries of the log
pub record IsRaised (count : ℕ) (before after : Words) (place : ℕ) : Type 0 where
  pub below : before.mark place ≤ count + 1
  pub mark : after.mark place ≡ count + 1

-- the place was stale, and its mark stays
pub record IsReworked (before after : Words) (place : ℕ) : Type 0 where
  pub mark : after.mark place ≡ before.mark place
  pub stale : (before.clean place).upto ≤ before.mark place

-- how an event may move the words of a place
pub data Moves (count : ℕ) (before after : Words) (place : ℕ) : Type 0 where
  Same : Stays before after place → Moves count before after place
  Raised : IsRaised count before after place → Moves count before after place
  Reworked : IsReworked before after place → Moves count before after place

-- how an event may move edits and words, as other views see it
pub record Advances {E : Type 0} (edits edits' : Edits E) (words words' : Words) : Type 0 where
  pub log : IsPrefix edits.log edits'.log
  pub entries : IsPrefix (entries_of edits) (entries_of edits')
  pub place : (place : ℕ) → Moves (length edits.log) words words' place

mark_grows : (count : ℕ) (before after : Words) (place : ℕ) → Moves count before after place → before.mark place ≤ after.mark place
mark_grows count before after place (Same s) = omega (arith, s.mark)
mark_grows count before after place (Raised r) = omega (arith, r.mark, r.below)
mark_grows count before after place (Reworked r) = omega (arith, r.mark)

known_since : (count : ℕ) (before after : Words) (pair : Known) → Moves count before after pair.place → IsRightKnown count before pair
    → (pair.mark < after.mark pair.place) ⊎ IsComputed after pair.place pair.mark
known_since count before after pair (Same s) k =
    elim k.since [
      | inl h ↦ inl (omega (arith, s.mark))
      | inr c ↦ inr (record {
        marked = s.mark ∙ c.marked;
        upto = ap (λ (x : Clean). x.upto) s.clean ∙ c.upto;
        free = ap (λ (x : Clean). x.held) s.clean ∙ c.free;
      })
    ]
known_since count before after pair (Raised r) k = inl (omega (arith, r.mark, k.within))
known_since count before after pair (Reworked r) k =
    elim k.since [
      | inl h ↦ inl (omega (arith, r.mark))
      | inr c ↦ absurd (omega (arith, r.stale, c.marked, c.upto))
    ]

half_stale : (codeless : ℕ → Type 0) (count : ℕ) (before after : Words) (half : Half)
    → Moves count before after half.place → IsRightHalf codeless count before half
    → (half.clean.upto ≤ after.mark half.place) ⊎ IsStillThere after half
half_stale codeless count before after half (Same s) k =
    elim k.stale [
      | inl h ↦ inl (omega (arith, s.mark))
      | inr t ↦ inr (record { clean = s.clean ∙ t.clean; free = t.free; word = λ word is. s.value ∙ t.word word is })
    ]
half_stale codeless count before after half (Raised r) k = inl (omega (arith, r.mark, k.upto.upto_log))
half_stale codeless count before after half (Reworked r) k =
    elim k.stale [
      | inl h ↦ inl (omega (arith, r.mark))
      | inr t ↦ let same : (before.clean half.place).upto ≡ half.clean.upto = ap (λ (x : Clean). x.upto) t.clean in inl (omega (arith, r.mark, r.stale))
    ]

half_floor : (codeless : ℕ → Type 0) (count : ℕ) (before after : Words) (half : Half)
    → Moves count before after half.place → IsRightHalf codeless count before half
    → MeetsFloor (after.mark half.place) half.floor half.clean.upto
half_floor codeless count before after half (Same s) k =
    elim k.floor [ inl h ↦ inl (omega (arith, s.mark)) | inr e ↦ inr (ap (λ n. n + 1) s.mark ∙ e.0, e.1) ]
half_floor codeless count before after half (Raised r) k =
    elim k.floor [ inl h ↦ inl (omega (arith, r.mark, r.below)) | inr e ↦ inl (omega (arith, r.mark, k.upto.upto_log, e.1)) ]
half_floor codeless count before after half (Reworked r) k =
    elim k.floor [ inl h ↦ inl (omega (arith, r.mark)) | inr e ↦ inr (ap (λ n. n + 1) r.mark ∙ e.0, e.1) ]

module _ {E : Type 0} (worth : List E → ℕ → ℕ) (touches : List E → E → ℕ → Type 0) (codeless : ℕ → Type 0) where
  legal_longer : (edits edits' : Edits E) (number place : ℕ) (shown : Seen)
      → IsPrefix edits.log edits'.log → IsPrefix (entries_of edits) (entries_of edits') → number ≤ length edits.log
      → IsLegalAnswer worth touches codeless edits number place shown → IsLegalAnswer worth touches codeless edits' number place shown
  legal_longer edits edits' number place (Value word) p q le l =
      l ∙ sym (ap (λ xs. worth xs place) (take-prefix edits.log edits'.log number p le))
  legal_longer edits edits' number place (Stale mark) p q le l =
      let e : take number edits'.log ≡ take number edits.log = take-prefix edits.log edits'.log number p le in
      elim l [
        | inl s ↦ inl (s.0, subst (λ (xs : List E). IsLastMark touches xs place mark) (sym e) s.1, s.2)
        | inr t ↦ inr (t.0, touched_in_longer touches (entries_of edits) (entries_of edits') place mark q t.1)
      ]
  legal_longer edits edits' number place (Newer mark) p q le l = (l.0, touched_in_longer touches edits.log edits'.log place mark p l.1)

  module _ (edits edits' : Edits E) (words words' : Words) (advances : Advances edits edits' words words') where
    log_grows : length edits.log ≤ length edits'.log
    log_grows = prefix_length edits.log edits'.log advances.log

    pub log_stays : (view : View (List E)) → IsRightLog edits.log view → IsRightLog edits'.log view
    log_stays view l =
        record {
          known_prefix = prefix_of_prefix view.log edits.log edits'.log l.known_prefix advances.log;
          below_seen = l.below_seen;
          seen_below = omega (arith, l.seen_below, log_grows);
        }

    pub known_stays : (pair : Known) → IsRightKnown (length edits.log) words pair → IsRightKnown (length edits'.log) words' pair
    known_stays pair k =
        record {
          within = omega (arith, k.within, log_grows);
          since = known_since (length edits.log) words words' pair (advances.place pair.place) k;
        }

    pub half_stays : (half : Half) → IsRightHalf codeless (length edits.log) words half → IsRightHalf codeless (length edits'.log) words' half
    half_stays half k =
        record {
          upto =
              record {
                upto_mark = omega (
                  arith,
                  k.upto.upto_mark,
                  mark_grows (length edits.log) words words' half.place (advances.place half.place),
                );
                upto_log = omega (arith, k.upto.upto_log, log_grows);
                never = k.upto.never;
              };
          stale = half_stale codeless (length edits.log) words words' half (advances.place half.place) k;
          floor = half_floor codeless (length edits.log) words words' half (advances.place half.place) k;
        }

    pub read_stays : (read : Finished) → IsRightRead worth touches codeless edits words read → IsRightRead worth touches codeless edits' words' read
    read_stays read k =
        record {
          mark_below = omega (arith, k.mark_below, mark_grows (length edits.log) words words' read.place (advances.place read.place));
          floor = k.floor;
          legal = λ word is.
              let old = k.legal word is in
              let within : read.number ≤ length edits.log = old.within in
              let e : take read.number edits'.log ≡ take read.number edits.log = take-prefix edits.log edits'.log read.number advances.log within in
              record {
                within = omega (arith, log_grows);
                floor = old.floor;
                answer = λ shown shows. legal_longer edits edits' read.number read.place shown advances.log advances.entries within (old.answer shown shows);
                last = λ value shows.
                    subst (λ (xs : List E). IsLastMark touches xs read.place read.mark) (sym e) (old.last value shows);
              };
        }
