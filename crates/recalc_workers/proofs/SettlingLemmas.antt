-- What seats know after they met, and what they still know later.
use Rattle.std.proofs.Common.{◌≡◌, ◌≤◌, ℕ, Result, Ok, Err, true, List, [], ◌∷◌, ◌++◌, length, refl, sym, ◌∙◌, ap, subst, ⊎_elim, arith}
use Rattle.std.specs.Prelude.{Contains, OnOk, IfErr}
use Rattle.std.proofs.lemmas.List.{append-nil, length-append}
use Rattle.std.proofs.lemmas.List.Elements.{Contains-append_left, Contains-append_right}
use Rattle.mark_core.specs.declared.actors.View.{View}
use Rattle.mark_core.specs.declared.words.Known.{Known}
use Rattle.mark_core.specs.Marks.{IsPrefix, IsLastMark}
use Rattle.mark_core.specs.declared.words.Clean.{Clean}
use Rattle.mark_core.specs.declared.subjects.Subject.{Ghosts}
use Rattle.mark_core.proofs.Prefixes.{prefix_itself, prefix_of_prefix, prefix_length}
use Rattle.mark_words.specs.declared.tables.Doing.{Doing}
use Rattle.mark_words.specs.Meets.{HasMet}
use Rattle.mark_words.specs.declared.seats.Seat.{Seat}
use Rattle.recalc_workers.specs.declared.reading.Reading.{Reading}
use Rattle.recalc_workers.specs.Seats.{HasOnlyRead, HasRead, HoldsNothing}
use Rattle.recalc_workers.specs.Settling.{HasWorked, KnowsNoLess, KnowsPlace}
use Rattle.recalc_workers.specs.Work.{HasFinished, HasLost}
use Rattle.recalc_workers.proofs.SeatLemmas.{keeps_itself, keeps_on, prefix_of_more, prefix_of_same}

-- two lists, each a prefix of the other, are one
whole : {X : Type 0} (xs ys rest : List X) → ys ≡ xs ++ rest → length ys ≤ length xs → ys ≡ xs
whole xs ys [] is short = is ∙ append-nil xs
whole xs ys (x ∷ rest) is short = absurd (let e = ap length is ∙ length-append xs (x ∷ rest) in omega arith)

one_list : {X : Type 0} (xs ys : List X) → IsPrefix xs ys → IsPrefix ys xs → ys ≡ xs
one_list xs ys p q = whole xs ys p.rest p.whole (prefix_length ys xs q)

-- after both met, the second knows what the first knew, where the first is the editor's
pub lends : {S E : Type 0} (e₀ d₀ e₁ d₁ : Doing S E) → HasMet e₀ d₀ e₁ → HasMet d₀ e₁ d₁ → e₀.editor ≡ true → KnowsNoLess e₀.view d₁.view
lends {S} {E} e₀ d₀ e₁ d₁ first second editor =
    record {
      log =
          ⊎_elim (λ (own : d₁.view.log ≡ d₀.view.log). own
          ∙ sym (one_list d₀.view.log e₁.view.log first.other_log (subst (λ (l : List E). IsPrefix e₁.view.log l)
          own second.other_log)) ∙ first.log_stays editor)
          (λ (other : d₁.view.log ≡ e₁.view.log). other ∙ first.log_stays editor)
          second.one_log;
      known = λ pair has.
          subst (λ (l : List Known). Contains l pair) (sym second.known)
          (Contains-append_right d₀.view.known e₁.view.known pair
          (subst (λ (l : List Known). Contains l pair) (sym first.known) (Contains-append_left e₀.view.known d₀.view.known pair has)));
    }

module _ {E : Type 0} where
  pub no_less_itself : (a : View (List E)) → KnowsNoLess a a
  no_less_itself a = record { log = refl; known = λ pair has. has }

  pub no_less_on : (a b c : View (List E)) → KnowsNoLess a b → KnowsNoLess b c → KnowsNoLess a c
  no_less_on a b c p q = record { log = q.log ∙ p.log; known = λ pair has. q.known pair (p.known pair has) }

  -- with the same log and more known places
  pub no_less : (a b : View (List E)) → b.log ≡ a.log → IsPrefix a.known b.known → KnowsNoLess a b
  no_less a b log known =
      record {
        log = log;
        known = λ pair has. subst (λ (l : List Known). Contains l pair) (sym known.whole) (Contains-append_left a.known known.rest pair has);
      }

-- a place that is known stays so
pub knows_still : {E : Type 0} (touches : List E → E → ℕ → Type 0) (a b : View (List E)) (place : ℕ) → KnowsNoLess a b
    → KnowsPlace touches a place → KnowsPlace touches b place
knows_still {E} touches a b place less k =
    (k.0, record { known = less.known _ k.1.known; last = subst (λ (l : List E). IsLastMark touches l place k.0) (sym less.log) k.1.last })

module _ {S E : Type 0} {G : Ghosts S E} where
  pub worked_not : (a : Seat S E G) → HoldsNothing a → HasWorked a a
  worked_not a free = record { keeps = keeps_itself a; log = refl; free = free; done = prefix_itself _; lost = prefix_itself _ }

  pub worked_on : (a b c : Seat S E G) → HasWorked a b → HasWorked b c → HasWorked a c
  worked_on a b c p q =
      record {
        keeps = keeps_on a b c p.keeps q.keeps;
        log = q.log ∙ p.log;
        free = q.free;
        done = prefix_of_prefix _ _ _ p.done q.done;
        lost = prefix_of_prefix _ _ _ p.lost q.lost;
      }

  read_worked : (a b : Seat S E G) (place : ℕ) (reading : Reading) → HoldsNothing a → HasRead a place reading b → HasWorked a b
  read_worked a b place reading free r =
      record {
        keeps = r.keeps;
        log = r.log;
        free = r.idle.holds ∙ free;
        done = prefix_of_same _ _ r.idle.done;
        lost = prefix_of_same _ _ r.idle.lost;
      }

  -- after reads
  pub reads_worked : (a b : Seat S E G) → HoldsNothing a → HasOnlyRead a b → HasWorked a b
  reads_worked a b free r =
      record { keeps = r.keeps; log = r.log; free = r.idle.holds ∙ free; done = prefix_of_same _ _ r.idle.done; lost = prefix_of_same _ _ r.idle.lost }

  -- after a read, and a claim that took the place or was refused
  pub read_and_worked : (a b c : Seat S E G) (place : ℕ) (reading : Reading) (word : ℕ)
      (answer : Result (Unit {0}) Clean) → HoldsNothing a → HasRead a place reading b
      → OnOk answer (HasFinished b place reading.clean word reading.mark c) → IfErr answer (λ found. HasLost b place reading.clean found c) → HasWorked a c
  read_and_worked a b c place reading word answer free r finished refused =
      worked_on a b c (read_worked a b place reading free r) (by_answer answer finished refused)
    where
      by_answer : (x : Result (Unit {0}) Clean) → OnOk x (HasFinished b place reading.clean word reading.mark c)
          → IfErr x (λ found. HasLost b place reading.clean found c) → HasWorked b c
      by_answer (Ok v) f l = record { keeps = f.keeps; log = f.log; free = f.holds; done = prefix_of_more _ _ _ f.done; lost = prefix_of_same _ _ f.lost }
      by_answer (Err v) f l = record { keeps = l.keeps; log = l.log; free = l.holds; done = prefix_of_same _ _ l.done; lost = prefix_of_more _ _ _ l.lost }
