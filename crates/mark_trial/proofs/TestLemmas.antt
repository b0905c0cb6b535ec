-- What the tests of reads and work rest on.
use Rattle.std.proofs.Common.{◌≡◌, ◌≢◌, ◌<◌, ◌≤◌, ◌+◌, ◌==◌, ℕ, zero, suc, List, [], ◌∷◌, ◌++◌, Some, None, map, length}
use Rattle.std.proofs.Common.{false, true, refl, sym, ◌∙◌, ap, subst, arith, length-append}
use Rattle.std.specs.Prelude.{Contains}
use Rattle.std.proofs.Math.Seq.{take-length}
use Rattle.std.proofs.lemmas.List.Elements.{Contains-push}
use Rattle.std.proofs.lemmas.Bool.{cond_both, eq-eqb}
use Rattle.mark_core.specs.declared.words.Clean.{Clean}
use Rattle.mark_core.specs.declared.words.Half.{Half}
use Rattle.mark_core.specs.declared.words.Held.{Held}
use Rattle.mark_core.specs.declared.words.Finished.{Finished}
use Rattle.mark_core.specs.declared.actors.View.{View}
use Rattle.mark_core.specs.Marks.{IsLastMark}
use Rattle.mark_core.specs.Views.{new_half, read_of, hold_with}
use Rattle.mark_core.specs.declared.subjects.Subject.{Ghosts}
use Rattle.mark_core.specs.Permissions.{IsWorthKnown, MayClaim, MayPut, MayFinish}
use Rattle.mark_words.specs.declared.tables.Doing.{Doing}
use Rattle.mark_words.specs.declared.marks.Marks.{Marks}
use Rattle.mark_words.specs.declared.seats.Seat.{Seat}
use Rattle.mark_words.specs.Doing.{with_clean_read, with_value_read, with_mark_read, with_claim, with_word_put, with_mark, with_commit}
use Rattle.mark_words.specs.Reads.{IsWorthAfter, TellsOf, GoesOn, Ends, TellsOfRead}
use Rattle.mark_words.specs.Tokens.{IsSeatOf, doing_of}
use Rattle.mark_words.proofs.ReadSteps.{read_end_cases}
use Rattle.mark_words.proofs.TokenLemmas.{begins}
use Rattle.mark_trial.specs.TwoTestCells.{last_or}
use Rattle.mark_trial.specs.Threads.{IsReadyEditor, HasReadPlace}

-- the three loads of a read, one after the other
pub has_read : {S E : Type 0} (worth : List E → ℕ → ℕ) (touches : List E → E → ℕ
    → Type 0) (before begun valued after : Doing S E) (place : ℕ) (clean : Clean) (word mark : ℕ)
    → begun ≡ with_clean_read before place clean → valued ≡ with_value_read begun place word → after ≡ with_mark_read valued place mark
    → GoesOn begun place word valued → Ends valued place mark after → TellsOfRead worth touches valued place mark
    → HasReadPlace worth touches before place clean word mark after
has_read {S} {E} worth touches before begun valued after place clean word mark first second third goes_on ends tells =
    let start : Half = new_half before.view place clean in
    let half : Half = record start { word = Some word } in
    let has : valued.view.half ≡ Some half = goes_on start (ap (λ (d : Doing S E). d.view.half) first) refl in
    let end = ends half has refl in
    let told : TellsOf worth touches valued.view half mark = tells half has refl in
    let log : valued.view.log ≡ before.view.log = ap (λ (d : Doing S E). d.view.log) second ∙ ap (λ (d : Doing S E). d.view.log) first in
    let seen : valued.view.seen ≡ before.view.seen = ap (λ (d : Doing S E). d.view.seen) second ∙ ap (λ (d : Doing S E). d.view.seen) first in
    let reads : valued.view.reads ≡ before.view.reads = ap (λ (d : Doing S E). d.view.reads) second ∙ ap (λ (d : Doing S E). d.view.reads) first in
    record {
      half = half;
      same_place = refl;
      same_clean = refl;
      same_word = refl;
      above = (begins before.view place clean).above;
      tells = tells_moves worth touches valued.view before.view half mark log seen told;
      reads =
          end.reads
          ∙ ap (λ l. l ++ read_of valued.view.seen half mark ∷ []) reads
          ∙ ap (λ n. before.view.reads ++ read_of n half mark ∷ []) seen;
      learns = λ upto. end.known word refl upto;
      log = ap (λ (d : Doing S E). d.view.log) third ∙ read_end_cases (λ (v : View (List E)). v.log ≡ valued.view.log)
          valued.view valued.view.half place mark refl (λ h b of. refl) ∙ log;
      seen = ap (λ (d : Doing S E). d.view.seen) third
          ∙ read_end_cases (λ (v : View (List E)). v.seen ≡ valued.view.seen) valued.view valued.view.half place mark
          refl (λ h b of. refl) ∙ seen;
    }
  where
    -- what a read tells rests on the log and the count of its view alone
    tells_moves : {E' : Type 0} (worth' : List E' → ℕ → ℕ) (touches' : List E' → E' → ℕ → Type 0) (view view' : View (List E')) (half' : Half) (mark' : ℕ)
        → view.log ≡ view'.log → view.seen ≡ view'.seen → TellsOf worth' touches' view half' mark' → TellsOf worth' touches' view' half' mark'
    tells_moves {E'} worth' touches' view view' half' mark' log seen told =
        record {
          upto = told.upto;
          floor = told.floor;
          last = subst (λ (l : List E'). (mark' ≤ length l → IsLastMark touches' l half'.place mark')) log told.last;
          later = subst (λ (l : List E'). ((w : ℕ) → half'.word ≡ Some w → half'.clean.upto ≡ mark' + 1 → (number : ℕ)
              × IsWorthAfter worth' touches' l number half'.place w mark')) log told.later;
          seen =
              subst (λ (n : ℕ). ((w : ℕ) → half'.word ≡ Some w → half'.clean.upto ≡ mark' + 1 → mark' ≤ n
              → IsWorthAfter worth' touches' view'.log n half'.place w mark')) seen
              (subst (λ (l : List E'). ((w : ℕ) → half'.word ≡ Some w → half'.clean.upto ≡ mark' + 1 → mark' ≤ view.seen
              → IsWorthAfter worth' touches' l view.seen half'.place w mark')) log told.seen);
          known =
              subst (λ (l : List E'). ((w : ℕ) → half'.word ≡ Some w → half'.clean.upto ≡ mark' + 1 → mark' ≤ length l
              → worth' l half'.place ≡ w)) log told.known;
        }

module _ {S E : Type 0} (worth : List E → ℕ → ℕ) (touches : List E → E → ℕ → Type 0) (before after : Doing S E) (place : ℕ) (clean : Clean) (word mark : ℕ)
    (read : HasReadPlace worth touches before place clean word mark after) where
  upto_is : read.half.clean.upto ≡ clean.upto
  upto_is = ap (λ (x : Clean). x.upto) read.same_clean

  -- the place's last mark, where it is within the log
  pub last_read : mark ≤ length before.view.log → IsLastMark touches before.view.log place mark
  last_read within = subst (λ (p : ℕ). IsLastMark touches before.view.log p mark) read.same_place (read.tells.last within)

  -- a free clean word that wasn't computed for the mark may be claimed
  pub may_claim : clean.held ≡ false → clean.upto ≢ mark + 1 → MayClaim after.view place clean
  may_claim free stale =
      let ended : Finished = read_of before.view.seen read.half mark in
      record {
        free = free;
        read = ended;
        among = subst (λ (l : List Finished). Contains l ended) (sym read.reads) (Contains-push before.view.reads ended);
        ground = record {
          same_place = read.same_place;
          same_clean = read.same_clean;
          stale = let le : read.half.clean.upto ≤ mark + 1 = read.tells.upto in omega (arith, upto_is);
        };
      }

contains_map : {X Y : Type 0} (f : X → Y) (xs : List X) (x : X) → Contains xs x → Contains (map f xs) (f x)
contains_map f [] x (k, lt, is) = absurd (omega arith)
contains_map f (y ∷ xs) x (zero, lt, is) = (0, omega arith, ap f is)
contains_map f (y ∷ xs) x (suc k, lt, is) =
    let rest = contains_map f xs x (k, omega arith, is) in (suc rest.0, let below : rest.0 < length (map f xs) = rest.1 in omega arith, rest.2)

module _ {S E : Type 0} (worth : List E → ℕ → ℕ) (touches : List E → E → ℕ → Type 0) (before claimed : Doing S E) (place word mark : ℕ)
    (is : worth before.view.log place ≡ word) (took : claimed ≡ with_claim before place) where
  abbrev empty : Held
  empty = record { place = place; word = None }

  whole : (log : List E) → worth log place ≡ word → IsWorthKnown worth log place word
  whole log same = record { count = length log; within = omega arith; worth_is = ap (λ l. worth l place) (take-length log) ∙ same }

  -- the worth after the whole log may be put in a claimed place
  pub may_put : MayPut worth claimed.view place word
  may_put =
      subst (λ (d : Doing S E). MayPut worth d.view place word) (sym took)
      (record { hold = empty; among = Contains-push before.view.holds empty; same_place = refl; known = whole before.view.log is })

  -- and the place finished then for its last mark
  pub may_finish : IsLastMark touches before.view.log place mark → (put : Doing S E)
      → put ≡ with_word_put claimed place word → MayFinish worth touches put.view place mark
  unfolding whole
  may_finish last put made =
      let filled : Held = record { place = place; word = Some word } in
      let fills : hold_with place word empty ≡ filled =
      cond_both (place == place) filled empty (λ h. h ≡ filled) (λ e. refl) (λ e. absurd (let t : (place == place) ≡ true = eq-eqb place place refl in cc)) in
      subst (λ (d : Doing S E). MayFinish worth touches d.view place mark) (sym (made ∙ ap (λ (d : Doing S E). with_word_put d place word) took))
      (record {
        hold = filled;
        among =
            subst (λ (h : Held). Contains (map (hold_with place word) (before.view.holds ++ empty ∷ [])) h) fills
            (contains_map (hold_with place word) (before.view.holds ++ empty ∷ []) empty (Contains-push before.view.holds empty));
        marked =
            record {
              same_place = refl;
              word = word;
              put = refl;
              computed =
                  record {
                    known = whole before.view.log is;
                    last = subst (λ (l : List E). IsLastMark touches l place mark) (sym (take-length before.view.log))
                        last;
                  };
            };
      })

-- the last of the numbers with one more
pub last_added : (found : ℕ) (numbers : List ℕ) (number : ℕ) → last_or found (numbers ++ number ∷ []) ≡ number
last_added found [] number = refl
last_added found (next ∷ numbers) number = last_added next numbers number

-- the two cells
pub either_place : (place : ℕ) → place < 2 → Contains (0 ∷ 1 ∷ []) place
either_place zero lt = (0, omega arith, refl)
either_place (suc zero) lt = (1, omega arith, refl)
either_place (suc (suc place)) lt = absurd (omega arith)

-- the editor's seat is still ready where it knows what it knew
pub ready_still : {S E : Type 0} {G : Ghosts S E} (marks : Marks S E) (before after : Seat S E G) (count : ℕ)
    → IsReadyEditor marks before count → IsSeatOf marks after → doing_of after ≡ doing_of before → IsReadyEditor marks after count
ready_still {S} {E} marks before after count ready same kept =
    record {
      table = same;
      editor = ap (λ (d : Doing S E). d.editor) kept ∙ ready.editor;
      two = ready.two;
      pending = ap (λ (d : Doing S E). d.edits.pending) kept ∙ ready.pending;
      marked = ap (λ (d : Doing S E). d.edits.marked) kept ∙ ready.marked;
      entries = ap (λ (d : Doing S E). length d.view.log) kept ∙ ready.entries;
    }

-- the editor's seat that has marked both cells for an entry
module _ {S E : Type 0} {G : Ghosts S E} (marks : Marks S E) (before first second : Seat S E G) (entry : E)
    (count number : ℕ) (ready : IsReadyEditor marks before count)
    (one : doing_of first ≡ with_mark (doing_of before) entry 0 number) (both : doing_of second ≡ with_mark (doing_of first) entry 1 number) where
  pub both_marked : (place : ℕ) → place < 2 → Contains (doing_of second).edits.marked place
  both_marked place there =
      let marked : (doing_of second).edits.marked ≡ 0 ∷ 1 ∷ [] =
      ap (λ (d : Doing S E). d.edits.marked) both ∙ ap (λ (d : Doing S E). d.edits.marked ++ 1 ∷ []) one
      ∙ ap (λ l. (l ++ 0 ∷ []) ++ 1 ∷ []) ready.marked in
      subst (λ (l : List ℕ). Contains l place) (sym marked) (either_place place there)

  pub entry_pending : (doing_of second).edits.pending ≡ Some entry
  entry_pending = ap (λ (d : Doing S E). d.edits.pending) both

  -- and has committed it
  pub ready_next : (after : Seat S E G) → IsSeatOf marks after → doing_of after ≡ with_commit (doing_of second) entry → IsReadyEditor marks after (count + 1)
  ready_next after same last =
      record {
        table = same;
        editor =
            ap (λ (d : Doing S E). d.editor) last ∙ ap (λ (d : Doing S E). d.editor) both ∙ ap (λ (d : Doing S E). d.editor) one ∙ ready.editor;
        two = ready.two;
        pending = ap (λ (d : Doing S E). d.edits.pending) last;
        marked = ap (λ (d : Doing S E). d.edits.marked) last;
        entries =
            ap (λ (d : Doing S E). length d.view.log) last ∙ length-append (doing_of second).view.log (entry ∷ [])
            ∙ ap (λ (d : Doing S E). length d.view.log + 1) both ∙ ap (λ (d : Doing S E). length d.view.log + 1) one
            ∙ ap (λ n. n + 1) ready.entries;
      }
