-- The three loads of a read keep the rule of the table, and what the last one tells.
use Rattle.std.proofs.Common.{◌≡◌, ◌<◌, ◌≤◌, ◌+◌, ◌*◌, ◌==◌, ℕ, List, Option, [], ◌∷◌, ◌++◌, Some, None, length, take}
use Rattle.std.proofs.Common.{false, true, refl, sym, ◌∙◌, ap, subst, inl, inr, arith, length-append}
use Rattle.std.specs.Prelude.{slice_index, slice_set, Contains}
use Rattle.std.proofs.lemmas.List.{append-nil, length-take-le, set-get_or}
use Rattle.std.proofs.lemmas.Bool.{cond_both, eq-eqb, eqb-true}
use Rattle.std.proofs.lemmas.Option.{none-some, same_Some}
use Rattle.atomic_table.specs.Table.{Me, Step, Allows}
use Rattle.atomic_table.specs.Table.Act.{keeps}
use Rattle.mark_core.specs.declared.words.Half.{Half}
use Rattle.mark_core.specs.declared.answers.Seen.TheVariants.{Value}
use Rattle.mark_core.specs.declared.actors.Edits.{Edits}
use Rattle.mark_core.specs.declared.actors.View.{View}
use Rattle.mark_core.specs.Places.{place_at, words_of}
use Rattle.mark_core.specs.Marks.{IsPrefix, IsLastMark}
use Rattle.mark_core.specs.States.{State, view_at}
use Rattle.mark_core.specs.Views.{with_half, with_value, with_word, with_read, with_read_at, with_read_end, read_of}
use Rattle.mark_core.specs.Growth.{EndsRead}
use Rattle.mark_core.specs.Legal.{IsLegalRead}
use Rattle.mark_core.specs.Honest.{IsRightMark, IsRightHalf, IsRightRead, IsHonest}
use Rattle.mark_core.specs.Runs.{IsCodeless}
use Rattle.mark_core.specs.Steps.{after_read_clean, after_read_value, after_read_mark}
use Rattle.mark_core.proofs.Prefixes.{prefix_length, take_is_prefix, last_mark_in_prefix}
use Rattle.mark_core.proofs.ViewLemmas.{shorter_prefix}
use Rattle.mark_core.proofs.ReadLemmas.{read_ends}
use Rattle.mark_core.proofs.ReadLaws.{ends_right}
use Rattle.mark_core.specs.declared.events.Event.TheVariants.{ReadClean, ReadValue, ReadMark}
use Rattle.mark_core.specs.declared.events.Outcome.TheVariants.{Word, Clean as AnswersClean, Mark as AnswersMark}
use Rattle.mark_words.specs.declared.tables.Doing.{Doing}
use Rattle.mark_words.specs.declared.tables.History.{History}
use Rattle.mark_words.specs.Steps.{made_of}
use Rattle.mark_words.specs.Words.{clean_at, word_of_clean}
use Rattle.mark_words.specs.Doing.{with_clean_read, with_value_read, with_mark_read}
use Rattle.mark_words.specs.Rules.{IsEditor, IsKeptTable}
use Rattle.mark_words.specs.Plays.{BeganRead, WentOn, EndedRead}
use Rattle.mark_words.specs.Reads.{IsWorthAfter, TellsOf, GoesOn, Ends, LearnsClean}
use Rattle.mark_words.proofs.TableLemmas.{clean_word, value_word, mark_word, clean_at-code_of}
use Rattle.mark_words.proofs.StepLemmas.{with_step, next_number, one_more}
use Rattle.mark_words.proofs.RunLemmas.{honest_state, same_view, same_subject, seat_right}
use Rattle.mark_words.proofs.ViewSteps.{keeps_rest, view_step}

-- a list that is no longer with more at its end
no_more : {X : Type 0} (xs ys : List X) → length (xs ++ ys) ≡ length xs → ys ≡ []
no_more xs [] same = refl
no_more xs (y ∷ ys) same = absurd (omega (arith, same, length-append xs (y ∷ ys)))

-- what holds of a view that a load of a mark leaves, and of one whose read of the place it ended
pub read_end_cases : {L : Type 0} (P : View L → Type 0) (view : View L) (begun : Option Half) (place mark : ℕ) → P view
    → ((half : Half) → begun ≡ Some half → half.place ≡ place → P (with_read view half mark)) → P (with_read_at view begun place mark)
read_end_cases P view None place mark stays ends = stays
read_end_cases P view (Some half) place mark stays ends =
    cond_both (half.place == place) (with_read view half mark) view P (λ e. ends half refl (eqb-true half.place place e)) (λ e. stays)

-- the view whose read of the place a load of its mark ended
pub read_end_of : {L : Type 0} (view : View L) (half : Half) (place mark : ℕ) → view.half ≡ Some half → half.place ≡ place
    → with_read_end view place mark ≡ with_read view half mark
read_end_of view half place mark begun same =
    ap (λ o. with_read_at view o place mark) begun
    ∙ cond_both (half.place == place) (with_read view half mark) view (λ v. v ≡ with_read view half mark) (λ e. refl)
    (λ e. absurd (let t : (half.place == place) ≡ true = eq-eqb half.place place same in cc))

-- a begun read of the place goes on with the value
pub goes_on : {S E : Type 0} (before after : Doing S E) (place word : ℕ) → after ≡ with_value_read before place word → GoesOn before place word after
goes_on {S} {E} before after place word made half begun same =
    ap (λ (d : Doing S E). d.view.half) made
    ∙ ap (λ o. with_word o place word) begun
    ∙ cond_both (half.place == place) (Some (record half { word = Some word })) (Some half) (λ o. o ≡ Some (record half { word = Some word })) (λ e. refl)
    (λ e. absurd (let t : (half.place == place) ≡ true = eq-eqb half.place place same in cc))

-- and ends with the mark
pub ends : {S E : Type 0} (before after : Doing S E) (place mark : ℕ) → length before.view.log ≤ before.view.seen
    → after ≡ with_mark_read before place mark → Ends before place mark after
ends {S} {E} before after place mark within made half begun same =
    let view : after.view ≡ with_read before.view half mark = ap (λ (d : Doing S E). d.view) made ∙ read_end_of before.view half place mark begun same in
    subst (λ (v : View (List E)). EndsRead before.view half mark (read_of before.view.seen half mark) v) (sym view) (ends_right before.view half mark within)

-- and the seat knows the place as clean, where it is
pub learns_clean : {S E : Type 0} (touches : List E → E → ℕ → Type 0) (before after : Doing S E) (place mark : ℕ)
    → Ends before place mark after
    → ((half : Half) → before.view.half ≡ Some half → half.place ≡ place → mark ≤ length before.view.log → IsLastMark touches before.view.log half.place mark)
    → LearnsClean touches before place mark after
learns_clean touches before after place mark ended last half begun same word had upto within =
    record {
      known = subst (λ (p : ℕ). Contains after.view.known (record { place = p; mark = mark })) same ((ended half begun same).known word had upto);
      last = subst (λ (p : ℕ). IsLastMark touches before.view.log p mark) same (last half begun same within);
    }

module _ {E : Type 0} (places : ℕ) (worth : List E → ℕ → ℕ) (touches : List E → E → ℕ → Type 0) (codeless : ℕ → Type 0)
    (untouched : (log : List E) (entry : E) (place : ℕ) → place < places → (touches log entry place → ⊥) → worth (log ++ entry ∷ []) place ≡ worth log place)
    (s : State E) (honest : IsHonest places worth touches codeless s) (view : ℕ) (half : Half)
    (begun : (view_at s view).half ≡ Some half) (there : half.place < places) where
  abbrev log : List E
  log = s.edits.log

  abbrev own : View (List E)
  own = view_at s view

  abbrev mark : ℕ
  mark = (place_at s.places half.place).mark

  right : IsRightHalf codeless (length log) (words_of s.places) half
  right = (honest.views view).half half begun

  marks : IsRightMark touches s.edits half.place mark
  marks = honest.marks half.place there

  own_prefix : IsPrefix own.log log
  own_prefix = (honest.views view).log.known_prefix

  -- a read with a word that was computed for the mark, at a number that covers the mark and the view's log
  worth_after : (word : ℕ) → half.word ≡ Some word → half.clean.upto ≡ mark + 1
      → (number : ℕ) → number ≤ length log → length own.log ≤ number → mark ≤ number → IsWorthAfter worth touches own.log number half.place word mark
  worth_after word had upto number within below le =
      let ended : IsRightRead worth touches codeless s.edits (words_of s.places) (read_of number half mark) =
      read_ends worth touches codeless s.edits (words_of s.places) half right marks (honest.values half.place there)
      (λ l e ne. untouched l e half.place there ne) number within in
      let legal : IsLegalRead worth touches codeless s.edits (read_of number half mark) word = ended.legal word had in
      let count : length (take number log) ≡ number = length-take-le number log within in
      record {
        entries = take number log;
        longer = shorter_prefix own.log (take number log) log own_prefix (take_is_prefix number log) (omega arith);
        count = count;
        worth_is = sym (legal.answer (Value word) (upto, le, refl));
        last = legal.last word (upto, le, refl);
      }

  pub tells_of : TellsOf worth touches own half mark
  tells_of =
      record {
        upto = right.upto.upto_mark;
        floor = right.floor;
        last = λ within.
            let long : length own.log ≤ length log = prefix_length own.log log own_prefix in
            elim marks [
              | inl pending ↦ absurd (omega (arith, pending.number))
              | inr settled ↦ last_mark_in_prefix touches own.log log half.place mark own_prefix within settled.last
            ];
        later = λ word had upto. (
          length log,
          worth_after word had upto (length log) (omega arith) (prefix_length own.log log own_prefix) (omega (arith, right.upto.upto_log, upto)),
        );
        seen = λ word had upto le. worth_after word had upto own.seen (honest.views view).log.seen_below (honest.views view).log.below_seen le;
        known = λ word had upto le.
            let w : IsWorthAfter worth touches own.log (length own.log) half.place word mark =
            worth_after word had upto (length own.log) (prefix_length own.log log own_prefix) (omega arith) le in
            let same : w.entries ≡ own.log =
            w.longer.whole ∙ ap (λ l. own.log ++ l) (no_more own.log w.longer.rest (sym (ap length w.longer.whole) ∙ w.count)) ∙ append-nil own.log in
            ap (λ l. worth l half.place) (sym same) ∙ w.worth_is;
      }

module _ {S E : Type 0} (subject : S) (places : ℕ) (worth : List E → ℕ → ℕ) (touches : List E → E → ℕ → Type 0)
    (untouched : (log : List E) (entry : E) (place : ℕ) → place < places → (touches log entry place → ⊥) → worth (log ++ entry ∷ []) place ≡ worth log place)
    (opening : List (Option ℕ)) (slots id : ℕ) (me : Me E (History S E)) (step : Step E) (place : ℕ)
    (live : me.0.doing.view.spent ≡ false) (there : place < length opening) where
  pub reads_clean : step.word ≡ 3 * place + 2
      → Allows (IsKeptTable subject places worth touches opening) slots id me (3 * place + 2) (λ n. n) (λ n after. BeganRead step me n after)
  reads_clean word t kept deep at fits =
      let core : State E = kept.core in
      let honest = honest_state subject places worth touches opening t kept untouched in
      let same : view_at core id ≡ me.0.doing.view = same_view subject places worth touches opening t kept id me.0 at live in
      let lt : place < length core.places = omega (arith, honest.count, kept.right.count) in
      let found : ℕ = slice_index t.words (3 * place + 2) in
      let is_word : found ≡ word_of_clean (place_at core.places place).clean =
      ap (λ ws. slice_index ws (3 * place + 2)) kept.words ∙ clean_word (length core.edits.log) core.places place lt in
      let is : clean_at found ≡ (place_at core.places place).clean =
      ap clean_at is_word ∙ clean_at-code_of (place_at core.places place).clean in (
        with_step me.0 (with_clean_read me.0.doing place (clean_at found)) (next_number kept.events) (made_of (ReadClean id place) found),
        keeps,
        tt,
        view_step subject places worth touches opening t kept id me.0 at live (ReadClean id place) found
            (AnswersClean (place_at core.places place).clean) (after_read_clean core id place)
            (with_half me.0.doing.view place (clean_at found))
            (slice_set t.words (3 * place + 2) found) refl refl
            (record { allowed = record { there = lt; live = ap (λ (v : View (List E)). v.spent) same ∙ live }; gives = (refl, refl) })
            is_word
            (set-get_or t.words (3 * place + 2) 0 ∙ kept.words) refl refl
            (ap (λ (v : View (List E)). slice_set core.views id (with_half v place (place_at core.places place).clean)) same
            ∙ ap (λ c. slice_set core.views id (with_half me.0.doing.view place c)) (sym is))
            refl,
        record {
          slots = refl;
          rest = keeps_rest me.0.doing _ refl refl refl;
          doing = λ place' word'. ap (λ p. with_clean_read me.0.doing p (clean_at found)) (omega (arith, word, word'));
          one = λ place' word'. one_more me.0.steps id (next_number kept.events) (λ v. ReadClean v place') found
              (ReadClean id place) found (ap (λ p. ReadClean id p) (omega (arith, word, word'))) refl;
        },
      )

  pub reads_value : step.word ≡ 3 * place + 3
      → Allows (IsKeptTable subject places worth touches opening) slots id me (3 * place + 3) (λ n. n) (λ n after. WentOn step me n after)
  reads_value word t kept deep at fits =
      let core : State E = kept.core in
      let honest = honest_state subject places worth touches opening t kept untouched in
      let same : view_at core id ≡ me.0.doing.view = same_view subject places worth touches opening t kept id me.0 at live in
      let lt : place < length core.places = omega (arith, honest.count, kept.right.count) in
      let found : ℕ = slice_index t.words (3 * place + 3) in
      let is : found ≡ (place_at core.places place).value =
      ap (λ ws. slice_index ws (3 * place + 3)) kept.words ∙ value_word (length core.edits.log) core.places place lt in (
        with_step me.0 (with_value_read me.0.doing place found) (next_number kept.events) (made_of (ReadValue id place) found),
        keeps,
        tt,
        view_step subject places worth touches opening t kept id me.0 at live (ReadValue id place) found
            (Word (place_at core.places place).value) (after_read_value core id place)
            (with_value me.0.doing.view place found)
            (slice_set t.words (3 * place + 3) found) refl refl
            (record { allowed = record { there = lt; live = ap (λ (v : View (List E)). v.spent) same ∙ live }; gives = (refl, refl) })
            is
            (set-get_or t.words (3 * place + 3) 0 ∙ kept.words) refl refl
            (ap (λ (v : View (List E)). slice_set core.views id (with_value v place (place_at core.places place).value)) same
            ∙ ap (λ w. slice_set core.views id (with_value me.0.doing.view place w)) (sym is))
            refl,
        record {
          slots = refl;
          rest = keeps_rest me.0.doing _ refl refl refl;
          doing = λ place' word'. ap (λ p. with_value_read me.0.doing p found) (omega (arith, word, word'));
          one = λ place' word'. one_more me.0.steps id (next_number kept.events) (λ v. ReadValue v place') found
              (ReadValue id place) found (ap (λ p. ReadValue id p) (omega (arith, word, word'))) refl;
        },
      )

-- the load of the mark speaks of the subject that the seat names
module _ {S E : Type 0} (subject : S) (places : S → ℕ) (worth : S → List E → ℕ → ℕ) (touches : S → List E → E → ℕ → Type 0)
    (untouched : (log : List E) (entry : E) (place : ℕ) → place < places subject → (touches subject log entry place → ⊥)
    → worth subject (log ++ entry ∷ []) place ≡ worth subject log place)
    (opening : List (Option ℕ)) (slots id : ℕ) (me : Me E (History S E)) (step : Step E) (place : ℕ)
    (live : me.0.doing.view.spent ≡ false) (there : place < length opening) where
  pub reads_mark : step.word ≡ 3 * place + 1
      → Allows (IsKeptTable subject (places subject) (worth subject) (touches subject) opening) slots id me
      (3 * place + 1) (λ n. n) (λ n after. EndedRead worth touches step me n after)
  reads_mark word t kept deep at fits =
      let core : State E = kept.core in
      let honest = honest_state subject (places subject) (worth subject) (touches subject) opening t kept untouched in
      let same : view_at core id ≡ me.0.doing.view = same_view subject (places subject) (worth subject) (touches subject) opening t kept id me.0 at live in
      let lt : place < length core.places = omega (arith, honest.count, kept.right.count) in
      let found : ℕ = slice_index t.words (3 * place + 1) in
      let is : found ≡ (place_at core.places place).mark =
      ap (λ ws. slice_index ws (3 * place + 1)) kept.words ∙ mark_word (length core.edits.log) core.places place lt in
      let seat = seat_right subject (places subject) (worth subject) (touches subject) opening t kept id me.0 at in
      let here : (place' : ℕ) → step.word ≡ 3 * place' + 1 → place ≡ place' = λ place' word'. omega (arith, word, word') in
      let seen : length (view_at core id).log ≤ (view_at core id).seen = (honest.views id).log.below_seen in (
        with_step me.0 (with_mark_read me.0.doing place found) (next_number kept.events) (made_of (ReadMark id place) found),
        keeps,
        tt,
        view_step subject (places subject) (worth subject) (touches subject) opening t kept id me.0 at live
            (ReadMark id place) found (AnswersMark (place_at core.places place).mark) (after_read_mark core id place)
            (with_read_end me.0.doing.view place found)
            (slice_set t.words (3 * place + 1) found) refl refl
            (record { allowed = record { there = lt; live = ap (λ (v : View (List E)). v.spent) same ∙ live }; gives = (refl, refl) })
            is
            (set-get_or t.words (3 * place + 1) 0 ∙ kept.words) refl refl
            (ap (λ (v : View (List E)). slice_set core.views id (with_read_end v place (place_at core.places place).mark)) same
            ∙ ap (λ m. slice_set core.views id (with_read_end me.0.doing.view place m)) (sym is))
            (read_end_cases (λ (v : View (List E)). v.log ≡ me.0.doing.view.log) me.0.doing.view me.0.doing.view.half
            place found refl (λ half begun at'. refl)),
        record {
          slots = refl;
          rest =
              keeps_rest me.0.doing (with_read_end me.0.doing.view place found)
              (read_end_cases (λ (v : View (List E)). v.spent ≡ me.0.doing.view.spent) me.0.doing.view
              me.0.doing.view.half place found refl (λ half begun at'. refl))
              (read_end_cases (λ (v : View (List E)). v.log ≡ me.0.doing.view.log) me.0.doing.view me.0.doing.view.half
              place found refl (λ half begun at'. refl))
              (read_end_cases (λ (v : View (List E)). v.seen ≡ me.0.doing.view.seen) me.0.doing.view
              me.0.doing.view.half place found refl (λ half begun at'. refl));
          doing = λ place' word'. ap (λ p. with_mark_read me.0.doing p found) (here place' word');
          one = λ place' word'. one_more me.0.steps id (next_number kept.events) (λ v. ReadMark v place') found
              (ReadMark id place) found (ap (λ p. ReadMark id p) (here place' word')) refl;
          within = subst (λ (v : View (List E)). length v.log ≤ v.seen) same seen;
          tells = λ place' subject' word' named half begun of.
              let of_place : half.place ≡ place = of ∙ sym (here place' word') in
              let told : TellsOf (worth subject) (touches subject) (view_at core id) half (place_at core.places half.place).mark =
              tells_of (places subject) (worth subject) (touches subject) (IsCodeless opening) untouched core honest id half
              (ap (λ (v : View (List E)). v.half) same ∙ begun) (omega (arith, of_place, there, kept.right.count)) in
              subst (λ (x : S). TellsOf (worth x) (touches x) me.0.doing.view half found)
              (same_Some subject subject'
              (sym (same_subject subject (places subject) (worth subject) (touches subject) opening t kept id me.0
              at live) ∙ named))
              (subst (λ (v : View (List E)). TellsOf (worth subject) (touches subject) v half found) same
              (subst (λ (m : ℕ). TellsOf (worth subject) (touches subject) (view_at core id) half m)
              (ap (λ p. (place_at core.places p).mark) of_place ∙ sym is) told));
          editor = λ on idle.
              let ed : IsEditor core id me.0.doing = seat.editor on in
              let none : core.edits.pending ≡ None = ap (λ (x : Edits E). x.pending) (sym ed.edits) ∙ idle in
              let whole : me.0.doing.view.log ≡ core.edits.log =
              ap (λ (v : View (List E)). v.log) (sym same) ∙ ap (λ i. (view_at core i).log) ed.first ∙ honest.editor_log in
              elim (honest.marks place (omega (arith, there, kept.right.count))) [
                | inl pending ↦ absurd (none-some pending.entry (sym none ∙ pending.pending))
                | inr settled ↦ omega (arith, settled.last.within, is, ap length whole)
              ];
        },
      )
