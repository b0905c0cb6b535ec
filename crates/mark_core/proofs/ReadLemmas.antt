-- A read that begins is right, and one that ends is right and legal.
use Rattle.std.proofs.Common.{◌≡◌, ◌≢◌, ◌<◌, ◌≤◌, ◌+◌, ℕ, List, [], ◌∷◌, ◌++◌, Some, None, ◌==◌, ◌&&◌, max, length}
use Rattle.std.proofs.Common.{take, refl, sym, ◌∙◌, ap, subst, inl, inr, arith}
use Rattle.std.specs.Prelude.{All, is_some}
use Rattle.std.specs.Option.{option_to_list}
use Rattle.std.proofs.lemmas.List.{length-take-le}
use Rattle.std.proofs.lemmas.List.Elements.{All-nil, All-cons, All-head, All-tail}
use Rattle.std.proofs.lemmas.Bool.{cases_lt, cases_Bool, cond_both, eqb-true, and_parts}
use Rattle.std.proofs.lemmas.Option.{none-some, same_Some}
use Rattle.mark_core.specs.declared.words.Clean.{Clean}
use Rattle.mark_core.specs.declared.words.Known.{Known}
use Rattle.mark_core.specs.declared.words.Half.{Half}
use Rattle.mark_core.specs.declared.answers.Seen.{Seen}
use Rattle.mark_core.specs.declared.answers.Seen.TheVariants.{Value, Stale, Newer}
use Rattle.mark_core.specs.Answers.{Shows}
use Rattle.mark_core.specs.Places.{Words}
use Rattle.mark_core.specs.Marks.{IsTouched, IsLastMark}
use Rattle.mark_core.specs.declared.actors.Edits.{Edits}
use Rattle.mark_core.specs.States.{entries_of}
use Rattle.mark_core.specs.Views.{floor_of, read_of, known_from}
use Rattle.mark_core.specs.Legal.{MeetsFloor, IsLegalAnswer}
use Rattle.mark_core.specs.Honest.{IsRightMark, IsRightValue, IsRightKnown, IsRightHalf, IsRightRead}
use Rattle.mark_core.proofs.Prefixes.{take_is_prefix, touched_in_longer, touched_next, last_mark_in_prefix, worth-prefix}

-- the floor of a place that is known right is met by its mark
pub floor_met : (count : ℕ) (words : Words) (known : List Known) (place : ℕ) → All (IsRightKnown count words) known
    → MeetsFloor (words.mark place) (floor_of known place) (words.clean place).upto
floor_met count words [] place all = inl (omega arith)
floor_met count words (pair ∷ known) place all =
    let rest : MeetsFloor (words.mark place) (floor_of known place) (words.clean place).upto =
    floor_met count words known place (All-tail (IsRightKnown count words) pair known all) in
    cond_both (pair.place == place) (max (pair.mark + 1) (floor_of known place)) (floor_of known place)
    (λ floor. MeetsFloor (words.mark place) floor (words.clean place).upto)
    (λ e.
    let same : pair.place ≡ place = eqb-true pair.place place e in
    let right : IsRightKnown count words pair = All-head (IsRightKnown count words) pair known all in
    let mark : words.mark pair.place ≡ words.mark place = ap words.mark same in
    elim right.since [
      | inl h ↦
          elim rest [
            | inl r ↦ inl (omega arith)
            | inr r ↦ inr (omega arith, omega (arith, r.0, r.1))
          ]
      | inr c ↦
          let upto : (words.clean pair.place).upto ≡ (words.clean place).upto = ap (λ p. (words.clean p).upto) same in
          let at : words.mark pair.place ≡ pair.mark = c.marked in
          let to : (words.clean pair.place).upto ≡ pair.mark + 1 = c.upto in
          elim rest [
            | inl r ↦ inr (omega arith, omega arith)
            | inr r ↦ inr (omega (arith, r.0, r.1), omega (arith, r.0, r.1))
          ]
    ])
    (λ e. rest)

module _ {E : Type 0} (worth : List E → ℕ → ℕ) (touches : List E → E → ℕ → Type 0) (codeless : ℕ → Type 0) where
  -- a read that begins with the clean word of a place
  pub half_begins : (log : List E) (words : Words) (known : List Known) (place : ℕ)
      → IsRightValue worth codeless log place (words.mark place) (words.clean place) (words.value place)
      → All (IsRightKnown (length log) words) known
      → IsRightHalf codeless (length log) words (record { place = place; clean = words.clean place; floor = floor_of known place; word = None })
  half_begins log words known place right all =
      record {
        upto = right.upto;
        stale =
            elim (cases_Bool (words.clean place).held) [
              | inl held ↦ inl (right.held held)
              | inr free ↦ inr (record { clean = refl; free = free; word = λ word is. absurd (none-some word is) })
            ];
        floor = floor_met (length log) words known place all;
      }

  -- and goes on with its value
  pub half_goes_on : (count : ℕ) (words : Words) (half : Half) (word : ℕ) → words.value half.place ≡ word
      → IsRightHalf codeless count words half → IsRightHalf codeless count words (record half { word = Some word })
  half_goes_on count words half word value right =
      record {
        upto = right.upto;
        stale =
            elim right.stale [
              | inl h ↦ inl h
              | inr t ↦ inr (record { clean = t.clean; free = t.free; word = λ w is. value ∙ same_Some word w is })
            ];
        floor = right.floor;
      }

  module _ (edits : Edits E) (words : Words) (half : Half)
      (right : IsRightHalf codeless (length edits.log) words half)
      (marks : IsRightMark touches edits half.place (words.mark half.place)) where
    -- what a read with a word tells when its mark shows that the value is current
    pub learned_right : All (IsRightKnown (length edits.log) words) (known_from half (words.mark half.place))
    learned_right =
        cond_both (is_some half.word && (half.clean.upto == words.mark half.place + 1))
        (record { place = half.place; mark = words.mark half.place } ∷ []) []
        (λ l. All (IsRightKnown (length edits.log) words) l)
        (λ e.
        let upto : half.clean.upto ≡ words.mark half.place + 1 =
        eqb-true half.clean.upto (words.mark half.place + 1) (and_parts (is_some half.word) (half.clean.upto == words.mark half.place + 1) e).1 in
        All-cons (IsRightKnown (length edits.log) words) (record { place = half.place; mark = words.mark half.place }) []
        (record {
          within = omega (arith, right.upto.upto_log);
          since =
              elim right.stale [
                | inl h ↦ absurd (omega arith)
                | inr t ↦
                    inr (record {
                      marked = refl;
                      upto = ap (λ (x : Clean). x.upto) t.clean ∙ upto;
                      free = ap (λ (x : Clean). x.held) t.clean ∙ t.free;
                    })
              ];
        })
        (All-nil (IsRightKnown (length edits.log) words)))
        (λ e. All-nil (IsRightKnown (length edits.log) words))

    module _ (value : IsRightValue worth codeless edits.log half.place (words.mark half.place) (words.clean half.place) (words.value half.place))
        (untouched : (log : List E) (entry : E) → (touches log entry half.place → ⊥) → worth (log ++ entry ∷ []) half.place ≡ worth log half.place)
        (number : ℕ) (within : number ≤ length edits.log) where
      front_length : length (take number edits.log) ≡ number
      front_length = length-take-le number edits.log within

      -- the mark of the place, where it is within the number, is its last mark in so many entries
      last_in_front : words.mark half.place ≤ number → IsLastMark touches (take number edits.log) half.place (words.mark half.place)
      last_in_front le =
          elim marks [
            | inl p ↦ absurd (omega (arith, p.number))
            | inr s ↦
                last_mark_in_prefix touches (take number edits.log) edits.log half.place (words.mark half.place)
                (take_is_prefix number edits.log) (omega (arith, front_length)) s.last
          ]

      worth_in_front : words.mark half.place ≤ number → worth edits.log half.place ≡ worth (take number edits.log) half.place
      worth_in_front le =
          elim marks [
            | inl p ↦ absurd (omega (arith, p.number))
            | inr s ↦
                worth-prefix touches worth half.place untouched (take number edits.log) edits.log (words.mark half.place)
                (take_is_prefix number edits.log) (omega (arith, front_length)) s.last
          ]

      -- where it is past the number, its entry touches the place
      touched_later : number < words.mark half.place → IsTouched touches (entries_of edits) half.place (words.mark half.place)
      touched_later later =
          elim marks [
            | inl p ↦
                let entries : entries_of edits ≡ edits.log ++ p.entry ∷ [] = ap (λ o. edits.log ++ option_to_list o) p.pending in
                subst (λ (l : List E). IsTouched touches l half.place (words.mark half.place)) (sym entries)
                (subst (λ (m : ℕ). IsTouched touches (edits.log ++ p.entry ∷ []) half.place m) (sym p.number)
                (touched_next touches edits.log p.entry [] half.place p.touched))
            | inr s ↦
                touched_in_longer touches edits.log (entries_of edits) half.place (words.mark half.place)
                (record { rest = option_to_list edits.pending; whole = refl })
                (s.last.touched (omega arith))
          ]

      -- where it is one of the log's, the entry of the log touches the place
      touched_in_log : 0 < words.mark half.place → words.mark half.place ≤ length edits.log → IsTouched touches edits.log half.place (words.mark half.place)
      touched_in_log some le =
          elim marks [ inl p ↦ absurd (omega (arith, p.number)) | inr s ↦ s.last.touched some ]

      read_legal : (word : ℕ) → half.word ≡ Some word → (shown : Seen) → Shows number half.clean word (words.mark half.place) shown
          → IsLegalAnswer worth touches codeless edits number half.place shown
      read_legal word is (Value shown) s =
          let upto : half.clean.upto ≡ words.mark half.place + 1 = s.0 in
          elim right.stale [
            | inl h ↦ absurd (omega arith)
            | inr t ↦
                s.2
                ∙ sym (t.word word is)
                ∙ value.current (ap (λ (x : Clean). x.upto) t.clean ∙ upto)
                ∙ worth_in_front s.1
          ]
      read_legal word is (Stale shown) s =
          elim (cases_lt number (words.mark half.place)) [
            | inl later ↦
                inr (omega (arith, s.1), subst (λ (m : ℕ). IsTouched touches (entries_of edits) half.place m) (sym s.1) (touched_later later))
            | inr le ↦
                inl (
                  omega (arith, s.1),
                  subst (λ (m : ℕ). IsLastMark touches (take number edits.log) half.place m) (sym s.1) (last_in_front le),
                  λ zero. right.upto.never (let ne : half.clean.upto ≢ words.mark half.place + 1 = s.0 in omega (arith, s.1, right.upto.upto_mark)),
                )
          ]
      read_legal word is (Newer shown) s = (
        omega (arith, s.1, s.2),
        subst (λ (m : ℕ). IsTouched touches edits.log half.place m) (sym s.2)
            (touched_in_log (omega (arith, s.1)) (omega (arith, s.0, right.upto.upto_log))),
      )

      -- the read that the load of the mark ends
      pub read_ends : IsRightRead worth touches codeless edits words (read_of number half (words.mark half.place))
      read_ends =
          record {
            mark_below = omega arith;
            floor = right.floor;
            legal = λ word is.
                record {
                  within = within;
                  floor = right.floor;
                  answer = read_legal word is;
                  last = λ shown s. last_in_front s.1;
                };
          }
