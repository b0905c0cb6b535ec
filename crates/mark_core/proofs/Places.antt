-- The marks, clean words and values of the places stay right through each event that stores one of them,
-- and through a commit; and to other views such an event is an advance.
use Rattle.std.proofs.Common.{◌≡◌, ◌<◌, ◌≤◌, ◌+◌, ◌⊎◌, ℕ, List, [], ◌∷◌, ◌++◌, Some, None, true, false, length, take}
use Rattle.std.proofs.Common.{refl, sym, ◌∙◌, ap, subst, inl, inr, arith, length-append}
use Rattle.std.specs.Prelude.{Contains}
use Rattle.std.specs.Option.{option_to_list}
use Rattle.std.proofs.lemmas.List.{append-nil}
use Rattle.std.proofs.lemmas.List.Elements.{Contains-push, Contains-push_cases, Contains-append_left}
use Rattle.std.proofs.lemmas.Option.{same_Some, none-some}
use Rattle.std.proofs.lemmas.Bool.{cases_eq}
use Rattle.mark_core.specs.declared.words.Clean.{Clean}
use Rattle.mark_core.specs.Places.{Words}
use Rattle.mark_core.proofs.Stores.{StoresMark, StoresClean, StoresValue}
use Rattle.mark_core.specs.Marks.{IsPrefix, IsLastMark}
use Rattle.mark_core.specs.declared.actors.Edits.{Edits}
use Rattle.mark_core.specs.States.{entries_of}
use Rattle.mark_core.specs.Steps.{marks_for, commits}
use Rattle.mark_core.specs.Permissions.{IsWorthMarked}
use Rattle.mark_core.specs.Honest.{IsRightMark, IsRightValue}
use Rattle.mark_core.proofs.Prefixes.{prefix_itself, prefix_more, prefix_of_prefix, prefix_length, take_is_prefix}
use Rattle.mark_core.proofs.Prefixes.{touched_in_longer, touched_up_to, last_mark_push, last_mark_push_other}
use Rattle.mark_core.proofs.Prefixes.{worth-prefix}
use Rattle.mark_core.proofs.Frames.{Same, Raised, Reworked, Advances}

nothing_contained : {X : Type 0} (x : X) → Contains {X = X} [] x → ⊥
nothing_contained x c = absurd (let h : c.0 < 0 = c.1 in omega arith)

module _ {E : Type 0} (touches : List E → E → ℕ → Type 0) where
  -- no mark is past the pending number
  pub mark_bound : (edits : Edits E) (place mark : ℕ) → IsRightMark touches edits place mark → mark ≤ length edits.log + 1
  mark_bound edits place mark right =
      elim right [ inl p ↦ omega (arith, p.number) | inr s ↦ omega (arith, s.last.within) ]

  mark_same : (edits : Edits E) (place mark mark' : ℕ) → mark' ≡ mark → IsRightMark touches edits place mark → IsRightMark touches edits place mark'
  mark_same edits place mark mark' e right = subst (λ (m : ℕ). IsRightMark touches edits place m) (sym e) right

module _ {E : Type 0} (worth : List E → ℕ → ℕ) (codeless : ℕ → Type 0) where
  value_same : (log : List E) (place mark mark' : ℕ) (clean clean' : Clean) (value value' : ℕ)
      → mark' ≡ mark → clean' ≡ clean → value' ≡ value
      → IsRightValue worth codeless log place mark clean value → IsRightValue worth codeless log place mark' clean' value'
  value_same log place mark mark' clean clean' value value' e f g right =
      subst (λ (m : ℕ). IsRightValue worth codeless log place m clean' value') (sym e)
      (subst (λ (x : Clean). IsRightValue worth codeless log place mark x value') (sym f)
      (subst (λ (v : ℕ). IsRightValue worth codeless log place mark clean v) (sym g) right))

-- a mark of one more place
module _ {E : Type 0} (worth : List E → ℕ → ℕ) (touches : List E → E → ℕ → Type 0) (codeless : ℕ → Type 0)
    (edits : Edits E) (words words' : Words) (entry : E) (place : ℕ)
    (stores : StoresMark words words' place (length edits.log + 1)) where
  pub marks_after_mark : (edits.pending ≡ None) ⊎ (edits.pending ≡ Some entry) → touches edits.log entry place
      → (other : ℕ) → IsRightMark touches edits other (words.mark other) → IsRightMark touches (marks_for edits entry place) other (words'.mark other)
  marks_after_mark idle touched other right =
      elim (cases_eq other place) [
        | inl same ↦
            subst (λ (p : ℕ). IsRightMark touches (marks_for edits entry place) p (words'.mark p)) (sym same)
            (inl (record { marked = Contains-push edits.marked place; entry = entry; pending = refl; touched = touched; number = stores.stored }))
        | inr differs ↦
            mark_same touches (marks_for edits entry place) other (words.mark other) (words'.mark other) (stores.marks other differs)
            (elim right [
              | inl p ↦
                  elim idle [
                    | inl none ↦ absurd (none-some p.entry (sym none ∙ p.pending))
                    | inr some ↦
                        let same : p.entry ≡ entry = same_Some p.entry entry (sym p.pending ∙ some) in
                        inl (record {
                          marked = Contains-append_left edits.marked (place ∷ []) other p.marked;
                          entry = entry;
                          pending = refl;
                          touched = subst (λ (x : E). touches edits.log x other) same p.touched;
                          number = p.number;
                        })
                  ]
              | inr s ↦
                  inr (record {
                    unmarked = λ c. elim (Contains-push_cases edits.marked place other c) [ inl old ↦ s.unmarked old | inr e ↦ differs (sym e) ];
                    last = s.last;
                  })
            ])
      ]

  pub values_after_mark : (other : ℕ) → IsRightValue worth codeless edits.log other (words.mark other) (words.clean other) (words.value other)
      → IsRightValue worth codeless edits.log other (words'.mark other) (words'.clean other) (words'.value other)
  values_after_mark other right =
      elim (cases_eq other place) [
        | inl same ↦
            let number : words'.mark other ≡ length edits.log + 1 = ap words'.mark same ∙ stores.stored in
            value_same worth codeless edits.log other (length edits.log + 1) (words'.mark other) (words.clean other)
            (words'.clean other) (words.value other) (words'.value other)
            number (stores.cleans other) (stores.values other)
            (record {
              upto = record { upto_mark = omega (arith, right.upto.upto_log); upto_log = right.upto.upto_log; never = right.upto.never };
              current = λ e. absurd (omega (arith, right.upto.upto_log));
              held = λ h. omega (arith, right.upto.upto_log);
            })
        | inr differs ↦
            value_same worth codeless edits.log other (words.mark other) (words'.mark other) (words.clean other)
            (words'.clean other) (words.value other) (words'.value other)
            (stores.marks other differs) (stores.cleans other) (stores.values other) right
      ]

  pub mark_advances : (edits.pending ≡ None) ⊎ (edits.pending ≡ Some entry) → words.mark place ≤ length edits.log + 1
      → Advances edits (marks_for edits entry place) words words'
  mark_advances idle below =
      record {
        log = prefix_itself edits.log;
        entries =
            elim idle [
              | inl none ↦
                  record {
                    rest = entry ∷ [];
                    whole = sym (ap (λ o. (edits.log ++ option_to_list o) ++ entry ∷ []) none ∙ ap (λ l. l ++ entry ∷ []) (append-nil edits.log));
                  }
              | inr some ↦
                  record {
                    rest = [];
                    whole = sym (append-nil (edits.log ++ option_to_list edits.pending) ∙ ap (λ o. edits.log ++ option_to_list o) some);
                  }
            ];
        place = λ other.
            elim (cases_eq other place) [
              | inl same ↦
                  Raised (record {
                    below = subst (λ (p : ℕ). words.mark p ≤ length edits.log + 1) (sym same) below;
                    mark = ap words'.mark same ∙ stores.stored;
                  })
              | inr differs ↦ Same (record { mark = stores.marks other differs; clean = stores.cleans other; value = stores.values other })
            ];
      }

-- a commit of the pending entry
module _ {E : Type 0} (worth : List E → ℕ → ℕ) (touches : List E → E → ℕ → Type 0) (codeless : ℕ → Type 0)
    (edits : Edits E) (entry : E) (pending : edits.pending ≡ Some entry) where
  pub marks_after_commit : (place mark : ℕ) → (touches edits.log entry place → Contains edits.marked place)
      → IsRightMark touches edits place mark → IsRightMark touches (commits edits entry) place mark
  marks_after_commit place mark all right =
      inr (record {
        unmarked = nothing_contained place;
        last =
            elim right [
              | inl p ↦
                  let same : p.entry ≡ entry = same_Some p.entry entry (sym p.pending ∙ pending) in
                  subst (λ (m : ℕ). IsLastMark touches (edits.log ++ entry ∷ []) place m) (sym p.number)
                  (last_mark_push touches edits.log entry place (subst (λ (x : E). touches edits.log x place) same p.touched))
              | inr s ↦ last_mark_push_other touches edits.log entry place mark (λ t. s.unmarked (all t)) s.last
            ];
      })

  pub values_after_commit : (place mark : ℕ) (clean : Clean) (value : ℕ)
      → (touches edits.log entry place → Contains edits.marked place)
      → ((touches edits.log entry place → ⊥) → worth (edits.log ++ entry ∷ []) place ≡ worth edits.log place)
      → IsRightMark touches edits place mark
      → IsRightValue worth codeless edits.log place mark clean value → IsRightValue worth codeless (edits.log ++ entry ∷ []) place mark clean value
  values_after_commit place mark clean value all untouched marks right =
      let long : length (edits.log ++ entry ∷ []) ≡ length edits.log + 1 = length-append edits.log (entry ∷ []) in
      record {
        upto = record { upto_mark = right.upto.upto_mark; upto_log = omega (arith, right.upto.upto_log); never = right.upto.never };
        current = λ e.
            elim marks [
              | inl p ↦ absurd (omega (arith, p.number, right.upto.upto_log))
              | inr s ↦ right.current e ∙ sym (untouched (λ t. s.unmarked (all t)))
            ];
        held = right.held;
      }

  pub commit_advances : (words : Words) → Advances edits (commits edits entry) words words
  commit_advances words =
      record {
        log = prefix_more edits.log edits.log (entry ∷ []) (prefix_itself edits.log);
        entries =
            record { rest = []; whole = sym (ap (λ o. (edits.log ++ option_to_list o) ++ []) pending) };
        place = λ other. Same (record { mark = refl; clean = refl; value = refl });
      }

-- a claim that takes the place
module _ {E : Type 0} (worth : List E → ℕ → ℕ) (codeless : ℕ → Type 0)
    (edits : Edits E) (words words' : Words) (place : ℕ) (seen : Clean)
    (found : words.clean place ≡ seen) (stale : seen.upto ≤ words.mark place)
    (stores : StoresClean words words' place (record { upto = seen.upto; held = true })) where
  pub values_after_claim : (other : ℕ) → IsRightValue worth codeless edits.log other (words.mark other) (words.clean other) (words.value other)
      → IsRightValue worth codeless edits.log other (words'.mark other) (words'.clean other) (words'.value other)
  values_after_claim other right =
      elim (cases_eq other place) [
        | inl same ↦
            let taken : Clean = record { upto = seen.upto; held = true } in
            let upto : (words.clean other).upto ≡ seen.upto = ap (λ p. (words.clean p).upto) same ∙ ap (λ (x : Clean). x.upto) found in
            let below : seen.upto ≤ words.mark other = subst (λ (p : ℕ). seen.upto ≤ words.mark p) (sym same) stale in
            value_same worth codeless edits.log other (words.mark other) (words'.mark other) taken (words'.clean other) (words.value other) (words'.value other)
            (stores.marks other) (ap words'.clean same ∙ stores.stored) (stores.values other)
            (record {
              upto = record { upto_mark = omega arith; upto_log = omega (arith, right.upto.upto_log); never = λ e. right.upto.never (upto ∙ e) };
              current = λ e. absurd (omega arith);
              held = λ h. below;
            })
        | inr differs ↦
            value_same worth codeless edits.log other (words.mark other) (words'.mark other) (words.clean other)
            (words'.clean other) (words.value other) (words'.value other)
            (stores.marks other) (stores.cleans other differs) (stores.values other) right
      ]

  pub claim_advances : Advances edits edits words words'
  claim_advances =
      record {
        log = prefix_itself edits.log;
        entries = prefix_itself (entries_of edits);
        place = λ other.
            elim (cases_eq other place) [
              | inl same ↦
                  Reworked (record {
                    mark = stores.marks other;
                    stale =
                        subst (λ (p : ℕ). (words.clean p).upto ≤ words.mark p) (sym same)
                        (subst (λ (x : Clean). x.upto ≤ words.mark place) (sym found) stale);
                  })
              | inr differs ↦ Same (record { mark = stores.marks other; clean = stores.cleans other differs; value = stores.values other })
            ];
      }

-- a put to a held place
module _ {E : Type 0} (worth : List E → ℕ → ℕ) (codeless : ℕ → Type 0)
    (edits : Edits E) (words words' : Words) (place word : ℕ)
    (stale : (words.clean place).upto ≤ words.mark place)
    (stores : StoresValue words words' place word) where
  pub values_after_put : (other : ℕ) → IsRightValue worth codeless edits.log other (words.mark other) (words.clean other) (words.value other)
      → IsRightValue worth codeless edits.log other (words'.mark other) (words'.clean other) (words'.value other)
  values_after_put other right =
      elim (cases_eq other place) [
        | inl same ↦
            let below : (words.clean other).upto ≤ words.mark other = subst (λ (p : ℕ). (words.clean p).upto ≤ words.mark p) (sym same) stale in
            value_same worth codeless edits.log other (words.mark other) (words'.mark other) (words.clean other)
            (words'.clean other) (words'.value other) (words'.value other)
            (stores.marks other) (stores.cleans other) refl
            (record {
              upto = right.upto;
              current = λ e. absurd (omega arith);
              held = right.held;
            })
        | inr differs ↦
            value_same worth codeless edits.log other (words.mark other) (words'.mark other) (words.clean other)
            (words'.clean other) (words.value other) (words'.value other)
            (stores.marks other) (stores.cleans other) (stores.values other differs) right
      ]

  pub put_advances : Advances edits edits words words'
  put_advances =
      record {
        log = prefix_itself edits.log;
        entries = prefix_itself (entries_of edits);
        place = λ other.
            elim (cases_eq other place) [
              | inl same ↦
                  Reworked (record {
                    mark = stores.marks other;
                    stale = subst (λ (p : ℕ). (words.clean p).upto ≤ words.mark p) (sym same) stale;
                  })
              | inr differs ↦ Same (record { mark = stores.marks other; clean = stores.cleans other; value = stores.values other differs })
            ];
      }

-- a finish of a held place, for a mark that the view knows as its last over some of the entries
module _ {E : Type 0} (worth : List E → ℕ → ℕ) (touches : List E → E → ℕ → Type 0) (codeless : ℕ → Type 0)
    (edits : Edits E) (words words' : Words) (known : List E) (place word mark : ℕ)
    (below : IsPrefix known edits.log) (computed : IsWorthMarked worth touches known place word mark)
    (untouched : (log : List E) (entry : E) → (touches log entry place → ⊥) → worth (log ++ entry ∷ []) place ≡ worth log place)
    (stores : StoresClean words words' place (record { upto = mark + 1; held = false })) where
  front : List E
  front = take computed.known.count known

  front_prefix : IsPrefix (take computed.known.count known) edits.log
  front_prefix = prefix_of_prefix (take computed.known.count known) known edits.log (take_is_prefix computed.known.count known) below

  mark_within : mark ≤ length edits.log
  mark_within = omega (arith, computed.last.within, prefix_length (take computed.known.count known) edits.log front_prefix)

  -- the mark that was computed for is no later than the present one
  pub finish_below : IsRightMark touches edits place (words.mark place) → mark ≤ words.mark place
  finish_below right =
      elim right [
        | inl p ↦ omega (arith, p.number, mark_within)
        | inr s ↦
            elim (cases_eq mark 0) [
              | inl zero ↦ omega arith
              | inr some ↦
                  touched_up_to touches edits.log place mark (words.mark place)
                  (touched_in_longer touches (take computed.known.count known) edits.log place mark front_prefix (computed.last.touched (omega arith)))
                  s.last
            ]
      ]

  worth_kept : IsRightMark touches edits place (words.mark place) → mark + 1 ≡ words.mark place + 1 → word ≡ worth edits.log place
  worth_kept right e =
      let same : words.mark place ≡ mark = omega arith in
      elim right [
        | inl p ↦ absurd (omega (arith, p.number, mark_within))
        | inr s ↦
            sym computed.known.worth_is
            ∙ sym (worth-prefix touches worth place untouched (take computed.known.count known) edits.log mark front_prefix computed.last.within
            (subst (λ (m : ℕ). IsLastMark touches edits.log place m) same s.last))
      ]

  pub values_after_finish : words.value place ≡ word → (other : ℕ) → IsRightMark touches edits other (words.mark other)
      → IsRightValue worth codeless edits.log other (words.mark other) (words.clean other) (words.value other)
      → IsRightValue worth codeless edits.log other (words'.mark other) (words'.clean other) (words'.value other)
  values_after_finish put other marks right =
      elim (cases_eq other place) [
        | inl same ↦
            let free : Clean = record { upto = mark + 1; held = false } in
            let marks' : IsRightMark touches edits place (words.mark place) = subst (λ (p : ℕ). IsRightMark touches edits p (words.mark p)) same marks in
            subst (λ (p : ℕ). IsRightValue worth codeless edits.log p (words'.mark p) (words'.clean p) (words'.value p)) (sym same)
            (value_same worth codeless edits.log place (words.mark place) (words'.mark place) free (words'.clean place) (words.value place) (words'.value place)
            (stores.marks place) stores.stored (stores.values place)
            (record {
              upto = record { upto_mark = omega (arith, finish_below marks'); upto_log = omega (arith, mark_within); never = λ e. absurd (omega arith) };
              current = λ e. put ∙ worth_kept marks' e;
              held = λ h. absurd (cc);
            }))
        | inr differs ↦
            value_same worth codeless edits.log other (words.mark other) (words'.mark other) (words.clean other)
            (words'.clean other) (words.value other) (words'.value other)
            (stores.marks other) (stores.cleans other differs) (stores.values other) right
      ]

  pub finish_advances : (words.clean place).upto ≤ words.mark place → Advances edits edits words words'
  finish_advances stale =
      record {
        log = prefix_itself edits.log;
        entries = prefix_itself (entries_of edits);
        place = λ other.
            elim (cases_eq other place) [
              | inl same ↦
                  Reworked (record {
                    mark = stores.marks other;
                    stale = subst (λ (p : ℕ). (words.clean p).upto ≤ words.mark p) (sym same) stale;
                  })
              | inr differs ↦ Same (record { mark = stores.marks other; clean = stores.cleans other differs; value = stores.values other })
            ];
      }
