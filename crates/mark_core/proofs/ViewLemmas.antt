-- A view stays right through an event of another view, and through each event of its own.
use Rattle.std.proofs.Common.{◌≡◌, ◌<◌, ◌≤◌, ◌+◌, ℕ, List, [], ◌∷◌, ◌++◌, Option, Some, None, true, false, not, ◌==◌}
use Rattle.std.proofs.Common.{max, length, take, drop, refl, sym, ◌∙◌, ap, subst, inl, inr, arith, length-append}
use Rattle.std.specs.Prelude.{Contains, nat_lt}
use Rattle.std.proofs.lemmas.List.{take-append-drop, take_at}
use Rattle.std.proofs.lemmas.List.Elements.{All-nil, All-append, All-push, All-map}
use Rattle.std.proofs.lemmas.Bool.{cases_eq, cond_both, ltb-true, eqb-true}
use Rattle.std.proofs.lemmas.Option.{none-some, same_Some}
use Rattle.mark_core.specs.declared.words.Clean.{Clean}
use Rattle.mark_core.specs.declared.words.Half.{Half}
use Rattle.mark_core.specs.declared.words.Held.{Held}
use Rattle.mark_core.specs.Places.{Words}
use Rattle.mark_core.proofs.Stores.{StoresClean, StoresValue}
use Rattle.mark_core.specs.Marks.{IsPrefix}
use Rattle.mark_core.specs.declared.actors.Edits.{Edits}
use Rattle.mark_core.specs.declared.actors.View.{View}
use Rattle.mark_core.specs.States.{spent_view}
use Rattle.mark_core.specs.Views.{with_count, with_entry, split_off, longer, union_of, floor_of, with_half, with_word}
use Rattle.mark_core.specs.Views.{with_value, with_read, with_read_at, with_read_end, with_hold, with_loss, hold_with}
use Rattle.mark_core.specs.Views.{with_put, without_hold, known_from, read_of}
use Rattle.mark_core.specs.Permissions.{IsWorthKnown, IsWorthMarked}
use Rattle.mark_core.specs.Steps.{commits}
use Rattle.mark_core.specs.Honest.{IsRightMark, IsRightValue, IsRightKnown, IsRightHalf, IsRightRead, IsRightHold, IsRightView}
use Rattle.mark_core.proofs.Prefixes.{prefix_itself, prefix_more, prefix_of_nothing, prefix_length, take-prefix}
use Rattle.mark_core.proofs.Frames.{Advances, log_stays, known_stays, half_stays, read_stays}
use Rattle.mark_core.proofs.Places.{commit_advances, claim_advances, put_advances, finish_advances, finish_below}
use Rattle.mark_core.proofs.Holds.{all_by, all_filter, hold_stays, hold_taken, hold_put, not_this}
use Rattle.mark_core.proofs.ReadLemmas.{half_begins, half_goes_on, learned_right, read_ends}

-- of two prefixes of one list the shorter is a prefix of the longer
pub shorter_prefix : {X : Type 0} (xs ys zs : List X) → IsPrefix xs zs → IsPrefix ys zs → length xs ≤ length ys → IsPrefix xs ys
shorter_prefix xs ys zs p q le =
    let front : take (length xs) ys ≡ xs =
    sym (take-prefix ys zs (length xs) q le) ∙ ap (λ l. take (length xs) l) p.whole ∙ take_at xs p.rest (length xs) refl in
    record {
      rest = drop (length xs) ys;
      whole = sym (take-append-drop (length xs) ys) ∙ ap (λ l. l ++ drop (length xs) ys) front;
    }

-- the longer of two prefixes of one list
pub longer_prefix : {X : Type 0} (xs ys zs : List X) → IsPrefix xs zs → IsPrefix ys zs → IsPrefix (longer xs ys) zs
longer_prefix xs ys zs p q =
    cond_both (nat_lt (length xs) (length ys)) ys xs (λ l. IsPrefix l zs) (λ e. q) (λ e. p)

pub prefix_of_longer : {X : Type 0} (xs ys zs : List X) → IsPrefix xs zs → IsPrefix ys zs → IsPrefix xs (longer xs ys)
prefix_of_longer xs ys zs p q =
    cond_both (nat_lt (length xs) (length ys)) ys xs (λ l. IsPrefix xs l)
    (λ e. let lt : length xs < length ys = ltb-true (length xs) (length ys) e in shorter_prefix xs ys zs p q (omega arith))
    (λ e. prefix_itself xs)

longer_length : {X : Type 0} (xs ys : List X) (m n : ℕ) → length xs ≤ m → length ys ≤ n → length (longer xs ys) ≤ max m n
longer_length xs ys m n h k =
    cond_both (nat_lt (length xs) (length ys)) ys xs (λ l. length l ≤ max m n) (λ e. omega arith) (λ e. omega arith)

module _ {E : Type 0} (worth : List E → ℕ → ℕ) (touches : List E → E → ℕ → Type 0) (codeless : ℕ → Type 0) where
  -- nothing can be wrong of a spent view
  pub view_spent : (edits : Edits E) (words : Words) → IsRightView worth touches codeless edits words spent_view
  view_spent edits words =
      record {
        log = record { known_prefix = prefix_of_nothing edits.log; below_seen = omega arith; seen_below = omega arith };
        known = All-nil (IsRightKnown (length edits.log) words);
        half = λ half is. absurd (none-some half is);
        reads = All-nil (IsRightRead worth touches codeless edits words);
        holds = All-nil (IsRightHold worth words []);
      }

  -- an event that advances edits and words leaves a view right whose held places it leaves alone
  pub view_stays : (edits edits' : Edits E) (words words' : Words) (view : View (List E))
      → Advances edits edits' words words'
      → ((hold : Held) → Contains view.holds hold → IsRightHold worth words view.log hold
      → (words'.clean hold.place ≡ words.clean hold.place) × (words'.value hold.place ≡ words.value hold.place))
      → IsRightView worth touches codeless edits words view → IsRightView worth touches codeless edits' words' view
  view_stays edits edits' words words' view advances same right =
      record {
        log = log_stays worth touches codeless edits edits' words words' advances view right.log;
        known =
            all_by (IsRightKnown (length edits.log) words) (IsRightKnown (length edits'.log) words') view.known right.known
            (λ pair among. known_stays worth touches codeless edits edits' words words' advances pair);
        half = λ half is. half_stays worth touches codeless edits edits' words words' advances half (right.half half is);
        reads =
            all_by (IsRightRead worth touches codeless edits words) (IsRightRead worth touches codeless edits' words') view.reads right.reads
            (λ read among. read_stays worth touches codeless edits edits' words words' advances read);
        holds =
            all_by (IsRightHold worth words view.log) (IsRightHold worth words' view.log) view.holds right.holds
            (λ hold among h.
            let s = same hold among h in
            hold_stays worth words words' view.log view.log hold (prefix_itself view.log) s.0 s.1 h);
      }

  module _ (edits : Edits E) (words : Words) (view : View (List E)) (right : IsRightView worth touches codeless edits words view) where
    pub view_saw : IsRightView worth touches codeless edits words (with_count view (length edits.log))
    view_saw =
        record {
          log = record {
            known_prefix = right.log.known_prefix;
            below_seen = prefix_length view.log edits.log right.log.known_prefix;
            seen_below = omega arith;
          };
          known = right.known;
          half = right.half;
          reads = right.reads;
          holds = right.holds;
        }

    pub view_split : IsRightView worth touches codeless edits words (split_off view)
    view_split =
        record {
          log = record {
            known_prefix = right.log.known_prefix;
            below_seen = right.log.below_seen;
            seen_below = right.log.seen_below;
          };
          known = right.known;
          half = λ half is. absurd (none-some half is);
          reads = All-nil (IsRightRead worth touches codeless edits words);
          holds = All-nil (IsRightHold worth words view.log);
        }

    pub view_joined : (other : View (List E)) → IsRightView worth touches codeless edits words other
        → IsRightView worth touches codeless edits words (union_of view other)
    view_joined other right' =
        record {
          log = record {
            known_prefix = longer_prefix view.log other.log edits.log right.log.known_prefix right'.log.known_prefix;
            below_seen = longer_length view.log other.log view.seen other.seen right.log.below_seen right'.log.below_seen;
            seen_below = omega (arith, right.log.seen_below, right'.log.seen_below);
          };
          known = All-append (IsRightKnown (length edits.log) words) view.known other.known right.known right'.known;
          half = right.half;
          reads = All-append (IsRightRead worth touches codeless edits words) view.reads other.reads right.reads right'.reads;
          holds =
              all_by (IsRightHold worth words view.log) (IsRightHold worth words (longer view.log other.log)) view.holds right.holds
              (λ hold among h.
              hold_stays worth words words view.log (longer view.log other.log) hold
              (prefix_of_longer view.log other.log edits.log right.log.known_prefix right'.log.known_prefix) refl refl h);
        }

    pub view_missed : (place : ℕ) (found : Clean) → IsRightView worth touches codeless edits words (with_loss view place found)
    view_missed place found =
        record {
          log = record {
            known_prefix = right.log.known_prefix;
            below_seen = right.log.below_seen;
            seen_below = right.log.seen_below;
          };
          known = right.known;
          half = right.half;
          reads = right.reads;
          holds = right.holds;
        }

    pub view_began : (place : ℕ) → IsRightValue worth codeless edits.log place (words.mark place) (words.clean place) (words.value place)
        → IsRightView worth touches codeless edits words (with_half view place (words.clean place))
    view_began place value =
        record {
          log = record {
            known_prefix = right.log.known_prefix;
            below_seen = right.log.below_seen;
            seen_below = right.log.seen_below;
          };
          known = right.known;
          half = λ half is.
              subst (λ (h : Half). IsRightHalf codeless (length edits.log) words h)
              (same_Some (record { place = place; clean = words.clean place; floor = floor_of view.known place; word = None }) half is)
              (half_begins worth touches codeless edits.log words view.known place value right.known);
          reads = right.reads;
          holds = right.holds;
        }

    half_with_right : (begun : Option Half) (place : ℕ) → ((half : Half) → begun ≡ Some half → IsRightHalf codeless (length edits.log) words half)
        → (half : Half) → with_word begun place (words.value place) ≡ Some half → IsRightHalf codeless (length edits.log) words half
    half_with_right None place rights half = λ is. absurd (none-some half is)
    half_with_right (Some begun) place rights half =
        cond_both (begun.place == place) (Some (record begun { word = Some (words.value place) })) (Some begun)
        (λ o. (o ≡ Some half → IsRightHalf codeless (length edits.log) words half))
        (λ e is.
        subst (λ (h : Half). IsRightHalf codeless (length edits.log) words h) (same_Some (record begun { word = Some (words.value place) }) half is)
        (half_goes_on worth touches codeless (length edits.log) words begun (words.value place)
        (ap words.value (eqb-true begun.place place e)) (rights begun refl)))
        (λ e is. rights half is)

    pub view_valued : (place : ℕ) → IsRightView worth touches codeless edits words (with_value view place (words.value place))
    view_valued place =
        record {
          log = record {
            known_prefix = right.log.known_prefix;
            below_seen = right.log.below_seen;
            seen_below = right.log.seen_below;
          };
          known = right.known;
          half = half_with_right view.half place right.half;
          reads = right.reads;
          holds = right.holds;
        }

    module _ (place : ℕ)
        (marks : IsRightMark touches edits place (words.mark place))
        (value : IsRightValue worth codeless edits.log place (words.mark place) (words.clean place) (words.value place))
        (untouched : (log : List E) (entry : E) → (touches log entry place → ⊥) → worth (log ++ entry ∷ []) place ≡ worth log place) where
      ended_right : (half : Half) → half.place ≡ place → IsRightHalf codeless (length edits.log) words half
          → IsRightView worth touches codeless edits words (with_read view half (words.mark half.place))
      ended_right half same h =
          let marks' : IsRightMark touches edits half.place (words.mark half.place) =
          subst (λ (p : ℕ). IsRightMark touches edits p (words.mark p)) (sym same) marks in
          let value' : IsRightValue worth codeless edits.log half.place (words.mark half.place) (words.clean half.place) (words.value half.place) =
          subst (λ (p : ℕ). IsRightValue worth codeless edits.log p (words.mark p) (words.clean p) (words.value p)) (sym same) value in
          let law : (log : List E) (entry : E) → (touches log entry half.place → ⊥) → worth (log ++ entry ∷ []) half.place ≡ worth log half.place =
          subst (λ (p : ℕ). (log : List E) (entry : E) → (touches log entry p → ⊥) → worth (log ++ entry ∷ []) p ≡ worth log p) (sym same) untouched in
          record {
            log = record {
              known_prefix = right.log.known_prefix;
              below_seen = right.log.below_seen;
              seen_below = right.log.seen_below;
            };
            known =
                All-append (IsRightKnown (length edits.log) words) view.known (known_from half (words.mark half.place)) right.known
                (learned_right worth touches codeless edits words half h marks');
            half = λ half is. absurd (none-some half is);
            reads =
                All-push (IsRightRead worth touches codeless edits words) view.reads (read_of view.seen half (words.mark half.place)) right.reads
                (read_ends worth touches codeless edits words half h marks' value' law view.seen right.log.seen_below);
            holds = right.holds;
          }

      ended_at_right : (begun : Option Half) → ((half : Half) → begun ≡ Some half → IsRightHalf codeless (length edits.log) words half)
          → IsRightView worth touches codeless edits words (with_read_at view begun place (words.mark place))
      ended_at_right None rights = right
      ended_at_right (Some half) rights =
          cond_both (half.place == place) (with_read view half (words.mark place)) view
          (λ v. IsRightView worth touches codeless edits words v)
          (λ e.
          let same : half.place ≡ place = eqb-true half.place place e in
          subst (λ (m : ℕ). IsRightView worth touches codeless edits words (with_read view half m)) (ap words.mark same)
          (ended_right half same (rights half refl)))
          (λ e. right)

      pub view_finished : IsRightView worth touches codeless edits words (with_read_end view place (words.mark place))
      view_finished = ended_at_right view.half right.half

    -- the editor's view, whose log is the log
    pub view_committed : (entry : E) → edits.pending ≡ Some entry → view.log ≡ edits.log
        → IsRightView worth touches codeless (commits edits entry) words (with_entry view entry)
    view_committed entry pending same =
        let after : IsRightView worth touches codeless (commits edits entry) words view =
        view_stays edits (commits edits entry) words words view (commit_advances worth touches codeless edits entry pending words)
        (λ hold among h. (refl, refl)) right in
        let long : length (view.log ++ entry ∷ []) ≡ length view.log + 1 = length-append view.log (entry ∷ []) in
        let whole : length (edits.log ++ entry ∷ []) ≡ length edits.log + 1 = length-append edits.log (entry ∷ []) in
        let lengths : length view.log ≡ length edits.log = ap length same in
        record {
          log = record {
            known_prefix =
                subst (λ (l : List E). IsPrefix (view.log ++ entry ∷ []) (l ++ entry ∷ [])) same (prefix_itself (view.log ++ entry ∷ []));
            below_seen = omega arith;
            seen_below = omega arith;
          };
          known = after.known;
          half = after.half;
          reads = after.reads;
          holds =
              all_by (IsRightHold worth words view.log) (IsRightHold worth words (view.log ++ entry ∷ [])) view.holds right.holds
              (λ hold among h.
              hold_stays worth words words view.log (view.log ++ entry ∷ []) hold (prefix_more view.log view.log (entry
              ∷ []) (prefix_itself view.log)) refl refl h);
        }

  -- a place with a free clean word is held by no view
  pub claim_leaves : (words words' : Words) (place : ℕ) (seen clean : Clean) (log : List E) (hold : Held)
      → words.clean place ≡ seen → seen.held ≡ false → StoresClean words words' place clean → IsRightHold worth words log hold
      → (words'.clean hold.place ≡ words.clean hold.place) × (words'.value hold.place ≡ words.value hold.place)
  claim_leaves words words' place seen clean log hold found free stores right = (
    stores.cleans hold.place (λ same.
        let held : seen.held ≡ true = sym (ap (λ (x : Clean). x.held) found) ∙ sym (ap (λ p. (words.clean p).held) same) ∙ right.held in
        cc),
    stores.values hold.place,
  )

  -- the claiming view
  pub view_took : (edits : Edits E) (words words' : Words) (view : View (List E)) (place : ℕ) (seen : Clean)
      → words.clean place ≡ seen → seen.held ≡ false → seen.upto ≤ words.mark place
      → StoresClean words words' place (record { upto = seen.upto; held = true })
      → IsRightView worth touches codeless edits words view → IsRightView worth touches codeless edits words' (with_hold view place)
  view_took edits words words' view place seen found free stale stores right =
      let after : IsRightView worth touches codeless edits words' view =
      view_stays edits edits words words' view (claim_advances worth codeless edits words words' place seen found stale stores)
      (λ hold among h. claim_leaves words words' place seen (record { upto = seen.upto; held = true }) view.log hold found free stores h) right in
      record {
        log = record {
          known_prefix = after.log.known_prefix;
          below_seen = after.log.below_seen;
          seen_below = after.log.seen_below;
        };
        known = after.known;
        half = after.half;
        reads = after.reads;
        holds =
            All-push (IsRightHold worth words' view.log) view.holds (record { place = place; word = None }) after.holds
            (hold_taken worth words' view.log place seen.upto stores.stored);
      }

  -- the putting view
  pub view_wrote : (edits : Edits E) (words words' : Words) (view : View (List E)) (place word : ℕ)
      → (words.clean place).upto ≤ words.mark place → StoresValue words words' place word → IsWorthKnown worth view.log place word
      → IsRightView worth touches codeless edits words view → IsRightView worth touches codeless edits words' (with_put view place word)
  view_wrote edits words words' view place word stale stores known right =
      let advances : Advances edits edits words words' = put_advances worth codeless edits words words' place word stale stores in
      record {
        log = record {
          known_prefix = right.log.known_prefix;
          below_seen = right.log.below_seen;
          seen_below = right.log.seen_below;
        };
        known =
            all_by (IsRightKnown (length edits.log) words) (IsRightKnown (length edits.log) words') view.known right.known
            (λ pair among. known_stays worth touches codeless edits edits words words' advances pair);
        half = λ half is. half_stays worth touches codeless edits edits words words' advances half (right.half half is);
        reads =
            all_by (IsRightRead worth touches codeless edits words) (IsRightRead worth touches codeless edits words') view.reads right.reads
            (λ read among. read_stays worth touches codeless edits edits words words' advances read);
        holds =
            All-map (IsRightHold worth words' view.log) (hold_with place word) view.holds
            (all_by (IsRightHold worth words view.log) (λ hold. IsRightHold worth words' view.log (hold_with place word hold)) view.holds right.holds
            (λ hold among. hold_put worth words words' view.log place word hold stores known));
      }

  -- the finishing view
  pub view_gave_back : (edits : Edits E) (words words' : Words) (view : View (List E)) (place word mark : ℕ)
      (computed : IsWorthMarked worth touches view.log place word mark)
      (untouched : (log : List E) (entry : E) → (touches log entry place → ⊥) → worth (log ++ entry ∷ []) place ≡ worth log place)
      → (words.clean place).upto ≤ words.mark place
      → (stores : StoresClean words words' place (record { upto = mark + 1; held = false }))
      → IsRightMark touches edits place (words.mark place)
      → IsRightView worth touches codeless edits words view → IsRightView worth touches codeless edits words' (without_hold view place mark)
  view_gave_back edits words words' view place word mark computed untouched stale stores marks right =
      let advances : Advances edits edits words words' =
      finish_advances worth touches codeless edits words words' view.log place word mark right.log.known_prefix computed untouched stores stale in
      let below : mark ≤ words.mark place =
      finish_below worth touches codeless edits words words' view.log place word mark right.log.known_prefix computed untouched stores marks in
      let known_length : length view.log ≤ length edits.log = prefix_length view.log edits.log right.log.known_prefix in
      let front_length : length (take computed.known.count view.log) ≤ length view.log =
      prefix_length (take computed.known.count view.log) view.log (record {
        rest = drop computed.known.count view.log;
        whole = sym (take-append-drop computed.known.count view.log);
      }) in
      record {
        log = record {
          known_prefix = right.log.known_prefix;
          below_seen = right.log.below_seen;
          seen_below = right.log.seen_below;
        };
        known =
            All-push (IsRightKnown (length edits.log) words') view.known (record { place = place; mark = mark })
            (all_by (IsRightKnown (length edits.log) words) (IsRightKnown (length edits.log) words') view.known right.known
            (λ pair among. known_stays worth touches codeless edits edits words words' advances pair))
            (record {
              within = omega (arith, computed.last.within);
              since =
                  elim (cases_eq mark (words.mark place)) [
                    | inl same ↦
                        inr (record {
                          marked = stores.marks place ∙ sym same;
                          upto = ap (λ (x : Clean). x.upto) stores.stored;
                          free = ap (λ (x : Clean). x.held) stores.stored;
                        })
                    | inr differs ↦ inl (omega (arith, stores.marks place))
                  ];
            });
        half = λ half is. half_stays worth touches codeless edits edits words words' advances half (right.half half is);
        reads =
            all_by (IsRightRead worth touches codeless edits words) (IsRightRead worth touches codeless edits words') view.reads right.reads
            (λ read among. read_stays worth touches codeless edits edits words words' advances read);
        holds =
            all_filter (IsRightHold worth words view.log) (IsRightHold worth words' view.log) (λ hold. not (hold.place == place))
            (λ hold h passes. hold_stays worth words words' view.log view.log hold (prefix_itself view.log)
            (stores.cleans hold.place (not_this hold.place place passes)) (stores.values hold.place) h)
            view.holds
            (all_by (IsRightHold worth words view.log) (λ hold. (not (hold.place == place) ≡ true
            → IsRightHold worth words' view.log hold)) view.holds right.holds
            (λ hold among h passes. hold_stays worth words words' view.log view.log hold (prefix_itself view.log)
            (stores.cleans hold.place (not_this hold.place place passes)) (stores.values hold.place) h));
      }
