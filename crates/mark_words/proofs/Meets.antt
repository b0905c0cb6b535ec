-- What the see that ends a meet tells.
use Rattle.std.proofs.Common.{◌≡◌, ◌<◌, ◌≤◌, ◌^◌, ◌⊎◌, ℕ, List, [], ◌∷◌, ◌++◌, Bool, true, false, Option, max, length}
use Rattle.std.proofs.Common.{refl, sym, ◌∙◌, ap, subst, inl, inr, arith}
use Rattle.std.specs.Prelude.{if◌then◌else◌, nat_lt, is_some, All, Contains}
use Rattle.std.proofs.lemmas.List.{append-nil}
use Rattle.std.proofs.lemmas.List.Elements.{Contains-append_left, Contains-append_right}
use Rattle.atomic_table.specs.Table.{Me, Step}
use Rattle.mark_core.specs.declared.words.Known.{Known}
use Rattle.mark_core.specs.declared.words.Finished.{Finished}
use Rattle.mark_core.specs.Marks.{IsPrefix}
use Rattle.mark_core.proofs.Prefixes.{prefix_itself}
use Rattle.mark_words.specs.declared.tables.Doing.{Doing}
use Rattle.mark_words.specs.declared.tables.History.{History}
use Rattle.mark_words.specs.declared.seats.EditorMarks.{EditorMarks}
use Rattle.mark_words.specs.Doing.{copy_of, union_doing, with_see}
use Rattle.mark_words.specs.EditorMarks.{HasEditorMarks, KnowsAll, FitsWords}
use Rattle.mark_words.specs.Plays.{Saw}
use Rattle.mark_words.specs.Meets.{HasMet, KeepsClean}

-- of two lists of which the chosen shorter one is a prefix of the other, both are
both_prefix : {X : Type 0} (b : Bool) (xs ys : List X) → IsPrefix (if b then xs else ys) (if b then ys else xs)
    → IsPrefix xs (if b then ys else xs) × IsPrefix ys (if b then ys else xs) × (((if b then ys else xs) ≡ xs) ⊎ ((if b then ys else xs) ≡ ys))
both_prefix true xs ys p = (p, prefix_itself ys, inr refl)
both_prefix false xs ys p = (prefix_itself xs, p, inl refl)

module _ {S E : Type 0} (step : Step E) (seat other : Doing S E) (joined after : Me E (History S E)) (found : ℕ)
    (is : joined.0.doing ≡ union_doing seat (copy_of other)) (saw : Saw step joined found after) (knows : KnowsAll seat) where
  made : after.0.doing ≡ with_see (union_doing seat (copy_of other)) found
  made = saw.doing ∙ ap (λ (d : Doing S E). with_see d found) is

  logs : IsPrefix seat.view.log (union_doing seat (copy_of other)).view.log × IsPrefix other.view.log (union_doing seat (copy_of other)).view.log
      × (((union_doing seat (copy_of other)).view.log ≡ seat.view.log) ⊎ ((union_doing seat (copy_of other)).view.log ≡ other.view.log))
  logs =
      both_prefix (nat_lt (length seat.view.log) (length other.view.log)) seat.view.log other.view.log
      (subst (λ (d : Doing S E). IsPrefix d.shorter d.view.log) is saw.shorter)

  whole : seat.editor ≡ true → (found ≡ length seat.view.log) × ((union_doing seat (copy_of other)).view.log ≡ seat.view.log)
  whole e =
      let told = saw.editor (ap (λ (d : Doing S E). d.editor) is ∙ e) in
      let stays : (union_doing seat (copy_of other)).view.log ≡ seat.view.log =
      ap (λ (d : Doing S E). d.view.log) (sym is) ∙ told.1 ∙ ap (λ (d : Doing S E). d.edits.log) is ∙ sym (knows.log e) in
      (told.0 ∙ ap (λ (d : Doing S E). length d.view.log) is ∙ ap length stays, stays)

  pub met : HasMet seat other after.0.doing
  met =
      let both = logs in
      let known : length (union_doing seat (copy_of other)).view.log ≤ found = subst (λ (d : Doing S E). length d.view.log ≤ found) is saw.within in
      let most : max seat.view.seen other.view.seen ≤ found = subst (λ (d : Doing S E). d.view.seen ≤ found) is saw.seen in
      subst (λ (d : Doing S E). HasMet seat other d) (sym made)
      (record {
        own_log = both.0;
        other_log = both.1;
        one_log = both.2;
        known_seen = known;
        own_seen = omega arith;
        other_seen = omega arith;
        sees = ap (λ l. l ++ found ∷ []) (append-nil seat.view.sees);
        known = refl;
        half = refl;
        reads = append-nil seat.view.reads;
        holds = refl;
        done = append-nil seat.view.done;
        lost = append-nil seat.view.lost;
        subject = refl;
        editor = refl;
        edits = refl;
        marks = refl;
        log_stays = λ e. (whole e).1;
        seen_stays = λ e. (whole e).0 ∙ sym (knows.seen e);
      })

  pub met_knows : KnowsAll after.0.doing
  met_knows =
      subst (λ (d : Doing S E). KnowsAll d) (sym made)
      (record {
        log = λ e. (whole e).1 ∙ knows.log e;
        seen = λ e. (whole e).0 ∙ ap length (sym (whole e).1);
        number = λ e there. subst (λ (l : List E). length l < 1048576) (sym (whole e).1) (knows.number e there);
      })

  pub met_live : after.0.doing.view.spent ≡ seat.view.spent
  met_live = ap (λ (d : Doing S E). d.view.spent) made

  pub met_own : (words words' : ℕ) (own : Option EditorMarks) → words' ≡ words → HasEditorMarks words seat own → HasEditorMarks words' after.0.doing own
  met_own words words' own same has =
      subst (λ (d : Doing S E). HasEditorMarks words' d own) (sym made)
      (record {
        editor = has.editor;
        count = λ d e. has.count d e ∙ ap length (sym (whole (has.editor ∙ ap is_some e)).1);
        marks = has.marks;
        places = λ d e. same ∙ has.places d e;
      })

  -- what a seat of the table that has met another one knows fits in words
  pub met_fits : FitsWords seat → FitsWords other → FitsWords after.0.doing
  met_fits own others =
      subst (λ (d : Doing S E). FitsWords d) (sym made)
      (record {
        log =
            elim logs.2 [
              | inl same ↦ subst (λ (l : List E). length l ≤ 1048576) (sym same) own.log
              | inr same ↦ subst (λ (l : List E). length l ≤ 1048576) (sym same) others.log
            ];
        half = own.half;
        reads = subst (λ (l : List Finished). All (λ (read : Finished). read.clean.upto < 2 ^ 63) l) (sym (append-nil seat.view.reads)) own.reads;
      })

  pub met_clean : (touches : List E → E → ℕ → Type 0) → KeepsClean touches seat other after.0.doing
  met_clean touches log place mark either =
      let known : after.0.doing.view.known ≡ seat.view.known ++ other.view.known = ap (λ (d : Doing S E). d.view.known) made in
      elim either [
        | inl own ↦
            record {
              known =
                  subst (λ (l : List Known). Contains l (record { place = place; mark = mark })) (sym known)
                  (Contains-append_left seat.view.known other.view.known (record { place = place; mark = mark }) own.known);
              last = own.last;
            }
        | inr theirs ↦
            record {
              known =
                  subst (λ (l : List Known). Contains l (record { place = place; mark = mark })) (sym known)
                  (Contains-append_right seat.view.known other.view.known (record { place = place; mark = mark }) theirs.known);
              last = theirs.last;
            }
      ]

  pub met_subject : after.0.doing.subject ≡ seat.subject
  met_subject = ap (λ (d : Doing S E). d.subject) made
