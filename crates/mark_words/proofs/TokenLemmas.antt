-- What a seat's facts ask of a step that leaves the log, the count and what the editor knows.
use Rattle.std.proofs.Common.{◌≡◌, ◌<◌, ◌≤◌, ◌==◌, ◌/◌, ◌^◌, ℕ, List, [], ◌∷◌, Option, Some, None, length, refl, sym, ◌∙◌, ap, subst, arith}
use Rattle.std.specs.Prelude.{All, Contains, IsSome}
use Rattle.std.proofs.lemmas.List.Elements.{All-push, Contains-push}
use Rattle.std.proofs.lemmas.Bool.{cond_both}
use Rattle.std.proofs.lemmas.Option.{none-some, same_Some}
use Rattle.mark_core.specs.declared.words.Clean.{Clean}
use Rattle.mark_core.specs.declared.words.Half.{Half}
use Rattle.mark_core.specs.declared.words.Finished.{Finished}
use Rattle.mark_core.specs.declared.events.Outcome.TheVariants.{Done}
use Rattle.mark_core.specs.declared.actors.Edits.{Edits}
use Rattle.mark_core.specs.declared.actors.View.{View}
use Rattle.mark_core.specs.States.{State}
use Rattle.mark_core.specs.Views.{new_half, read_of, with_word}
use Rattle.mark_core.specs.Growth.{BeginsRead}
use Rattle.mark_core.specs.Knows.{KnowsClean}
use Rattle.mark_core.specs.Marks.{IsLastMark}
use Rattle.mark_core.proofs.ReadLaws.{begins_right}
use Rattle.mark_words.specs.declared.tables.Doing.{Doing}
use Rattle.mark_words.specs.declared.seats.EditorMarks.{EditorMarks}
use Rattle.mark_words.specs.Words.{clean_at}
use Rattle.mark_words.specs.Doing.{no_edits, with_clean_read, with_value_read, with_mark_read, with_finish}
use Rattle.mark_words.specs.EditorMarks.{HasEditorMarks, KnowsAll, FitsWords}
use Rattle.mark_words.specs.Plays.{KeepsRest, KeepsReads}
use Rattle.mark_words.proofs.ReadSteps.{read_end_cases}

-- the word of a begun read leaves its clean word
with_word_fits : (begun : Option Half) (place word : ℕ) → ((half : Half) → begun ≡ Some half → half.clean.upto < 2 ^ 63)
    → (half : Half) → with_word begun place word ≡ Some half → half.clean.upto < 2 ^ 63
with_word_fits None place word fits half is = absurd (none-some half is)
with_word_fits (Some begun) place word fits half is =
    let was : begun.clean.upto < 2 ^ 63 = fits begun refl in
    let given : Half = record begun { word = Some word } in
    cond_both (begun.place == place) (Some given) (Some begun) (λ o. (o ≡ Some half → half.clean.upto < 2 ^ 63))
    (λ e same. subst (λ (h : Half). h.clean.upto < 2 ^ 63) (same_Some given half same) was)
    (λ e same. subst (λ (h : Half). h.clean.upto < 2 ^ 63) (same_Some begun half same) was)
    is

module _ {S E : Type 0} (before after : Doing S E) (rest : KeepsRest before after) where
  pub rest_own : (words words' : ℕ) (found : Option EditorMarks) → words' ≡ words → HasEditorMarks words before found → HasEditorMarks words' after found
  rest_own words words' found same has =
      record {
        editor = rest.editor ∙ has.editor;
        count = λ d e. has.count d e ∙ ap length (sym rest.log);
        marks = λ d e. has.marks d e ∙ sym rest.marks;
        places = λ d e. same ∙ has.places d e;
      }

  pub rest_knows : KnowsAll before → KnowsAll after
  rest_knows knows =
      record {
        log = λ on. rest.log ∙ knows.log (sym rest.editor ∙ on) ∙ ap (λ (x : Edits E). x.log) (sym rest.edits);
        seen = λ on. rest.seen ∙ knows.seen (sym rest.editor ∙ on) ∙ ap length (sym rest.log);
        number = λ on there.
            let room : length before.view.log < 1048576 = knows.number (sym rest.editor ∙ on) (subst (λ (x : Edits E). IsSome x.pending) rest.edits there) in
            omega (arith, ap length rest.log);
      }

  log_fits : FitsWords before → length after.view.log ≤ 1048576
  log_fits fits = omega (arith, fits.log, ap length rest.log)

  -- the clean words that a seat has read fit still where its reads stay,
  pub rest_fits : KeepsReads before after → FitsWords before → FitsWords after
  rest_fits keeps fits =
      record {
        log = log_fits fits;
        half = λ half is. fits.half half (sym keeps.half ∙ is);
        reads = subst (λ (l : List Finished). All (λ (read : Finished). read.clean.upto < 2 ^ 63) l) (sym keeps.reads) fits.reads;
      }

  -- where it begins one with the clean word of a word,
  pub clean_read_fits : (place found : ℕ) → found < 2 ^ 64 → after ≡ with_clean_read before place (clean_at found) → FitsWords before → FitsWords after
  clean_read_fits place found below made fits =
      record {
        log = log_fits fits;
        half = λ half is.
            let half_found : found / 2 < 2 ^ 63 = omega arith in
            subst (λ (h : Half). h.clean.upto < 2 ^ 63)
            (same_Some (new_half before.view place (clean_at found)) half (sym (ap (λ (d : Doing S E). d.view.half) made) ∙ is)) half_found;
        reads = subst (λ (d : Doing S E). All (λ (read : Finished). read.clean.upto < 2 ^ 63) d.view.reads) (sym made) fits.reads;
      }

  -- goes on with a value,
  pub value_read_fits : (place word : ℕ) → after ≡ with_value_read before place word → FitsWords before → FitsWords after
  value_read_fits place word made fits =
      record {
        log = log_fits fits;
        half = λ half is. with_word_fits before.view.half place word fits.half half (sym (ap (λ (d : Doing S E). d.view.half) made) ∙ is);
        reads = subst (λ (d : Doing S E). All (λ (read : Finished). read.clean.upto < 2 ^ 63) d.view.reads) (sym made) fits.reads;
      }

  -- and ends with a mark
  pub mark_read_fits : (place mark : ℕ) → after ≡ with_mark_read before place mark → FitsWords before → FitsWords after
  mark_read_fits place mark made fits =
      subst (λ (d : Doing S E). FitsWords d) (sym made)
      (read_end_cases (λ (v : View (List E)). (let d : Doing S E = record before { view = v } in FitsWords d)) before.view before.view.half place mark
      (record { log = fits.log; half = fits.half; reads = fits.reads })
      (λ half begun of.
      record {
        log = fits.log;
        half = λ other is. absurd (none-some other is);
        reads =
            All-push (λ (read : Finished). read.clean.upto < 2 ^ 63) before.view.reads (read_of before.view.seen half mark) fits.reads (fits.half half begun);
      }))

-- a finished place is known as clean
pub finish_clean : {S E : Type 0} (touches : List E → E → ℕ → Type 0) (log : List E) (before after : Doing S E) (place mark : ℕ)
    → after ≡ with_finish before place mark → IsLastMark touches log place mark → KnowsClean touches log after.view place mark
finish_clean {S} {E} touches log before after place mark made last =
    record {
      known =
          subst (λ (d : Doing S E). Contains d.view.known (record { place = place; mark = mark })) (sym made)
          (Contains-push before.view.known (record { place = place; mark = mark }));
      last = last;
    }

-- a read that begins, whatever clean word it found
pub begins : {E : Type 0} (view : View (List E)) (place : ℕ) (clean : Clean) → BeginsRead view place (new_half view place clean)
begins {E} view place clean =
    let s : State E = record { edits = no_edits; places = []; views = view ∷ [] } in
    let right = begins_right {E = E} (λ log p. 0) (λ log entry p. ⊥) s 0 place Done s in
    record { same_place = refl; no_word = refl; above = right.above; known = right.known }
