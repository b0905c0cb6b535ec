-- The editor's own marks go with what its seat knows.
use Rattle.std.proofs.Common.{◌≡◌, ◌<◌, ◌≤◌, ◌+◌, ◌*◌, ℕ, List, [], ◌∷◌, ◌++◌, Option, Some, true, length, sym, ◌∙◌, ap, subst, length-append, arith}
use Rattle.std.specs.Prelude.{slice_set, is_some}
use Rattle.std.proofs.lemmas.List.{length-set}
use Rattle.std.proofs.lemmas.Option.{same_Some}
use Rattle.mark_words.specs.declared.tables.Doing.{Doing}
use Rattle.mark_words.specs.declared.seats.EditorMarks.{EditorMarks}
use Rattle.mark_words.specs.Doing.{with_mark, with_commit}
use Rattle.mark_words.specs.EditorMarks.{HasEditorMarks, KnowsAll, FitsWords}

length_one : {X : Type 0} (xs : List X) (x : X) → length (xs ++ x ∷ []) ≡ length xs + 1
length_one xs x = length-append xs (x ∷ [])

module _ {S E : Type 0} (words words' : ℕ) (same : words' ≡ words) (doing doing' : Doing S E) (found : Option EditorMarks) (own own' : EditorMarks)
    (is : found ≡ Some own) (has : HasEditorMarks words doing found) (entry : E) where
  on : doing.editor ≡ true
  on = has.editor ∙ ap is_some is

  pub own_marked : (place number : ℕ)
      → doing' ≡ with_mark doing entry place number
      → own'.count ≡ own.count → own'.marks.items ≡ slice_set own.marks.items place number
      → HasEditorMarks words' doing' (Some own')
  own_marked place number made count marks =
      record {
        editor = ap (λ (d : Doing S E). d.editor) made ∙ on;
        count = λ d e.
            ap (λ (x : EditorMarks). x.count) (sym (same_Some own' d e)) ∙ count ∙ has.count own is ∙ ap (λ (x : Doing S E). length x.view.log) (sym made);
        marks = λ d e.
            ap (λ (x : EditorMarks). x.marks.items) (sym (same_Some own' d e)) ∙ marks ∙ ap (λ l. slice_set l place number) (has.marks own is)
            ∙ ap (λ (x : Doing S E). x.marks) (sym made);
        places = λ d e.
            let long : length own'.marks.items ≡ length own.marks.items = ap length marks ∙ length-set own.marks.items place number in
            same ∙ has.places own is ∙ ap (λ n. 3 * n + 1) (sym long) ∙ ap (λ (x : EditorMarks). 3 * length x.marks.items + 1) (same_Some own' d e);
      }

  pub own_committed : doing' ≡ with_commit doing entry
      → own'.count ≡ own.count + 1 → own'.marks.items ≡ own.marks.items
      → HasEditorMarks words' doing' (Some own')
  own_committed made count marks =
      record {
        editor = ap (λ (d : Doing S E). d.editor) made ∙ on;
        count = λ d e.
            ap (λ (x : EditorMarks). x.count) (sym (same_Some own' d e)) ∙ count ∙ ap (λ n. n + 1) (has.count own is)
            ∙ sym (length_one doing.view.log entry) ∙ ap (λ (x : Doing S E). length x.view.log) (sym made);
        marks = λ d e.
            ap (λ (x : EditorMarks). x.marks.items) (sym (same_Some own' d e)) ∙ marks ∙ has.marks own is ∙ ap (λ (x : Doing S E). x.marks) (sym made);
        places = λ d e.
            same ∙ has.places own is ∙ ap (λ l. 3 * length l + 1) (sym marks) ∙ ap (λ (x : EditorMarks). 3 * length x.marks.items + 1) (same_Some own' d e);
      }

module _ {S E : Type 0} (doing doing' : Doing S E) (knows : KnowsAll doing) (entry : E) where
  pub knows_marked : (place number : ℕ) → number ≡ length doing.view.log + 1 → number ≤ 1048576
      → doing' ≡ with_mark doing entry place number → KnowsAll doing'
  knows_marked place number is fits made =
      subst (λ (d : Doing S E). KnowsAll d) (sym made)
      (record { log = knows.log; seen = knows.seen; number = λ on there. omega (arith, is, fits) })

  pub knows_committed : doing' ≡ with_commit doing entry → KnowsAll doing'
  knows_committed made =
      subst (λ (d : Doing S E). KnowsAll d) (sym made)
      (record { log = λ e. ap (λ l. l ++ entry ∷ []) (knows.log e); seen = λ e. sym (length_one doing.view.log entry); number = λ on there. absurd (cc) })

module _ {S E : Type 0} (doing doing' : Doing S E) (fits : FitsWords doing) (entry : E) where
  pub fits_marked : (place number : ℕ) → doing' ≡ with_mark doing entry place number → FitsWords doing'
  fits_marked place number made =
      subst (λ (d : Doing S E). FitsWords d) (sym made) (record { log = fits.log; half = fits.half; reads = fits.reads })

  pub fits_committed : length doing.view.log < 1048576 → doing' ≡ with_commit doing entry → FitsWords doing'
  fits_committed room made =
      subst (λ (d : Doing S E). FitsWords d) (sym made)
      (record { log = omega (arith, length_one doing.view.log entry); half = fits.half; reads = fits.reads })
