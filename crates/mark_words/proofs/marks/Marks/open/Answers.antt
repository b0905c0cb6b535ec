use Rattle.std.proofs.Common.{◌≡◌, ◌+◌, ◌*◌, ◌∷◌, length, sym, ◌∙◌, ap}
use Rattle.mark_words.specs.declared.tables.Topic.{Topic}
use Rattle.mark_words.specs.Words.{opening_words}
use Rattle.mark_words.specs.Rules.{place_count}
use Rattle.mark_words.proofs.OpeningLemmas.{opens, sized_words, opening_moves}
use Rattle.mark_words.proofs.marks.Marks.open.Goals as goal

pub of_words-requires : goal.of_words-requires
of_words-requires g c =
    let codes : c.of-4.result.value ≡ c.args.opening.now = c.of-4.ensures ∙ c.of-2.ensures in
    opens (g.S.Subject.places c.of.result.value) (g.S.Subject.worth c.of.result.value) (g.S.Subject.touches c.of.result.value)
    (record { subject = c.of.result; opening = c.of-4.result })
    (opening_moves g.S.Subject.places g.S.Subject.worth c.args.subject c.of.result.value c.args.opening.now
    c.of-4.result.value c.of.ensures codes c.requires.right)
    c.deref.result.now
    (c.deref.ensures.value ∙ c.in_ok-words.ensures ∙ ap (λ l. 0 ∷ opening_words l) (sym codes))

pub invariant_of-result : goal.invariant_of-result
invariant_of-result g c =
    let codes : c.of-4.result.value ≡ c.args.opening.now = c.of-4.ensures ∙ c.of-2.ensures in
    let words : length c.deref.result.now ≡ 3 * length c.of-4.result.value + 1 =
    sized_words c.of-4.result.value c.deref.result.now (c.deref.ensures.value ∙ c.in_ok-words.ensures ∙ ap (λ l. 0 ∷ opening_words l) (sym codes)) in
    record {
      no_slots = c.in_ok-table.ensures.1;
      sized = c.in_ok-table.ensures.0 ∙ words
          ∙ ap (λ (t : Topic _). 3 * place_count t + 1) (sym c.in_ok-table.ensures.5);
    }
