use Rattle.std.proofs.Common.{◌≡◌, ◌+◌, drop, length, sym, ◌∙◌, ap, subst}
use Rattle.std.specs.Prelude.{slice_get, IfSome}
use Rattle.sheet_refs.specs.Cells.{cells_of}
use Rattle.formula_eval.specs.Inputs.{IsCode}
use Rattle.recalc_workers.specs.Inputs.{AreCodes, place_in, word_in}
use Rattle.recalc_workers.proofs.LookupLemmas.{code_at, codes_drop, found_here, goes_further}
use Rattle.recalc_workers.proofs.ReadingLemmas.{not_so}
use Rattle.recalc_workers.proofs.lookups.word_of.Goals as goal

pub returns-then-contains-clause-word : goal.returns-then-contains-clause-word
returns-then-contains-clause-word c =
    let got : c.word_at.result ≡ slice_get c.loop-part.rest.now (place_in c.part-item.result.range c.args.cell) =
    c.word_at.ensures ∙ ap (λ n. slice_get c.loop-part.rest.now n) c.place_within.ensures in
    got ∙ sym (found_here c.args.parts.now c.args.words.now c.loop-part.rest.now c.args.cell c.loop-part.part-index
    c.part-item.result c.loop-part.invariant.0 c.loop-part-test.true c.part-item.is
    (c.contains.ensures.0 c.if-contains.true))

pub returns-then-contains-clause-code : goal.returns-then-contains-clause-code
returns-then-contains-clause-code c =
    let got : c.word_at.result ≡ slice_get c.loop-part.rest.now (place_in c.part-item.result.range c.args.cell) =
    c.word_at.ensures ∙ ap (λ n. slice_get c.loop-part.rest.now n) c.place_within.ensures in
    subst (λ o. IfSome o IsCode) (sym got) (code_at c.loop-part.rest.now (place_in c.part-item.result.range c.args.cell) c.loop-part.invariant.1)

pub loop-part-preserved : goal.loop-part-preserved
loop-part-preserved c =
    let further : drop (length (cells_of c.part-item.result.range))
    c.loop-part.rest.now ≡ c.without_first-rest.result.now =
    ap (λ n. drop n c.loop-part.rest.now) (sym c.cells.ensures.count) ∙ sym c.without_first-rest.ensures in (
      goes_further c.args.parts.now c.args.words.now c.loop-part.rest.now c.args.cell c.loop-part.part-index
          c.part-item.result c.loop-part.invariant.0 c.loop-part-test.true c.part-item.is
          (not_so c.contains.result c.if-contains.false c.contains.ensures)
          ∙ ap (λ l. word_in (drop (c.loop-part.part-index + 1) c.args.parts.now) l c.args.cell) further,
      subst AreCodes further (codes_drop (length (cells_of c.part-item.result.range)) c.loop-part.rest.now c.loop-part.invariant.1),
    )
