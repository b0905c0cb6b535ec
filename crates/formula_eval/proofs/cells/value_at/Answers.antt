use Rattle.std.proofs.Common.{◌≡◌, ◌∙◌, ap, sym, ℕ, Option, Some, IsTrue}
use Rattle.std.proofs.lemmas.Option.{MatchOption-at_some}
use Rattle.sheet_refs.specs.Cells.{Position}
use Rattle.sheet_refs.specs.declared.sizes.Sizes.{Sizes}
use Rattle.sheet_refs.specs.Sizes.{is_inside}
use Rattle.value_core.specs.declared.value.Value.{Value}
use Rattle.value_core.specs.Values.{IsValue, code_of}
use Rattle.value_core.specs.Decoding.{value_of_word, value_of_its_code}
use Rattle.formula_eval.specs.Inputs.{seen_values}
use Rattle.formula_eval.proofs.cells.value_at.Goals as goal

seen_known : (sizes : Sizes) (codes : Position → Option ℕ) (cell : Position) (word : ℕ) (v : Value)
    → IsTrue (is_inside sizes cell) → codes cell ≡ Some word → IsValue v × (code_of v ≡ word)
    → v ≡ seen_values sizes codes cell
seen_known sizes codes cell word v inside held is =
    rw (inside, held) (sym (value_of_its_code v is.0) ∙ ap value_of_word is.1)

pub returns : goal.returns
returns g c =
    let sizes = g.I.Inputs.sizes c.args.inputs.now in
    let codes = g.I.Inputs.codes c.args.inputs.now in
    seen_known sizes codes c.args.cell c.unwrap-word.result c.unwrap.result c.requires.inside (sym c.get.ensures.held
    ∙ c.unwrap-word.ensures) (MatchOption-at_some _ _ c.unwrap.result c.unwrap.ensures c.decode.ensures)
