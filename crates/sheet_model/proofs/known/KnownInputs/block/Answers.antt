use Rattle.std.proofs.Common.{◌-◌, IsTrue, drop, length, subst, sym, ◌∙◌, ap, refl, arith}
use Rattle.std.proofs.lemmas.List.{length-drop, take_all}
use Rattle.sheet_refs.specs.Cells.{Position}
use Rattle.sheet_refs.specs.Sizes.{is_inside, place_of}
use Rattle.sheet_model.proofs.BlockLemmas.{head_inside, holds_words}
use Rattle.sheet_model.proofs.known.KnownInputs.block.Goals as goal

pub place-head-requires : goal.place-head-requires
place-head-requires c =
    subst (λ (p : Position). IsTrue (is_inside c.args.self.now.sizes p)) (sym c.head.ensures.head)
    (head_inside c.args.self.now.sizes c.args.range c.head.ensures.ordered c.requires)

pub returns : goal.returns
returns c =
    let words = c.args.self.now.words.now in
    let head = c.place-head.result in
    let rest = take_all (length words - head) (drop head words) (omega (arith, length-drop head words)) in
    holds_words c.args.self.now.sizes words c.args.range head _ c.args.self.now.count c.head.ensures.ordered c.requires
    (c.place-head.ensures.place ∙ ap (place_of c.args.self.now.sizes) c.head.ensures.head) rest refl
