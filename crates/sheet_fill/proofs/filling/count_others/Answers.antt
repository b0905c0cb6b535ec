use Rattle.std.proofs.Common.{sym, ◌∙◌}
use Rattle.std.proofs.lemmas.Bool.{true≢false}
use Rattle.sheet_fill.proofs.OtherLemmas.{count_inside, count_outside}
use Rattle.sheet_fill.proofs.filling.count_others.Goals as goal

pub returns-then-contains : goal.returns-then-contains
returns-then-contains c =
    count_inside c.args.from c.args.to.now c.cells.result
    ((c.cells.ensures.listed c.args.from).1 (c.contains.ensures.0 c.if-contains.true)) c.cells.ensures.count

pub returns-else-contains : goal.returns-else-contains
returns-else-contains c =
    count_outside c.args.from c.args.to.now c.cells-else-contains.result
    (λ there. true≢false (sym (c.contains.ensures.1 ((c.cells-else-contains.ensures.listed c.args.from).0 there)) ∙ c.if-contains.false))
    c.cells-else-contains.ensures.count
