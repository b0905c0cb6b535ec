use Rattle.std.proofs.Common.{◌≡◌, Bool, true, false, [], sym, subst, arith}
use Rattle.std.specs.Prelude.{nat_lt, if◌then◌else◌}
use Rattle.std.proofs.lemmas.Bool.Decides.{nat_tests}
use Rattle.text_pieces.specs.Pieces.{HandsOut}
use Rattle.text_pieces.proofs.PieceLemmas.{none}
use Rattle.formula_syntax.specs.Printing.{top_level as level_at_top}
use Rattle.formula_syntax.specs.Tree.{tree_of}
use Rattle.formula_syntax.proofs.printer.send_bracket.Goals as goal

pub returns-clause-sent : goal.returns-clause-sent
returns-clause-sent g c =
    let least = c.if-top_level-level.false in
    let same = c.top_level.ensures in
    let loose : nat_lt (level_at_top (tree_of c.args.node.now)) c.args.level ≡ false = grind (arith, nat_tests, least, same) in
    subst (λ (b : Bool). HandsOut g.F.FnMut c.args.to.now (if b then c.args.byte.now else []) true c.args.to.now) (sym loose) (none g.F.FnMut c.args.to.now)
