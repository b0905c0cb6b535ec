use Rattle.std.proofs.Common.{sym, subst, true}
use Rattle.text_pieces.specs.Pieces.{HandsOut}
use Rattle.window_text.specs.Texts.{shown_value}
use Rattle.text_pieces.proofs.PieceLemmas.{none}
use Rattle.window_text.proofs.pieces.send_value.Goals as goal

pub returns-in-Empty-clause-sent : goal.returns-in-Empty-clause-sent
returns-in-Empty-clause-sent g c =
    subst (λ v. HandsOut g.F.FnMut c.args.to.now (shown_value c.args.labels.now v) true c.args.to.now) (sym c.in-Empty.is) (none g.F.FnMut c.args.to.now)
