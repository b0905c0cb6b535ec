use Rattle.text_pieces.proofs.PieceLemmas.{one}
use Rattle.text_pieces.proofs.pieces.send.Goals as goal

pub returns-clause-sent : goal.returns-clause-sent
returns-clause-sent g c = one g.F.FnMut _ _ c.args.piece c.to.result c.to.ensures
