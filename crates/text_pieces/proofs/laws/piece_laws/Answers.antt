use Rattle.text_pieces.proofs.CallLemmas.{are_pieces}
use Rattle.text_pieces.proofs.laws.piece_laws.Goals as goal

pub returns : goal.returns
returns g c = are_pieces g.F.FnMut
