use Rattle.std.specs.Prelude.{is_ok}
use Rattle.std.proofs.Common.{subst}
use Rattle.text_pieces.specs.Pieces.{HandsOut}
use Rattle.window_text.proofs.live.send_name.Goals as goal

pub returns-clause-sent : goal.returns-clause-sent
returns-clause-sent g c = subst (λ t. HandsOut g.F.FnMut c.args.to.now t (is_ok c.send_bytes.result) c.send_bytes.new.to) c.as_bytes.ensures.value
    c.send_bytes.ensures.sent
