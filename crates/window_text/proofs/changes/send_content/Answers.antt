use Rattle.std.proofs.Common.{true, sym, subst}
use Rattle.sheet_model.specs.Sheets.{content_value}
use Rattle.sheet_model.specs.declared.content.Content.{Content}
use Rattle.text_pieces.specs.Pieces.{HandsOut}
use Rattle.text_pieces.proofs.PieceLemmas.{none}
use Rattle.window_text.specs.Changes.{content_text}
use Rattle.window_text.proofs.changes.send_content.Goals as goal

pub returns-in-Empty-clause-sent : goal.returns-in-Empty-clause-sent
returns-in-Empty-clause-sent g c =
    subst (λ (content : Content). HandsOut g.F.FnMut c.args.to.now
    (content_text c.args.labels.now (content_value content)) true c.args.to.now) (sym c.in-Empty.is)
    (none g.F.FnMut c.args.to.now)
