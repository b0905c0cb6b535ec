use Rattle.std.proofs.Common.{rules, of_calls}
use Rattle.text_pieces.proofs.KeepLemmas.{same}
use Rattle.sink_buffer.proofs.SendLemmas.{text_passes}
use Rattle.sheet_cli.proofs.output.pass_parts.Goals as goal

-- the closure's state has the two loans, of the buffer and of the sink
pub returns : goal.returns
returns g c =
    let buffer_name = same _ (λ f. f.0.ghost_name) (λ f last piece told called. let step = called.called in
    let shows = called.shows in search (rules, of_calls)) _ _ _ _ c.send_parts.ensures.sent in
    let out_name = same _ (λ f. f.1.ghost_name) (λ f last piece told called. let step = called.called in
    let shows = called.shows in search (rules, of_calls)) _ _ _ _ c.send_parts.ensures.sent in
    let passes =
    text_passes _ (λ f. g.K.Sink.written f.1.now) (λ f. g.K.Sink.faults f.1.now) (λ f. f.0.now)
    (λ f last piece called. let step = called.called in let shows = called.shows in search (rules, of_calls))
    (λ f last piece called. let step = called.called in let shows = called.shows in search (rules, of_calls))
    (λ f last piece called. let step = called.called in let shows = called.shows in search (rules, of_calls))
    (λ f last piece told called. let step = called.called in let shows = called.shows in search (rules, of_calls))
    _ _ _ _ c.send_parts.ensures.sent in
    search rules
