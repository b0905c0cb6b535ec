use Rattle.std.proofs.Common.{refl, ap, ◌++◌, subst}
use Rattle.sink_buffer.specs.Buffers.{HasPassed}
use Rattle.sheet_cli.specs.Outputs.{parts_text}
use Rattle.sheet_cli.proofs.OutputLemmas.{put_rest}
use Rattle.sheet_cli.proofs.output.write_parts.Goals as goal

pub returns-clause-taken : goal.returns-clause-taken
returns-clause-taken g c =
    let before = g.K.Sink.written c.args.out.now in
    let mid = g.K.Sink.written c.pass_parts.new.out in
    let held = c.pass_parts.new.buffer in
    let same = ap (λ b. b ++ parts_text c.args.parts.now) c.requires.empty in
    put_rest before mid (g.K.Sink.written c.finish.new.sink) (parts_text c.args.parts.now) held c.finish.result
    (subst (λ t. HasPassed before mid t held) same (c.if-not-pass_parts.ensures.passed refl)) c.finish.ensures.taken
