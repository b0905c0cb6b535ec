use Rattle.std.proofs.Common.{subst}
use Rattle.sheet_io.specs.Sink.{Puts}
use Rattle.sheet_cli.proofs.output.Output.write.Goals as goal

pub returns-clause-taken : goal.returns-clause-taken
returns-clause-taken g c =
    subst (λ t. Puts (g.K.Sink.written c.args.out.now) (g.K.Sink.written c.write_parts-written.new.out) t c.write_parts-written.result)
    c.self.view_is c.write_parts-written.ensures.taken
