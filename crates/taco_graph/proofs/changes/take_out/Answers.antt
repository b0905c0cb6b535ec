use Rattle.std.proofs.Common.{ℕ, List, sym, subst}
use Rattle.taco_graph.specs.Changes.{HoldersAreAmong}
use Rattle.taco_graph.proofs.ReplaceLemmas.{holders_named}
use Rattle.taco_graph.proofs.changes.take_out.Goals as goal

pub take_out_listed-requires-clause-all : goal.take_out_listed-requires-clause-all
take_out_listed-requires-clause-all g c =
    subst (λ (keys : List ℕ). HoldersAreAmong c.args.store.now.slots c.args.cell keys) (sym c.deref.ensures.value)
    (holders_named c.args.store.now.slots c.args.cell c.of.result c.keys_by_run.new.keys.items
    c.keys_by_run.ensures.edges c.of.ensures.both.0 c.in-Ok.ensures.named)
