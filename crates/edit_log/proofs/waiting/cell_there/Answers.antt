use Rattle.std.proofs.Common.{subst, sym}
use Rattle.sheet_refs.specs.Sizes.{AreNamed}
use Rattle.edit_log.proofs.TouchLemmas.{sizes_named}
use Rattle.edit_log.proofs.waiting.cell_there.Goals as goal

pub cell_at-requires-clause-named : goal.cell_at-requires-clause-named
cell_at-requires-clause-named c = subst AreNamed (sym c.sizes.ensures.sizes) (sizes_named c.args.sheet.now.sizes c.sizes.ensures.sheet.size)
