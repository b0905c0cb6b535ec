use Rattle.sheet_refs.proofs.Places.{place-lt}
use Rattle.sheet_refs.proofs.sizes.Sizes.place.Goals as goal

pub returns-clause-within : goal.returns-clause-within
returns-clause-within c = rw (c.row.ensures.row, c.col.ensures.col) (place-lt c.args.self c.args.cell c.requires)
