use Rattle.formula_syntax.specs.Tree.{references_of}
use Rattle.formula_syntax.proofs.Listings.{are_refs}
use Rattle.formula_syntax.proofs.listing.refs.Goals as goal

pub from_vec-requires : goal.from_vec-requires
from_vec-requires c =
    (are_refs (references_of c.args.formula.now) c.in_ok-ranges.ranges.items
    c.root.ensures.kept.few_references (rw c.root.ensures.tree at c.in_ok-ranges.ensures))
