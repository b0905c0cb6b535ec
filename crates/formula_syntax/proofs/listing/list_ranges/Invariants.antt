use Rattle.formula_syntax.specs.Tree.{tree_of, references_of}
use Rattle.formula_syntax.proofs.Listings.{IsListing, lists_now}
use Rattle.formula_syntax.proofs.listing.list_ranges.Given as goal

abbrev pub invariant-loop-first : goal.invariant-loop-first
invariant-loop-first l = IsListing (references_of (tree_of l.root)) l.left.items l.nodes l.listed

abbrev pub decreases-loop-first : goal.decreases-loop-first
decreases-loop-first l = lists_now l.left.items l.nodes
