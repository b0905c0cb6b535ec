use Rattle.std.proofs.Common.{◌≡◌, map, drop}
use Rattle.formula_syntax.specs.Reading.{references_at}
use Rattle.formula_syntax.specs.Tree.{tree_of}
use Rattle.formula_syntax.proofs.parser.references_at.Given as goal

abbrev pub invariant-loop-place : goal.invariant-loop-place
invariant-loop-place l = references_at (drop l.place-index l.places) (map tree_of l.nodes) ≡ references_at l.places (map tree_of l.nodes)
