use Rattle.std.proofs.Common.{arith}
use Rattle.std.proofs.lemmas.Result.{on_ok_weaker}
use Rattle.range_index.specs.Grids.{entry_at, IsNear}
use Rattle.range_index.proofs.GridLemmas.{places_of, found_thrice, widths_apart}
use Rattle.range_index.proofs.tables.Tables.visit_height.Goals as goal

pub returns-clause-found : goal.returns-clause-found
returns-clause-found c =
    on_ok_weaker c.visit_kind-3.result
    (found_thrice (entry_at c.args.self.now) (IsNear c.args.q c.args.height 1) (IsNear c.args.q c.args.height 64)
    (IsNear c.args.q c.args.height 16384) c.args.q c.args.out.now.items c.visit_kind.new.out.items
    c.visit_kind-2.new.out.items c.visit_kind-3.new.out.items
    (places_of c.requires.grid) (widths_apart c.args.q c.args.height 1 64 (λ h. omega (arith, h)))
    (widths_apart c.args.q c.args.height 1 16384 (λ h. omega (arith, h))) (widths_apart c.args.q c.args.height 64
    16384 (λ h. omega (arith, h)))
    c.in_ok-visit_kind.ensures.found c.in_ok-visit_kind-2.ensures.found)
    c.visit_kind-3.ensures.found
