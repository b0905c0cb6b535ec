use Rattle.std.proofs.Common.{arith}
use Rattle.std.proofs.lemmas.Result.{on_ok_weaker}
use Rattle.range_index.specs.Grids.{entry_at, IsNearAt}
use Rattle.range_index.proofs.GridLemmas.{places_of, found_thrice, found_once_more, heights_apart}
use Rattle.range_index.proofs.FoundLemmas.{all_found}
use Rattle.range_index.proofs.tables.Tables.visit_near.Goals as goal

pub returns-clause-found : goal.returns-clause-found
returns-clause-found c =
    let q = c.args.q in
    let at = entry_at c.args.self.now in
    let old = c.args.out.now.items in
    let first = c.visit_height.new.out.items in
    let second = c.visit_height-2.new.out.items in
    let third = c.visit_height-3.new.out.items in
    let last = c.visit_height-4.new.out.items in
    on_ok_weaker c.visit_height-4.result
    (λ fourth.
    all_found q old last c.requires
    (found_once_more at (IsNearAt q 8) (IsNearAt q 1024) (IsNearAt q 32768) (IsNearAt q 1048576) q old first last (places_of c.requires)
    (heights_apart q 8 1024 (λ h. omega (arith, h))) (heights_apart q 8 32768 (λ h. omega (arith, h))) (heights_apart q 8 1048576 (λ h. omega (arith, h)))
    c.in_ok-visit_height.ensures.found
    (found_thrice at (IsNearAt q 1024) (IsNearAt q 32768) (IsNearAt q 1048576) q first second third last (places_of c.requires)
    (heights_apart q 1024 32768 (λ h. omega (arith, h))) (heights_apart q 1024 1048576 (λ h. omega (arith, h)))
    (heights_apart q 32768 1048576 (λ h. omega (arith, h)))
    c.in_ok-visit_height-2.ensures.found c.in_ok-visit_height-3.ensures.found fourth)))
    c.visit_height-4.ensures.found
