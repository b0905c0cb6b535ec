use Rattle.std.proofs.Common.{sym, subst, refl, List, [], ◌∷◌, ◌++◌}
use Rattle.recalc_workers.specs.Sides.{ChangesAll}
use Rattle.recalc_workers.proofs.SideLemmas.{changes_all}
use Rattle.recalc_workers.proofs.side_by_side.+threads.Goals as goal

pub start_all-returns-in-Some : goal.start_all-returns-in-Some
start_all-returns-in-Some g t c =
    subst (λ (xs : List g.row.T.Denot). ChangesAll g.F.Fn c.args.f.now xs (c.start_last.new.others ++ c.start_last.new.last ∷ []))
    (sym c.in-Some.ensures.cases.0)
    (changes_all g.F.Fn c.args.f.now c.in-Some.others.now c.in-Some.last.now _ c.start_last.new.others c.start_last.new.last
    refl c.start_last.ensures.last.call c.start_last.ensures.others)
