use Rattle.std.proofs.Common.{ℕ, inl, sym, subst, ◌∙◌}
use Rattle.std.specs.Prelude.{IsSome}
use Rattle.std.specs.Ordering.{nat_cmp}
use Rattle.std.specs.BTreeMap.{get}
use Rattle.recalc_plan.proofs.OpeningLemmas.{open_at}
use Rattle.recalc_plan.proofs.planner.Planner.list_open.Goals as goal

pub returns-then-contains_key : goal.returns-then-contains_key
returns-then-contains_key c =
    let some = subst (λ (p : ℕ). IsSome (get nat_cmp c.args.self.now.«open» p)) c.place_of.ensures.place
    (sym c.contains_key.ensures ∙ c.if-contains_key.true) in
    inl (open_at c.args.self.now.«open» c.args.cell c.requires.cells c.place_of.ensures.named some, c.in_ok-push.ensures.items)
