use Rattle.std.proofs.Common.{◌≡◌, ℕ, inl, sym, Some, None, subst}
use Rattle.std.specs.Ordering.{nat_cmp}
use Rattle.std.specs.BTreeMap.{get, Updates}
use Rattle.sheet_refs.proofs.RunLemmas.{not_at}
use Rattle.recalc_plan.specs.Opens.{name_place}
use Rattle.recalc_plan.proofs.planner.Planner.take_one.Goals as goal

pub returns-clause-taken : goal.returns-clause-taken
returns-clause-taken c =
    let updates = subst (λ (p : ℕ). Updates nat_cmp c.args.self.now.open c.remove.new.self p None) c.place_of.ensures.place c.in-Some.ensures.updates in
    inl (record {
      named = c.place_of.ensures.named;
      entry = c.in-Some.entry;
      kept = subst (λ (p : ℕ). get nat_cmp c.args.self.now.open p ≡ Some c.in-Some.entry) c.place_of.ensures.place (sym c.in-Some.ensures.value);
      gone = updates.1;
      others = λ place differs. updates.2 place (not_at (name_place c.args.cell) place differs);
      level = c.in_ok-push.ensures.items;
      woken = c.in_ok-append.ensures.items;
    })
