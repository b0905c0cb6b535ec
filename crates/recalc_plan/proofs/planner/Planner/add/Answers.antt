use Rattle.std.proofs.Common.{◌≡◌, ℕ, ◌+◌, sym, refl, ap, ◌∙◌, Option, Some, None, subst, arith}
use Rattle.std.specs.Prelude.{if◌then◌else◌, is_some}
use Rattle.std.specs.Ordering.{nat_cmp}
use Rattle.std.specs.BTreeMap.{BTreeMap, btree_map_len as count_of, get, Updates}
use Rattle.recalc_plan.specs.declared.opens.Open.{Open}
use Rattle.recalc_plan.proofs.WakeLemmas.{added}
use Rattle.recalc_plan.proofs.planner.Planner.add.Goals as goal

pub returns-clause-added : goal.returns-clause-added
returns-clause-added c =
    let pushed : Open = record { cell = c.in-Some.entry.cell; waiters = c.push.new.self } in
    added c.args.self.now.«open» c.remove.new.self c.insert.new.self c.args.cell c.args.waiter c.in-Some.entry pushed c.requires.cells c.requires.«open»
    (subst (λ (p : ℕ). get nat_cmp c.args.self.now.«open» p ≡ Some c.in-Some.entry) c.place_of.ensures.place (sym c.in-Some.ensures.value))
    (subst (λ (p : ℕ). Updates nat_cmp c.args.self.now.«open» c.remove.new.self p None) c.place_of.ensures.place c.in-Some.ensures.updates)
    (subst (λ (p : ℕ). Updates nat_cmp c.remove.new.self c.insert.new.self p (Some pushed)) c.place_of-2.ensures.place c.in_ok-insert.ensures.updates)
    refl
    c.in_ok-push.ensures.items

pub returns-clause-count : goal.returns-clause-count
returns-clause-count c =
    let updates = subst (λ (p : ℕ). Updates nat_cmp c.args.self.now.«open» c.remove.new.self p None) c.place_of.ensures.place c.in-Some.ensures.updates in
    let gone : c.in_ok-insert.field-0 ≡ None = c.in_ok-insert.ensures.old ∙ (ap (get nat_cmp c.remove.new.self) c.place_of-2.ensures.place ∙ updates.1) in
    omega (arith, c.in-Some.ensures.len, one_more c.remove.new.self c.insert.new.self c.in_ok-insert.field-0 gone c.in_ok-insert.ensures.len)
  where
    one_more : (old new : BTreeMap ℕ Open) (found : Option Open) → found ≡ None
        → count_of new ≡ count_of old + (if is_some found then 0 else 1) → count_of new ≡ count_of old + 1
    one_more old new found none counted = counted ∙ ap (λ (o : Option Open). count_of old + (if is_some o then 0 else 1)) none
