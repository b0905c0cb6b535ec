use Rattle.std.proofs.Common.{◌≡◌, ◌∙◌, ℕ, get_or, subst, arith, rules}
use Rattle.taco_graph.specs.Sides.{HaveKey}
use Rattle.taco_graph.proofs.AroundLemmas.{have_more, have_all, keep_on}
use Rattle.taco_graph.proofs.neighbours.Sides.give_keys.Goals as goal

pub loop-place-preserved : goal.loop-place-preserved
loop-place-preserved g c =
    let slots = c.args.store.now.slots in
    let keys = c.args.self.now.around.items in
    let place : ℕ = c.loop-place.place in
    let key_is : c.key_around-key.result ≡ get_or keys place 0 = search rules in (
      have_more slots keys place c.loop-place.self c.give_key.new.self c.loop-place.invariant.0
          (subst (λ (k : ℕ). HaveKey slots k c.give_key.new.self) key_is c.in_ok-give_key.ensures.all) c.give_key.ensures.kept,
      keep_on c.args.self.now c.loop-place.self c.give_key.new.self c.loop-place.invariant.1 c.give_key.ensures.kept,
      c.give_key.ensures.around ∙ c.loop-place.invariant.2,
    )

pub returns-clause-all : goal.returns-clause-all
returns-clause-all g c =
    have_all c.args.store.now.slots c.args.self.now.around.items c.loop-place.place c.loop-place.self
    (omega (arith, c.len-place-end.ensures, c.loop-place-test.false)) c.loop-place.invariant.0
