use Rattle.std.proofs.Common.{◌≡◌, ◌+◌, ◌*◌, ◌/◌, ◌%◌, ap, subst, ◌∙◌, arith}
use Rattle.live_gen.specs.Draws.{DrawsValue, draw_of, state_after}
use Rattle.live_gen.proofs.DrawLemmas.{state_small, state_next}
use Rattle.live_gen.proofs.draws.Draws.next.Goals as goal

pub overflow_mul-self : goal.overflow_mul-self
overflow_mul-self c =
    let small = state_small c.self.inside.number c.self.inside.made in
    let is : c.self.inside.state ≡ state_after c.self.inside.number c.self.inside.made = c.self.invariant in
    omega (arith, small, is)

pub overflow_add-self : goal.overflow_add-self
overflow_add-self c =
    let small = state_small c.self.inside.number c.self.inside.made in
    let is : c.self.inside.state ≡ state_after c.self.inside.number c.self.inside.made = c.self.invariant in
    omega (arith, small, is)

pub invariant_of-self : goal.invariant_of-self
invariant_of-self c =
    let is : c.self.inside.state ≡ state_after c.self.inside.number c.self.inside.made = c.self.invariant in
    ap (λ s. (s * 1103515245 + 12345) % 2147483648) is ∙ state_next c.self.inside.number c.self.inside.made

pub returns-clause-drawn : goal.returns-clause-drawn
returns-clause-drawn c =
    let is : c.self.inside.state ≡ state_after c.self.inside.number c.self.inside.made = c.self.invariant in
    let next : (c.self.inside.state * 1103515245 + 12345) % 2147483648 ≡ state_after c.self.inside.number (c.self.inside.made + 1) =
    ap (λ s. (s * 1103515245 + 12345) % 2147483648) is ∙ state_next c.self.inside.number c.self.inside.made in
    subst (λ (d : DrawsValue). (c.self.inside.state * 1103515245 + 12345) % 2147483648 / 65536 % c.from.result ≡ draw_of d.number (d.made + 1) c.args.limit)
    c.self.view_is
    (ap (λ s. s / 65536 % c.from.result) next ∙ ap (λ l. state_after c.self.inside.number (c.self.inside.made + 1) / 65536 % l) c.from.ensures)
