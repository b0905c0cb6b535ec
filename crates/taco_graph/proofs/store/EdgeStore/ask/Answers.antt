use Rattle.std.proofs.Common.{◌≡◌, ◌≢◌, ◌+◌, ◌++◌, ◌∷◌, [], ℕ, List, get_or, take, Contains, sym, subst}
use Rattle.std.proofs.lemmas.List.{get_or_default, take_all, take_more}
use Rattle.taco_graph.specs.Answers.{AddsAnswersOf, NamesAnswering}
use Rattle.std.specs.List.{AllPairs}
use Rattle.taco_graph.proofs.AnswerLemmas.{adds_silent, adds_range, adds_all, adds_none, adds_one_each}
use Rattle.taco_graph.proofs.ListLemmas.{not_before}
use Rattle.taco_graph.proofs.store.EdgeStore.ask.Goals as goal
use Rattle.taco_graph.proofs.store.EdgeStore.ask.Goals.{in-Some+in_ok-push, in_default}

pub loop-key-init : goal.loop-key-init
loop-key-init g c = adds_none c.args.self.now.slots c.args.question c.args.q c.args.out.now.items

pub loop-key-preserved : goal.loop-key-preserved
loop-key-preserved g c =
    let slots = c.args.self.now.slots in
    let question = c.args.question in
    let q = c.args.q in
    let keys : List ℕ = c.deref-key-items.result.now in
    let place : ℕ = c.loop-key.key-index in
    let key : ℕ = get_or keys place 0 in
    let before : List ℕ = take place keys in
    let old = c.args.out.now.items in
    let next : take (place + 1) keys ≡ before ++ key ∷ [] = take_more keys place 0 c.loop-key-test.true in
    let once : AllPairs (λ a b. a ≢ b) keys = subst (λ (ks : List ℕ). AllPairs (λ a b. a ≢ b) ks)
    (sym c.deref-key-items.ensures.value) c.in_ok-keys.ensures.once in
    let absent : ¬ Contains before key = not_before keys place key once c.loop-key-test.true (get_or_default keys place 0 key c.loop-key-test.true) in
    subst (λ (ks : List ℕ). AddsAnswersOf slots question q ks old c.match-answer_at.out.items) (sym next)
    (elim c.match-answer_at.branch [
      | in-Some+in_ok-push w ↦ adds_range slots question q before key old c.loop-key.out.items
          c.match-answer_at.out.items w.in-Some.ensures.0 w.in-Some.range (rw w.out-is w.in_ok-push.ensures.items)
          w.in-Some.ensures.1 absent c.in_ok-keys.ensures.differ c.loop-key.invariant
      | in_default w ↦ rw w.out-is (adds_silent slots question q before key old c.loop-key.out.items w.in_default.ensures c.loop-key.invariant)
    ])

pub returns-clause-found : goal.returns-clause-found
returns-clause-found g c =
    let slots = c.args.self.now.slots in
    let question = c.args.question in
    let q = c.args.q in
    let keys : List ℕ = c.deref-key-items.result.now in
    let all : take c.loop-key.key-index keys ≡ keys = take_all c.loop-key.key-index keys c.loop-key-test.false in
    let named : NamesAnswering slots question q keys = subst (λ (ks : List ℕ). NamesAnswering slots question q ks)
    (sym c.deref-key-items.ensures.value) c.in_ok-keys.ensures.named in
    adds_all slots question q keys c.args.out.now.items c.loop-key.out.items named
    (subst (λ (ks : List ℕ). AddsAnswersOf slots question q ks c.args.out.now.items c.loop-key.out.items) all c.loop-key.invariant)

pub returns-clause-each : goal.returns-clause-each
returns-clause-each g c =
    let slots = c.args.self.now.slots in
    let question = c.args.question in
    let q = c.args.q in
    let keys : List ℕ = c.deref-key-items.result.now in
    let all : take c.loop-key.key-index keys ≡ keys = take_all c.loop-key.key-index keys c.loop-key-test.false in
    let named : NamesAnswering slots question q keys = subst (λ (ks : List ℕ). NamesAnswering slots question q ks)
    (sym c.deref-key-items.ensures.value) c.in_ok-keys.ensures.named in
    adds_one_each slots question q keys c.args.out.now.items c.loop-key.out.items named
    (subst (λ (ks : List ℕ). AddsAnswersOf slots question q ks c.args.out.now.items c.loop-key.out.items) all c.loop-key.invariant)
