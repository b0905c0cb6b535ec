use Rattle.std.proofs.Common.{◌≡◌, ◌∷◌, ◌++◌, [], map, reverse, ap, ◌∙◌, subst, sym, None, rules}
use Rattle.std.proofs.lemmas.List.{reverse-append}
use Rattle.dep_path.specs.Chains.{IsShortest}
use Rattle.dep_path.proofs.LevelLemmas.{IsComingBack, back_begun, back_has, back_next, back_there, turned}
use Rattle.dep_path.proofs.paths.chain_through.Goals as goal

pub loop-level-init : goal.loop-level-init
loop-level-init g c =
    let pairs = g.G.Graph.pairs c.args.graph.now in
    let gone : c.pop.result ≡ None → c.args.levels.items ≡ [] = λ none. search rules in
    let chain = ap reverse (c.in_ok-push.ensures.items ∙ ap (λ l. l ++ c.args.to ∷ []) c.new-chain.ensures.items) in
    subst (λ l. IsComingBack pairs c.args.from c.args.to c.args.to l (reverse (map (λ level. level.items) c.pop.new.self.items))) (sym chain)
    (back_begun (λ level. level.items) pairs c.args.from c.args.to c.args.levels.items c.pop.new.self.items c.pop.result c.pop.ensures.items gone c.requires)

pub step_back-requires : goal.step_back-requires
step_back-requires g c =
    let pairs = g.G.Graph.pairs c.args.graph.now in
    let turn = turned (λ level. level.items) c.pop-in-loop-level.new.self.items c.loop-level.left.items c.in-Some.level c.in-Some.ensures.items in
    let back = subst (IsComingBack pairs c.args.from c.args.to c.loop-level.cell (reverse c.loop-level.chain.items)) turn c.loop-level.invariant in
    let has = back_has pairs c.args.from c.args.to c.loop-level.cell (reverse c.loop-level.chain.items)
    c.in-Some.level.items (reverse (map (λ level. level.items) c.pop-in-loop-level.new.self.items)) back in
    rw c.deref.ensures.value has

pub loop-level-preserved : goal.loop-level-preserved
loop-level-preserved g c =
    let pairs = g.G.Graph.pairs c.args.graph.now in
    let turn = turned (λ level. level.items) c.pop-in-loop-level.new.self.items c.loop-level.left.items c.in-Some.level c.in-Some.ensures.items in
    let left = reverse (map (λ level. level.items) c.pop-in-loop-level.new.self.items) in
    let back = subst (IsComingBack pairs c.args.from c.args.to c.loop-level.cell (reverse c.loop-level.chain.items)) turn c.loop-level.invariant in
    let chain = ap reverse c.in_ok-push-2.ensures.items ∙ reverse-append c.loop-level.chain.items (c.in_ok-cell.cell ∷ []) in
    subst (λ l. IsComingBack pairs c.args.from c.args.to c.in_ok-cell.cell l left) (sym chain)
    (back_next pairs c.args.from c.args.to c.loop-level.cell c.in_ok-cell.cell (reverse c.loop-level.chain.items)
    c.in-Some.level.items left back (rw (← c.deref.ensures.value) c.in_ok-cell.ensures))

pub returns : goal.returns
returns g c =
    let pairs = g.G.Graph.pairs c.args.graph.now in
    let none : c.loop-level.left.items ≡ [] = search rules in
    let back = subst (λ l. IsComingBack pairs c.args.from c.args.to c.loop-level.cell (reverse c.loop-level.chain.items)
    (reverse (map (λ level. level.items) l))) none c.loop-level.invariant in
    subst (IsShortest pairs c.args.from c.args.to) (sym c.reverse.ensures.items) (back_there pairs c.args.from c.args.to
    c.loop-level.cell (reverse c.loop-level.chain.items) back)
