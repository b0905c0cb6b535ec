use Rattle.std.proofs.Common.{◌≡◌, List, ap, subst}
use Rattle.std.specs.List.Sorted.{IsPermutation}
use Rattle.std.proofs.lemmas.List.Sorted.{IsPermutation-refl}
use Rattle.edge_patterns.specs.Edges.{EdgeValue}
use Rattle.taco_graph.specs.Pairs.{StandFor, pairs_of}
use Rattle.taco_graph.specs.Joinable.{AreJustOne, NoneJoins}
use Rattle.taco_graph.specs.Stores.{edges_of}
use Rattle.taco_graph.specs.Taco.{TacoValue}
use Rattle.taco_graph.proofs.EdgeListLemmas.{few_pairs, stand_for}
use Rattle.taco_graph.proofs.JoinableLemmas.{none_joins, none_joins_moved}
use Rattle.taco_graph.proofs.OneEdgeLemmas.{one_alone}
use Rattle.taco_graph.proofs.taco.Taco.edges.Goals as goal

pub returns-in_err-edges-clause-stand : goal.returns-in_err-edges-clause-stand
returns-in_err-edges-clause-stand g c =
    let slots = c.self.inside.store.slots in
    let view : edges_of slots ≡ c.args.self.now.edges = ap (λ (t : TacoValue). t.edges) c.self.view_is in
    subst (λ (edges : List EdgeValue). StandFor edges (pairs_of edges)) view
    (stand_for (edges_of slots) (edges_of slots) c.edges.ensures.apart (IsPermutation-refl (edges_of slots)))

pub returns-in_err-edges-clause-joined : goal.returns-in_err-edges-clause-joined
returns-in_err-edges-clause-joined g c =
    let view : edges_of c.self.inside.store.slots ≡ c.args.self.now.edges = ap (λ (t : TacoValue). t.edges) c.self.view_is in
    subst (λ (edges : List EdgeValue). NoneJoins edges) view (none_joins c.self.inside.store.slots c.self.invariant.joined)

pub returns-in_err-sort_edges-clause-stand : goal.returns-in_err-sort_edges-clause-stand
returns-in_err-sort_edges-clause-stand g c =
    let slots = c.self.inside.store.slots in
    let view : edges_of slots ≡ c.args.self.now.edges = ap (λ (t : TacoValue). t.edges) c.self.view_is in
    subst (λ (edges : List EdgeValue). StandFor edges (pairs_of edges)) view
    (stand_for (edges_of slots) (edges_of slots) c.edges.ensures.apart (IsPermutation-refl (edges_of slots)))

pub returns-in_err-sort_edges-clause-joined : goal.returns-in_err-sort_edges-clause-joined
returns-in_err-sort_edges-clause-joined g c =
    let view : edges_of c.self.inside.store.slots ≡ c.args.self.now.edges = ap (λ (t : TacoValue). t.edges) c.self.view_is in
    subst (λ (edges : List EdgeValue). NoneJoins edges) view (none_joins c.self.inside.store.slots c.self.invariant.joined)

pub returns-clause-stand : goal.returns-clause-stand
returns-clause-stand g c =
    let slots = c.self.inside.store.slots in
    let view : edges_of slots ≡ c.args.self.now.edges = ap (λ (t : TacoValue). t.edges) c.self.view_is in
    subst (λ (edges : List EdgeValue). StandFor edges (pairs_of edges)) view
    (stand_for (edges_of slots) (edges_of slots) c.edges.ensures.apart (IsPermutation-refl (edges_of slots)))

pub returns-clause-joined : goal.returns-clause-joined
returns-clause-joined g c =
    let view : edges_of c.self.inside.store.slots ≡ c.args.self.now.edges = ap (λ (t : TacoValue). t.edges) c.self.view_is in
    subst (λ (edges : List EdgeValue). NoneJoins edges) view (none_joins c.self.inside.store.slots c.self.invariant.joined)

pub returns-clause-listed_stand : goal.returns-clause-listed_stand
returns-clause-listed_stand g c =
    let slots = c.self.inside.store.slots in
    let sorted = c.sort_edges.new.edges.items in
    let view : edges_of slots ≡ c.args.self.now.edges = ap (λ (t : TacoValue). t.edges) c.self.view_is in
    let moved = subst (λ (edges : List EdgeValue). IsPermutation edges sorted) c.in_ok-edges.ensures.all c.in_ok-sort_edges.ensures.same in
    subst (λ (edges : List EdgeValue). StandFor sorted (pairs_of edges)) view (stand_for (edges_of slots) sorted c.in_ok-edges.ensures.apart moved)

pub returns-clause-listed_joined : goal.returns-clause-listed_joined
returns-clause-listed_joined g c =
    let slots = c.self.inside.store.slots in
    let sorted = c.sort_edges.new.edges.items in
    let moved = subst (λ (edges : List EdgeValue). IsPermutation edges sorted) c.in_ok-edges.ensures.all c.in_ok-sort_edges.ensures.same in
    none_joins_moved (edges_of slots) sorted moved (none_joins slots c.self.invariant.joined)

pub returns-clause-few : goal.returns-clause-few
returns-clause-few g c =
    let slots = c.self.inside.store.slots in
    let sorted = c.sort_edges.new.edges.items in
    let moved = subst (λ (edges : List EdgeValue). IsPermutation edges sorted) c.in_ok-edges.ensures.all c.in_ok-sort_edges.ensures.same in
    few_pairs slots sorted c.in_ok-edges.ensures.apart c.self.invariant.few moved

pub returns-in_err-edges-clause-just_one : goal.returns-in_err-edges-clause-just_one
returns-in_err-edges-clause-just_one g c =
    let slots = c.self.inside.store.slots in
    let view : edges_of slots ≡ c.args.self.now.edges = ap (λ (t : TacoValue). t.edges) c.self.view_is in
    subst AreJustOne view (λ edge is same. one_alone (edges_of slots) edge is c.edges.ensures.apart.are_edges
    c.edges.ensures.apart.apart (none_joins slots c.self.invariant.joined) same)

pub returns-in_err-sort_edges-clause-just_one : goal.returns-in_err-sort_edges-clause-just_one
returns-in_err-sort_edges-clause-just_one g c =
    let slots = c.self.inside.store.slots in
    let view : edges_of slots ≡ c.args.self.now.edges = ap (λ (t : TacoValue). t.edges) c.self.view_is in
    subst AreJustOne view (λ edge is same. one_alone (edges_of slots) edge is c.edges.ensures.apart.are_edges
    c.edges.ensures.apart.apart (none_joins slots c.self.invariant.joined) same)

pub returns-clause-just_one : goal.returns-clause-just_one
returns-clause-just_one g c =
    let slots = c.self.inside.store.slots in
    let view : edges_of slots ≡ c.args.self.now.edges = ap (λ (t : TacoValue). t.edges) c.self.view_is in
    subst AreJustOne view (λ edge is same. one_alone (edges_of slots) edge is c.edges.ensures.apart.are_edges
    c.edges.ensures.apart.apart (none_joins slots c.self.invariant.joined) same)
