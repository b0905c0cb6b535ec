-- A shifted tree is put together step by step.
use Rattle.std.proofs.Common.{◌≡◌, ℕ, ℤ, zero, suc, ◌+◌, ◌*◌, ◌<◌, List, [], ◌∷◌, ◌++◌, length, map, take, drop, refl, sym, ap, ◌∙◌, subst, arith, append_assoc}
use Rattle.std.specs.Borrow.{Bor}
use Rattle.std.specs.Prelude.{true, false}
use Rattle.value_core.specs.declared.value.ErrorKind.TheVariants as kind
use Rattle.std.proofs.lemmas.List.{append-nil, map-append, length-map, take_at, drop_at}
use Rattle.formula_syntax.specs.declared.functions.Function.{Function}
use Rattle.formula_syntax.specs.declared.tree.Node.{Node}
use Rattle.formula_syntax.specs.declared.tree.Nodes.{Nodes}
use Rattle.formula_syntax.specs.declared.shifting.Step.{Step}
use Rattle.formula_syntax.specs.declared.shifting.Step.TheVariants.{Shift, Join}
use Rattle.formula_syntax.specs.Rebuilding.{stacked, over_one, over_two, over_all, join, after_step, after_steps, step_weight, steps_weight, Leads}
use Rattle.formula_syntax.specs.Shifting.{shifted, all_shifted, call_or_lost}
use Rattle.formula_syntax.specs.Functions.{shape_of}
use Rattle.formula_syntax.specs.Reading.{references_at}
use Rattle.formula_syntax.specs.Tree.{Tree, and_trees, error, prefix, binary, call, tree_of, trees_of, parameters_of}
use Rattle.formula_syntax.specs.Tree.{trees_from, tree_list, node_count, all_nodes}
use Rattle.formula_syntax.proofs.Fitting.{trees_there}

-- a node more that is done is on top
stacked_push : (nodes : List Node) (node : Node) (below : List Tree) → stacked (nodes ++ node ∷ []) below ≡ tree_of node ∷ stacked nodes below
stacked_push [] node below = refl
stacked_push (x ∷ xs) node below = stacked_push xs node (tree_of x ∷ below)

pub pushed_top : (old new : List Node) (node : Node) → new ≡ old ++ node ∷ [] → stacked new [] ≡ tree_of node ∷ stacked old []
pushed_top old new node is = ap (λ (l : List Node). stacked l []) is ∙ stacked_push old node []

-- a step more that is left comes first
steps_push : (down right : ℤ) (steps : List Step) (step : Step) (done : List Tree)
    → after_steps down right (steps ++ step ∷ []) done ≡ after_steps down right steps (after_step down right step done)
steps_push down right [] step done = refl
steps_push down right (x ∷ xs) step done = ap (after_step down right x) (steps_push down right xs step done)

weight_push : (steps : List Step) (step : Step) → steps_weight (steps ++ step ∷ []) ≡ steps_weight steps + step_weight step
weight_push [] step = omega arith
weight_push (x ∷ xs) step = omega (arith, weight_push xs step)

pub one_more : (down right : ℤ) (old new : List Step) (step : Step) (done : List Tree) → new ≡ old ++ step ∷ []
    → after_steps down right new done ≡ after_steps down right old (after_step down right step done)
one_more down right old new step done is = ap (λ (l : List Step). after_steps down right l done) is ∙ steps_push down right old step done

pub one_heavier : (old new : List Step) (step : Step) → new ≡ old ++ step ∷ [] → steps_weight new ≡ steps_weight old + step_weight step
one_heavier old new step is = ap steps_weight is ∙ weight_push old step

-- a node without parts is done
pub leaf_leads : (down right : ℤ) (left : List Step) (items pushed : List Node) (made : Node) (t : Tree) (room : ℕ)
    → pushed ≡ items ++ made ∷ [] → tree_of made ≡ shifted down right t → 0 < room
    → Leads down right left (shifted down right t ∷ stacked items []) left (stacked pushed []) room
leaf_leads down right left items pushed made t room more is some = record {
  same = ap (after_steps down right left) (pushed_top items pushed made more ∙ ap (λ (u : Tree). u ∷ stacked items []) is);
  fewer = omega (arith, some);
}

-- a sign is left behind its operand
pub prefix_leads : (down right : ℤ) (node : Bor Node) (op : _) (operand : Node) (one : Bor (List Node))
    (left middle next : List Step) (done : List Tree) → tree_of node.now ≡ prefix op (tree_of operand)
    → one.now ≡ operand ∷ [] → middle ≡ left ++ Join node ∷ [] → next ≡ middle ++ Shift one ∷ []
    → Leads down right left (shifted down right (tree_of node.now) ∷ done) next done (4 * node_count (tree_of node.now))
prefix_leads down right node op operand one left middle next done is alone first second =
    let inner : join (tree_of node.now) (map (shifted down right) (map tree_of one.now) ++ done) ≡ shifted down right
    (tree_of node.now) ∷ done = rw (is, alone) refl in
    record {
      same = one_more down right middle next (Shift one) done second
          ∙ (one_more down right left middle (Join node) (after_step down right (Shift one) done) first ∙ ap (after_steps down right left) inner);
      fewer = omega (
        arith,
        one_heavier middle next (Shift one) second,
        one_heavier left middle (Join node) first,
        ap node_count is,
        ap (λ (l : List Node). all_nodes (trees_of l)) alone,
      );
    }

-- an operator is left behind its operands
pub binary_leads : (down right : ℤ) (node : Bor Node) (op : _) (l r : Node) (one two : Bor (List Node))
    (left middle later next : List Step) (done : List Tree) → tree_of node.now ≡ binary op (tree_of l) (tree_of r)
    → one.now ≡ l ∷ [] → two.now ≡ r ∷ [] → middle ≡ left ++ Join node ∷ [] → later ≡ middle ++ Shift one ∷ []
    → next ≡ later ++ Shift two ∷ [] → Leads down right left (shifted down right (tree_of node.now)
    ∷ done) next done (4 * node_count (tree_of node.now))
binary_leads down right node op l r one two left middle later next done is one_is two_is first second third =
    let inner : join (tree_of node.now) (map (shifted down right) (map tree_of one.now)
    ++ (map (shifted down right) (map tree_of two.now) ++ done)) ≡ shifted down right (tree_of node.now) ∷ done =
    rw (is, one_is, two_is) refl in
    record {
      same = one_more down right later next (Shift two) done third
          ∙ (one_more down right middle later (Shift one) (after_step down right (Shift two) done) second
          ∙ (one_more down right left middle (Join node) (after_step down right (Shift one) (after_step down right (Shift two) done)) first
          ∙ ap (after_steps down right left) inner));
      fewer = omega (
        arith,
        one_heavier later next (Shift two) third,
        one_heavier middle later (Shift one) second,
        one_heavier left middle (Join node) first,
        ap node_count is,
        ap (λ (ns : List Node). all_nodes (trees_of ns)) one_is,
        ap (λ (ns : List Node). all_nodes (trees_of ns)) two_is,
      );
    }

-- shifted trees one by one, and as the parameters of a call
pub shifted_from : (down right : ℤ) (ts : List Tree) → trees_from (map (shifted down right) ts) ≡ all_shifted down right (trees_from ts)
shifted_from down right [] = refl
shifted_from down right (t ∷ ts) = ap (λ r. and_trees (shifted down right t) r) (shifted_from down right ts)

call_joined : (down right : ℤ) (f : Function) (ts done : List Tree)
    → join (call f (trees_from ts)) (map (shifted down right) ts ++ done) ≡ shifted down right (call f (trees_from ts))
    ∷ done
call_joined down right f ts done =
    let count : length (map (shifted down right) ts) ≡ length (tree_list (trees_from ts)) =
    length-map ts (shifted down right) ∙ sym (ap length (trees_there ts)) in
    rw (
      take_at (map (shifted down right) ts) done (length (tree_list (trees_from ts))) count,
      drop_at (map (shifted down right) ts) done (length (tree_list (trees_from ts))) count,
      shifted_from down right ts,
    ) refl

-- a function is left behind its parameters
pub call_leads : (down right : ℤ) (node : Bor Node) (f : Function) (ps : Nodes) (all : Bor (List Node))
    (left middle next : List Step) (done : List Tree) → tree_of node.now ≡ call f (parameters_of ps)
    → trees_of all.now ≡ parameters_of ps → middle ≡ left ++ Join node ∷ [] → next ≡ middle ++ Shift all ∷ []
    → Leads down right left (shifted down right (tree_of node.now) ∷ done) next done (4 * node_count (tree_of node.now))
call_leads down right node f ps all left middle next done is trees first second =
    let as_call : tree_of node.now ≡ call f (trees_of all.now) = is ∙ ap (call f) (sym trees) in
    let inner : join (tree_of node.now) (map (shifted down right) (map tree_of all.now) ++ done) ≡ shifted down right (tree_of node.now) ∷ done =
    subst (λ (t : Tree). join t (map (shifted down right) (map tree_of all.now) ++ done) ≡ shifted down right t
    ∷ done) (sym as_call) (call_joined down right f (map tree_of all.now) done) in
    record {
      same = one_more down right middle next (Shift all) done second
          ∙ (one_more down right left middle (Join node) (after_step down right (Shift all) done) first ∙ ap (after_steps down right left) inner);
      fewer = omega (
        arith,
        one_heavier middle next (Shift all) second,
        one_heavier left middle (Join node) first,
        ap node_count as_call,
      );
    }

-- no nodes
pub none_leads : (down right : ℤ) (nodes : List Node) (left : List Step) (done : List Tree) → length nodes ≡ 0
    → Leads down right left (map (shifted down right) (map tree_of nodes) ++ done) left done
    (1 + 4 * all_nodes (trees_of nodes))
none_leads down right [] left done none = record { same = refl; fewer = omega arith }
none_leads down right (x ∷ xs) left done none = absurd (omega (arith, none))

nodes_push : (nodes : List Node) (node : Node) → all_nodes (trees_of (nodes ++ node ∷ [])) ≡ all_nodes (trees_of nodes) + node_count (tree_of node)
nodes_push [] node = omega arith
nodes_push (x ∷ xs) node = omega (arith, nodes_push xs node)

-- the last of some nodes, before the others
pub last_leads : (down right : ℤ) (nodes : List Node) (last : Node) (others : Bor (List Node))
    (left middle next : List Step) (done now : List Tree) → nodes ≡ others.now ++ last ∷ [] → middle ≡ left
    ++ Shift others ∷ [] → Leads down right middle (shifted down right (tree_of last)
    ∷ done) next now (4 * node_count (tree_of last))
    → Leads down right left (map (shifted down right) (map tree_of nodes)
    ++ done) next now (1 + 4 * all_nodes (trees_of nodes))
last_leads down right nodes last others left middle next done now split pushed leads =
    let each = λ (l : List Node). map (shifted down right) (map tree_of l) in
    let joined : each (others.now ++ last ∷ []) ≡ each others.now ++ shifted down right (tree_of last) ∷ [] =
    ap (map (shifted down right)) (map-append tree_of others.now (last ∷ [])) ∙ map-append (shifted down right) (map tree_of others.now) (tree_of last ∷ []) in
    let moved : each others.now ++ shifted down right (tree_of last) ∷ done ≡ each nodes ++ done =
    sym (ap (λ (l : List Tree). l ++ done) (ap each split ∙ joined) ∙ append_assoc (each others.now) (shifted down right (tree_of last) ∷ []) done) in
    record {
      same =
          leads.same ∙ (one_more down right left middle (Shift others) (shifted down right (tree_of last) ∷ done) pushed
          ∙ ap (after_steps down right left) moved);
      fewer = omega (
        arith,
        leads.fewer,
        one_heavier left middle (Shift others) pushed,
        ap (λ (l : List Node). all_nodes (trees_of l)) split,
        nodes_push others.now last,
      );
    }

-- a node is put together
pub join_leads : (down right : ℤ) (node : Bor Node) (left : List Step) (done now : List Tree)
    → now ≡ join (tree_of node.now) done → Leads down right left (join (tree_of node.now) done) left now 1
join_leads down right node left done now is = record { same = ap (after_steps down right left) is; fewer = omega arith }

-- an operator over what was done last
pub one_joined : (f : Tree → Tree) (old popped new : List Node) (operand made : Node) → old ≡ popped ++ operand ∷ []
    → new ≡ popped ++ made ∷ [] → tree_of made ≡ f (tree_of operand) → stacked new [] ≡ over_one f (stacked old [])
one_joined f old popped new operand made before after is =
    pushed_top popped new made after ∙ (ap (λ (t : Tree). t ∷ stacked popped []) is ∙ sym (ap (over_one f) (pushed_top popped old operand before)))

pub two_joined : (f : Tree → Tree → Tree) (old popped less new : List Node) (first second made : Node) → old ≡ popped
    ++ first ∷ [] → popped ≡ less ++ second ∷ [] → new ≡ less ++ made ∷ []
    → tree_of made ≡ f (tree_of first) (tree_of second) → stacked new [] ≡ over_two f (stacked old [])
two_joined f old popped less new first second made before again after is =
    pushed_top less new made after
    ∙ (ap (λ (t : Tree). t ∷ stacked less []) is
    ∙ sym (ap (over_two f) (pushed_top popped old first before ∙ ap (λ (l : List Tree). tree_of first ∷ l) (pushed_top less popped second again))))

-- trees are taken off one by one
abbrev TakesOne : List Tree → List Tree → Tree → ℕ → ℕ → Type 0
TakesOne all rest t i j = (take j all ≡ take i all ++ t ∷ []) × (drop j all ≡ rest)

take_suc : (i : ℕ) (all rest : List Tree) (t : Tree) → drop i all ≡ t ∷ rest → TakesOne all rest t i (suc i)
take_suc zero all rest t is = rw is (refl, refl)
take_suc (suc i) [] rest t is = absurd (cc is)
take_suc (suc i) (x ∷ xs) rest t is = let (taken, left) = take_suc i xs rest t is in (ap (λ (l : List Tree). x ∷ l) taken, left)

pub take_one : (i : ℕ) (all rest : List Tree) (t : Tree) → drop i all ≡ t ∷ rest → TakesOne all rest t i (i + 1)
take_one i all rest t is = let next : suc i ≡ i + 1 = omega arith in subst (λ (j : ℕ). TakesOne all rest t i j) next (take_suc i all rest t is)

abbrev TakesNone : List Tree → ℕ → ℕ → Type 0
TakesNone all i j = (take j all ≡ take i all) × (drop j all ≡ [])

take_past : (i : ℕ) (all : List Tree) → drop i all ≡ [] → TakesNone all i (suc i)
take_past zero all is = rw is (refl, refl)
take_past (suc i) [] is = (refl, refl)
take_past (suc i) (x ∷ xs) is = let (taken, left) = take_past i xs is in (ap (λ (l : List Tree). x ∷ l) taken, left)

pub take_none : (i : ℕ) (all : List Tree) → drop i all ≡ [] → TakesNone all i (i + 1)
take_none i all is = let next : suc i ≡ i + 1 = omega arith in subst (λ (j : ℕ). TakesNone all i j) next (take_past i all is)

pub popped_one : (i : ℕ) (all : List Tree) (old popped nodes more : List Node) (node : Node) → old ≡ popped ++ node ∷ []
    → more ≡ nodes ++ node ∷ [] → map tree_of nodes ≡ take i all → stacked old [] ≡ drop i all
    → (map tree_of more ≡ take (i + 1) all) × (stacked popped [] ≡ drop (i + 1) all)
popped_one i all old popped nodes more node before after taken left =
    let (first, second) = take_one i all (stacked popped []) (tree_of node) (sym left ∙ pushed_top popped old node before) in
    (ap (map tree_of) after ∙ (map-append tree_of nodes (node ∷ []) ∙ (ap (λ (l : List Tree). l ++ tree_of node ∷ []) taken ∙ sym first)), sym second)

pub popped_none : (i : ℕ) (all : List Tree) (old popped nodes : List Node) → length old ≡ 0 → old ≡ popped ++ []
    → map tree_of nodes ≡ take i all → stacked old [] ≡ drop i all → (map tree_of nodes ≡ take (i + 1) all)
    × (stacked popped [] ≡ drop (i + 1) all)
popped_none i all [] popped nodes none same taken left =
    let (first, second) = take_none i all (sym left) in
    (taken ∙ sym first, ap (λ (l : List Node). stacked l []) (sym (append-nil popped) ∙ sym same) ∙ sym second)
popped_none i all (x ∷ xs) popped nodes none same taken left = absurd (omega (arith, none))

-- a call of what was done last, or the error
pub call_kept : (f : Function) (ts : List Tree) → references_at (shape_of f).references ts ≡ true → call f (trees_from ts) ≡ call_or_lost f (trees_from ts)
call_kept f ts test = rw (trees_there ts, test) refl

pub call_lost : (f : Function) (ts : List Tree) → references_at (shape_of f).references ts ≡ false → error kind.Ref ≡ call_or_lost f (trees_from ts)
call_lost f ts test = rw (trees_there ts, test) refl

pub all_joined : (f : List Tree → Tree) (count : ℕ) (old : List Tree) (popped new nodes : List Node) (made : Node)
    → new ≡ popped ++ made ∷ [] → tree_of made ≡ f (map tree_of nodes) → map tree_of nodes ≡ take count old
    → stacked popped [] ≡ drop count old → stacked new [] ≡ over_all f count old
all_joined f count old popped new nodes made after is taken left =
    pushed_top popped new made after ∙ (ap (λ (t : Tree). t ∷ stacked popped []) (is ∙ ap f taken) ∙ ap (λ (l : List Tree). f (take count old) ∷ l) left)

pub call_done : (t : Tree) (f : Function) (ps : Nodes) (nodes : List Node) (old now : List Tree)
    → t ≡ call f (parameters_of ps) → trees_of nodes ≡ parameters_of ps
    → now ≡ over_all (λ trees. call_or_lost f (trees_from trees)) (length nodes) old → now ≡ join t old
call_done t f ps nodes old now is trees done =
    let count : length (tree_list (parameters_of ps)) ≡ length nodes = ap (λ (r : _). length (tree_list r)) (sym trees)
    ∙ (ap length (trees_there (map tree_of nodes)) ∙ length-map nodes tree_of) in
    rw (is, count) done

-- the steps of a whole tree
pub steps_start : (down right : ℤ) (root : Node) (one : Bor (List Node)) (left : List Step) (done : List Node)
    → one.now ≡ root ∷ [] → left ≡ Shift one ∷ [] → done ≡ []
    → after_steps down right left (stacked done []) ≡ shifted down right (tree_of root) ∷ []
steps_start down right root one left done alone is none = rw (is, none, alone) refl

pub steps_on : (down right : ℤ) (old popped next : List Step) (step : Step) (done now : List Tree) (all : List Tree)
    → old ≡ popped ++ step ∷ [] → Leads down right popped (after_step down right step done) next now (step_weight step)
    → after_steps down right old done ≡ all → after_steps down right next now ≡ all
steps_on down right old popped next step done now all is leads at = leads.same ∙ (sym (one_more down right popped old step done is) ∙ at)

pub steps_fewer : (down right : ℤ) (old popped next : List Step) (step : Step) (done now : List Tree) → old ≡ popped
    ++ step ∷ [] → Leads down right popped (after_step down right step done) next now (step_weight step)
    → steps_weight next < steps_weight old
steps_fewer down right old popped next step done now is leads = omega (arith, leads.fewer, one_heavier popped old step is)

pub steps_end : (down right : ℤ) (left : List Step) (done : List Node) (t : Tree) → length left ≡ 0
    → after_steps down right left (stacked done []) ≡ t ∷ [] → stacked done [] ≡ t ∷ []
steps_end down right [] done t none at = at
steps_end down right (x ∷ xs) done t none at = absurd (omega (arith, none))

pub some_done : (done : List Node) (t : Tree) → stacked done [] ≡ t ∷ [] → 0 < length done
some_done [] t is = absurd (cc is)
some_done (x ∷ xs) t is = omega arith

pub last_done : (old popped : List Node) (node : Node) (t : Tree) → old ≡ popped ++ node ∷ [] → stacked old [] ≡ t ∷ [] → tree_of node ≡ t
last_done old popped node t is at = head_of (sym (pushed_top popped old node is) ∙ at)
  where
    head_of : {a b : Tree} {xs ys : List Tree} → a ∷ xs ≡ b ∷ ys → a ≡ b
    head_of e = cc e
