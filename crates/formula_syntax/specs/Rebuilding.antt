-- How a shifted tree is put together: what is left to do, and the trees that are done. The loop's own clauses cite it.
use Rattle.std.specs.Prelude.{◌≡◌, ℕ, ℤ, ◌+◌, ◌*◌, ◌<◌, List, [], ◌∷◌, ◌++◌, length, map, take, drop}
use Rattle.formula_syntax.specs.declared.tree.Node.{Node}
use Rattle.formula_syntax.specs.declared.shifting.Step.{Step}
use Rattle.formula_syntax.specs.declared.shifting.Step.TheVariants.{Shift, Join}
use Rattle.formula_syntax.specs.Shifting.{shifted, call_or_lost}
use Rattle.formula_syntax.specs.Tree.{Tree, number, truth, error, reference, prefix, binary, call, tree_of, trees_of, trees_from, tree_list, all_nodes}

-- the trees that are done, the last on top
abbrev pub stacked : List Node → List Tree → List Tree
stacked [] below = below
stacked (node ∷ rest) below = stacked rest (tree_of node ∷ below)

-- an operator over the tree on top, and over the two on top
abbrev pub over_one : (Tree → Tree) → List Tree → List Tree
over_one f [] = []
over_one f (tree ∷ below) = f tree ∷ below

abbrev pub over_two : (Tree → Tree → Tree) → List Tree → List Tree
over_two f [] = []
over_two f (first ∷ []) = []
over_two f (first ∷ second ∷ below) = f first second ∷ below

-- a function over so many on top
abbrev pub over_all : (List Tree → Tree) → ℕ → List Tree → List Tree
over_all f count done = f (take count done) ∷ drop count done

-- a tree takes the place of the parts of it on top
abbrev pub join : Tree → List Tree → List Tree
join (number n) done = done
join (truth b) done = done
join (error kind) done = done
join (reference r) done = done
join (prefix op operand) done = over_one (prefix op) done
join (binary op first second) done = over_two (binary op) done
join (call f parameters) done = over_all (λ trees. call_or_lost f (trees_from trees)) (length (tree_list parameters)) done

-- what is done after one step: some nodes are shifted, the last of them first; or a node is put together
abbrev pub after_step : ℤ → ℤ → Step → List Tree → List Tree
after_step down right (Shift nodes) done = map (shifted down right) (map tree_of nodes.now) ++ done
after_step down right (Join node) done = join (tree_of node.now) done

-- and after all steps, the last first
abbrev pub after_steps : ℤ → ℤ → List Step → List Tree → List Tree
after_steps down right [] done = done
after_steps down right (step ∷ above) done = after_step down right step (after_steps down right above done)

-- how much is left to do
abbrev pub step_weight : Step → ℕ
step_weight (Shift nodes) = 1 + 4 * all_nodes (trees_of nodes.now)
step_weight (Join node) = 1

abbrev pub steps_weight : List Step → ℕ
steps_weight [] = 0
steps_weight (step ∷ above) = step_weight step + steps_weight above

-- what is left and what is done lead to what others lead to, with less left than them and some more
pub record Leads (down right : ℤ) (old : List Step) (before : List Tree) (new : List Step) (now : List Tree) (more : ℕ) : Type 0 where
  pub same : after_steps down right new now ≡ after_steps down right old before
  pub fewer : steps_weight new < steps_weight old + more
