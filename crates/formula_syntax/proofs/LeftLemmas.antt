-- A tree along its left side: what is printed of it up to a tree there, and behind it.
use Rattle.std.proofs.Common.{◌≡◌, ℕ, zero, suc, ◌+◌, ◌-◌, ◌≤◌, Bool, true, false, List, [], ◌∷◌, ◌++◌, length}
use Rattle.std.proofs.Common.{refl, sym, ap, ap₂, ◌∙◌, subst, arith, append_assoc}
use Rattle.std.specs.Prelude.{nat_lt, if◌then◌else◌}
use Rattle.std.proofs.lemmas.List.{append-nil}
use Rattle.std.proofs.lemmas.Bool.Decides.{nat_tests}
use Rattle.formula_syntax.specs.declared.tree.Node.{Node}
use Rattle.text_pieces.specs.Pieces.{Taker, HandsOut}
use Rattle.text_pieces.proofs.PieceLemmas.{and_then, cut}
use Rattle.formula_syntax.specs.Grammar.{level_of, sign_written}
use Rattle.formula_syntax.specs.Lexing.{operator_text}
use Rattle.formula_syntax.specs.Printing.{at_level, bracket_if, in_parentheses, others_text, parameters_text, top_level, tree_text}
use Rattle.formula_syntax.specs.Left.{HasLeft, HasNoLeft, below, level_below, sign_text, right_text, leaf_text, opening, closing, text_behind, SendsFront}
use Rattle.formula_syntax.specs.Tree.{Tree, number, truth, error, reference, prefix, binary, call, all_nodes, node_count, tree_of, trees_of}

-- one step more to the left
pub one_further : (depth level : ℕ) (tree left : Tree) (least : ℕ) → HasLeft (below depth tree) left least
    → (below (suc depth) tree ≡ left) × (level_below (suc depth) level tree ≡ least)
one_further zero level (prefix op operand) left least (is, at) = (sym is, sym at)
one_further zero level (binary op first second) left least (is, at) = (sym is, sym at)
one_further zero level (number n) left least h = absurd h
one_further zero level (truth b) left least h = absurd h
one_further zero level (error kind) left least h = absurd h
one_further zero level (reference r) left least h = absurd h
one_further zero level (call f parameters) left least h = absurd h
one_further (suc depth) level (prefix op operand) left least h = one_further depth 4 operand left least h
one_further (suc depth) level (binary op first second) left least h = one_further depth (level_of op) first left least h
one_further (suc depth) level (number n) left least h = absurd h
one_further (suc depth) level (truth b) left least h = absurd h
one_further (suc depth) level (error kind) left least h = absurd h
one_further (suc depth) level (reference r) left least h = absurd h
one_further (suc depth) level (call f parameters) left least h = absurd h

-- where there is nothing to the left, one step more stays
pub none_further : (depth level : ℕ) (tree : Tree) → HasNoLeft (below depth tree)
    → (below (suc depth) tree ≡ below depth tree) × (level_below (suc depth) level tree ≡ level_below depth level tree)
none_further zero level (prefix op operand) none = absurd (none operand 4 (refl, refl))
none_further zero level (binary op first second) none = absurd (none first (level_of op) (refl, refl))
none_further zero level (number n) none = (refl, refl)
none_further zero level (truth b) none = (refl, refl)
none_further zero level (error kind) none = (refl, refl)
none_further zero level (reference r) none = (refl, refl)
none_further zero level (call f parameters) none = (refl, refl)
none_further (suc depth) level (prefix op operand) none = none_further depth 4 operand none
none_further (suc depth) level (binary op first second) none = none_further depth (level_of op) first none
none_further (suc depth) level (number n) none = (refl, refl)
none_further (suc depth) level (truth b) none = (refl, refl)
none_further (suc depth) level (error kind) none = (refl, refl)
none_further (suc depth) level (reference r) none = (refl, refl)
none_further (suc depth) level (call f parameters) none = (refl, refl)

-- what lies to the left has fewer nodes
pub left_smaller : (tree left : Tree) (least : ℕ) → HasLeft tree left least → node_count left + 1 ≤ node_count tree
left_smaller (prefix op operand) left least (is, at) = rw is (omega arith)
left_smaller (binary op first second) left least (is, at) = rw is (omega arith)
left_smaller (number n) left least h = absurd h
left_smaller (truth b) left least h = absurd h
left_smaller (error kind) left least h = absurd h
left_smaller (reference r) left least h = absurd h
left_smaller (call f parameters) left least h = absurd h

-- in brackets or not
bracketed : (level : ℕ) (tree : Tree) (text : List ℕ) → at_level level tree text ≡ bracket_if level tree (40 ∷ []) ++ (text ++ bracket_if level tree (41 ∷ []))
bracketed level tree text = by_test (nat_lt (top_level tree) level)
  where
    by_test : (b : Bool) → (if b then in_parentheses text else text) ≡ (if b then 40 ∷ [] else []) ++ (text ++ (if b then 41 ∷ [] else []))
    by_test true = refl
    by_test false = sym (append-nil text)

around : (level : ℕ) (tree : Tree) (inner : List ℕ) → tree_text tree ≡ sign_text tree ++ (inner ++ right_text tree)
    → at_level level tree (tree_text tree) ≡ opening level tree ++ (inner ++ closing level tree)
around level tree inner is =
    let front = bracket_if level tree (40 ∷ []) in
    let back = bracket_if level tree (41 ∷ []) in
    let sign = sign_text tree in
    let right = right_text tree in
    let moved : (sign ++ (inner ++ right)) ++ back ≡ sign ++ (inner ++ (right ++ back)) =
    append_assoc sign (inner ++ right) back ∙ ap (λ t. sign ++ t) (append_assoc inner right back) in
    bracketed level tree (tree_text tree)
    ∙ (ap (λ t. front ++ (t ++ back)) is
    ∙ (ap (λ t. front ++ t) moved ∙ sym (append_assoc front sign (inner ++ (right ++ back)))))

-- a tree is what stands before what lies to its left, that, and what stands behind it
pub with_left : (level : ℕ) (tree left : Tree) (least : ℕ) → HasLeft tree left least
    → at_level level tree (tree_text tree) ≡ opening level tree ++ (at_level least left (tree_text left) ++ closing level tree)
with_left level (prefix op operand) left least (is, at) =
    rw (is, at) (around level (prefix op operand) (at_level 4 operand (tree_text operand))
    (ap (λ t. operator_text (sign_written op) ++ t) (sym (append-nil (at_level 4 operand (tree_text operand))))))
with_left level (binary op first second) left least (is, at) =
    rw (is, at) (around level (binary op first second) (at_level (level_of op) first (tree_text first)) refl)
with_left level (number n) left least h = absurd h
with_left level (truth b) left least h = absurd h
with_left level (error kind) left least h = absurd h
with_left level (reference r) left least h = absurd h
with_left level (call f parameters) left least h = absurd h

-- the same of a tree with nothing to its left
pub with_leaf : (level : ℕ) (tree : Tree) → HasNoLeft tree → at_level level tree (tree_text tree) ≡ opening level tree ++ (leaf_text tree ++ closing level tree)
with_leaf level (prefix op operand) none = absurd (none operand 4 (refl, refl))
with_leaf level (binary op first second) none = absurd (none first (level_of op) (refl, refl))
with_leaf level (number n) none = around level (number n) (leaf_text (number n)) (sym (append-nil (leaf_text (number n))))
with_leaf level (truth b) none = around level (truth b) (leaf_text (truth b)) (sym (append-nil (leaf_text (truth b))))
with_leaf level (error kind) none = around level (error kind) (leaf_text (error kind)) (sym (append-nil (leaf_text (error kind))))
with_leaf level (reference r) none = around level (reference r) (leaf_text (reference r)) (sym (append-nil (leaf_text (reference r))))
with_leaf level (call f parameters) none = around level (call f parameters) (leaf_text (call f parameters)) (sym (append-nil (leaf_text (call f parameters))))

-- what is printed down to a tree on the left, itself opened, was handed out: what is left is what lies to its left, or
-- is printed of it where nothing does, and what stands behind it
pub record IsGoneThrough {F : Type 0} (taker : Taker F) (old : F) (level : ℕ) (tree : Tree) (depth : ℕ) (now : F) : Type 0 where
  pub front : List ℕ
  pub sent : HandsOut taker old front true now
  pub whole : (inner : List ℕ)
      → at_level (level_below depth level tree) (below depth tree) (tree_text (below depth tree)) ≡ opening
      (level_below depth level tree) (below depth tree)
      ++ (inner ++ closing (level_below depth level tree) (below depth tree))
      → at_level level tree (tree_text tree) ≡ front ++ (inner ++ text_behind (suc depth) level tree)

-- a tree has a node, and no fewer than those to its left
pub some_nodes : (tree : Tree) → 1 ≤ node_count tree
some_nodes (number n) = omega arith
some_nodes (truth b) = omega arith
some_nodes (error kind) = omega arith
some_nodes (reference r) = omega arith
some_nodes (prefix op operand) = omega arith
some_nodes (binary op left right) = omega arith
some_nodes (call f parameters) = omega arith

pub below_small : (depth : ℕ) (tree : Tree) → node_count (below depth tree) ≤ node_count tree
below_small zero tree = omega arith
below_small (suc depth) (prefix op operand) = omega (arith, below_small depth operand)
below_small (suc depth) (binary op left right) = omega (arith, below_small depth left)
below_small (suc depth) (number n) = omega arith
below_small (suc depth) (truth b) = omega arith
below_small (suc depth) (error kind) = omega arith
below_small (suc depth) (reference r) = omega arith
below_small (suc depth) (call f parameters) = omega arith

-- a tree begins with what stands before what lies to its left
opened : (level : ℕ) (tree : Tree) → (rest : List ℕ) × (at_level level tree (tree_text tree) ≡ opening level tree ++ rest)
opened level (prefix op operand) = (_, with_left level (prefix op operand) operand 4 (refl, refl))
opened level (binary op left right) = (_, with_left level (binary op left right) left (level_of op) (refl, refl))
opened level (number n) = (_, with_leaf level (number n) (λ left least h. h))
opened level (truth b) = (_, with_leaf level (truth b) (λ left least h. h))
opened level (error kind) = (_, with_leaf level (error kind) (λ left least h. h))
opened level (reference r) = (_, with_leaf level (reference r) (λ left least h. h))
opened level (call f parameters) = (_, with_leaf level (call f parameters) (λ left least h. h))

joined : (text front at behind op inner cl : List ℕ) → text ≡ front ++ (at ++ behind) → at ≡ op ++ (inner ++ cl)
    → text ≡ (front ++ op) ++ (inner ++ (cl ++ behind))
joined text front at behind op inner cl whole parts =
    whole ∙ (ap (λ t. front ++ (t ++ behind)) parts
    ∙ (ap (λ t. front ++ t) (append_assoc op (inner ++ cl) behind ∙ ap (λ t. op ++ t) (append_assoc inner cl behind))
    ∙ sym (append_assoc front op (inner ++ (cl ++ behind)))))

module _ {F : Type 0} (taker : Taker F) where
  -- the tree itself is opened
  pub gone_first : (old now : F) (level : ℕ) (tree : Tree) → HandsOut taker old (opening level tree) true now → IsGoneThrough taker old level tree 0 now
  gone_first old now level tree sent = record {
    front = opening level tree;
    sent = sent;
    whole = λ inner is. is ∙ ap (λ t. opening level tree ++ (inner ++ t)) (sym (append-nil (closing level tree)));
  }

  pub cut_first : (old last : F) (level : ℕ) (tree : Tree) → HandsOut taker old (opening level tree) false last
      → HandsOut taker old (at_level level tree (tree_text tree)) false last
  cut_first old last level tree sent =
      let (rest, is) = opened level tree in
      subst (λ t. HandsOut taker old t false last) (sym is) (cut taker old last (opening level tree) rest sent)

  -- up to what lies to the left of the tree that was reached
  reached : (old now : F) (level : ℕ) (tree left : Tree) (least depth : ℕ) (gone : IsGoneThrough taker old level tree
      depth now) → HasLeft (below depth tree) left least
      → at_level level tree (tree_text tree) ≡ gone.front ++ (at_level least left (tree_text left) ++ text_behind (suc depth) level tree)
  reached old now level tree left least depth gone h =
      gone.whole (at_level least left (tree_text left)) (with_left (level_below depth level tree) (below depth tree) left least h)

  -- what lies to its left is opened too
  pub gone_next : (old mid now : F) (level : ℕ) (tree left : Tree) (least depth next : ℕ) → next ≡ suc depth
      → IsGoneThrough taker old level tree depth mid → HasLeft (below depth tree) left least → HandsOut taker mid (opening least left) true now
      → IsGoneThrough taker old level tree next now
  gone_next old mid now level tree left least depth next is gone h sent = rw is (record {
    front = gone.front ++ opening least left;
    sent = and_then taker old mid now gone.front (opening least left) true gone.sent sent;
    whole = whole;
  })
    where
      there : below (suc depth) tree ≡ left
      there = (one_further depth level tree left least h).0

      at : level_below (suc depth) level tree ≡ least
      at = (one_further depth level tree left least h).1

      whole : (inner : List ℕ)
          → at_level (level_below (suc depth) level tree) (below (suc depth) tree)
          (tree_text (below (suc depth) tree)) ≡ opening (level_below (suc depth) level tree)
          (below (suc depth) tree)
          ++ (inner ++ closing (level_below (suc depth) level tree) (below (suc depth) tree))
          → at_level level tree (tree_text tree) ≡ (gone.front ++ opening least left) ++ (inner ++ text_behind (suc (suc depth)) level tree)
      whole inner parts =
          let moved = subst (λ (t : Tree). at_level (level_below (suc depth) level tree) t (tree_text t) ≡ opening
          (level_below (suc depth) level tree) t ++ (inner ++ closing (level_below (suc depth) level tree) t)) there
          parts in
          let same = subst (λ (l : ℕ). at_level l left (tree_text left) ≡ opening l left ++ (inner ++ closing l left)) at moved in
          joined (at_level level tree (tree_text tree)) gone.front (at_level least left (tree_text left))
          (text_behind (suc depth) level tree) (opening least left) inner (closing least left)
          (reached old mid level tree left least depth gone h) same
          ∙ ap₂ (λ (l : ℕ) (t : Tree). (gone.front ++ opening least left)
          ++ (inner ++ (closing l t ++ text_behind (suc depth) level tree))) (sym at) (sym there)

  pub cut_next : (old mid last : F) (level : ℕ) (tree left : Tree) (least depth : ℕ)
      → IsGoneThrough taker old level tree depth mid → HasLeft (below depth tree) left least → HandsOut taker mid (opening least left) false last
      → HandsOut taker old (at_level level tree (tree_text tree)) false last
  cut_next old mid last level tree left least depth gone h sent =
      let behind = text_behind (suc depth) level tree in
      subst (λ t. HandsOut taker old t false last) (sym (reached old mid level tree left least depth gone h))
      (and_then taker old mid last gone.front (at_level least left (tree_text left) ++ behind) false gone.sent
      (cut taker mid last (at_level least left (tree_text left)) behind (cut_first mid last least left sent)))

  leaf_reached : (old now : F) (level : ℕ) (tree : Tree) (depth : ℕ) (gone : IsGoneThrough taker old level tree depth now) → HasNoLeft (below depth tree)
      → at_level level tree (tree_text tree) ≡ gone.front ++ (leaf_text (below depth tree) ++ text_behind (suc depth) level tree)
  leaf_reached old now level tree depth gone none = gone.whole (leaf_text (below depth tree)) (with_leaf (level_below depth level tree) (below depth tree) none)

  -- where nothing lies to its left, its own text is what is printed before what stands behind
  pub front_sent : (old mid now : F) (level : ℕ) (tree here : Tree) (depth : ℕ) → here ≡ below depth tree → depth + node_count here ≤ node_count tree
      → IsGoneThrough taker old level tree depth mid → HasNoLeft here → HandsOut taker mid (leaf_text here) true now → SendsFront taker old level tree depth now
  front_sent old mid now level tree here depth is few gone none sent = record {
    front = gone.front ++ leaf_text (below depth tree);
    sent = and_then taker old mid now gone.front (leaf_text (below depth tree)) true gone.sent
        (subst (λ (t : Tree). HandsOut taker mid (leaf_text t) true now) is sent);
    whole = leaf_reached old mid level tree depth gone (subst HasNoLeft is none)
        ∙ sym (append_assoc gone.front (leaf_text (below depth tree)) (text_behind (suc depth) level tree));
    few = omega (arith, few, some_nodes here);
  }

  pub cut_leaf : (old mid last : F) (level : ℕ) (tree here : Tree) (depth : ℕ) → here ≡ below depth tree
      → IsGoneThrough taker old level tree depth mid → HasNoLeft here → HandsOut taker mid (leaf_text here) false last
      → HandsOut taker old (at_level level tree (tree_text tree)) false last
  cut_leaf old mid last level tree here depth is gone none sent =
      let behind = text_behind (suc depth) level tree in
      subst (λ t. HandsOut taker old t false last) (sym (leaf_reached old mid level tree depth gone (subst HasNoLeft is none)))
      (and_then taker old mid last gone.front (leaf_text (below depth tree) ++ behind) false gone.sent
      (cut taker mid last (leaf_text (below depth tree)) behind (subst (λ (t : Tree). HandsOut taker mid (leaf_text t) false last) is sent)))

-- where there is nothing to the left, all steps stay
stays : (depth level : ℕ) (tree : Tree) → HasNoLeft tree → (below depth tree ≡ tree) × (level_below depth level tree ≡ level)
stays zero level tree none = (refl, refl)
stays (suc depth) level (prefix op operand) none = absurd (none operand 4 (refl, refl))
stays (suc depth) level (binary op first second) none = absurd (none first (level_of op) (refl, refl))
stays (suc depth) level (number n) none = (refl, refl)
stays (suc depth) level (truth b) none = (refl, refl)
stays (suc depth) level (error kind) none = (refl, refl)
stays (suc depth) level (reference r) none = (refl, refl)
stays (suc depth) level (call f parameters) none = (refl, refl)

-- so many steps to the left, and more of them
abbrev AreMore : ℕ → ℕ → ℕ → Tree → Type 0
AreMore more depth level tree = (below (more + depth) tree ≡ below more (below depth tree))
    × (level_below (more + depth) level tree ≡ level_below more (level_below depth level tree) (below depth tree))

none_more : (more depth level : ℕ) (tree : Tree) → HasNoLeft tree → AreMore more depth level tree
none_more more depth level tree none =
    let (all, at_all) = stays (more + depth) level tree none in
    let (some, at_some) = stays depth level tree none in
    let (rest, at_rest) = stays more level tree none in
    rw (some, at_some) (all ∙ sym rest, at_all ∙ sym at_rest)

some_more_steps : (more depth level : ℕ) (tree : Tree) → AreMore more depth level tree
some_more_steps more zero level tree =
    let same : more + 0 ≡ more = omega arith in
    rw same (refl, refl)
some_more_steps more (suc depth) level (prefix op operand) =
    let step : more + suc depth ≡ suc (more + depth) = omega arith in
    rw step (some_more_steps more depth 4 operand)
some_more_steps more (suc depth) level (binary op first second) =
    let step : more + suc depth ≡ suc (more + depth) = omega arith in
    rw step (some_more_steps more depth (level_of op) first)
some_more_steps more (suc depth) level (number n) = none_more more (suc depth) level (number n) (λ left least h. h)
some_more_steps more (suc depth) level (truth b) = none_more more (suc depth) level (truth b) (λ left least h. h)
some_more_steps more (suc depth) level (error kind) = none_more more (suc depth) level (error kind) (λ left least h. h)
some_more_steps more (suc depth) level (reference r) = none_more more (suc depth) level (reference r) (λ left least h. h)
some_more_steps more (suc depth) level (call f parameters) = none_more more (suc depth) level (call f parameters) (λ left least h. h)

-- what stands behind the inner trees of a chain stands before what stands behind the outer ones
both_behind : (more depth level : ℕ) (tree : Tree)
    → text_behind (more + depth) level tree
    ≡ text_behind more (level_below depth level tree) (below depth tree) ++ text_behind depth level tree
both_behind zero depth level tree =
    let same : 0 + depth ≡ depth = omega arith in
    rw same refl
both_behind (suc more) depth level tree =
    let step : suc more + depth ≡ suc (more + depth) = omega arith in
    let (there, at) = some_more_steps more depth level tree in
    let inner = text_behind more (level_below depth level tree) (below depth tree) in
    rw step (ap₂ (λ c t. c ++ t) (ap₂ closing at there) (both_behind more depth level tree)
    ∙ sym (append_assoc (closing (level_below more (level_below depth level tree) (below depth tree)) (below more (below depth tree)))
    inner (text_behind depth level tree)))

halves_behind : (half depth level : ℕ) (tree here : Tree) (at : ℕ) → half ≤ depth → here ≡ below half tree → at ≡ level_below half level tree
    → text_behind depth level tree ≡ text_behind (depth - half) at here ++ text_behind half level tree
halves_behind half depth level tree here at few is is_at =
    let same : depth ≡ (depth - half) + half = omega (arith, few) in
    rw (is, is_at) (ap (λ (d : ℕ). text_behind d level tree) same ∙ both_behind (depth - half) half level tree)

module _ {F : Type 0} (taker : Taker F) where
  -- what stands behind the inner trees of a chain is handed out first
  pub inner_cut : (old last : F) (half depth level : ℕ) (tree here : Tree) (at : ℕ) → half ≤ depth → here ≡ below half tree → at ≡ level_below half level tree
      → HandsOut taker old (text_behind (depth - half) at here) false last → HandsOut taker old (text_behind depth level tree) false last
  inner_cut old last half depth level tree here at few is is_at sent =
      subst (λ t. HandsOut taker old t false last) (sym (halves_behind half depth level tree here at few is is_at))
      (cut taker old last (text_behind (depth - half) at here) (text_behind half level tree) sent)

  pub outer_sent : (old mid last : F) (half depth level : ℕ) (tree here : Tree) (at : ℕ) (b : Bool) → half ≤ depth → here ≡ below half tree
      → at ≡ level_below half level tree → HandsOut taker old (text_behind (depth - half) at here) true mid
      → HandsOut taker mid (text_behind half level tree) b last
      → HandsOut taker old (text_behind depth level tree) b last
  outer_sent old mid last half depth level tree here at b few is is_at inner outer =
      subst (λ t. HandsOut taker old t b last) (sym (halves_behind half depth level tree here at few is is_at))
      (and_then taker old mid last (text_behind (depth - half) at here) (text_behind half level tree) b inner outer)

-- where any operator is tight enough, a tree has no brackets round it
pub at_loosest : (tree : Tree) → at_level 0 tree (tree_text tree) ≡ tree_text tree
at_loosest tree =
    let tight : nat_lt (top_level tree) 0 ≡ false = grind (arith, nat_tests) in
    ap (λ (b : Bool). if b then in_parentheses (tree_text tree) else tree_text tree) tight

-- parameters, the first apart
pub some_more : (nodes : List Node) (first : Node) (rest : List Node) → nodes ≡ first ∷ rest
    → others_text (trees_of nodes) ≡ 59 ∷ (tree_text (tree_of first) ++ others_text (trees_of rest))
some_more nodes first rest is = rw is refl

pub some_parameters : (nodes : List Node) (first : Node) (rest : List Node) → nodes ≡ first ∷ rest
    → parameters_text (trees_of nodes) ≡ tree_text (tree_of first) ++ others_text (trees_of rest)
some_parameters nodes first rest is = rw is refl

pub fewer_left : (nodes : List Node) (first : Node) (rest : List Node) → nodes ≡ first ∷ rest → all_nodes (trees_of rest) ≤ all_nodes (trees_of nodes)
fewer_left nodes first rest is = rw is (omega arith)

pub no_others : (nodes : List Node) → length nodes ≡ 0 → others_text (trees_of nodes) ≡ []
no_others [] is = refl
no_others (first ∷ rest) is = absurd (omega (arith, is))

pub no_parameters : (nodes : List Node) → length nodes ≡ 0 → parameters_text (trees_of nodes) ≡ []
no_parameters [] is = refl
no_parameters (first ∷ rest) is = absurd (omega (arith, is))
