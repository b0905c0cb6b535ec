-- A shift opens no more parentheses.
use Rattle.std.proofs.Common.{◌≡◌, ℕ, ℤ, suc, ◌<◌, ◌≤◌, Bool, true, false, List, [], ◌∷◌, ◌++◌, refl, arith}
use Rattle.std.specs.Prelude.{nat_lt, Option, Some, None}
use Rattle.sheet_refs.specs.Ends.{Reference}
use Rattle.formula_syntax.specs.declared.tokens.Token.{Token}
use Rattle.formula_syntax.specs.declared.tokens.Token.TheVariants as token
use Rattle.formula_syntax.specs.declared.functions.Function.{Function}
use Rattle.formula_syntax.specs.Functions.{shape_of}
use Rattle.formula_syntax.specs.Grammar.{level_of}
use Rattle.formula_syntax.specs.Printing.{top_level, tree_text, plain}
use Rattle.formula_syntax.specs.Reading.{references_at}
use Rattle.formula_syntax.specs.Shifting.{shifted_reference, or_lost, call_or_lost, shifted, all_shifted}
use Rattle.formula_syntax.specs.Spelling.{IsTooDeep}
use Rattle.formula_syntax.specs.Tree.{Tree, Trees, number, truth, error, reference, prefix, binary, call, no_trees, and_trees, tree_list, IsFitting}
use Rattle.formula_syntax.proofs.Depths.{depth_of, depth_of_tokens, tokens_depth, too_deep, deep_text}
use Rattle.formula_syntax.proofs.Printed.{enclosed, at_tokens, tree_tokens, all_tokens, other_tokens, printed_tokens}
use Rattle.formula_syntax.proofs.Shifts.{stays_fitting}
use Rattle.formula_syntax.proofs.Shorter.{opened, closed, opened-append, closed-append, depth-append, enclosed_depth, enclosed_even}

-- some tokens go no deeper than others, and in both each parenthesis is closed
record IsFlatter (ts us : List Token) : Type 0 where
  shallow : depth_of_tokens ts ≤ depth_of_tokens us
  even : opened ts ≡ closed ts
  level : opened us ≡ closed us

joined : (ts us vs ws : List Token) → IsFlatter ts us → IsFlatter vs ws → IsFlatter (ts ++ vs) (us ++ ws)
joined ts us vs ws h k = record {
  shallow = omega (arith, h.shallow, k.shallow, h.even, h.level, depth-append ts vs, depth-append us ws);
  even = omega (arith, h.even, k.even, opened-append ts vs, closed-append ts vs);
  level = omega (arith, h.level, k.level, opened-append us ws, closed-append us ws);
}

both_enclosed : (ts us : List Token) → IsFlatter ts us → IsFlatter (enclosed ts) (enclosed us)
both_enclosed ts us h = record {
  shallow = omega (arith, h.shallow, enclosed_depth ts h.even, enclosed_depth us h.level);
  even = enclosed_even ts h.even;
  level = enclosed_even us h.level;
}

-- the top of a tree stays as tight as it was
lost_top : (o : Option Reference) → top_level (or_lost o) ≡ 4
lost_top None = refl
lost_top (Some r) = refl

call_top : (f : Function) (ps : Trees) → top_level (call_or_lost f ps) ≡ 4
call_top f ps = by_test (references_at (shape_of f).references (tree_list ps)) refl
  where
    by_test : (b : Bool) → references_at (shape_of f).references (tree_list ps) ≡ b → top_level (call_or_lost f ps) ≡ 4
    by_test true e = rw e refl
    by_test false e = rw e refl

same_top : (down right : ℤ) (t : Tree) → top_level (shifted down right t) ≡ top_level t
same_top down right (number n) = refl
same_top down right (truth b) = refl
same_top down right (error k) = refl
same_top down right (reference r) = lost_top (shifted_reference down right r)
same_top down right (prefix op t) = refl
same_top down right (binary op l r) = refl
same_top down right (call f ps) = call_top f (all_shifted down right ps)

either : (want : ℕ) (t new : Tree) → top_level new ≡ top_level t → IsFlatter (tree_tokens new) (tree_tokens t)
    → IsFlatter (at_tokens want new (tree_tokens new)) (at_tokens want t (tree_tokens t))
either want t new top h = by_test (nat_lt (top_level t) want) refl
  where
    by_test : (b : Bool) → nat_lt (top_level t) want ≡ b → IsFlatter (at_tokens want new (tree_tokens new)) (at_tokens want t (tree_tokens t))
    by_test true e = rw (top, e) (both_enclosed (tree_tokens new) (tree_tokens t) h)
    by_test false e = rw (top, e) h

lost_flat : (o : Option Reference) (r : Reference) → IsFlatter (tree_tokens (or_lost o)) (token.Reference r ∷ [])
lost_flat None r = record { shallow = omega arith; even = refl; level = refl }
lost_flat (Some s) r = record { shallow = omega arith; even = refl; level = refl }

call_flat : (f : Function) (ps new : Trees) → IsFlatter (all_tokens new) (all_tokens ps)
    → IsFlatter (tree_tokens (call_or_lost f new)) (tree_tokens (call f ps))
call_flat f ps new h = by_test (references_at (shape_of f).references (tree_list new)) refl
  where
    inner : IsFlatter (enclosed (all_tokens new)) (enclosed (all_tokens ps))
    inner = both_enclosed (all_tokens new) (all_tokens ps) h

    by_test : (b : Bool) → references_at (shape_of f).references (tree_list new) ≡ b → IsFlatter (tree_tokens (call_or_lost f new)) (tree_tokens (call f ps))
    by_test true e = rw e (record { shallow = omega (arith, inner.shallow); even = omega (arith, inner.even); level = omega (arith, inner.level) })
    by_test false e = rw e (record { shallow = omega arith; even = refl; level = omega (arith, inner.level) })

mutual
  flatter : (down right : ℤ) (t : Tree) → IsFlatter (tree_tokens (shifted down right t)) (tree_tokens t)
  flatter down right (number n) = record { shallow = omega arith; even = refl; level = refl }
  flatter down right (truth b) = record { shallow = omega arith; even = refl; level = refl }
  flatter down right (error k) = record { shallow = omega arith; even = refl; level = refl }
  flatter down right (reference r) = lost_flat (shifted_reference down right r) r
  flatter down right (prefix op t) =
      let h = either 4 t (shifted down right t) (same_top down right t) (flatter down right t) in
      record { shallow = omega (arith, h.shallow); even = omega (arith, h.even); level = omega (arith, h.level) }
  flatter down right (binary op l r) =
      let left = either (level_of op) l (shifted down right l) (same_top down right l) (flatter down right l) in
      let h = either (suc (level_of op)) r (shifted down right r) (same_top down right r) (flatter down right r) in
      joined (at_tokens (level_of op) (shifted down right l) (tree_tokens (shifted down right l))) (at_tokens (level_of op) l (tree_tokens l))
      (token.Operator op ∷ at_tokens (suc (level_of op)) (shifted down right r) (tree_tokens (shifted down right r)))
      (token.Operator op ∷ at_tokens (suc (level_of op)) r (tree_tokens r))
      left (record { shallow = omega (arith, h.shallow); even = omega (arith, h.even); level = omega (arith, h.level) })
  flatter down right (call f ps) = call_flat f ps (all_shifted down right ps) (all_flatter down right ps)

  all_flatter : (down right : ℤ) (ps : Trees) → IsFlatter (all_tokens (all_shifted down right ps)) (all_tokens ps)
  all_flatter down right no_trees = record { shallow = omega arith; even = refl; level = refl }
  all_flatter down right (and_trees t rest) =
      joined (tree_tokens (shifted down right t)) (tree_tokens t) (other_tokens (all_shifted down right rest))
      (other_tokens rest) (flatter down right t) (others_flatter down right rest)

  others_flatter : (down right : ℤ) (ps : Trees) → IsFlatter (other_tokens (all_shifted down right ps)) (other_tokens ps)
  others_flatter down right no_trees = record { shallow = omega arith; even = refl; level = refl }
  others_flatter down right (and_trees t rest) =
      let h = joined (tree_tokens (shifted down right t)) (tree_tokens t) (other_tokens (all_shifted down right rest))
      (other_tokens rest) (flatter down right t) (others_flatter down right rest) in
      record { shallow = omega (arith, h.shallow); even = omega (arith, h.even); level = omega (arith, h.level) }

-- so the plain text is no deeper
pub no_deeper : (down right : ℤ) (t : Tree) → IsFitting t → IsTooDeep (plain (shifted down right t)) → IsTooDeep (plain t)
no_deeper down right t fits deep =
    let new = shifted down right t in
    let ours : depth_of (tree_text new) ≡ depth_of_tokens (tree_tokens new) =
    tokens_depth (tree_text new) (tree_tokens new) (printed_tokens new (stays_fitting down right t fits)) in
    let theirs : depth_of (tree_text t) ≡ depth_of_tokens (tree_tokens t) = tokens_depth (tree_text t) (tree_tokens t) (printed_tokens t fits) in
    let far : 64 < depth_of (tree_text new) = too_deep (plain new) deep in
    deep_text (plain t) (omega (arith, far, ours, theirs, (flatter down right t).shallow))
