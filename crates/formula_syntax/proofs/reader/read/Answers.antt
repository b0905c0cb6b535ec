use Rattle.std.proofs.Common.{◌≡◌, ◌≤◌, true, false, List, length, arith, rules, ap, ◌∙◌}
use Rattle.std.specs.Prelude.{count_by}
use Rattle.std.proofs.lemmas.Result.{err_from_is_err_and}
use Rattle.formula_syntax.specs.declared.tokens.Token.{Token}
use Rattle.formula_syntax.specs.Editions.{has_tokens}
use Rattle.formula_syntax.specs.Tree.{tree_of}
use Rattle.formula_syntax.specs.Grammar.{Derives}
use Rattle.formula_syntax.specs.Spelling.{IsTooDeep, is_reference_token}
use Rattle.formula_syntax.proofs.Spells.{lacks_function, root_refused, tokens_refused, many_references, is_read, formula_kept, introduction_length}
use Rattle.formula_syntax.proofs.reader.read.Goals as goal

pub returns-in_err-tokens : goal.returns-in_err-tokens
returns-in_err-tokens c =
    let p = err_from_is_err_and c.from_residual.result c.from_residual.ensures.1 in
    let shallow : ¬ IsTooDeep c.args.text.now = search rules in
    rw (p.1, p.2) (tokens_refused c.args.edition c.args.text.now c.in-Some.rest.now c.in_err-tokens.field-0.0 shallow
    c.in-Some.ensures c.in_err-tokens.ensures.not)

pub returns-in_err-root : goal.returns-in_err-root
returns-in_err-root c =
    let p = err_from_is_err_and c.from_residual-in_err-root.result c.from_residual-in_err-root.ensures.1 in
    let shallow : ¬ IsTooDeep c.args.text.now = search rules in
    rw (p.1, p.2) (root_refused c.args.edition c.args.text.now c.in-Some.rest.now c.in_ok-tokens.tokens.items
    c.in_err-root.field-0.0 shallow c.in-Some.ensures c.in_ok-tokens.ensures.read
    (rw c.deref.ensures.value at c.in_err-root.ensures.not))

pub returns-then-not-all_within : goal.returns-then-not-all_within
returns-then-not-all_within c =
    let shallow : ¬ IsTooDeep c.args.text.now = search rules in
    let lacks : has_tokens c.args.edition c.in_ok-tokens.tokens.items ≡ false = search rules in
    lacks_function c.args.edition c.args.text.now c.in-Some.rest.now c.in_ok-tokens.tokens.items shallow c.in-Some.ensures c.in_ok-tokens.ensures.read lacks

pub returns-then-reference_count-gt-MAX_REFERENCES : goal.returns-then-reference_count-gt-MAX_REFERENCES
returns-then-reference_count-gt-MAX_REFERENCES c =
    let shallow : ¬ IsTooDeep c.args.text.now = search rules in
    let derived : Derives 0 c.in_ok-tokens.tokens.items (tree_of c.in_ok-root.root) = rw c.deref.ensures.value at c.in_ok-root.ensures.read in
    let within : has_tokens c.args.edition c.in_ok-tokens.tokens.items ≡ true = search rules in
    let count = c.reference_count.ensures ∙ ap (λ (ts : List Token). count_by is_reference_token ts) c.deref-3.ensures.value in
    many_references c.args.edition c.args.text.now c.in-Some.rest.now c.in_ok-tokens.tokens.items
    (tree_of c.in_ok-root.root) shallow c.in-Some.ensures c.in_ok-tokens.ensures.read derived within
    (omega (arith, count, c.if-reference_count-gt-MAX_REFERENCES.true))

pub invariant_of-result : goal.invariant_of-result
invariant_of-result c =
    let derived : Derives 0 c.in_ok-tokens.tokens.items (tree_of c.in_ok-root.root) = rw c.deref.ensures.value at c.in_ok-root.ensures.read in
    let count = c.reference_count.ensures ∙ ap (λ (ts : List Token). count_by is_reference_token ts) c.deref-3.ensures.value in
    let short : length c.in_ok-tokens.tokens.items ≤ 8192 = omega (
      arith,
      c.in_ok-tokens.ensures.few,
      introduction_length c.args.text.now c.in-Some.rest.now c.in-Some.ensures,
      c.requires,
    ) in
    formula_kept c.in-Some.rest.now c.in_ok-tokens.tokens.items (tree_of c.in_ok-root.root) short (omega (
      arith,
      count,
      c.if-reference_count-gt-MAX_REFERENCES.false,
    )) c.in_ok-tokens.ensures.read derived

pub returns : goal.returns
returns c =
    let shallow : ¬ IsTooDeep c.args.text.now = search rules in
    let derived : Derives 0 c.in_ok-tokens.tokens.items (tree_of c.in_ok-root.root) = rw c.deref.ensures.value at c.in_ok-root.ensures.read in
    let within : has_tokens c.args.edition c.in_ok-tokens.tokens.items ≡ true = search rules in
    let count = c.reference_count.ensures ∙ ap (λ (ts : List Token). count_by is_reference_token ts) c.deref-3.ensures.value in
    is_read c.args.edition c.args.text.now c.in-Some.rest.now c.in_ok-tokens.tokens.items (tree_of c.in_ok-root.root)
    shallow c.in-Some.ensures c.in_ok-tokens.ensures.read derived within (omega (
      arith,
      count,
      c.if-reference_count-gt-MAX_REFERENCES.false,
    ))
