use Rattle.std.proofs.Common.{◌≡◌, ◌∷◌, ◌++◌, [], length, arith, ap, sym, ◌∙◌, rules}
use Rattle.formula_syntax.specs.Grammar.{sign_written}
use Rattle.formula_syntax.specs.Reading.{under_all}
use Rattle.formula_syntax.specs.declared.tokens.Token.TheVariants as token
use Rattle.formula_syntax.proofs.Signs.{signs_step, after_step, no_sign_after, no_sign_with}
use Rattle.formula_syntax.proofs.parser.signs.Goals as goal

pub loop-sign-preserved : goal.loop-sign-preserved
loop-sign-preserved c =
    let is : c.loop-sign.rest.now ≡ token.Operator (sign_written c.in-Some.sign) ∷ c.in-Some.behind.now = search rules in
    let items : c.push.new.self.items ≡ c.loop-sign.signs.items ++ (c.in-Some.sign ∷ []) = search rules in
    record {
      behind = after_step c.args.tokens.now c.loop-sign.rest.now c.in-Some.behind.now c.in-Some.sign is c.loop-sign.invariant.behind;
      signs = signs_step c.args.tokens.now c.loop-sign.rest.now c.in-Some.behind.now c.in-Some.sign
          c.loop-sign.signs.items c.push.new.self.items is items c.loop-sign.invariant.signs;
      within = omega (arith, ap length is);
    }

pub returns-clause-behind : goal.returns-clause-behind
returns-clause-behind c = sym (c.loop-sign.invariant.behind ∙ no_sign_after c.loop-sign.rest.now (search rules))

pub returns-clause-signs : goal.returns-clause-signs
returns-clause-signs c = λ t. c.loop-sign.invariant.signs t ∙ ap (under_all c.loop-sign.signs.items) (no_sign_with c.loop-sign.rest.now t (search rules))
