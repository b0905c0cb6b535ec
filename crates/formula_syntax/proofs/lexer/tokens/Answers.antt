use Rattle.std.proofs.Common.{◌≡◌, ◌<◌, ◌∷◌, ◌++◌, [], ℕ, List, length, drop, arith, rules, subst, sym, ap, ◌∙◌}
use Rattle.std.proofs.lemmas.Grind.{common_steps}
use Rattle.std.proofs.lemmas.List.{length-drop}
use Rattle.sheet_refs.proofs.NameLemmas.{slice_rest}
use Rattle.formula_syntax.specs.Lexing.{past_blanks, IsFront, HasNoToken}
use Rattle.formula_syntax.proofs.Lexemes.{starts_at, goes_on, ends_at, stops_at, past_no_blank, past_within, HasNoBlank}
use Rattle.formula_syntax.proofs.lexer.tokens.Goals as goal

pub loop-rest-init : goal.loop-rest-init
loop-rest-init c = record {
  place = starts_at c.args.text.now c.after_blanks-rest.result.now c.new-tokens.result.items c.new-tokens.ensures.items c.after_blanks-rest.ensures;
  plain = rw c.after_blanks-rest.ensures (past_no_blank c.args.text.now);
  within = omega (arith, ap length c.after_blanks-rest.ensures, past_within c.args.text.now);
}

pub returns-in_default-clause-not : goal.returns-in_default-clause-not
returns-in_default-clause-not c = λ _.
    let some : 0 < length c.loop-rest.rest.now = grind (arith, common_steps) in
    let none : HasNoToken c.loop-rest.rest.now = search rules in
    stops_at c.args.text.now c.loop-rest.rest.now c.loop-rest.tokens.items c.loop-rest.invariant.plain some none c.loop-rest.invariant.place

pub loop-rest-smaller : goal.loop-rest-smaller
loop-rest-smaller c =
    let front : IsFront c.loop-rest.rest.now (c.in-Some.token, c.in-Some.length) = c.in-Some.ensures in
    let past : c.after_blanks-rest-in-loop-rest.result.now ≡ past_blanks (drop c.in-Some.length c.loop-rest.rest.now) =
    c.after_blanks-rest-in-loop-rest.ensures ∙ ap past_blanks (slice_rest c.loop-rest.rest.now c.in-Some.length) in
    omega (
      arith,
      ap length past,
      past_within (drop c.in-Some.length c.loop-rest.rest.now),
      length-drop c.in-Some.length c.loop-rest.rest.now,
      front.some,
      front.within,
    )

pub loop-rest-preserved : goal.loop-rest-preserved
loop-rest-preserved c =
    let front : IsFront c.loop-rest.rest.now (c.in-Some.token, c.in-Some.length) = c.in-Some.ensures in
    let past : c.after_blanks-rest-in-loop-rest.result.now ≡ past_blanks (drop c.in-Some.length c.loop-rest.rest.now) =
    c.after_blanks-rest-in-loop-rest.ensures ∙ ap past_blanks (slice_rest c.loop-rest.rest.now c.in-Some.length) in
    let items : c.push.new.self.items ≡ c.loop-rest.tokens.items ++ (c.in-Some.token ∷ []) = search rules in
    record {
      place = goes_on c.args.text.now c.loop-rest.rest.now c.after_blanks-rest-in-loop-rest.result.now
          c.loop-rest.tokens.items c.push.new.self.items c.in-Some.token c.in-Some.length items past
          c.loop-rest.invariant.plain front c.loop-rest.invariant.place;
      plain = subst (λ (l : List ℕ). HasNoBlank l) (sym past) (past_no_blank (drop c.in-Some.length c.loop-rest.rest.now));
      within = omega (
        arith,
        ap length past,
        past_within (drop c.in-Some.length c.loop-rest.rest.now),
        length-drop c.in-Some.length c.loop-rest.rest.now,
        c.loop-rest.invariant.within,
      );
    }

pub returns-clause-read : goal.returns-clause-read
returns-clause-read c =
    let none : length c.loop-rest.rest.now ≡ 0 = grind (arith, common_steps) in
    ends_at c.args.text.now c.loop-rest.rest.now c.loop-rest.tokens.items none c.loop-rest.invariant.place
