use Rattle.std.proofs.Common.{◌+◌, ◌*◌, ◌∙◌, sym, arith, rules}
use Rattle.sheet_model.proofs.LineLemmas.{plain_all, plain_next}
use Rattle.sheet_model.proofs.WordLemmas.{word_at}
use Rattle.sheet_model.proofs.words.plain_words.Goals as goal

pub is_plain_word-requires : goal.is_plain_word-requires
is_plain_word-requires c =
    word_at c.args.words.now (c.args.first + c.loop-k.k * c.args.step) 0 c.requires.words (c.requires.within c.loop-k.k c.loop-k-test.true)

pub returns-then-not-is_plain_word : goal.returns-then-not-is_plain_word
returns-then-not-is_plain_word c = record {
  few = omega (arith, c.loop-k-test.true);
  plain = c.loop-k.invariant;
  stop = λ less. sym c.is_plain_word.ensures ∙ search rules;
}

pub loop-k-preserved : goal.loop-k-preserved
loop-k-preserved c =
    plain_next c.args.words.now c.args.first c.args.step c.loop-k.k c.loop-k.invariant (sym c.is_plain_word.ensures ∙ search rules)

pub returns : goal.returns
returns c = plain_all c.args.words.now c.args.first c.args.step c.loop-k.k c.args.count c.loop-k.invariant (omega arith)
