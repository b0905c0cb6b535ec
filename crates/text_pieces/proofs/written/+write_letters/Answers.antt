use Rattle.std.proofs.Common.{sym, subst}
use Rattle.text_pieces.specs.Written.{Writes}
use Rattle.text_pieces.proofs.LetterLemmas.{last_letter}
use Rattle.text_pieces.proofs.WriteLemmas.{in_front}
use Rattle.text_pieces.proofs.written.+write_letters.Goals as goal

pub returns-clause-written : goal.returns-clause-written
returns-clause-written t c =
    subst (λ t. Writes c.args.text.now c.write_letters.new.text t c.args.end c.write_letters.result)
    (sym (last_letter c.args.most c.args.column c.if-most-eq0.false c.if-column-eq0.false))
    (in_front _ _ _ _ _ _ _ _ c.write_byte-letter.ensures.written c.write_letters.ensures.written)
