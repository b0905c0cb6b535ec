use Rattle.std.proofs.Common.{◌≡◌, ◌<◌, ◌+◌, ◌∙◌, ◌++◌, ◌∷◌, [], length, get_or, take, sym, ap, subst, arith, append_assoc, add-one}
use Rattle.std.specs.Prelude.{IsUtf8}
use Rattle.std.proofs.Math.Seq.{take-suc}
use Rattle.csv_sheet.specs.Ahead.{AreAhead, IsAhead}
use Rattle.csv_sheet.specs.Lines.{line_fields}
use Rattle.csv_sheet.proofs.AheadLemmas.{ahead_more}
use Rattle.csv_sheet.proofs.LineLemmas.{line_text, next_field, next_left}
use Rattle.csv_sheet.proofs.RecordLemmas.{text_at}
use Rattle.csv_sheet.proofs.ahead.read_line.Goals as goal

pub text_of-requires : goal.text_of-requires
text_of-requires c =
    let fields = line_fields [] c.args.line.now in
    let within : c.loop.counter < length fields = (let e = c.field_count-end.ensures in let t = c.loop-test.true in omega (arith, e, t)) in
    let field = c.split_field.ensures.field ∙ sym (next_field fields c.loop.counter c.loop.left.now (c.loop.invariant.1 within)) in
    subst IsUtf8 (sym field) (text_at fields (line_text [] c.args.line.now (λ i. omega arith) c.requires.ascii) c.loop.counter within)

pub loop-preserved : goal.loop-preserved
loop-preserved c =
    let fields = line_fields [] c.args.line.now in
    let col = c.loop.counter in
    let within : col < length fields = (let e = c.field_count-end.ensures in let t = c.loop-test.true in omega (arith, e, t)) in
    let behind = c.loop.invariant.1 within in
    let field = c.text_of.ensures ∙ c.split_field.ensures.field ∙ sym (next_field fields col c.loop.left.now behind) in
    let more : take (col + 1) fields ≡ take col fields ++ get_or fields col [] ∷ [] = rw add-one (take-suc fields col [] within) in
    let items : c.push.new.self.items ≡ c.loop.ahead.items ++ c.read_field.result ∷ [] = c.in_ok-push.ensures.items in (
      λ before ahead.
          let known = subst (λ f. IsAhead c.args.edition f c.read_field.result) field c.read_field.ensures in
          let one = ahead_more c.args.edition (before ++ take col fields) c.loop.ahead.items (get_or fields col []) c.read_field.result
          (c.loop.invariant.0 before ahead) known in
          let joined : (before ++ take col fields) ++ get_or fields col [] ∷ [] ≡ before ++ take (col + 1) fields =
          append_assoc before (take col fields) (get_or fields col [] ∷ []) ∙ ap (λ fs. before ++ fs) (sym more) in
          subst (AreAhead c.args.edition (before ++ take (col + 1) fields)) (sym items)
          (subst (λ fs. AreAhead c.args.edition fs (c.loop.ahead.items ++ c.read_field.result ∷ [])) joined one),
      λ less. next_left fields col c.loop.left.now behind less ∙ ap (λ l. line_fields [] l) (sym c.split_field.ensures.behind),
    )
