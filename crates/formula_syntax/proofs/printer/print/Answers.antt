use Rattle.std.proofs.Common.{rules, of_calls, ◌≡◌, ◌++◌, ap, ◌∙◌, sym, subst}
use Rattle.text_pieces.proofs.KeepLemmas.{kept, same}
use Rattle.formula_syntax.specs.Printing.{plain}
use Rattle.formula_syntax.specs.Spelling.{Spells}
use Rattle.formula_syntax.specs.contracts.printer.fn.print.keep as closure
use Rattle.formula_syntax.proofs.printer.print.Goals as goal

pub returns-then-send_formula-clause-plain : goal.returns-then-send_formula-clause-plain
returns-then-send_formula-clause-plain c =
    let written = plain c.args.formula.now in
    let grown = kept _ (λ f. (closure.captures f).text.items) (λ f last piece called. let step = called.called in
    let shows = called.shows in search (rules, of_calls)) _ _ _ c.if-send_formula.ensures.sent in
    let all : (closure.captures c.send_formula.new.to).text.items ≡ written = grown ∙ ap (λ t. t ++ written) c.new-text.ensures.items in
    let name = same _ (λ f. f.0.ghost_name) (λ f last piece told called. let step = called.called in
    let shows = called.shows in search (rules, of_calls)) _ _ _ _ c.if-send_formula.ensures.sent in
    search rules

pub returns-then-send_formula-clause-reads_back : goal.returns-then-send_formula-clause-reads_back
returns-then-send_formula-clause-reads_back c =
    subst (λ t. Spells t c.args.formula.now) (sym (returns-then-send_formula-clause-plain c)) c.if-send_formula.ensures.reads_back
