use Rattle.std.proofs.Common.{◌≡◌, ◌+◌, ◌-◌, ◌∙◌, ◌++◌, [], length, min, take, drop, sym, ap, ap₂, arith}
use Rattle.std.specs.List.{prefix_len}
use Rattle.std.proofs.lemmas.List.{take_all, take_min, drop_min, length-drop}
use Rattle.csv_sheet.specs.Lines.{goes_on, text_rows}
use Rattle.csv_sheet.proofs.LineLemmas.{cut_behind, ending, plain_cut}
use Rattle.csv_sheet.proofs.ahead.split_lines.Goals as goal

pub returns-clause-rows : goal.returns-clause-rows
returns-clause-rows c =
    let text = c.args.text.now in
    let count = length-drop c.args.place text in
    let rest : take (length text - c.args.place) (drop c.args.place text) ≡ drop c.args.place text =
    take_all (length text - c.args.place) (drop c.args.place text) (omega (arith, count)) in
    let line : c.line_length.result ≡ prefix_len goes_on (drop c.args.place text) = c.line_length.ensures.count ∙ ap (prefix_len goes_on) rest in
    let end : c.min.result ≡ min (ending text c.args.place) (length text) =
    c.min.ensures ∙ ap (λ n. min (c.args.place + n + 1) (length text)) line in
    let front = c.split_at.ensures.front ∙ ap (λ n. take n text) end in
    let back = c.split_at.ensures.back ∙ ap (λ n. drop n text) end in
    cut_behind [] text c.args.place
    ∙ ap₂ (λ a b. text_rows a ++ text_rows b) (sym (front ∙ take_min (ending text c.args.place) text))
    (sym (back ∙ drop_min (ending text c.args.place) text))

pub returns-clause-plain : goal.returns-clause-plain
returns-clause-plain c = λ front back.
    plain_cut c.args.text.now c.split_at.result.0.now c.split_at.result.1.now c.min.result c.split_at.ensures.front c.split_at.ensures.back front back
