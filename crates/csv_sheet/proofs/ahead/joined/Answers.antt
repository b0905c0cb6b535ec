use Rattle.std.proofs.Common.{rules, ◌≡◌, ◌∙◌, ◌++◌, ap, subst, sym}
use Rattle.csv_sheet.specs.Ahead.{AreAhead, in_lists}
use Rattle.csv_sheet.proofs.AheadLemmas.{ahead_behind, if_ok, lists_both}
use Rattle.csv_sheet.proofs.ahead.joined.Goals as goal

pub returns : goal.returns
returns c = λ edition front back first second.
    let a = c.in_ok-first.field-0.items in
    let b = c.in_ok-second.field-0.items in
    let before : AreAhead edition front (in_lists a) = search rules in
    let behind : AreAhead edition back (in_lists b) = search rules in
    let both = ahead_behind edition front back (in_lists a) (in_lists b) before behind in
    if_ok (λ all. all.items ≡ a ++ b) (λ all. AreAhead edition (front ++ back) (in_lists all.items)) c.one_behind_other.result
    (λ all items. subst (AreAhead edition (front ++ back)) (sym (ap in_lists items ∙ lists_both a b)) both) c.one_behind_other.ensures
