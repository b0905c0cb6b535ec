use Rattle.std.proofs.Common.{◌≡◌, ◌∷◌, rules, true}
use Rattle.sheet_refs.proofs.EndLemmas.{behind_dot}
use Rattle.sheet_refs.proofs.end_names.end_of.Goals as goal

pub returns-in-Some-eq46-default : goal.returns-in-Some-eq46-default
returns-in-Some-eq46-default c =
    let is : c.args.dotted ≡ true = search rules in
    let split : c.args.text.now ≡ 46 ∷ c.in-Some-eq46-default.name.now = search rules in
    behind_dot c.args.dotted c.args.text.now c.in-Some-eq46-default.name.now c.anchor_of-in-Some-eq46-default.result is
    split c.anchor_of-in-Some-eq46-default.ensures
