use Rattle.std.proofs.Common.{rules, ◌≡◌, ◌≤◌, Bool, true, false, nat_le, Some, None, IsTrue, refl, sym, ◌∙◌, ap, subst}
use Rattle.std.proofs.lemmas.Bool.{leb-true}
use Rattle.std.specs.Bool.{then_some}
use Rattle.sheet_refs.specs.Sizes.{HoldsPart, is_inside}
use Rattle.live_example.proofs.run.Goals as goal

-- a test that gives something was passed
passed : {A : Type 0} (test : Bool) (given found : A) → then_some test given ≡ Some found → test ≡ true
passed true given found is = refl
passed false given found is = let none : None ≡ Some found = is in absurd (cc)

-- the window is the part of a range that lies in the sheet, and its cells were counted
pub share-requires-clause-two : goal.share-requires-clause-two
share-requires-clause-two g c κs within =
    let part : HoldsPart c.sizes.result c.in_ok-column.column c.in_ok-window.window = search rules in
    let sizes = c.sizes.ensures.sizes ∙ sym (ap (λ s. s.sizes) c.in_ok-setup.ensures.opening) in
    let test = sym c.then_some.ensures ∙ c.in_ok-ok_or.ensures.ok_part in
    let few : c.cells.result ≤ 3 = leb-true c.cells.result 3 (passed (nat_le c.cells.result 3) _ _ test) in (
      c.in_ok-setup.ensures.clients_are,
      record {
        inside = λ cell is. subst (λ s. IsTrue (is_inside s cell)) sizes ((part cell).0 is).1;
        room = subst (λ n. n ≤ 3) c.cells.ensures.count few;
      },
    )
