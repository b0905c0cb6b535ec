use Rattle.std.proofs.Common.{◌≡◌, ◌∙◌, ℕ, IsTrue, arith, sym, subst, ap}
use Rattle.sheet_refs.specs.Cells.{Position}
use Rattle.sheet_refs.specs.Sizes.{is_inside}
use Rattle.sheet_refs.proofs.Places.{first_cell}
use Rattle.sheet_model.specs.Parts.{IsPartOfRectangle, part_at}
use Rattle.sheet_model.specs.Words.{is_plain, states_of}
use Rattle.sheet_model.proofs.LineLemmas.{head_inside}
use Rattle.sheet_model.proofs.LookLemmas.{part_more, stop_here, stop_past}
use Rattle.sheet_model.proofs.words.stop_in_cell.Goals as goal
use Rattle.sheet_model.proofs.words.stop_in_cell.Goals.{After-is_plain_cell}

-- the part is left as it is
before : (c : After-is_plain_cell) → IsPartOfRectangle c.args.sizes (states_of c.args.words.now) (part_at c.args.part 0)
before c = subst (λ (n : ℕ). IsPartOfRectangle c.args.sizes (states_of c.args.words.now) (part_at c.args.part n)) c.requires.next c.requires.part

-- what was found out of its cell
found : (c : After-is_plain_cell) → c.is_plain_cell.result ≡ is_plain c.args.sizes (states_of c.args.words.now) c.args.part.range.head
found c = c.is_plain_cell.ensures ∙ ap (is_plain c.args.sizes (states_of c.args.words.now)) c.head.ensures.head

pub is_plain_cell-requires-clause-inside : goal.is_plain_cell-requires-clause-inside
is_plain_cell-requires-clause-inside c =
    subst (λ (p : Position). IsTrue (is_inside c.args.sizes p)) (sym c.head.ensures.head)
    (head_inside c.args.sizes c.args.words.now c.args.part c.head.ensures.ordered c.requires.count c.requires.part)

pub returns-then-is_plain_cell-clause-part : goal.returns-then-is_plain_cell-clause-part
returns-then-is_plain_cell-clause-part c =
    let at = (goal.at.returns-then-is_plain_cell-clause-part c).After-is_plain_cell in
    part_more c.args.sizes (states_of c.args.words.now) c.args.part 0 c.args.part.range.head (before at)
    (first_cell c.args.part.range c.head.ensures.ordered) (sym (found at) ∙ c.if-is_plain_cell.true)

pub returns-then-is_plain_cell-clause-stop : goal.returns-then-is_plain_cell-clause-stop
returns-then-is_plain_cell-clause-stop c =
    stop_past c.args.sizes (states_of c.args.words.now) c.args.part 1 (omega (arith, c.requires.one))

pub returns-clause-part : goal.returns-clause-part
returns-clause-part c = before (goal.at.returns-clause-part c).After-is_plain_cell

pub returns-clause-stop : goal.returns-clause-stop
returns-clause-stop c =
    let at = (goal.at.returns-clause-stop c).After-is_plain_cell in
    stop_here c.args.sizes (states_of c.args.words.now) c.args.part 0 c.args.part.range.head c.is_plain_cell.result
    (first_cell c.args.part.range c.head.ensures.ordered) (found at) c.if-is_plain_cell.false
