-- The keys of the edges around a cell, and the sides to which they are given.
use Rattle.std.proofs.Common.{◌≡◌, inl, inr, ℕ, ◌+◌, ◌<◌, List, get_or, length, Contains, Option, Some, None, sym, ◌∙◌, subst, ◌≤◌, arith}
use Rattle.std.proofs.lemmas.List.{get_or_default}
use Rattle.sheet_refs.specs.Cells.{Position, Corners}
use Rattle.sheet_refs.specs.Rectangles.{Overlap}
use Rattle.edge_patterns.specs.Edges.{EdgeValue}
use Rattle.taco_graph.specs.Stores.{NamesOverlapping}
use Rattle.taco_graph.specs.Sides.{HasBeside, NamesBeside, NameBeside, HasKey, HaveKey, KeepsKeys, KeepKeys}
use Rattle.taco_graph.specs.Sides.{WasAskedWithin, WereAskedWithin}
use Rattle.taco_graph.specs.declared.side.Side.{Side}
use Rattle.taco_graph.specs.declared.neighbours.Sides.{Sides}
use Rattle.taco_graph.proofs.ReplaceLemmas.{next_below}

-- ---- what the sides have and keep

-- a side that keeps its keys has what it had
has_on : (slots : List (Option EdgeValue)) (key : ℕ) (old new : Side) → HasKey slots key old → KeepsKeys old new → HasKey slots key new
has_on slots key old new has kept edge here beside =
    kept.keys key (has edge here (subst (λ (b : Option Position). HasBeside b edge.dep) kept.beside beside))

have_on : (slots : List (Option EdgeValue)) (key : ℕ) (old new : Sides) → HaveKey slots key old → KeepKeys old new → HaveKey slots key new
have_on slots key old new have kept = record {
  above = has_on slots key old.above new.above have.above kept.above;
  below = has_on slots key old.below new.below have.below kept.below;
  left = has_on slots key old.left new.left have.left kept.left;
  right = has_on slots key old.right new.right have.right kept.right;
}

keeps_on : (a b c : Side) → KeepsKeys a b → KeepsKeys b c → KeepsKeys a c
keeps_on a b c first second = record { beside = second.beside ∙ first.beside; keys = λ key there. second.keys key (first.keys key there) }

pub keep_on : (a b c : Sides) → KeepKeys a b → KeepKeys b c → KeepKeys a c
keep_on a b c first second = record {
  above = keeps_on a.above b.above c.above first.above second.above;
  below = keeps_on a.below b.below c.below first.below second.below;
  left = keeps_on a.left b.left c.left first.left second.left;
  right = keeps_on a.right b.right c.right first.right second.right;
}

-- ---- all keys around a cell

-- the sides have the keys at these places of a list
abbrev pub HaveKeys : List (Option EdgeValue) → List ℕ → ℕ → Sides → Type 0
HaveKeys slots keys end sides = (place : ℕ) → place < end → HaveKey slots (get_or keys place 0) sides

-- one place more
pub have_more : (slots : List (Option EdgeValue)) (keys : List ℕ) (end : ℕ) (old new : Sides) → HaveKeys slots keys end old
    → HaveKey slots (get_or keys end 0) new → KeepKeys old new → HaveKeys slots keys (end + 1) new
have_more slots keys end old new have here kept place below = elim (next_below end place below) [
  | inl before ↦ have_on slots (get_or keys place 0) old new (have place before) kept
  | inr same ↦ subst (λ (p : ℕ). HaveKey slots (get_or keys p 0) new) (sym same) here
]

-- all places
pub have_all : (slots : List (Option EdgeValue)) (keys : List ℕ) (end : ℕ) (sides : Sides) → length keys ≤ end
    → HaveKeys slots keys end sides → (key : ℕ) → Contains keys key → HaveKey slots key sides
have_all slots keys end sides past have key (place, within, is) =
    let same : get_or keys place 0 ≡ key = get_or_default keys place 0 key within ∙ is in
    subst (λ (k : ℕ). HaveKey slots k sides) same (have place (omega (arith, past, within)))

-- ---- sides that were asked by one query

-- a run and a rectangle that have the cell at a side overlap
meet_beside : (beside : Option Position) (run rectangle : Corners) → HasBeside beside run → HasBeside beside rectangle → Overlap run rectangle
meet_beside (Some b) run rectangle has inside = (b, record { first = has; second = inside })
meet_beside None run rectangle has inside = absurd has

named_within : (slots : List (Option EdgeValue)) (rectangle : Corners) (keys : List ℕ) (cell : Position) (old new : Side)
    → NamesOverlapping slots rectangle keys → ((key : ℕ) → Contains keys key → HasKey slots key old) → KeepsKeys old new
    → WasAskedWithin new rectangle → NamesBeside slots cell new
named_within slots rectangle keys cell old new names have kept within asked whole key other here lacks has =
    let listed : Contains keys key = names key other here (meet_beside new.beside other.dep rectangle has (within asked)) in
    kept.keys key (have key listed other here (subst (λ (b : Option Position). HasBeside b other.dep) kept.beside has))

-- where the sides have the keys of all edges whose runs overlap a rectangle, each of them that was asked has all of its keys
pub name_within : (slots : List (Option EdgeValue)) (rectangle : Corners) (keys : List ℕ) (cell : Position) (old new : Sides)
    → NamesOverlapping slots rectangle keys → ((key : ℕ) → Contains keys key → HaveKey slots key old) → KeepKeys old new
    → WereAskedWithin new rectangle → NameBeside slots cell new
name_within slots rectangle keys cell old new names have kept within = record {
  above = named_within slots rectangle keys cell old.above new.above names (λ key there. (have key there).above) kept.above within.above;
  below = named_within slots rectangle keys cell old.below new.below names (λ key there. (have key there).below) kept.below within.below;
  left = named_within slots rectangle keys cell old.left new.left names (λ key there. (have key there).left) kept.left within.left;
  right = named_within slots rectangle keys cell old.right new.right names (λ key there. (have key there).right) kept.right within.right;
}
