use Rattle.std.proofs.Common.{◌≡◌, ◌+◌, ◌++◌, ◌∷◌, [], ℕ, List, true, false, take, sym, ◌∙◌, ap, subst, rules}
use Rattle.sheet_refs.specs.Cells.{Corners}
use Rattle.sheet_refs.specs.Rectangles.{Overlap}
use Rattle.std.proofs.lemmas.List.{take_more}
use Rattle.range_index.specs.Entries.{Entry, HasNoId, AddsOverlapping}
use Rattle.range_index.proofs.EntryLemmas.{not_found, one_found, absent_before}
use Rattle.tree_index.proofs.finding.visit_items.Goals as goal
use Rattle.tree_index.proofs.finding.visit_items.Goals.{then-meet+in_ok-push, else-meet}

pub loop-item-preserved : goal.loop-item-preserved
loop-item-preserved c =
    let entries : List Entry = c.args.items.now in
    let place : ℕ = c.loop-item.item-index in
    let entry : Entry = c.item-item.result in
    let q : Corners = c.args.q in
    let before : List Entry = take place entries in
    let next : take (place + 1) entries ≡ before ++ entry ∷ [] = take_more entries place entry c.loop-item-test.true
    ∙ ap (λ (e : Entry). before ++ e ∷ []) (sym c.item-item.is) in
    let range : c.item.inside.range ≡ entry.range = ap (λ (e : Entry). e.range) c.item.view_is in
    let id : c.item.inside.id ≡ entry.id = ap (λ (e : Entry). e.id) c.item.view_is in
    let absent : HasNoId before entry.id = absent_before entries place entry c.requires c.loop-item-test.true c.item-item.is in
    subst (λ (es : List Entry). AddsOverlapping es q c.args.out.now.items c.if-meet.out.items) (sym next)
    (elim c.if-meet.branch [
      | then-meet+in_ok-push w ↦
          let test : c.meet.result ≡ true = search rules in
          let overlap : Overlap entry.range q = subst (λ (r : Corners). Overlap r q) range (c.meet.ensures.0 test) in
          let pushed : c.if-meet.out.items ≡ c.loop-item.out.items ++ entry.id ∷ [] = rw (w.out-is, ← id) w.in_ok-push.ensures.items in
          one_found before entry q c.args.out.now.items c.loop-item.out.items c.if-meet.out.items absent overlap pushed c.loop-item.invariant
      | else-meet w ↦
          let test : c.meet.result ≡ false = search rules in
          let apart : Overlap entry.range q
          → ⊥ =
          λ overlap. absurd (let yes : c.meet.result ≡ true = c.meet.ensures.1
          (subst (λ (r : Corners). Overlap r q) (sym range) overlap) in cc) in
          rw w.out-is (not_found before entry q c.args.out.now.items c.loop-item.out.items apart c.loop-item.invariant)
    ])
