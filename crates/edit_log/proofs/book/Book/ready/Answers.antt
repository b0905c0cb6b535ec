use Rattle.std.proofs.Common.{◌≡◌, ◌<◌, ◌+◌, List, length, arith, refl, sym, ap, subst, ◌∙◌}
use Rattle.sheet_refs.specs.Sizes.{AreNamed}
use Rattle.sheet_refs.specs.declared.sizes.Sizes.{Sizes}
use Rattle.sheet_refs.specs.Rectangles.{IsAmong}
use Rattle.graph_walk.specs.Starts.{HoldsReachOfAll, ReachOfAll}
use Rattle.sheet_model.specs.Edits.{EditValue, AreInSheet, AreWritten, HaveLabels, IsEdit}
use Rattle.sheet_model.specs.Sheets.{SheetValue}
use Rattle.sheet_model.specs.declared.entry.Entry.{Entry}
use Rattle.edit_log.specs.Books.{BookValue, HaveRefs, IsPreparedFor, PreparedValue}
use Rattle.edit_log.specs.Cycles.{MissesAll}
use Rattle.edit_log.specs.Rows.{LieInside}
use Rattle.edit_log.specs.Touches.{ListsRowByRow, cell_ranges}
use Rattle.edit_log.proofs.CycleLemmas.{refers_to_none}
use Rattle.edit_log.proofs.TouchLemmas.{lies_inside, prepared_for, rows_of_reach, sizes_named}
use Rattle.edit_log.proofs.book.Book.ready.Goals as goal

pub set_by_row-requires-clause-named : goal.set_by_row-requires-clause-named
set_by_row-requires-clause-named g c = subst AreNamed (sym c.sizes.ensures.sizes) (sizes_named c.self.inside.sheet.sizes c.sizes.ensures.sheet.size)

pub set_by_row-requires-clause-inside : goal.set_by_row-requires-clause-inside
set_by_row-requires-clause-inside g c =
    let pairs = g.G.Graph.pairs c.self.inside.graph in
    let sheet_is : c.self.inside.sheet ≡ c.args.self.now.sheet = ap (λ (b : BookValue _). b.sheet) c.self.view_is in
    let changed : c.changes-2.result.now ≡ c.args.edit = c.changes-2.ensures.changes ∙ c.in_ok-copy.ensures in
    let inside : AreInSheet c.self.inside.sheet c.args.edit = subst (λ (s : SheetValue). AreInSheet s c.args.edit) (sym sheet_is) c.requires.inside in
    let holds : HoldsReachOfAll pairs (cell_ranges c.args.edit) c.in_ok-set.set =
    subst (λ (e : EditValue). HoldsReachOfAll pairs (cell_ranges e) c.in_ok-set.set) changed
    (subst (λ (b : BookValue _). HoldsReachOfAll (g.G.Graph.pairs b.graph) (cell_ranges c.changes-2.result.now) c.in_ok-set.set)
    (sym c.self.view_is) c.in_ok-set.ensures) in
    subst (λ (s : Sizes). LieInside s c.in_ok-set.set) (sym c.sizes.ensures.sizes)
    (lies_inside c.self.inside.sheet pairs c.args.edit c.in_ok-set.set c.self.invariant.book.pairs_are inside holds)

pub invariant_of-result : goal.invariant_of-result
invariant_of-result g c =
    let have : HaveRefs c.in_ok-copy.copy c.in_ok-refs.refs.items =
    subst (λ (e : EditValue). HaveRefs e c.in_ok-refs.refs.items) c.changes.ensures.changes c.in_ok-refs.ensures in
    let rows : ListsRowByRow c.sizes.result c.in_ok-touched.touched.items (IsAmong c.in_ok-set.set) = c.in_ok-touched.ensures in
    record {
      same = c.in_ok-copy.ensures;
      whole = have;
      closes = λ keeps. refers_to_none c.args.edit c.in_ok-refs.refs.items c.in_ok-set.set c.in_ok-touched.touched.items
          (subst (λ (e : EditValue). HaveRefs e c.in_ok-refs.refs.items) c.in_ok-copy.ensures have)
          (subst (MissesAll c.in_ok-set.set) c.deref.ensures.value (c.in_ok-keeps_cycles.ensures keeps))
          (λ cell there. (rows.exact cell).0 there);
    }

pub returns-clause-prepared : goal.returns-clause-prepared
returns-clause-prepared g c =
    let pairs = g.G.Graph.pairs c.self.inside.graph in
    let copied : c.in_ok-copy.copy ≡ c.args.edit = c.in_ok-copy.ensures in
    let sheet_is : c.self.inside.sheet ≡ c.args.self.now.sheet = ap (λ (b : BookValue _). b.sheet) c.self.view_is in
    let log_is : c.self.inside.log.items ≡ c.args.self.now.log = ap (λ (b : BookValue _). b.log) c.self.view_is in
    let entry : Entry = record { client = c.args.client; edit = c.args.edit } in
    let prepared : PreparedValue = record { entry = entry; number = c.len.result + 1; touched = c.in_ok-touched.touched.items } in
    let is_edit : IsEdit c.args.edit = subst IsEdit copied c.changes.ensures.edit in
    let written : AreWritten c.args.edit = subst AreWritten copied c.changes.ensures.written in
    let inside : AreInSheet c.self.inside.sheet c.args.edit = subst (λ (s : SheetValue). AreInSheet s c.args.edit) (sym sheet_is) c.requires.inside in
    let labels : HaveLabels (length c.self.inside.sheet.labels) c.args.edit =
    subst (λ (s : SheetValue). HaveLabels (length s.labels) c.args.edit) (sym sheet_is) c.requires.label in
    let few : length c.self.inside.log.items < 1048576 = subst (λ (l : List Entry). length l < 1048576) (sym log_is) c.requires.room in
    let counted : c.len.result + 1 ≡ length c.self.inside.log.items + 1 = omega (arith, c.len.ensures, c.self.inside.log.ok) in
    let changed : c.changes-2.result.now ≡ c.args.edit = c.changes-2.ensures.changes ∙ copied in
    let holds : HoldsReachOfAll pairs (cell_ranges c.args.edit) c.in_ok-set.set =
    subst (λ (e : EditValue). HoldsReachOfAll pairs (cell_ranges e) c.in_ok-set.set) changed
    (subst (λ (b : BookValue _). HoldsReachOfAll (g.G.Graph.pairs b.graph) (cell_ranges c.changes-2.result.now) c.in_ok-set.set)
    (sym c.self.view_is) c.in_ok-set.ensures) in
    let listed : ListsRowByRow c.self.inside.sheet.sizes c.in_ok-touched.touched.items (IsAmong c.in_ok-set.set) =
    subst (λ (s : Sizes). ListsRowByRow s c.in_ok-touched.touched.items (IsAmong c.in_ok-set.set)) c.sizes.ensures.sizes c.in_ok-touched.ensures in
    let rows : ListsRowByRow c.self.inside.sheet.sizes c.in_ok-touched.touched.items (ReachOfAll pairs (cell_ranges c.args.edit)) =
    rows_of_reach c.self.inside.sheet.sizes pairs (cell_ranges c.args.edit) c.in_ok-set.set c.in_ok-set.set
    c.in_ok-touched.touched.items refl holds listed in
    subst (λ (b : BookValue _). IsPreparedFor b.opening b.log prepared) c.self.view_is
    (prepared_for c.self.inside.opening.value c.self.inside.sheet c.self.inside.log.items pairs entry (c.len.result + 1)
    c.in_ok-touched.touched.items c.self.invariant.book is_edit written inside labels counted few rows)
