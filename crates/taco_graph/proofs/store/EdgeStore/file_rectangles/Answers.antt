use Rattle.std.proofs.Common.{◌≡◌, List, Option, sym, ap, subst}
use Rattle.edge_patterns.specs.Edges.{EdgeValue}
use Rattle.range_index.specs.Entries.{Entry, SameEntries}
use Rattle.taco_graph.specs.Stores.{StoreValue, FilesAll}
use Rattle.taco_graph.proofs.FilingLemmas.{files_same}
use Rattle.taco_graph.proofs.store.EdgeStore.file_rectangles.Goals as goal

pub invariant_of-self : goal.invariant_of-self
invariant_of-self g c =
    let view : c.self.inside.edges.slots ≡ c.args.self.now.slots = ap (λ (v : StoreValue). v.slots) c.self.view_is in
    let items = c.in_ok-items.items.items in
    let entries = c.in_ok-self-inside.field-0.entries in
    let all : FilesAll c.self.inside.edges.slots (λ edge. edge.prec) items =
    subst (λ (slots : List (Option EdgeValue)). FilesAll slots (λ edge. edge.prec) items) (sym view) c.in_ok-items.ensures.all in
    let same : SameEntries items entries =
    subst (λ (es : List Entry). SameEntries es entries) c.deref.ensures.value c.in_ok-self-inside.ensures.entries in
    record {
      edges = c.self.invariant.edges;
      apart = c.self.invariant.apart;
      runs_filed = c.self.invariant.runs_filed;
      rectangles_filed = λ kept. files_same c.self.inside.edges.slots items entries same all;
    }
