use Rattle.std.proofs.Common.{◌≡◌, Option, Some, None, sym, ◌∙◌, ap, rules}
use Rattle.range_index.specs.Entries.{entry_of}
use Rattle.tree_index.specs.declared.notes.Place.TheVariants.{Leaf, Late}
use Rattle.tree_index.specs.Trees.{Note}
use Rattle.tree_index.specs.Indexes.{entries_in}
use Rattle.tree_index.specs.Changes.{note_at, place_noted}
use Rattle.tree_index.proofs.NoteLemmas.{listed_noted, noted_at}
use Rattle.tree_index.proofs.WayLemmas.{removes_on}
use Rattle.tree_index.proofs.nodes.Tree.take_out.Goals as goal

pub returns-in_default-clause-removed : goal.returns-in_default-clause-removed
returns-in_default-clause-removed c =
    let noted = (listed_noted c.args.self.now.notes.entries c.requires.tree.unique (entry_of c.args.id c.requires.there.range)).0 c.requires.there.listed in
    let found : c.stands.result ≡ Some noted.0 = c.stands.ensures ∙ ap (λ (o : Option Note). place_noted o) noted.1 in
    absurd (let none : c.stands.result ≡ None = search rules in let both : None ≡ Some noted.0 = sym none ∙ found in cc)

pub take_late-requires-clause-there : goal.take_late-requires-clause-there
take_late-requires-clause-there c = noted_at (note_at c.args.self.now c.args.id) Late (sym c.stands.ensures ∙ c.in-Some.is ∙ ap Some c.in-Late.is)

pub take_from_leaf-requires-clause-there : goal.take_from_leaf-requires-clause-there
take_from_leaf-requires-clause-there c =
    noted_at (note_at c.args.self.now c.args.id) (Leaf c.in-Leaf.leaf) (sym c.stands.ensures ∙ c.in-Some.is
    ∙ ap Some c.in-Leaf.is)

pub returns-in-Leaf-clause-removed : goal.returns-in-Leaf-clause-removed
returns-in-Leaf-clause-removed c = removes_on (entries_in c.args.self.now) (entries_in c.take_from_leaf.new.self)
    (entries_in c.mend.new.self) c.args.id c.take_from_leaf.ensures.removed c.mend.ensures.same
