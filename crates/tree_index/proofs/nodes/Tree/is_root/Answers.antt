use Rattle.std.proofs.Common.{◌≡◌, rules}
use Rattle.range_index.specs.Entries.{entry_of}
use Rattle.tree_index.proofs.nodes.Tree.is_root.Goals as goal

pub returns : goal.returns
returns c holds range parent rectangle link =
    let same : c.args.key ≡ c.args.self.now.root = search rules in
    absurd ((c.requires.shape.no_top parent (entry_of c.args.key rectangle) link).0 same)
