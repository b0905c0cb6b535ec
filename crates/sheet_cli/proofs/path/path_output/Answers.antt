use Rattle.std.proofs.Common.{◌≡◌, sym, subst}
use Rattle.std.proofs.lemmas.Option.{MatchOption-at_none, MatchOption-at_some}
use Rattle.taco_graph.specs.Pairs.{pairs_of}
use Rattle.sheet_cli.specs.Graphs.{ShowsPath, cells_text, none_text}
use Rattle.sheet_cli.specs.Graphs.ShowsPath.{chain, no_chain}
use Rattle.sheet_cli.proofs.GraphLemmas.{if_ok}
use Rattle.sheet_cli.proofs.path.path_output.Goals as goal

pub returns-in-Some : goal.returns-in-Some
returns-in-Some c =
    let pairs = pairs_of c.in_ok-graph.graph.edges in
    if_ok (λ text. text ≡ cells_text c.in-Some.chain.items) (λ text. ShowsPath c.args.sheet.now c.args.from c.args.to text) c.of_chain.result
    (λ text is. subst (ShowsPath c.args.sheet.now c.args.from c.args.to) (sym is)
    (chain pairs c.in-Some.chain.items c.in_ok-graph.ensures (MatchOption-at_some _ _ _ c.in-Some.is
    c.in_ok-chain.ensures)))
    c.of_chain.ensures

pub returns : goal.returns
returns c =
    let pairs = pairs_of c.in_ok-graph.graph.edges in
    if_ok (λ text. text ≡ none_text) (λ text. ShowsPath c.args.sheet.now c.args.from c.args.to text) c.of_no_chain.result
    (λ text is. subst (ShowsPath c.args.sheet.now c.args.from c.args.to) (sym is)
    (no_chain pairs c.in_ok-graph.ensures (MatchOption-at_none _ _ c.in-None.is c.in_ok-chain.ensures)))
    c.of_no_chain.ensures
