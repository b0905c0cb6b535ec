use Rattle.std.proofs.Common.{◌≡◌, ◌∙◌, length, arith, sym, rules}
use Rattle.std.proofs.lemmas.Bool.Decides.{nat_tests}
use Rattle.edit_log.proofs.PairLemmas.{run_follows}
use Rattle.edit_log.proofs.WaitingLemmas.{cell_across, nothing_waiting, run_waiting, waiting_lacks}
use Rattle.edit_log.proofs.graphs.add_from.Goals as goal

pub returns-then-is_longer_across : goal.returns-then-is_longer_across
returns-then-is_longer_across g c = record {
  before = cell_across c.args.sheet.now c.args.cell (g.G.Graph.pairs c.args.graph.now) c.args.waiting.now c.put_across.new.self
      (search rules) (search rules) c.in_ok-put_across.ensures.across c.put_across.ensures.alone c.requires.before;
  goes = record {
    some = omega arith;
    inside = omega (arith, c.requires.rows);
    named = search rules;
  };
}

pub returns-then-is_empty : goal.returns-then-is_empty
returns-then-is_empty g c =
    let run = c.run_from-run.result in
    let none : length run.first.now ≡ 0 = grind (arith, nat_tests, sym c.is_empty.ensures ∙ c.if-is_empty.true) in
    record {
      before = nothing_waiting c.args.sheet.now c.args.cell run.count run.first.now run.last.now (g.G.Graph.pairs c.args.graph.now)
          c.args.waiting.now none c.run_from-run.ensures.follow c.requires.before;
      goes = c.run_from-run.ensures.goes;
    }

pub returns-then-run-eq1 : goal.returns-then-run-eq1
returns-then-run-eq1 g c = record { before = c.in_ok-add_one.ensures; goes = search rules }

pub add_several-requires-clause-follow : goal.add_several-requires-clause-follow
add_several-requires-clause-follow g c =
    let run = c.run_from-run.result in
    run_follows c.args.sheet.now c.args.cell run.count run.first.now run.last.now c.run_from-run.ensures.follow (omega arith)

pub add_several-requires-clause-free : goal.add_several-requires-clause-free
add_several-requires-clause-free g c =
    waiting_lacks c.args.sheet.now c.args.cell c.run_from-run.result.count (g.G.Graph.pairs c.args.graph.now) c.args.waiting.now c.requires.before

pub returns : goal.returns
returns g c =
    let run = c.run_from-run.result in
    record {
      before = run_waiting c.args.sheet.now c.args.cell run.count run.first.now run.last.now (g.G.Graph.pairs c.args.graph.now)
          (g.G.Graph.pairs c.add_several.new.graph) c.args.waiting.now c.run_from-run.ensures.follow c.requires.before c.in_ok-add_several.ensures;
      goes = c.run_from-run.ensures.goes;
    }
