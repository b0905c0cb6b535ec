use Rattle.edge_patterns.specs.Queries.{IsDirect, IsSpreadTo, IsReferred, IsLedTo}
use Rattle.taco_graph.proofs.AnswerLemmas.{covers_by_pattern}
use Rattle.taco_graph.proofs.answers.answer.Goals as goal

pub returns-in-Dependents : goal.returns-in-Dependents
returns-in-Dependents c = rw c.in-Dependents.is c.direct.ensures.covers

pub returns-in-Precedents : goal.returns-in-Precedents
returns-in-Precedents c = rw c.in-Precedents.is c.referred.ensures

pub returns-in-Ahead : goal.returns-in-Ahead
returns-in-Ahead c =
    rw c.in-Ahead.is (covers_by_pattern c.args.edge.now (IsSpreadTo c.args.edge.now c.args.q)
    (IsDirect c.args.edge.now c.args.q) c.spread.result c.spread.ensures.chain c.spread.ensures.others)

pub returns-in-Behind : goal.returns-in-Behind
returns-in-Behind c =
    rw c.in-Behind.is (covers_by_pattern c.args.edge.now (IsLedTo c.args.edge.now c.args.q)
    (IsReferred c.args.edge.now c.args.q) c.back.result c.back.ensures.chain c.back.ensures.others)
