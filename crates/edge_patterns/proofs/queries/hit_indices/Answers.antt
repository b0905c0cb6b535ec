use Rattle.std.proofs.Common.{refl}
use Rattle.edge_patterns.proofs.EdgeLemmas.{hit_between}
use Rattle.edge_patterns.proofs.queries.hit_indices.Goals as goal

pub returns-clause-hit : goal.returns-clause-hit
returns-clause-hit c =
    let first = rw (c.along.ensures.along, c.axis.ensures.axis, c.head.ensures.head) at c.first_ending_from-from.ensures in
    let last = rw (c.along-2.ensures.along, c.axis-2.ensures.axis, c.tail.ensures.tail) at c.last_beginning_by-to.ensures in
    let prec = rw c.prec.ensures.prec at (c.if-not-overlaps.ensures.0 refl) in
    record {
      ordered = c.if-from-to.false;
      within = last.within;
      meant = hit_between c.args.e.now c.prec.ensures.edge c.args.q c.head.ensures.ordered prec
          (record { from = c.first_ending_from-from.result; to = c.last_beginning_by-to.result }) first last;
    }
