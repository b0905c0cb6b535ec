use Rattle.graph_walk.proofs.laws.start_laws.Goals as goal

pub returns : goal.returns
returns c = λ pairs ranges cell. (
  λ reached. (
    reached.starts.range,
    reached.starts.listed,
    record {
      from = reached.from;
      starts = reached.starts.inside;
      cells = reached.cells;
      path = reached.path;
    },
  ),
  λ (range, there, reached). record {
    from = reached.from;
    starts = record {
      range = range;
      listed = there;
      inside = reached.starts;
    };
    cells = reached.cells;
    path = reached.path;
  },
)
