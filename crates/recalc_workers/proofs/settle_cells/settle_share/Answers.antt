use Rattle.recalc_workers.proofs.settle_cells.settle_share.Goals as goal

pub returns : goal.returns
returns g c =
    record {
      table = c.settle_part.ensures.table;
      works = c.settle_part.ensures.works;
      known = λ none k cell from below within. let w = c.share-part.ensures.whole k from below within in c.settle_part.ensures.known none k cell w.0 w.1 within;
    }
