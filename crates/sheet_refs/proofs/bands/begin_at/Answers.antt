use Rattle.std.proofs.Common.{◌≡◌, ◌∙◌, sym}
use Rattle.std.specs.Ordering.{nat_cmp}
use Rattle.std.specs.BTreeMap.{get}
use Rattle.sheet_refs.specs.Bands.{rows_at}
use Rattle.sheet_refs.proofs.BandLemmas.{under_begun}
use Rattle.sheet_refs.proofs.RunLemmas.{not_at}
use Rattle.sheet_refs.proofs.bands.begin_at.Goals as goal
use Rattle.sheet_refs.proofs.bands.begin_at.Goals.{in-Some+in_ok-column-in-Some, in-None}

pub returns-clause-same : goal.returns-clause-same
returns-clause-same c = λ other.
    let column : c.match-band_at.column ≡ rows_at c.args.bands.now c.args.col = elim c.match-band_at.branch [
      | in-Some+in_ok-column-in-Some w ↦ w.column-is ∙ (w.in_ok-column-in-Some.ensures ∙ w.in-Some.ensures)
      | in-None w ↦ w.column-is ∙ (w.new-column.ensures ∙ sym w.in-None.ensures)
    ] in
    let updates = c.in_ok-insert.ensures.updates in
    under_begun (get nat_cmp c.args.bands.now) (get nat_cmp c.insert.new.self) c.args.col other
    (rw (← column) updates.1) (λ q elsewhere. updates.2 q (not_at c.args.col q elsewhere))
