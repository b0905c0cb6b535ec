use Rattle.csv_sheet.proofs.extent.measure_records.Goals as goal

pub returns-then-not-branch : goal.returns-then-not-branch
returns-then-not-branch c =
    let inv = c.loop.invariant in
    (inv.0, rw c.if-not-branch.true at (c.in_ok-read_next.ensures c.args.text.now inv.0 inv.1), inv.2)
