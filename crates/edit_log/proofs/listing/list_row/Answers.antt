use Rattle.std.proofs.Common.{◌≡◌, ◌+◌, ℕ, ap, arith, subst, ◌∙◌}
use Rattle.formula_syntax.specs.Listing.{IsOnceEach}
use Rattle.sheet_model.specs.Ranges.{ranges_in}
use Rattle.sheet_model.specs.Sheets.{ContentValue}
use Rattle.sheet_refs.specs.Sizes.{place_of}
use Rattle.edit_log.specs.Listings.{ListsFirst}
use Rattle.edit_log.proofs.ListingLemmas.{cell_behind, named_there, row_behind}
use Rattle.edit_log.proofs.listing.list_row.Goals as goal

pub loop-col-preserved : goal.loop-col-preserved
loop-col-preserved c =
    let sheet = c.args.sheet.now in
    let at : (c.unwrap-cell.result.row ≡ c.args.row) × (c.unwrap-cell.result.col ≡ c.loop-col.col) = rw c.unwrap-cell.ensures at c.new.ensures.position in
    let named = subst (λ (v : ContentValue). IsOnceEach (ranges_in v) c.in_ok-refs.refs) c.content.ensures.content c.in_ok-refs.ensures in
    let there = named_there sheet c.unwrap-cell.result c.args.row c.loop-col.col c.in_ok-refs.refs at (omega arith, omega arith)
    (omega arith, omega arith) named in
    subst (λ (n : ℕ). ListsFirst sheet n c.add.new.self) (cell_behind sheet.sizes c.args.row c.loop-col.col (omega arith))
    (c.in_ok-add.ensures sheet.contents (place_of sheet.sizes (record { row = c.args.row; col = c.loop-col.col })) c.loop-col.invariant there)

pub returns : goal.returns
returns c =
    let sheet = c.args.sheet.now in
    let past : c.loop-col.col ≡ sheet.sizes.cols + 1 = omega arith in
    subst (λ (n : ℕ). ListsFirst sheet n c.loop-col.listing)
    (ap (λ (col : ℕ). place_of sheet.sizes (record { row = c.args.row; col = col })) past ∙ row_behind sheet.sizes c.args.row (omega arith))
    c.loop-col.invariant
