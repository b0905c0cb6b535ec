use Rattle.std.proofs.Common.{◌≡◌, ◌↔◌, ℕ, List, [], IsTrue, subst, sym}
use Rattle.sheet_refs.specs.Bands.{all_ranges, rows_at}
use Rattle.sheet_refs.specs.Cells.{Corners}
use Rattle.sheet_refs.specs.Rectangles.{IsAmong}
use Rattle.sheet_refs.specs.Runs.{HasRow}
use Rattle.sheet_refs.proofs.BandLemmas.{among_all}
use Rattle.sheet_refs.proofs.rect_set.RectSet.contains.Goals as goal

pub returns-in-Some : goal.returns-in-Some
returns-in-Some c =
    let rows = rows_at c.self.inside.bands in
    let same : all_ranges rows ≡ c.args.self.now = c.self.view_is in
    let named = c.col.ensures.named in
    let among = among_all rows c.args.cell named.col_from named.col_to in
    let here : c.in-Some.column.now ≡ rows c.args.cell.col =
    subst (λ (k : ℕ). c.in-Some.column.now ≡ rows k) c.col.ensures.col c.in-Some.ensures in
    let has : IsTrue c.has_row.result ↔ HasRow (rows c.args.cell.col) c.args.cell.row =
    subst (λ (runs : List (ℕ × ℕ)). IsTrue c.has_row.result ↔ HasRow runs c.args.cell.row) here
    (subst (λ (r : ℕ). IsTrue c.has_row.result ↔ HasRow c.in-Some.column.now r) c.row.ensures.row c.has_row.ensures) in
    subst (λ (s : List Corners). IsTrue c.has_row.result ↔ IsAmong s c.args.cell) same (λ t. among.1 (has.0 t), λ is. has.1 (among.0 is))

pub returns-in-None : goal.returns-in-None
returns-in-None c =
    let rows = rows_at c.self.inside.bands in
    let same : all_ranges rows ≡ c.args.self.now = c.self.view_is in
    let named = c.col.ensures.named in
    let among = among_all rows c.args.cell named.col_from named.col_to in
    let none : rows c.args.cell.col ≡ [] = subst (λ (k : ℕ). rows k ≡ []) c.col.ensures.col c.in-None.ensures in (
      λ t. absurd (cc),
      λ is.
          let has : HasRow (rows c.args.cell.col) c.args.cell.row = among.0 (subst (λ (s : List Corners). IsAmong s c.args.cell) (sym same) is) in
          let never : HasRow [] c.args.cell.row = subst (λ (runs : List (ℕ × ℕ)). HasRow runs c.args.cell.row) none has in
          absurd never,
    )
