use Rattle.std.proofs.Common.{◌≡◌, ◌+◌, ◌≤◌, ◌∙◌, ℕ, List, IsSome, subst, arith, rules}
use Rattle.std.proofs.lemmas.Result.{on_err_weaker, on_ok_weaker}
use Rattle.std.specs.Ordering.{nat_cmp}
use Rattle.std.specs.BTreeMap.{get}
use Rattle.sheet_refs.specs.Bands.{AreFilled, GainsInBand, all_ranges, rows_at}
use Rattle.sheet_refs.specs.Cells.{Corners, Position}
use Rattle.sheet_refs.specs.Rectangles.{Joins}
use Rattle.sheet_refs.proofs.BandLemmas.{all_equal, all_same, joins_from_filled, under_stays}
use Rattle.sheet_refs.proofs.BandLoops.{all_unchanged, begins_still, filled_one}
use Rattle.sheet_refs.proofs.SpanLemmas.{on_any_error}
use Rattle.sheet_refs.proofs.bands.add_rows.Goals as goal

pub returns-then-is_one_band-clause-joined : goal.returns-then-is_one_band-clause-joined
returns-then-is_one_band-clause-joined c =
    let range : Corners = c.args.range in
    let old = get nat_cmp c.args.bands.now in
    let new = get nat_cmp c.join_at.new.bands in
    let left : c.col-left.result ≡ range.head.col = search rules in
    let right : c.col-right.result ≡ range.tail.col = search rules in
    let first : c.row-first.result ≡ range.head.row = search rules in
    let last : c.row-last.result ≡ range.tail.row = search rules in
    let one = c.is_one_band.ensures c.if-is_one_band.true in
    let begins : IsSome (old range.head.col) = subst (λ (k : ℕ). IsSome (old k)) left one.0 in
    let ends : IsSome (old (range.tail.col + 1)) = subst (λ (k : ℕ). IsSome (old (k + 1))) right one.1.1 in
    let named : 1 ≤ range.head.col = subst (λ (p : Position). 1 ≤ p.col) c.head.ensures.head c.col-left.ensures.named.col_from in
    let within : range.tail.col ≤ 16384 = subst (λ (p : Position). p.col ≤ 16384) c.tail.ensures.tail c.col-right.ensures.named.col_to in
    on_ok_weaker c.join_at.result (λ (gained : GainsInBand c.row-first.result c.row-last.result (old c.col-left.result) (new c.col-left.result)).
    let filled : AreFilled old new range.head.col (range.tail.col + 1) range.head.row range.tail.row =
    rw (← left, ← right, ← first, ← last) (filled_one old new c.col-left.result (c.col-right.result + 1) c.row-first.result
    c.row-last.result (omega (arith, one.1.0)) one.1 gained c.join_at.ensures.others) in
    joins_from_filled old new range filled begins ends named within) c.join_at.ensures.gained

pub returns-then-is_one_band-clause-err : goal.returns-then-is_one_band-clause-err
returns-then-is_one_band-clause-err c =
    let old = get nat_cmp c.args.bands.now in
    let new = get nat_cmp c.join_at.new.bands in
    on_err_weaker c.join_at.result (λ (same : new c.col-left.result ≡ old c.col-left.result).
    all_unchanged old new c.col-left.result same c.join_at.ensures.others) c.join_at.ensures.same

pub returns-in_err-reserve-clause-err : goal.returns-in_err-reserve-clause-err
returns-in_err-reserve-clause-err c =
    let begun = all_equal (rows_at c.args.bands.now) (rows_at c.begin_at.new.bands) c.begin_at.ensures.same in
    let begun2 = all_equal (rows_at c.begin_at.new.bands) (rows_at c.begin_at-2.new.bands) c.begin_at-2.ensures.same in
    let stays = all_same (rows_at c.begin_at-2.new.bands) (rows_at c.reserve.new.bands)
    (under_stays (get nat_cmp c.begin_at-2.new.bands) (get nat_cmp c.reserve.new.bands) c.reserve.ensures.same) in
    on_any_error _ _ (stays ∙ (begun2 ∙ begun))

pub returns-clause-joined : goal.returns-clause-joined
returns-clause-joined c =
    let range : Corners = c.args.range in
    let begun2 = get nat_cmp c.begin_at-2.new.bands in
    let old = get nat_cmp c.reserve.new.bands in
    let new = get nat_cmp c.fill.new.bands in
    let left : c.col-left.result ≡ range.head.col = search rules in
    let right : c.col-right.result ≡ range.tail.col = search rules in
    let first : c.row-first.result ≡ range.head.row = search rules in
    let last : c.row-last.result ≡ range.tail.row = search rules in
    let begins_left : IsSome (old c.col-left.result) = begins_still begun2 old c.col-left.result c.reserve.ensures.same
    (c.begin_at-2.ensures.kept c.col-left.result c.in_ok-begin_at.ensures.begins) in
    let begins_right : IsSome (old (c.col-right.result + 1)) = begins_still begun2 old (c.col-right.result + 1) c.reserve.ensures.same
    c.in_ok-begin_at-2.ensures.begins in
    let begins : IsSome (old range.head.col) = subst (λ (k : ℕ). IsSome (old k)) left begins_left in
    let ends : IsSome (old (range.tail.col + 1)) = subst (λ (k : ℕ). IsSome (old (k + 1))) right begins_right in
    let named : 1 ≤ range.head.col = subst (λ (p : Position). 1 ≤ p.col) c.head.ensures.head c.col-left.ensures.named.col_from in
    let within : range.tail.col ≤ 16384 = subst (λ (p : Position). p.col ≤ 16384) c.tail.ensures.tail c.col-right.ensures.named.col_to in
    let filled : AreFilled old new range.head.col (range.tail.col + 1) range.head.row range.tail.row =
    rw (← left, ← right, ← first, ← last) c.fill.ensures in
    let equal = all_equal (rows_at c.args.bands.now) (rows_at c.begin_at.new.bands) c.begin_at.ensures.same in
    let equal2 = all_equal (rows_at c.begin_at.new.bands) (rows_at c.begin_at-2.new.bands) c.begin_at-2.ensures.same in
    let stays = all_same (rows_at c.begin_at-2.new.bands) (rows_at c.reserve.new.bands) (under_stays begun2 old c.reserve.ensures.same) in
    subst (λ (set : List Corners). Joins set (all_ranges (rows_at c.fill.new.bands)) range) (stays ∙ (equal2 ∙ equal))
    (joins_from_filled old new range filled begins ends named within)
