use Rattle.std.specs.Prelude.{is_ok}
use Rattle.std.proofs.Common.{[], ◌∷◌, ◌++◌, codes}
use Rattle.std.specs.Fmt.{signed_decimal}
use Rattle.std.proofs.lemmas.Int.{to_z-of_z}
use Rattle.window_text.specs.Texts.{count_line, generated_text}
use Rattle.text_pieces.proofs.PieceLemmas.{begun, next, ended, cut}
use Rattle.window_text.proofs.StopLemmas.{stopped}
use Rattle.window_text.proofs.generated.send_generated.Goals as goal

pub returns-in_err-send_count : goal.returns-in_err-send_count
returns-in_err-send_count g c =
    let head = rw c.from.ensures at c.in_err-send_count.ensures.sent in
    record { sent = stopped g.F.FnMut _ _ _ _ c.from_residual.ensures.0 (cut g.F.FnMut _ _ (count_line (codes "gen") c.args.number) _ head) }

pub returns-in_err-send_bytes : goal.returns-in_err-send_bytes
returns-in_err-send_bytes g c =
    let head = rw c.from.ensures at c.in_ok-send_count.ensures.sent in
    let sum_line = codes "sum " ++ (signed_decimal c.args.sum ++ 10 ∷ []) in
    let edits_line = count_line (codes "edits") c.args.edits ++ sum_line in
    let cells_line = codes "cells 7000" ++ (10 ∷ edits_line) in
    record {
      sent = stopped g.F.FnMut _ _ _ _ c.from_residual-in_err-send_bytes.ensures.0
          (ended g.F.FnMut _ _ _ (generated_text c.args.number c.args.edits c.args.sum) (codes "cells 7000" ++ 10 ∷ []) edits_line
          (begun g.F.FnMut _ _ (count_line (codes "gen") c.args.number) cells_line head) c.in_err-send_bytes.ensures.sent);
    }

pub returns-in_err-send_count-2 : goal.returns-in_err-send_count-2
returns-in_err-send_count-2 g c =
    let head = rw c.from.ensures at c.in_ok-send_count.ensures.sent in
    let sum_line = codes "sum " ++ (signed_decimal c.args.sum ++ 10 ∷ []) in
    let edits_line = count_line (codes "edits") c.args.edits ++ sum_line in
    let cells_line = codes "cells 7000" ++ (10 ∷ edits_line) in
    record {
      sent = stopped g.F.FnMut _ _ _ _ c.from_residual-in_err-send_count-2.ensures.0
          (ended g.F.FnMut _ _ _ (generated_text c.args.number c.args.edits c.args.sum) (count_line (codes "edits") c.args.edits) sum_line
          (next g.F.FnMut _ _ _ (generated_text c.args.number c.args.edits c.args.sum) (codes "cells 7000" ++ 10 ∷ []) edits_line
          (begun g.F.FnMut _ _ (count_line (codes "gen") c.args.number) cells_line head) c.in_ok-send_bytes.ensures.sent)
          c.in_err-send_count-2.ensures.sent);
    }

pub returns : goal.returns
returns g c =
    let head = rw c.from.ensures at c.in_ok-send_count.ensures.sent in
    let sum_line = codes "sum " ++ (signed_decimal c.args.sum ++ 10 ∷ []) in
    let edits_line = count_line (codes "edits") c.args.edits ++ sum_line in
    let cells_line = codes "cells 7000" ++ (10 ∷ edits_line) in
    let fits = c.ranges.sum in
    let last = simp to_z-of_z at c.send_sum.ensures.sent in
    record {
      sent =
          next g.F.FnMut _ _ _ (generated_text c.args.number c.args.edits c.args.sum) (count_line (codes "edits") c.args.edits) sum_line
          (next g.F.FnMut _ _ _ (generated_text c.args.number c.args.edits c.args.sum) (codes "cells 7000" ++ 10 ∷ []) edits_line
          (begun g.F.FnMut _ _ (count_line (codes "gen") c.args.number) cells_line head) c.in_ok-send_bytes.ensures.sent)
          c.in_ok-send_count-2.ensures.sent
          c.send_sum.new.to (is_ok c.send_sum.result) last;
    }
