use Rattle.std.specs.Prelude.{is_ok}
use Rattle.std.proofs.Common.{◌≡◌, ◌++◌, true, false, codes, length, ap, subst}
use Rattle.text_pieces.specs.Pieces.{HandsOut}
use Rattle.text_pieces.proofs.PieceLemmas.{and_then, cut}
use Rattle.window_text.specs.Texts.{count_line}
use Rattle.window_text.specs.Transcripts.{clients_text, closing_text, entries_text, transcript_value}
use Rattle.window_text.proofs.TranscriptLemmas.{clients_told, entries_told}
use Rattle.window_text.proofs.StopLemmas.{stopped}
use Rattle.window_text.proofs.live.send_live.Goals as goal

pub returns-in_err-send_count : goal.returns-in_err-send_count
returns-in_err-send_count g c =
    let t = transcript_value c.args.transcript.now in
    let counted : length c.deref-log.result.now ≡ length t.log = ap length c.deref-log.ensures.value in
    let count = subst (λ n. HandsOut g.F.FnMut c.args.to.now (count_line (codes "log") n) false c.send_count.new.to) counted c.in_err-send_count.ensures.sent in
    record {
      sent = stopped g.F.FnMut _ _ _ _ c.from_residual.ensures.0 (cut g.F.FnMut _ _ (count_line (codes "log") (length t.log))
          (entries_text t.names t.sheet.labels 1 t.log ++ (clients_text t.sheet.labels t.names t.reports ++ closing_text (length t.log) t.sheet)) count);
    }

pub returns-in_err-send_entries : goal.returns-in_err-send_entries
returns-in_err-send_entries g c =
    let t = transcript_value c.args.transcript.now in
    let counted : length c.deref-log.result.now ≡ length t.log = ap length c.deref-log.ensures.value in
    let count = subst (λ n. HandsOut g.F.FnMut c.args.to.now (count_line (codes "log") n) true c.send_count.new.to) counted c.in_ok-send_count.ensures.sent in
    let entries = subst (λ text. HandsOut g.F.FnMut c.send_count.new.to text false c.send_entries.new.to)
    (entries_told c.deref.result.now c.args.transcript.now.names.items c.labels-labels.result.now t.sheet.labels
    c.deref-log.result.now t.log c.deref.ensures.value c.labels-labels.ensures.labels c.deref-log.ensures.value)
    c.in_err-send_entries.ensures.sent in
    record {
      sent = stopped g.F.FnMut _ _ _ _ c.from_residual-in_err-send_entries.ensures.0
          (and_then g.F.FnMut _ _ _ (count_line (codes "log") (length t.log)) _ _ count
          (cut g.F.FnMut _ _ (entries_text t.names t.sheet.labels 1 t.log)
          (clients_text t.sheet.labels t.names t.reports ++ closing_text (length t.log) t.sheet) entries));
    }

pub returns-in_err-send_clients : goal.returns-in_err-send_clients
returns-in_err-send_clients g c =
    let t = transcript_value c.args.transcript.now in
    let counted : length c.deref-log.result.now ≡ length t.log = ap length c.deref-log.ensures.value in
    let count = subst (λ n. HandsOut g.F.FnMut c.args.to.now (count_line (codes "log") n) true c.send_count.new.to) counted c.in_ok-send_count.ensures.sent in
    let entries = subst (λ text. HandsOut g.F.FnMut c.send_count.new.to text true c.send_entries.new.to)
    (entries_told c.deref.result.now c.args.transcript.now.names.items c.labels-labels.result.now t.sheet.labels
    c.deref-log.result.now t.log c.deref.ensures.value c.labels-labels.ensures.labels c.deref-log.ensures.value)
    c.in_ok-send_entries.ensures.sent in
    let clients = subst (λ text. HandsOut g.F.FnMut c.send_entries.new.to text false c.send_clients.new.to)
    (clients_told c.deref-2.result.now c.args.transcript.now.names.items c.labels-labels.result.now t.sheet.labels
    c.deref-3.result.now c.args.transcript.now.reports.items c.deref-2.ensures.value c.labels-labels.ensures.labels
    c.deref-3.ensures.value) c.in_err-send_clients.ensures.sent in
    record {
      sent = stopped g.F.FnMut _ _ _ _ c.from_residual-in_err-send_clients.ensures.0
          (and_then g.F.FnMut _ _ _ (count_line (codes "log") (length t.log)) _ _ count
          (and_then g.F.FnMut _ _ _ (entries_text t.names t.sheet.labels 1 t.log) _ _ entries
          (cut g.F.FnMut _ _ (clients_text t.sheet.labels t.names t.reports) (closing_text (length t.log) t.sheet) clients)));
    }

pub returns : goal.returns
returns g c =
    let t = transcript_value c.args.transcript.now in
    let counted : length c.deref-log.result.now ≡ length t.log = ap length c.deref-log.ensures.value in
    let count = subst (λ n. HandsOut g.F.FnMut c.args.to.now (count_line (codes "log") n) true c.send_count.new.to) counted c.in_ok-send_count.ensures.sent in
    let entries = subst (λ text. HandsOut g.F.FnMut c.send_count.new.to text true c.send_entries.new.to)
    (entries_told c.deref.result.now c.args.transcript.now.names.items c.labels-labels.result.now t.sheet.labels
    c.deref-log.result.now t.log c.deref.ensures.value c.labels-labels.ensures.labels c.deref-log.ensures.value)
    c.in_ok-send_entries.ensures.sent in
    let clients = subst (λ text. HandsOut g.F.FnMut c.send_entries.new.to text true c.send_clients.new.to)
    (clients_told c.deref-2.result.now c.args.transcript.now.names.items c.labels-labels.result.now t.sheet.labels
    c.deref-3.result.now c.args.transcript.now.reports.items c.deref-2.ensures.value c.labels-labels.ensures.labels
    c.deref-3.ensures.value) c.in_ok-send_clients.ensures.sent in
    let closing = subst (λ n. HandsOut g.F.FnMut c.send_clients.new.to (closing_text n t.sheet) (is_ok c.send_closing.result)
    c.send_closing.new.to) counted c.send_closing.ensures.sent in
    record {
      sent = and_then g.F.FnMut _ _ _ (count_line (codes "log") (length t.log)) _ _ count
          (and_then g.F.FnMut _ _ _ (entries_text t.names t.sheet.labels 1 t.log) _ _ entries
          (and_then g.F.FnMut _ _ _ (clients_text t.sheet.labels t.names t.reports) _ _ clients closing));
    }
