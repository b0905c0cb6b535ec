use Rattle.std.proofs.Common.{◌≡◌, ◌∙◌, ◌≤◌, length, sym, ap, subst}
use Rattle.mark_words.specs.Tokens.{log_of, seen_of}
use Rattle.sheet_model.specs.Logs.{after}
use Rattle.sheet_model.specs.Sheets.{IsSheet, SheetValue, content_of}
use Rattle.sheet_model.proofs.LogLemmas.{after-sheet}
use Rattle.recalc_trial.proofs.office.BookOfficeOfficeOverSheet.job.Goals as goal

pub returns-clause-task : goal.returns-clause-task
returns-clause-task g c =
    let office = c.args.self.now in
    let log : log_of c.lend.new.seat ≡ office.book.log = c.lend.ensures.log ∙ office.log in
    let book = c.sheet.ensures.kept in
    record {
      at = record {
        length_is = c.length-length.ensures.length ∙ ap length (sym log);
        content_is =
            c.in_ok-content.ensures ∙ c.content.ensures.content ∙ ap (λ (s : SheetValue). content_of s c.args.cell) (c.sheet.ensures.sheet ∙ book.replayed)
            ∙ ap (λ l. content_of (after office.book.opening l) c.args.cell) (sym log);
        sheet = subst (λ l. IsSheet (after office.book.opening l)) (sym log) (after-sheet office.book.opening office.book.log book.opened book.held);
      };
      covers = subst (λ n. seen_of c.args.seat.now ≤ n) (ap length office.log ∙ sym c.length-length.ensures.length) c.lend.ensures.covers;
    }
