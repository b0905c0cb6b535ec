-- Each value is the worth of its place, by the state that was closed.
use Rattle.std.proofs.Common.{◌<◌, slice_index_or, Some, sym, ◌∙◌, ap, subst}
use Rattle.mark_core.specs.Marks.{IsPrefix}
use Rattle.mark_words.specs.Tokens.{log_of}
use Rattle.live_sheet.proofs.ClosedWordsLemmas.{closed_worth}
use Rattle.std.proofs.lemmas.List.Elements.{Contains-get_or}
use Rattle.live_sheet.proofs.closed_words.close_words.Goals as goal

pub returns-clause-each : goal.returns-clause-each
returns-clause-each g c = λ place below.
    c.list_values.ensures.each place below
    ∙ ap Some (closed_worth g.S.Subject.places g.S.Subject.worth g.S.Subject.touches c.args.marks c.args.editor
    c.args.others.items c.in-Ok.words place c.in-Ok.ensures.closed c.requires.free.idle
    (c.requires.known place below) c.requires.table.same_places (subst (λ n. place < n) c.requires.places below))

pub returns-clause-prefixes : goal.returns-clause-prefixes
returns-clause-prefixes g c = λ k d below.
    subst (λ l. IsPrefix (log_of (slice_index_or c.args.others.items k d)) l) c.in-Ok.ensures.closed.same_log
    (c.in-Ok.ensures.prefixes (slice_index_or c.args.others.items k d) (Contains-get_or c.args.others.items k d below))

pub returns-clause-edits : goal.returns-clause-edits
returns-clause-edits g c =
    let has = c.in-Ok.ensures.closed in
    ap (λ e. e.log) (sym has.edits) ∙ has.log ∙ has.same_log
