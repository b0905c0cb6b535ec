use Rattle.std.proofs.Common.{rules, subst}
use Rattle.sheet_cli.specs.Replies.{HasText}
use Rattle.sheet_cli.proofs.ReplyLemmas.{past_limit}
use Rattle.sheet_cli.proofs.texts.fetch_sheet.Goals as goal

pub sheet_of-requires : goal.sheet_of-requires
sheet_of-requires g c =
    let text = subst (HasText (g.F.Shelf.holds c.args.shelf.now) c.args.name.now (g.F.Shelf.faults c.args.shelf.now)
    (g.F.Shelf.faults c.fetch_text.new.shelf)) c.in-Text.is c.in_ok-text.ensures.found in
    search rules

pub returns-in_ok-too_long-in-TooLong-clause-found : goal.returns-in_ok-too_long-in-TooLong-clause-found
returns-in_ok-too_long-in-TooLong-clause-found g c =
    let past = subst (HasText (g.F.Shelf.holds c.args.shelf.now) c.args.name.now (g.F.Shelf.faults c.args.shelf.now)
    (g.F.Shelf.faults c.fetch_text.new.shelf)) c.in-TooLong.is c.in_ok-text.ensures.found in
    past_limit _ c.args.name.now _ _ c.in_ok-too_long-in-TooLong.field-0 past c.in_ok-too_long-in-TooLong.ensures
