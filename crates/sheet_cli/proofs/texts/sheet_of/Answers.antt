use Rattle.sheet_cli.proofs.ReplyLemmas.{unread_sheet}
use Rattle.sheet_cli.proofs.texts.sheet_of.Goals as goal

pub returns-in_ok-unread-in-Err : goal.returns-in_ok-unread-in-Err
returns-in_ok-unread-in-Err g c =
    unread_sheet c.args.text.now c.in-Err.why c.in_ok-unread-in-Err.field-0 c.in_ok-unread-in-Err.ensures.line
    c.in_ok-unread-in-Err.ensures.known c.in-Err.ensures.result
