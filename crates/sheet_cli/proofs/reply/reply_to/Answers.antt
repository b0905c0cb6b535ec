use Rattle.std.proofs.Common.{◌≡◌, [], ◌∷◌, List, ℕ, rules, subst}
use Rattle.sheet_cli.specs.Words.{IsAskedBy, bytes_of}
use Rattle.sheet_cli.proofs.CommandLemmas.{generated_workers, has_workers}
use Rattle.sheet_cli.proofs.ReplyLemmas.{if_reply, owed_usage, to_words}
use Rattle.sheet_cli.proofs.reply.reply_to.Goals as goal

some_text : {name : List ℕ} {names : List (List ℕ)} → name ∷ names ≡ [] → ⊥
some_text is = cc

pub returns-in-OfWindow-clause-owed : goal.returns-in-OfWindow-clause-owed
returns-in-OfWindow-clause-owed g c =
    let asked = subst (IsAskedBy (bytes_of c.args.words.now)) c.in-OfWindow.is c.in_ok-command.ensures in
    if_reply c.reply_of_window.result _ _ c.reply_of_window.ensures.reply (λ reply is. to_words _ _ _ _ _ reply asked (rw c.as_str.ensures.value at is))

pub returns-in-OfWindow-clause-nothing_fetched : goal.returns-in-OfWindow-clause-nothing_fetched
returns-in-OfWindow-clause-nothing_fetched g c =
    λ none. absurd (some_text (none _ (subst (IsAskedBy (bytes_of c.args.words.now)) c.in-OfWindow.is c.in_ok-command.ensures)))

pub returns-in-OfCheck-clause-owed : goal.returns-in-OfCheck-clause-owed
returns-in-OfCheck-clause-owed g c =
    let asked = subst (IsAskedBy (bytes_of c.args.words.now)) c.in-OfCheck.is c.in_ok-command.ensures in
    if_reply c.reply_of_check.result _ _ c.reply_of_check.ensures.reply (λ reply is. to_words _ _ _ _ _ reply asked
    (rw c.as_str-in-OfCheck.ensures.value at is))

pub returns-in-OfCheck-clause-nothing_fetched : goal.returns-in-OfCheck-clause-nothing_fetched
returns-in-OfCheck-clause-nothing_fetched g c =
    λ none. absurd (some_text (none _ (subst (IsAskedBy (bytes_of c.args.words.now)) c.in-OfCheck.is c.in_ok-command.ensures)))

pub returns-in-OfPath-clause-owed : goal.returns-in-OfPath-clause-owed
returns-in-OfPath-clause-owed g c =
    let asked = subst (IsAskedBy (bytes_of c.args.words.now)) c.in-OfPath.is c.in_ok-command.ensures in
    if_reply c.reply_of_path.result _ _ c.reply_of_path.ensures.reply (λ reply is. to_words _ _ _ _ _ reply asked (rw c.as_str-in-OfPath.ensures.value at is))

pub returns-in-OfPath-clause-nothing_fetched : goal.returns-in-OfPath-clause-nothing_fetched
returns-in-OfPath-clause-nothing_fetched g c =
    λ none. absurd (some_text (none _ (subst (IsAskedBy (bytes_of c.args.words.now)) c.in-OfPath.is c.in_ok-command.ensures)))

pub returns-in-OfFill-clause-owed : goal.returns-in-OfFill-clause-owed
returns-in-OfFill-clause-owed g c =
    let asked = subst (IsAskedBy (bytes_of c.args.words.now)) c.in-OfFill.is c.in_ok-command.ensures in
    if_reply c.reply_of_fill.result _ _ c.reply_of_fill.ensures.reply (λ reply is. to_words _ _ _ _ _ reply asked (rw c.as_str-in-OfFill.ensures.value at is))

pub returns-in-OfFill-clause-nothing_fetched : goal.returns-in-OfFill-clause-nothing_fetched
returns-in-OfFill-clause-nothing_fetched g c =
    λ none. absurd (some_text (none _ (subst (IsAskedBy (bytes_of c.args.words.now)) c.in-OfFill.is c.in_ok-command.ensures)))

pub returns-in-OfScript-clause-owed : goal.returns-in-OfScript-clause-owed
returns-in-OfScript-clause-owed g c =
    let asked = subst (IsAskedBy (bytes_of c.args.words.now)) c.in-OfScript.is c.in_ok-command.ensures in
    if_reply c.reply_of_script.result _ _ c.reply_of_script.ensures.reply (λ reply is. to_words _ _ _ _ _ reply asked
    (rw (c.as_str-in-OfScript.ensures.value, c.as_str-in-OfScript-2.ensures.value) at is))

pub reply_of_script-requires : goal.reply_of_script-requires
reply_of_script-requires g c =
    let asked = subst (IsAskedBy (bytes_of c.args.words.now)) c.in-OfScript.is c.in_ok-command.ensures in
    let workers = has_workers (bytes_of c.args.words.now) c.in-OfScript.command _ _ asked in
    search rules

pub returns-in-OfScript-clause-nothing_fetched : goal.returns-in-OfScript-clause-nothing_fetched
returns-in-OfScript-clause-nothing_fetched g c =
    λ none. absurd (some_text (none _ (subst (IsAskedBy (bytes_of c.args.words.now)) c.in-OfScript.is c.in_ok-command.ensures)))

pub returns-in-Nothing-clause-owed : goal.returns-in-Nothing-clause-owed
returns-in-Nothing-clause-owed g c =
    let nothing = subst (IsAskedBy (bytes_of c.args.words.now)) c.in-Nothing.is c.in_ok-command.ensures in
    if_reply c.refusal.result _ _ c.refusal.ensures (λ reply is. owed_usage _ _ _ _ reply nothing is)

pub reply_of_generated-requires : goal.reply_of_generated-requires
reply_of_generated-requires g c =
    let asked = subst (IsAskedBy (bytes_of c.args.words.now)) c.in-OfGenerated.is c.in_ok-command.ensures in
    let workers = generated_workers (bytes_of c.args.words.now) c.in-OfGenerated.number c.in-OfGenerated.workers asked in
    search rules

pub returns-in-OfGenerated-clause-owed : goal.returns-in-OfGenerated-clause-owed
returns-in-OfGenerated-clause-owed g c =
    let asked = subst (IsAskedBy (bytes_of c.args.words.now)) c.in-OfGenerated.is c.in_ok-command.ensures in
    if_reply c.reply_of_generated.result _ _ c.reply_of_generated.ensures (λ reply is. to_words _ _ _ _ _ reply asked (is _ _))
