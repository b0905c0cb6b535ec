-- What one command more asks for.
use Rattle.std.proofs.Common.{◌≡◌, ◌+◌, ℕ, List, [], ◌∷◌, ◌++◌, length, true, false, ◌∙◌, ap, arith}
use Rattle.std.proofs.lemmas.List.{append-nil}
use Rattle.std.proofs.lemmas.Grind.{flat_map-append}
use Rattle.edit_script.specs.declared.script.Command.{Command}
use Rattle.edit_script.specs.declared.script.Command.TheVariants as asks
use Rattle.live_run.specs.Legal.{edit_asked, edits_asked, looks_behind, looks_asked}

pub edits_push : (commands : List Command) (command : Command) → edits_asked (commands ++ command ∷ []) ≡ edits_asked commands ++ edit_asked command
edits_push commands command = flat_map-append edit_asked commands (command ∷ []) ∙ ap (λ l. edits_asked commands ++ l) (append-nil (edit_asked command))

-- the edits and the looks of commands behind others
pub edits_append : (commands more : List Command) → edits_asked (commands ++ more) ≡ edits_asked commands ++ edits_asked more
edits_append commands more = flat_map-append edit_asked commands more

looks_append_behind : (made : ℕ) (commands more : List Command)
    → looks_behind made (commands ++ more) ≡ looks_behind made commands
    ++ looks_behind (made + length (edits_asked commands)) more
looks_append_behind made [] more = let none : made ≡ made + 0 = omega arith in ap (λ n. looks_behind n more) none
looks_append_behind made (asks.Put edit ∷ commands) more =
    let count : made + 1 + length (edits_asked commands) ≡ made + length (edits_asked (asks.Put edit ∷ commands)) = omega arith in
    looks_append_behind (made + 1) commands more ∙ ap (λ n. looks_behind (made + 1) commands ++ looks_behind n more) count
looks_append_behind made (asks.Look window ∷ commands) more =
    ap (λ l. record { firm = false; window = window; made = made } ∷ l) (looks_append_behind made commands more)
looks_append_behind made (asks.Firm window ∷ commands) more =
    ap (λ l. record { firm = true; window = window; made = made } ∷ l) (looks_append_behind made commands more)
looks_append_behind made (asks.Work turns ∷ commands) more = looks_append_behind made commands more

pub looks_append : (commands more : List Command) → looks_asked (commands ++ more) ≡ looks_asked commands ++ looks_behind (length (edits_asked commands)) more
looks_append commands more =
    let none : 0 + length (edits_asked commands) ≡ length (edits_asked commands) = omega arith in
    looks_append_behind 0 commands more ∙ ap (λ n. looks_asked commands ++ looks_behind n more) none

-- the looks of one command more stand behind all edits of those before it
pub looks_more : (commands : List Command) (command : Command)
    → looks_asked (commands ++ command ∷ []) ≡ looks_asked commands
    ++ looks_behind (length (edits_asked commands)) (command ∷ [])
looks_more commands command = looks_append commands (command ∷ [])
