-- There is room in a log for all edits that the clients of a script ask for.
use Rattle.std.proofs.Common.{◌≡◌, ◌<◌, ◌≤◌, ◌+◌, ◌==◌, ⊎_elim, ℕ, cond, List, [], ◌∷◌, All, map, length, refl, sym, ap, arith, length-append}
use Rattle.std.specs.Prelude.{filter, count_by}
use Rattle.std.proofs.lemmas.Bool.{cases_lt, cond-true, cond-false, eq-eqb, ne_eqb}
use Rattle.std.proofs.lemmas.List.Elements.{All-head, All-tail}
use Rattle.std.proofs.lemmas.List.Sums.{sum_by-cons}
use Rattle.edit_script.specs.declared.script.Command.{Command}
use Rattle.edit_script.specs.declared.script.Command.TheVariants as asks
use Rattle.edit_script.specs.declared.script.Step.{Step}
use Rattle.live_sheet.specs.Closed.{entries_by}
use Rattle.play_machine.specs.Playing.{is_put}
use Rattle.sheet_model.specs.declared.entry.Entry.{Entry}
use Rattle.live_run.specs.Legal.{commands_by, edit_asked, edits_asked}
use Rattle.live_run.specs.Parts.{ArePartsOf, edits_of}
use Rattle.live_run.specs.declared.part.Part.{Part}
use Rattle.live_run.proofs.NumberLemmas.{own_first, own_later}
use Rattle.live_run.proofs.SumLemmas.{no_more_in_all, total, total_more, total_none}

-- together the clients have all entries of a log that has no others
pub all_entries : (clients : ℕ) (log : List Entry) → All (λ (entry : Entry). entry.client < clients) log → total (λ i. entries_by i log) clients ≡ length log
all_entries clients [] others = total_none (λ i. entries_by i []) clients (λ i. refl)
all_entries clients (entry ∷ log) others =
    let rest = all_entries clients log (All-tail (λ (e : Entry). e.client < clients) entry log others) in
    let one =
    total_more (λ i. entries_by i log) (λ i. entries_by i (entry ∷ log)) entry.client 1 clients
    (λ i is. let first = ap length (own_first i entry log (sym is)) in omega (arith, first))
    (λ i other. ap length (own_later i entry log (λ is. other (sym is)))) in
    let more = one.0 (All-head (λ (e : Entry). e.client < clients) entry log others) in
    omega (arith, rest, more)

-- how many edits a client asks for
abbrev puts_by : ℕ → List Step → ℕ
puts_by client steps = length (edits_asked (commands_by client steps))

-- how many a command asks for
one_asked : (command : Command) → length (edit_asked command) ≡ cond (is_put command) 1 0
one_asked (asks.Put edit) = refl
one_asked (asks.Look window) = refl
one_asked (asks.Firm window) = refl
one_asked (asks.Work turns) = refl

puts_first : (client : ℕ) (step : Step) (steps : List Step) → step.client ≡ client
    → puts_by client (step ∷ steps) ≡ puts_by client steps + cond (is_put step.command) 1 0
puts_first client step steps is =
    let kept =
    cond-true (step.client == client) (step ∷ filter (λ (s : Step). s.client == client) steps)
    (filter (λ (s : Step). s.client == client) steps) (eq-eqb step.client client is) in
    let count = ap (λ ss. length (edits_asked (map (λ (s : Step). s.command) ss))) kept in
    let joined = length-append (edit_asked step.command) (edits_asked (commands_by client steps)) in
    omega (arith, count, joined, one_asked step.command)

puts_later : (client : ℕ) (step : Step) (steps : List Step) → (step.client ≡ client → ⊥) → puts_by client (step ∷ steps) ≡ puts_by client steps
puts_later client step steps other =
    ap (λ ss. length (edits_asked (map (λ (s : Step). s.command) ss)))
    (cond-false (step.client == client) (step ∷ filter (λ (s : Step). s.client == client) steps)
    (filter (λ (s : Step). s.client == client) steps) (ne_eqb step.client client other))

-- together so many clients ask for no more edits than there are
few_puts : (clients : ℕ) (steps : List Step) → total (λ i. puts_by i steps) clients ≤ count_by (λ (s : Step). is_put s.command) steps
few_puts clients [] = let none = total_none (λ i. puts_by i []) clients (λ i. refl) in omega (arith, none)
few_puts clients (step ∷ steps) =
    let rest = few_puts clients steps in
    let one =
    total_more (λ i. puts_by i steps) (λ i. puts_by i (step ∷ steps)) step.client (cond (is_put step.command) 1 0) clients
    (λ i is. puts_first i step steps (sym is))
    (λ i other. puts_later i step steps (λ is. other (sym is))) in
    let count : count_by (λ (s : Step). is_put s.command) (step ∷ steps) ≡ cond (is_put step.command) 1 0 + count_by (λ (s : Step). is_put s.command) steps =
    sum_by-cons (λ (s : Step). cond (is_put s.command) 1 0) step steps in
    ⊎_elim
    (λ below. let more = one.0 below in omega (arith, rest, more, count))
    (λ above. let same = one.1 above in omega (arith, rest, same, count))
    (cases_lt step.client clients)

-- so do the parts of a script
pub few_edits : (clients : ℕ) (steps : List Step) (parts : List Part) → ArePartsOf clients steps parts
    → edits_of parts ≤ count_by (λ (s : Step). is_put s.command) steps
few_edits clients steps parts are =
    let most =
    no_more_in_all (λ i. puts_by i steps) parts
    (λ i part at. let same = ap (λ cs. length (edits_asked cs)) (are.each i part at).commands_are in omega (arith, same)) in
    let few = few_puts (length parts) steps in
    omega (arith, most, few)
