-- Worked rows: words and texts written out, and exactly what is written or noted.
use Rattle.std.specs.Prelude.{◌≡◌, ◌↔◌, ℕ, List, [], ◌∷◌, ◌++◌, codes, Some}
use Rattle.sheet_cli.specs.Answers.{IsAccepted, Texts}
use Rattle.sheet_cli.specs.Lines.{usage_line}
use Rattle.sheet_cli.specs.Runs.{HasWritten, IsRefused}

-- a sheet of two rows, under the name `s`
abbrev pub worked_text : List ℕ
worked_text = codes "1,=A1+1\n2,=A2+B1\n"

abbrev pub TellsWorked : Texts → Type 0
TellsWorked holds = holds (codes "s") ≡ Some worked_text

-- a command, this sheet and one word more
abbrev pub worked_words : List ℕ → List ℕ → List (List ℕ)
worked_words command word = command ∷ codes "s" ∷ word ∷ []

-- the words write this text over the worked sheet, and no other
abbrev pub WritesJust : List (List ℕ) → List ℕ → Type 0
WritesJust words written =
    (holds : Texts) (text : List ℕ) → TellsWorked holds
    → HasWritten words holds (Some []) (Some text) ↔ (text ≡ written)

-- they are refused with this status and this line, and no other
abbrev pub RefusedJust : List (List ℕ) → ℕ → List ℕ → Type 0
RefusedJust words given line =
    (holds : Texts) (status : ℕ) (said : List ℕ) → TellsWorked holds
    → IsRefused words holds status (λ noted. noted ≡ said) ↔ ((status ≡ given) × (said ≡ line))

-- `show s A1:B2`
abbrev pub ShowRow : Type 0
ShowRow = WritesJust (worked_words (codes "show") (codes "A1:B2")) (codes "sheet 0 A1:B2\n1,2\n2,4\n")

-- it asks for what is in order
abbrev pub AcceptedRow : Type 0
AcceptedRow = (holds : Texts) → TellsWorked holds → IsAccepted (worked_words (codes "show") (codes "A1:B2")) holds

-- `show s A1:B3`
abbrev pub OutsideRow : Type 0
OutsideRow = RefusedJust (worked_words (codes "show") (codes "A1:B3")) 2 (codes "antifreeze: range outside the sheet\n")

-- `show s`
abbrev pub UsageRow : Type 0
UsageRow = RefusedJust (codes "show" ∷ codes "s" ∷ []) 2 usage_line

-- `deps s A1`
abbrev pub DepsRow : Type 0
DepsRow = WritesJust (worked_words (codes "deps") (codes "A1")) (codes "A1:A1\nB1:B2\n")

-- `precs s B2`
abbrev pub PrecsRow : Type 0
PrecsRow = WritesJust (worked_words (codes "precs") (codes "B2")) (codes "A1:A2\nB1:B2\n")

-- `check s`: there are three pairs, whatever edges stand for them, and these two may
abbrev pub CheckRow : Type 0
CheckRow =
    (holds : Texts) (text : List ℕ) → TellsWorked holds → HasWritten (codes "check" ∷ codes "s" ∷ []) holds (Some []) (Some text)
    → (edges : List ℕ) × (text ≡ codes "pairs 3\n" ++ edges)

abbrev pub ListedRow : Type 0
ListedRow =
    (holds : Texts) → TellsWorked holds
    → HasWritten (codes "check" ∷ codes "s" ∷ []) holds (Some []) (Some (codes "pairs 3\nedges 2\nB1:B2 A1:A2 RR\nB2:B2 B1:B1 Single\n"))

-- a script, under the name `t`
abbrev pub TellsScript : List ℕ → Texts → Type 0
TellsScript script holds = holds (codes "t") ≡ Some script

-- `play s t` writes this text over the worked sheet and this script, and no other
abbrev pub PlaysJust : List ℕ → List ℕ → Type 0
PlaysJust script written =
    (holds : Texts) (text : List ℕ) → TellsWorked holds → TellsScript script holds
    → HasWritten (worked_words (codes "play") (codes "t")) holds (Some []) (Some text) ↔ (text ≡ written)

-- or it is refused with this status and this line, and no other
abbrev pub PlayRefusedJust : List ℕ → ℕ → List ℕ → Type 0
PlayRefusedJust script given line =
    (holds : Texts) (status : ℕ) (said : List ℕ) → TellsWorked holds → TellsScript script holds
    → IsRefused (worked_words (codes "play") (codes "t")) holds status (λ noted. noted ≡ said) ↔ ((status ≡ given) × (said ≡ line))

-- an edit, a look at once, two turns, and a look in which one cell is still to be computed
abbrev pub worked_script : List ℕ
worked_script = codes "set A1 5\nlook A1:B2\nwork 2\nlook A1:B2\n"

abbrev pub PlayRow : Type 0
PlayRow = PlaysJust worked_script (codes "look 1 A1:B2\n~1,~1\n2,~1\nlook 1 A1:B2\n5,6\n2,~1\n")

-- a script about a cell past the sheet
abbrev pub outside_script : List ℕ
outside_script = codes "set Z99 1\n"

abbrev pub RefusedScriptRow : Type 0
RefusedScriptRow = PlayRefusedJust outside_script 4 (codes "antifreeze: script: line 1: cell outside the sheet\n")
