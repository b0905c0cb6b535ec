use Rattle.std.proofs.Common.{◌∙◌, ◌++◌, ap, drop, length, sym, take-append-drop}
use Rattle.sheet_io.proofs.laws.fetch_laws.Goals as goal

pub returns-clause-front : goal.returns-clause-front
returns-clause-front c = λ told limit old new result fetched.
    (drop (length old) new, sym (take-append-drop (length old) new) ∙ ap (λ l. l ++ drop (length old) new) fetched.keeps)
