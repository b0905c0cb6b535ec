use Rattle.std.proofs.Common.{◌≡◌, drop}
use Rattle.sheet_io.specs.Texts.{text_under}
use Rattle.sheet_io.proofs.texts.find_text.Given as goal

-- the name doesn't stand before the entry at hand
abbrev pub invariant-loop-held : goal.invariant-loop-held
invariant-loop-held l = text_under l.texts l.name ≡ text_under (drop l.held-index l.texts) l.name
