-- What stands on a shelf that never fails.
use Rattle.std.specs.Prelude.{ℕ, List, Some, String, Vec}
use Rattle.std.specs.declared.alloc.Global.{Global}
use Rattle.std.specs.declared.option.Option.{Option}
use Rattle.sheet_io.specs.Texts.{text_or_empty}
use Rattle.sheet_io.specs.declared.sure.SureShelf.{SureShelf}

-- the names and their texts, in the order of the list
abbrev pub sure_texts : SureShelf → List (String Global × Vec ℕ Global)
sure_texts shelf = shelf.texts.items

-- the text under a name: that at its first place, and the empty one for a name that stands nowhere
abbrev pub sure_holds : SureShelf → List ℕ → Option (List ℕ)
sure_holds shelf name = Some (text_or_empty (sure_texts shelf) name)
