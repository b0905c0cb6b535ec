-- Names and texts in a list.
use Rattle.std.specs.Prelude.{ℕ, List, [], ◌∷◌, Some, None, String, Vec, string_bytes, if◌then◌else◌, unwrap_or}
use Rattle.std.specs.Str.{bytes_eq}
use Rattle.std.specs.declared.alloc.Global.{Global}
use Rattle.std.specs.declared.option.Option.{Option}

-- the text at the first place of a name
abbrev pub text_under : List (String Global × Vec ℕ Global) → List ℕ → Option (List ℕ)
text_under [] name = None
text_under (entry ∷ entries) name = if bytes_eq (string_bytes entry.0) name then Some entry.1.items else text_under entries name

-- that text, and the empty one for a name that stands nowhere
abbrev pub text_or_empty : List (String Global × Vec ℕ Global) → List ℕ → List ℕ
text_or_empty entries name = unwrap_or (text_under entries name) []
