-- What an office over a book keeps.
use Rattle.std.specs.Prelude.{◌≡◌, ℕ, List, [], Option, Some, length, slice_get}
use Rattle.mark_core.specs.declared.subjects.Subject.{Ghosts}
use Rattle.mark_words.specs.declared.seats.Seat.{Seat}
use Rattle.mark_words.specs.Tokens.{seat_table, doing_of, log_of, edits_of, is_editor}
use Rattle.value_core.specs.declared.value.Value.{Value}
use Rattle.value_core.specs.Values.{code_of}
use Rattle.sheet_model.specs.Sheets.{SheetValue, ContentValue, Constant}
use Rattle.edit_log.specs.Touches.{place_worth}

-- the editor's seat stays one of its table, with its log and its edits
pub record KeepsEditor {S E : Type 0} {G : Ghosts S E} (old new : Seat S E G) : Type 0 where
  pub table : seat_table new ≡ seat_table old
  pub subject : (doing_of new).subject ≡ (doing_of old).subject
  pub log : log_of new ≡ log_of old
  pub edits : edits_of new ≡ edits_of old
  pub editor : is_editor new ≡ is_editor old

-- the word is the code of the constant that stands there
abbrev pub IsCodeOfConstant : ContentValue → ℕ → Type 0
IsCodeOfConstant content word = (value : Value) × (content ≡ Constant value) × (word ≡ code_of value)

-- so many codes were given, each the worth of its place over the empty log
pub record AreOpeningCodes (opening : SheetValue) (count : ℕ) (codes : List (Option ℕ)) : Type 0 where
  pub length_is : length codes ≡ count
  pub right : (place code : ℕ) → slice_get codes place ≡ Some (Some code) → code ≡ place_worth opening [] place
