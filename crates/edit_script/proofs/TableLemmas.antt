-- A table of labels only grows.
use Rattle.std.proofs.Common.{◌≡◌, ℕ, Bool, true, false, List, [], ◌∷◌, ◌++◌, refl, sym, ◌∙◌, append-nil}
use Rattle.std.specs.Prelude.{if◌then◌else◌}
use Rattle.std.specs.List.{list_any}
use Rattle.std.specs.Str.{bytes_eq}
use Rattle.sheet_model.specs.Fields.{IsTableAfter}
use Rattle.sheet_model.specs.Fields.IsTableAfter.{label, other}
use Rattle.sheet_model.specs.Labels.{with_label}
use Rattle.edit_script.specs.Progress.{Extends}

pub same_table : (old new : List (List ℕ)) → new ≡ old → Extends old new
same_table old new same = ([], same ∙ sym (append-nil old))

label_grows : (old : List (List ℕ)) (text : List ℕ) → Extends old (with_label old text)
label_grows old text = go (list_any (bytes_eq text) old)
  where
    go : (b : Bool) → Extends old (if b then old else old ++ text ∷ [])
    go true = ([], sym (append-nil old))
    go false = (text ∷ [], refl)

pub table_grows : (text : List ℕ) (old new : List (List ℕ)) → IsTableAfter text old new → Extends old new
table_grows text _ _ (label _ old new field e) = (let grown = label_grows old text in (grown.0, e ∙ grown.1))
table_grows text _ _ (other _ old new none e) = same_table old new e
