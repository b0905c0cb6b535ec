use Rattle.std.proofs.Common.{◌≡◌, ◌∙◌, ℕ, List, Some, length, map, slice_get, string_bytes, ap, ap₂, subst, sym}
use Rattle.std.proofs.lemmas.List.{length-map}
use Rattle.text_table.specs.Tables.{IsAbsent, with_text}
use Rattle.text_table.proofs.ListLemmas.{slice_get-push}
use Rattle.text_table.proofs.TableLemmas.{with_absent, with_present}
use Rattle.text_table.proofs.table.TextTable.intern.Goals as goal

pub returns-in-Some-clause-table : goal.returns-in-Some-clause-table
returns-in-Some-clause-table c =
    let seen : map string_bytes c.deref.result.now ≡ c.args.self.now = ap (map string_bytes) c.deref.ensures.value ∙ c.self.view_is in
    sym (with_present c.args.self.now c.args.text.now c.in-Some.place
    (subst (λ (ts : List (List ℕ)). slice_get ts c.in-Some.place ≡ Some c.args.text.now) seen c.in-Some.ensures))

pub returns-clause-place : goal.returns-clause-place
returns-clause-place c =
    let texts : List (List ℕ) = map string_bytes c.self.inside.texts.items in
    let last : c.in_ok-place.place ≡ length texts = c.in_ok-place.ensures.place ∙ sym (length-map c.self.inside.texts.items string_bytes) in
    ap₂ (λ (ts : List (List ℕ)) (p : ℕ). slice_get ts p) c.in_ok-place.ensures.added last ∙ slice_get-push texts c.args.text.now

pub returns-clause-table : goal.returns-clause-table
returns-clause-table c =
    let texts : List (List ℕ) = map string_bytes c.self.inside.texts.items in
    let seen : map string_bytes c.deref.result.now ≡ texts = ap (map string_bytes) c.deref.ensures.value in
    let absent : IsAbsent texts c.args.text.now = subst (λ (ts : List (List ℕ)). IsAbsent ts c.args.text.now) seen c.in_default.ensures in
    c.in_ok-place.ensures.added
    ∙ (sym (with_absent texts c.args.text.now absent) ∙ ap (λ (ts : List (List ℕ)). with_text ts c.args.text.now) c.self.view_is)
