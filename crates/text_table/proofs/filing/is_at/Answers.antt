use Rattle.std.proofs.Common.{◌≡◌, Some, length, slice_get, refl, string_bytes, subst}
use Rattle.std.proofs.lemmas.Option.{slice_get_read}
use Rattle.std.specs.Str.{bytes_eq}
use Rattle.text_table.proofs.FilingLemmas.{text_at, text_past}
use Rattle.text_table.proofs.filing.is_at.Goals as goal

pub returns-in-Some : goal.returns-in-Some
returns-in-Some c =
    let found = c.in-Some.found.now in
    let lookup = c.in-Some.ensures.lookup.3 in
    let here : slice_get c.args.texts.now c.args.place ≡ Some found =
    slice_get_read c.args.texts.now (length c.args.texts.now) c.args.place found refl lookup.0 (lookup.1 found) in
    text_at string_bytes c.args.texts.now c.args.place found c.args.text.now c.eq.result here
    (subst (λ t. c.eq.result ≡ bytes_eq t c.args.text.now) c.as_str.ensures.value c.eq.ensures)

pub returns-in-None : goal.returns-in-None
returns-in-None c = text_past string_bytes c.args.texts.now c.args.place c.args.text.now c.in-None.ensures.lookup.3
