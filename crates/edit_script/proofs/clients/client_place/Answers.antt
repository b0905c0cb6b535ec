use Rattle.std.proofs.Common.{◌∙◌, sym}
use Rattle.std.proofs.lemmas.List.{length-map}
use Rattle.std.specs.Prelude.{string_bytes}
use Rattle.std.proofs.lemmas.Slice.Eq.{bytes_eq-Decides}
use Rattle.edit_script.proofs.NameLemmas.{name_at, name_not, no_name, names_differ}
use Rattle.edit_script.proofs.clients.client_place.Goals as goal

pub returns-then-eq : goal.returns-then-eq
returns-then-eq c =
    name_at string_bytes c.args.names.now c.loop-place.place c.index-names-place.result c.args.name.now c.loop-place-test.true c.index-names-place.is
    (sym c.as_str.ensures.value ∙ (bytes_eq-Decides c.as_str.result.now c.args.name.now).0 (sym c.if-eq.ensures))

pub loop-place-preserved : goal.loop-place-preserved
loop-place-preserved c =
    name_not string_bytes c.args.names.now c.loop-place.place c.index-names-place.result c.args.name.now
    c.loop-place.invariant c.loop-place-test.true c.index-names-place.is
    (λ same. names_differ c.as_str.result.now c.args.name.now (sym c.if-eq.ensures) (c.as_str.ensures.value ∙ same))

pub returns : goal.returns
returns c = no_name _ c.loop-place.place c.args.name.now c.loop-place.invariant (rw (length-map c.args.names.now string_bytes) c.loop-place-test.false)
