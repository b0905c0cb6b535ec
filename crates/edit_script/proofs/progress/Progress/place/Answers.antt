use Rattle.std.proofs.Common.{◌≡◌, sym, subst, map, Some}
use Rattle.std.specs.Prelude.{string_bytes, slice_get, Contains}
use Rattle.std.proofs.lemmas.List.{length-map}
use Rattle.edit_script.specs.Progress.{names_of}
use Rattle.edit_script.proofs.NameLemmas.{name_there, added_at, added_names}
use Rattle.edit_script.proofs.progress.Progress.place.Goals as goal

pub returns-in-Some-clause-names : goal.returns-in-Some-clause-names
returns-in-Some-clause-names c =
    sym (name_there (names_of c.args.self.now) c.args.name.now c.in-Some.place
    (subst (λ l. slice_get (map string_bytes l) c.in-Some.place ≡ Some c.args.name.now) c.deref.ensures.value c.in-Some.ensures))

pub returns-in-None-clause-place : goal.returns-in-None-clause-place
returns-in-None-clause-place c =
    added_at c.add_client.result (names_of c.args.self.now) (names_of c.add_client.new.self) c.args.name.now _
    (length-map c.args.self.now.names.items string_bytes) c.add_client.ensures.place c.add_client.ensures.names

pub returns-in-None-clause-names : goal.returns-in-None-clause-names
returns-in-None-clause-names c =
    added_names c.add_client.result (names_of c.args.self.now) (names_of c.add_client.new.self) c.args.name.now
    (subst (λ l. ¬ Contains (map string_bytes l) c.args.name.now) c.deref.ensures.value c.in-None.ensures) c.add_client.ensures.names
