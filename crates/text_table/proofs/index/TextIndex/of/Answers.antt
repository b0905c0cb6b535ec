use Rattle.std.proofs.Common.{◌≡◌, ◌<◌, ◌∙◌, ℕ, List, Some, length, length-take, map, slice_get, string_bytes, take, ap, arith, refl, subst, sym}
use Rattle.std.specs.BTreeMap.{get_by_text}
use Rattle.std.specs.Option.{option_map}
use Rattle.std.proofs.lemmas.List.{length-map}
use Rattle.std.proofs.lemmas.Option.{slice_get-map, slice_get_read}
use Rattle.text_table.specs.Filing.{IsIndexOf}
use Rattle.text_table.proofs.TableLemmas.{absent_before, taken_more}
use Rattle.text_table.proofs.index.TextIndex.of.Goals as goal

pub loop-place-preserved : goal.loop-place-preserved
loop-place-preserved c =
    let texts = c.args.texts.now in
    let all : List (List ℕ) = map string_bytes texts in
    let place : ℕ = c.loop-place.place in
    let text : List ℕ = c.as_str-text.result.now in
    let within : place < length texts = c.loop-place-test.true in
    let stands : slice_get texts place ≡ Some c.index-texts-place.result =
    slice_get_read texts (length texts) place c.index-texts-place.result refl within c.index-texts-place.is in
    let at : slice_get all place ≡ Some text =
    slice_get-map string_bytes texts place ∙ (ap (option_map string_bytes) stands ∙ ap Some (sym c.as_str-text.ensures.value)) in
    let count : length (take place all) ≡ place = omega (arith, length-take place all, length-map texts string_bytes, within) in
    let filed = c.in_ok-file.ensures.filed (take place all) count (absent_before all place text c.requires.distinct at) c.loop-place.invariant.index in
    record {
      index = subst (λ (ts : List (List ℕ)). IsIndexOf (map (λ bucket. bucket.items) c.file.new.self.buckets.items) (get_by_text c.file.new.self.beside) ts)
          (sym (taken_more all place text at)) filed.0;
      some = c.in_ok-file.ensures.some;
    }
