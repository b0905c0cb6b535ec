use Rattle.std.proofs.Common.{◌≡◌, ◌-◌, ◌<◌, ◌^◌, ◌++◌, ◌∷◌, [], ◌∙◌, ℕ, List, length, map, string_bytes, ap, ap₂, arith, length-append, subst, sym}
use Rattle.std.specs.BTreeMap.{get_by_text}
use Rattle.std.proofs.lemmas.List.{length-map, map-append}
use Rattle.text_table.specs.Filing.{IsStored}
use Rattle.text_table.proofs.TableLemmas.{distinct_pushed}
use Rattle.text_table.proofs.table.add.Goals as goal

pub returns-clause-stored : goal.returns-clause-stored
returns-clause-stored c =
    let texts : List (List ℕ) = map string_bytes c.args.texts.now.items in
    let text = c.args.text.now in
    let count : length texts ≡ c.len-place.result =
    length-map c.args.texts.now.items string_bytes
    ∙ (ap length (sym c.reserve.ensures.items) ∙ (sym c.reserve.new.self.ok.0 ∙ sym c.len-place.ensures)) in
    let all : map string_bytes c.push_reserved.new.self.items ≡ texts ++ text ∷ [] =
    ap (map string_bytes) c.push_reserved.ensures.items
    ∙ (map-append string_bytes c.reserve.new.self.items (c.in_ok-copy.copy ∷ [])
    ∙ ap₂ (λ (ts : List (List ℕ)) (t : List ℕ). ts ++ t ∷ []) (ap (map string_bytes) c.reserve.ensures.items) c.in_ok-copy.ensures.ok) in
    let room : length texts < 2 ^ 32 - 1 = subst (λ (n : ℕ). n < 2 ^ 32 - 1) (sym (length-map c.args.texts.now.items string_bytes)) c.requires.room in
    let filed = c.in_ok-file.ensures.filed texts count c.requires.absent c.requires.stored.index in
    subst (IsStored (map (λ bucket. bucket.items) c.file.new.self.buckets.items) (get_by_text c.file.new.self.beside)) (sym all) (record {
      index = filed.0;
      distinct = distinct_pushed texts text c.requires.stored.distinct c.requires.absent;
      few = rw (length-append texts (text ∷ [])) (omega (arith, room));
    })
