use Rattle.std.proofs.Common.{◌≡◌, ◌<◌, ◌^◌, ◌∙◌, ℕ, List, length, map, string_bytes, ap, subst, sym}
use Rattle.std.specs.BTreeMap.{get_by_text}
use Rattle.text_table.specs.Filing.{IsIndexOf}
use Rattle.text_table.specs.Tables.{AreDistinct}
use Rattle.text_table.proofs.ListLemmas.{seen_alike}
use Rattle.text_table.proofs.table.TextTable.copy.Goals as goal

pub of-requires-clause-distinct : goal.of-requires-clause-distinct
of-requires-clause-distinct c =
    let alike = seen_alike string_bytes c.self.inside.texts.items c.in_ok-texts.texts.items c.in_ok-texts.ensures.cases.0 in
    let seen : map string_bytes c.deref.result.now ≡ map string_bytes c.self.inside.texts.items = ap (map string_bytes) c.deref.ensures.value ∙ alike in
    subst (λ (ts : List (List ℕ)). AreDistinct ts) (sym seen) c.self.invariant.distinct

pub invariant_of-result : goal.invariant_of-result
invariant_of-result c =
    let alike = seen_alike string_bytes c.self.inside.texts.items c.in_ok-texts.texts.items c.in_ok-texts.ensures.cases.0 in
    record {
      index =
          subst (λ (ts : List (List ℕ)). IsIndexOf (map (λ bucket. bucket.items) c.in_ok-index.index.buckets.items) (get_by_text c.in_ok-index.index.beside) ts)
          (ap (map string_bytes) c.deref.ensures.value) c.in_ok-index.ensures.index;
      distinct = subst (λ (ts : List (List ℕ)). AreDistinct ts) (sym alike) c.self.invariant.distinct;
      few = subst (λ (ts : List (List ℕ)). length ts < 2 ^ 32) (sym alike) c.self.invariant.few;
    }

pub returns : goal.returns
returns c =
    let alike = seen_alike string_bytes c.self.inside.texts.items c.in_ok-texts.texts.items c.in_ok-texts.ensures.cases.0 in
    alike ∙ c.self.view_is
