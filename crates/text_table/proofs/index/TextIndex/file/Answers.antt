use Rattle.std.proofs.Common.{◌≡◌, ◌<◌, ◌%◌, ◌∙◌, ℕ, List, Some, length, string_bytes, ap, ap₂, subst, sym}
use Rattle.std.specs.BTreeMap.{get_by_text}
use Rattle.std.specs.Map.{update}
use Rattle.std.specs.Str.{bytes_eq}
use Rattle.std.proofs.lemmas.Map.Text.{btree_map_updates_text}
use Rattle.std.proofs.lemmas.Nat.{mod_below}
use Rattle.text_table.proofs.FilingLemmas.{put_beside, put_in_bucket}
use Rattle.text_table.proofs.index.TextIndex.file.Goals as goal

pub returns-then-put-clause-filed : goal.returns-then-put-clause-filed
returns-then-put-clause-filed c = λ texts count absent index.
    let buckets = c.args.self.now.buckets.items in
    let home : c.args.hash % c.len.result ≡ c.args.hash % length buckets = ap (λ (n : ℕ). c.args.hash % n) (c.len.ensures ∙ c.args.self.now.buckets.ok.0) in
    let within : c.args.hash % c.len.result < length buckets =
    subst (λ (n : ℕ). n < length buckets) (sym home) (mod_below c.args.hash (length buckets) c.requires.some) in
    let put = c.put.ensures.put c.if-put.true in (
      put_in_bucket (λ bucket. bucket.items) buckets (get_by_text c.args.self.now.beside) texts c.args.text.now c.args.hash
          (c.args.hash % c.len.result) c.index_mut.result.now c.put.new.bucket c.requires.hash home within c.index_mut.ensures.value index
          c.args.place c.tag_of.result count c.tag_of.ensures put.0 put.1,
      tt,
    )

pub returns-clause-filed : goal.returns-clause-filed
returns-clause-filed c = λ texts count absent index.
    let buckets = c.args.self.now.buckets.items in
    let home : c.args.hash % c.len.result ≡ c.args.hash % length buckets = ap (λ (n : ℕ). c.args.hash % n) (c.len.ensures ∙ c.args.self.now.buckets.ok.0) in
    let within : c.args.hash % c.len.result < length buckets =
    subst (λ (n : ℕ). n < length buckets) (sym home) (mod_below c.args.hash (length buckets) c.requires.some) in
    let full = c.put.ensures.full c.if-put.false in
    let old = get_by_text c.args.self.now.beside in (
      put_beside (λ bucket. bucket.items) buckets old texts c.args.text.now c.args.hash (c.args.hash % c.len.result)
          c.index_mut.result.now c.put.new.bucket c.requires.hash home within c.index_mut.ensures.value index
          (get_by_text c.insert.new.self) full.1 full.0 absent
          (λ q. btree_map_updates_text (string_bytes c.in_ok-copy.copy) c.args.self.now.beside c.insert.new.self (Some c.args.place)
          c.in_ok-insert.ensures.updates q
          ∙ ap₂ (λ (t : List ℕ) (p : ℕ). update bytes_eq old t (Some p) q) c.in_ok-copy.ensures.ok (sym count)),
      tt,
    )
