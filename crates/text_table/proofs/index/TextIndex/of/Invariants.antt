use Rattle.std.proofs.Common.{◌<◌, length, map, string_bytes, take}
use Rattle.std.specs.BTreeMap.{get_by_text}
use Rattle.text_table.specs.Filing.{IsIndexOf}
use Rattle.text_table.proofs.index.TextIndex.of.Given as goal

abbrev pub invariant-loop-place : goal.invariant-loop-place
invariant-loop-place l = record {
  index : IsIndexOf (map (λ bucket. bucket.items) l.index.buckets.items) (get_by_text l.index.beside) (take l.place (map string_bytes l.texts));
  some : 0 < length l.index.buckets.items;
}
