-- The ids that are found: of some entries, and of others after them.
use Rattle.std.proofs.Common.{◌≡◌, ◌≢◌, ◌↔◌, ◌⊎◌, inl, inr, ℕ, ◌<◌, List, [], ◌++◌, length, get_or, Result, Ok, Err, sym, ◌∙◌, ap, arith}
use Rattle.std.specs.List.{Contains}
use Rattle.std.specs.Result.{OnOk}
use Rattle.std.proofs.lemmas.List.{append-nil, append_assoc}
use Rattle.std.proofs.lemmas.List.Elements.{Contains-append_left, Contains-append_right, Contains-append_cases, Contains-get_or}
use Rattle.sheet_refs.specs.Cells.{Corners}
use Rattle.sheet_refs.specs.Rectangles.{Overlap}
use Rattle.sheet_refs.proofs.Tiles.{AllPairs-append}
use Rattle.range_index.specs.Entries.{Entry, entry_of, AddsOverlapping}
use Rattle.tree_index.specs.Changes.{AddsThose}

-- of none
pub adds_none : (P : Entry → Type 0) (query : Corners) (out : List ℕ) → ((e : Entry) → P e → Overlap e.range query → ⊥) → AddsThose P query out out
adds_none P query out none = record {
  added = [];
  whole = sym (append-nil out);
  once = λ i j d before within. absurd (omega (arith, within));
  exact = λ id. (λ there. absurd (omega (arith, there.1)), λ is. absurd (none (entry_of id is.range) is.one_of is.overlaps));
}

-- of the same entries
pub adds_same : (P Q : Entry → Type 0) (query : Corners) (old new : List ℕ) → ((e : Entry) → P e ↔ Q e) → AddsThose P query old new → AddsThose Q query old new
adds_same P Q query old new same adds = record {
  added = adds.added;
  whole = adds.whole;
  once = adds.once;
  exact = λ id. (
    λ there. let is = (adds.exact id).0 there in record { range = is.range; one_of = (same (entry_of id is.range)).0 is.one_of; overlaps = is.overlaps },
    λ is. (adds.exact id).1 (record { range = is.range; one_of = (same (entry_of id is.range)).1 is.one_of; overlaps = is.overlaps }),
  );
}

-- of some, and of others that have other ids
pub adds_both : (P Q : Entry → Type 0) (query : Corners) (old mid new : List ℕ)
    → ((a b : Entry) → P a → Q b → a.id ≡ b.id → ⊥) → AddsThose P query old mid → AddsThose Q query mid new
    → AddsThose (λ e. P e ⊎ Q e) query old new
adds_both P Q query old mid new apart first second = record {
  added = first.added ++ second.added;
  whole = second.whole ∙ (ap (λ (l : List ℕ). l ++ second.added) first.whole ∙ append_assoc old first.added second.added);
  once = AllPairs-append (λ (a b : ℕ). a ≢ b) first.added second.added first.once second.once across;
  exact = λ id. (
    λ there. elim (Contains-append_cases first.added second.added id there) [
      | inl early ↦ let is = (first.exact id).0 early in record { range = is.range; one_of = inl is.one_of; overlaps = is.overlaps }
      | inr late ↦ let is = (second.exact id).0 late in record { range = is.range; one_of = inr is.one_of; overlaps = is.overlaps }
    ],
    λ is. elim is.one_of [
      | inl early ↦ Contains-append_left first.added second.added id ((first.exact id).1 (record { range = is.range; one_of = early; overlaps = is.overlaps }))
      | inr late ↦ Contains-append_right first.added second.added id ((second.exact id).1 (record { range = is.range; one_of = late; overlaps = is.overlaps }))
    ],
  );
}
  where
    differ : (a b : ℕ) → Contains first.added a → Contains second.added b → a ≢ b
    differ a b there also same =
        let is = (first.exact a).0 there in
        let is_too = (second.exact b).0 also in
        apart (entry_of a is.range) (entry_of b is_too.range) is.one_of is_too.one_of same

    across : (i j : ℕ) (d : ℕ) → i < length first.added → j < length second.added → get_or first.added i d ≢ get_or second.added j d
    across i j d inside inside_too =
        differ (get_or first.added i d) (get_or second.added j d) (Contains-get_or first.added i d inside)
        (Contains-get_or second.added j d inside_too)

-- of a list
pub adds_listed : (entries : List Entry) (query : Corners) (old new : List ℕ) → AddsOverlapping entries query old new
    → AddsThose (λ e. Contains entries e) query old new
adds_listed entries query old new adds = record {
  added = adds.added;
  whole = adds.whole;
  once = adds.once;
  exact = λ id. (
    λ there. let is = (adds.exact id).0 there in record { range = is.range; one_of = is.listed; overlaps = is.overlaps },
    λ is. (adds.exact id).1 (record { range = is.range; listed = is.one_of; overlaps = is.overlaps }),
  );
}

pub listed_adds : (entries : List Entry) (query : Corners) (old new : List ℕ)
    → AddsThose (λ e. Contains entries e) query old new → AddsOverlapping entries query old new
listed_adds entries query old new adds = record {
  added = adds.added;
  whole = adds.whole;
  once = adds.once;
  exact = λ id. (
    λ there. let is = (adds.exact id).0 there in record { range = is.range; listed = is.one_of; overlaps = is.overlaps },
    λ is. (adds.exact id).1 (record { range = is.range; one_of = is.listed; overlaps = is.overlaps }),
  );
}

-- what follows where a call succeeds
pub on_ok_map : {T E P Q : Type 0} (r : Result T E) → (P → Q) → OnOk r P → OnOk r Q
on_ok_map (Ok x) f has = f has
on_ok_map (Err e) f has = has
