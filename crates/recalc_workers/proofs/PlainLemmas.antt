-- An evaluation can read past all cells whose words are in a list without that of #CIRC!.
use Rattle.std.proofs.Common.{◌≡◌, ◌≢◌, ℕ, zero, suc, List, [], ◌∷◌, Option, Some, None, Bool, true, false, length, drop, refl, sym, subst}
use Rattle.std.specs.Prelude.{slice_get, IsSome, if◌then◌else◌}
use Rattle.std.proofs.lemmas.Option.{none-some}
use Rattle.std.proofs.lemmas.List.Elements.{All-nil, All-cons}
use Rattle.sheet_refs.specs.Cells.{Position, cells_of}
use Rattle.sheet_refs.specs.Ends.{Reference, corners_of}
use Rattle.sheet_refs.specs.declared.sizes.Sizes.{Sizes}
use Rattle.value_core.specs.Decoding.{value_of_word}
use Rattle.value_core.specs.Values.{IsValue, code_of}
use Rattle.value_core.specs.declared.value.ErrorKind.TheVariants.{Circ}
use Rattle.value_core.specs.declared.value.Value.TheVariants.{Error}
use Rattle.formula_eval.specs.Inputs.{ArePlain, IsKnownPlain, IsPlainRange}
use Rattle.sheet_model.specs.declared.parts.Part.{Part}
use Rattle.recalc_workers.specs.Inputs.{AreCodes, HaveNoCircular, HaveWords, is_in, place_in, word_in}

module _ (P : ℕ → Type 0) where
  all_drop : (n : ℕ) (words : List ℕ) → ((i word : ℕ) → slice_get words i ≡ Some word → P word)
      → (i word : ℕ) → slice_get (drop n words) i ≡ Some word → P word
  all_drop zero words all = all
  all_drop (suc n) [] all = all
  all_drop (suc n) (first ∷ words) all = all_drop n words (λ i word at. all (suc i) word at)

  found_by : (b : Bool) (words : List ℕ) (place : ℕ) (other : Option ℕ) (word : ℕ)
      → ((i w : ℕ) → slice_get words i ≡ Some w → P w) → (other ≡ Some word → P word)
      → (if b then slice_get words place else other) ≡ Some word → P word
  found_by true words place other word all later is = all place word is
  found_by false words place other word all later is = later is

  -- what is so of each word is so of the word that is found of a cell
  found_word : (parts : List Part) (words : List ℕ) (cell : Position) (word : ℕ) → ((i w : ℕ) → slice_get words i ≡ Some w → P w)
      → word_in parts words cell ≡ Some word → P word
  found_word [] words cell word all is = absurd (none-some word is)
  found_word (part ∷ parts) words cell word all is =
      found_by (is_in part.range cell) words (place_in part.range cell) (word_in parts (drop (length (cells_of part.range)) words) cell) word all
      (λ later. found_word parts (drop (length (cells_of part.range)) words) cell word (all_drop (length (cells_of part.range)) words all) later) is

known_plain : (parts : List Part) (words : List ℕ) (cell : Position) → AreCodes words → HaveNoCircular words
    → IsSome (word_in parts words cell) → IsKnownPlain (word_in parts words) cell
known_plain parts words cell codes plain some = by_option (word_in parts words cell) refl some
  where
    by_option : (o : Option ℕ) → word_in parts words cell ≡ o → IsSome o → IsKnownPlain (word_in parts words) cell
    by_option None is there = absurd (cc)
    by_option (Some word) is there =
        let code = found_word (λ w. IsValue (value_of_word w) × (code_of (value_of_word w) ≡ w)) parts words cell word codes is in
        (word, (value_of_word word, code.0, code.1), is, found_word (λ w. w ≢ code_of (Error Circ)) parts words cell word plain is)

-- evaluation can read past each cell of the rectangle that these references name
pub plain_words : (sizes : Sizes) (references : List Reference) (parts : List Part) (words : List ℕ) → AreCodes words
    → HaveNoCircular words → HaveWords sizes references parts words → ArePlain sizes (word_in parts words) references
plain_words sizes [] parts words codes plain have = All-nil (λ (r : Reference). IsPlainRange sizes (word_in parts words) (corners_of r))
plain_words sizes (r ∷ rest) parts words codes plain have =
    All-cons (λ (r : Reference). IsPlainRange sizes (word_in parts words) (corners_of r)) r rest
    (record {
      plain = λ cell inside held. known_plain parts words cell codes plain
          (have cell (record { through = r; place = 0; listed = refl; inside = inside }) held);
    })
    (plain_words sizes rest parts words codes plain (λ cell named held. have cell (record {
      through = named.through;
      place = suc named.place;
      listed = named.listed;
      inside = named.inside;
    }) held))

-- the same, whatever the list is called
pub plain_in_these : (sizes other : Sizes) (references : List Reference) (parts parts' : List Part) (words words' read : List ℕ) → other ≡ sizes
    → parts' ≡ parts → words' ≡ words → read ≡ words → AreCodes words → HaveNoCircular read → HaveWords sizes references parts words
    → ArePlain other (word_in parts' words') references
plain_in_these sizes other references parts parts' words words' read same_sizes same_parts same_words same_read codes plain have =
    subst (λ s. ArePlain s (word_in parts' words') references) (sym same_sizes)
    (subst (λ p. ArePlain sizes (word_in p words') references) (sym same_parts)
    (subst (λ w. ArePlain sizes (word_in parts w) references) (sym same_words)
    (plain_words sizes references parts words codes (subst (λ w. HaveNoCircular w) same_read plain) have)))
