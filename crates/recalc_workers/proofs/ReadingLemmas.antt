-- What reads of inputs come to.
use Rattle.std.proofs.Common.{◌≡◌, ◌≢◌, ◌<◌, ◌+◌, ℕ, zero, suc, List, [], ◌∷◌, ◌++◌, Some, length, map, take, get_or}
use Rattle.std.proofs.Common.{refl, sym, ◌∙◌, ap, inl, inr, arith, append_assoc}
use Rattle.std.specs.Prelude.{◌↔◌, slice_get, Bool, false, IsTrue, IfErr, Result, Ok, Err}
use Rattle.std.proofs.lemmas.Bool.{false≢true}
use Rattle.std.proofs.lemmas.List.{append-nil, map-append}
use Rattle.std.proofs.lemmas.Grind.{flat_map-append}
use Rattle.sheet_refs.specs.Cells.{Position, cells_of}
use Rattle.sheet_refs.specs.Sizes.{is_inside, place_of}
use Rattle.sheet_refs.specs.declared.sizes.Sizes.{Sizes}
use Rattle.std.proofs.Math.Seq.{take-suc}
use Rattle.sheet_model.specs.declared.parts.Part.{Part}
use Rattle.sheet_model.specs.Parts.{AddsParts}
use Rattle.sheet_refs.specs.Ends.{Reference}
use Rattle.formula_eval.specs.Meaning.{IsNamedBy}
use Rattle.std.proofs.lemmas.List.Elements.{Contains-push, Contains-append_left, Contains-append_right}
use Rattle.mark_core.specs.declared.words.Clean.{Clean}
use Rattle.mark_core.specs.declared.subjects.Subject.{Ghosts}
use Rattle.mark_core.specs.Marks.{IsPrefix}
use Rattle.mark_words.specs.declared.seats.Seat.{Seat}
use Rattle.mark_words.specs.Tokens.{view_of}
use Rattle.recalc_workers.specs.declared.reading.Reading.{Reading}
use Rattle.recalc_workers.specs.declared.inputs.Unread.{Unread}
use Rattle.recalc_workers.specs.declared.inputs.Unread.TheVariants.{Outdated, Memory}
use Rattle.recalc_workers.specs.Inputs.{IsInParts, IsOutdated, StopsReading, all_cells}
use Rattle.recalc_workers.specs.Seats.{Keeps, HasRead, HasOnlyRead}
use Rattle.recalc_workers.specs.Turns.{WasAdded, HasReadOf}
use Rattle.recalc_workers.proofs.SeatLemmas.{keeps_itself, keeps_on, nothing_done}

-- a test that failed says that what it decides isn't so
pub not_so : {P : Type 0} (b : Bool) → b ≡ false → (IsTrue b ↔ P) → P → ⊥
not_so b failed decides p = false≢true (sym failed ∙ decides.1 p)

-- what was added to a list was added to one from which it goes on, and was added where the list goes on
pub added_since : {X : Type 0} (xs ys zs : List X) (x : X) → IsPrefix xs ys → WasAdded ys zs x → WasAdded xs zs x
added_since xs ys zs x p w =
    record {
      added = p.rest ++ w.added;
      all = w.all ∙ ap (λ l. l ++ w.added) p.whole ∙ append_assoc xs p.rest w.added;
      among = Contains-append_right p.rest w.added x w.among;
    }

pub added_still : {X : Type 0} (xs ys zs : List X) (x : X) → WasAdded xs ys x → IsPrefix ys zs → WasAdded xs zs x
added_still xs ys zs x w p =
    record {
      added = w.added ++ p.rest;
      all = p.whole ∙ ap (λ l. l ++ p.rest) w.all ∙ append_assoc xs w.added p.rest;
      among = Contains-append_left w.added p.rest x w.among;
    }

-- the first elements, and one more
pub taken_more : {X : Type 0} (xs : List X) (i : ℕ) (x : X) → i < length xs → x ≡ get_or xs i x → take (i + 1) xs ≡ take i xs ++ x ∷ []
taken_more xs i x within at =
    let count : i + 1 ≡ suc i = omega arith in
    ap (λ n. take n xs) count ∙ (take-suc xs i x within ∙ ap (λ y. take i xs ++ y ∷ []) (sym at))

-- the first elements of a list, and the one that comes next
take_next : {X : Type 0} (xs : List X) (k : ℕ) (x : X) → slice_get xs k ≡ Some x → take (suc k) xs ≡ take k xs ++ x ∷ []
take_next [] k x at = absurd (cc)
take_next (y ∷ ys) zero x at = let same : y ≡ x = cc in ap (λ z. z ∷ []) same
take_next (y ∷ ys) (suc k) x at = ap (λ zs. y ∷ zs) (take_next ys k x at)

-- what a function gives of them, behind other elements
pub one_more : {X Y : Type 0} (f : X → Y) (xs : List X) (k : ℕ) (x : X) (y : Y) (old now next : List Y)
    → slice_get xs k ≡ Some x → y ≡ f x → now ≡ old ++ map f (take k xs) → next ≡ now ++ y ∷ [] → next ≡ old
    ++ map f (take (k + 1) xs)
one_more f xs k x y old now next at is so_far pushed =
    let count : suc k ≡ k + 1 = omega arith in
    let given : map f (take (k + 1) xs) ≡ map f (take k xs) ++ y ∷ [] =
    ap (λ n. map f (take n xs)) (sym count) ∙ ap (map f) (take_next xs k x at) ∙ map-append f (take k xs) (x ∷ [])
    ∙ ap (λ z. map f (take k xs) ++ z ∷ []) (sym is) in
    pushed ∙ ap (λ l. l ++ y ∷ []) so_far ∙ append_assoc old (map f (take k xs)) (y ∷ []) ∙ ap (λ l. old ++ l) (sym given)

-- what it gives of the cells of the first parts, and of the one that comes next
pub part_more : {Y : Type 0} (f : Position → Y) (parts more : List Part) (part : Part) (old now next : List Y)
    → more ≡ parts ++ part ∷ [] → now ≡ old ++ map f (all_cells parts) → next ≡ now ++ map f (cells_of part.range)
    → next ≡ old ++ map f (all_cells more)
part_more f parts more part old now next is so_far added =
    let cells : all_cells more ≡ all_cells parts ++ cells_of part.range =
    ap all_cells is ∙ flat_map-append (λ (p : Part). cells_of p.range) parts (part ∷ []) ∙ ap (λ l. all_cells parts ++ l) (append-nil (cells_of part.range)) in
    added ∙ ap (λ l. l ++ map f (cells_of part.range)) so_far ∙ append_assoc old (map f (all_cells parts)) (map f (cells_of part.range))
    ∙ ap (λ l. old ++ l) (sym (ap (map f) cells ∙ map-append f (all_cells parts) (cells_of part.range)))

-- another fact about an error
pub if_err : {T E : Type 0} (P Q : E → Type 0) (r : Result T E) → ((e : E) → P e → Q e) → IfErr r P → IfErr r Q
if_err P Q (Ok x) on given = given
if_err P Q (Err e) on given = on e given

-- the cells of the parts of ranges are named by these
pub named_in_parts : (sizes : Sizes) (references : List Reference) (parts : List Part)
    → AddsParts sizes references [] parts → (cell : Position) → IsInParts parts cell → IsNamedBy references cell
named_in_parts sizes references parts gains cell at =
    (gains.parts at.place at.part (ap (λ l. slice_get l at.place) (sym gains.behind) ∙ at.listed)).named cell at.within

pub inside_parts : (sizes : Sizes) (references : List Reference) (parts : List Part)
    → AddsParts sizes references [] parts → (cell : Position) → IsInParts parts cell → IsTrue (is_inside sizes cell)
inside_parts sizes references parts gains cell at =
    (gains.parts at.place at.part (ap (λ l. slice_get l at.place) (sym gains.behind) ∙ at.listed)).inside cell at.within

module _ {S E : Type 0} {G : Ghosts S E} where
  -- a read of a place is one of it that was added
  abbrev pub read_added : (old new : Seat S E G) (place : ℕ) (reading : Reading) → HasRead old place reading new → HasReadOf old new place
  read_added old new place reading r =
      record {
        read = r.read;
        added = record { added = r.read ∷ []; all = r.one; among = Contains-push [] r.read };
        place_is = r.is.place_is;
      }

  pub outdated_word : (old new : Seat S E G) (place met : ℕ) (reading : Reading) → HasRead old place reading new
      → reading.clean.upto ≢ reading.mark + 1 → IsOutdated old new place met
  outdated_word old new place met reading r differs =
      record {
        of = read_added old new place reading r;
        why = inl (λ e. differs (ap (λ (x : Clean). x.upto) (sym r.is.clean) ∙ e ∙ ap (λ n. n + 1) r.is.mark));
      }

  pub outdated_mark : (old new : Seat S E G) (place met : ℕ) (reading : Reading) → HasRead old place reading new
      → met < reading.mark → IsOutdated old new place met
  outdated_mark old new place met reading r past =
      record { of = read_added old new place reading r; why = inr (omega (arith, r.is.mark, past)) }

  pub only_read : (old new : Seat S E G) (place : ℕ) (reading : Reading) → HasRead old place reading new → HasOnlyRead old new
  only_read old new place reading r = record { keeps = r.keeps; idle = r.idle; log = r.log }

  pub read_nothing : (a : Seat S E G) → HasOnlyRead a a
  read_nothing a = record { keeps = keeps_itself a; idle = record { holds = refl; done = refl; lost = refl }; log = refl }

  pub read_on : (a b c : Seat S E G) → HasOnlyRead a b → HasOnlyRead b c → HasOnlyRead a c
  read_on a b c p q = record { keeps = keeps_on a b c p.keeps q.keeps; idle = nothing_done a b c p.idle q.idle; log = q.log ∙ p.log }

  -- a read that was added later in a call was added in it
  abbrev pub read_later : (a b c : Seat S E G) (place : ℕ) → Keeps a b → HasReadOf b c place → HasReadOf a c place
  read_later a b c place keeps of =
      record { read = of.read; added = added_since (view_of a).reads (view_of b).reads (view_of c).reads of.read keeps.reads of.added; place_is = of.place_is }

  abbrev pub read_still : (a b c : Seat S E G) (place : ℕ) → HasReadOf a b place → Keeps b c → HasReadOf a c place
  read_still a b c place of keeps =
      record { read = of.read; added = added_still (view_of a).reads (view_of b).reads (view_of c).reads of.read of.added keeps.reads; place_is = of.place_is }

  pub outdated_later : (a b c : Seat S E G) (place met : ℕ) → Keeps a b → IsOutdated b c place met → IsOutdated a c place met
  outdated_later a b c place met keeps o = record { of = read_later a b c place keeps o.of; why = o.why }

  -- reading that ends early in a part of what is named ends early in all that is named
  pub stops_there : (sizes : Sizes) (Named Wider : Position → Type 0) → ((cell : Position) → Named cell → Wider cell)
      → (a b c : Seat S E G) (met : ℕ) (unread : Unread)
      → Keeps a b → StopsReading sizes Named b c met unread → StopsReading sizes Wider a c met unread
  stops_there sizes Named Wider wider a b c met (Outdated cell) keeps s = (wider cell s.0, s.1, outdated_later a b c (place_of sizes cell) met keeps s.2)
  stops_there sizes Named Wider wider a b c met Memory keeps s = s
