-- Words and views of a table, through the change of one of them.
use Rattle.std.proofs.Common.{◌≡◌, ◌≢◌, ◌<◌, ◌+◌, ◌*◌, ◌/◌, ◌%◌, ◌==◌, ◌⊎◌, ℕ, zero, suc, List, [], ◌∷◌, ◌++◌, Some}
use Rattle.std.proofs.Common.{Bool, map, length, get_or, set, get_or-set_same, get_or-set_other, length-append, false}
use Rattle.std.proofs.Common.{true, refl, sym, ◌∙◌, ap, subst, inl, inr, ⊎_elim, arith}
use Rattle.std.specs.Prelude.{slice_index, slice_set}
use Rattle.std.proofs.Math.ListN.{length-set}
use Rattle.std.specs.Prelude.{Contains}
use Rattle.std.proofs.lemmas.List.{get_or_append_left, get_or_push}
use Rattle.std.proofs.lemmas.Bool.{cond_both, eqb-true, eqb-false}
use mathlib.Core.Option.{some, some-injective, some-ne-none}
use lib.ListN.{get_elem?}
use Rattle.atomic_table.proofs.Lists.{at_set, set_else, set_here, at_longer}
use Rattle.mark_core.specs.declared.actors.Edits.{Edits}
use Rattle.mark_core.specs.declared.words.Clean.{Clean}
use Rattle.mark_core.specs.declared.words.Place.{Place}
use Rattle.mark_core.specs.Places.{place_at}
use Rattle.mark_core.specs.Marks.{IsPrefix}
use Rattle.mark_core.specs.States.{State, view_at, spent_view}
use Rattle.mark_words.specs.declared.tables.Doing.{Doing}
use Rattle.mark_words.specs.declared.tables.Made.{Made}
use Rattle.mark_words.specs.declared.tables.OwnStep.{OwnStep}
use Rattle.mark_words.specs.declared.tables.Past.{Past}
use Rattle.mark_words.specs.Words.{word_of_clean, clean_at, shown_place, words_of_places, words_of_state}
use Rattle.mark_words.specs.Rules.{IsRightSeat, IsSpent, past_at, AreGathered, AreSeats, NameSubject}
use Rattle.mark_words.specs.Steps.{steps_of}

-- an element that is there is what a look with any default gives
pub there_or : {X : Type 0} (xs : List X) (i : ℕ) (x d : X) → get_elem? xs i ≡ some x → get_or xs i d ≡ x
there_or [] i x d e = absurd (some-ne-none x (sym e))
there_or (y ∷ xs) zero x d e = some-injective y x e
there_or (y ∷ xs) (suc i) x d e = there_or xs i x d e

-- the same of what a function makes of it
pub there_map : {X Y : Type 0} (f : X → Y) (xs : List X) (ys : List Y) (i : ℕ) (x : X) (d : Y) → map f xs ≡ ys → get_elem? xs i ≡ some x → get_or ys i d ≡ f x
there_map f [] ys i x d same e = absurd (some-ne-none x (sym e))
there_map f (y ∷ xs) ys zero x d same e = ap (λ l. get_or l 0 d) (sym same) ∙ ap f (some-injective y x e)
there_map f (y ∷ xs) ys (suc i) x d same e = ap (λ l. get_or l (suc i) d) (sym same) ∙ there_map f xs (map f xs) i x d refl e

-- the first word stored as it was
pub first_again : (words : List ℕ) (count : ℕ) (rest : List ℕ) → words ≡ count ∷ rest → slice_set words 0 (slice_index words 0) ≡ words
first_again words count rest e =
    subst (λ (l : List ℕ). slice_set l 0 (slice_index l 0) ≡ l) (sym e) refl

-- what holds of each element after one was exchanged
pub each_set : {X : Type 0} (P : ℕ → X → Type 0) (xs : List X) (i : ℕ) (x : X)
    → ((j : ℕ) (y : X) → j ≢ i → get_elem? xs j ≡ some y → P j y) → P i x
    → (j : ℕ) (y : X) → get_elem? (set xs i x) j ≡ some y → P j y
each_set {X} P xs i x others here j y e =
    ⊎_elim
    (λ (t : (j ≡ i) × (x ≡ y)). subst (λ (z : X). P j z) t.1 (subst (λ (k : ℕ). P k x) (sym t.0) here))
    (λ (t : (j ≢ i) × (get_elem? xs j ≡ some y)). others j y t.0 t.1)
    (at_set xs i j x y e)

-- the first word with another count
pub first_set : (words : List ℕ) (count new : ℕ) (rest : List ℕ) → words ≡ count ∷ rest → slice_set words 0 new ≡ new ∷ rest
first_set words count new rest e = ap (λ l. slice_set l 0 new) e

-- an element of a list with one more is the new one or one of the others
pub at_push : {X : Type 0} (xs : List X) (x y : X) (j : ℕ) → get_elem? (xs ++ x ∷ []) j ≡ some y
    → ((j ≡ length xs) × (x ≡ y)) ⊎ (get_elem? xs j ≡ some y)
at_push [] x y zero e = inl (refl, some-injective x y e)
at_push [] x y (suc j) e = absurd (some-ne-none y (sym e))
at_push (z ∷ xs) x y zero e = inr e
at_push (z ∷ xs) x y (suc j) e =
    ⊎_elim
    (λ (t : (j ≡ length xs) × (x ≡ y)). inl (ap suc t.0, t.1))
    (λ (t : get_elem? xs j ≡ some y). inr t)
    (at_push xs x y j e)

-- a list with an element isn't empty
pub some_within : {X : Type 0} (xs : List X) (i : ℕ) (x : X) → get_elem? xs i ≡ some x → i < length xs
some_within [] i x e = absurd (some-ne-none x (sym e))
some_within (y ∷ xs) zero x e = omega arith
some_within (y ∷ xs) (suc i) x e = let lt : i < length xs = some_within xs i x e in omega arith

-- the place of a word, behind the three words of another place
next_word : (place k : ℕ) → 3 * suc place + k ≡ suc (suc (suc (3 * place + k)))
next_word place k = omega arith

-- the word of a mark
pub mark_word : (count : ℕ) (places : List Place) (place : ℕ) → place < length places
    → slice_index (count ∷ words_of_places places) (3 * place + 1) ≡ (place_at places place).mark
mark_word count [] place lt = absurd (omega arith)
mark_word count (p ∷ places) zero lt = refl
mark_word count (p ∷ places) (suc place) lt =
    ap (λ i. slice_index (count ∷ words_of_places (p ∷ places)) i) (next_word place 1) ∙ mark_word p.value places place (omega arith)

-- a mark stored in its word
pub mark_set : (count : ℕ) (places : List Place) (place new : ℕ) → place < length places
    → slice_set (count ∷ words_of_places places) (3 * place + 1) new
    ≡ count ∷ words_of_places (set places place (record (place_at places place) { mark = new }))
mark_set count [] place new lt = absurd (omega arith)
mark_set count (p ∷ places) zero new lt = refl
mark_set count (p ∷ places) (suc place) new lt =
    ap (λ i. slice_set (count ∷ words_of_places (p ∷ places)) i new) (next_word place 1)
    ∙ ap (λ l. count ∷ p.mark ∷ word_of_clean p.clean ∷ l) (mark_set p.value places place new (omega arith))

-- the clean word of a place
pub clean_word : (count : ℕ) (places : List Place) (place : ℕ) → place < length places
    → slice_index (count ∷ words_of_places places) (3 * place + 2) ≡ word_of_clean (place_at places place).clean
clean_word count [] place lt = absurd (omega arith)
clean_word count (p ∷ places) zero lt = refl
clean_word count (p ∷ places) (suc place) lt =
    ap (λ i. slice_index (count ∷ words_of_places (p ∷ places)) i) (next_word place 2) ∙ clean_word p.value places place (omega arith)

-- and its value
pub value_word : (count : ℕ) (places : List Place) (place : ℕ) → place < length places
    → slice_index (count ∷ words_of_places places) (3 * place + 3) ≡ (place_at places place).value
value_word count [] place lt = absurd (omega arith)
value_word count (p ∷ places) zero lt = refl
value_word count (p ∷ places) (suc place) lt =
    ap (λ i. slice_index (count ∷ words_of_places (p ∷ places)) i) (next_word place 3) ∙ value_word p.value places place (omega arith)

-- a clean word stored in its word
pub clean_set : (count : ℕ) (places : List Place) (place : ℕ) (clean : Clean) → place < length places
    → slice_set (count ∷ words_of_places places) (3 * place + 2) (word_of_clean clean)
    ≡ count ∷ words_of_places (set places place (record (place_at places place) { clean = clean }))
clean_set count [] place clean lt = absurd (omega arith)
clean_set count (p ∷ places) zero clean lt = refl
clean_set count (p ∷ places) (suc place) clean lt =
    ap (λ i. slice_set (count ∷ words_of_places (p ∷ places)) i (word_of_clean clean)) (next_word place 2)
    ∙ ap (λ l. count ∷ p.mark ∷ word_of_clean p.clean ∷ l) (clean_set p.value places place clean (omega arith))

-- and a value in its
pub value_set : (count : ℕ) (places : List Place) (place value : ℕ) → place < length places
    → slice_set (count ∷ words_of_places places) (3 * place + 3) value
    ≡ count ∷ words_of_places (set places place (record (place_at places place) { value = value }))
value_set count [] place value lt = absurd (omega arith)
value_set count (p ∷ places) zero value lt = refl
value_set count (p ∷ places) (suc place) value lt =
    ap (λ i. slice_set (count ∷ words_of_places (p ∷ places)) i value) (next_word place 3)
    ∙ ap (λ l. count ∷ p.mark ∷ word_of_clean p.clean ∷ l) (value_set p.value places place value (omega arith))

-- the marks of places, of which one is exchanged for one with its mark
pub marks_stay : (places : List Place) (place : ℕ) (changed : Place) → changed.mark ≡ (place_at places place).mark
    → map (λ (p : Place). p.mark) (set places place changed) ≡ map (λ (p : Place). p.mark) places
marks_stay [] place changed same = refl
marks_stay (p ∷ places) zero changed same = ap (λ m. m ∷ map (λ (q : Place). q.mark) places) same
marks_stay (p ∷ places) (suc place) changed same = ap (λ l. p.mark ∷ l) (marks_stay places place changed same)

-- what holds of a seat stays where edits and places of the state do
pub seat_stays : {S E : Type 0} (core core' : State E) (seat : ℕ) (doing : Doing S E) → core'.edits ≡ core.edits
    → map (λ (p : Place). p.mark) core'.places ≡ map (λ (p : Place). p.mark) core.places → IsRightSeat core seat doing → IsRightSeat core' seat doing
seat_stays {E} core core' seat doing edits marks right =
    record {
      first = right.first;
      editor = λ e.
          let ed = right.editor e in
          record { first = ed.first; edits = ed.edits ∙ sym edits; marks = ed.marks ∙ sym marks };
      shorter = subst (λ (x : Edits E). IsPrefix doing.shorter x.log) (sym edits) right.shorter;
      shorter_length = right.shorter_length;
    }

pub Contains-cons_cases : {X : Type 0} (x : X) (xs : List X) (y : X) → Contains (x ∷ xs) y → (x ≡ y) ⊎ Contains xs y
Contains-cons_cases x xs y (zero, lt, is) = inl is
Contains-cons_cases x xs y (suc k, lt, is) = inr (k, omega arith, is)

map_same : {X Y : Type 0} (f g : X → Y) (xs : List X) → ((x : X) → Contains xs x → f x ≡ g x) → map f xs ≡ map g xs
map_same f g [] same = refl
map_same f g (x ∷ xs) same =
    ap (λ y. y ∷ map f xs) (same x (0, omega arith, refl))
    ∙ ap (λ l. g x ∷ l) (map_same f g xs (λ z among. same z (suc among.0, let lt : among.0 < length xs = among.1 in omega arith, among.2)))

-- a seat that isn't spent
pub not_spent : {S E : Type 0} (seats : List (Doing S E)) (id : ℕ) (doing : Doing S E) → get_elem? seats id ≡ some doing
    → doing.view.spent ≡ false → IsSpent seats id → ⊥
not_spent {S} {E} seats id doing at live was =
    let same : was.doing ≡ doing = some-injective was.doing doing (sym was.there ∙ at) in
    let spent : doing.view.spent ≡ true = ap (λ (d : Doing S E). d.view.spent) (sym same) ∙ was.spent in
    absurd (cc)

spent_apart : {S E : Type 0} (seats : List (Doing S E)) (id n : ℕ) (doing : Doing S E) → get_elem? seats id ≡ some doing
    → doing.view.spent ≡ false → IsSpent seats n → n ≢ id
spent_apart seats id n doing at live was e = not_spent seats id doing at live (subst (λ (i : ℕ). IsSpent seats i) e was)

spent_else : {S E : Type 0} (seats : List (Doing S E)) (id n : ℕ) (after : Doing S E) → n ≢ id → IsSpent seats n → IsSpent (slice_set seats id after) n
spent_else seats id n after apart was = record { doing = was.doing; there = set_else seats id n after apart ∙ was.there; spent = was.spent }

-- the same of a seat where state and events have the same of it
past_same : {E : Type 0} (core core' : State E) (events events' : List (Made E)) (n : ℕ) → view_at core' n ≡ view_at core n
    → steps_of events' n ≡ steps_of events n → past_at core' events' n ≡ past_at core events n
past_same {E} core core' events events' n view steps =
    ap (λ v. (let p : Past E = record { view = v; steps = steps_of events' n } in p)) view
    ∙ ap (λ l. (let p : Past E = record { view = view_at core n; steps = l } in p)) steps

-- what was handed in, where the seats stay spent and what state and events have of them stays
gathered_moves : {S E : Type 0} (core core' : State E) (events events' : List (Made E)) (seats seats' : List (Doing S E)) (pasts : List (Past E))
    → ((n : ℕ) → IsSpent seats n → IsSpent seats' n × (past_at core' events' n ≡ past_at core events n)) → AreGathered core events seats pasts
    → AreGathered core' events' seats' pasts
gathered_moves core core' events events' seats seats' pasts moves g =
    record {
      numbers = g.numbers;
      same = map_same (past_at core' events') (past_at core events) g.numbers (λ n among. (moves n (g.spent n among)).1) ∙ g.same;
      spent = λ n among. (moves n (g.spent n among)).0;
      apart = g.apart;
    }

pub none_gathered : {S E : Type 0} (core : State E) (events : List (Made E)) (seats : List (Doing S E)) → AreGathered core events seats []
none_gathered core events seats = record { numbers = []; same = refl; spent = λ n among. absurd (let lt : among.0 < 0 = among.1 in omega arith); apart = tt }

more_gathered : {S E : Type 0} (core : State E) (events : List (Made E)) (seats : List (Doing S E)) (n : ℕ) (past : Past E) (pasts : List (Past E))
    → IsSpent seats n → past_at core events n ≡ past → (g : AreGathered core events seats pasts) → (Contains g.numbers n → ⊥)
    → AreGathered core events seats (past ∷ pasts)
more_gathered {S} {E} core events seats n past pasts spent same g fresh =
    record {
      numbers = n ∷ g.numbers;
      same = ap (λ p. p ∷ map (past_at core events) g.numbers) same ∙ ap (λ l. past ∷ l) g.same;
      spent = λ m among.
          elim (Contains-cons_cases n g.numbers m among) [
            | inl this ↦ subst (λ (i : ℕ). IsSpent seats i) this spent
            | inr old ↦ g.spent m old
          ];
      apart = (fresh, g.apart);
    }

module _ {S E : Type 0} (core core' : State E) (events events' : List (Made E)) (seats : List (Doing S E)) (are : AreSeats core events seats)
    (id : ℕ) (doing after : Doing S E) (at : get_elem? seats id ≡ some doing) (live : doing.view.spent ≡ false) where
  pub id_within : id < length core.views
  id_within = omega (arith, are.count, some_within seats id doing at)

  -- another seat's view of the state stays
  others_stay : core'.views ≡ slice_set core.views id after.view → (j : ℕ) → j ≢ id → view_at core' j ≡ view_at core j
  others_stay views j apart = ap (λ vs. get_or vs j spent_view) views ∙ get_or-set_other core.views id j after.view spent_view apart

  -- what was handed in stays, since those seats are spent and this one isn't
  gathered_stays : core'.views ≡ slice_set core.views id after.view → ((j : ℕ) → j ≢ id → steps_of events' j ≡ steps_of events j)
      → (pasts : List (Past E)) → AreGathered core events seats pasts → AreGathered core' events' (slice_set seats id after) pasts
  gathered_stays changed steps pasts g =
      gathered_moves core core' events events' seats (slice_set seats id after) pasts
      (λ n spent.
      let apart : n ≢ id = spent_apart seats id n doing at live spent in
      (spent_else seats id n after apart spent, past_same core core' events events' n (others_stay changed n apart) (steps n apart))) g

  -- the seats after a change of one, whose view alone has made steps
  pub seat_changes : core'.views ≡ slice_set core.views id after.view → ((j : ℕ) → j ≢ id → steps_of events' j ≡ steps_of events j)
      → after.gathered ≡ doing.gathered
      → ((j : ℕ) (u : Doing S E) → j ≢ id → IsRightSeat core j u → IsRightSeat core' j u) → IsRightSeat core' id after
      → AreSeats core' events' (slice_set seats id after)
  seat_changes views steps gathered others here =
      record {
        count = ap length views ∙ length-set core.views id after.view ∙ are.count ∙ sym (length-set seats id after);
        views =
            each_set (λ j u. (u.view.spent ≡ false → view_at core' j ≡ u.view)) seats id after
            (λ j u apart e live'. others_stay views j apart ∙ are.views j u e live')
            (λ live'. ap (λ vs. get_or vs id spent_view) views ∙ get_or-set_same core.views id after.view spent_view id_within);
        each = each_set (IsRightSeat core') seats id after (λ j u apart e. others j u apart (are.each j u e)) here;
        gathered =
            each_set (λ j u. AreGathered core' events' (slice_set seats id after) u.gathered) seats id after
            (λ j u apart e. gathered_stays views steps u.gathered (are.gathered j u e))
            (subst (λ l. AreGathered core' events' (slice_set seats id after) l) (sym gathered)
            (gathered_stays views steps doing.gathered (are.gathered id doing at)));
      }

-- the seats with one more
pub seat_added : {S E : Type 0} (core core' : State E) (events events' : List (Made E)) (seats : List (Doing S E))
    (new : Doing S E) → AreSeats core events seats
    → core'.views ≡ core.views ++ new.view ∷ [] → ((j : ℕ) → steps_of events' j ≡ steps_of events j) → new.gathered ≡ []
    → ((j : ℕ) (u : Doing S E) → IsRightSeat core j u → IsRightSeat core' j u) → IsRightSeat core' (length seats) new
    → AreSeats core' events' (seats ++ new ∷ [])
seat_added {S} {E} core core' events events' seats new are views steps none others here =
    record {
      count = ap length views ∙ length-append core.views (new.view ∷ []) ∙ ap (λ n. n + 1) are.count ∙ sym (length-append seats (new ∷ []));
      views = λ j u e live.
          ⊎_elim
          (λ (n : (j ≡ length seats) × (new ≡ u)).
          ap (λ vs. get_or vs j spent_view) views
          ∙ get_or_push core.views new.view spent_view j (are.count ∙ sym n.0)
          ∙ ap (λ (d : Doing S E). d.view) n.1)
          (λ (old : get_elem? seats j ≡ some u). front j (some_within seats j u old) ∙ are.views j u old live)
          (at_push seats new u j e);
      each = λ j u e.
          ⊎_elim
          (λ (n : (j ≡ length seats) × (new ≡ u)). subst (λ (d : Doing S E). IsRightSeat core' j d) n.1 (subst (λ i. IsRightSeat core' i new) (sym n.0) here))
          (λ (old : get_elem? seats j ≡ some u). others j u (are.each j u old))
          (at_push seats new u j e);
      gathered = λ j u e.
          ⊎_elim
          (λ (n : (j ≡ length seats) × (new ≡ u)).
          subst (λ (d : Doing S E). AreGathered core' events' (seats ++ new ∷ []) d.gathered) n.1
          (subst (λ l. AreGathered core' events' (seats ++ new ∷ []) l) (sym none) (none_gathered core' events' (seats ++ new ∷ []))))
          (λ (old : get_elem? seats j ≡ some u).
          gathered_moves core core' events events' seats (seats ++ new ∷ []) u.gathered
          (λ n spent. (
            record { doing = spent.doing; there = at_longer seats (new ∷ []) n spent.doing spent.there; spent = spent.spent },
            past_same core core' events events' n (front n (some_within seats n spent.doing spent.there)) (steps n),
          ))
          (are.gathered j u old))
          (at_push seats new u j e);
    }
  where
    front : (j : ℕ) → j < length seats → view_at core' j ≡ view_at core j
    front j lt = ap (λ vs. get_or vs j spent_view) views ∙ get_or_append_left core.views (new.view ∷ []) spent_view j (omega (arith, are.count))

-- the seats after one was handed in to another, which has its view from then on: the state keeps its view
module _ {S E : Type 0} (core : State E) (events : List (Made E)) (seats : List (Doing S E)) (are : AreSeats core events seats)
    (id other : ℕ) (doing note spent : Doing S E) (steps : List (OwnStep E)) (made : steps ≡ steps_of events other)
    (at : get_elem? seats id ≡ some doing) (live : doing.view.spent ≡ false)
    (there : get_elem? seats other ≡ some note) (live' : note.view.spent ≡ false) (apart : other ≢ id) where
  abbrev after : Doing S E
  after = record doing { gathered = record { view = note.view; steps = steps } ∷ doing.gathered }

  abbrev seats' : List (Doing S E)
  seats' = slice_set (slice_set seats id after) other spent

  -- what holds of each seat then
  each_gathers : (P : ℕ → Doing S E → Type 0) → ((j : ℕ) (u : Doing S E) → get_elem? seats j ≡ some u → P j u) → P id after → P other spent
      → (j : ℕ) (u : Doing S E) → get_elem? seats' j ≡ some u → P j u
  each_gathers P old here gone =
      each_set P (slice_set seats id after) other spent
      (λ j u differs e. each_set P seats id after (λ j' u' differs' e'. old j' u' e') here j u e)
      gone

  still_gathered : (pasts : List (Past E)) → AreGathered core events seats pasts → AreGathered core events seats' pasts
  still_gathered pasts g =
      gathered_moves core core events events seats seats' pasts
      (λ n was. (
        spent_else (slice_set seats id after) other n spent (spent_apart seats other n note there live' was)
            (spent_else seats id n after (spent_apart seats id n doing at live was) was),
        refl,
      )) g

  pub seat_gathers : spent.view.spent ≡ true → spent.gathered ≡ [] → IsRightSeat core other spent
      → AreSeats core events
      (slice_set (slice_set seats id (record doing {
        gathered = record { view = note.view; steps = steps }
            ∷ doing.gathered;
      })) other spent)
  unfolding still_gathered gathered_moves
  seat_gathers off none gone =
      let right : IsRightSeat core id doing = are.each id doing at in
      let before = are.gathered id doing at in
      record {
        count = are.count ∙ sym (length-set seats id after) ∙ sym (length-set (slice_set seats id after) other spent);
        views = each_gathers (λ j u. (u.view.spent ≡ false → view_at core j ≡ u.view)) are.views (λ on. are.views id doing at on) (λ on. absurd (cc));
        each =
            each_gathers (IsRightSeat core) are.each
            (record {
              first = right.first;
              editor = λ on. let ed = right.editor on in record { first = ed.first; edits = ed.edits; marks = ed.marks };
              shorter = right.shorter;
              shorter_length = right.shorter_length;
            })
            gone;
        gathered =
            each_gathers (λ j u. AreGathered core events seats' u.gathered) (λ j u e. still_gathered u.gathered (are.gathered j u e))
            (more_gathered core events seats' other (record { view = note.view; steps = steps }) doing.gathered
            (record {
              doing = spent;
              there = set_here (slice_set seats id after) other spent (some_within (slice_set seats id after) other
                  note (set_else seats id other after apart ∙ there));
              spent = off;
            })
            (ap (λ v. (let p : Past E = record { view = v; steps = steps_of events other } in p)) (are.views other note there live')
            ∙ ap (λ l. (let p : Past E = record { view = note.view; steps = l } in p)) (sym made))
            (still_gathered doing.gathered before)
            (λ among. not_spent seats other note there live' (before.spent other among)))
            (subst (λ l. AreGathered core events seats' l) (sym none) (none_gathered core events seats'));
      }

-- each seat still names the subject where one was exchanged
pub subject_set : {S E : Type 0} (subject : S) (seats : List (Doing S E)) (id : ℕ) (after : Doing S E) → NameSubject subject seats
    → (after.view.spent ≡ false → after.subject ≡ Some subject) → NameSubject subject (slice_set seats id after)
subject_set subject seats id after name here =
    each_set (λ j u. (u.view.spent ≡ false → u.subject ≡ Some subject)) seats id after (λ j u apart e. name j u e) here

-- and where one was added
pub subject_added : {S E : Type 0} (subject : S) (seats : List (Doing S E)) (new : Doing S E) → NameSubject subject seats
    → new.subject ≡ Some subject → NameSubject subject (seats ++ new ∷ [])
subject_added {S} {E} subject seats new name here j u e live =
    ⊎_elim
    (λ (n : (j ≡ length seats) × (new ≡ u)). ap (λ (d : Doing S E). d.subject) (sym n.1) ∙ here)
    (λ (old : get_elem? seats j ≡ some u). name j u old live)
    (at_push seats new u j e)

-- a clean word is what its word stands for
clean_at-code_of_parts : (upto : ℕ) (held : Bool) → (let c : Clean = record { upto = upto; held = held } in clean_at (word_of_clean c) ≡ c)
clean_at-code_of_parts upto true =
    let half : (2 * upto + 1) / 2 ≡ upto = omega arith in
    let odd : (2 * upto + 1) % 2 ≡ 1 = omega arith in
    ap (λ n. (let c : Clean = record { upto = n; held = (2 * upto + 1) % 2 == 1 } in c)) half
    ∙ ap (λ n. (let c : Clean = record { upto = upto; held = n == 1 } in c)) odd
clean_at-code_of_parts upto false =
    let half : 2 * upto / 2 ≡ upto = omega arith in
    let even : 2 * upto % 2 ≡ 0 = omega arith in
    ap (λ n. (let c : Clean = record { upto = n; held = 2 * upto % 2 == 1 } in c)) half
    ∙ ap (λ n. (let c : Clean = record { upto = upto; held = n == 1 } in c)) even

pub clean_at-code_of : (clean : Clean) → clean_at (word_of_clean clean) ≡ clean
clean_at-code_of clean = clean_at-code_of_parts clean.upto clean.held

-- each word is that of the clean word which it stands for
pub code_of-clean_at : (word : ℕ) → word_of_clean (clean_at word) ≡ word
code_of-clean_at word =
    cond_both (word % 2 == 1) (2 * (word / 2) + 1) (2 * (word / 2)) (λ n. n ≡ word)
    (λ e. let odd : word % 2 ≡ 1 = eqb-true (word % 2) 1 e in omega arith)
    (λ e. let even : word % 2 ≢ 1 = eqb-false (word % 2) 1 e in omega arith)

-- the words of a place, behind those of another one
shown_next : (a b c : ℕ) (words : List ℕ) (place : ℕ) → shown_place (a ∷ b ∷ c ∷ words) (suc place) ≡ shown_place words place
shown_next a b c words place =
    let all : List ℕ = a ∷ b ∷ c ∷ words in
    let put : ℕ → ℕ → ℕ → Place = λ i j k. record { mark = slice_index all i; clean = clean_at (slice_index all j); value = slice_index all k } in
    ap (λ i. put i (3 * suc place + 2) (3 * suc place + 3)) (next_word place 1)
    ∙ ap (λ j. put (suc (suc (suc (3 * place + 1)))) j (3 * suc place + 3)) (next_word place 2)
    ∙ ap (λ k. put (suc (suc (suc (3 * place + 1)))) (suc (suc (suc (3 * place + 2)))) k) (next_word place 3)

-- the words of a list of places show the places
pub shown_same : (count : ℕ) (places : List Place) (place : ℕ) → place < length places
    → shown_place (count ∷ words_of_places places) place ≡ place_at places place
shown_same count [] place lt = absurd (omega arith)
shown_same count (p ∷ places) zero lt =
    ap (λ c. (let q : Place = record { mark = p.mark; clean = c; value = p.value } in q)) (clean_at-code_of p.clean)
shown_same count (p ∷ places) (suc place) lt =
    shown_next count p.mark (word_of_clean p.clean) (p.value ∷ words_of_places places) place ∙ shown_same p.value places place (omega arith)

-- the words of a table are those of its state
pub words_shown : {E : Type 0} (words : List ℕ) (s : State E) (places : ℕ) → length s.places ≡ places → words ≡ words_of_state s
    → (slice_index words 0 ≡ length s.edits.log)
    × ((place : ℕ) → place < places
    → (slice_index words (3 * place + 1) ≡ (place_at s.places place).mark)
    × (clean_at (slice_index words (3 * place + 2)) ≡ (place_at s.places place).clean)
    × (slice_index words (3 * place + 3) ≡ (place_at s.places place).value))
words_shown {E} words s places count is = (
  ap (λ ws. slice_index ws 0) is,
  λ place lt.
      let there : place < length s.places = omega (arith, lt, count) in (
        ap (λ ws. slice_index ws (3 * place + 1)) is ∙ mark_word (length s.edits.log) s.places place there,
        ap (λ ws. clean_at (slice_index ws (3 * place + 2))) is ∙ ap clean_at (clean_word (length s.edits.log) s.places place there)
            ∙ clean_at-code_of (place_at s.places place).clean,
        ap (λ ws. slice_index ws (3 * place + 3)) is ∙ value_word (length s.edits.log) s.places place there,
      ),
)
