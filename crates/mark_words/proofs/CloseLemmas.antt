-- The seats that are handed in, one after the other, and what the closed table shows.
use Rattle.std.proofs.Common.{◌≡◌, ◌<◌, ℕ, suc, List, [], ◌∷◌, ◌++◌, length, map, true, false, refl, sym, ◌∙◌, ap}
use Rattle.std.proofs.Common.{subst, inl, inr, arith, length-append, append_assoc}
use Rattle.std.specs.Prelude.{All, Contains}
use Rattle.std.specs.Mem.Slots.{slots_items}
use Rattle.std.proofs.lemmas.List.{get_or_append_left, get_or_push, map-append}
use Rattle.std.proofs.lemmas.List.Elements.{All-contains}
use mathlib.Core.Option.{some}
use lib.ListN.{get_elem?}
use Rattle.atomic_table.specs.Seated.{TableId}
use Rattle.atomic_table.specs.Table.{State as TableState, Me}
use Rattle.atomic_table.specs.declared.shared.Seat.{Seat as TableSeat}
use Rattle.mark_core.specs.declared.actors.Edits.{Edits}
use Rattle.mark_core.specs.declared.actors.View.{View}
use Rattle.mark_core.specs.Marks.{IsPrefix}
use Rattle.mark_core.specs.Places.{words_of}
use Rattle.mark_core.specs.States.{State, view_at}
use Rattle.mark_core.specs.Runs.{IsCodeless}
use Rattle.mark_core.specs.Legal.{IsLegalRead}
use Rattle.mark_core.specs.Honest.{IsRightRead}
use Rattle.mark_core.specs.declared.subjects.Subject.{Ghosts}
use Rattle.mark_words.specs.declared.tables.History.{History}
use Rattle.mark_words.specs.declared.tables.Past.{Past}
use Rattle.mark_words.specs.declared.marks.Marks.{Marks}
use Rattle.mark_words.specs.declared.seats.Seat.{Seat}
use Rattle.mark_words.specs.declared.closing.Words.{Words}
use Rattle.mark_words.specs.Words.{shown_place}
use Rattle.mark_words.specs.Doing.{gather_history}
use Rattle.mark_words.specs.Tokens.{subject_of, topic_of, places_of, seat_table, own_steps, view_of, log_of, edits_of, closed_places, closed_log}
use Rattle.mark_words.specs.Rules.{HaveNoRepeats, past_at, IsKeptTable, IsEditor, IsSpent, AreGathered, doings_of}
use Rattle.mark_words.specs.Steps.{steps_of}
use Rattle.mark_words.specs.Closed.{HasClosed, ArePrefixes, AreLegal}
use Rattle.mark_words.proofs.TableLemmas.{Contains-cons_cases, not_spent, shown_same}
use Rattle.mark_words.proofs.StepLemmas.{doing_at}
use Rattle.mark_words.proofs.OrderLemmas.{tail_of, head_or}
use Rattle.mark_words.proofs.RunLemmas.{honest_state, same_view, same_steps, seat_right}

pub all_front : {X : Type 0} (P : X → Type 0) (xs ys : List X) (x : X) → ys ≡ xs ++ x ∷ [] → All P ys → All P xs
all_front {X} P xs ys x is all =
    let whole : All P (xs ++ x ∷ []) = subst (λ (l : List X). All P l) is all in
    λ k d lt. subst P (get_or_append_left xs (x ∷ []) d k lt) (whole k d (omega (arith, length-append xs (x ∷ []))))

pub all_last : {X : Type 0} (P : X → Type 0) (xs ys : List X) (x : X) → ys ≡ xs ++ x ∷ [] → All P ys → P x
all_last {X} P xs ys x is all =
    let whole : All P (xs ++ x ∷ []) = subst (λ (l : List X). All P l) is all in
    subst P (get_or_push xs x x (length xs) refl) (whole (length xs) x (omega (arith, length-append xs (x ∷ []))))

pub no_items : {X : Type 0} (xs : List X) → length xs ≡ 0 → xs ≡ []
no_items [] none = refl
no_items (x ∷ xs) none = absurd (omega arith)

-- the last of some views goes before those that were handed in
views_handed : {X V : Type 0} (f : X → V) (xs ys : List X) (x : X) (gathered : List V) → ys ≡ xs ++ x ∷ [] → map f xs ++ f x ∷ gathered ≡ map f ys ++ gathered
views_handed f xs ys x gathered is =
    sym (append_assoc (map f xs) (f x ∷ []) gathered)
    ∙ ap (λ l. l ++ gathered) (sym (map-append f xs (x ∷ [])))
    ∙ ap (λ l. map f l ++ gathered) (sym is)

map_of : {X V W : Type 0} (f : X → V) (h : V → W) (xs : List X) → map h (map f xs) ≡ map (λ x. h (f x)) xs
map_of f h [] = refl
map_of f h (x ∷ xs) = ap (λ l. h (f x) ∷ l) (map_of f h xs)

-- the numbers of the first views of a list
numbers_front : {V : Type 0} (f : ℕ → V) (numbers : List ℕ) (vs ws : List V) → map f numbers ≡ vs ++ ws → HaveNoRepeats numbers
    → (front : List ℕ) × (map f front ≡ vs) × HaveNoRepeats front × ((n : ℕ) → Contains front n → Contains numbers n)
numbers_front f numbers [] ws same apart = ([], refl, tt, λ n among. absurd (let lt : among.0 < 0 = among.1 in omega arith))
numbers_front f [] (v ∷ vs) ws same apart = absurd (let none : 0 ≡ suc (length (vs ++ ws)) = ap length same in omega arith)
numbers_front {V} f (m ∷ numbers) (v ∷ vs) ws same apart =
    let rest = numbers_front f numbers vs ws (ap (λ (l : List V). tail_of l) same) apart.1 in (
      m ∷ rest.0,
      ap (λ l. f m ∷ l) rest.1 ∙ ap (λ x. x ∷ vs) (ap (λ (l : List V). head_or (f m) l) same),
      (λ among. apart.0 (rest.3 m among), rest.2),
      λ n among.
          elim (Contains-cons_cases m rest.0 n among) [
            | inl this ↦ (0, omega arith, this)
            | inr old ↦ let was = rest.3 n old in (suc was.0, let lt : was.0 < length numbers = was.1 in omega arith, was.2)
          ],
    )

-- parts of two lists that are one
parts : {X Y V W : Type 0} (f : X → V) (g : Y → V) (h : V → W) (xs : List X) (ys : List Y) → map f xs ≡ map g ys → map (λ x. h (f x)) xs ≡ map (λ y. h (g y)) ys
parts f g h xs ys same = sym (map_of f h xs) ∙ ap (map h) same ∙ map_of g h ys

-- which view of the state a seat has that was handed in
pub number_of : {X V : Type 0} (f : ℕ → V) (g : X → V) (numbers : List ℕ) (xs : List X) (y : X)
    → map f numbers ≡ map g xs → Contains xs y → (n : ℕ) × (f n ≡ g y)
number_of f g numbers [] y same among = absurd (let lt : among.0 < 0 = among.1 in omega arith)
number_of f g [] (x ∷ xs) y same among = absurd (let none : 0 ≡ suc (length (map g xs)) = ap length same in omega arith)
number_of {X} {V} f g (n ∷ numbers) (x ∷ xs) y same among =
    elim (Contains-cons_cases x xs y among) [
      | inl this ↦ (n, ap (λ (l : List V). head_or (f n) l) same ∙ ap g this)
      | inr old ↦ number_of f g numbers xs y (ap (λ (l : List V). tail_of l) same) old
    ]

-- what a seat knows and did when it is handed in
abbrev pub past_of : {S E : Type 0} {G : Ghosts S E} → Seat S E G → Past E
past_of seat = record { view = view_of seat; steps = own_steps seat }

-- The editor's seat while the others are handed in to it: it knows what it knew at first, and what those knew and did
-- that are still to be handed in stands before that of those that were.
pub record IsHanding {S E : Type 0} {G : Ghosts S E} (table : TableId) (first : History S E) (start : List (Seat S E G))
    (all : TableSeat E (History S E)) (others : List (Seat S E G)) : Type 0 where
  pub same_table : all.table_id ≡ table
  pub bare : all.me.1 ≡ []
  pub live : all.me.0.doing.view.spent ≡ false
  pub editor : all.me.0.doing.editor ≡ true
  pub view : all.me.0.doing.view ≡ first.doing.view
  pub edits : all.me.0.doing.edits ≡ first.doing.edits
  pub steps : all.me.0.steps ≡ first.steps
  pub tables : All (λ other. seat_table other ≡ table) others
  pub pasts : map past_of others ++ all.me.0.doing.gathered ≡ map past_of start ++ first.doing.gathered

-- and so it is after one more
pub handed : {S E : Type 0} {G : Ghosts S E} (table : TableId) (first : History S E) (start : List (Seat S E G))
    (all all' : TableSeat E (History S E)) (others others' : List (Seat S E G)) (last : Seat S E G)
    → IsHanding table first start all others → others ≡ others' ++ last ∷ [] → all'.table_id ≡ all.table_id
    → all'.me ≡ (gather_history all.me.0 last.seat.me.0, all.me.1) → IsHanding table first start all' others'
handed {S} {E} {G} table first start all all' others others' last inv is same made =
    record {
      same_table = same ∙ inv.same_table;
      bare = ap (λ (m : Me E (History S E)). m.1) made ∙ inv.bare;
      live = ap (λ (m : Me E (History S E)). m.0.doing.view.spent) made ∙ inv.live;
      editor = ap (λ (m : Me E (History S E)). m.0.doing.editor) made ∙ inv.editor;
      view = ap (λ (m : Me E (History S E)). m.0.doing.view) made ∙ inv.view;
      edits = ap (λ (m : Me E (History S E)). m.0.doing.edits) made ∙ inv.edits;
      steps = ap (λ (m : Me E (History S E)). m.0.steps) made ∙ inv.steps;
      tables = all_front (λ (other : Seat S E G). seat_table other ≡ table) others' others last is inv.tables;
      pasts =
          ap (λ l. map past_of others' ++ l) (ap (λ (m : Me E (History S E)). m.0.doing.gathered) made)
          ∙ views_handed past_of others' others last all.me.0.doing.gathered is ∙ inv.pasts;
    }

module _ {S E : Type 0} {G : Ghosts S E} (places : S → ℕ) (worth : S → List E → ℕ → ℕ) (touches : S → List E → E → ℕ → Type 0)
    (marks : Marks S E) (editor : Seat S E G) (others : List (Seat S E G)) (words : Words S E G) where
  module _ (t : TableState E (History S E)) (kept : IsKeptTable (subject_of marks) (places (subject_of marks))
      (worth (subject_of marks)) (touches (subject_of marks)) (topic_of marks).opening.value t)
      (id : ℕ) (seat : History S E) (at : get_elem? t.views id ≡ some seat) (live : seat.doing.view.spent ≡ false) (on : seat.doing.editor ≡ true) where
    pub closes : ((log : List E) (entry : E) (place : ℕ) → place < places (subject_of marks) → (touches (subject_of marks) log entry place → ⊥)
        → worth (subject_of marks) (log ++ entry ∷ []) place ≡ worth (subject_of marks) log place)
        → t.words ≡ slots_items words.closed.words → seat.doing.view ≡ view_of editor → seat.doing.edits ≡ edits_of editor → seat.steps ≡ own_steps editor
        → log_of editor ≡ (edits_of editor).log → closed_places words ≡ places_of marks → closed_log words ≡ log_of editor
        → (before : List (Past E)) → seat.doing.gathered ≡ map past_of others ++ before
        → HasClosed places worth touches marks editor others words
    closes untouched is view edits steps knows about log before handed =
        let core : State E = kept.core in
        let honest = honest_state (subject_of marks) (places (subject_of marks)) (worth (subject_of marks))
        (touches (subject_of marks)) (topic_of marks).opening.value t kept untouched in
        let places' : ℕ = places (subject_of marks) in
        let worth' = worth (subject_of marks) in
        let touches' = touches (subject_of marks) in
        let opening = (topic_of marks).opening.value in
        let ed : IsEditor core id seat.doing = (seat_right (subject_of marks) places' worth' touches' opening t kept id seat at).editor on in
        let there = doing_at t.views id seat at in
        let gathered : AreGathered core kept.events (doings_of t.views) seat.doing.gathered = kept.seats.gathered id seat.doing there in
        let front = numbers_front (past_at core kept.events) gathered.numbers (map past_of others) before (gathered.same ∙ handed) gathered.apart in
        record {
          same_count = about;
          same_log = log;
          core = core;
          events = kept.events;
          run = kept.run;
          honest = honest;
          sized = omega (arith, about, honest.count, kept.right.count);
          same_places = λ place there.
              ap (λ ws. shown_place ws place) (sym is ∙ kept.words)
              ∙ shown_same (length core.edits.log) core.places place
              (omega (arith, there, about, honest.count, kept.right.count));
          edits = sym ed.edits ∙ edits;
          log = ap (λ (x : Edits E). x.log) (sym ed.edits ∙ edits) ∙ sym knows ∙ sym log;
          editor_view = ap (λ i. view_at core i) (sym ed.first) ∙ same_view (subject_of marks) places' worth' touches' opening t kept id seat at live ∙ view;
          editor_steps = ap (λ i. steps_of kept.events i) (sym ed.first)
              ∙ sym (same_steps (subject_of marks) places' worth' touches' opening t kept id seat at live) ∙ steps;
          numbers = front.0;
          other_views = parts (past_at core kept.events) past_of (λ (p : Past E). p.view) front.0 others front.1;
          other_steps = parts (past_at core kept.events) past_of (λ (p : Past E). p.steps) front.0 others front.1;
          apart = (
            λ zero. not_spent (doings_of t.views) id seat.doing there live
                (subst (λ (i : ℕ). IsSpent (doings_of t.views) i) (sym ed.first) (gathered.spent 0 (front.3 0 zero))),
            front.2,
          );
        }

  module _ (closed : HasClosed places worth touches marks editor others words) where
    -- each seat that was handed in has a view of the state
    view_closed : (seat : Seat S E G) → Contains (editor ∷ others) seat → (n : ℕ) × (view_at closed.core n ≡ view_of seat)
    view_closed seat among =
        elim (Contains-cons_cases editor others seat among) [
          | inl this ↦ (0, closed.editor_view ∙ ap (λ (s : Seat S E G). view_of s) this)
          | inr other ↦ number_of (view_at closed.core) view_of closed.numbers others seat closed.other_views other
        ]

    pub prefixes_closed : ArePrefixes others words
    prefixes_closed other among =
        let n = number_of (view_at closed.core) view_of closed.numbers others other closed.other_views among in
        subst (λ (l : List E). IsPrefix (log_of other) l) closed.log
        (subst (λ (v : View (List E)). IsPrefix v.log closed.core.edits.log) n.1 (closed.honest.views n.0).log.known_prefix)

    pub legal_closed : AreLegal worth touches marks editor (editor ∷ others)
    legal_closed seat read word among read_among had =
        let n = view_closed seat among in
        let right : IsRightRead (worth (subject_of marks)) (touches (subject_of marks))
        (IsCodeless (topic_of marks).opening.value) closed.core.edits (words_of closed.core.places) read =
        All-contains (IsRightRead (worth (subject_of marks)) (touches (subject_of marks))
        (IsCodeless (topic_of marks).opening.value) closed.core.edits (words_of closed.core.places))
        (view_at closed.core n.0).reads read (closed.honest.views n.0).reads (subst (λ (v : View (List E)). Contains v.reads read) (sym n.1) read_among) in
        subst (λ (x : Edits E). IsLegalRead (worth (subject_of marks)) (touches (subject_of marks))
        (IsCodeless (topic_of marks).opening.value) x read word) closed.edits
        (right.legal word had)
