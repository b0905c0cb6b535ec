-- What is so of the first desks while they are gone through, one after the other.
use Rattle.std.proofs.Common.{◌≡◌, ◌≢◌, ◌⊎◌, inl, inr, ◌<◌, ◌≤◌, ◌+◌, ℕ, Bool, true, false, true≢false, List, length}
use Rattle.std.proofs.Common.{get_or, set, refl, sym, ◌∙◌, ap, subst, arith}
use Rattle.std.specs.Prelude.{◌||◌}
use Rattle.std.proofs.lemmas.List.{get_or-set_same, get_or-set_other, length-set, get_or_default}
use Rattle.std.proofs.lemmas.Bool.{cases_eq}
use Rattle.std.proofs.lemmas.List.Elements.{All-get_or}
use Rattle.mark_core.specs.declared.subjects.Subject.{Ghosts}
use Rattle.mark_words.specs.declared.marks.Marks.{Marks}
use Rattle.mark_words.specs.declared.seats.Seat.{Seat}
use Rattle.mark_words.specs.Tokens.{IsSeatOf, view_of, is_editor}
use Rattle.recalc_workers.specs.declared.desk.Desk.{Desk}
use Rattle.recalc_workers.specs.Desks.{seat_of, wants_memory}
use Rattle.recalc_workers.specs.Settling.{AreDesksOf, Each, IsDeskAfter, IsLent, KnowsOf, KeepsEditor, KnowsNoLess}
use Rattle.recalc_workers.proofs.SeatLemmas.{keeps_itself, keeps_on, nothing_done}
use Rattle.recalc_workers.proofs.SettlingLemmas.{no_less, no_less_on}

-- so many of the first have changed, and the others have not
pub record FirstChanged {X : Type 0} (Change : X → X → Type 0) (old new : List X) (n : ℕ) : Type 0 where
  pub count : length new ≡ length old
  pub first : (place : ℕ) (x : X) → place < n → place < length old → Change (get_or old place x) (get_or new place x)
  pub rest : (place : ℕ) (x : X) → n ≤ place → get_or new place x ≡ get_or old place x

-- where a disjunction is false, both parts are
or_false : (a b : Bool) → (a || b) ≡ false → (a ≡ false) × (b ≡ false)
or_false true b e = absurd (true≢false e)
or_false false b e = (refl, e)

module _ {X : Type 0} (Change : X → X → Type 0) where
  pub none_changed : (xs : List X) → FirstChanged Change xs xs 0
  none_changed xs = record { count = refl; first = λ place x below. absurd (omega arith); rest = λ place x from. refl }

  pub one_changed : (old new : List X) (n : ℕ) (d y : X) → FirstChanged Change old new n → n < length old → Change (get_or new n d) y
      → FirstChanged Change old (set new n y) (n + 1)
  one_changed old new n d y so inside change =
      record {
        count = length-set new n y ∙ so.count;
        first = λ place x below within. by_place place x below within (cases_eq place n);
        rest = λ place x from. get_or-set_other new n place y x (λ same. omega arith) ∙ so.rest place x (omega arith);
      }
    where
      by_place : (place : ℕ) (x : X) → place < n + 1 → place < length old → (place ≡ n) ⊎ (place ≢ n)
          → Change (get_or old place x) (get_or (set new n y) place x)
      by_place place x below within (inl same) =
          subst (λ (k : ℕ). Change (get_or old k x) (get_or (set new n y) k x)) (sym same)
          (subst (λ (z : X × X). Change z.0 z.1)
          (λ i. (
            (get_or_default new n d x (omega (arith, so.count)) ∙ so.rest n x (omega arith)) i,
            sym (get_or-set_same new n y x (omega (arith, so.count))) i,
          )) change)
      by_place place x below within (inr other) =
          subst (λ (z : X). Change (get_or old place x) z) (sym (get_or-set_other new n place y x other)) (so.first place x (omega arith) within)

  pub all_changed : (old new : List X) (n : ℕ) → FirstChanged Change old new n → length old ≤ n → Each Change old new
  all_changed old new n so all = (so.count, λ place x within. so.first place x (omega arith) within)

module _ {S E : Type 0} {G : Ghosts S E} where
  keeps_editor_itself : (a : Seat S E G) → KeepsEditor a a
  keeps_editor_itself a =
      record {
        keeps = keeps_itself a;
        idle = record { holds = refl; done = refl; lost = refl };
        log = refl;
        edits = refl;
        editor = refl;
      }

  pub keeps_editor_on : (a b c : Seat S E G) → KeepsEditor a b → KeepsEditor b c → KeepsEditor a c
  keeps_editor_on a b c p q =
      record {
        keeps = keeps_on a b c p.keeps q.keeps;
        idle = nothing_done a b c p.idle q.idle;
        log = q.log ∙ p.log;
        edits = q.edits ∙ p.edits;
        editor = q.editor ∙ p.editor;
      }

  -- the editor knows no less than it did
  pub editor_knows : (a b : Seat S E G) → KeepsEditor a b → KnowsNoLess (view_of a) (view_of b)
  editor_knows a b kept = no_less (view_of a) (view_of b) kept.log kept.keeps.known

  -- the editor's seat and the desks as they were, where so many of the first have changed
  pub record GoneThrough (marks : Marks S E) (Change : Desk S E G → Desk S E G → Type 0) (editor₀ editor : Seat S E G)
      (old new : List (Desk S E G)) (n : ℕ) : Type 0 where
    pub table : IsSeatOf marks editor
    pub editor_is : is_editor editor ≡ true
    pub kept : KeepsEditor editor₀ editor
    pub desks : AreDesksOf marks old
    pub changed : FirstChanged Change old new n

  pub begins : (marks : Marks S E) (Change : Desk S E G → Desk S E G → Type 0) (editor : Seat S E G) (desks : List (Desk S E G))
      → IsSeatOf marks editor → is_editor editor ≡ true → AreDesksOf marks desks → GoneThrough marks Change editor editor desks desks 0
  begins marks Change editor desks table is all =
      record { table = table; editor_is = is; kept = keeps_editor_itself editor; desks = all; changed = none_changed Change desks }

  -- the next desk is of the table
  pub next_of_table : (marks : Marks S E) (Change : Desk S E G → Desk S E G → Type 0) (editor₀ editor : Seat S E G)
      (old new : List (Desk S E G)) (n : ℕ) (d : Desk S E G)
      → GoneThrough marks Change editor₀ editor old new n → n < length old → IsSeatOf marks (seat_of (get_or new n d))
  next_of_table marks Change editor₀ editor old new n d gone inside =
      subst (λ (desk : Desk S E G). IsSeatOf marks (seat_of desk)) (sym (gone.changed.rest n d (omega arith)))
      (All-get_or (λ (desk : Desk S E G). IsSeatOf marks (seat_of desk)) old n d inside gone.desks)

  -- and after it is gone through
  pub goes_on : (marks : Marks S E) (Change : Desk S E G → Desk S E G → Type 0) (editor₀ editor editor₁ : Seat S E G)
      (old new : List (Desk S E G)) (n : ℕ) (d desk : Desk S E G)
      → GoneThrough marks Change editor₀ editor old new n → n < length old → IsSeatOf marks editor₁ → KeepsEditor editor editor₁
      → Change (get_or new n d) desk
      → GoneThrough marks Change editor₀ editor₁ old (set new n desk) (n + 1)
  goes_on marks Change editor₀ editor editor₁ old new n d desk gone inside table kept change =
      record {
        table = table;
        editor_is = kept.editor ∙ gone.editor_is;
        kept = keeps_editor_on editor₀ editor editor₁ gone.kept kept;
        desks = gone.desks;
        changed = one_changed Change old new n d desk gone.changed inside change;
      }

  -- a desk that knows what the editor's seat knows by now, knows what it knew before
  pub lent_still : (marks : Marks S E) (editor₀ editor : Seat S E G) (old new : Desk S E G) → KeepsEditor editor₀ editor
      → IsLent marks (view_of editor) old new → IsLent marks (view_of editor₀) old new
  lent_still marks editor₀ editor old new kept lent =
      record {
        table = lent.table;
        kept = lent.kept;
        knows = no_less_on (view_of editor₀) (view_of editor) (view_of (seat_of new)) (editor_knows editor₀ editor kept) lent.knows;
      }

  -- the editor's seat and the desks, of which so many of the first were handed in
  pub record GatheredSo (marks : Marks S E) (editor₀ editor : Seat S E G) (old new : List (Desk S E G)) (n : ℕ) (wants : Bool) : Type 0 where
    pub gone : GoneThrough marks (IsDeskAfter marks) editor₀ editor old new n
    pub knows : (place : ℕ) (desk : Desk S E G) → place < n → place < length old → KnowsOf (get_or old place desk) (view_of editor)
    pub wanted : wants ≡ false → (place : ℕ) (desk : Desk S E G) → place < n → place < length old → wants_memory (get_or old place desk) ≡ false

  pub none_gathered : (marks : Marks S E) (editor : Seat S E G) (desks : List (Desk S E G)) → IsSeatOf marks editor
      → is_editor editor ≡ true → AreDesksOf marks desks
      → GatheredSo marks editor editor desks desks 0 false
  none_gathered marks editor desks table is all =
      record {
        gone = begins marks (IsDeskAfter marks) editor desks table is all;
        knows = λ place desk below. absurd (omega arith);
        wanted = λ none place desk below. absurd (omega arith);
      }

  pub gathers_on : (marks : Marks S E) (editor₀ editor editor₁ : Seat S E G) (old new : List (Desk S E G)) (n : ℕ) (wants more : Bool) (d₀ desk : Desk S E G)
      → GatheredSo marks editor₀ editor old new n wants → n < length old → IsSeatOf marks editor₁ → KeepsEditor editor editor₁
      → IsDeskAfter marks (get_or new n d₀) desk → KnowsOf (get_or new n d₀) (view_of editor₁) → more ≡ wants_memory (get_or new n d₀)
      → GatheredSo marks editor₀ editor₁ old (set new n desk) (n + 1) (wants || more)
  gathers_on marks editor₀ editor editor₁ old new n wants more d₀ desk so inside table kept after of want =
      record {
        gone = goes_on marks (IsDeskAfter marks) editor₀ editor editor₁ old new n d₀ desk so.gone inside table kept after;
        knows = λ place d below within. knows_at place d below within (cases_eq place n);
        wanted = λ none place d below within. wanted_at none place d below within (cases_eq place n);
      }
    where
      was : (d : Desk S E G) → get_or new n d₀ ≡ get_or old n d
      was d = get_or_default new n d₀ d (omega (arith, so.gone.changed.count)) ∙ so.gone.changed.rest n d (omega arith)

      knows_at : (place : ℕ) (d : Desk S E G) → place < n + 1 → place < length old → (place ≡ n) ⊎ (place ≢ n) → KnowsOf (get_or old place d) (view_of editor₁)
      knows_at place d below within (inl same) =
          subst (λ (k : ℕ). KnowsOf (get_or old k d) (view_of editor₁)) (sym same) (subst (λ (x : Desk S E G). KnowsOf x (view_of editor₁)) (was d) of)
      knows_at place d below within (inr other) = λ pair has. (editor_knows editor editor₁ kept).known pair (so.knows place d (omega arith) within pair has)

      wanted_at : (wants || more) ≡ false → (place : ℕ) (d : Desk S E G) → place < n + 1 → place < length old
          → (place ≡ n) ⊎ (place ≢ n) → wants_memory (get_or old place d) ≡ false
      wanted_at none place d below within (inl same) =
          subst (λ (k : ℕ). wants_memory (get_or old k d) ≡ false) (sym same) (ap (λ (x : Desk S E G). wants_memory x)
          (sym (was d)) ∙ sym want ∙ (or_false wants more none).1)
      wanted_at none place d below within (inr other) = so.wanted (or_false wants more none).0 place d (omega arith) within
