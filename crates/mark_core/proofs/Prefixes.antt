-- Prefixes of a list of entries, and what a longer list keeps of touched places and last marks.
use Rattle.std.proofs.Common.{◌≡◌, ◌<◌, ◌≤◌, ◌+◌, ◌-◌, ℕ, zero, suc, List, [], ◌∷◌, ◌++◌, Some, length, take, drop}
use Rattle.std.proofs.Common.{refl, sym, ◌∙◌, ap, subst, inl, inr, arith, length-append, append_assoc}
use Rattle.std.specs.Prelude.{slice_get}
use Rattle.std.proofs.lemmas.List.{take-append-le, take-append-drop, take_at, append-nil}
use Rattle.std.proofs.lemmas.Option.{slice_get_within, same_Some}
use Rattle.std.proofs.lemmas.Bool.{cases_lt}
use Rattle.mark_core.specs.Marks.{IsPrefix, IsTouched, IsLastMark}

pub prefix_itself : {X : Type 0} (xs : List X) → IsPrefix xs xs
prefix_itself xs = record { rest = []; whole = sym (append-nil xs) }

pub prefix_more : {X : Type 0} (xs ys zs : List X) → IsPrefix xs ys → IsPrefix xs (ys ++ zs)
prefix_more xs ys zs p =
    record { rest = p.rest ++ zs; whole = ap (λ l. l ++ zs) p.whole ∙ append_assoc xs p.rest zs }

pub prefix_of_prefix : {X : Type 0} (xs ys zs : List X) → IsPrefix xs ys → IsPrefix ys zs → IsPrefix xs zs
prefix_of_prefix xs ys zs p q =
    record { rest = p.rest ++ q.rest; whole = q.whole ∙ ap (λ l. l ++ q.rest) p.whole ∙ append_assoc xs p.rest q.rest }

pub prefix_of_nothing : {X : Type 0} (ys : List X) → IsPrefix [] ys
prefix_of_nothing ys = record { rest = ys; whole = refl }

pub take_is_prefix : {X : Type 0} (n : ℕ) (xs : List X) → IsPrefix (take n xs) xs
take_is_prefix n xs = record { rest = drop n xs; whole = sym (take-append-drop n xs) }

pub prefix_length : {X : Type 0} (xs ys : List X) → IsPrefix xs ys → length xs ≤ length ys
prefix_length xs ys p = let e : length ys ≡ length xs + length p.rest = ap length p.whole ∙ length-append xs p.rest in omega arith

-- the first entries of a list are those of each prefix that has so many
pub take-prefix : {X : Type 0} (xs ys : List X) (n : ℕ) → IsPrefix xs ys → n ≤ length xs → take n ys ≡ take n xs
take-prefix xs ys n p h = ap (λ l. take n l) p.whole ∙ take-append-le n xs p.rest h

slice_get-append : {X : Type 0} (xs ys : List X) (i : ℕ) → i < length xs → slice_get (xs ++ ys) i ≡ slice_get xs i
slice_get-append [] ys i h = absurd (omega arith)
slice_get-append (x ∷ xs) ys zero h = refl
slice_get-append (x ∷ xs) ys (suc i) h = slice_get-append xs ys i (omega arith)

slice_get_seam : {X : Type 0} (xs : List X) (y : X) (ys : List X) → slice_get (xs ++ y ∷ ys) (length xs) ≡ Some y
slice_get_seam [] y ys = refl
slice_get_seam (x ∷ xs) y ys = slice_get_seam xs y ys

slice_get-prefix : {X : Type 0} (xs ys : List X) (i : ℕ) → IsPrefix xs ys → i < length xs → slice_get ys i ≡ slice_get xs i
slice_get-prefix xs ys i p h = ap (λ l. slice_get l i) p.whole ∙ slice_get-append xs p.rest i h

module _ {E : Type 0} (touches : List E → E → ℕ → Type 0) where
  pub touched_within : (xs : List E) (place number : ℕ) → IsTouched touches xs place number → number ≤ length xs
  touched_within xs place number t =
      let h : number - 1 < length xs = slice_get_within xs (number - 1) t.entry t.stands in
      let c : 0 < number = t.counted in
      omega arith

  -- an entry that touches a place does so in each longer list
  pub touched_in_longer : (xs ys : List E) (place number : ℕ) → IsPrefix xs ys → IsTouched touches xs place number → IsTouched touches ys place number
  touched_in_longer xs ys place number p t =
      let h : number - 1 < length xs = slice_get_within xs (number - 1) t.entry t.stands in
      let le : number - 1 ≤ length xs = omega arith in
      record {
        counted = t.counted;
        entry = t.entry;
        stands = slice_get-prefix xs ys (number - 1) p h ∙ t.stands;
        touched = subst (λ (l : List E). touches l t.entry place) (sym (take-prefix xs ys (number - 1) p le)) t.touched;
      }

  -- and in each prefix that it is an entry of
  pub touched_in_prefix : (xs ys : List E) (place number : ℕ) → IsPrefix xs ys → number ≤ length xs
      → IsTouched touches ys place number → IsTouched touches xs place number
  touched_in_prefix xs ys place number p le t =
      let c : 0 < number = t.counted in
      let h : number - 1 < length xs = omega arith in
      let le' : number - 1 ≤ length xs = omega arith in
      record {
        counted = t.counted;
        entry = t.entry;
        stands = sym (slice_get-prefix xs ys (number - 1) p h) ∙ t.stands;
        touched = subst (λ (l : List E). touches l t.entry place) (take-prefix xs ys (number - 1) p le') t.touched;
      }

  -- the entry after these is the one with the next number
  pub touched_next : (xs : List E) (entry : E) (ys : List E) (place : ℕ) → touches xs entry place → IsTouched touches (xs ++ entry ∷ ys) place (length xs + 1)
  touched_next xs entry ys place t =
      let e : length xs + 1 - 1 ≡ length xs = omega arith in
      record {
        counted = omega arith;
        entry = entry;
        stands = rw e (slice_get_seam xs entry ys);
        touched =
            subst (λ (l : List E). touches l entry place)
            (sym (ap (λ n. take n (xs ++ entry ∷ ys)) e ∙ take_at xs (entry ∷ ys) (length xs) refl)) t;
      }

  pub next_touches : (xs : List E) (entry : E) (ys : List E) (place : ℕ) → IsTouched touches (xs ++ entry ∷ ys) place (length xs + 1) → touches xs entry place
  next_touches xs entry ys place t =
      let e : length xs + 1 - 1 ≡ length xs = omega arith in
      let same : t.entry ≡ entry =
      same_Some t.entry entry (sym t.stands ∙ ap (λ n. slice_get (xs ++ entry ∷ ys) n) e ∙ slice_get_seam xs entry ys) in
      let front : take (length xs + 1 - 1) (xs ++ entry ∷ ys) ≡ xs =
      ap (λ n. take n (xs ++ entry ∷ ys)) e ∙ take_at xs (entry ∷ ys) (length xs) refl in
      subst (λ (x : E). touches xs x place) same
      (subst (λ (l : List E). touches l t.entry place) front t.touched)

  -- no entry that touches a place is later than its last mark
  pub touched_up_to : (xs : List E) (place number mark : ℕ) → IsTouched touches xs place number → IsLastMark touches xs place mark → number ≤ mark
  touched_up_to xs place number mark t m =
      elim (cases_lt mark number) [
        | inl later ↦ absurd (m.none_later number later (touched_within xs place number t) t)
        | inr h ↦ h
      ]

  -- a place has one last mark in a list
  pub last_mark_unique : (xs : List E) (place mark other : ℕ) → IsLastMark touches xs place mark → IsLastMark touches xs place other → mark ≡ other
  last_mark_unique xs place mark other m o =
      elim (cases_lt mark other) [
        | inl h ↦ absurd (m.none_later other h o.within (o.touched (omega arith)))
        | inr le ↦
            elim (cases_lt other mark) [
              | inl h ↦ absurd (o.none_later mark h m.within (m.touched (omega arith)))
              | inr ge ↦ omega arith
            ]
      ]

  -- a last mark is the last mark of each prefix that it is an entry of
  pub last_mark_in_prefix : (xs ys : List E) (place mark : ℕ) → IsPrefix xs ys → mark ≤ length xs
      → IsLastMark touches ys place mark → IsLastMark touches xs place mark
  last_mark_in_prefix xs ys place mark p le m =
      record {
        within = le;
        touched = λ h. touched_in_prefix xs ys place mark p le (m.touched h);
        none_later = λ n later within t.
            let long : length xs ≤ length ys = prefix_length xs ys p in
            m.none_later n later (omega arith) (touched_in_longer xs ys place n p t);
      }

  pub last_mark_push_other : (xs : List E) (entry : E) (place mark : ℕ) → (touches xs entry place → ⊥)
      → IsLastMark touches xs place mark → IsLastMark touches (xs ++ entry ∷ []) place mark
  last_mark_push_other xs entry place mark ne m =
      let long : length (xs ++ entry ∷ []) ≡ length xs + 1 = length-append xs (entry ∷ []) in
      let old : mark ≤ length xs = m.within in
      let p : IsPrefix xs (xs ++ entry ∷ []) = record { rest = entry ∷ []; whole = refl } in
      record {
        within = omega arith;
        touched = λ h. touched_in_longer xs (xs ++ entry ∷ []) place mark p (m.touched h);
        none_later = λ n later within t.
            elim (cases_lt (length xs) n) [
              | inl new ↦
                  let e : n ≡ length xs + 1 = omega arith in
                  ne (next_touches xs entry [] place (subst (λ (k : ℕ). IsTouched touches (xs ++ entry ∷ []) place k) e t))
              | inr within' ↦ m.none_later n later within' (touched_in_prefix xs (xs ++ entry ∷ []) place n p within' t)
            ];
      }

  pub last_mark_push : (xs : List E) (entry : E) (place : ℕ) → touches xs entry place → IsLastMark touches (xs ++ entry ∷ []) place (length xs + 1)
  last_mark_push xs entry place t =
      let long : length (xs ++ entry ∷ []) ≡ length xs + 1 = length-append xs (entry ∷ []) in
      record {
        within = omega arith;
        touched = λ h. touched_next xs entry [] place t;
        none_later = λ n later within u. absurd (omega arith);
      }

  pub last_mark_nothing : (place : ℕ) → IsLastMark touches [] place 0
  last_mark_nothing place =
      record {
        within = omega arith;
        touched = λ h. absurd (omega arith);
        none_later = λ n later within u. absurd (let z : n ≤ 0 = within in omega arith);
      }

  module _ (worth : List E → ℕ → ℕ) (place : ℕ) (untouched : (log : List E) (entry : E) → (touches log entry place → ⊥)
      → worth (log ++ entry ∷ []) place ≡ worth log place) where
    -- a place keeps its worth from its last mark on
    worth_from : (xs rest : List E) (mark : ℕ) → mark ≤ length xs → IsLastMark touches (xs ++ rest) place mark → worth (xs ++ rest) place ≡ worth xs place
    worth_from xs [] mark le m = ap (λ l. worth l place) (append-nil xs)
    worth_from xs (entry ∷ rest) mark le m =
        let e : (xs ++ entry ∷ []) ++ rest ≡ xs ++ entry ∷ rest = append_assoc xs (entry ∷ []) rest in
        let long : length (xs ++ entry ∷ []) ≡ length xs + 1 = length-append xs (entry ∷ []) in
        let longer : length (xs ++ entry ∷ rest) ≡ length xs + length (entry ∷ rest) = length-append xs (entry ∷ rest) in
        let further : worth ((xs ++ entry ∷ []) ++ rest) place ≡ worth (xs ++ entry ∷ []) place =
        worth_from (xs ++ entry ∷ []) rest mark (omega arith)
        (subst (λ (l : List E). IsLastMark touches l place mark) (sym e) m) in
        sym (ap (λ l. worth l place) e)
        ∙ further
        ∙ untouched xs entry (λ t. m.none_later (length xs + 1) (omega arith) (omega arith) (touched_next xs entry rest place t))

    pub worth-prefix : (xs ys : List E) (mark : ℕ) → IsPrefix xs ys → mark ≤ length xs → IsLastMark touches ys place mark → worth ys place ≡ worth xs place
    worth-prefix xs ys mark p le m =
        ap (λ l. worth l place) p.whole
        ∙ worth_from xs p.rest mark le (subst (λ (l : List E). IsLastMark touches l place mark) p.whole m)
