-- Passes that are taken apart, the last one first.
use Rattle.std.proofs.Common.{◌≡◌, ◌<◌, ◌≤◌, ◌+◌, ℕ, List, [], ◌∷◌, ◌++◌, length, All, refl, sym, ◌∙◌, ap, subst, arith, length-append, append_assoc}
use Rattle.std.specs.Prelude.{Contains}
use Rattle.std.proofs.lemmas.List.{append-nil}
use Rattle.std.proofs.lemmas.List.Elements.{All-nil, All-push, All-cons, All-weaker, Contains-append_left, Contains-append_right}
use Rattle.live_sheet.specs.Closed.{accepted_count}
use Rattle.live_sheet.specs.Passes.{numbers_of}
use Rattle.live_sheet.specs.declared.naming.Naming.{Ghosts}
use Rattle.live_sheet.specs.declared.pass.Pass.{Pass}

module _ {N X : Type 0} {G : Ghosts N} (seat : Pass N G → X) (Kept : Pass N G → Type 0) (Free : X → Type 0) where
  -- the passes from the end of the list on are gone: their parts and amounts are in the share, and their seats in the list
  pub record GatheredSoFar (passes : List (Pass N G)) (parts amount : ℕ) (left : List (Pass N G)) (parts_now amount_now : ℕ) (seats : List X) : Type 0 where
    pub gone : List (Pass N G)
    pub whole : passes ≡ left ++ gone
    pub parts_are : parts_now ≡ parts + length gone
    pub amount_is : amount_now ≡ amount + accepted_count gone
    pub count : length seats ≡ length gone
    pub kept : All Kept gone
    pub handed : All (λ pass. Contains seats (seat pass)) gone
    pub tables : All Free seats

  pub gather_begins : (passes : List (Pass N G)) (parts amount : ℕ) (seats : List X) → seats ≡ [] → GatheredSoFar passes parts amount passes parts amount seats
  gather_begins passes parts amount seats none =
      record {
        gone = [];
        whole = sym (append-nil passes);
        parts_are = omega arith;
        amount_is = omega arith;
        count = ap length none;
        kept = All-nil Kept;
        handed = All-nil (λ pass. Contains seats (seat pass));
        tables = subst (All Free) (sym none) (All-nil Free);
      }

  pub gather_goes_on : (passes left rest : List (Pass N G)) (parts amount parts_then amount_then parts_now
      amount_now : ℕ) (seats more : List X) (pass : Pass N G)
      → GatheredSoFar passes parts amount left parts_then amount_then seats → left ≡ rest ++ pass ∷ []
      → parts_now ≡ parts_then + 1 → amount_now ≡ amount_then + length (numbers_of pass)
      → more ≡ seats ++ seat pass ∷ [] → Kept pass → Free (seat pass) → GatheredSoFar passes parts amount rest parts_now amount_now more
  gather_goes_on passes left rest parts amount parts_then amount_then parts_now amount_now seats more pass so is one plus pushed kept free =
      record {
        gone = pass ∷ so.gone;
        whole = so.whole ∙ ap (λ l. l ++ so.gone) is ∙ append_assoc rest (pass ∷ []) so.gone;
        parts_are = omega (arith, one, so.parts_are);
        amount_is = omega (arith, plus, so.amount_is);
        count = ap length pushed ∙ length-append seats (seat pass ∷ []) ∙ omega (arith, so.count);
        kept = All-cons Kept pass so.gone kept so.kept;
        handed =
            All-cons (λ p. Contains more (seat p)) pass so.gone
            (subst (λ l. Contains l (seat pass)) (sym pushed) (Contains-append_right seats (seat pass ∷ []) (seat pass) (0, omega arith, refl)))
            (All-weaker (λ p. Contains seats (seat p)) (λ p. Contains more (seat p))
            (λ p among. subst (λ l. Contains l (seat p)) (sym pushed) (Contains-append_left seats (seat pass ∷ []) (seat p) among)) so.gone so.handed);
        tables = subst (All Free) (sym pushed) (All-push Free seats (seat pass) so.tables free);
      }

  -- while one is left, there is room for its seat
  pub gather_room : (passes left rest : List (Pass N G)) (parts amount parts_then amount_then room : ℕ) (seats : List X) (pass : Pass N G)
      → GatheredSoFar passes parts amount left parts_then amount_then seats → left ≡ rest ++ pass ∷ [] → length passes ≤ room → length seats < room
  gather_room passes left rest parts amount parts_then amount_then room seats pass so is below =
      omega (arith, ap length so.whole, length-append left so.gone, ap length is, length-append rest (pass ∷ []), so.count, below)

  -- once none is left, all are gone
  pub all_gone : (passes left : List (Pass N G)) (parts amount parts_now amount_now : ℕ) (seats : List X)
      → GatheredSoFar passes parts amount left parts_now amount_now seats → left ≡ []
      → (parts_now ≡ parts + length passes) × (amount_now ≡ amount + accepted_count passes) × All Kept passes
      × All (λ pass. Contains seats (seat pass)) passes × All Free seats
  all_gone passes left parts amount parts_now amount_now seats so none =
      let all : passes ≡ so.gone = so.whole ∙ ap (λ l. l ++ so.gone) none in (
        so.parts_are ∙ ap (λ l. parts + length l) (sym all),
        so.amount_is ∙ ap (λ l. amount + accepted_count l) (sym all),
        subst (All Kept) (sym all) so.kept,
        subst (All (λ pass. Contains seats (seat pass))) (sym all) so.handed,
        so.tables,
      )
