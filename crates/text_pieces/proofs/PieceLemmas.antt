-- Handing out one text after another.
use Rattle.std.proofs.Common.{◌≡◌, ℕ, Bool, true, false, List, [], ◌++◌, refl, sym, ◌∙◌, ap, ap₂, append_assoc}
use Rattle.std.proofs.lemmas.List.{append-nil}
use Rattle.std.specs.Borrow.{Bor}
use Rattle.std.specs.Fn.{Called}
use Rattle.text_pieces.specs.Pieces.{Taker, Sends, HandsOut}
use Rattle.text_pieces.specs.Pieces.Sends.{nothing, stops, goes_on}

module _ {F : Type 0} (taker : Taker F) where
  one_call : (f last : F) (piece : Bor (List ℕ)) (told : Bool) → Called taker f (piece, tt) told last → Sends taker f piece.now told last
  one_call f last piece true called = goes_on f last last piece.now piece.now [] true (sym (append-nil piece.now))
      (record { shown = piece; shows = refl; called = called }) (nothing last)
  one_call f last piece false called = stops f last piece.now (record { shown = piece; shows = refl; called = called })

  -- one call hands out its piece
  pub one : (f last : F) (piece : Bor (List ℕ)) (told : Bool) → Called taker f (piece, tt) told last → HandsOut taker f piece.now told last
  one f last piece told called =
      record { sent = piece.now; left = []; sends = one_call f last piece told called; begins = sym (append-nil piece.now); whole = λ _. refl }

  -- no call hands out nothing
  pub none : (f : F) → HandsOut taker f [] true f
  none f = record { sent = []; left = []; sends = nothing f; begins = refl; whole = λ _. refl }

  sends_on : (f mid last : F) (a b : List ℕ) (taken told : Bool) → taken ≡ true → Sends taker f a taken mid
      → Sends taker mid b told last → Sends taker f (a ++ b) told last
  sends_on _ _ last _ b _ told is (nothing f) rest = rest
  sends_on _ _ last _ b _ told is (stops f mid piece called) rest = absurd (no is)
    where
      no : false ≡ true → ⊥
      no h = cc
  sends_on _ _ last _ b _ told is (goes_on f next mid text piece more taken parts called sends) rest =
      goes_on f next last (text ++ b) piece (more ++ b) told (ap (λ t. t ++ b) parts ∙ append_assoc piece more b) called
      (sends_on next mid last more b taken told is sends rest)

  -- a whole text, and then another
  pub and_then : (f mid last : F) (a b : List ℕ) (told : Bool) → HandsOut taker f a true mid
      → HandsOut taker mid b told last → HandsOut taker f (a ++ b) told last
  and_then f mid last a b told first second =
      let whole : a ≡ first.sent = first.begins ∙ (ap (λ l. first.sent ++ l) (first.whole refl) ∙ append-nil first.sent) in
      record {
        sent = first.sent ++ second.sent;
        left = second.left;
        sends = sends_on f mid last first.sent second.sent true told refl first.sends second.sends;
        begins = ap₂ (λ x y. x ++ y) whole second.begins ∙ sym (append_assoc first.sent second.sent second.left);
        whole = second.whole;
      }

  -- where a text wasn't taken whole, what follows it isn't handed out
  pub cut : (f last : F) (a b : List ℕ) → HandsOut taker f a false last → HandsOut taker f (a ++ b) false last
  cut f last a b first =
      record {
        sent = first.sent;
        left = first.left ++ b;
        sends = first.sends;
        begins = ap (λ t. t ++ b) first.begins ∙ append_assoc first.sent first.left b;
        whole = λ h. absurd (no h);
      }
    where
      no : false ≡ true → ⊥
      no h = cc

  -- whoever hands out what is left, has handed out the text
  abbrev pub Completes : F → List ℕ → F → List ℕ → Type 0
  Completes old text now left = (last : F) (told : Bool) → HandsOut taker now left told last → HandsOut taker old text told last

  pub begun : (old now : F) (a b : List ℕ) → HandsOut taker old a true now → Completes old (a ++ b) now b
  begun old now a b first last told rest = and_then old now last a b told first rest

  pub next : (old now mid : F) (text a b : List ℕ) → Completes old text now (a ++ b) → HandsOut taker now a true mid → Completes old text mid b
  next old now mid text a b completes first last told rest = completes last told (and_then now mid last a b told first rest)

  pub ended : (old now last : F) (text a b : List ℕ) → Completes old text now (a ++ b) → HandsOut taker now a false last → HandsOut taker old text false last
  ended old now last text a b completes first = completes last false (cut now last a b first)
