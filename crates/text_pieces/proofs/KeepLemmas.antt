-- Pieces that are kept: where each call that takes a piece appends it, the pieces of a text append the text.
use Rattle.std.proofs.Common.{◌≡◌, ℕ, Bool, true, false, List, ◌++◌, refl, sym, ◌∙◌, ap, append_assoc}
use Rattle.std.proofs.lemmas.List.{append-nil}
use Rattle.std.specs.Fn.{CalledAt}
use Rattle.text_pieces.specs.Pieces.{Taker, Sends, HandsOut}
use Rattle.text_pieces.specs.Pieces.Sends.{nothing, stops, goes_on}

module _ {F : Type 0} (taker : Taker F) (bytes : F → List ℕ) (appends : (f last : F) (piece : List ℕ)
    → CalledAt taker f piece true last → bytes last ≡ bytes f ++ piece) where
  sent_all : (f last : F) (text : List ℕ) (told : Bool) → told ≡ true → Sends taker f text told last → bytes last ≡ bytes f ++ text
  sent_all _ _ _ _ is (nothing f) = sym (append-nil (bytes f))
  sent_all _ _ _ _ is (stops f last piece called) = absurd (no is)
    where
      no : false ≡ true → ⊥
      no h = cc
  sent_all _ _ _ _ is (goes_on f mid last text piece rest told parts called sends) =
      sent_all mid last rest told is sends ∙ (ap (λ b. b ++ rest) (appends f mid piece called)
      ∙ (append_assoc (bytes f) piece rest ∙ ap (λ t. bytes f ++ t) (sym parts)))

  pub kept : (f last : F) (text : List ℕ) → HandsOut taker f text true last → bytes last ≡ bytes f ++ text
  kept f last text out =
      let whole : text ≡ out.sent = out.begins ∙ (ap (λ l. out.sent ++ l) (out.whole refl) ∙ append-nil out.sent) in
      sent_all f last out.sent true refl out.sends ∙ ap (λ t. bytes f ++ t) (sym whole)

-- what each call leaves as it was stays as it was
module _ {F X : Type 0} (taker : Taker F) (view : F → X) (keeps : (f last : F) (piece : List ℕ) (told : Bool)
    → CalledAt taker f piece told last → view last ≡ view f) where
  same_after : (f last : F) (text : List ℕ) (told : Bool) → Sends taker f text told last → view last ≡ view f
  same_after _ _ _ _ (nothing f) = refl
  same_after _ _ _ _ (stops f last piece called) = keeps f last piece false called
  same_after _ _ _ _ (goes_on f mid last text piece rest told parts called sends) = same_after mid last rest told sends ∙ keeps f mid piece true called

  pub same : (f last : F) (text : List ℕ) (told : Bool) → HandsOut taker f text told last → view last ≡ view f
  same f last text told out = same_after f last out.sent told out.sends
