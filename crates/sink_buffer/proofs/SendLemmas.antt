-- A text that is handed out to a buffer: where each call takes its piece as a buffer does, so do all calls together.
use Rattle.std.proofs.Common.{◌≡◌, ℕ, ◌≤◌, Bool, true, false, List, [], ◌++◌, refl, sym, ◌∙◌, ap, subst, append_assoc, inl, inr, arith}
use Rattle.std.proofs.lemmas.List.{append-nil}
use Rattle.std.specs.Fn.{CalledAt}
use Rattle.std.specs.declared.option.Option.{Option}
use Rattle.sheet_io.specs.Faults.{Rose}
use Rattle.sheet_io.specs.Sink.{AppendsPrefix}
use Rattle.sheet_io.proofs.Prefixes.{prefix_more}
use Rattle.text_pieces.specs.Pieces.{Taker, Sends, HandsOut}
use Rattle.text_pieces.specs.Pieces.Sends.{nothing, stops, goes_on}
use Rattle.sink_buffer.specs.Buffers.{HasPassed, Passes}
use Rattle.sink_buffer.proofs.PassLemmas.{cut_then, passed_as, passed_before, passed_none, passed_then}

-- a fault that rose later has risen
pub rose_after : (before mid after : ℕ) → before ≤ mid → Rose mid after → Rose before after
rose_after before mid after grown (inl more) = inl (omega (arith, grown, more))
rose_after before mid after grown (inr most) = inr most

module _ {F : Type 0} (taker : Taker F) (told : F → Option (List ℕ)) (faults : F → ℕ) (held : F → List ℕ)
    (takes : (f last : F) (piece : List ℕ) → CalledAt taker f piece true last → HasPassed (told f) (told last) (held f ++ piece) (held last))
    (cuts : (f last : F) (piece : List ℕ) → CalledAt taker f piece false last → AppendsPrefix (told f) (told last) (held f ++ piece))
    (rises : (f last : F) (piece : List ℕ) → CalledAt taker f piece false last → Rose (faults f) (faults last))
    (counts : (f last : F) (piece : List ℕ) (taken : Bool) → CalledAt taker f piece taken last → faults f ≤ faults last) where
  no : {X : Type 0} → false ≡ true → X
  no h = absurd cc

  sends_passed : (f last : F) (text : List ℕ) (answer : Bool) → answer ≡ true → Sends taker f text answer last
      → HasPassed (told f) (told last) (held f ++ text) (held last)
  sends_passed _ _ _ _ is (nothing f) =
      passed_as (told f) (told f) (held f) (held f ++ []) (held f) (held f) (sym (append-nil (held f))) refl
      (passed_none (told f) (held f))
  sends_passed _ _ _ _ is (stops f last piece called) = no is
  sends_passed _ _ _ _ is (goes_on f mid last text piece rest answer parts called sends) =
      let first = takes f mid piece called in
      let second = sends_passed mid last rest answer is sends in
      passed_as (told f) (told last) ((held f ++ piece) ++ rest) (held f ++ text) (held last) (held last)
      (append_assoc (held f) piece rest ∙ ap (λ t. held f ++ t) (sym parts)) refl
      (passed_then (told f) (told mid) (told last) ((held f ++ piece) ++ rest) (held mid ++ rest) (held last)
      (passed_before (told f) (told mid) (held f ++ piece) (held mid) rest first) second)

  sends_cut : (f last : F) (text : List ℕ) (answer : Bool) → answer ≡ false → Sends taker f text answer last
      → AppendsPrefix (told f) (told last) (held f ++ text)
  sends_cut _ _ _ _ is (nothing f) = no (sym is)
  sends_cut _ _ _ _ is (stops f last piece called) = cuts f last piece called
  sends_cut _ _ _ _ is (goes_on f mid last text piece rest answer parts called sends) =
      subst (AppendsPrefix (told f) (told last)) (append_assoc (held f) piece rest ∙ ap (λ t. held f ++ t) (sym parts))
      (cut_then (told f) (told mid) (told last) ((held f ++ piece) ++ rest) (held mid
      ++ rest) (passed_before (told f) (told mid) (held f ++ piece) (held mid) rest (takes f mid piece called))
      (sends_cut mid last rest answer is sends))

  sends_rise : (f last : F) (text : List ℕ) (answer : Bool) → answer ≡ false → Sends taker f text answer last → Rose (faults f) (faults last)
  sends_rise _ _ _ _ is (nothing f) = no (sym is)
  sends_rise _ _ _ _ is (stops f last piece called) = rises f last piece called
  sends_rise _ _ _ _ is (goes_on f mid last text piece rest answer parts called sends) =
      rose_after (faults f) (faults mid) (faults last) (counts f mid piece true called) (sends_rise mid last rest answer is sends)

  sends_count : (f last : F) (text : List ℕ) (answer : Bool) → Sends taker f text answer last → faults f ≤ faults last
  sends_count _ _ _ _ (nothing f) = omega arith
  sends_count _ _ _ _ (stops f last piece called) = counts f last piece false called
  sends_count _ _ _ _ (goes_on f mid last text piece rest answer parts called sends) =
      let a = counts f mid piece true called in
      let b = sends_count mid last rest answer sends in
      omega (arith, a, b)

  text_passed : (f last : F) (text : List ℕ) → HandsOut taker f text true last → HasPassed (told f) (told last) (held f ++ text) (held last)
  text_passed f last text out =
      let whole : text ≡ out.sent = out.begins ∙ (ap (λ l. out.sent ++ l) (out.whole refl) ∙ append-nil out.sent) in
      passed_as (told f) (told last) (held f ++ out.sent) (held f ++ text) (held last) (held last)
      (ap (λ t. held f ++ t) (sym whole)) refl (sends_passed f last out.sent true refl out.sends)

  text_cut : (f last : F) (text : List ℕ) → HandsOut taker f text false last → AppendsPrefix (told f) (told last) (held f ++ text)
  text_cut f last text out =
      subst (AppendsPrefix (told f) (told last)) (append_assoc (held f) out.sent out.left ∙ ap (λ t. held f ++ t) (sym out.begins))
      (prefix_more (told f) (told last) (held f ++ out.sent) out.left (sends_cut f last out.sent false refl out.sends))

  -- a text that was handed out whole has passed; of one that wasn't a prefix was put, and a fault rose
  pub text_passes : (f last : F) (text : List ℕ) (answer : Bool) → HandsOut taker f text answer last
      → Passes (told f) (told last) (faults f) (faults last) (held f ++ text) (held last) answer
  text_passes f last text true out = record {
    passed = λ yes. text_passed f last text out;
    cut = λ no. absurd (no refl);
    cause = λ no. absurd (no refl);
    counted = sends_count f last out.sent true out.sends;
  }
  text_passes f last text false out = record {
    passed = λ yes. no yes;
    cut = λ no. text_cut f last text out;
    cause = λ no. sends_rise f last out.sent false refl out.sends;
    counted = sends_count f last out.sent false out.sends;
  }
