-- Bytes that pass a buffer: nothing, one piece after the other, and the laws.
use Rattle.std.proofs.Common.{◌≡◌, ℕ, ◌+◌, List, [], ◌++◌, length-append, refl, sym, ◌∙◌, ap, subst, append_assoc, arith}
use Rattle.std.proofs.KnownBytes.{Appends-nil, Appends-trans}
use Rattle.std.proofs.lemmas.List.{append-nil}
use Rattle.std.specs.declared.option.Option.{Option}
use Rattle.sheet_io.specs.Sink.{AppendsPrefix}
use Rattle.sheet_io.proofs.Prefixes.{prefix_after, prefix_more}
use Rattle.sink_buffer.specs.Buffers.{HasPassed, NothingIsLost, PutIsInFullBuffers}

-- nothing was put
pub passed_none : (told : Option (List ℕ)) (bytes : List ℕ) → HasPassed told told bytes bytes
passed_none told bytes = record { put = []; buffers = 0; split = refl; appends = Appends-nil told; full = refl }

-- the same bytes came and are held, in other parts
pub passed_as : (old new : Option (List ℕ)) (a b held kept : List ℕ) → a ≡ b → held ≡ kept → HasPassed old new a held → HasPassed old new b kept
passed_as old new a b held kept same alike passed =
    subst (λ l. HasPassed old new l kept) same (subst (HasPassed old new a) alike passed)

-- bytes passed, and then some of those that are held
pub passed_then : (old now new : Option (List ℕ)) (bytes held kept : List ℕ) → HasPassed old now bytes held
    → HasPassed now new held kept → HasPassed old new bytes kept
passed_then old now new bytes held kept first second = record {
  put = first.put ++ second.put;
  buffers = first.buffers + second.buffers;
  split = first.split ∙ (ap (λ l. first.put ++ l) second.split ∙ sym (append_assoc first.put second.put kept));
  appends = Appends-trans old now new first.put second.put first.appends second.appends;
  full = (let joined = length-append first.put second.put in let a = first.full in let b = second.full in omega (arith, joined, a, b));
}

-- with more behind them
pub passed_before : (old new : Option (List ℕ)) (bytes held more : List ℕ) → HasPassed old new bytes held → HasPassed old new (bytes ++ more) (held ++ more)
passed_before old new bytes held more passed = record {
  put = passed.put;
  buffers = passed.buffers;
  split = ap (λ b. b ++ more) passed.split ∙ append_assoc passed.put held more;
  appends = passed.appends;
  full = passed.full;
}

-- bytes passed, and of those that are held a prefix was put
pub cut_then : (old now new : Option (List ℕ)) (bytes held : List ℕ) → HasPassed old now bytes held → AppendsPrefix now new held → AppendsPrefix old new bytes
cut_then old now new bytes held first part =
    subst (AppendsPrefix old new) (sym first.split) (prefix_after old now new first.put held first.appends part)

-- ---- a loop over what came: room is made for more of it

pub taken_more : (old now new : Option (List ℕ)) (bytes held kept rest last next : List ℕ)
    → HasPassed old now bytes (held ++ rest) → HasPassed now new held kept → kept ++ rest ≡ last ++ next
    → HasPassed old new bytes (last ++ next)
taken_more old now new bytes held kept rest last next first room same =
    subst (HasPassed old new bytes) same (passed_then old now new bytes (held ++ rest) (kept ++ rest) first (passed_before now new held kept rest room))

pub taken_cut : (old now new : Option (List ℕ)) (bytes held rest : List ℕ) → HasPassed old now bytes (held ++ rest)
    → AppendsPrefix now new held → AppendsPrefix old new bytes
taken_cut old now new bytes held rest first part = cut_then old now new bytes (held ++ rest) first (prefix_more now new held rest part)

pub taken_all : (old new : Option (List ℕ)) (bytes held rest : List ℕ) → HasPassed old new bytes (held ++ rest) → rest ≡ [] → HasPassed old new bytes held
taken_all old new bytes held rest passed none = subst (HasPassed old new bytes) (ap (λ r. held ++ r) none ∙ append-nil held) passed

-- ---- the laws

pub nothing_is_lost : NothingIsLost
nothing_is_lost front after bytes held passed =
    ap (λ l. l ++ held) passed.appends ∙ (append_assoc front passed.put held ∙ ap (λ l. front ++ l) (sym passed.split))

pub put_is_in_full_buffers : PutIsInFullBuffers
put_is_in_full_buffers front after bytes held passed = (passed.put, passed.buffers, passed.appends, passed.full)
