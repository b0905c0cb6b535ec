-- Which texts begin as formulas do.
use Rattle.std.proofs.Common.{◌≡◌, ℕ, Bool, true, false, List, [], ◌∷◌, drop, sym, ◌∙◌, true≢false}
use Rattle.std.specs.Prelude.{codes}
use Rattle.std.specs.List.{starts_with}
use lib.Dec.{eqb}
use Rattle.std.proofs.lemmas.Bool.Decides.{Decides-eqb}
use Rattle.std.proofs.lemmas.Slice.Eq.{starts_is}
use Rattle.formula_syntax.specs.Spelling.IsIntroduced.{plain, prefixed}
use Rattle.sheet_model.specs.Fields.{BeginsFormula}

module _ (text : List ℕ) (equals prefix : Bool) (is_equals : equals ≡ starts_with eqb text (61 ∷ []))
    (is_prefix : prefix ≡ starts_with eqb text (codes "of:=")) where
  pub begins_equals : equals ≡ true → BeginsFormula text
  begins_equals there = (drop 1 text, plain text (drop 1 text) ((starts_is Decides-eqb text (61 ∷ []) equals is_equals).0 there))

  pub begins_prefix : prefix ≡ true → BeginsFormula text
  begins_prefix there = (drop 4 text, prefixed text (drop 4 text) ((starts_is Decides-eqb text (codes "of:=") prefix is_prefix).0 there))

  pub prefix_begins : equals ≡ false → BeginsFormula text → prefix ≡ true
  prefix_begins no_equals (rest, plain _ _ is) = absurd (true≢false (sym ((starts_is Decides-eqb text (61 ∷ []) equals is_equals).1 rest is) ∙ no_equals))
  prefix_begins no_equals (rest, prefixed _ _ is) = (starts_is Decides-eqb text (codes "of:=") prefix is_prefix).1 rest is
