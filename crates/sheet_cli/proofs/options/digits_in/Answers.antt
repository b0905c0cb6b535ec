use Rattle.std.proofs.Common.{◌≢◌, ◌≡◌, ◌++◌, ℕ, List, codes, subst}
use Rattle.std.specs.Prelude.{MatchOption}
use Rattle.std.proofs.lemmas.Bool.Decides.{Decides-eqb}
use Rattle.std.proofs.lemmas.Slice.Eq.{strip_prefix_is}
use Rattle.sheet_cli.proofs.options.digits_in.Goals as goal

pub returns : goal.returns
returns c =
    subst (λ text. MatchOption c.strip_prefix.result ((digits : List ℕ) → text ≢ codes "--workers="
    ++ digits) (λ digits. text ≡ codes "--workers=" ++ digits.now)) c.as_bytes.ensures.value
    (strip_prefix_is Decides-eqb c.as_bytes.result.now (codes "--workers=") c.strip_prefix.result c.strip_prefix.ensures.cases)
