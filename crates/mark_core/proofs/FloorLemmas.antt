-- The floor of a list of known pairs, one pair at a time.
use Rattle.std.proofs.Common.{◌≡◌, ◌<◌, ◌+◌, ℕ, List, ◌∷◌, ◌==◌, max, length, drop, get_or, refl, sym, ◌∙◌, ap, arith}
use Rattle.std.specs.Prelude.{if◌then◌else◌}
use Rattle.std.proofs.lemmas.List.{drop_more}
use Rattle.std.proofs.lemmas.Bool.{cond_both}
use Rattle.mark_core.specs.declared.words.Known.{Known}
use Rattle.mark_core.specs.Views.{floor_of}

floor-cons : (pair : Known) (known : List Known) (place : ℕ)
    → floor_of (pair ∷ known) place ≡ max (if pair.place == place then pair.mark + 1 else 0) (floor_of known place)
floor-cons pair known place =
    cond_both (pair.place == place) (pair.mark + 1) 0
    (λ floor. (if pair.place == place then max (pair.mark + 1) (floor_of known place) else floor_of known place) ≡ max floor (floor_of known place))
    (λ e. rw e refl)
    (λ e. rw e (omega arith))

pub floor_more : (known : List Known) (place floor next given i : ℕ) (blank : Known) → i < length known
    → max floor (floor_of (drop i known) place) ≡ floor_of known place
    → given ≡ (if (get_or known i blank).place == place then (get_or known i blank).mark + 1 else 0)
    → next ≡ max floor given
    → max next (floor_of (drop (i + 1) known) place) ≡ floor_of known place
floor_more known place floor next given i blank lt before is step =
    let first : floor_of (drop i known) place ≡ max given (floor_of (drop (i + 1) known) place) =
    ap (λ l. floor_of l place) (drop_more known i blank lt)
    ∙ floor-cons (get_or known i blank) (drop (i + 1) known) place
    ∙ ap (λ n. max n (floor_of (drop (i + 1) known) place)) (sym is) in
    omega arith
