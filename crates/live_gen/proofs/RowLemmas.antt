-- What is drawn, and what is drawn from the number 1.
use Rattle.std.proofs.Common.{◌≡◌, ℕ, length, refl, ◌∙◌, ap, arith}
use Rattle.std.specs.Fmt.{digits}
use Rattle.edit_script.specs.Scripts.{ScriptValue}
use Rattle.live_gen.specs.Draws.{state_after}
use Rattle.live_gen.specs.Generated.{edit_steps, steps_of}
use Rattle.live_gen.specs.Laws.{DrawsOfOne, EditsOfOne, FieldsOfOne, GeneratedIsAsDrawn}

-- how many steps there are
all_steps : (number : ℕ) → length (steps_of number 4) ≡ 104
unfolding steps_of edit_steps
all_steps number = refl

pub as_drawn : GeneratedIsAsDrawn
as_drawn number sheet script is = (
  (λ row col low left. is.sheet_is.cells row col left (omega (arith, low, left))),
  ap (λ (s : ScriptValue). s.names) is.script_is,
  ap (λ (s : ScriptValue). length s.steps) is.script_is ∙ all_steps number,
)

pub draws_of_one : DrawsOfOne
unfolding state_after
draws_of_one = (refl, refl, refl, refl, refl)

pub fields_of_one : FieldsOfOne
unfolding state_after digits
fields_of_one = (refl, refl, refl, refl, refl, refl, refl, refl)

pub edits_of_one : EditsOfOne
unfolding state_after
edits_of_one = (refl, refl)
