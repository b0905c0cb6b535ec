use Rattle.std.proofs.Common.{◌++◌, ◌∷◌, [], List, ℕ, ap, ◌∙◌}
use Rattle.mark_core.specs.declared.actors.View.{View}
use Rattle.mark_core.proofs.KeptLemmas.{kept_opening}
use Rattle.mark_core.proofs.machine.Machine.open.Goals as goal

pub returns : goal.returns
returns g c =
    kept_opening c.new.result.items c.new-2.result.items c.in_ok-places.places.items c.push.new.self.items c.args.opening.now
    c.new.ensures.items c.new-2.ensures.items c.in_ok-places.ensures
    (c.in_ok-push.ensures.items
    ∙ ap (λ (views : List (View ℕ)). views ++ c.editor.result ∷ []) c.new-views.ensures.items
    ∙ ap (λ (view : View ℕ). view ∷ []) c.editor.ensures)
