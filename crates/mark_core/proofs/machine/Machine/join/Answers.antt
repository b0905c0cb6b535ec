use Rattle.std.proofs.Common.{◌≡◌, ◌∙◌, get_or, subst, sym, ap}
use Rattle.mark_core.specs.Kept.{kept_state, IsKept}
use Rattle.mark_core.proofs.KeptLemmas.{views_within, kept_join, kept_joined, put_back}
use Rattle.mark_core.proofs.machine.Machine.join.Goals as goal

pub invariant_of-self : goal.invariant_of-self
invariant_of-self g c =
    let within = views_within c.self.inside.log.items c.self.inside.pending c.self.inside.marked.items
    c.self.inside.places.items c.self.inside.views.items c.args.self.now c.self.view_is in
    let at : c.replace-taken.result ≡ get_or c.self.inside.views.items c.args.other c.replace-taken.result =
    c.replace-taken.ensures.value ∙ c.index_mut.ensures.value ∙ ap (λ d. get_or c.self.inside.views.items c.args.other d) (sym c.replace-taken.ensures.value) in
    kept_joined c.self.inside.log.items c.self.inside.places.items c.self.inside.views.items c.self.invariant c.args.view c.args.other
    c.index_mut-2.result.now c.join.new.self c.replace-taken.result c.replace-taken.new.dest
    (within c.args.view c.requires.there) (within c.args.other c.requires.other_there) c.requires.apart c.requires.not_editor
    c.index_mut-2.ensures.value at (c.replace-taken.ensures.after ∙ c.new_spent.ensures) c.in-Ok.ensures.ok

pub invariant_of-self-in-Err : goal.invariant_of-self-in-Err
invariant_of-self-in-Err g c =
    let within = views_within c.self.inside.log.items c.self.inside.pending c.self.inside.marked.items
    c.self.inside.places.items c.self.inside.views.items c.args.self.now c.self.view_is in
    let at : c.replace-taken.result ≡ get_or c.self.inside.views.items c.args.other c.replace-taken.result =
    c.replace-taken.ensures.value ∙ c.index_mut.ensures.value ∙ ap (λ d. get_or c.self.inside.views.items c.args.other d) (sym c.replace-taken.ensures.value) in
    subst (λ views. IsKept c.self.inside.log.items c.self.inside.places.items views)
    (sym (put_back c.self.inside.views.items c.args.view c.args.other c.index_mut-2.result.now c.join.new.self c.replace-taken.result c.replace-taken.new.dest
    c.requires.apart (within c.args.other c.requires.other_there) c.index_mut-2.ensures.value at c.in-Err.ensures.err))
    c.self.invariant

pub returns-in-Ok-clause-ok : goal.returns-in-Ok-clause-ok
returns-in-Ok-clause-ok g c =
    let at : c.replace-taken.result ≡ get_or c.self.inside.views.items c.args.other c.replace-taken.result =
    c.replace-taken.ensures.value ∙ c.index_mut.ensures.value ∙ ap (λ d. get_or c.self.inside.views.items c.args.other d) (sym c.replace-taken.ensures.value) in
    kept_join c.self.inside.log.items c.self.inside.pending c.self.inside.marked.items c.self.inside.places.items c.self.inside.views.items
    c.args.self.now c.self.view_is c.args.view c.args.other
    c.index_mut-2.result.now c.join.new.self c.replace-taken.result c.replace-taken.new.dest
    c.requires.there c.requires.other_there c.requires.apart c.self.invariant
    c.index_mut-2.ensures.value at (c.replace-taken.ensures.after ∙ c.new_spent.ensures) c.in-Ok.ensures.ok

pub returns-in-Err-clause-err : goal.returns-in-Err-clause-err
returns-in-Err-clause-err g c =
    let within = views_within c.self.inside.log.items c.self.inside.pending c.self.inside.marked.items
    c.self.inside.places.items c.self.inside.views.items c.args.self.now c.self.view_is in
    let at : c.replace-taken.result ≡ get_or c.self.inside.views.items c.args.other c.replace-taken.result =
    c.replace-taken.ensures.value ∙ c.index_mut.ensures.value ∙ ap (λ d. get_or c.self.inside.views.items c.args.other d) (sym c.replace-taken.ensures.value) in
    ap (λ views. kept_state c.self.inside.log.items c.self.inside.pending c.self.inside.marked.items c.self.inside.places.items views)
    (put_back c.self.inside.views.items c.args.view c.args.other c.index_mut-2.result.now c.join.new.self c.replace-taken.result c.replace-taken.new.dest
    c.requires.apart (within c.args.other c.requires.other_there) c.index_mut-2.ensures.value at c.in-Err.ensures.err)
    ∙ c.self.view_is
