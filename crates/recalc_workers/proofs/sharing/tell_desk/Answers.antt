use Rattle.recalc_workers.proofs.SettlingLemmas.{lends}
use Rattle.std.proofs.Common.{subst}
use Rattle.mark_words.specs.declared.tables.Doing.{Doing}
use Rattle.mark_words.specs.Meets.{HasMet}
use Rattle.mark_words.specs.Tokens.{doing_of}
use Rattle.recalc_workers.proofs.sharing.tell_desk.Goals as goal

pub returns-clause-knows : goal.returns-clause-knows
returns-clause-knows g c =
    lends (doing_of c.args.editor.now) _ _ (doing_of c.meet-2.new.seat) c.meet.ensures.met
    (subst (λ (d : Doing _ _). HasMet d (doing_of c.meet.new.seat) (doing_of c.meet-2.new.seat))
    c.meet.ensures.other_kept c.meet-2.ensures.met) c.requires.editor
