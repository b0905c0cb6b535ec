use Rattle.std.proofs.Common.{◌+◌, ◌*◌, sym, ap, ◌∙◌}
use Rattle.std.specs.Mem.Slots.{slots_items}
use Rattle.mark_words.specs.Words.{clean_at}
use Rattle.mark_words.proofs.TableLemmas.{there_or}
use Rattle.mark_words.proofs.closing.Words.clean.Goals as goal

pub returns : goal.returns
returns g c = c.clean_of.ensures ∙ ap clean_at (sym (there_or (slots_items c.args.self.now.closed.words) (3 * c.args.place + 2) c.word.result 0 c.word.ensures))
