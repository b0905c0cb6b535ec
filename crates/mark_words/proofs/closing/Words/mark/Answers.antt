use Rattle.std.proofs.Common.{◌+◌, ◌*◌, sym}
use Rattle.std.specs.Mem.Slots.{slots_items}
use Rattle.mark_words.proofs.TableLemmas.{there_or}
use Rattle.mark_words.proofs.closing.Words.mark.Goals as goal

pub returns : goal.returns
returns g c = sym (there_or (slots_items c.args.self.now.closed.words) (3 * c.args.place + 1) c.word.result 0 c.word.ensures)
