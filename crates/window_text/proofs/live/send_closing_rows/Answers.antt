use Rattle.std.proofs.Common.{rules}
use Rattle.window_text.proofs.TranscriptLemmas.{last_is_named}
use Rattle.window_text.proofs.live.send_closing_rows.Goals as goal

pub unwrap-last-requires : goal.unwrap-last-requires
unwrap-last-requires g c = c.new-2.ensures.named.1 (last_is_named c.sizes-sizes.result (search rules) (search rules))
