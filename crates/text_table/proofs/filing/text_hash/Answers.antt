use Rattle.std.proofs.Common.{◌∙◌, ap, ap₂}
use Rattle.std.specs.Hash.FoldHasher.{finish, write}
use Rattle.text_table.specs.Filing.{hash_of}
use Rattle.text_table.proofs.filing.text_hash.Goals as goal

pub returns : goal.returns
unfolding hash_of
returns c = c.finish.ensures ∙ ap finish (c.write.ensures ∙ ap₂ write c.default-hasher.ensures c.as_bytes.ensures.value)
