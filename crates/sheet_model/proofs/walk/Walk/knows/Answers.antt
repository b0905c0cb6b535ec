use Rattle.std.proofs.Common.{◌≡◌, slice_get, length, Some, refl, ap, ◌∙◌}
use Rattle.std.proofs.lemmas.Option.{slice_get_read}
use Rattle.value_core.specs.Codes.{is_spare}
use Rattle.sheet_model.proofs.WordLemmas.{known_at, unknown_at}
use Rattle.sheet_model.proofs.walk.Walk.knows.Goals as goal
use Rattle.sheet_model.proofs.walk.Walk.knows.Goals.{After-is_spare}

-- the word that is read
word : (c : After-is_spare) → slice_get c.args.self.now.words.items c.args.place ≡ Some c.index.result.now
word c =
    let words = c.args.self.now.words.items in
    slice_get_read words (length words) c.args.place c.index.result.now refl c.requires c.index.ensures

spare : (c : After-is_spare) → c.is_spare.result ≡ is_spare c.index.result.now
spare c = c.is_spare.ensures ∙ ap is_spare c.new.ensures

pub returns-clause-known : goal.returns-clause-known
returns-clause-known c = known_at c.args.self.now.words.items c.args.place c.index.result.now c.is_spare.result (word c) (spare c)

pub returns-clause-unknown : goal.returns-clause-unknown
returns-clause-unknown c = unknown_at c.args.self.now.words.items c.args.place c.index.result.now c.is_spare.result (word c) (spare c)
