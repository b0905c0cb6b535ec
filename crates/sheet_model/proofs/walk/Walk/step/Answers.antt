use Rattle.std.proofs.Common.{◌≡◌, [], ◌∙◌, sym, arith}
use Rattle.std.proofs.lemmas.Bool.Decides.{nat_tests}
use Rattle.sheet_model.specs.Words.{states_of}
use Rattle.sheet_model.proofs.ListLemmas.{empty_list}
use Rattle.sheet_model.proofs.ResultLemmas.{unseen_there}
use Rattle.sheet_model.proofs.walk.Walk.step.Goals as goal

pub begin-requires-clause-unseen : goal.begin-requires-clause-unseen
begin-requires-clause-unseen c =
    let self = c.args.self.now in
    let none : self.frames.items ≡ [] =
    empty_list self.frames.items (grind (arith, nat_tests, self.frames.ok.0, sym c.is_empty.ensures ∙ c.if-is_empty.true)) in
    unseen_there c.args.sheet.now (states_of self.words.items) (rw none at c.requires.sound.walk) c.args.place c.requires.place c.requires.unknown
