use Rattle.live_sheet.proofs.valuing.valued_at.Goals as goal

pub code_in-word-requires-clause-code : goal.code_in-word-requires-clause-code
code_in-word-requires-clause-code c =
    c.codes.ensures c.args.sheet.now c.args.cell c.requires.kept c.requires.inside c.requires.held

pub returns : goal.returns
returns c = record { valued = record { inside = c.requires.inside; code = c.code_in-word.ensures.code } }
