use Rattle.std.proofs.Common.{◌∙◌, ap, arith, refl, sym}
use Rattle.csv_sheet.specs.Headings.{heading_of}
use Rattle.csv_sheet.proofs.LoadLemmas.{headed_from, unheaded_from, records_plain}
use Rattle.csv_sheet.proofs.loading.load_text.Goals as goal

pub returns-in_default : goal.returns-in_default
returns-in_default g c = λ other. unheaded_from c.args.text.now _ (ap heading_of (sym c.behind_marks.ensures) ∙ c.in_default.ensures) refl

pub load_records-requires-clause-no_marks : goal.load_records-requires-clause-no_marks
load_records-requires-clause-no_marks g c =
    let is = ap heading_of (sym c.behind_marks.ensures) ∙ c.in-Some.ensures in
    (records_plain c.args.text.now _ is).0

pub load_records-requires-clause-short : goal.load_records-requires-clause-short
load_records-requires-clause-short g c =
    let is = ap heading_of (sym c.behind_marks.ensures) ∙ c.in-Some.ensures in
    omega (arith, (records_plain c.args.text.now _ is).1, c.requires)

pub returns : goal.returns
returns g c = λ other.
    let is = ap heading_of (sym c.behind_marks.ensures) ∙ c.in-Some.ensures in
    headed_from c.args.text.now _ c.load_records.result is (c.load_records.ensures other)
