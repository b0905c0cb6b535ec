use Rattle.std.proofs.Common.{◌∙◌, sym, ap, subst, refl}
use Rattle.std.specs.Prelude.{IsTrue}
use Rattle.sheet_refs.specs.Sizes.{is_inside, place_of}
use Rattle.formula_eval.specs.Meaning.{IsNamedBy}
use Rattle.mark_words.specs.Tokens.{subject_of, log_of}
use Rattle.sheet_model.specs.Logs.{after}
use Rattle.sheet_model.specs.Sheets.{IsSheet, content_value, content_of}
use Rattle.sheet_model.specs.Values.{content_references}
use Rattle.sheet_model.proofs.LogLemmas.{after-sizes}
use Rattle.recalc_workers.specs.Inputs.{WasUnread}
use Rattle.recalc_workers.specs.Turns.{HasMetAt}
use Rattle.recalc_workers.proofs.SeatLemmas.{keeps_itself, keeps_on, nothing_done}
use Rattle.recalc_workers.proofs.CauseLemmas.{answer_comes, comes_before, may_claim, met_still, read_as, still_read_as, unread_input, unread_since}
use Rattle.recalc_workers.proofs.WorthLemmas.{listed_codes, listed_words, listed_worth}
use Rattle.recalc_workers.proofs.working.compute.Goals as goal

pub returns-in-Some-clause-comes : goal.returns-in-Some-clause-comes
returns-in-Some-clause-comes g c =
    answer_comes (g.S.SheetSubject.opening (subject_of c.args.marks.now)) c.args.cell c.args.desk.now.seat
    c.read_place-read.new.seat c.place_of_cell-place.result c.read_place-read.result c.args.task.length
    c.in-Some.turn
    (c.place_of_cell-place.ensures.place ∙ ap (λ s. place_of s c.args.cell) c.requires.sizes) c.args.desk.now.free
    c.read_place-read.ensures.read c.in-Some.ensures.answer

pub on_unread-requires-clause-input : goal.on_unread-requires-clause-input
on_unread-requires-clause-input g c κs within =
    let opening = g.S.SheetSubject.opening (subject_of c.args.marks.now) in
    let log = c.in-Err.ensures.only.log ∙ c.read_place-read.ensures.read.log in
    unread_input (after opening (log_of c.read_inputs.new.seat)) c.args.sizes (content_value c.args.task.content)
    c.args.cell c.read_place-read.new.seat c.read_inputs.new.seat c.args.task.length c.in-Err.unread
    (after-sizes opening (log_of c.read_inputs.new.seat) ∙ sym c.requires.sizes)
    (c.requires.task.content_is ∙ ap (λ l. content_of (after opening l) c.args.cell) (sym log)) c.in-Err.ensures.stops

pub returns-in-Err-clause-comes : goal.returns-in-Err-clause-comes
returns-in-Err-clause-comes g c =
    let opening = g.S.SheetSubject.opening (subject_of c.args.marks.now) in
    let s0 = c.args.desk.now.seat in
    let s1 = c.read_place-read.new.seat in
    let s2 = c.read_inputs.new.seat in
    comes_before opening c.args.cell s0 s2 c.on_unread.new.seat (λ start. HasMetAt start s0 c.args.task.length)
    (λ start. HasMetAt start s2 c.args.task.length × WasUnread c.args.sizes start s2 c.args.task.length c.in-Err.unread) c.on_unread.result
    (keeps_on s0 s1 s2 c.read_place-read.ensures.read.keeps c.in-Err.ensures.only.keeps)
    (nothing_done s0 s1 s2 c.read_place-read.ensures.read.idle c.in-Err.ensures.only.idle)
    (λ start still given. (
      met_still start s0 s2 c.args.task.length given (keeps_on s0 s1 s2 c.read_place-read.ensures.read.keeps c.in-Err.ensures.only.keeps),
      unread_since c.args.sizes (λ input. IsNamedBy (content_references (content_value c.args.task.content)) input)
          start s1 s2 c.args.task.length c.in-Err.unread
          (keeps_on start s0 s1 still.keeps c.read_place-read.ensures.read.keeps) c.in-Err.ensures.stops,
    ))
    c.on_unread.ensures.comes

pub evaluate-word-requires-clause-codes : goal.evaluate-word-requires-clause-codes
evaluate-word-requires-clause-codes g c =
    let subject = subject_of c.args.marks.now in
    let opening = g.S.SheetSubject.opening subject in
    listed_codes opening (g.S.Subject.places subject) (g.S.Subject.worth subject) c.is_of_sheet.ensures
    (log_of c.read_place-read.new.seat) c.args.cell c.place_of_cell-place.result
    (c.place_of_cell-place.ensures.place ∙ ap (λ s. place_of s c.args.cell) c.requires.sizes)
    (subst (λ s. IsTrue (is_inside s c.args.cell)) c.requires.sizes c.requires.inside)
    (subst (λ l. IsSheet (after opening l)) (sym c.read_place-read.ensures.read.log) c.requires.task.sheet) c.args.sizes
    c.requires.sizes (content_value c.args.task.content)
    (c.requires.task.content_is
    ∙ ap (λ l. content_of (after opening l) c.args.cell) (sym c.read_place-read.ensures.read.log))
    c.read_inputs.new.list c.in_default-read_inputs.ensures.listed

pub evaluate-word-requires-clause-known : goal.evaluate-word-requires-clause-known
evaluate-word-requires-clause-known g c =
    let subject = subject_of c.args.marks.now in
    let opening = g.S.SheetSubject.opening subject in
    listed_words opening (g.S.Subject.places subject) (g.S.Subject.worth subject) c.is_of_sheet.ensures
    (log_of c.read_place-read.new.seat) c.args.cell c.place_of_cell-place.result
    (c.place_of_cell-place.ensures.place ∙ ap (λ s. place_of s c.args.cell) c.requires.sizes)
    (subst (λ s. IsTrue (is_inside s c.args.cell)) c.requires.sizes c.requires.inside)
    (subst (λ l. IsSheet (after opening l)) (sym c.read_place-read.ensures.read.log) c.requires.task.sheet) c.args.sizes
    c.requires.sizes (content_value c.args.task.content)
    (c.requires.task.content_is
    ∙ ap (λ l. content_of (after opening l) c.args.cell) (sym c.read_place-read.ensures.read.log))
    c.read_inputs.new.list c.in_default-read_inputs.ensures.listed

pub finish-requires-clause-claim : goal.finish-requires-clause-claim
finish-requires-clause-claim g c κs within =
    let s0 = c.args.desk.now.seat in
    let s1 = c.read_place-read.new.seat in
    let s2 = c.read_inputs.new.seat in
    may_claim s0 s2 c.place_of_cell-place.result c.args.task.length c.read_place-read.result
    (still_read_as s0 s1 s2 c.place_of_cell-place.result c.read_place-read.result
    (read_as s0 s0 s1 c.place_of_cell-place.result c.read_place-read.result (keeps_itself s0)
    c.read_place-read.ensures.read) c.in_default-read_inputs.ensures.only.keeps)
    c.read_place-read.ensures.tells.upto (c.in_default.ensures.due refl)

pub finish-requires-clause-worth : goal.finish-requires-clause-worth
finish-requires-clause-worth g c κs within =
    let subject = subject_of c.args.marks.now in
    let opening = g.S.SheetSubject.opening subject in
    ap (λ l. g.S.Subject.worth subject l c.place_of_cell-place.result) c.in_default-read_inputs.ensures.only.log
    ∙ listed_worth opening (g.S.Subject.places subject) (g.S.Subject.worth subject) c.is_of_sheet.ensures
    (log_of c.read_place-read.new.seat) c.args.cell c.place_of_cell-place.result
    (c.place_of_cell-place.ensures.place ∙ ap (λ s. place_of s c.args.cell) c.requires.sizes)
    (subst (λ s. IsTrue (is_inside s c.args.cell)) c.requires.sizes c.requires.inside)
    (subst (λ l. IsSheet (after opening l)) (sym c.read_place-read.ensures.read.log) c.requires.task.sheet) c.args.sizes
    c.requires.sizes (content_value c.args.task.content)
    (c.requires.task.content_is
    ∙ ap (λ l. content_of (after opening l) c.args.cell) (sym c.read_place-read.ensures.read.log))
    c.read_inputs.new.list c.in_default-read_inputs.ensures.listed
    c.evaluate-word.result c.evaluate-word.ensures

pub returns-clause-comes : goal.returns-clause-comes
returns-clause-comes g c =
    let opening = g.S.SheetSubject.opening (subject_of c.args.marks.now) in
    let s0 = c.args.desk.now.seat in
    let s1 = c.read_place-read.new.seat in
    let s2 = c.read_inputs.new.seat in
    comes_before opening c.args.cell s0 s2 c.finish.new.seat (λ start. HasMetAt start s0 c.args.task.length) _ c.finish.result
    (keeps_on s0 s1 s2 c.read_place-read.ensures.read.keeps c.in_default-read_inputs.ensures.only.keeps)
    (nothing_done s0 s1 s2 c.read_place-read.ensures.read.idle c.in_default-read_inputs.ensures.only.idle)
    (λ start still given. still_read_as start s1 s2 c.place_of_cell-place.result c.read_place-read.result
    (read_as start s0 s1 c.place_of_cell-place.result c.read_place-read.result still.keeps
    c.read_place-read.ensures.read) c.in_default-read_inputs.ensures.only.keeps)
    c.finish.ensures.comes
