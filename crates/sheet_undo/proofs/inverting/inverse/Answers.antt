use Rattle.std.proofs.Common.{◌≡◌, ◌≤◌, ◌+◌, ◌-◌, take, drop, get_or, ap, arith, refl, subst, sym, ◌∙◌}
use Rattle.sheet_model.specs.Edits.{EditValue, IsEdit, IsWholeEdit, replaced_by}
use Rattle.sheet_model.specs.Logs.{after}
use Rattle.sheet_model.specs.declared.entry.Entry.{Entry}
use Rattle.sheet_undo.specs.Found.{IsFirstSharer, SharesNone}
use Rattle.sheet_undo.specs.Undoing.{AreWhole, IsNumbered, before}
use Rattle.sheet_undo.proofs.InverseLemmas.{IsUndone, behind_it, is_undone, lent, numbered_read, overtaken_exactly, replaced_edit, some_answer, told_of}
use Rattle.sheet_undo.proofs.InverseLemmas.{whole_log}
use Rattle.sheet_undo.proofs.UndoLemmas.{never_overtaken, none_numbered, not_overtaken_from, overtaken_from}
use Rattle.sheet_undo.proofs.inverting.inverse.Goals as goal

pub returns-in-Some-clause-overtaken : goal.returns-in-Some-clause-overtaken
returns-in-Some-clause-overtaken c =
    let log = c.args.log.now in
    let number = c.args.number in
    let entry = c.index-log-place.result in
    let some : 1 ≤ number = omega (arith, c.if-number-eq0.false) in
    let numbered : IsNumbered log number entry = numbered_read log number entry some c.if-number-length.false c.index-log-place.is in
    let own : c.changes-own.result.now ≡ entry.edit = c.changes-own.ensures.changes ∙ sym (ap (λ (e : Entry). e.edit) c.index-log-place.is) in
    let found = c.in-Some.found in
    let sharer : IsFirstSharer entry.edit (drop number log) found =
    subst (λ entries. IsFirstSharer entry.edit entries found) (behind_it log number some)
    (subst (λ (edit : EditValue). IsFirstSharer edit (lent log number) found) own c.in-Some.ensures.found) in
    λ by cell differs. overtaken_exactly log number (number + 1 + found.place) found.cell (overtaken_from log number entry found numbered sharer) by cell

pub unwrap-requires : goal.unwrap-requires
unwrap-requires c =
    let whole : IsEdit c.in_ok-held.held.items =
    subst IsEdit (sym c.in_ok-held.ensures.held)
    (replaced_edit (after c.args.opening.now (take (c.args.number - 1) c.args.log.now)) c.changes-own.result.now
    (subst IsEdit (sym c.changes-own.ensures.changes) c.changes-own.ensures.edit)) in
    some_answer (IsEdit c.in_ok-held.held.items) c.of-2.result (λ edit. edit ≡ c.in_ok-held.held.items) c.of-2.ensures whole

pub returns : goal.returns
returns c =
    let log = c.args.log.now in
    let number = c.args.number in
    let entry = c.index-log-place.result in
    let some : 1 ≤ number = omega (arith, c.if-number-eq0.false) in
    let numbered : IsNumbered log number entry = numbered_read log number entry some c.if-number-length.false c.index-log-place.is in
    let read : get_or log (number - 1) entry ≡ entry = sym c.index-log-place.is in
    let own : c.changes-own.result.now ≡ entry.edit = c.changes-own.ensures.changes ∙ ap (λ (e : Entry). e.edit) read in
    let one : IsWholeEdit entry.edit = subst (λ (e : Entry). IsWholeEdit e.edit) read
    (record { edit = c.changes-own.ensures.edit; written = c.changes-own.ensures.written }) in
    let rear : AreWhole (drop number log) = subst AreWhole (behind_it log number some) (c.in_default.ensures.whole refl) in
    let none : SharesNone entry.edit (drop number log) =
    subst (SharesNone entry.edit) (behind_it log number some)
    (subst (λ (edit : EditValue). SharesNone edit (lent log number)) own c.in_default.ensures.found) in
    let held : c.in_ok-held.held.items ≡ replaced_by (before c.args.opening.now log number) entry.edit = c.in_ok-held.ensures.held
    ∙ ap (replaced_by (before c.args.opening.now log number)) own in
    let contents : c.unwrap.result ≡ replaced_by (before c.args.opening.now log number) entry.edit =
    told_of (¬ IsEdit c.in_ok-held.held.items) c.of-2.result c.unwrap.result (λ edit. edit ≡ c.in_ok-held.held.items) c.unwrap.ensures c.of-2.ensures
    ∙ held in
    let all : IsUndone c.args.opening.now log number c.unwrap.result =
    is_undone c.args.opening.now log number entry c.unwrap.result c.of.ensures.sheet c.requires
    (whole_log log number entry numbered c.in_ok-held.ensures.whole one rear) numbered none contents in
    record {
      undoes = all.undoes;
      restores = all.restores;
      redone = all.redone;
      fits = all.fits;
      no_such_edit = λ count. (λ same. absurd (cc), λ has. absurd (none_numbered log number count entry has numbered));
      overtaken = λ by cell differs. (
        λ same. absurd (cc),
        λ is. absurd (never_overtaken log number by cell entry numbered (not_overtaken_from log number entry none) is),
      );
    }
