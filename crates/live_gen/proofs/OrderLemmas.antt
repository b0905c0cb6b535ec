-- Logs with the same edits of each client.
use Rattle.std.proofs.Common.{◌≡◌, ◌≢◌, ⊎_elim, ℕ, List, [], ◌∷◌, ◌++◌, Contains, length, arith, refl, sym, ◌∙◌, ap, subst}
use Rattle.std.proofs.lemmas.Bool.{cases_eq, eq-eqb, ne_eqb}
use Rattle.std.proofs.lemmas.List.{length-append}
use Rattle.sheet_model.specs.Edits.{EditValue, after_edit}
use Rattle.sheet_model.specs.Logs.{after}
use Rattle.sheet_model.specs.Sheets.{SheetValue}
use Rattle.sheet_model.specs.declared.entry.Entry.{Entry}
use Rattle.sheet_model.proofs.ListMembers.{first_member, later_member, no_member}
use Rattle.sheet_model.proofs.EditLemmas.{first_or_later}
use Rattle.live_run.specs.Legal.{edits_by}
use Rattle.live_gen.specs.Apart.{LogIsApart, HaveSameEdits}
use Rattle.live_gen.proofs.SwapLemmas.{DiffersFrom, entry_first}

-- the edits of a client in a longer log
pub by_own : (client : ℕ) (entry : Entry) (log : List Entry) → entry.client ≡ client → edits_by client (entry ∷ log) ≡ entry.edit ∷ edits_by client log
by_own client entry log is = rw (eq-eqb entry.client client is) refl

pub by_other : (client : ℕ) (entry : Entry) (log : List Entry) → entry.client ≢ client → edits_by client (entry ∷ log) ≡ edits_by client log
by_other client entry log not = rw (ne_eqb entry.client client not) refl

-- an entry's edit is among its client's
pub edit_there : (log : List Entry) (entry : Entry) → Contains log entry → Contains (edits_by entry.client log) entry.edit
edit_there [] entry there = absurd (no_member entry there)
edit_there (e ∷ log) entry there =
    ⊎_elim
    (λ (same : e.client ≡ entry.client).
    subst (λ (l : List EditValue). Contains l entry.edit) (sym (by_own entry.client e log same))
    (⊎_elim
    (λ (is : e ≡ entry). subst (λ (x : Entry). Contains (e.edit ∷ edits_by entry.client log) x.edit) is (first_member e.edit (edits_by entry.client log)))
    (λ later. later_member e.edit entry.edit (edits_by entry.client log) (edit_there log entry later))
    (first_or_later entry e log there)))
    (λ other.
    subst (λ (l : List EditValue). Contains l entry.edit) (sym (by_other entry.client e log other))
    (⊎_elim
    (λ (is : e ≡ entry). absurd (other (ap (λ (x : Entry). x.client) is)))
    (λ later. edit_there log entry later)
    (first_or_later entry e log there)))
    (cases_eq e.client entry.client)

-- where a client has an edit in a log, its first entry stands there, behind entries of others
pub record FirstOf (client : ℕ) (log : List Entry) (edit : EditValue) : Type 0 where
  pub before : List Entry
  pub entry : Entry
  pub rest : List Entry
  pub split : log ≡ before ++ entry ∷ rest
  pub whose : entry.client ≡ client
  pub edit_is : entry.edit ≡ edit
  pub others : (e : Entry) → Contains before e → e.client ≢ client

first_of : (client : ℕ) (log : List Entry) (edit : EditValue) (edits : List EditValue) → edits_by client log ≡ edit ∷ edits → FirstOf client log edit
first_of client [] edit edits is = absurd (cc)
first_of client (e ∷ log) edit edits is =
    ⊎_elim
    (λ (own : e.client ≡ client).
    let all : e.edit ∷ edits_by client log ≡ edit ∷ edits = sym (by_own client e log own) ∙ is in
    let first : e.edit ≡ edit = cc in
    record { before = []; entry = e; rest = log; split = refl; whose = own; edit_is = first; others = λ x there. absurd (no_member x there) })
    (λ other.
    let found = first_of client log edit edits (sym (by_other client e log other) ∙ is) in
    record {
      before = e ∷ found.before;
      entry = found.entry;
      rest = found.rest;
      split = ap (λ (l : List Entry). e ∷ l) found.split;
      whose = found.whose;
      edit_is = found.edit_is;
      others = λ x there. ⊎_elim (λ (same : e ≡ x). subst (λ (y : Entry). y.client ≢ client) same other) (λ later. found.others x later)
          (first_or_later x e found.before there);
    })
    (cases_eq e.client client)

-- a log without its client's first entry
without_own : (client : ℕ) (before rest : List Entry) (entry : Entry) → entry.client ≡ client → ((e : Entry) → Contains before e → e.client ≢ client)
    → edits_by client (before ++ entry ∷ rest) ≡ entry.edit ∷ edits_by client (before ++ rest)
without_own client [] rest entry own others = by_own client entry rest own
without_own client (e ∷ before) rest entry own others =
    let other : e.client ≢ client = others e (first_member e before) in
    by_other client e (before ++ entry ∷ rest) other
    ∙ without_own client before rest entry own (λ x there. others x (later_member e x before there))
    ∙ ap (λ (l : List EditValue). entry.edit ∷ l) (sym (by_other client e (before ++ rest) other))

without_other : (client : ℕ) (before rest : List Entry) (entry : Entry) → entry.client ≢ client
    → edits_by client (before ++ entry ∷ rest) ≡ edits_by client (before ++ rest)
without_other client [] rest entry other = by_other client entry rest other
without_other client (e ∷ before) rest entry other =
    ⊎_elim
    (λ (own : e.client ≡ client).
    by_own client e (before ++ entry ∷ rest) own
    ∙ ap (λ (l : List EditValue). e.edit ∷ l) (without_other client before rest entry other)
    ∙ sym (by_own client e (before ++ rest) own))
    (λ not.
    by_other client e (before ++ entry ∷ rest) not
    ∙ without_other client before rest entry other
    ∙ sym (by_other client e (before ++ rest) not))
    (cases_eq e.client client)

same_rest : (x : EditValue) (a b : List EditValue) → x ∷ a ≡ x ∷ b → a ≡ b
same_rest x a b is = cc

-- A log, and another one with the same edits of each client: the first entry of the one stands in the other behind entries of
-- other clients, and what is left of both has the same edits of each client.
pub record Found (entry : Entry) (log other : List Entry) : Type 0 where
  pub before : List Entry
  pub there : Entry
  pub rest : List Entry
  pub split : other ≡ before ++ there ∷ rest
  pub whose : there.client ≡ entry.client
  pub edit_is : there.edit ≡ entry.edit
  pub others : (e : Entry) → Contains before e → e.client ≢ entry.client
  pub same : HaveSameEdits log (before ++ rest)

pub found_in : (entry : Entry) (log other : List Entry) → HaveSameEdits (entry ∷ log) other → Found entry log other
found_in entry log other same = record {
  before = first.before;
  there = first.entry;
  rest = first.rest;
  split = first.split;
  whose = first.whose;
  edit_is = first.edit_is;
  others = first.others;
  same = left;
}
  where
    first : FirstOf entry.client other entry.edit
    first = first_of entry.client other entry.edit (edits_by entry.client log) (sym (same entry.client) ∙ by_own entry.client entry log refl)

    left : HaveSameEdits log (first.before ++ first.rest)
    left client =
        ⊎_elim
        (λ (own : entry.client ≡ client).
        let whose : first.entry.client ≡ client = first.whose ∙ own in
        let others : (e : Entry) → Contains first.before e
        → e.client ≢ client = subst (λ (k : ℕ). (e : Entry) → Contains first.before e → e.client ≢ k) own first.others in
        let here : edits_by client other ≡ first.entry.edit ∷ edits_by client (first.before ++ first.rest) =
        ap (edits_by client) first.split ∙ without_own client first.before first.rest first.entry whose others in
        let both : entry.edit ∷ edits_by client log ≡ entry.edit ∷ edits_by client (first.before ++ first.rest) =
        sym (by_own client entry log own) ∙ same client ∙ here ∙ ap (λ (x : EditValue). x ∷ edits_by client (first.before ++ first.rest)) first.edit_is in
        same_rest entry.edit (edits_by client log) (edits_by client (first.before ++ first.rest)) both)
        (λ other_client.
        let not : first.entry.client ≢ client = λ is. other_client (sym first.whose ∙ is) in
        sym (by_other client entry log other_client) ∙ same client ∙ ap (edits_by client) first.split ∙ without_other client first.before first.rest
        first.entry not)
        (cases_eq entry.client client)

-- a log has no entries where no client has edits
no_entries : (log : List Entry) → HaveSameEdits [] log → log ≡ []
no_entries [] same = refl
no_entries (e ∷ log) same = let own = by_own e.client e log refl in let here = same e.client in absurd (cc)

-- two such logs are of one length
pub as_many : (a b : List Entry) → HaveSameEdits a b → length a ≡ length b
as_many [] b same = ap length (sym (no_entries b same))
as_many (e ∷ a) b same =
    let found = found_in e a b same in
    let rest : length a ≡ length (found.before ++ found.rest) = as_many a (found.before ++ found.rest) found.same in
    let all : length b ≡ length (found.before ++ found.there ∷ found.rest) = ap length found.split in
    omega (arith, rest, all, length-append found.before found.rest, length-append found.before (found.there ∷ found.rest))

-- what is left of a log whose clients are apart
rest_apart : (e : Entry) (log : List Entry) → LogIsApart (e ∷ log) → LogIsApart log
rest_apart e log apart a b x y p q differ in_a in_b = apart a b x y p q differ (more a x in_a) (more b y in_b)
  where
    more : (client : ℕ) (x : EditValue) → Contains (edits_by client log) x → Contains (edits_by client (e ∷ log)) x
    more client x there =
        ⊎_elim
        (λ (own : e.client ≡ client). subst (λ (l : List EditValue). Contains l x) (sym (by_own client e log own))
        (later_member e.edit x (edits_by client log) there))
        (λ other. subst (λ (l : List EditValue). Contains l x) (sym (by_other client e log other)) there)
        (cases_eq e.client client)

in_front : {A : Type 0} (xs ys : List A) (x : A) → Contains xs x → Contains (xs ++ ys) x
in_front [] ys x there = absurd (no_member x there)
in_front (a ∷ xs) ys x there = ⊎_elim (λ (same : a ≡ x). subst (λ z. Contains (a ∷ (xs ++ ys)) z) same (first_member a (xs ++ ys)))
    (λ later. later_member a x (xs ++ ys) (in_front xs ys x later)) (first_or_later x a xs there)

-- clients that are apart leave one sheet, whatever the order
pub order_free : (opening : SheetValue) (a b : List Entry) → LogIsApart a → HaveSameEdits a b → after opening a ≡ after opening b
order_free opening [] b apart same = ap (after opening) (sym (no_entries b same))
order_free opening (e ∷ a) b apart same =
    order_free (after_edit opening e.edit) a (found.before ++ found.rest) (rest_apart e a apart) found.same
    ∙ ap (λ (x : EditValue). after (after_edit opening x) (found.before ++ found.rest)) (sym found.edit_is)
    ∙ sym (entry_first opening found.before found.rest found.there differs)
    ∙ ap (after opening) (sym found.split)
  where
    found : Found e a b
    found = found_in e a b same

    differs : (other : Entry) → Contains found.before other → DiffersFrom other.edit found.there.edit
    differs other there p q in_p in_q =
        let in_b : Contains b other = subst (λ (l : List Entry). Contains l other) (sym found.split)
        (in_front found.before (found.there ∷ found.rest) other there) in
        let theirs : Contains (edits_by other.client (e ∷ a)) other.edit = subst (λ (l : List EditValue). Contains l other.edit) (sym (same other.client))
        (edit_there b other in_b) in
        let ours : Contains (edits_by e.client (e ∷ a)) e.edit = edit_there (e ∷ a) e (first_member e a) in
        apart other.client e.client other.edit e.edit p q (found.others other there) theirs ours in_p
        (subst (λ (x : EditValue). Contains x q) found.edit_is in_q)
