-- That every list of lawful calls leads to some entries.
use Rattle.std.proofs.Common.{◌≡◌, ◌≢◌, ◌↔◌, ◌⊎◌, inl, inr, ℕ, ◌==◌, cond, not, Bool, true, false, List, [], ◌∷◌, None, refl, sym, ◌∙◌, ap, subst, arith}
use Rattle.std.specs.List.{Contains, filter}
use Rattle.std.proofs.lemmas.Bool.Decides.{eqb_tells}
use Rattle.std.proofs.lemmas.Option.{none-some}
use Rattle.std.proofs.lemmas.List.Elements.{Contains-append_left, Contains-append_right, Contains-append_cases, Contains-push, Contains-push_cases}
use Rattle.sheet_refs.specs.Cells.{Corners}
use Rattle.range_index.specs.Entries.{Entry, entry_of, HasNoId, Inserts, Removes, ChangesRange}
use Rattle.range_index.specs.Laws.{Call, After, AreLawful, Does, MayBeMade, id_of, last_range}
use Rattle.range_index.specs.Laws.Call.{insertion, removal, change}
use Rattle.range_index.proofs.LawLemmas.{entries_last}

-- ---- lists with one element more

first_or_later : (y x : Entry) (xs : List Entry) → Contains (y ∷ xs) x → (y ≡ x) ⊎ Contains xs x
first_or_later y x xs there = elim (Contains-append_cases (y ∷ []) xs x there) [
  | inl first ↦ elim (Contains-push_cases [] y x first) [ inl none ↦ absurd (omega (arith, none.1)) | inr is ↦ inl is ]
  | inr later ↦ inr later
]

first : (x : Entry) (xs : List Entry) → Contains (x ∷ xs) x
first x xs = Contains-append_left (x ∷ []) xs x (Contains-push [] x)

later : (y x : Entry) (xs : List Entry) → Contains xs x → Contains (y ∷ xs) x
later y x xs there = Contains-append_right (y ∷ []) xs x there

-- ---- the entries of all ids but one

abbrev others : ℕ → List Entry → List Entry
others id entries = filter (λ entry. not (entry.id == id)) entries

others_are : (id : ℕ) (entries : List Entry) → Removes entries (others id entries) id
others_are id [] entry = (λ there. absurd (omega (arith, there.1)), λ stood. stood.1)
others_are id (e ∷ entries) entry = by_id (eqb_tells e.id id) (others_are id entries entry)
  where
    by_id : (((e.id == id) ≡ true) × (e.id ≡ id)) ⊎ (((e.id == id) ≡ false) × (e.id ≢ id))
        → Contains (others id entries) entry ↔ ((entry.id ≢ id) × Contains entries entry)
        → Contains (others id (e ∷ entries)) entry ↔ ((entry.id ≢ id) × Contains (e ∷ entries) entry)
    by_id (inl (equal, same)) known =
        let gone : others id (e ∷ entries) ≡ others id entries = ap (λ (b : Bool). cond (not b) (e ∷ others id entries) (others id entries)) equal in (
          λ there. let stood = known.0 (subst (λ (es : List Entry). Contains es entry) gone there) in (stood.0, later e entry entries stood.1),
          λ stood. subst (λ (es : List Entry). Contains es entry) (sym gone) (known.1 (
            stood.0,
            elim (first_or_later e entry entries stood.1) [
              | inl is ↦ absurd (stood.0 (sym (ap (λ (x : Entry). x.id) is) ∙ same))
              | inr there ↦ there
            ],
          )),
        )
    by_id (inr (unequal, differ)) known =
        let stays : others id (e ∷ entries) ≡ e ∷ others id entries = ap (λ (b : Bool). cond (not b) (e ∷ others id entries) (others id entries)) unequal in (
          λ there. elim (first_or_later e entry (others id entries) (subst (λ (es : List Entry). Contains es entry) stays there)) [
            | inl is ↦ (subst (λ (x : Entry). x.id ≢ id) is differ, subst (λ (x : Entry). Contains (e ∷ entries) x) is (first e entries))
            | inr more ↦ let stood = known.0 more in (stood.0, later e entry entries stood.1)
          ],
          λ stood. subst (λ (es : List Entry). Contains es entry) (sym stays) (elim (first_or_later e entry entries stood.1) [
            | inl is ↦ subst (λ (x : Entry). Contains (e ∷ others id entries) x) is (first e (others id entries))
            | inr more ↦ later e entry (others id entries) (known.1 (stood.0, more))
          ]),
        )

-- ---- what each call leads to

inserted : (entries : List Entry) (id : ℕ) (range : Corners) → Inserts entries (entry_of id range ∷ entries) id range
inserted entries id range entry = (
  λ there. elim (first_or_later (entry_of id range) entry entries there) [ inl is ↦ inr (sym is) | inr before ↦ inl before ],
  λ is. elim is [
    | inl before ↦ later (entry_of id range) entry entries before
    | inr same ↦ subst (λ (e : Entry). Contains (entry_of id range ∷ entries) e) (sym same) (first (entry_of id range) entries)
  ],
)

changed : (entries : List Entry) (id : ℕ) (range : Corners) → ChangesRange entries (entry_of id range ∷ others id entries) id range
changed entries id range entry = (
  λ there. elim ((inserted (others id entries) id range entry).0 there) [ inl other ↦ inl ((others_are id entries entry).0 other) | inr is ↦ inr is ],
  λ is. (inserted (others id entries) id range entry).1 (elim is [ inl stood ↦ inl ((others_are id entries entry).1 stood) | inr same ↦ inr same ]),
)

absent : (calls : List Call) (entries : List Entry) (id : ℕ) → After calls entries → last_range calls id ≡ None → HasNoId entries id
absent calls entries id after none entry there same =
    none-some entry.range (sym none
    ∙ (entries_last calls entries id entry.range after).0
    (subst (λ (i : ℕ). Contains entries (entry_of i entry.range)) same there))

leads_on : (call : Call) (calls : List Call) (entries : List Entry) → After calls entries
    → MayBeMade call (last_range calls (id_of call)) → (new : List Entry) × Does call entries new
leads_on (insertion id range) calls entries after none = (entry_of id range ∷ entries, (absent calls entries id after none, inserted entries id range))
leads_on (removal id) calls entries after some = (others id entries, others_are id entries)
leads_on (change id range) calls entries after some = (entry_of id range ∷ others id entries, changed entries id range)

pub have_entries : (calls : List Call) → AreLawful calls → (entries : List Entry) × After calls entries
have_entries [] lawful = ([], refl)
have_entries (call ∷ calls) (may, lawful) =
    let before = have_entries calls lawful in let next = leads_on call calls before.0 before.1 may in (next.0, (before.0, before.1, next.1))
