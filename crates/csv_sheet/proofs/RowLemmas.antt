-- Records with one record more.
use Rattle.std.proofs.Common.{◌≡◌, ℕ, ◌+◌, ◌-◌, ◌<◌, ◌≤◌, List, [], ◌∷◌, ◌++◌, length, get_or, inl, inr, refl, sym, ◌∙◌, ap, subst, arith, length-append}
use Rattle.std.specs.Prelude.{fold, max}
use Rattle.std.proofs.Math.ListN.{get_or-append}
use Rattle.std.proofs.Math.Nat.{max-zero, zero-max}
use Rattle.std.proofs.Math.Seq.{get_or-append_right, get_or-append_seam}
use Rattle.std.proofs.lemmas.Bool.{cases_order}
use Rattle.std.proofs.lemmas.List.{get_or_past}
use Rattle.std.proofs.lemmas.List.Elements.{All-push}
use Rattle.std.proofs.lemmas.List.Sums.{fold-append}
use Rattle.csv.specs.Records.{AllText}
use Rattle.sheet_refs.specs.Cells.{Position}
use Rattle.csv_sheet.specs.Records.{Rows, fields_at, field_at, cell_there, longest}
use Rattle.csv_sheet.specs.Results.{AreText, IsFirstNotText, IsFirstField, NoField, IsPlaceBefore}

module _ (rows : Rows) (more : List (List ℕ)) where
  pub length-more : length (rows ++ more ∷ []) ≡ length rows + 1
  length-more = length-append rows (more ∷ [])

  -- the fields of an old record, of the new one, and of none
  pub old_fields : (row : ℕ) → row < length rows → fields_at (rows ++ more ∷ []) row ≡ fields_at rows row
  old_fields row within = get_or-append rows (more ∷ []) [] row within

  pub new_fields : fields_at (rows ++ more ∷ []) (length rows) ≡ more
  new_fields = get_or-append_seam rows more [] []

  pub no_fields : (row : ℕ) → length rows < row → fields_at (rows ++ more ∷ []) row ≡ []
  no_fields row past = get_or_past (rows ++ more ∷ []) row [] (let e = length-more in omega (arith, e, past))

  -- the longest of them
  pub longest-more : longest (rows ++ more ∷ []) ≡ max (longest rows) (length more)
  longest-more = fold-append (λ most fields. max most (length fields)) 0 rows (more ∷ [])

  pub text_more : AreText rows → AllText more → AreText (rows ++ more ∷ [])
  text_more text new = All-push AllText rows more text new

  pub not_text_longer : (number : ℕ) → IsFirstNotText rows number → IsFirstNotText (rows ++ more ∷ []) number
  not_text_longer number first = record {
    row = first.row;
    number_is = first.number_is;
    there = (let e = length-more in let t = first.there in omega (arith, e, t));
    not_text = λ text. first.not_text (subst AllText (old_fields first.row first.there) text);
    before = λ k earlier. subst AllText (sym (old_fields k (let t = first.there in omega (arith, t, earlier)))) (first.before k earlier);
  }

  pub not_text_new : AreText rows → ¬ AllText more → IsFirstNotText (rows ++ more ∷ []) (length rows + 1)
  not_text_new text not = record {
    row = length rows;
    number_is = refl;
    there = (let e = length-more in omega (arith, e));
    not_text = λ is. not (subst AllText new_fields is);
    before = λ k earlier. subst AllText (sym (old_fields k earlier)) (text k [] earlier);
  }

  module _ (P : List ℕ → Type 0) where
    pub none_more : NoField P rows → ((col : ℕ) → col < length more → ¬ P (get_or more col [])) → NoField P (rows ++ more ∷ [])
    none_more none new row col within holds = elim (cases_order row (length rows)) [
      | inl at ↦
          let same : fields_at (rows ++ more ∷ []) row ≡ more = ap (λ r. fields_at (rows ++ more ∷ []) r) at ∙ new_fields in
          new col (subst (λ fs. col < length fs) same within) (subst (λ fs. P (get_or fs col [])) same holds)
      | inr apart ↦ elim apart [
        | inl before ↦
            none row col (subst (λ fs. col < length fs) (old_fields row before) within) (subst (λ fs. P (get_or fs col [])) (old_fields row before) holds)
        | inr past ↦
            let nothing : col < length {A = List ℕ} [] = subst (λ fs. col < length fs) (no_fields row past) within in
            omega (arith, nothing)
      ]
    ]

    old_row : (row col : ℕ) → col < length (fields_at rows row) → row < length rows
    old_row row col within = elim (cases_order row (length rows)) [
      | inl at ↦
          let nothing : col < length {A = List ℕ} [] = subst (λ fs. col < length fs) (get_or_past rows row [] (omega (arith, at))) within in
          omega (arith, nothing)
      | inr apart ↦ elim apart [
        | inl before ↦ before
        | inr past ↦
            let nothing : col < length {A = List ℕ} [] = subst (λ fs. col < length fs) (get_or_past rows row [] (omega (arith, past))) within in
            omega (arith, nothing)
      ]
    ]

    pub first_longer : (cell : Position) → IsFirstField P rows cell → IsFirstField P (rows ++ more ∷ []) cell
    first_longer cell first =
        let inside = old_row first.row first.col first.there in
        record {
          row = first.row;
          col = first.col;
          cell_is = first.cell_is;
          there = subst (λ fs. first.col < length fs) (sym (old_fields first.row inside)) first.there;
          is = subst (λ fs. P (get_or fs first.col [])) (sym (old_fields first.row inside)) first.is;
          before = λ r c earlier within holds.
              let old = earlier_row r c first.row first.col earlier inside in
              first.before r c earlier (subst (λ fs. c < length fs) (old_fields r old) within) (subst (λ fs. P (get_or fs c [])) (old_fields r old) holds);
        }
      where
        earlier_row : (r c row col : ℕ) → IsPlaceBefore r c row col → row < length rows → r < length rows
        earlier_row r c row col (inl less) inside = omega (arith, less, inside)
        earlier_row r c row col (inr same) inside = let e = same.0 in omega (arith, e, inside)

    pub first_new : (col : ℕ) → NoField P rows → col < length more → P (get_or more col []) → ((c : ℕ) → c < col → ¬ P (get_or more c []))
        → IsFirstField P (rows ++ more ∷ []) (cell_there (length rows) col)
    first_new col none within is earlier = record {
      row = length rows;
      col = col;
      cell_is = refl;
      there = subst (λ fs. col < length fs) (sym new_fields) within;
      is = subst (λ fs. P (get_or fs col [])) (sym new_fields) is;
      before = λ r c before inside holds. by r c before inside holds;
    }
      where
        by : (r c : ℕ) → IsPlaceBefore r c (length rows) col → c < length (fields_at (rows ++ more ∷ []) r) → ¬ P (field_at (rows ++ more ∷ []) r c)
        by r c (inl less) inside holds =
            none r c (subst (λ fs. c < length fs) (old_fields r less) inside) (subst (λ fs. P (get_or fs c [])) (old_fields r less) holds)
        by r c (inr same) inside holds =
            let at : fields_at (rows ++ more ∷ []) r ≡ more = ap (λ k. fields_at (rows ++ more ∷ []) k) same.0 ∙ new_fields in
            earlier c same.1 (subst (λ fs. P (get_or fs c [])) at holds)

max_thrice : (a b c : ℕ) → max (max a b) c ≡ max a (max b c)
max_thrice a b c = omega arith

-- the longest of records and of those behind them
longest_on : (most : ℕ) (rows : Rows) → fold (λ m fields. max m (length fields)) most rows ≡ max most (longest rows)
longest_on most [] = sym (max-zero most)
longest_on most (fields ∷ rest) =
    longest_on (max most (length fields)) rest ∙ max_thrice most (length fields) (longest rest)
    ∙ ap (λ m. max most m) (sym (longest_on (max 0 (length fields)) rest ∙ ap (λ m. max m (longest rest)) (zero-max (length fields))))

pub longest_both : (front back : Rows) → longest (front ++ back) ≡ max (longest front) (longest back)
longest_both front back = fold-append (λ m fields. max m (length fields)) 0 front back ∙ longest_on (longest front) back

-- of no field of either is something true
pub none_both : (P : List ℕ → Type 0) (front back : Rows) → NoField P front → NoField P back → NoField P (front ++ back)
none_both P front back first second row col within holds = elim (cases_order row (length front)) [
  | inl at ↦ later (omega (arith, at))
  | inr apart ↦ elim apart [
    | inl before ↦
        let same : fields_at (front ++ back) row ≡ fields_at front row = get_or-append front back [] row before in
        first row col (subst (λ fs. col < length fs) same within) (subst (λ fs. P (get_or fs col [])) same holds)
    | inr past ↦ later (omega (arith, past))
  ]
]
  where
    later : length front ≤ row → ⊥
    later past =
        let same : fields_at (front ++ back) row ≡ fields_at back (row - length front) = get_or-append_right front back row [] past in
        second (row - length front) col (subst (λ fs. col < length fs) same within) (subst (λ fs. P (get_or fs col [])) same holds)
