-- What a line says is one thing.
use Rattle.std.proofs.Common.{◌≡◌, ◌≢◌, ◌∙◌, ◌≤◌, ℕ, suc, List, [], ◌∷◌, ◌++◌, length, get_or, refl, sym, ap, subst, arith}
use Rattle.std.specs.Prelude.{codes}
use Rattle.sheet_refs.specs.Cells.{Position}
use Rattle.sheet_refs.specs.Names.{IsCellName}
use Rattle.sheet_refs.proofs.NameLemmas.{one_cell, one_range}
use Rattle.edit_script.specs.Lines.{LineValue, Set, Clear, Look, Firm, Work, IsLineOf, IsOrder, IsSpaced, IsTurns, Says, SetsCell}
use Rattle.edit_script.specs.Lines.IsLineOf.{empty, comment, begins, ends, order}
use Rattle.edit_script.specs.Lines.IsOrder.{client, set, clear, look, firm, work}
use Rattle.edit_script.specs.declared.script.Mode.{Mode}
use Rattle.edit_script.proofs.LineLemmas.{batch_space, end_space, spaced_not, word_space}
use Rattle.edit_script.proofs.OrderLemmas.{says_client, says_set, says_clear, says_look, says_firm, says_work}
use Rattle.edit_script.proofs.SpaceLemmas.{HasNoSpace, cell_name_space}

-- a text has one first space
one_split : (a b c d : List ℕ) → HasNoSpace a → HasNoSpace c → a ++ 32 ∷ b ≡ c ++ 32 ∷ d → (a ≡ c) × (b ≡ d)
one_split [] b [] d none_a none_c same = (refl, cc)
one_split [] b (y ∷ c) d none_a none_c same = absurd (none_c 0 (omega arith) (let first : y ≡ 32 = cc in first))
one_split (x ∷ a) b [] d none_a none_c same = absurd (none_a 0 (omega arith) (let first : x ≡ 32 = cc in first))
one_split (x ∷ a) b (y ∷ c) d none_a none_c same =
    let first : x ≡ y = cc in
    let others : a ++ 32 ∷ b ≡ c ++ 32 ∷ d = cc in
    let rest = one_split a b c d (λ i within. none_a (suc i) (omega (arith, within))) (λ i within. none_c (suc i) (omega (arith, within))) others in
    ((λ i. first i ∷ rest.0 i), rest.1)

one_set : (text : List ℕ) (a b : Position) (c d : List ℕ) → SetsCell text a c → SetsCell text b d → Set a c ≡ Set b d
one_set text a b c d x y =
    let parts = one_split x.name c y.name d (cell_name_space x.name a x.names) (cell_name_space y.name b y.names) (sym x.text_is ∙ y.text_is) in
    let cell : a ≡ b = one_cell x.name a b x.names (subst (λ n. IsCellName n b) (sym parts.0) y.names) in
    let content : c ≡ d = parts.1 in
    λ i. Set (cell i) (content i)

one_order : (word behind : List ℕ) (a b : LineValue) → IsOrder word behind a → IsOrder word behind b → a ≡ b
one_order word _ _ b (client _ name w is_name) other = sym (says_client word name b w other).0
one_order word _ _ b (set _ text content cell w sets) other =
    let said = says_set word text b w other in
    one_set text cell said.0 content said.1 sets said.3 ∙ sym said.2
one_order word _ _ b (clear _ name cell w is_name) other =
    let said = says_clear word name b w other in
    ap Clear (one_cell name cell said.0 is_name said.2) ∙ sym said.1
one_order word _ _ b (look _ name range w is_name) other =
    let said = says_look word name b w other in
    ap Look (one_range name range said.0 is_name said.2) ∙ sym said.1
one_order word _ _ b (firm _ name range w is_name) other =
    let said = says_firm word name b w other in
    ap Firm (one_range name range said.0 is_name said.2) ∙ sym said.1
one_order word _ _ b (work _ digits turns w is_turns) other =
    let said = says_work word digits b w other in
    let theirs : IsTurns digits said.0 = said.2 in
    ap Work (is_turns.number.value ∙ sym theirs.number.value) ∙ sym said.1

-- a word begins with a letter
word_first : (word behind : List ℕ) (value : LineValue) → IsOrder word behind value → (first : ℕ) × (rest : List ℕ) × (word ≡ first ∷ rest) × (97 ≤ first)
word_first word _ _ (client _ name w is_name) = (99, codes "lient", w, omega arith)
word_first word _ _ (set _ text content cell w sets) = (115, codes "et", w, omega arith)
word_first word _ _ (clear _ name cell w is_name) = (99, codes "lear", w, omega arith)
word_first word _ _ (look _ name range w is_name) = (108, codes "ook", w, omega arith)
word_first word _ _ (firm _ name range w is_name) = (102, codes "irm", w, omega arith)
word_first word _ _ (work _ digits turns w is_turns) = (119, codes "ork", w, omega arith)

-- so a line of an order is not empty, and no comment
order_some : (line word behind : List ℕ) (value : LineValue) → IsSpaced word behind line → IsOrder word behind value → line ≢ []
order_some line word behind value is said none =
    let (first, rest, starts, low) = word_first word behind value said in
    let whole : first ∷ (rest ++ 32 ∷ behind) ≡ [] = ap (λ w. w ++ 32 ∷ behind) (sym starts) ∙ sym is ∙ none in
    let long : suc (length (rest ++ 32 ∷ behind)) ≡ 0 = ap length whole in
    omega (arith, long)

order_no_comment : (line word behind rest : List ℕ) (value : LineValue) → IsSpaced word behind line → IsOrder word behind value → line ≢ 35 ∷ rest
order_no_comment line word behind others value is said hash =
    let (first, rest, starts, low) = word_first word behind value said in
    let whole : first ∷ (rest ++ 32 ∷ behind) ≡ 35 ∷ others = ap (λ w. w ++ 32 ∷ behind) (sym starts) ∙ sym is ∙ hash in
    let same : first ≡ 35 = ap (λ l. get_or l 0 0) whole in
    omega (arith, low, same)

-- a text is not two
not_two : (line a b : List ℕ) → line ≡ a → line ≡ b → (get_or a 0 0 ≡ get_or b 0 0 → ⊥) → ⊥
not_two line a b is other apart = apart (ap (λ l. get_or l 0 0) (sym is ∙ other))

one_line : (line : List ℕ) (a b : LineValue) → IsLineOf line a → IsLineOf line b → a ≡ b
one_line line _ _ (empty _ none) (empty _ none') = refl
one_line line _ _ (empty _ none) (comment _ rest' hash') = refl
one_line line _ _ (empty _ none) (begins _ is') = absurd (not_two line [] (codes "batch") none is' (λ same. omega (arith, same)))
one_line line _ _ (empty _ none) (ends _ is') = absurd (not_two line [] (codes "end") none is' (λ same. omega (arith, same)))
one_line line _ b (empty _ none) (order _ word behind _ spaced said) = absurd (order_some line word behind b spaced said none)
one_line line _ _ (comment _ rest hash) (empty _ none') = refl
one_line line _ _ (comment _ rest hash) (comment _ rest' hash') = refl
one_line line _ _ (comment _ rest hash) (begins _ is') = absurd (not_two line (35 ∷ rest) (codes "batch") hash is' (λ same. omega (arith, same)))
one_line line _ _ (comment _ rest hash) (ends _ is') = absurd (not_two line (35 ∷ rest) (codes "end") hash is' (λ same. omega (arith, same)))
one_line line _ b (comment _ rest hash) (order _ word behind _ spaced said) = absurd (order_no_comment line word behind rest b spaced said hash)
one_line line _ _ (begins _ is) (empty _ none') = absurd (not_two line (codes "batch") [] is none' (λ same. omega (arith, same)))
one_line line _ _ (begins _ is) (comment _ rest' hash') = absurd (not_two line (codes "batch") (35 ∷ rest') is hash' (λ same. omega (arith, same)))
one_line line _ _ (begins _ is) (begins _ is') = refl
one_line line _ _ (begins _ is) (ends _ is') = absurd (not_two line (codes "batch") (codes "end") is is' (λ same. omega (arith, same)))
one_line line _ b (begins _ is) (order _ word behind _ spaced said) = absurd (spaced_not (codes "batch") word behind batch_space (sym is ∙ spaced))
one_line line _ _ (ends _ is) (empty _ none') = absurd (not_two line (codes "end") [] is none' (λ same. omega (arith, same)))
one_line line _ _ (ends _ is) (comment _ rest' hash') = absurd (not_two line (codes "end") (35 ∷ rest') is hash' (λ same. omega (arith, same)))
one_line line _ _ (ends _ is) (begins _ is') = absurd (not_two line (codes "end") (codes "batch") is is' (λ same. omega (arith, same)))
one_line line _ _ (ends _ is) (ends _ is') = refl
one_line line _ b (ends _ is) (order _ word behind _ spaced said) = absurd (spaced_not (codes "end") word behind end_space (sym is ∙ spaced))
one_line line a _ (order _ word behind _ is said) (empty _ none) = absurd (order_some line word behind a is said none)
one_line line a _ (order _ word behind _ is said) (comment _ rest hash) = absurd (order_no_comment line word behind rest a is said hash)
one_line line a _ (order _ word behind _ spaced said) (begins _ is) = absurd (spaced_not (codes "batch") word behind batch_space (sym is ∙ spaced))
one_line line a _ (order _ word behind _ spaced said) (ends _ is) = absurd (spaced_not (codes "end") word behind end_space (sym is ∙ spaced))
one_line line a b (order _ word behind _ is said) (order _ word' behind' _ is' said') =
    let parts = one_split word behind word' behind' (word_space word behind a said) (word_space word' behind' b said') (sym is ∙ is') in
    let again : IsOrder word behind b = subst (λ w. IsOrder w behind b) (sym parts.0) (subst (λ t. IsOrder word' t b) (sym parts.1) said') in
    one_order word behind a b said again

pub one_saying : (mode : Mode) (text : List ℕ) (a b : LineValue) → Says mode text a → Says mode text b → a ≡ b
one_saying mode text a b x y = one_line text a b x.0 y.0
