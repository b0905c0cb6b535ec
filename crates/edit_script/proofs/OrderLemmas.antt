-- What a word and what stands behind it say, word by word.
use Rattle.std.proofs.Common.{◌≡◌, ◌≢◌, ◌∙◌, ℕ, List, get_or, refl, sym, ap, arith}
use Rattle.std.specs.Prelude.{codes}
use Rattle.sheet_refs.specs.Cells.{Position, Corners}
use Rattle.sheet_refs.specs.Names.{IsCellName, IsRangeName}
use Rattle.edit_script.specs.Lines.{LineValue, Client, Set, Clear, Look, Firm, Work, IsOrder, IsClientName, SetsCell, IsTurns}
use Rattle.edit_script.specs.Lines.IsOrder.{client, set, clear, look, firm, work}

-- two texts that differ at a place are not one
apart : (place : ℕ) (word a b : List ℕ) → word ≡ a → word ≡ b → get_or a place 0 ≢ get_or b place 0 → ⊥
apart place word a b one two differ = differ (ap (λ l. get_or l place 0) (sym one ∙ two))

pub says_client : (word behind : List ℕ) (value : LineValue) → word ≡ codes "client" → IsOrder word behind value → (value ≡ Client behind) × IsClientName behind
says_client word _ _ is (client _ name w is_name) = (refl, is_name)
says_client word _ _ is (set _ text content cell w sets) = absurd (apart 0 word (codes "client") (codes "set") is w (λ e. omega (arith, e)))
says_client word _ _ is (clear _ name cell w is_name) = absurd (apart 2 word (codes "client") (codes "clear") is w (λ e. omega (arith, e)))
says_client word _ _ is (look _ name range w is_name) = absurd (apart 0 word (codes "client") (codes "look") is w (λ e. omega (arith, e)))
says_client word _ _ is (firm _ name range w is_name) = absurd (apart 0 word (codes "client") (codes "firm") is w (λ e. omega (arith, e)))
says_client word _ _ is (work _ digits turns w is_turns) = absurd (apart 0 word (codes "client") (codes "work") is w (λ e. omega (arith, e)))

pub says_set : (word behind : List ℕ) (value : LineValue) → word ≡ codes "set" → IsOrder word behind value
    → (cell : Position) × (content : List ℕ) × (value ≡ Set cell content) × SetsCell behind cell content
says_set word _ _ is (client _ name w is_name) = absurd (apart 0 word (codes "set") (codes "client") is w (λ e. omega (arith, e)))
says_set word _ _ is (set _ text content cell w sets) = (cell, content, refl, sets)
says_set word _ _ is (clear _ name cell w is_name) = absurd (apart 0 word (codes "set") (codes "clear") is w (λ e. omega (arith, e)))
says_set word _ _ is (look _ name range w is_name) = absurd (apart 0 word (codes "set") (codes "look") is w (λ e. omega (arith, e)))
says_set word _ _ is (firm _ name range w is_name) = absurd (apart 0 word (codes "set") (codes "firm") is w (λ e. omega (arith, e)))
says_set word _ _ is (work _ digits turns w is_turns) = absurd (apart 0 word (codes "set") (codes "work") is w (λ e. omega (arith, e)))

pub says_clear : (word behind : List ℕ) (value : LineValue) → word ≡ codes "clear" → IsOrder word behind value
    → (cell : Position) × (value ≡ Clear cell) × IsCellName behind cell
says_clear word _ _ is (client _ name w is_name) = absurd (apart 2 word (codes "clear") (codes "client") is w (λ e. omega (arith, e)))
says_clear word _ _ is (set _ text content cell w sets) = absurd (apart 0 word (codes "clear") (codes "set") is w (λ e. omega (arith, e)))
says_clear word _ _ is (clear _ name cell w is_name) = (cell, refl, is_name)
says_clear word _ _ is (look _ name range w is_name) = absurd (apart 0 word (codes "clear") (codes "look") is w (λ e. omega (arith, e)))
says_clear word _ _ is (firm _ name range w is_name) = absurd (apart 0 word (codes "clear") (codes "firm") is w (λ e. omega (arith, e)))
says_clear word _ _ is (work _ digits turns w is_turns) = absurd (apart 0 word (codes "clear") (codes "work") is w (λ e. omega (arith, e)))

pub says_look : (word behind : List ℕ) (value : LineValue) → word ≡ codes "look" → IsOrder word behind value
    → (range : Corners) × (value ≡ Look range) × IsRangeName behind range
says_look word _ _ is (client _ name w is_name) = absurd (apart 0 word (codes "look") (codes "client") is w (λ e. omega (arith, e)))
says_look word _ _ is (set _ text content cell w sets) = absurd (apart 0 word (codes "look") (codes "set") is w (λ e. omega (arith, e)))
says_look word _ _ is (clear _ name cell w is_name) = absurd (apart 0 word (codes "look") (codes "clear") is w (λ e. omega (arith, e)))
says_look word _ _ is (look _ name range w is_name) = (range, refl, is_name)
says_look word _ _ is (firm _ name range w is_name) = absurd (apart 0 word (codes "look") (codes "firm") is w (λ e. omega (arith, e)))
says_look word _ _ is (work _ digits turns w is_turns) = absurd (apart 0 word (codes "look") (codes "work") is w (λ e. omega (arith, e)))

pub says_firm : (word behind : List ℕ) (value : LineValue) → word ≡ codes "firm" → IsOrder word behind value
    → (range : Corners) × (value ≡ Firm range) × IsRangeName behind range
says_firm word _ _ is (client _ name w is_name) = absurd (apart 0 word (codes "firm") (codes "client") is w (λ e. omega (arith, e)))
says_firm word _ _ is (set _ text content cell w sets) = absurd (apart 0 word (codes "firm") (codes "set") is w (λ e. omega (arith, e)))
says_firm word _ _ is (clear _ name cell w is_name) = absurd (apart 0 word (codes "firm") (codes "clear") is w (λ e. omega (arith, e)))
says_firm word _ _ is (look _ name range w is_name) = absurd (apart 0 word (codes "firm") (codes "look") is w (λ e. omega (arith, e)))
says_firm word _ _ is (firm _ name range w is_name) = (range, refl, is_name)
says_firm word _ _ is (work _ digits turns w is_turns) = absurd (apart 0 word (codes "firm") (codes "work") is w (λ e. omega (arith, e)))

pub says_work : (word behind : List ℕ) (value : LineValue) → word ≡ codes "work" → IsOrder word behind value
    → (turns : ℕ) × (value ≡ Work turns) × IsTurns behind turns
says_work word _ _ is (client _ name w is_name) = absurd (apart 0 word (codes "work") (codes "client") is w (λ e. omega (arith, e)))
says_work word _ _ is (set _ text content cell w sets) = absurd (apart 0 word (codes "work") (codes "set") is w (λ e. omega (arith, e)))
says_work word _ _ is (clear _ name cell w is_name) = absurd (apart 0 word (codes "work") (codes "clear") is w (λ e. omega (arith, e)))
says_work word _ _ is (look _ name range w is_name) = absurd (apart 0 word (codes "work") (codes "look") is w (λ e. omega (arith, e)))
says_work word _ _ is (firm _ name range w is_name) = absurd (apart 0 word (codes "work") (codes "firm") is w (λ e. omega (arith, e)))
says_work word _ _ is (work _ digits turns w is_turns) = (turns, refl, is_turns)

-- any other word says nothing
pub says_nothing : (word behind : List ℕ) (value : LineValue) → word ≢ codes "client" → word ≢ codes "set"
    → word ≢ codes "clear" → word ≢ codes "look" → word ≢ codes "firm" → word ≢ codes "work"
    → ¬ IsOrder word behind value
says_nothing word _ _ other _ _ _ _ _ (client _ name w is_name) = other w
says_nothing word _ _ _ other _ _ _ _ (set _ text content cell w sets) = other w
says_nothing word _ _ _ _ other _ _ _ (clear _ name cell w is_name) = other w
says_nothing word _ _ _ _ _ other _ _ (look _ name range w is_name) = other w
says_nothing word _ _ _ _ _ _ other _ (firm _ name range w is_name) = other w
says_nothing word _ _ _ _ _ _ _ other (work _ digits turns w is_turns) = other w
