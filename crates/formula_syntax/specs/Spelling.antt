-- The grammar of formulas: which text spells which tree.
use Rattle.std.specs.Prelude.{◌≡◌, ℕ, ◌+◌, ◌<◌, ◌≤◌, List, ◌∷◌, ◌++◌, codes, count_by, length, take, ◌==◌, Bool, true, false, Result, Ok, Err}
use Rattle.formula_syntax.specs.declared.tokens.Token.{Token}
use Rattle.formula_syntax.specs.declared.edition.Edition.{Edition}
use Rattle.formula_syntax.specs.declared.edition.Edition.TheVariants.{One, Two}
use Rattle.formula_syntax.specs.Editions.{IsWithin}
use Rattle.formula_syntax.specs.Lexing.{HasTokens}
use Rattle.formula_syntax.specs.Grammar.{Derives}
use Rattle.formula_syntax.specs.Tree.{Tree, references_of}
use Rattle.formula_syntax.specs.Printing.{plain as plain_text}
use Rattle.formula_syntax.specs.declared.tokens.Token.TheVariants as token
use Rattle.formula_syntax.specs.declared.parser.Unread.{Unread}
use Rattle.formula_syntax.specs.declared.parser.Unread.TheVariants as unread
use Rattle.formula_syntax.specs.declared.reader.ReadRefused.{ReadRefused}
use Rattle.formula_syntax.specs.declared.reader.ReadRefused.TheVariants.{NotFormula, TooDeep, TooManyRefs, Memory}

-- what a formula begins with: `=`, or `of:=`
pub data IsIntroduced : List ℕ → List ℕ → Type 0 where
  plain : (text rest : List ℕ) → text ≡ 61 ∷ rest → IsIntroduced text rest
  prefixed : (text rest : List ℕ) → text ≡ codes "of:=" ++ rest → IsIntroduced text rest

-- a text has no such beginning
abbrev pub HasNoIntroduction : List ℕ → Type 0
HasNoIntroduction text = (rest : List ℕ) → ¬ IsIntroduced text rest

-- a text spells a tree where the tokens behind its introduction derive the tree
pub record Spells (text : List ℕ) (tree : Tree) : Type 0 where
  pub rest : List ℕ
  pub introduced : IsIntroduced text rest
  pub tokens : List Token
  pub has_tokens : HasTokens rest tokens
  pub derived : Derives 0 tokens tree

-- some front of the text opens more than 64 parentheses that it doesn't close
abbrev pub IsTooDeep : List ℕ → Type 0
IsTooDeep text = (front : ℕ) × (count_by (λ b. b == 41) (take front text) + 64 < count_by (λ b. b == 40) (take front text))

-- a text spells a tree in an edition where the edition has all functions of the tree
pub record SpellsIn (edition : Edition) (text : List ℕ) (tree : Tree) : Type 0 where
  pub spelt : Spells text tree
  pub within : IsWithin edition tree

-- a text that isn't too deep and spells no tree in an edition
abbrev pub IsNoFormula : Edition → List ℕ → Type 0
IsNoFormula edition text = (¬ IsTooDeep text) × ((tree : Tree) → ¬ SpellsIn edition text tree)

-- a text that isn't too deep and spells a tree with more than 255 references
abbrev pub HasTooManyRefs : Edition → List ℕ → Type 0
HasTooManyRefs edition text = (¬ IsTooDeep text) × (tree : Tree) × SpellsIn edition text tree × (255 < length (references_of tree))

-- a tree that a text spells in an edition, within the limits
pub record IsRead (edition : Edition) (text : List ℕ) (tree : Tree) : Type 0 where
  pub shallow : ¬ IsTooDeep text
  pub spelt : Spells text tree
  pub within : IsWithin edition tree
  pub few : length (references_of tree) ≤ 255

-- what a reader answers, by its cause
abbrev pub IsAnswer : Edition → List ℕ → Result Tree ReadRefused → Type 0
IsAnswer edition text (Ok tree) = IsRead edition text tree
IsAnswer edition text (Err NotFormula) = IsNoFormula edition text
IsAnswer edition text (Err TooDeep) = IsTooDeep text
IsAnswer edition text (Err TooManyRefs) = HasTooManyRefs edition text
IsAnswer edition text (Err Memory) = Unit {0}

-- a reference among tokens
abbrev pub is_reference_token : Token → Bool
is_reference_token (token.Reference r) = true
is_reference_token _ = false

-- how a refusal of the tokens is handed on
abbrev pub refusal_of : Unread → ReadRefused
refusal_of unread.NotFormula = NotFormula
refusal_of unread.Memory = Memory

-- no text spells two trees
abbrev pub SpellsOneTree : Type 0
SpellsOneTree = (text : List ℕ) (a b : Tree) → Spells text a → Spells text b → a ≡ b

-- the plain text of each tree that a text spells, spells it too
abbrev pub PlainSpells : Type 0
PlainSpells = (text : List ℕ) (tree : Tree) → Spells text tree → Spells (plain_text tree) tree

-- the plain text of each tree that a text spells is no longer than that text, and no deeper
abbrev pub PlainIsShortest : Type 0
PlainIsShortest = (text : List ℕ) (tree : Tree) → Spells text tree → length (plain_text tree) ≤ length text

abbrev pub PlainIsShallowest : Type 0
PlainIsShallowest = (text : List ℕ) (tree : Tree) → Spells text tree → IsTooDeep (plain_text tree) → IsTooDeep text

-- so it is read where that text is, in the same edition
abbrev pub PlainIsRead : Type 0
PlainIsRead = (edition : Edition) (text : List ℕ) (tree : Tree) → IsRead edition text tree → IsRead edition (plain_text tree) tree

-- what edition 1 reads, edition 2 reads as the same tree
abbrev pub EditionsGrow : Type 0
EditionsGrow = (text : List ℕ) (tree : Tree) → IsRead One text tree → IsRead Two text tree
