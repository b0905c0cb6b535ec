use Rattle.std.proofs.Common.{◌∙◌, ap, subst, sym}
use Rattle.value_core.specs.declared.value.Value.TheVariants.{Empty, Number, Truth, Error, Label}
use Rattle.sheet_model.specs.Words.{IsCodeWord, cell_state}
use Rattle.sheet_model.proofs.WordLemmas.{state_of_code, code_is_word}
use Rattle.sheet_model.proofs.eval.first_word.Goals as goal

pub returns-in-Empty-clause-state : goal.returns-in-Empty-clause-state
returns-in-Empty-clause-state c = rw c.in-Empty.is (ap cell_state c.code.ensures.code ∙ state_of_code Empty c.code.ensures.value)

pub returns-in-Empty-clause-word : goal.returns-in-Empty-clause-word
returns-in-Empty-clause-word c = subst IsCodeWord (sym c.code.ensures.code) (code_is_word Empty c.code.ensures.value)

pub returns-in-Number-clause-state : goal.returns-in-Number-clause-state
returns-in-Number-clause-state c = rw c.in-Number.is (ap cell_state c.code-in-Number.ensures.code
    ∙ state_of_code (Number c.in-Number.number) c.code-in-Number.ensures.value)

pub returns-in-Number-clause-word : goal.returns-in-Number-clause-word
returns-in-Number-clause-word c = subst IsCodeWord (sym c.code-in-Number.ensures.code) (code_is_word (Number c.in-Number.number) c.code-in-Number.ensures.value)

pub returns-in-Truth-clause-state : goal.returns-in-Truth-clause-state
returns-in-Truth-clause-state c = rw c.in-Truth.is (ap cell_state c.code-in-Truth.ensures.code
    ∙ state_of_code (Truth c.in-Truth.truth) c.code-in-Truth.ensures.value)

pub returns-in-Truth-clause-word : goal.returns-in-Truth-clause-word
returns-in-Truth-clause-word c = subst IsCodeWord (sym c.code-in-Truth.ensures.code) (code_is_word (Truth c.in-Truth.truth) c.code-in-Truth.ensures.value)

pub returns-in-Error-clause-state : goal.returns-in-Error-clause-state
returns-in-Error-clause-state c = rw c.in-Error.is (ap cell_state c.code-in-Error.ensures.code
    ∙ state_of_code (Error c.in-Error.kind) c.code-in-Error.ensures.value)

pub returns-in-Error-clause-word : goal.returns-in-Error-clause-word
returns-in-Error-clause-word c = subst IsCodeWord (sym c.code-in-Error.ensures.code) (code_is_word (Error c.in-Error.kind) c.code-in-Error.ensures.value)

pub returns-in-Label-clause-state : goal.returns-in-Label-clause-state
returns-in-Label-clause-state c = rw c.in-Label.is (ap cell_state c.code-in-Label.ensures.code
    ∙ state_of_code (Label c.in-Label.place) c.code-in-Label.ensures.value)

pub returns-in-Label-clause-word : goal.returns-in-Label-clause-word
returns-in-Label-clause-word c = subst IsCodeWord (sym c.code-in-Label.ensures.code) (code_is_word (Label c.in-Label.place) c.code-in-Label.ensures.value)
