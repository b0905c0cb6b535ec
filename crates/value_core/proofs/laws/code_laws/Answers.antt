use Rattle.value_core.specs.Decoding.{value_of_its_code}
use Rattle.value_core.proofs.CodeLemmas.{code_not_spare, number_of_its_code, number_by_kind}
use Rattle.value_core.proofs.laws.code_laws.Goals as goal

pub returns : goal.returns
returns c = record {
  decoded = value_of_its_code;
  spare = λ v is. code_not_spare v;
  numbers = number_of_its_code;
  others = number_by_kind;
}
