pub mod ArithmeticLemmas
mod CodeLemmas
pub mod InRange
