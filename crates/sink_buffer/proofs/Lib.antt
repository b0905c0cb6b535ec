pub mod PassLemmas
pub mod SendLemmas
