mod CallLemmas
pub mod ChangeLemmas
pub mod DistinctLemmas
pub mod EntryLemmas
mod FoundLemmas
mod GridLemmas
mod LawLemmas
mod NearLemmas
mod SlotLemmas
pub mod TableLemmas
mod TakeLemmas
pub mod RangeLemmas
