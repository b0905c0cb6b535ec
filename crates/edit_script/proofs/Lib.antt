mod BatchLemmas
mod FindLemmas
pub mod LineLemmas
pub mod NameLemmas
mod OneFault
pub mod OneLine
pub mod OneResult
pub mod OneScript
pub mod OrderLemmas
mod ReadLemmas
pub mod SpaceLemmas
mod StateLemmas
mod TableLemmas
pub mod TakeLemmas
mod WayLemmas
