mod BookLemmas
pub mod CycleLemmas
pub mod InputLemmas
mod ListingLemmas
mod PairLemmas
pub mod PlaceLemmas
mod RefusalLemmas
mod ReplaceLemmas
mod RowLemmas
mod RunLemmas
mod Sent
pub mod TouchLemmas
pub mod ValueLemmas
mod WaitingLemmas
