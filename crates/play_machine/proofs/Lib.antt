pub mod FitLemmas
mod CountLemmas
mod EditedLemmas
mod MarkLemmas
pub mod OnePlay
mod PlayLemmas
mod QueueLemmas
mod ReadyLemmas
mod TouchedLemmas
mod TurnLemmas
mod WaiterLemmas
