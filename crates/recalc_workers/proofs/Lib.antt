mod AgainLemmas
mod CauseLemmas
mod HandLemmas
mod LawLemmas
pub mod LevelLemmas
mod ListedLemmas
mod LookupLemmas
mod OfferLemmas
pub mod PartLemmas
mod PlainLemmas
mod QueueLemmas
pub mod ReadingLemmas
pub mod SeatLemmas
mod SettleLawLemmas
pub mod SettlingLemmas
pub mod SharingLemmas
mod SideLemmas
mod TurnLawLemmas
pub mod VisitLemmas
mod WorkLemmas
mod WorthLemmas
