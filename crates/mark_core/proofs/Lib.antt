pub mod Prefixes
mod Stores
mod Frames
mod Places
mod Holds
mod HoldLaws
pub mod ReadLemmas
pub mod ViewLemmas
mod Lists
mod Steps
mod WorkSteps
mod Opening
pub mod Runs
mod FloorLemmas
mod KeptLemmas
mod JudgeLemmas
pub mod ReadLaws
mod TwoReads
mod GrowthLemmas
