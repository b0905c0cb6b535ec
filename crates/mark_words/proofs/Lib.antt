mod TableLemmas
mod StepLemmas
mod OrderLemmas
mod WordLemmas
mod SightLemmas
mod RunLemmas
mod SeeSteps
mod ViewSteps
pub mod ReadSteps
mod WorkSteps
mod SeatSteps
mod EditSteps
mod EditorMarkLemmas
pub mod TokenLemmas
mod Meets
mod OpeningLemmas
pub mod CloseLemmas
