mod BlockLemmas
mod CircularFunctions
pub mod CircularMeaning
mod ClipLemmas
mod Divisions
pub mod FormulaInRange
mod InRange
mod MachineLemmas
pub mod MeaningLemmas
mod Named
mod OneMoreLemmas
pub mod NodeLemmas
mod PendingLemmas
mod ScanLemmas
mod TallyLemmas
mod ViewLemmas
mod RangeLemmas
