mod ApplyLemmas
mod BlockLemmas
mod BoardLemmas
mod BudgetLemmas
pub mod ContentLemmas
pub mod ChangeLemmas
mod CycleLemmas
pub mod DistinctLemmas
pub mod EditLemmas
mod ErrorNames
mod FieldLemmas
mod HonestLemmas
mod KeptLemmas
pub mod LabelLemmas
mod LeftLemmas
pub mod ListLemmas
pub mod ListMembers
pub mod LogLemmas
mod LineLemmas
mod LookLemmas
pub mod LoopLemmas
pub mod PartLemmas
pub mod RangeLemmas
mod ReadyLemmas
mod ResultLemmas
pub mod SameSheets
pub mod SheetLemmas
pub mod SheetValues
mod SettleLemmas
mod StepLemmas
pub mod TableLemmas
mod TurnLemmas
pub mod ValueLemmas
mod WalkLemmas
mod WordLemmas
mod WorkedRows
mod WrittenLemmas
