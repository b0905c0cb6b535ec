mod ChangeLemmas
mod EdgesLemmas
mod QuoteLemmas
mod ReportLemmas
mod RowLemmas
mod RunsLemmas
mod StopLemmas
pub mod ToldCells
pub mod ToldChanges
mod ToldEntries
pub mod ToldFormulas
pub mod ToldNamed
mod ToldReports
mod ToldRows
mod ToldRuns
mod ToldSplit
mod TranscriptLemmas
