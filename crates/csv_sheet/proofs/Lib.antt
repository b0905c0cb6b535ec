mod AheadLemmas
mod FieldLemmas
mod FillLemmas
mod LineLemmas
mod LoadLemmas
mod MarkLemmas
mod RecordLemmas
pub mod ResultLemmas
mod RowLemmas
mod SomeResult
mod WayLemmas
