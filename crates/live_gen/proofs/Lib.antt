mod DrawLemmas
pub mod FillLemmas
mod OrderLemmas
mod RowLemmas
pub mod RunLemmas
mod ScriptLemmas
mod SumLemmas
mod SwapLemmas
mod TextLemmas
