mod BandLemmas
mod BandLoops
pub mod ColumnLemmas
pub mod EndLemmas
mod GapLemmas
pub mod Grid
pub mod NameLemmas
pub mod Overlaps
mod PartLemmas
pub mod Places
pub mod PrintLemmas
pub mod RunLemmas
mod SpanLemmas
mod Subtraction
pub mod Tiles
pub mod VerticalRuns
