pub mod AxisLemmas
pub mod ChainLemmas
pub mod Crossings
pub mod EdgeLemmas
mod FlipLemmas
pub mod JoinLemmas
pub mod JoinedLemmas
pub mod LawLemmas
mod NeighbourLemmas
pub mod PartLemmas
mod PartShapes
mod QueryLemmas
pub mod RectangleLemmas
mod ReferredLemmas
mod SplitLemmas
pub mod UnionLemmas
pub mod WithinLemmas
