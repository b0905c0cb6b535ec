pub mod CallLemmas
pub mod GatherLemmas
pub mod PathLemmas
mod WalkLemmas
