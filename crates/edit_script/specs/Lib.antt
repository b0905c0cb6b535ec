pub mod Batches
pub mod Lines
pub mod Progress
pub mod Saying
pub mod Scripts
