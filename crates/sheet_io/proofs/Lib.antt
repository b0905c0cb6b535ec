pub mod Prefixes
mod Streams
mod Readings
mod CutLemmas
