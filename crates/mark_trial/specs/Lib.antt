pub mod TwoTestCells
pub mod Threads
