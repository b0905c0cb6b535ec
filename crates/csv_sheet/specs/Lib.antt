pub mod Ahead
pub mod Filling
pub mod Headings
pub mod Lines
pub mod Reading
pub mod Records
pub mod Results
