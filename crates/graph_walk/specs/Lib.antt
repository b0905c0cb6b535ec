pub mod Calls
pub mod Gathers
pub mod Graphs
pub mod Laws
pub mod Paths
pub mod Series
pub mod Starts
pub mod Walks
