pub mod Axes
pub mod Edges
pub mod Indices
pub mod Joins
pub mod Laws
pub mod Queries
