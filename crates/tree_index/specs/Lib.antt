pub mod Changes
pub mod Indexes
pub mod Rectangles
pub mod Trees
