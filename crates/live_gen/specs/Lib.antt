pub mod Apart
pub mod Draws
pub mod Filling
pub mod Generated
pub mod Laws
pub mod Rows
pub mod Sums
