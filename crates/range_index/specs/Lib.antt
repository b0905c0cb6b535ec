pub mod Changes
pub mod Entries
pub mod Grids
pub mod Laws
pub mod Lists
