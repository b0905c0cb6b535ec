pub mod Machine
pub mod Marking
pub mod Playing
pub mod Waiting
