mod Fitting
mod Complete
mod Depths
pub mod Measures
pub mod Printed
mod Rebuildings
mod PrintedWords
pub mod Shifts
mod Flatter
mod Shorter
mod Signs
pub mod TokenLemmas
mod LeftLemmas
mod Lengths
mod Lexemes
pub mod Listings
mod Sound
pub mod Spells
mod Steps
pub mod WordLemmas
pub mod Withins
