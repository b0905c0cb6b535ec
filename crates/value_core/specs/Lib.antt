pub mod Codes
pub mod Conversions
pub mod Decoding
pub mod Laws
pub mod Operators
pub mod Powers
pub mod Values
pub mod Wholes
