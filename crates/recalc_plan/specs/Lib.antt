pub mod Laws
pub mod Opens
pub mod Planning
pub mod Plans
pub mod Taking
