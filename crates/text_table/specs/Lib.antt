pub mod Filing
pub mod Tables
