pub mod Changes
pub mod Quotes
pub mod Reports
pub mod Texts
pub mod Told
pub mod Transcripts
