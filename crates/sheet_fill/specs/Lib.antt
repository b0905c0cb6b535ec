pub mod FillLaws
pub mod FillRows
pub mod FilledRuns
pub mod FilledTexts
pub mod Filling
pub mod MovedReferences
pub mod ReadBack
pub mod Singles
